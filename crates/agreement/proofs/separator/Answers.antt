-- `agreement::separator` meets its contract. Assumes nothing.
use borrow.Author.Tests.{lt-ltb, le-ltb}
use Rattle.lexer.specs.Token.{kind_number}
use Rattle.agreement.proofs.separator.Goals as goal

pub returns-then-next-count : goal.returns-then-next-count
unfolding kind_number
returns-then-next-count c = rw (lt-ltb _ _ c.if-next-count.true)

pub returns : goal.returns
unfolding kind_number
returns c = rw (le-ltb _ _ c.if-next-count.false)
