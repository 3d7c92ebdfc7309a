-- `expressions::minus_code` meets its contract. Assumes nothing.
use borrow.Author.Tests.{ne_eqb}
use Rattle.lexer.specs.Token.{kind_number}
use Rattle.expressions.proofs.minus_code.Statement.{statement}
use Rattle.expressions.proofs.minus_code.Tie as tie

returns : tie.Need-returns-then-kind-eq-MINUS
unfolding kind_number
returns c = rw c.if-kind-eq-MINUS.true

returns-2 : tie.Need-returns
unfolding kind_number
returns-2 c = rw (ne_eqb _ _ c.if-kind-eq-MINUS.false)

pub minus_code_spec : {M : Type 1} → statement M
minus_code_spec = tie.close (tie.spec returns returns-2)
