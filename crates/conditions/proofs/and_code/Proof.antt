-- `conditions::and_code` meets its contract. Assumes nothing.
use borrow.Author.Tests.{ne_eqb}
use Rattle.lexer.specs.Token.{kind_number, is}
use Rattle.grammar.specs.Conditions.{and_of}
use Rattle.conditions.proofs.and_code.Statement.{statement}
use Rattle.conditions.proofs.and_code.Tie as tie

returns : tie.Need-returns-then-kind-eq-AMPERSAND
unfolding and_of is kind_number
returns c = λ k e. rw (← e, c.if-kind-eq-AMPERSAND.true)

returns-2 : tie.Need-returns
unfolding and_of is kind_number
returns-2 c = λ k e. rw (← e, ne_eqb _ _ c.if-kind-eq-AMPERSAND.false)

pub and_code_spec : {M : Type 1} → statement M
and_code_spec = tie.close (tie.spec returns returns-2)
