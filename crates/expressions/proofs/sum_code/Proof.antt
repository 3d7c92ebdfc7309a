-- `expressions::sum_code` meets its contract: a way for each operator. Assumes nothing.
use borrow.Author.Tests.{ne_eqb}
use Rattle.lexer.specs.Token.{kind_number, is}
use Rattle.grammar.specs.Expressions.{sum_of}
use Rattle.expressions.proofs.sum_code.Statement.{statement}
use Rattle.expressions.proofs.sum_code.Tie as tie

returns : tie.Need-returns-then-kind-eq-PLUS
unfolding sum_of is kind_number
returns c = λ k e. rw (← e, c.if-kind-eq-PLUS.true)

returns-2 : tie.Need-returns-then-kind-eq-MINUS
unfolding sum_of is kind_number
returns-2 c = λ k e. rw (← e, ne_eqb _ _ c.if-kind-eq-PLUS.false, c.if-kind-eq-MINUS.true)

returns-3 : tie.Need-returns
unfolding sum_of is kind_number
returns-3 c = λ k e. rw (← e, ne_eqb _ _ c.if-kind-eq-PLUS.false, ne_eqb _ _ c.if-kind-eq-MINUS.false)

pub sum_code_spec : {M : Type 1} → statement M
sum_code_spec = tie.close (tie.spec returns returns-2 returns-3)
