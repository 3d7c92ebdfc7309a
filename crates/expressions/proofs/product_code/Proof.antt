-- `expressions::product_code` meets its contract: a way for each operator. Assumes nothing.
use borrow.Author.Tests.{ne_eqb}
use Rattle.lexer.specs.Token.{kind_number, is}
use Rattle.grammar.specs.Expressions.{product_of}
use Rattle.expressions.proofs.product_code.Statement.{statement}
use Rattle.expressions.proofs.product_code.Tie as tie

returns : tie.Need-returns-then-kind-eq-STAR
unfolding product_of is kind_number
returns c = λ k e. rw (← e, c.if-kind-eq-STAR.true)

returns-2 : tie.Need-returns-then-kind-eq-SLASH
unfolding product_of is kind_number
returns-2 c = λ k e. rw (← e, ne_eqb _ _ c.if-kind-eq-STAR.false, c.if-kind-eq-SLASH.true)

returns-3 : tie.Need-returns-then-kind-eq-MOD
unfolding product_of is kind_number
returns-3 c = λ k e. rw (← e, ne_eqb _ _ c.if-kind-eq-STAR.false, ne_eqb _ _ c.if-kind-eq-SLASH.false, c.if-kind-eq-MOD.true)

returns-4 : tie.Need-returns
unfolding product_of is kind_number
returns-4 c = λ k e. rw (← e, ne_eqb _ _ c.if-kind-eq-STAR.false, ne_eqb _ _ c.if-kind-eq-SLASH.false, ne_eqb _ _ c.if-kind-eq-MOD.false)

pub product_code_spec : {M : Type 1} → statement M
product_code_spec = tie.close (tie.spec returns returns-2 returns-3 returns-4)
