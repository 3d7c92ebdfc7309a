-- `conditions::comparison_code` meets its contract: a way for each sign. Assumes nothing.
use borrow.Author.Tests.{ne_eqb}
use Rattle.lexer.specs.Token.{kind_number, is}
use Rattle.grammar.specs.Conditions.{comparison_by}
use Rattle.conditions.proofs.comparison_code.Statement.{statement}
use Rattle.conditions.proofs.comparison_code.Tie as tie

returns : tie.Need-returns-then-kind-eq-EQUALS
unfolding comparison_by is kind_number
returns c = λ k e. rw (← e, c.if-kind-eq-EQUALS.true)

returns-2 : tie.Need-returns-then-kind-eq-NOT_EQUAL
unfolding comparison_by is kind_number
returns-2 c = λ k e. rw (← e, ne_eqb _ _ c.if-kind-eq-EQUALS.false, c.if-kind-eq-NOT_EQUAL.true)

returns-3 : tie.Need-returns-then-kind-eq-LESS
unfolding comparison_by is kind_number
returns-3 c = λ k e. rw (← e, ne_eqb _ _ c.if-kind-eq-EQUALS.false, ne_eqb _ _ c.if-kind-eq-NOT_EQUAL.false, c.if-kind-eq-LESS.true)

returns-4 : tie.Need-returns-then-kind-eq-LESS_EQUAL
unfolding comparison_by is kind_number
returns-4 c =
    λ k e. rw (← e, ne_eqb _ _ c.if-kind-eq-EQUALS.false, ne_eqb _ _ c.if-kind-eq-NOT_EQUAL.false, ne_eqb _ _ c.if-kind-eq-LESS.false, c.if-kind-eq-LESS_EQUAL.true)

returns-5 : tie.Need-returns-then-kind-eq-GREATER
unfolding comparison_by is kind_number
returns-5 c =
    λ k e. rw (← e, ne_eqb _ _ c.if-kind-eq-EQUALS.false, ne_eqb _ _ c.if-kind-eq-NOT_EQUAL.false, ne_eqb _ _ c.if-kind-eq-LESS.false, ne_eqb _ _ c.if-kind-eq-LESS_EQUAL.false, c.if-kind-eq-GREATER.true)

returns-6 : tie.Need-returns-then-kind-eq-GREATER_EQUAL
unfolding comparison_by is kind_number
returns-6 c =
    λ k e. rw (← e, ne_eqb _ _ c.if-kind-eq-EQUALS.false, ne_eqb _ _ c.if-kind-eq-NOT_EQUAL.false, ne_eqb _ _ c.if-kind-eq-LESS.false, ne_eqb _ _ c.if-kind-eq-LESS_EQUAL.false, ne_eqb _ _ c.if-kind-eq-GREATER.false, c.if-kind-eq-GREATER_EQUAL.true)

returns-7 : tie.Need-returns
unfolding comparison_by is kind_number
returns-7 c =
    λ k e. rw (← e, ne_eqb _ _ c.if-kind-eq-EQUALS.false, ne_eqb _ _ c.if-kind-eq-NOT_EQUAL.false, ne_eqb _ _ c.if-kind-eq-LESS.false, ne_eqb _ _ c.if-kind-eq-LESS_EQUAL.false, ne_eqb _ _ c.if-kind-eq-GREATER.false, ne_eqb _ _ c.if-kind-eq-GREATER_EQUAL.false)

pub comparison_code_spec : {M : Type 1} → statement M
comparison_code_spec = tie.close (tie.spec returns returns-2 returns-3 returns-4 returns-5 returns-6 returns-7)
