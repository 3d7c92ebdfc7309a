-- `expressions::whole_expression` meets its contract. Assumes nothing.
use borrow.Author.Rules.{rules}
use Rattle.grammar.specs.Expressions.{whole_expression}
use Rattle.expressions.proofs.whole_expression.Statement.{statement}
use Rattle.expressions.proofs.whole_expression.Tie as tie

returns : tie.Need-returns
unfolding whole_expression
returns c = c.expression.ensures

pub whole_expression_spec : {M : Type 1} → statement M
whole_expression_spec = tie.close (tie.spec (λ c κs. search rules) (λ c. search rules) returns)
