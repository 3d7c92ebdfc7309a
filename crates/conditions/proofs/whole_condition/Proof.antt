-- `conditions::whole_condition` meets its contract. Assumes nothing.
use borrow.Author.Rules.{rules}
use Rattle.grammar.specs.Conditions.{whole_condition}
use Rattle.conditions.proofs.whole_condition.Statement.{statement}
use Rattle.conditions.proofs.whole_condition.Tie as tie

returns : tie.Need-returns
unfolding whole_condition
returns c = c.condition.ensures

pub whole_condition_spec : {M : Type 1} → statement M
whole_condition_spec = tie.close (tie.spec (λ c κs. search rules) (λ c. search rules) returns)
