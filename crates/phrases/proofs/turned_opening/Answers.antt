-- `phrases::turned_opening` meets its contract: each token takes the definition one step on. Assumes nothing.
use borrow.Author.Rules.{rules}
use Rattle.grammar.specs.Forms.{turned_value}
use Rattle.phrases.proofs.Laws.{stops_in, goes_past}
use Rattle.limits.proofs.Exits.{handed_on}
use Rattle.phrases.proofs.turned_opening.Goals as goal

pub returns-in_err-a : goal.returns-in_err-a
returns-in_err-a c = rw (handed_on c.from_residual.ensures c.in_err-a.was) (stops_in _ _ (turned_value _ _) _ c.rule_opening.ensures c.in_err-a.was)

pub returns : goal.returns
returns c = goes_past _ _ _ _ c.rule_opening.ensures c.in_ok-a.was c.turned_value.ensures
