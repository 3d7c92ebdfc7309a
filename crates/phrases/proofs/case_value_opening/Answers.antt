-- `phrases::case_value_opening` meets its contract: each token takes the definition one step on. Assumes nothing.
use borrow.Author.Rules.{rules}
use Rattle.lexer.specs.Results.{kind_of}
use Rattle.phrases.proofs.Laws.{stops, goes_on_lem}
use Rattle.limits.proofs.Exits.{handed_on}
use Rattle.phrases.proofs.case_value_opening.Goals as goal

pub returns-in_err-a : goal.returns-in_err-a
unfolding kind_of
returns-in_err-a c = rw (handed_on c.from_residual.ensures c.in_err-a.was) (stops _ _ _ _ c.expect.ensures c.in_err-a.was)

pub returns : goal.returns
unfolding kind_of
returns c = goes_on_lem _ _ _ _ c.expect.ensures c.in_ok-a.was c.value_opening.ensures
