-- `phrases::own_values` meets its contract: each token takes the definition one step on. Assumes nothing.
use borrow.Author.Rules.{rules}
use Rattle.phrases.proofs.Laws.{last, stops, goes_on_lem}
use Rattle.limits.proofs.Exits.{handed_on}
use Rattle.phrases.proofs.own_values.Goals as goal

pub returns-in_err-a : goal.returns-in_err-a
returns-in_err-a c = rw (handed_on c.from_residual.ensures c.in_err-a.was) (stops _ _ _ _ c.expect_name.ensures c.in_err-a.was)

pub returns-in_err-b : goal.returns-in_err-b
returns-in_err-b c = rw (handed_on c.from_residual-in_err-b.ensures c.in_err-b.was) (goes_on_lem _ _ _ _ c.expect_name.ensures c.in_ok-a.was (stops _ _ _ _ c.expect.ensures c.in_err-b.was))

pub returns : goal.returns
returns c = goes_on_lem _ _ _ _ c.expect_name.ensures c.in_ok-a.was (goes_on_lem _ _ _ _ c.expect.ensures c.in_ok-b.was (last _ _ _ c.expect_previous.ensures))
