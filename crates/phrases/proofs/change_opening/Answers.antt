-- `phrases::change_opening` meets its contract: each token takes the definition one step on. Assumes nothing.
use mathlib.Core.List.{[], ◌∷◌}
use borrow.Author.Rules.{rules}
use Rattle.lexer.specs.Token.{arrow, close_round}
use Rattle.lexer.specs.Results.{kind_of}
use Rattle.grammar.specs.Parsed.{sign}
use Rattle.phrases.proofs.Laws.{stops, goes_on_lem, stops_in, goes_past}
use Rattle.limits.proofs.Exits.{handed_on}
use Rattle.phrases.proofs.change_opening.Goals as goal

pub returns-in_err-a : goal.returns-in_err-a
unfolding kind_of
returns-in_err-a c = rw (handed_on c.from_residual.ensures c.in_err-a.was) (stops _ _ _ _ c.expect.ensures c.in_err-a.was)

pub returns-in_err-b : goal.returns-in_err-b
unfolding kind_of
returns-in_err-b c = rw (handed_on c.from_residual-in_err-b.ensures c.in_err-b.was) (goes_on_lem _ _ _ _ c.expect.ensures c.in_ok-a.was
    (stops_in _ _ (sign close_round ∷ sign arrow ∷ []) _ c.own_values.ensures c.in_err-b.was))

pub returns : goal.returns
unfolding kind_of
returns c = goes_on_lem _ _ _ _ c.expect.ensures c.in_ok-a.was
    (goes_past _ _ _ _ c.own_values.ensures c.in_ok-b.was c.two_signs.ensures)
