-- `phrases::turned_value` meets its contract: each token takes the definition one step on. Assumes nothing.
use mathlib.Core.List.{[], ◌∷◌}
use borrow.Author.Rules.{rules}
use Rattle.lexer.specs.Token.{arrow}
use Rattle.lexer.specs.Results.{kind_of}
use Rattle.grammar.specs.Parsed.{sign}
use Rattle.phrases.proofs.Laws.{last, stops_in, goes_past}
use Rattle.limits.proofs.Exits.{handed_on}
use Rattle.phrases.proofs.turned_value.Goals as goal

pub returns-in_err-a : goal.returns-in_err-a
returns-in_err-a c = rw (handed_on c.from_residual.ensures c.in_err-a.was) (stops_in _ _ (sign arrow ∷ []) _ c.own_values.ensures c.in_err-a.was)

pub returns : goal.returns
unfolding kind_of
returns c = goes_past _ _ _ _ c.own_values.ensures c.in_ok-a.was (last _ _ _ c.expect.ensures)
