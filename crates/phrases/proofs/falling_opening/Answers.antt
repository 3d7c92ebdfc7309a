-- `phrases::falling_opening` meets its contract: each token takes the definition one step on. Assumes nothing.
-- behind the rising formula
use mathlib.Core.List.{List, ◌∷◌}
use Prim.Native.Nat.{ℕ}
use borrow.Author.Rules.{rules}
use Rattle.lexer.specs.Token.{less, minus}
use Rattle.lexer.specs.Results.{kind_of}
use Rattle.grammar.specs.Parsed.{Wanted, sign, own}
use Rattle.grammar.specs.Forms.{turned_opening}
use Rattle.phrases.proofs.Laws.{stops, goes_on_lem, stops_in, goes_past}
use Rattle.limits.proofs.Exits.{handed_on}
use Rattle.phrases.proofs.falling_opening.Goals as goal

abbrev from_name : List ℕ → List Wanted
from_name w = own w ∷ sign minus ∷ turned_opening less w

pub returns-in_err-a : goal.returns-in_err-a
returns-in_err-a c = rw (handed_on c.from_residual.ensures c.in_err-a.was) (stops_in _ _ (from_name _) _ c.formula_closing.ensures c.in_err-a.was)

pub returns-in_err-b : goal.returns-in_err-b
returns-in_err-b c = rw (handed_on c.from_residual-in_err-b.ensures c.in_err-b.was) (goes_past _ _ _ _ c.formula_closing.ensures c.in_ok-a.was (stops _ _ _ _ c.expect_name.ensures c.in_err-b.was))

pub returns-in_err-c : goal.returns-in_err-c
unfolding kind_of
returns-in_err-c c = rw (handed_on c.from_residual-in_err-c.ensures c.in_err-c.was) (goes_past _ _ _ _ c.formula_closing.ensures c.in_ok-a.was
    (goes_on_lem _ _ _ _ c.expect_name.ensures c.in_ok-b.was (stops _ _ _ _ c.expect.ensures c.in_err-c.was)))

pub returns : goal.returns
unfolding kind_of
returns c = goes_past _ _ _ _ c.formula_closing.ensures c.in_ok-a.was
    (goes_on_lem _ _ _ _ c.expect_name.ensures c.in_ok-b.was
    (goes_on_lem _ _ _ _ c.expect.ensures c.in_ok-c.was c.turned_opening.ensures))
