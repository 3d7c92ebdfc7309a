-- `phrases::no_change_opening` meets its contract: each token takes the definition one step on. Assumes nothing.
use mathlib.Core.List.{List, [], ◌∷◌, ◌++◌}
use Prim.Native.Nat.{ℕ}
use Rattle.limits.proofs.Exits.{handed_on}
use Rattle.lexer.specs.Token.{arrow, open_round, tilde}
use Rattle.lexer.specs.Results.{kind_of}
use Rattle.grammar.specs.Parsed.{Wanted, sign, own}
use Rattle.grammar.specs.Forms.{rule_opening, unchanged_value}
use Rattle.phrases.proofs.Laws.{stops, goes_on_lem, stops_in, goes_past}
use Rattle.phrases.proofs.no_change_opening.Goals as goal

-- after each of them, what is left of the tokens
abbrev from_arrow : List Wanted
from_arrow = sign arrow ∷ sign tilde ∷ sign open_round ∷ []

abbrev from_value : List ℕ → List Wanted
from_value w = unchanged_value w ++ from_arrow

abbrev from_opening : List ℕ → List Wanted
from_opening w = rule_opening ++ from_value w

abbrev from_name : List ℕ → List Wanted
from_name w = own w ∷ from_opening w

pub returns-in_err-a : goal.returns-in_err-a
returns-in_err-a c = rw (handed_on c.from_residual.ensures c.in_err-a.was) (stops_in _ _ (from_name _) _ c.formula_closing.ensures c.in_err-a.was)

pub returns-in_err-b : goal.returns-in_err-b
returns-in_err-b c =
    rw (handed_on c.from_residual-in_err-b.ensures c.in_err-b.was)
    (goes_past _ _ _ _ c.formula_closing.ensures c.in_ok-a.was (stops _ _ (from_opening _) _ c.expect_name.ensures c.in_err-b.was))

pub returns-in_err-c : goal.returns-in_err-c
returns-in_err-c c =
    rw (handed_on c.from_residual-in_err-c.ensures c.in_err-c.was)
    (goes_past _ _ _ _ c.formula_closing.ensures c.in_ok-a.was
    (goes_on_lem _ _ (from_opening _) _ c.expect_name.ensures c.in_ok-b.was (stops_in _ _ (from_value _) _ c.rule_opening.ensures c.in_err-c.was)))

pub returns-in_err-d : goal.returns-in_err-d
unfolding kind_of
returns-in_err-d c =
    rw (handed_on c.from_residual-in_err-d.ensures c.in_err-d.was)
    (goes_past _ _ _ _ c.formula_closing.ensures c.in_ok-a.was
    (goes_on_lem _ _ (from_opening _) _ c.expect_name.ensures c.in_ok-b.was
    (goes_past _ _ _ _ c.rule_opening.ensures c.in_ok-c.was (stops_in _ _ from_arrow _ c.own_values.ensures c.in_err-d.was))))

pub returns : goal.returns
unfolding kind_of
returns c =
    goes_past _ _ _ _ c.formula_closing.ensures c.in_ok-a.was
    (goes_on_lem _ _ (from_opening _) _ c.expect_name.ensures c.in_ok-b.was
    (goes_past _ _ _ _ c.rule_opening.ensures c.in_ok-c.was (goes_past _ _ _ _ c.own_values.ensures c.in_ok-d.was c.three_signs.ensures)))
