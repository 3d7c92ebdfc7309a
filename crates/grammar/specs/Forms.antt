-- The fixed tokens of the rule forms. Document 01, "The text": `v: GX(~(v = _v) -> [c] & v = (e) | [c] & v = (e));`,
-- `v: GX(v = _v -> ~([c] | [c]));`, `v: GX(v = (e));`; document 02, A.6: `v+: GX(v > _v -> cases);`, `v-: GX(v < _v -> cases);`, A.13:
-- `watch: G([c]);`, `watch: G([c] -> X([c]));`. Assumes nothing.
use Rattle.std.specs.Prelude.{ℕ, List, [], ◌∷◌}
use Rattle.lexer.specs.Token.{Kind, next_word, always_word, after_word, arrow, semicolon, colon, open_round, close_round, open_square, tilde, ampersand, equals, less, minus}
use Rattle.grammar.specs.Parsed.{Wanted, sign, own, own_previous}

-- after a rule's name: `: GX (`
abbrev pub rule_opening : List Wanted
rule_opening = sign colon ∷ sign next_word ∷ sign open_round ∷ []

-- the end of a formula: `) ;`
abbrev pub formula_closing : List Wanted
formula_closing = sign close_round ∷ sign semicolon ∷ []

-- the end of a function: `) ) ;`
abbrev pub function_closing : List Wanted
function_closing = sign close_round ∷ formula_closing

-- before the value of the variable w: `w = (`
abbrev pub value_opening : List ℕ → List Wanted
value_opening w = own w ∷ sign equals ∷ sign open_round ∷ []

-- between the condition and the value of a case: `& w = (`
abbrev pub case_value_opening : List ℕ → List Wanted
case_value_opening w = sign ampersand ∷ value_opening w

-- `w = _w`
abbrev pub unchanged_value : List ℕ → List Wanted
unchanged_value w = own w ∷ sign equals ∷ own_previous w ∷ []

-- a change formula after `w : GX ( ~`: `( w = _w ) ->`
abbrev pub change_opening : List ℕ → List Wanted
change_opening w = sign open_round ∷ own w ∷ sign equals ∷ own_previous w ∷ sign close_round ∷ sign arrow ∷ []

-- the end of a change formula, and its no-change formula up to the list of conditions: `) ; w : GX ( w = _w -> ~ (`
abbrev pub no_change_opening : List ℕ → List Wanted
no_change_opening w =
    sign close_round ∷ sign semicolon
    ∷ own w ∷ sign colon ∷ sign next_word ∷ sign open_round ∷ own w ∷ sign equals ∷ own_previous w ∷ sign arrow ∷ sign tilde ∷ sign open_round ∷ []

-- `w > _w ->`, `w < _w ->`
abbrev pub turned_value : Kind → List ℕ → List Wanted
turned_value k w = own w ∷ sign k ∷ own_previous w ∷ sign arrow ∷ []

-- a rising formula after `w +`, a falling one after `w -`: `: GX ( w > _w ->`
abbrev pub turned_opening : Kind → List ℕ → List Wanted
turned_opening k w = sign colon ∷ sign next_word ∷ sign open_round ∷ turned_value k w

-- the end of a rising formula, and its falling formula up to the cases: `) ; w - : GX ( w < _w ->`
abbrev pub falling_opening : List ℕ → List Wanted
falling_opening w = sign close_round ∷ sign semicolon ∷ own w ∷ sign minus ∷ turned_opening less w

-- after `watch`: `: G ( [`
abbrev pub watch_opening : List Wanted
watch_opening = sign colon ∷ sign always_word ∷ sign open_round ∷ sign open_square ∷ []

-- after the `->` of a watch: `X ( [`
abbrev pub later_opening : List Wanted
later_opening = sign after_word ∷ sign open_round ∷ sign open_square ∷ []
