-- What a pair of a rising and a falling formula is read as. Document 02, A.6. Assumes nothing.
use Rattle.std.specs.Prelude.{ℕ, List, [], ◌∷◌, ◌++◌, map}
use Rattle.semantics.specs.Program.{Side, rising, falling, Case, Rule, change}

-- cases as they stand in a list, with a side
abbrev pub on_side : Side → List Case → List Case
on_side side [] = []
on_side side (k ∷ ks) = record { side = side; condition = k.condition; value = k.value } ∷ on_side side ks

-- over both lists, rising first
abbrev pub pair_cases : List Case → List Case → List Case
pair_cases ups downs = on_side rising ups ++ on_side falling downs

-- A pair is read as the change formula over both lists, rising first, with its matching no-change formula.
abbrev pub pair_rule : ℕ → List Case → List Case → Rule
pair_rule v ups downs = change v (pair_cases ups downs) (map (λ k. k.condition) (pair_cases ups downs))
