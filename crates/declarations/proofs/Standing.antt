-- Laws of the ranges that stand behind their names: a name more, another table with the same ends, the range of one name. Assumes nothing.
use mathlib.Core.Path.{◌≡◌, ap, ◌∙◌}
use mathlib.Core.List.{List, [], ◌∷◌, ◌++◌, map}
use Prim.Native.Nat.{ℕ, zero, suc, ◌+◌, ◌≤◌, ◌<◌}
use native.Mathlib.Omega.{arith}
use lib.ListN.{length, get_or}
use Rattle.semantics.specs.Program.{Name, range_at}
use Rattle.grammar.specs.Parsed.{accepted}
use Rattle.declarations.specs.Inner.Ranges.{declared_range}
use Rattle.declarations.specs.Inner.Tables.{RangesBehind}

-- the ends of these names are the same
pub stand_kept : (text ends ends' : List ℕ) (i : ℕ) (names : List Name) → ((j : ℕ) → i ≤ j → j < i + length names → get_or ends' j 0 ≡ get_or ends j 0)
    → RangesBehind text ends i names → RangesBehind text ends' i names
stand_kept text ends ends' i [] same h = tt
stand_kept text ends ends' i (x ∷ l) same h =
    ((h.0.0, ap (declared_range text) (same i (omega arith) (omega arith)) ∙ h.0.1), stand_kept text ends ends' (suc i) l (λ j a b. same j (omega (arith, a)) (omega (arith, b))) h.1)

stand_behind : (text ends : List ℕ) (i : ℕ) (names : List Name) (x : Name) → RangesBehind text ends i names → (n : ℕ) × (declared_range text (get_or ends (i + length names) 0) ≡ accepted x.range n)
    → RangesBehind text ends i (names ++ (x ∷ []))
stand_behind text ends i [] x h own = ((own.0, ap (λ (j : ℕ). declared_range text (get_or ends j 0)) (omega arith) ∙ own.1), tt)
stand_behind text ends i (y ∷ l) x h own =
    (h.0, stand_behind text ends (suc i) l x h.1 (own.0, ap (λ (j : ℕ). declared_range text (get_or ends j 0)) (omega arith) ∙ own.1))

-- one name more
pub stand_more : (text ends : List ℕ) (names : List Name) (x : Name) → RangesBehind text ends 0 names → (n : ℕ) × (declared_range text (get_or ends (length names) 0) ≡ accepted x.range n)
    → RangesBehind text ends 0 (names ++ (x ∷ []))
stand_more text ends names x h own = stand_behind text ends 0 names x h (own.0, ap (λ (j : ℕ). declared_range text (get_or ends j 0)) (omega arith) ∙ own.1)

-- the range of a name, by its id
pub stand_at : (text ends : List ℕ) (i : ℕ) (names : List Name) → RangesBehind text ends i names → (j : ℕ) → j < length names
    → (n : ℕ) × (declared_range text (get_or ends (i + j) 0) ≡ accepted (range_at (map (λ x. x.range) names) j) n)
stand_at text ends i [] h j b = absurd (omega (arith, b))
stand_at text ends i (x ∷ l) h zero b = (h.0.0, ap (λ (j : ℕ). declared_range text (get_or ends j 0)) (omega arith) ∙ h.0.1)
stand_at text ends i (x ∷ l) h (suc j) b =
    let r = stand_at text ends (suc i) l h.1 j (omega (arith, b)) in
    (r.0, ap (λ (k : ℕ). declared_range text (get_or ends k 0)) (omega arith) ∙ r.1)
