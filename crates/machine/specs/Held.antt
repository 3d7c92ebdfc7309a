-- Values held, as memory has them. Document 02, A.8. Assumes nothing.
use Rattle.std.specs.Prelude.{ℕ, zero, suc, List, [], ◌∷◌, ℤ, pos, get_or}

-- the first n numbers, the last first
unfoldable pub held_of : List ℤ → ℕ → List ℤ
held_of vals zero = []
held_of vals (suc n) = get_or vals n (pos 0) ∷ held_of vals n
