-- Flags kept as the bits of a number: auxiliary definition for contracts and proofs. Assumes nothing.
use Rattle.std.specs.Prelude.{ℕ, zero, suc, ◌+◌, ◌/◌, ◌%◌, Bool, List, [], ◌∷◌, eqb}

-- so many flags, the lowest bit the first
unfoldable pub flags_of : ℕ → ℕ → List Bool
flags_of zero bits = []
flags_of (suc n) bits = eqb (bits % 2) 1 ∷ flags_of n (bits / 2)

-- how many of the first flags are set
unfoldable pub ones_below : ℕ → ℕ → ℕ
ones_below zero bits = 0
ones_below (suc n) bits = bits % 2 + ones_below n (bits / 2)
