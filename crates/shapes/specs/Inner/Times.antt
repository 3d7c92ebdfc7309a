-- The elapsed times of a state, by the table of limits: for inner contracts and proofs. Document 02, A.7. Assumes nothing.
use Rattle.std.specs.Prelude.{ℕ, ◌+◌, ◌^◌, ◌<◌, ◌≡◌, List, map, ℤ, pos, length, set}
use Rattle.std.specs.Int.Bits.{bit_or}
use Rattle.std.proofs.lemmas.List.Edits.{sets}
use Rattle.arith.specs.Inner.Flags.{flags_of}
use Rattle.semantics.specs.Shape.{is_limit, time_ranges}
use Rattle.bytecode.specs.Parts.{lows, highs}
use Rattle.shapes.specs.declared.Times.{Times}

-- one elapsed time placed, if the limit is that of a timer
pub record PlacedOne (n id : ℕ) (t : Times) (low₀ high₀ low high : List ℤ) (r : Times) : Type 0 where
  pub passed : n ≡ 0 → (r ≡ t) × (low ≡ low₀) × (high ≡ high₀)
  pub placed : (n ≡ 0 → ⊥) → (r ≡ record { size = t.size + 1; timers = bit_or t.timers (2 ^ id) }) × (low ≡ set low₀ t.size (pos 0)) × (high ≡ set high₀ t.size (pos n))

-- the range of each elapsed time stands behind those of the names
pub record TimesStand (ls : List ℕ) (low₀ high₀ low high : List ℤ) (t : Times) : Type 0 where
  pub size_is : t.size ≡ length ls + length (time_ranges ls)
  pub timers_are : flags_of (length ls) t.timers ≡ map is_limit ls
  pub timers_low : t.timers < 2 ^ length ls
  pub lower : low ≡ sets low₀ (length ls) (lows (time_ranges ls))
  pub upper : high ≡ sets high₀ (length ls) (highs (time_ranges ls))
