-- Flags as the bits of a number, and back. Assumes nothing.
use Prim.Native.Nat.{ℕ, zero, suc, ◌+◌, ◌*◌, ◌/◌, ◌%◌, ◌^◌, ◌≤◌, ◌<◌}
use native.Mathlib.Omega.{arith}
use mathlib.Core.Path.{◌≡◌, refl}
use mathlib.Core.Bool.{Bool, true, false}
use mathlib.Core.List.{List, [], ◌∷◌}
use lib.Dec.{eqb}
use lib.ListN.{length}
use Rattle.arith.specs.Inner.Flags.{flags_of}
use Rattle.paused.specs.Memory.{flag_of, bits_of}

pub flags_bits : (bs : List Bool) → flags_of (length bs) (bits_of bs) ≡ bs
unfolding flags_of
flags_bits [] = refl
flags_bits (true ∷ bs) =
    let l : (1 + 2 * bits_of bs) % 2 ≡ 1 = omega arith in
    let h : (1 + 2 * bits_of bs) / 2 ≡ bits_of bs = omega arith in
    rw (l, h, flags_bits bs)
flags_bits (false ∷ bs) =
    let l : (0 + 2 * bits_of bs) % 2 ≡ 0 = omega arith in
    let h : (0 + 2 * bits_of bs) / 2 ≡ bits_of bs = omega arith in
    rw (l, h, flags_bits bs)

pub bits_below : (bs : List Bool) (n : ℕ) → length bs ≤ n → bits_of bs < 2 ^ n
bits_below [] n h = by n
  where
    by : (n : ℕ) → 0 < 2 ^ n
    by zero = omega arith
    by (suc n) = let l = by n in omega (arith, l)
bits_below (b ∷ bs) zero h = absurd (omega arith)
bits_below (true ∷ bs) (suc n) h = let l = bits_below bs n (omega arith) in omega (arith, l)
bits_below (false ∷ bs) (suc n) h = let l = bits_below bs n (omega arith) in omega (arith, l)

-- a number below 2 ^ n is that of its flags
pub bits_flags : (n b : ℕ) → b < 2 ^ n → bits_of (flags_of n b) ≡ b
unfolding flags_of
bits_flags zero b h = omega arith
bits_flags (suc n) b h = rw (bits_flags n (b / 2) (omega arith)) (by (b % 2) refl (omega arith))
  where
    by : (r : ℕ) → b % 2 ≡ r → r < 2 → flag_of (eqb r 1) + 2 * (b / 2) ≡ b
    by zero e l = omega arith
    by (suc zero) e l = omega arith
    by (suc (suc r)) e l = absurd (omega arith)
