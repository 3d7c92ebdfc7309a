-- Laws of flags kept as the bits of a number. Assumes nothing.
use Prim.Native.Nat.{ℕ, zero, suc, ◌+◌, ◌-◌, ◌*◌, ◌/◌, ◌%◌, ◌^◌, ◌≤◌, ◌<◌, min}
use mathlib.Core.Path.{◌≡◌, refl, ap, ◌∙◌}
use mathlib.Core.Bool.{Bool, true, false}
use native.Mathlib.Omega.{arith}
use native.Mathlib.Nat.{div-one, mod-lt, mod-eq_of_lt, lt_of_lt_of_le, le_of_lt}
use native.Mathlib.Numerals.{add-one}
use lib.Bits.{bit_and, bit_or, or_step, or_zero_r, or_lt, and_mask}
use lib.Count.{ones, ones_step, ones-le}
use lib.Dec.{eqb, leb}
use lib.ListN.{length, get_or, set, get_or-eq_default}
use lib.Pow.{pow-lt, pow_mono, pow_pos, shr-shr, shl_exact, field, mod-mod-pow}
use borrow.Author.Tests.{leb-true, leb-false}
use Rattle.arith.specs.Inner.Flags.{flags_of, ones_below}

pub length_flags : (n b : ℕ) → length (flags_of n b) ≡ n
unfolding flags_of
length_flags zero b = refl
length_flags (suc n) b = ap suc (length_flags n (b / 2))

halved : (b i : ℕ) → b / 2 / 2 ^ i ≡ b / 2 ^ suc i
halved b i = let e : 1 + i ≡ suc i = omega arith in shr-shr b 1 i ∙ ap (λ (k : ℕ). b / 2 ^ k) e

-- bit i is flag i
pub flag_at : (n b i : ℕ) → i < n → get_or (flags_of n b) i false ≡ eqb (b / 2 ^ i % 2) 1
unfolding flags_of
flag_at zero b i h = let f : ⊥ = omega arith in absurd f
flag_at (suc n) b zero h = rw div-one
flag_at (suc n) b (suc i) h = flag_at n (b / 2) i (omega arith) ∙ ap (λ (k : ℕ). eqb (k % 2) 1) (halved b i)

pub flag_out : (n b i : ℕ) → n ≤ i → get_or (flags_of n b) i false ≡ false
flag_out n b i h = get_or-eq_default (flags_of n b) false (omega (arith, length_flags n b))

-- a bit set sets its flag
pub flag_set : (n b i : ℕ) → flags_of n (bit_or b (2 ^ i)) ≡ set (flags_of n b) i true
unfolding flags_of
flag_set zero b i = refl
flag_set (suc n) b zero =
    let e : bit_or b 1 ≡ b / 2 * 2 + 1 = or_step b 1 ∙ rw (or_zero_r (b / 2)) (omega arith) in
    let l : bit_or b 1 % 2 ≡ 1 = omega arith in
    let h : bit_or b 1 / 2 ≡ b / 2 = omega arith in
    rw (l, h)
flag_set (suc n) b (suc i) =
    let d : 2 ^ suc i / 2 ≡ 2 ^ i = omega arith in
    let c : 2 ^ suc i % 2 ≡ 0 = omega arith in
    let e : bit_or b (2 ^ suc i) ≡ bit_or (b / 2) (2 ^ i) * 2 + b % 2 = or_step b (2 ^ suc i) ∙ rw (d, c) (omega arith) in
    let l : bit_or b (2 ^ suc i) % 2 ≡ b % 2 = omega arith in
    let h : bit_or b (2 ^ suc i) / 2 ≡ bit_or (b / 2) (2 ^ i) = omega arith in
    rw (l, h, flag_set n (b / 2) i)

-- and stays below 2 ^ n
pub set_low : (n b i : ℕ) → i < n → b < 2 ^ n → bit_or b (2 ^ i) < 2 ^ n
set_low n b i h l = or_lt n b (2 ^ i) l (pow-lt h)

-- 1 << i
pub shifted : (i : ℕ) → i < 64 → (1 * 2 ^ i) % 2 ^ 64 ≡ 2 ^ i
shifted i h = let e : 1 * 2 ^ i ≡ 2 ^ i = omega arith in shl_exact {a = 1} 1 i 64 (omega arith) (omega arith) ∙ e

-- ---- bits counted

ones_mod : (n bits : ℕ) → ones (bits % 2 ^ n) ≡ ones_below n bits
unfolding ones_below
ones_mod zero bits = omega (arith, ones-le 0 (bits % 2 ^ 0) (omega arith))
ones_mod (suc n) bits =
    let e : n + 1 ≡ suc n = add-one n in
    let l : bits % 2 ^ suc n % 2 ≡ bits % 2 = rw e at (mod-mod-pow bits n 1) in
    let h : bits % 2 ^ suc n / 2 ≡ bits / 2 % 2 ^ n = rw e at (field bits n 1) in
    ones_step (bits % 2 ^ suc n) ∙ rw (l, h, ones_mod n (bits / 2))

-- of a number of 64 bits
pub ones_masked : (n bits m : ℕ) → m ≡ min n 64 → bits < 2 ^ 64 → (ones (bit_and bits (2 ^ m - 1)) ≡ ones_below n bits) × (ones (bit_and bits (2 ^ m - 1)) ≤ n)
ones_masked n bits m e h = rw (and_mask bits m) (counted (leb n 64) (leb-true n 64) (leb-false n 64), omega (arith, ones-le m (bits % 2 ^ m) (mod-lt bits (pow_pos m))))
  where
    counted : (t : Bool) → (t ≡ true → n ≤ 64) → (t ≡ false → 64 < n) → ones (bits % 2 ^ m) ≡ ones_below n bits
    counted true y k = let q : m ≡ n = let l = y refl in omega arith in rw q (ones_mod n bits)
    counted false y k =
        let l = k refl in
        let q : m ≡ 64 = omega arith in
        let a : bits % 2 ^ m ≡ bits = rw q (mod-eq_of_lt h) in
        let b : bits % 2 ^ n ≡ bits = mod-eq_of_lt (lt_of_lt_of_le h (pow_mono (le_of_lt l))) in
        rw a (rw b at (ones_mod n bits))
