-- Laws of flags kept as bits: which are set before the first rule, whether all are, and how many. Assumes nothing.
use Prim.Native.Nat.{ℕ, zero, suc, ◌+◌, ◌-◌, ◌*◌, ◌/◌, ◌%◌, ◌^◌, ◌≤◌, ◌<◌}
use mathlib.Core.Path.{◌≡◌, refl, sym, ap}
use mathlib.Core.Bool.{Bool, true, false, ◌&&◌}
use mathlib.Core.List.{List, ◌∷◌}
use native.Mathlib.Omega.{arith}
use native.Mathlib.Nat.{pow-suc}
use lib.Dec.{eqb}
use lib.ListN.{take}
use lib.Pow.{pow_pos}
use borrow.Author.Tests.{eq-eqb, ne_eqb, eqb-true, eqb-false}
use Rattle.arith.specs.Inner.Flags.{flags_of, ones_below}
use Rattle.semantics.specs.Program.{all_true, known_first}
use Rattle.semantics.specs.Shape.{count_true}

-- no flag is set
flags_zero : (n : ℕ) → flags_of n 0 ≡ known_first 0 n
unfolding flags_of
flags_zero zero = refl
flags_zero (suc n) = ap (λ (l : List Bool). false ∷ l) (flags_zero n)

-- the lowest k flags are set
pub flags_first : (k n : ℕ) → flags_of n (2 ^ k - 1) ≡ known_first k n
unfolding flags_of
flags_first zero n = flags_zero n
flags_first (suc k) zero = refl
flags_first (suc k) (suc n) =
    let d : 2 ^ suc k ≡ 2 ^ k * 2 = pow-suc 2 k in
    let o : 1 ≤ 2 ^ k = pow_pos k in
    let p : (2 ^ suc k - 1) % 2 ≡ 1 = omega arith in
    let q : (2 ^ suc k - 1) / 2 ≡ 2 ^ k - 1 = omega arith in
    rw (p, q) (ap (λ (l : List Bool). true ∷ l) (flags_first k n))

both_bits : (b p : ℕ) → 1 ≤ p → (eqb (b % 2) 1 && eqb (b / 2) (p - 1)) ≡ eqb b (p * 2 - 1)
both_bits b p h = low (eqb (b % 2) 1) (eqb-true (b % 2) 1) (eqb-false (b % 2) 1)
  where
    high : (t : Bool) → b % 2 ≡ 1 → (t ≡ true → b / 2 ≡ p - 1) → (t ≡ false → b / 2 ≡ p - 1 → ⊥) → t ≡ eqb b (p * 2 - 1)
    high true o y n = let e : b / 2 ≡ p - 1 = y refl in sym (eq-eqb b (p * 2 - 1) (omega arith))
    high false o y n = sym (ne_eqb b (p * 2 - 1) (λ e. n refl (omega arith)))

    low : (t : Bool) → (t ≡ true → b % 2 ≡ 1) → (t ≡ false → b % 2 ≡ 1 → ⊥) → (t && eqb (b / 2) (p - 1)) ≡ eqb b (p * 2 - 1)
    low true y n = high (eqb (b / 2) (p - 1)) (y refl) (eqb-true (b / 2) (p - 1)) (eqb-false (b / 2) (p - 1))
    low false y n = sym (ne_eqb b (p * 2 - 1) (λ e. n refl (omega arith)))

-- all flags are set
pub flags_all : (n b : ℕ) → b < 2 ^ n → all_true (flags_of n b) ≡ eqb b (2 ^ n - 1)
unfolding flags_of
flags_all zero b h = let e : b ≡ 0 = omega arith in rw e
flags_all (suc n) b h =
    let d : 2 ^ suc n ≡ 2 ^ n * 2 = pow-suc 2 n in
    let o : 1 ≤ 2 ^ n = pow_pos n in
    rw (flags_all n (b / 2) (omega arith), d) (both_bits b (2 ^ n) o)

-- ---- how many are set

pub flags_counted : (n b : ℕ) → count_true (flags_of n b) ≡ ones_below n b
unfolding flags_of ones_below
flags_counted zero b = refl
flags_counted (suc n) b = bit (eqb (b % 2) 1) (eqb-true (b % 2) 1) (eqb-false (b % 2) 1) (flags_counted n (b / 2))
  where
    even : (k : ℕ) → k < 2 → (k ≡ 1 → ⊥) → k ≡ 0
    even zero h e = refl
    even (suc zero) h e = absurd (e refl)
    even (suc (suc k)) h e = let f : ⊥ = omega arith in absurd f

    bit : (t : Bool) → (t ≡ true → b % 2 ≡ 1) → (t ≡ false → b % 2 ≡ 1 → ⊥) → count_true (flags_of n (b / 2)) ≡ ones_below n (b / 2) → count_true (t ∷ flags_of n (b / 2)) ≡ b % 2 + ones_below n (b / 2)
    bit true y f e = let o : b % 2 ≡ 1 = y refl in omega arith
    bit false y f e = let o : b % 2 ≡ 0 = even (b % 2) (omega arith) (f refl) in omega arith

-- the first of them
pub flags_taken : (t n b : ℕ) → t ≤ n → take t (flags_of n b) ≡ flags_of t b
unfolding flags_of
flags_taken zero n b h = refl
flags_taken (suc t) zero b h = let f : ⊥ = omega arith in absurd f
flags_taken (suc t) (suc n) b h = ap (λ (l : List Bool). eqb (b % 2) 1 ∷ l) (flags_taken t n (b / 2) (omega arith))

pub flags_all_taken : (t n b : ℕ) → n ≤ t → take t (flags_of n b) ≡ flags_of n b
unfolding flags_of
flags_all_taken zero zero b h = refl
flags_all_taken zero (suc n) b h = let f : ⊥ = omega arith in absurd f
flags_all_taken (suc t) zero b h = refl
flags_all_taken (suc t) (suc n) b h = ap (λ (l : List Bool). eqb (b % 2) 1 ∷ l) (flags_all_taken t n (b / 2) (omega arith))
