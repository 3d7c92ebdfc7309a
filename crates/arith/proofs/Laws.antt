-- Laws of signed numbers, for this crate and those above. Assumes nothing.
use mathlib.Core.Path.{◌≡◌, refl, sym, ap, ◌∙◌}
use mathlib.Core.Bool.{Bool, true, false, cond}
use Prim.Native.Nat.{ℕ, zero, suc, ◌+◌, ◌*◌, ◌-◌, ◌/◌, ◌%◌, ◌^◌, ◌≤◌, ◌<◌}
use native.Mathlib.Nat.{div-le_self, mul-le-mul, div-add-mod, mul-zero}
use native.Mathlib.Omega.{arith}
use lib.Dec.{T, leb, ltb, eqb}
use lib.IntN.{ℤ, pos, negsuc, neg_ℤ, nat_abs, ◌+ℤ◌, ◌-ℤ◌, ◌*ℤ◌, neg_ℤ-+ℤ}
use lib.Signed.{mag, le_z, quot_z, rem_z, nat_abs-le, mag_rem}
use borrow.Author.Tests.{leb-true, le-leb, le-ltb, ne_eqb, eq-eqb, eqb-true}
use Rattle.limits.specs.Limits.{overflow}
use Rattle.arith.specs.Values.{Outcome, ok, refusal, ◌>>=◌, eq_z, is_int32, non_zero, remainder, divide, modulo, arithmetic}
use Rattle.arith.proofs.Basics.{T_true, true_T, and_left, and_T, eq_z_true, eq_z_self}
use mir.Syntax.{Width, w32, w64}
use mir.Val.{SFits, to_z, of_z}
use mir.Facts.{to_z-of_z, sfits_widen}

-- ---- the size of a result

mag_cond : (t : Bool) (m n k : ℕ) → m ≤ k → n ≤ k → mag (cond t (negsuc m) (pos n)) ≤ k
mag_cond true m n k p q = p
mag_cond false m n k p q = q

pub mag_add : (a b : ℤ) → mag (a +ℤ b) ≤ mag a + mag b + 1
mag_add (pos a) (pos b) = omega arith
mag_add (pos a) (negsuc b) = mag_cond (ltb a (suc b)) _ _ _ (omega arith) (omega arith)
mag_add (negsuc a) (pos b) = mag_cond (ltb b (suc a)) _ _ _ (omega arith) (omega arith)
mag_add (negsuc a) (negsuc b) = omega arith

pub mag_neg : (a : ℤ) → mag (neg_ℤ a) ≤ mag a + 1
mag_neg (pos zero) = omega arith
mag_neg (pos (suc n)) = omega arith
mag_neg (negsuc n) = omega arith

mag_neg_pos : (n : ℕ) → mag (neg_ℤ (pos n)) ≤ n
mag_neg_pos zero = omega arith
mag_neg_pos (suc n) = omega arith

pub mag_mul : (a b : ℤ) → mag (a *ℤ b) ≤ nat_abs a * nat_abs b
mag_mul (pos a) (pos b) = omega arith
mag_mul (pos a) (negsuc b) = mag_neg_pos (a * suc b)
mag_mul (negsuc a) (pos b) = mag_neg_pos (suc a * b)
mag_mul (negsuc a) (negsuc b) = omega arith

pub mag_quot : (a b : ℤ) → mag (quot_z a b) ≤ mag a + 1
mag_quot (pos a) (pos b) = omega (arith, div-le_self a b)
mag_quot (pos a) (negsuc b) = omega (arith, div-le_self a (suc b), mag_neg_pos (a / suc b))
mag_quot (negsuc a) (pos b) = omega (arith, div-le_self (suc a) b, mag_neg_pos (suc a / b))
mag_quot (negsuc a) (negsuc b) = omega (arith, div-le_self (suc a) (suc b))

-- ---- an operation on two 32-bit numbers fits 64 bits
module _ {a b : ℤ} (fa : SFits w32 a) (fb : SFits w32 b) where
  pub add_fits : SFits w64 (a +ℤ b)
  add_fits = record { sfits = omega (arith, mag_add a b, fa.sfits, fb.sfits) }

  pub sub_fits : SFits w64 (a -ℤ b)
  sub_fits = record { sfits = omega (arith, mag_add a (neg_ℤ b), mag_neg b, fa.sfits, fb.sfits) }

  pub mul_fits : SFits w64 (a *ℤ b)
  mul_fits =
      let p : nat_abs a * nat_abs b ≤ 2147483648 * 2147483648 = mul-le-mul (nat_abs-le a fa.sfits) (nat_abs-le b fb.sfits) in
      record { sfits = omega (arith, mag_mul a b) }

  pub neg_fits : SFits w64 (neg_ℤ a)
  neg_fits = record { sfits = omega (arith, mag_neg a, fa.sfits) }

  pub quot_fits : SFits w64 (quot_z a b)
  quot_fits = record { sfits = omega (arith, mag_quot a b, fa.sfits) }

  pub rem_fits : SFits w64 (rem_z a b)
  rem_fits = record { sfits = omega (arith, mag_rem a b, fa.sfits) }

-- ---- casts. A signed local holds bits: what the code reads is  to_z w (of_z w z),  which is z where z fits
pub wide : {a : ℤ} → SFits w32 a → SFits w64 a
wide f = sfits_widen {w = w32} {w' = w64} tt f

-- what a cast of a to 64 bits asks, and what it gives
pub widens : {a : ℤ} → SFits w32 a → SFits w64 (to_z w32 (of_z w32 a))
widens f = rw (to_z-of_z {w = w32} f) (wide f)

abbrev pub cast64 : ℤ → ℤ
cast64 a = to_z w64 (of_z w64 (to_z w32 (of_z w32 a)))

pub widened : {a : ℤ} → SFits w32 a → cast64 a ≡ a
widened f = rw (to_z-of_z {w = w32} f) (to_z-of_z {w = w64} (wide f))

-- a cast of a 64-bit number to 32 bits gives the number where it fits
pub narrowed32 : {z : ℤ} → SFits w32 z → SFits w64 z → to_z w32 (of_z w32 (to_z w64 (of_z w64 z))) ≡ z
narrowed32 f g = rw (to_z-of_z {w = w64} g) (to_z-of_z {w = w32} f)

-- an operation f on two 32-bit numbers cast to 64 bits is f on the numbers themselves
module _ (f : ℤ → ℤ → ℤ) {a b : ℤ} (fa : SFits w32 a) (fb : SFits w32 b) (fits : SFits w64 (f a b)) where
  pub op_fits : SFits w64 (f (cast64 a) (cast64 b))
  op_fits = rw (widened fa, widened fb) fits

  pub op_is : to_z w64 (of_z w64 (f (cast64 a) (cast64 b))) ≡ f a b
  op_is = rw (widened fa, widened fb) (to_z-of_z {w = w64} fits)

-- ---- the range of 32 bits: one bound on the magnitude, and what a signed 32-bit local holds
pub int32_mag : (z : ℤ) → T (is_int32 z) → mag z < 2147483648
int32_mag (pos n) t = omega (arith, leb-true n 2147483647 (T_true _ t))
int32_mag (negsuc n) t = omega (arith, leb-true n 2147483647 (T_true _ (and_left (leb n 2147483647) true t)))

pub mag_int32 : (z : ℤ) → mag z < 2147483648 → T (is_int32 z)
mag_int32 (pos n) h = true_T _ (le-leb n 2147483647 (omega arith))
mag_int32 (negsuc n) h = and_T (leb n 2147483647) true (true_T _ (le-leb n 2147483647 (omega arith))) tt

pub int32_fits : {z : ℤ} → T (is_int32 z) → SFits w32 z
int32_fits {z} t = record { sfits = int32_mag z t }

pub fits_int32 : {z : ℤ} → SFits w32 z → T (is_int32 z)
fits_int32 {z} f = mag_int32 z f.sfits

-- ---- a divisor: the code's test of its bits against 0
pub zero_bits : {b : ℤ} → SFits w32 b → of_z w64 (to_z w32 (of_z w32 b)) ≡ 0 → b ≡ pos 0
zero_bits f e = sym (widened f) ∙ ap (to_z w64) e

pub nonzero_bits : {b : ℤ} → SFits w32 b → (of_z w64 (to_z w32 (of_z w32 b)) ≡ 0 → ⊥) → b ≡ pos 0 → ⊥
nonzero_bits f h e = h (rw e)

not_zero : (b : ℤ) → (b ≡ pos 0 → ⊥) → eq_z b (pos 0) ≡ false
not_zero (pos zero) h = absurd (h refl)
not_zero (pos (suc n)) h = ne_eqb (suc n) 0 (λ e. omega arith)
not_zero (negsuc n) h = refl

pub by_nonzero : {A : Type 0} (b : ℤ) (f : ℤ → Outcome A) → (b ≡ pos 0 → ⊥) → (non_zero b >>= f) ≡ f b
by_nonzero b f h = rw (not_zero b h)

-- ---- a zero divisor: division is refused, the remainder is 0
pub quotient_by_zero : (a : ℤ) → arithmetic divide a (pos 0) ≡ refusal overflow
unfolding arithmetic
quotient_by_zero a = refl

pub remainder-by-zero : (a : ℤ) → arithmetic modulo a (pos 0) ≡ ok (pos 0)
unfolding arithmetic
remainder-by-zero a = refl

-- ---- the remainder by any other divisor: a - b × (a / b)
take-away : (m n : ℕ) → n ≤ m → pos m -ℤ pos n ≡ pos (m - n)
take-away m zero h = ap pos (omega arith)
take-away m (suc n) h = rw (le-ltb m (suc n) h)

take_back : (m n : ℕ) → n ≤ suc m → negsuc m -ℤ neg_ℤ (pos n) ≡ neg_ℤ (pos (suc m - n))
take_back m n h = sym (neg_ℤ-+ℤ (pos (suc m)) (neg_ℤ (pos n))) ∙ ap neg_ℤ (take-away (suc m) n h)

times_neg : (b q : ℕ) → negsuc b *ℤ neg_ℤ (pos q) ≡ pos (suc b * q)
times_neg b zero = rw mul-zero
times_neg b (suc q) = refl

neg_times : (b q : ℕ) → pos b *ℤ neg_ℤ (pos q) ≡ neg_ℤ (pos (b * q))
neg_times b zero = rw mul-zero
neg_times b (suc q) = refl

-- what is left of n after whole multiples of d
left : (n d : ℕ) → (d * (n / d) ≤ n) × (n - d * (n / d) ≡ n % d)
left n d = let e : d * (n / d) + n % d ≡ n = div-add-mod n d in (omega arith, omega arith)

what_is_left : (a b : ℤ) → rem_z a b ≡ a -ℤ b *ℤ quot_z a b
what_is_left (pos a) (pos b) = rw (take-away a (b * (a / b)) (left a b).0, (left a b).1)
what_is_left (pos a) (negsuc b) = rw (times_neg b (a / suc b), take-away a (suc b * (a / suc b)) (left a (suc b)).0, (left a (suc b)).1)
what_is_left (negsuc a) (pos b) = rw (neg_times b (suc a / b), take_back a (b * (suc a / b)) (left (suc a) b).0, (left (suc a) b).1)
what_is_left (negsuc a) (negsuc b) = rw (take_back a (suc b * (suc a / suc b)) (left (suc a) (suc b)).0, (left (suc a) (suc b)).1)

pub remainder_is : (a b : ℤ) → (b ≡ pos 0 → ⊥) → rem_z a b ≡ remainder a b
remainder_is a b h = rw (not_zero b h) (what_is_left a b)

-- ---- equality of bits is equality of numbers, at every width
pub same_bool : (s t : Bool) → (s ≡ true → t ≡ true) → (t ≡ true → s ≡ true) → s ≡ t
same_bool true t p q = sym (p refl)
same_bool false true p q = q refl
same_bool false false p q = refl

pub eq_bits : {w : Width} (a b : ℤ) → SFits w a → SFits w b → eqb (of_z w a) (of_z w b) ≡ eq_z a b
eq_bits {w} a b f g =
    same_bool _ _ (λ e. ap (eq_z a) (sym (sym (to_z-of_z f) ∙ (ap (to_z w) (eqb-true (of_z w a) (of_z w b) e) ∙ to_z-of_z g))) ∙ eq_z_self a)
    (λ e. eq-eqb _ _ (ap (of_z w) (eq_z_true a b e)))

-- what a comparison reads, and what a callee is handed: the number itself
pub same32 : {a : ℤ} → SFits w32 a → to_z w32 (of_z w32 a) ≡ a
same32 f = to_z-of_z {w = w32} f

-- what a caller holds of a 64-bit answer: the number itself
pub given64 : (z : ℤ) → mag z < 2 ^ 63 → to_z w64 (of_z w64 z) ≡ z
given64 z h = to_z-of_z {w = w64} record { sfits = h }
