-- What 64-bit locals hold where the code divides, compares and sums: the numbers themselves, since all of them fit. Assumes nothing.
use mathlib.Core.Path.{◌≡◌, refl, sym, ap, ◌∙◌}
use mathlib.Core.Bool.{true, false}
use mathlib.Core.List.{List}
use Prim.Native.Nat.{ℕ, ◌*◌, ◌/◌, ◌^◌, ◌≤◌, ◌<◌}
use native.Mathlib.Omega.{arith}
use lib.IntN.{ℤ, pos, negsuc, neg_ℤ, nat_abs, ◌+ℤ◌, ◌-ℤ◌, ◌*ℤ◌}
use lib.Signed.{mag, lt_z, quot_z, nat_abs-le}
use borrow.Author.Tests.{ltb-true}
use mir.Syntax.{w32, w64}
use mir.Val.{SFits, to_z, of_z}
use mir.Facts.{to_z-of_z}
use Rattle.arith.proofs.Laws.{mag_add, mag_neg, mag_mul, cast64, widened}
use Rattle.leb128.proofs.Signs.{mirror_negsuc, mirror_pos}
use Rattle.clock.specs.Clock.{Entry, offset_at, local_at, day_of, minute_of}
use Rattle.clock.specs.Inner.Numbers.{SmallNumbers}
use Rattle.clock.proofs.Entries.{local_is, at_small}
use Rattle.clock.proofs.Days.{minute_pos, minute-neg}

pub same64 : {z : ℤ} → SFits w64 z → to_z w64 (of_z w64 z) ≡ z
same64 f = to_z-of_z {w = w64} f

abbrev held : ℤ → ℤ
held z = to_z w64 (of_z w64 z)

fits64 : {z : ℤ} → mag z < 2 ^ 63 → SFits w64 z
fits64 h = record { sfits = h }

-- ---- the day: -1 - z turns a number below zero round

-- what the code asks below zero, and what it gets
pub record Below (z : ℤ) : Type 0 where
  pub first : SFits w64 (negsuc 0 -ℤ held z)
  pub quotient : SFits w64 (quot_z (held (negsuc 0 -ℤ held z)) (pos 1440))
  pub second : SFits w64 (negsuc 0 -ℤ held (quot_z (held (negsuc 0 -ℤ held z)) (pos 1440)))
  pub narrow : SFits w32 (held (negsuc 0 -ℤ held (quot_z (held (negsuc 0 -ℤ held z)) (pos 1440))))
  pub day : to_z w32 (of_z w32 (held (negsuc 0 -ℤ held (quot_z (held (negsuc 0 -ℤ held z)) (pos 1440))))) ≡ day_of z

pub below_zero : (z : ℤ) → mag z < 2 ^ 41 → lt_z z (pos 0) ≡ true → Below z
unfolding day_of
below_zero (pos n) h t = let f : n < 0 = ltb-true n 0 t in absurd (omega arith)
below_zero (negsuc n) h t =
    let a : held (negsuc n) ≡ negsuc n = same64 (fits64 {z = negsuc n} (omega arith)) in
    let q : n / 1440 ≤ n = omega arith in
    let b : held (pos n) ≡ pos n = same64 (fits64 {z = pos n} (omega arith)) in
    let d : held (pos (n / 1440)) ≡ pos (n / 1440) = same64 (fits64 {z = pos (n / 1440)} (omega arith)) in
    let e : held (negsuc (n / 1440)) ≡ negsuc (n / 1440) = same64 (fits64 {z = negsuc (n / 1440)} (omega arith)) in
    let n32 : SFits w32 (negsuc (n / 1440)) = record { sfits = omega arith } in
    record {
      first = rw (a, mirror_negsuc n) (fits64 {z = pos n} (omega arith));
      quotient = rw (a, mirror_negsuc n, b) (fits64 {z = pos (n / 1440)} (omega arith));
      second = rw (a, mirror_negsuc n, b, d, mirror_pos (n / 1440)) (fits64 {z = negsuc (n / 1440)} (omega arith));
      narrow = rw (a, mirror_negsuc n, b, d, mirror_pos (n / 1440), e) n32;
      day = rw (a, mirror_negsuc n, b, d, mirror_pos (n / 1440), e) (to_z-of_z {w = w32} n32);
    }

pub record Above (z : ℤ) : Type 0 where
  pub quotient : SFits w64 (quot_z (held z) (pos 1440))
  pub narrow : SFits w32 (held (quot_z (held z) (pos 1440)))
  pub day : to_z w32 (of_z w32 (held (quot_z (held z) (pos 1440)))) ≡ day_of z

pub from_zero : (z : ℤ) → mag z < 2 ^ 41 → lt_z z (pos 0) ≡ false → Above z
unfolding day_of
from_zero (pos n) h t =
    let a : held (pos n) ≡ pos n = same64 (fits64 {z = pos n} (omega arith)) in
    let d : held (pos (n / 1440)) ≡ pos (n / 1440) = same64 (fits64 {z = pos (n / 1440)} (omega arith)) in
    let n32 : SFits w32 (pos (n / 1440)) = record { sfits = omega arith } in
    record {
      quotient = rw a (fits64 {z = pos (n / 1440)} (omega arith));
      narrow = rw (a, d) n32;
      day = rw (a, d) (to_z-of_z {w = w32} n32);
    }
from_zero (negsuc n) h t = let z : ◌≡◌ {A = ℕ} 0 1 = cc in absurd (omega arith)

-- ---- sizes
minute_small : (z : ℤ) → mag (minute_of z) ≤ 1439
minute_small (pos n) = rw (minute_pos n) (omega arith)
minute_small (negsuc n) = rw (minute-neg n) (omega arith)

-- ---- the minute: what the days leave, with the day d held in 32 bits
pub record Left (z d : ℤ) : Type 0 where
  pub product : SFits w64 (pos 1440 *ℤ cast64 d)
  pub difference : SFits w64 (held z -ℤ held (pos 1440 *ℤ cast64 d))
  pub narrow : SFits w32 (held (held z -ℤ held (pos 1440 *ℤ cast64 d)))
  pub minute : to_z w32 (of_z w32 (held (held z -ℤ held (pos 1440 *ℤ cast64 d)))) ≡ minute_of z

product_small : (d : ℤ) {k : ℕ} → mag d < k → mag (pos 1440 *ℤ d) ≤ 1440 * k
product_small d {k} h = let n : nat_abs d ≤ k = nat_abs-le d h in omega (arith, mag_mul (pos 1440) d)

minute_is : (z : ℤ) → z -ℤ pos 1440 *ℤ day_of z ≡ minute_of z
unfolding minute_of
minute_is z = refl

pub left-of : (z d : ℤ) → mag z < 2 ^ 41 → SFits w32 d → d ≡ day_of z → Left z d
left-of z d h f e =
    let a : held z ≡ z = same64 (fits64 {z = z} (omega arith)) in
    let c : cast64 d ≡ d = widened f in
    let m : mag (pos 1440 *ℤ d) ≤ 1440 * 2147483648 = product_small d f.sfits in
    let p : SFits w64 (pos 1440 *ℤ d) = fits64 {z = pos 1440 *ℤ d} (omega arith) in
    let b : held (pos 1440 *ℤ d) ≡ pos 1440 *ℤ d = same64 p in
    let s : z -ℤ pos 1440 *ℤ d ≡ minute_of z = ap (λ (x : ℤ). z -ℤ pos 1440 *ℤ x) e ∙ minute_is z in
    let w : SFits w64 (minute_of z) = fits64 {z = minute_of z} (omega (arith, minute_small z)) in
    let n : SFits w32 (minute_of z) = record { sfits = omega (arith, minute_small z) } in
    record {
      product = rw c p;
      difference = rw (a, c, b, s) w;
      narrow = rw (a, c, b, s, same64 w) n;
      minute = rw (a, c, b, s, same64 w) (to_z-of_z {w = w32} n);
    }

pub difference_fits : (a b : ℤ) → mag a < 2 ^ 41 → mag b ≤ 840 → SFits w64 (a -ℤ b)
difference_fits a b h k = record { sfits = omega (arith, mag_add a (neg_ℤ b), mag_neg b) }

sum_small : (a b : ℤ) → mag a < 2 ^ 31 → mag b ≤ 840 → mag (a +ℤ b) < 2 ^ 41
sum_small a b h k = omega (arith, mag_add a b)

-- ---- the local time: a minute and the offset o there
pub record Timed (t : List Entry) (u o : ℤ) : Type 0 where
  pub sum : SFits w64 (held u +ℤ held o)
  pub small : mag (held (held u +ℤ held o)) < 2 ^ 41
  pub time : held (held u +ℤ held o) ≡ local_at t u

pub timed : (t : List Entry) (u o : ℤ) → SmallNumbers t → mag u < 2 ^ 31 → SFits w64 o → o ≡ offset_at t (held u) → Timed t u o
timed t u o s h f e =
    let a : held u ≡ u = same64 (fits64 {z = u} (omega arith)) in
    let b : held o ≡ o = same64 f in
    let q : o ≡ offset_at t u = rw a at e in
    let k : mag o ≤ 840 = rw q (at_small t u s) in
    let m : mag (u +ℤ o) < 2 ^ 41 = sum_small u o h k in
    let g : SFits w64 (u +ℤ o) = fits64 {z = u +ℤ o} (omega arith) in
    record {
      sum = rw (a, b) g;
      small = rw (a, b, same64 g) m;
      time = rw (a, b, same64 g) (ap (λ (x : ℤ). u +ℤ x) q ∙ sym (local_is t u));
    }
