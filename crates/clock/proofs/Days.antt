-- Laws of days and minutes: a division by 1440 that rounds down, and what it leaves. Assumes nothing.
use mathlib.Core.Path.{◌≡◌, refl, sym, ap, ◌∙◌}
use Prim.Native.Nat.{ℕ, suc, ◌+◌, ◌*◌, ◌-◌, ◌/◌, ◌%◌, ◌<◌}
use native.Mathlib.Nat.{div-add-mod}
use native.Mathlib.Omega.{arith}
use lib.IntN.{ℤ, pos, negsuc, neg_ℤ, ◌+ℤ◌, ◌-ℤ◌, ◌*ℤ◌, +ℤ_comm, +ℤ-neg_ℤ_cancel, -ℤ-+ℤ_cancel}
use lib.Dec.{le→leb}
use lib.Signed.{◌≤ℤ◌}
use borrow.Author.Tests.{lt-ltb, le-ltb}
use Rattle.arith.proofs.Laws.{remainder_is}
use Rattle.clock.specs.Clock.{day_of, minute_of}

-- a day below zero in minutes
below : (d : ℕ) → pos 1440 *ℤ negsuc d ≡ negsuc (1440 * d + 1439)
below d = let e : 1440 * suc d ≡ suc (1440 * d + 1439) = omega arith in ap (λ (k : ℕ). neg_ℤ (pos k)) e

-- ---- what the code works out

pub minute_pos : (n : ℕ) → minute_of (pos n) ≡ pos (n % 1440)
unfolding minute_of day_of
minute_pos n = sym (remainder_is (pos n) (pos 1440) (λ e. let z : ◌≡◌ {A = ℕ} 1440 0 = cc in omega arith))

day_neg : (n : ℕ) → day_of (negsuc n) ≡ negsuc (n / 1440)
unfolding day_of
day_neg n = refl

pub minute-neg : (n : ℕ) → minute_of (negsuc n) ≡ pos (1439 - n % 1440)
unfolding minute_of
minute-neg n =
    let e : 1440 * (n / 1440) + n % 1440 ≡ n = div-add-mod n 1440 in
    let k : suc (1440 * (n / 1440) + 1439) - suc n ≡ 1439 - n % 1440 = omega arith in
    rw (day_neg n, below (n / 1440), le-ltb (suc (1440 * (n / 1440) + 1439)) (suc n) (omega arith)) (ap pos k)

-- ---- 1440 times day plus minute is the local time, exactly

pub exact : (z : ℤ) → pos 1440 *ℤ day_of z +ℤ minute_of z ≡ z
unfolding minute_of
exact z = +ℤ_comm (pos 1440 *ℤ day_of z) (z -ℤ pos 1440 *ℤ day_of z) ∙ -ℤ-+ℤ_cancel z (pos 1440 *ℤ day_of z)

pub minute_least : (z : ℤ) → pos 0 ≤ℤ minute_of z
minute_least (pos n) = rw (minute_pos n) (record { le = le→leb 0 (n % 1440) (omega arith) })
minute_least (negsuc n) = rw (minute-neg n) (record { le = le→leb 0 (1439 - n % 1440) (omega arith) })

pub minute_most : (z : ℤ) → minute_of z ≤ℤ pos 1439
minute_most (pos n) = rw (minute_pos n) (record { le = le→leb (n % 1440) 1439 (omega arith) })
minute_most (negsuc n) = rw (minute-neg n) (record { le = le→leb (1439 - n % 1440) 1439 (omega arith) })

-- ---- and no other day and minute are so

pub day_only : (d : ℤ) (m : ℕ) → m < 1440 → day_of (pos 1440 *ℤ d +ℤ pos m) ≡ d
unfolding day_of
day_only (pos d) m h = let e : (1440 * d + m) / 1440 ≡ d = omega arith in ap pos e
day_only (negsuc d) m h =
    let e : (suc (1440 * d + 1439) - suc m) / 1440 ≡ d = omega arith in
    rw (below d, lt-ltb m (suc (1440 * d + 1439)) (omega arith)) (ap negsuc e)

pub minute_only : (d : ℤ) (m : ℕ) → m < 1440 → minute_of (pos 1440 *ℤ d +ℤ pos m) ≡ pos m
unfolding minute_of
minute_only d m h =
    rw (day_only d m h) (ap (λ (z : ℤ). z -ℤ pos 1440 *ℤ d) (+ℤ_comm (pos 1440 *ℤ d) (pos m)) ∙ +ℤ-neg_ℤ_cancel (pos m) (pos 1440 *ℤ d))
