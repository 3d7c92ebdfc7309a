-- A whole number by its sign, so that what is left is about ℕ. Assumes nothing.
use mathlib.Core.Path.{◌≡◌, refl, ap}
use mathlib.Core.Bool.{Bool, true, false, cond}
use Prim.Native.Nat.{ℕ, zero, suc, ◌+◌, ◌*◌, ◌/◌, ◌%◌, ◌^◌, ◌<◌}
use native.Mathlib.Omega.{arith}
use lib.Dec.{eqb}
use lib.IntN.{ℤ, pos, negsuc, ◌-ℤ◌}
use borrow.Author.Tests.{le-ltb, eqb-true, eqb-false}
use mir.Syntax.{w32}
use mir.Val.{SFits}
use Rattle.leb128.specs.Numbers.{zigzag, unzigzag}

-- -1 - z
pub mirror_negsuc : (n : ℕ) → negsuc 0 -ℤ negsuc n ≡ pos n
mirror_negsuc n = rw (le-ltb (suc n) 1 (omega arith)) (ap pos (omega arith))

pub mirror_pos : (n : ℕ) → negsuc 0 -ℤ pos n ≡ negsuc n
mirror_pos zero = refl
mirror_pos (suc n) = ap negsuc (omega arith)

-- ---- there and back
pub unzigzag_zigzag : (z : ℤ) → unzigzag (zigzag z) ≡ z
unfolding unzigzag zigzag
unzigzag_zigzag (pos n) =
    let m : 2 * n % 2 ≡ 0 = omega arith in
    let d : 2 * n / 2 ≡ n = omega arith in
    rw (m, d)
unzigzag_zigzag (negsuc n) =
    let m : (2 * n + 1) % 2 ≡ 1 = omega arith in
    let d : (2 * n + 1) / 2 ≡ n = omega arith in
    rw (m, d)

pub zigzag_unzigzag : (u : ℕ) → zigzag (unzigzag u) ≡ u
unfolding unzigzag zigzag
zigzag_unzigzag u = by (eqb (u % 2) 0) (eqb-true (u % 2) 0) (λ e. let h = eqb-false (u % 2) 0 e in omega arith) where
  by : (t : Bool) → (t ≡ true → u % 2 ≡ 0) → (t ≡ false → u % 2 ≡ 1) → zigzag (cond t (pos (u / 2)) (negsuc (u / 2))) ≡ u
  by true y n = let h = y refl in omega arith
  by false y n = let h = n refl in omega arith

-- ---- the unsigned form is below 2 ^ 32 exactly where the number is in the signed 32-bit range
pub zigzag-below : (z : ℤ) → SFits w32 z → zigzag z < 2 ^ 32
unfolding zigzag
zigzag-below (pos n) f = let h : n < 2 ^ 31 = f.sfits in omega arith
zigzag-below (negsuc n) f = let h : n < 2 ^ 31 = f.sfits in omega arith

pub zigzag_fits : (z : ℤ) → zigzag z < 2 ^ 32 → SFits w32 z
unfolding zigzag
zigzag_fits (pos n) h = record { sfits = omega arith }
zigzag_fits (negsuc n) h = record { sfits = omega arith }
