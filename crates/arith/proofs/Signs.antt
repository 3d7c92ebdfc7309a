-- What the test `0 <= z` of a signed number tells. Assumes nothing.
use mathlib.Core.Path.{◌≡◌, refl, sym, subst, ◌∙◌}
use mathlib.Core.Bool.{true, false}
use lib.Dec.{T, leb-zero}
use lib.IntN.{ℤ, pos, negsuc}
use lib.Signed.{mag, le_z}
use mir.Syntax.{w32}
use mir.Val.{SFits, to_z, of_z}
use Rattle.arith.proofs.Laws.{same32}

false_true : false ≡ true → ⊥
false_true e = subst T (sym e) tt

pub not_below : (z : ℤ) → le_z (pos 0) z ≡ true → z ≡ pos (mag z)
not_below (pos n) e = refl
not_below (negsuc n) e = absurd (false_true e)

pub is_below : (z : ℤ) → le_z (pos 0) z ≡ false → z ≡ negsuc (mag z)
is_below (pos n) e = absurd (false_true (sym e ∙ leb-zero n))
is_below (negsuc n) e = refl

-- of what the code reads
module _ {z : ℤ} (f : SFits w32 z) where
  pub at_pos : le_z (pos 0) (to_z w32 (of_z w32 z)) ≡ true → z ≡ pos (mag z)
  at_pos e = not_below z (rw (same32 f) at e)

  pub at_neg : le_z (pos 0) (to_z w32 (of_z w32 z)) ≡ false → z ≡ negsuc (mag z)
  at_neg e = is_below z (rw (same32 f) at e)
