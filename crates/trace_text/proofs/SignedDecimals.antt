-- The digits of a signed number are those of its absolute value. Assumes nothing.
use mathlib.Core.Path.{◌≡◌, sym, ap, ◌∙◌}
use mathlib.Core.Bool.{true, false}
use mathlib.Core.List.{◌∷◌}
use Prim.Native.Nat.{ℕ}
use native.Mathlib.Numerals.{add-one}
use lib.IntN.{ℤ, pos, negsuc, nat_abs}
use lib.Signed.{mag, le_z}
use mir.Syntax.{w32}
use mir.Val.{SFits, to_z, of_z}
use Rattle.arith.proofs.Signs.{not_below, is_below}
use Rattle.arith.proofs.Laws.{same32}
use Rattle.trace_text.specs.Output.{unsigned_decimal, decimal_of}

module _ (z : ℤ) (f : SFits w32 z) {m n : ℕ} (a : m ≡ nat_abs (to_z w32 (of_z w32 z))) (b : n ≡ m) where
  size : n ≡ nat_abs z
  size = b ∙ a ∙ ap nat_abs (same32 f)

  module _ (e : le_z (pos 0) (to_z w32 (of_z w32 z)) ≡ true) where
    at_pos : z ≡ pos (mag z)
    at_pos = not_below z (rw (same32 f) at e)

    pub printed : decimal_of z ≡ unsigned_decimal n
    unfolding decimal_of
    printed = ap decimal_of at_pos ∙ ap unsigned_decimal (sym (size ∙ ap nat_abs at_pos))

  module _ (e : le_z (pos 0) (to_z w32 (of_z w32 z)) ≡ false) where
    at_neg : z ≡ negsuc (mag z)
    at_neg = is_below z (rw (same32 f) at e)

    pub printed_below : decimal_of z ≡ 45 ∷ unsigned_decimal n
    unfolding decimal_of
    printed_below = ap decimal_of at_neg ∙ ap (λ (k : ℕ). 45 ∷ unsigned_decimal k) (add-one (mag z) ∙ sym (size ∙ ap nat_abs at_neg))
