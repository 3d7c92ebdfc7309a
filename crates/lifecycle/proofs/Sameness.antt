-- Two lists compared, value by value. Assumes nothing.
use Prim.Native.Nat.{ℕ, suc}
use native.Mathlib.Omega.{arith}
use mathlib.Core.Path.{◌≡◌, refl, ap}
use mathlib.Core.Bool.{true, false, and-false}
use mathlib.Core.List.{List, [], ◌∷◌}
use lib.IntN.{ℤ}
use lib.ListN.{length}
use lib.Pointwise.{pointwise}
use Rattle.std.proofs.Common.{int_eq}
use Rattle.std.proofs.lemmas.Bool.Decides.{same_from_decides, Decides-int_eq}
use Rattle.arith.specs.Values.{eq_z}
use Rattle.arith.proofs.Basics.{and_both, eq_z_true, eq_z_self}
use Rattle.lifecycle.specs.Calls.{same_values}

pub differ_long : (a b : List ℤ) → (length a ≡ length b → ⊥) → same_values a b ≡ false
differ_long [] [] h = absurd (h refl)
differ_long [] (y ∷ b) h = refl
differ_long (x ∷ a) [] h = refl
differ_long (x ∷ a) (y ∷ b) h = rw (differ_long a b (λ e. h (omega arith))) (and-false (eq_z x y))

pub same_long : (a b : List ℤ) → same_values a b ≡ true → length a ≡ length b
same_long [] [] e = refl
same_long [] (y ∷ b) e = absurd (let z : ◌≡◌ {A = ℕ} 0 1 = cc in omega arith)
same_long (x ∷ a) [] e = absurd (let z : ◌≡◌ {A = ℕ} 0 1 = cc in omega arith)
same_long (x ∷ a) (y ∷ b) e = ap suc (same_long a b (and_both (eq_z x y) (same_values a b) e).1)

same_value : (x y : ℤ) → int_eq x y ≡ eq_z x y
same_value x y = same_from_decides (int_eq x y) (eq_z x y) (Decides-int_eq x y) (eq_z_true x y, λ e. rw e (eq_z_self y))

-- what `==` says of two slices
pub pointwise_same : (a b : List ℤ) → pointwise int_eq a b ≡ same_values a b
pointwise_same [] [] = refl
pointwise_same [] (y ∷ b) = refl
pointwise_same (x ∷ a) [] = refl
pointwise_same (x ∷ a) (y ∷ b) = rw (same_value x y, pointwise_same a b)
