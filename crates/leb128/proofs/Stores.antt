-- Runs of stores, as writers put one behind the other. Assumes nothing.
use mathlib.Core.Path.{◌≡◌, refl, sym, ap, ◌∙◌}
use mathlib.Core.Bool.{Bool, true, false}
use mathlib.Core.List.{List, [], ◌∷◌, ◌++◌}
use Prim.Native.Nat.{ℕ, suc, ◌+◌, ◌≤◌, ◌<◌, min, zero, ◌-◌}
use native.Mathlib.Omega.{arith}
use lib.Dec.{leb}
use lib.ListN.{length, take, drop, set, length-drop}
use lib.Seq.{sets, sets-eq, set_out, set_comm, take_at, take-nil, drop-nil, take_all}
use borrow.Author.Tests.{leb-true, leb-false}
use native.Mathlib.Nat.{min-zero, zero-min, suc-min-suc}

module _ {A : Type 0} where
  -- past the end nothing is stored
  pub sets_past : (l : List A) (i : ℕ) (vs : List A) → length l ≤ i → sets l i vs ≡ l
  sets_past l i [] h = refl
  sets_past l i (v ∷ vs) h = rw (set_out l i v h) (sets_past l (suc i) vs (omega arith))

  pub sets_append : (l : List A) (i : ℕ) (xs ys : List A) → sets l i (xs ++ ys) ≡ sets (sets l i xs) (i + length xs) ys
  sets_append l i [] ys = ap (λ (k : ℕ). sets l k ys) (omega arith)
  sets_append l i (x ∷ xs) ys = sets_append (set l i x) (suc i) xs ys ∙ ap (λ (k : ℕ). sets (sets l i (x ∷ xs)) k ys) (omega arith)

  -- a place past the end may be taken for the end
  pub sets_clip : (l : List A) (i : ℕ) (vs : List A) → sets l (min i (length l)) vs ≡ sets l i vs
  sets_clip l i vs = by (leb i (length l)) (leb-true i (length l)) (leb-false i (length l)) where
    by : (t : Bool) → (t ≡ true → i ≤ length l) → (t ≡ false → length l < i) → sets l (min i (length l)) vs ≡ sets l i vs
    by true y n = let h = y refl in ap (λ (k : ℕ). sets l k vs) (omega arith)
    by false y n = let h = n refl in sets_past l (min i (length l)) vs (omega arith) ∙ sym (sets_past l i vs (omega arith))

  pub take_clip : (n : ℕ) (l : List A) → take (min n (length l)) l ≡ take n l
  take_clip n [] = rw (min-zero n) (sym (take-nil n))
  take_clip zero (x ∷ l) = rw (zero-min (suc (length l)))
  take_clip (suc n) (x ∷ l) = rw (suc-min-suc n (length l)) (ap (λ r. x ∷ r) (take_clip n l))

  pub drop_clip : (n : ℕ) (l : List A) → drop (min n (length l)) l ≡ drop n l
  drop_clip n [] = rw (min-zero n) (sym (drop-nil n))
  drop_clip zero (x ∷ l) = rw (zero-min (suc (length l)))
  drop_clip (suc n) (x ∷ l) = rw (suc-min-suc n (length l)) (drop_clip n l)

  -- the rest of a list behind a place
  pub rest_of : (l : List A) (place : ℕ) → take (length l - place) (drop place l) ≡ drop place l
  rest_of l place = take_all (length l - place) (drop place l) (omega (arith, length-drop place l))

  -- a run from the start of a list that has room for it, and what is then found there
  pub sets_front : (l xs : List A) → length xs ≤ length l → sets l 0 xs ≡ xs ++ drop (length xs) l
  sets_front l xs h = let z : 0 + length xs ≡ length xs = omega arith in sets-eq xs l 0 (omega arith) ∙ ap (λ (k : ℕ). xs ++ drop k l) z

  pub take_sets : (l xs : List A) → length xs ≤ length l → take (length xs) (sets l 0 xs) ≡ xs
  take_sets l xs h = rw (sets_front l xs h) (take_at xs (drop (length xs) l) (length xs) refl)

  -- a store before a run goes first
  pub set_before : (l : List A) (i j : ℕ) (v : A) (xs : List A) → j < i → set (sets l i xs) j v ≡ sets (set l j v) i xs
  set_before l i j v [] h = refl
  set_before l i j v (x ∷ xs) h =
      set_before (set l i x) (suc i) j v xs (omega arith)
      ∙ ap (λ (k : List A). sets k (suc i) xs) (set_comm l i j x v (λ e. let f : ⊥ = omega arith in absurd f))
