-- Bytes put into a buffer one run after the other. Assumes nothing.
use mathlib.Core.Path.{◌≡◌, refl, sym, ap, subst, ◌∙◌}
use mathlib.Core.Bool.{Bool, true, false}
use mathlib.Core.List.{List, [], ◌++◌}
use Prim.Native.Nat.{ℕ, ◌+◌, ◌-◌, ◌≤◌, ◌<◌, min}
use native.Mathlib.Omega.{arith}
use lib.Dec.{leb}
use lib.ListN.{length, take, drop, length-append, take-append-drop}
use lib.Seq.{sets, sets-eq, length-sets, paste, take_all, length-take-le}
use borrow.Author.Tests.{leb-true, leb-false}
use borrow.Rule.Slice.PartMut.{put_mid}
use Rattle.std.proofs.lemmas.Slice.{put_mid-paste}
use Rattle.leb128.proofs.Stores.{sets_append, sets_clip, sets_past}
use Rattle.trace_text.specs.Output.{Put}

-- ---- a run of stores as one copy: k of them have room

pub sets_part : {A : Type 0} (l xs : List A) (at k : ℕ) → at ≤ length l → k ≡ min (length xs) (length l - at) → sets l at xs ≡ paste l at (take k xs) k
sets_part l xs at k h e = by (leb (length xs) k) (leb-true (length xs) k) (leb-false (length xs) k) where
  n : length (take k xs) ≡ k
  n = length-take-le k xs (omega arith)

  front : sets l at (take k xs) ≡ paste l at (take k xs) k
  front = rw (take_all k (take k xs) (omega (arith, n))) (sets-eq (take k xs) l at (omega (arith, n)) ∙ (rw n))

  by : (t : Bool) → (t ≡ true → length xs ≤ k) → (t ≡ false → k < length xs) → sets l at xs ≡ paste l at (take k xs) k
  by true y f = ap (sets l at) (sym (take_all k xs (y refl))) ∙ front
  by false y f =
      let g = f refl in
      ap (sets l at) (sym (take-append-drop k xs)) ∙ sets_append l at (take k xs) (drop k xs)
      ∙ sets_past (sets l at (take k xs)) _ (drop k xs) (rw length-sets (omega (arith, n)))
      ∙ front

-- ---- puts

pub put_nothing : (l : List ℕ) (at : ℕ) → Put l at [] l (min at (length l))
put_nothing l at = record { memory = refl; place = ap (λ (k : ℕ). min k (length l)) (omega arith) }

pub put_length : {l : List ℕ} {at : ℕ} {xs k : List ℕ} {p : ℕ} → Put l at xs k p → length k ≡ length l
put_length {l} {at} {xs} h = ap length h.memory ∙ length-sets l at xs

-- the place behind is in the buffer
pub put_inside : {l : List ℕ} {at : ℕ} {xs k : List ℕ} {p : ℕ} → Put l at xs k p → p ≤ length l
put_inside h = let e = h.place in omega arith

-- what is put behind
module _ {l : List ℕ} {at : ℕ} {xs k : List ℕ} {p : ℕ} (h : Put l at xs k p) (ys : List ℕ) where
  pub put_sets : sets k p ys ≡ sets l at (xs ++ ys)
  put_sets =
      ap (λ (n : ℕ). sets k n ys) (h.place ∙ ap (min (at + length xs)) (sym (put_length h)))
      ∙ sets_clip k (at + length xs) ys
      ∙ ap (λ (m : List ℕ). sets m (at + length xs) ys) h.memory
      ∙ sym (sets_append l at xs ys)

  pub put_place : min (p + length ys) (length k) ≡ min (at + length (xs ++ ys)) (length l)
  put_place = let e = h.place in rw length-append (omega (arith, put_length h))

pub put_then : {l : List ℕ} {at : ℕ} {xs k : List ℕ} {p : ℕ} {ys m : List ℕ} {q : ℕ} → Put l at xs k p → Put k p ys m q → Put l at (xs ++ ys) m q
put_then {ys} h g = record { memory = g.memory ∙ put_sets h ys; place = g.place ∙ put_place h ys }

-- the same bytes
pub put_as : {l : List ℕ} {at : ℕ} {xs ys k : List ℕ} {p : ℕ} → Put l at xs k p → xs ≡ ys → Put l at ys k p
put_as {l} {at} {xs} {ys} {k} {p} h e = subst (λ (zs : List ℕ). Put l at zs k p) e h

-- from a place past the end as from the end
pub put_clip : {l : List ℕ} {at : ℕ} {xs k : List ℕ} {p : ℕ} → Put l (min at (length l)) xs k p → Put l at xs k p
put_clip {l} {at} {xs} h = let e = h.place in record { memory = h.memory ∙ sets_clip l at xs; place = omega arith }

-- a copy of as much as there is room for
pub put_copied : (l : List ℕ) (at : ℕ) (xs : List ℕ) (p k : ℕ) {ys : List ℕ} → p ≡ min at (length l) → k ≡ min (length xs) (length l - p) → ys ≡ take k xs
    → Put l at xs (put_mid p (p + k - p) l ys) (p + k)
put_copied l at xs p k {ys} e f g =
    let n : length (take k xs) ≡ k = length-take-le k xs (omega arith) in
    put_clip (record {
      memory = put_mid-paste p (p + k - p) l ys (take k xs) k g (omega arith) (sym n) ∙ sym (sets_part l xs p k (omega arith) f) ∙ ap (λ (i : ℕ). sets l i xs) e;
      place = omega arith;
    })

-- ---- a run of bytes that is being put: what is left of it makes the whole
pub record Putting (l : List ℕ) (at : ℕ) (all : List ℕ) (k : List ℕ) (p : ℕ) (rest : List ℕ) : Type 0 where
  pub memory : sets k p rest ≡ sets l at all
  pub place : min (p + length rest) (length k) ≡ min (at + length all) (length l)
  pub same : length k ≡ length l
  pub inside : p ≤ length k

pub putting : (l : List ℕ) (at : ℕ) (all : List ℕ) → at ≤ length l → Putting l at all l at all
putting l at all h = record { memory = refl; place = refl; same = refl; inside = h }

module _ {l : List ℕ} {at : ℕ} {all k : List ℕ} {p : ℕ} where
  pub putting_next : {rest : List ℕ} (xs : List ℕ) {ys : List ℕ} → Putting l at all k p rest → rest ≡ xs ++ ys → {m : List ℕ} {q : ℕ} → Put k p xs m q → Putting l at all m q ys
  putting_next xs {ys} h e g =
      let i = put_inside g in
      record {
        memory = put_sets g ys ∙ ap (sets k p) (sym e) ∙ h.memory;
        place = put_place g ys ∙ ap (λ (r : List ℕ). min (p + length r) (length k)) (sym e) ∙ h.place;
        same = put_length g ∙ h.same;
        inside = omega (arith, put_length g);
      }

  pub putting_done : {rest : List ℕ} → Putting l at all k p rest → rest ≡ [] → Put l at all k p
  putting_done h e =
      let f = rw e at h.place in
      record { memory = rw e at h.memory; place = omega arith }
