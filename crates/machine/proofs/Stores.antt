-- A run of stores that is cut at a list's end. Assumes nothing.
use mathlib.Core.Path.{◌≡◌, refl, sym, ap, ◌∙◌}
use mathlib.Core.Bool.{Bool, true, false}
use mathlib.Core.List.{List}
use Prim.Native.Nat.{ℕ, ◌+◌, ◌-◌, ◌≤◌, ◌<◌, min}
use native.Mathlib.Omega.{arith}
use lib.Dec.{leb}
use lib.ListN.{length, take, drop, length-take, drop_of_length-le}
use lib.Seq.{sets, sets-eq, length-sets, take_all}
use borrow.Author.Tests.{leb-true, leb-false}
use borrow.Rule.Slice.PartMut.{put_mid}
use Rattle.std.proofs.lemmas.List.{take-append-drop}
use Rattle.std.proofs.lemmas.Slice.{put_mid-paste}
use Rattle.leb128.proofs.Stores.{sets_past, sets_append}

module _ {A : Type 0} (l values : List A) (i n : ℕ) (h : i ≤ length l) (e : n ≡ min (i + length values) (length l) - i) where
  fits : length (take n values) ≡ n
  fits = simp length-take (omega arith)

  -- what is cut off would be stored past the end
  rest_past : sets (sets l i (take n values)) (i + length (take n values)) (drop n values) ≡ sets l i (take n values)
  rest_past = by (leb (length values) n) (leb-true (length values) n) (leb-false (length values) n)
    where
      by : (t : Bool) → (t ≡ true → length values ≤ n) → (t ≡ false → n < length values) → sets (sets l i (take n values)) (i + length (take n values)) (drop n values) ≡ sets l i (take n values)
      by true y m = rw (drop_of_length-le values (y refl))
      by false y m = let k = m refl in sets_past (sets l i (take n values)) _ (drop n values) (rw length-sets (omega (arith, fits)))

  -- a part of a list written over by as much of the values as it holds
  pub put_cut : put_mid i n l (take n values) ≡ sets l i values
  put_cut =
      put_mid-paste i n l (take n values) (take n values) n refl refl (sym fits)
      ∙ (rw (take_all n (take n values) (omega (arith, fits))) (sym (rw fits at (sets-eq (take n values) l i (omega (arith, fits)))))
      ∙ (sym rest_past ∙ (sym (sets_append l i (take n values) (drop n values)) ∙ ap (sets l i) (take-append-drop n values))))
