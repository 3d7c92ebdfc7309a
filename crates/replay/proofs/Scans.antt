-- What the running code records of scans, one after the other. Assumes nothing.
use Prim.Native.Nat.{ℕ, suc, ◌+◌, ◌-◌, ◌≤◌, ◌<◌, min}
use mathlib.Core.Path.{◌≡◌, refl, sym, ap, ◌∙◌}
use mathlib.Core.Bool.{Bool, true, false}
use mathlib.Core.List.{List}
use native.Mathlib.Omega.{arith}
use native.Mathlib.Numerals.{add-one}
use lib.Dec.{leb}
use lib.IntN.{ℤ}
use lib.ListN.{length, take, drop, set, get_or, length-drop, drop_of_length-le}
use lib.Seq.{sets, drop-cons, drop-drop, take_all, length-sets}
use borrow.Author.Tests.{leb-true, leb-false}
use Rattle.semantics.specs.Formula.{State}
use Rattle.scan.specs.declared.Scanned.TheVariants as R
use Rattle.scan.specs.Services.{AfterScan, scan_of}
use Rattle.scan.specs.Results.{after_scan}
use Rattle.leb128.proofs.Stores.{drop_clip}
use Rattle.replay.specs.Replay.{rows_of}
use Rattle.replay.specs.Inner.Records.{Records, records, record_scan, scan_rows}

-- ---- parts that are clipped

-- a part that ends no further than the list does
pub take_clipped : {A : Type 0} (from n end : ℕ) (l : List A) → end ≡ min (from + n) (length l) → take (end - from) (drop from l) ≡ take n (drop from l)
take_clipped from n end l e = by (leb n (length (drop from l))) (leb-true n (length (drop from l))) (leb-false n (length (drop from l)))
  where
    by : (t : Bool) → (t ≡ true → n ≤ length (drop from l)) → (t ≡ false → length (drop from l) < n) → take (end - from) (drop from l) ≡ take n (drop from l)
    by true y m =
        let h : n ≤ length l - from = omega (arith, y refl, length-drop from l) in
        let q : end - from ≡ n = omega arith in
        rw q
    by false y m =
        let h : length (drop from l) < n = m refl in
        let k : length (drop from l) ≤ end - from = omega (arith, length-drop from l) in
        take_all (end - from) (drop from l) k ∙ sym (take_all n (drop from l) (omega arith))

-- ---- one scan

module _ (image : List ℕ) (row : List ℤ) (i p : ℕ) (s s₁ : State) (numbers numbers₁ steps steps₁ : List ℕ) (trace : List ℤ) where
  pub row_done : (n : ℕ) (trace₁ : List ℤ) (place : ℕ) → after_scan (R.Done n) s₁ ≡ scan_of image s row → numbers₁ ≡ set numbers i 0
      → steps₁ ≡ set steps i n → trace₁ ≡ sets trace p s₁ → place ≡ min (p + length s₁) (length trace)
      → records s₁ numbers₁ steps₁ trace₁ place ≡ record_scan i (scan_of image s row) (records s numbers steps trace p)
  unfolding record_scan
  row_done n trace₁ place f h k t l = rw (← f, h, k, t, l)

  pub row_refused : (number at n : ℕ) → after_scan (R.Refused number at n) s₁ ≡ scan_of image s row → numbers₁ ≡ set numbers i number
      → steps₁ ≡ set steps i n → p ≤ length trace
      → records s₁ numbers₁ steps₁ trace p ≡ record_scan i (scan_of image s row) (records s numbers steps trace p)
  unfolding record_scan
  row_refused number at n f h k l =
      let q : min (p + 0) (length trace) ≡ p = omega arith in
      rw (← f, h, k, q)

-- ---- the rows that are left

-- the first i rows, which are the cells before `cell`, are scanned; what is left to do makes the whole
pub record Scanning (image : List ℕ) (cells : List ℤ) (lengths : List ℕ) (first : Records) (i cell : ℕ) (m : Records) : Type 0 where
  pub inside : cell ≤ length cells
  pub room : m.place ≤ length m.trace
  pub so : scan_rows image i (rows_of (drop cell cells) (drop i lengths)) m ≡ scan_rows image 0 (rows_of cells lengths) first

recorded_room : (i : ℕ) (a : AfterScan) (m : Records) → (record_scan i a m).place ≤ length (record_scan i a m).trace
unfolding record_scan
recorded_room i a m = simp length-sets (omega arith)

module _ {image : List ℕ} {cells : List ℤ} {lengths : List ℕ} {first : Records} {i cell : ℕ} {m : Records} (g : Scanning image cells lengths first i cell m) where
  pub scanning_goes : (end : ℕ) (m₁ : Records) → i < length lengths → end ≡ min (cell + get_or lengths i 0) (length cells)
      → m₁ ≡ record_scan i (scan_of image m.state (take (end - cell) (drop cell cells))) m → Scanning image cells lengths first (i + 1) end m₁
  scanning_goes end m₁ h e r =
      let n = get_or lengths i 0 in
      let row : take (end - cell) (drop cell cells) ≡ take n (drop cell cells) = take_clipped cell n end cells e in
      let rest : drop end cells ≡ drop n (drop cell cells) = rw e (drop_clip (cell + n) cells ∙ sym (drop-drop n cell cells)) in
      let more : drop (i + 1) lengths ≡ drop (suc i) lengths = ap (λ (j : ℕ). drop j lengths) (add-one i) in
      record {
        inside = omega arith;
        room = rw r (recorded_room i _ m);
        so = rw (r, row, rest, more) (rw (drop-cons lengths i 0 h) at g.so);
      }

  pub scanning_ends : length lengths ≤ i → m ≡ scan_rows image 0 (rows_of cells lengths) first
  scanning_ends h = rw (drop_of_length-le lengths {i = i} h) at g.so
