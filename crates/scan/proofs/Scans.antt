-- A scan is its tests before the code, then the code. Assumes nothing.
use mathlib.Core.Path.{◌≡◌, refl, sym, ◌∙◌}
use mathlib.Core.Bool.{Bool, true, false, ◌&&◌}
use mathlib.Core.List.{List}
use Prim.Native.Nat.{ℕ}
use native.Mathlib.Omega.{arith}
use lib.Dec.{eqb}
use lib.IntN.{ℤ}
use lib.ListN.{length, take, drop, length-drop}
use Rattle.limits.specs.Answer.{Answer, accepted, refused}
use Rattle.semantics.specs.Formula.{State}
use Rattle.semantics.specs.Shape.{Shape, state_length, row_length, state_in_range, row_in_range, setting_of}
use Rattle.semantics.specs.ReferenceScan.{with_inputs}
use Rattle.bytecode.specs.Check.{check_of}
use Rattle.bytecode.specs.Parts.{header_of, code_of, shape_in}
use Rattle.bytecode.proofs.Walk.{check_sound}
use Rattle.before.specs.Before.{tested_before, may_scan, before_code}
use Rattle.scan.specs.Services.{AfterScan, scan_code, tested_scan, scanned, scan_of}
use Rattle.scan.specs.Results.{after_scan, ScannedWithin}
use Rattle.scan.specs.Inner.Parts.{scanned_over, scanned_by}
use Rattle.scan.specs.declared.Scanned.{Scanned}
use Rattle.scan.specs.declared.Scanned.TheVariants as R

tested_is : (b : Bool) (k : ℕ) (found : State) (a : Answer (Unit {0})) (x y : AfterScan) → y ≡ scanned_by a found x → tested_scan b k found y ≡ scanned_by (tested_before b k a) found x
tested_is true k found a x y e = e
tested_is false k found a x y e = refl

scanned_is : (a : Answer (Unit {0})) (k : Shape) (image : List ℕ) (found : State) (row : List ℤ) → scanned a k image found row ≡ scanned_by (may_scan a k found row) found (scan_code image found row)
scanned_is (refused number place) k image found row = refl
scanned_is (accepted u) k image found row =
    tested_is (eqb (length found) (state_length k) && eqb (length row) (row_length k)) 12 found _ (scan_code image found row) _
    (tested_is (state_in_range k found) 18 found _ (scan_code image found row) _ (tested_is (row_in_range k row) 13 found (accepted tt) (scan_code image found row) (scan_code image found row) refl))

pub scan_is : (image : List ℕ) (found : State) (row : List ℤ) → scan_of image found row ≡ scanned_by (before_code image found row) found (scan_code image found row)
unfolding scan_of before_code
scan_is image found row = scanned_is (check_of image) (shape_in image) image found row

module _ (image : List ℕ) (found : State) (row : List ℤ) where
  -- what the tests before the code refuse
  pub tests_refuse : (number place : ℕ) → refused number place ≡ before_code image found row → after_scan (R.Refused number place 0) found ≡ scan_of image found row
  tests_refuse number place e = sym (scan_is image found row ∙ rw (← e))

  -- where they pass, the run of the code over a copy of the state that holds the row's inputs
  pub tests_pass : accepted tt ≡ before_code image found row → (place : ℕ) (cur : State) → place ≡ (header_of image).place → cur ≡ with_inputs found (take (shape_in image).inputs row)
      → scanned_over (setting_of (shape_in image) row) (drop place image) found cur ≡ scan_of image found row
  unfolding scan_code code_of
  tests_pass e place cur p c = sym (scan_is image found row ∙ rw (← e, p, c))

-- a code's steps are within the image's limit
pub within_image : (image : List ℕ) (place : ℕ) → check_of image ≡ accepted tt → (r : Scanned) → ScannedWithin (length (drop place image)) r → ScannedWithin 65536 r
within_image image place sound (R.Done n) h = omega (arith, h, length-drop place image, (check_sound image sound).short)
within_image image place sound (R.Refused number at n) h = (omega (arith, h.0, length-drop place image, (check_sound image sound).short), omega (arith, h.1, length-drop place image, (check_sound image sound).short))
