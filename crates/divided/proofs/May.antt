-- What the tests before the code say of an image, a state and a row. Assumes nothing.
use Prim.Native.Nat.{ℕ, ◌≤◌}
use native.Mathlib.Omega.{arith}
use mathlib.Core.Path.{◌≡◌, refl, ◌∙◌}
use mathlib.Core.Bool.{Bool, true, false, ◌&&◌}
use mathlib.Core.List.{List}
use lib.Dec.{eqb}
use lib.IntN.{ℤ}
use lib.ListN.{length}
use borrow.Author.Tests.{eqb-true}
use Rattle.before.specs.Before.{before_code, may_scan, tested_before}
use Rattle.arith.proofs.Basics.{and_both}
use Rattle.limits.specs.Limits.{image_limit, name_limit}
use Rattle.limits.specs.Answer.{Answer, accepted, refused}
use Rattle.semantics.specs.Formula.{State}
use Rattle.bytecode.specs.Check.{check_of}
use Rattle.bytecode.specs.Parts.{header_of, shape_in}
use Rattle.bytecode.proofs.Walk.{refused≢accepted, check_sound}
use Rattle.bytecode.proofs.Heading.{ranges_inside}
use Rattle.bytecode.proofs.Fetching.{number_within}
use Rattle.bytecode.proofs.SoundHeader.{header_is}
use Rattle.semantics.specs.Shape.{Shape, state_length, row_length, state_in_range, row_in_range}
use Rattle.scan.specs.Services.{refused_scan, scan_code, scan_of}
use Rattle.scan.proofs.Scans.{scan_is}

-- the code of a sound image
pub record Placed (image : List ℕ) : Type 0 where
  pub short : length image ≤ image_limit
  pub inside : (header_of image).place ≤ length image
  pub few : length (header_of image).ranges ≤ name_limit
  pub inputs : (header_of image).inputs ≤ length (header_of image).ranges

pub placed : (image : List ℕ) → check_of image ≡ accepted tt → Placed image
placed image e =
    let y = check_sound image e in
    let f = y.fits in
    let q : header_of image ≡ y.header = header_is image y in
    record {
      short = y.short;
      inside = rw q (ranges_inside image y.header.ranges f.at₂ y.header.place f.stands (number_within image f.at₁ f.variables f.at₂ f.variables_read).inside);
      few = rw q f.few;
      inputs = rw q (omega (arith, f.size));
    }

pub record May (image : List ℕ) (s : State) (row : List ℤ) : Type 0 where
  pub sound : check_of image ≡ accepted tt
  pub numbers : length s ≡ state_length (shape_in image)
  pub rows : length row ≡ row_length (shape_in image)
  pub whole : scan_of image s row ≡ scan_code image s row

module _ (image : List ℕ) (s : State) (row : List ℤ) where
  whole_scan : before_code image s row ≡ accepted tt → scan_of image s row ≡ scan_code image s row
  whole_scan e = scan_is image s row ∙ rw e

  pub may : before_code image s row ≡ accepted tt → May image s row
  unfolding before_code
  may e = checked (check_of image) refl e
    where
      h : Shape
      h = shape_in image

      ranged : check_of image ≡ accepted tt → (eqb (length s) (state_length h) && eqb (length row) (row_length h)) ≡ true → (a b : Bool) → state_in_range h s ≡ a → row_in_range h row ≡ b
          → tested_before a 18 (tested_before b 13 (accepted tt)) ≡ accepted tt → May image s row
      ranged k t true true x y q =
          let l = and_both (eqb (length s) (state_length h)) (eqb (length row) (row_length h)) t in
          record {
            sound = k;
            numbers = eqb-true (length s) (state_length h) l.0;
            rows = eqb-true (length row) (row_length h) l.1;
            whole = whole_scan e;
          }
      ranged k t true false x y q = refused≢accepted tt 13 0 q
      ranged k t false b x y q = refused≢accepted tt 18 0 q

      long : check_of image ≡ accepted tt → (t : Bool) → (eqb (length s) (state_length h) && eqb (length row) (row_length h)) ≡ t
          → tested_before t 12 (tested_before (state_in_range h s) 18 (tested_before (row_in_range h row) 13 (accepted tt))) ≡ accepted tt → May image s row
      long k true t q = ranged k t (state_in_range h s) (row_in_range h row) refl refl q
      long k false t q = refused≢accepted tt 12 0 q

      checked : (a : Answer (Unit {0})) → check_of image ≡ a → may_scan a (shape_in image) s row ≡ accepted tt → May image s row
      checked (accepted tt) k q = long k (eqb (length s) (state_length h) && eqb (length row) (row_length h)) refl q
      checked (refused n p) k q = refused≢accepted tt n p q

  -- refused before the code
  pub may_not : (n p : ℕ) → before_code image s row ≡ refused n p → scan_of image s row ≡ refused_scan n p 0 s
  may_not n p e = scan_is image s row ∙ rw e
