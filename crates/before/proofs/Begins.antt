-- The tests before the code of any image, and what the run of its code then has. Assumes nothing.
use Prim.Native.Nat.{ℕ, ◌^◌, ◌≤◌, ◌<◌}
use native.Mathlib.Omega.{arith}
use mathlib.Core.Path.{◌≡◌, sym, ◌∙◌, refl}
use mathlib.Core.Bool.{Bool, true, false, ◌&&◌}
use mathlib.Core.List.{List}
use lib.Dec.{eqb}
use lib.IntN.{ℤ}
use lib.ListN.{length, take}
use borrow.Author.Tests.{eq-eqb}
use Rattle.std.specs.Prelude.{Result, Ok, Err}
use Rattle.limits.specs.declared.Refusal.{Refusal}
use Rattle.limits.specs.Answer.{accepted, refused, Answer}
use Rattle.semantics.specs.Formula.{State}
use Rattle.semantics.specs.Shape.{state_length, row_length}
use Rattle.bytecode.specs.Check.{check_of}
use Rattle.bytecode.specs.Parts.{shape_in}
use Rattle.bytecode.proofs.Walk.{refused≢accepted}
use Rattle.shapes.specs.declared.Measured.{Measured}
use Rattle.before.specs.declared.Code.{Code}
use Rattle.before.specs.Before.{tested_before, before_code, may_scan}
use Rattle.before.specs.Inner.Known.{tested_row, PreparedBy, tested_length, KnownImage, BegunBy}

module _ (image : List ℕ) (s : State) (row : List ℤ) where
  -- what is refused before the row is looked at
  pub before_for : (n p : ℕ) → refused n p ≡ tested_length (check_of image) (shape_in image) (length s) → refused n p ≡ before_code image s row
  unfolding before_code
  before_for n p = go (check_of image)
    where
      by : (b d : Bool) (a : Answer (Unit {0})) → refused n p ≡ tested_before b 12 (accepted tt) → refused n p ≡ tested_before (b && d) 12 a
      by true d a e = refused≢accepted tt n p e
      by false d a e = e

      go : (a : Answer (Unit {0})) → refused n p ≡ tested_length a (shape_in image) (length s) → refused n p ≡ may_scan a (shape_in image) s row
      go (refused number place) e = e
      go (accepted u) e = by (eqb (length s) (state_length (shape_in image))) (eqb (length row) (row_length (shape_in image))) _ e

  -- a state of its length
  pub before_rest : check_of image ≡ accepted tt → length s ≡ state_length (shape_in image) → tested_row (shape_in image) s row ≡ before_code image s row
  unfolding before_code
  before_rest sound h = rw (sound, eq-eqb (length s) (state_length (shape_in image)) h)

-- an image that passes the tests is sound
pub tests_sound : (image : List ℕ) (s : State) (row : List ℤ) → accepted tt ≡ before_code image s row → check_of image ≡ accepted tt
unfolding before_code
tests_sound image s row e = go (check_of image) refl (sym e)
  where
    go : (a : Answer (Unit {0})) → check_of image ≡ a → may_scan a (shape_in image) s row ≡ accepted tt → check_of image ≡ accepted tt
    go (accepted tt) h q = h
    go (refused n p) h q = refused≢accepted tt n p q

-- what a start keeps, by the answer: the parts of the lent memory that were used, and the rest as it was
pub begun_by : (image : List ℕ) (s : State) (row low high work part : List ℤ) (m : Measured) → length s ≡ m.size → length s ≤ 127
    → KnownImage image m s (take m.size low) (take m.size high) → m.timers < 2 ^ m.names → take m.size work ≡ part
    → (r : Result Code Refusal) → PreparedBy (shape_in image) m s row part r → BegunBy image s row low high work r
begun_by image s row low high work part m l few k t w (Ok r) c =
    let x = k.shape in
    let y = c.1 in
    record {
      numbers = k.numbers;
      few = few;
      code = c.0 ∙ k.code;
      inside = omega (arith, c.0, k.inside);
      lowest = rw l (sym x.ranges.lows);
      highest = rw l (sym x.ranges.highs);
      copied = rw l w ∙ y.copied;
      timed = y.timed;
      names = y.names_are ∙ sym x.names_are;
      low_timers = rw (y.names_are, y.timers_are) t;
      short = y.short;
    }
begun_by image s row low high work part m l few k t w (Err r) c = omega (arith, c)
