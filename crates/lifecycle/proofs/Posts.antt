-- The tests of a post. Assumes nothing.
use Prim.Native.Nat.{ℕ, ◌+◌}
use mathlib.Core.Path.{◌≡◌}
use mathlib.Core.List.{List}
use lib.Dec.{eqb}
use lib.IntN.{ℤ, pos}
use lib.ListN.{length, set}
use lib.Seq.{sets}
use borrow.Author.Tests.{eq-eqb, ne_eqb}
use Rattle.before.specs.Before.{tested_before}
use Rattle.limits.specs.Limits.{wrong_length, paused_length}
use Rattle.limits.specs.Answer.{accepted, refused}
use Rattle.bytecode.specs.Check.{check_of}
use Rattle.bytecode.specs.Parts.{shape_in}
use Rattle.semantics.specs.Shape.{row_length}
use Rattle.paused.specs.declared.Response.TheVariants as R
use Rattle.paused.specs.Memory.{row_place, waiting_place}
use Rattle.resumable.specs.Instalment.{AfterCall, after_call}
use Rattle.lifecycle.specs.Calls.{or_refused, with_row, post_of}

-- 12, or the row
abbrev pub row_posted : ℕ → List ℤ → List ℤ → AfterCall
row_posted len row cells = or_refused (tested_before (eqb (length row) len) wrong_length (accepted tt)) cells (after_call (R.Done 0) (with_row row cells))

pub row_wrong : (len : ℕ) (row cells : List ℤ) → (length row ≡ len → ⊥) → after_call (R.Refused 12 0 0) cells ≡ row_posted len row cells
row_wrong len row cells h = rw (ne_eqb (length row) len h)

pub row_done : (len : ℕ) (row cells : List ℤ) → length row ≡ len → (a b : List ℤ) → a ≡ sets cells row_place row → b ≡ set a waiting_place (pos (length row + 1)) → after_call (R.Done 0) b ≡ row_posted len row cells
row_done len row cells h a b e f = rw (eq-eqb (length row) len h, f, e)

module _ (image : List ℕ) (row cells : List ℤ) where
  pub post_elsewhere : (length cells ≡ paused_length → ⊥) → after_call R.Idle cells ≡ post_of image row cells
  unfolding post_of
  post_elsewhere h = rw (ne_eqb (length cells) paused_length h)

  pub post_refused : length cells ≡ paused_length → (n p : ℕ) → check_of image ≡ refused n p → after_call (R.Refused n p 0) cells ≡ post_of image row cells
  unfolding post_of
  post_refused l n p e = rw (eq-eqb (length cells) paused_length l, e)

  pub post_sound : length cells ≡ paused_length → check_of image ≡ accepted tt → (len : ℕ) → len ≡ row_length (shape_in image) → row_posted len row cells ≡ post_of image row cells
  unfolding post_of
  post_sound l e len h = rw (eq-eqb (length cells) paused_length l, e, h)
