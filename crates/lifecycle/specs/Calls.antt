-- A finish, a start and a post: what they answer and leave, for any memory. Document 02, A.8. Assumes nothing.
use Rattle.std.specs.Prelude.{ℕ, ◌+◌, Bool, true, false, ◌&&◌, cond, List, [], ◌∷◌, eqb, ℤ, pos, length, take, set}
use Rattle.std.proofs.Math.Option.{Option, none, some}
use Rattle.std.proofs.lemmas.List.Edits.{sets}
use Rattle.limits.specs.Limits.{wrong_length, paused_length, state_differs}
use Rattle.limits.specs.Answer.{Answer, accepted, refused}
use Rattle.arith.specs.Values.{ok, eq_z}
use Rattle.semantics.specs.Formula.{State}
use Rattle.semantics.specs.ReferenceScan.{with_inputs}
use Rattle.bytecode.specs.Check.{check_of}
use Rattle.bytecode.specs.Parts.{header_of, code_of, shape_in, lows, highs}
use Rattle.machine.specs.Step.{machine}
use Rattle.semantics.specs.Shape.{Shape, name_count, row_length, setting_of}
use Rattle.before.specs.Before.{tested_before, before_code}
use Rattle.paused.specs.declared.Checkpoint.{Checkpoint}
use Rattle.paused.specs.declared.Layout.{Layout}
use Rattle.paused.specs.declared.Response.{Response}
use Rattle.paused.specs.declared.Response.TheVariants as R
use Rattle.paused.specs.Memory.{waiting_place, row_place, start_place, current_place, low_place, high_place, slice, checkpoint_of, layout_of, bits_of, with_layout, waiting_of}
use Rattle.resumable.specs.Instalment.{AfterCall, after_call, sized, left_after}

-- ---- finish

-- The state is lent at the start and again at the finish, and is written only then.
pub record AfterFinish : Type 0 where
  pub reply : Response
  pub cells : List ℤ
  pub state : State

abbrev pub after_finish : Response → List ℤ → State → AfterFinish
after_finish r cells s = record { reply = r; cells = cells; state = s }

-- the scan is over
abbrev pub without_scan : List ℤ → List ℤ
without_scan cells = set cells 0 (pos 0)

-- 24 a state at the finish that differs, in length too, from the one at the start
abbrev pub same_values : List ℤ → List ℤ → Bool
same_values [] [] = true
same_values [] (y ∷ ys) = false
same_values (x ∷ xs) [] = false
same_values (x ∷ xs) (y ∷ ys) = eq_z x y && same_values xs ys

-- A finish too early answers unfinished; after a refusal, that refusal, and the scan is over. A finish without a scan answers idle. 24 comes
-- after unfinished and the scan's own refusal; the scan still awaits its finish.
abbrev pub finish_with : Checkpoint → ℕ → State → List ℤ → AfterFinish
finish_with p size s cells =
    cond (eqb p.phase 0) (after_finish R.Idle cells s)
    (cond (eqb p.phase 1) (after_finish (R.Unfinished 0) cells s)
    (cond (eqb p.phase 2)
    (cond (same_values s (slice start_place size cells))
    (after_finish (R.Done p.steps) (without_scan cells) (slice current_place size cells))
    (after_finish (R.Refused state_differs 0 0) cells s))
    (after_finish (R.Refused p.number 0 p.steps) (without_scan cells) s)))

unfoldable pub finish_of : State → List ℤ → AfterFinish
finish_of s cells = cond (eqb (length cells) paused_length) (finish_with (checkpoint_of cells) (layout_of cells).size s cells) (after_finish R.Idle cells s)

-- ---- start

-- what instalments ask of an image, a state and a row
abbrev pub layout_for : List ℕ → State → List ℤ → Layout
layout_for image s row =
    record {
      image = length image;
      base = (header_of image).place;
      size = length s;
      names = name_count (shape_in image);
      millis = (setting_of (shape_in image) row).millis;
      timers = bits_of (setting_of (shape_in image) row).timers;
    }

abbrev pub formed : List ℕ → State → List ℤ → List ℤ → List ℤ
formed image s row cells =
    let ns = (setting_of (shape_in image) row).ranges in
    with_layout (layout_for image s row) (sets (sets (sets cells low_place (lows ns)) high_place (highs ns)) start_place s)

-- before the first instruction; an empty code is at its end
abbrev pub started_in : List ℕ → State → List ℤ → List ℤ → List ℤ
started_in image s row cells =
    left_after 0 (length (code_of image)) 0 0 (ok (machine false false [] (with_inputs s (take (shape_in image).inputs row)))) (formed image s row cells)

-- A start takes the waiting row
abbrev pub row_taken : List ℤ → List ℤ
row_taken cells = set cells waiting_place (pos 0)

-- a refusal and what it leaves, or what follows
abbrev pub or_refused : Answer (Unit {0}) → List ℤ → AfterCall → AfterCall
or_refused (refused number place) left a = after_call (R.Refused number place 0) left
or_refused (accepted u) left a = a

-- and makes the scan's tests before the code; a refusal there is answered at once, and the scan is over.
abbrev pub start_with : List ℕ → State → Option (List ℤ) → List ℤ → AfterCall
start_with image s none cells = after_call R.Idle cells
start_with image s (some row) cells = or_refused (before_code image s row) (row_taken cells) (after_call (R.Done 0) (started_in image s row (row_taken cells)))

-- A start before the last scan is over answers unfinished; any other without a waiting row answers idle; then nothing moves.
unfoldable pub begin_of : List ℕ → State → List ℤ → AfterCall
begin_of image s cells = sized cells (cond (eqb (checkpoint_of cells).phase 0) (start_with image s (waiting_of cells) cells) (after_call (R.Unfinished 0) cells))

-- ---- post

-- It waits for the next scan, a later one replaces it, and it has no effect on the scan in progress.
abbrev pub with_row : List ℤ → List ℤ → List ℤ
with_row row cells = set (sets cells row_place row) waiting_place (pos (length row + 1))

-- Posting is lent the image and tests 9, 11, then 12 for the row;
abbrev pub may_post : Answer (Unit {0}) → Shape → List ℤ → Answer (Unit {0})
may_post (refused number place) k row = refused number place
may_post (accepted u) k row = tested_before (eqb (length row) (row_length k)) wrong_length (accepted tt)

-- a refused one replaces nothing.
unfoldable pub post_of : List ℕ → List ℤ → List ℤ → AfterCall
post_of image row cells = sized cells (or_refused (may_post (check_of image) (shape_in image) row) cells (after_call (R.Done 0) (with_row row cells)))
