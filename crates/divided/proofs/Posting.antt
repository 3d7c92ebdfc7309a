-- A post agrees with what is expected. Assumes nothing.
use Prim.Native.Nat.{ℕ, ◌≤◌}
use native.Mathlib.Omega.{arith}
use mathlib.Core.Path.{◌≡◌, refl, ap, ◌∙◌}
use mathlib.Core.Bool.{Bool, true, false}
use mathlib.Core.List.{List}
use mathlib.Core.Option.{Option, none, some}
use lib.Dec.{eqb}
use lib.IntN.{ℤ}
use lib.ListN.{length}
use borrow.Author.Tests.{eq-eqb, eqb-true}
use Rattle.before.specs.Before.{tested_before}
use Rattle.limits.specs.Limits.{name_limit, stack_limit, paused_length}
use Rattle.limits.specs.Answer.{Answer, accepted, refused}
use Rattle.arith.specs.Values.{Outcome, ok, refusal}
use Rattle.bytecode.specs.Check.{check_of}
use Rattle.bytecode.specs.Parts.{shape_in}
use Rattle.bytecode.proofs.Walk.{refused≢accepted}
use Rattle.machine.specs.Step.{Machine, machine}
use Rattle.semantics.specs.Shape.{row_length}
use Rattle.paused.specs.declared.Response.TheVariants as R
use Rattle.paused.specs.Memory.{held_place, start_place, current_place, low_place, high_place}
use Rattle.resumable.specs.Instalment.{after_call}
use Rattle.lifecycle.specs.Calls.{may_post, or_refused, with_row, post_of}
use Rattle.divided.specs.Expected.{Scan, says, played, post, plays, expect_post, expects}
use Rattle.lifecycle.proofs.Rows.{row_most}
use Rattle.divided.proofs.Left.{Stands}
use Rattle.divided.proofs.Stored.{Apart, apart_row, waits_row}
use Rattle.divided.proofs.Agrees.{Standing, ScanIn, Agrees, Matches}

-- stores that leave the scan alone
stands_apart : {cells left : List ℤ} → Apart cells left → (w len total place : ℕ) (r : Outcome Machine) → Stands cells w len total place r → Stands left w len total place r
stands_apart a w len total place (ok (machine b c vs t)) s =
    record {
      progress = a.progress ∙ s.progress;
      held = rw (a.lists held_place stack_limit (omega arith)) s.held;
      current = a.lists current_place w (omega arith) ∙ s.current;
    }
stands_apart a w len total place (refusal k) s = a.progress ∙ s

pub standing_apart : {image : List ℕ} {cells left : List ℤ} (o : Scan) → Apart cells left → Standing image cells o → Standing image left o
standing_apart o a s =
    record {
      same = s.same;
      may = s.may;
      layout = a.layout ∙ s.layout;
      start = a.lists start_place (length o.start) (omega arith) ∙ s.start;
      low = a.lists low_place (length o.start) (omega arith) ∙ s.low;
      high = a.lists high_place (length o.start) (omega arith) ∙ s.high;
      reached = s.reached;
      went = s.went;
      counted = s.counted;
      stands = stands_apart a _ _ _ _ s.reached.last s.stands;
    }

pub scan_apart : (image : List ℕ) {cells left : List ℤ} (o : Option Scan) → Apart cells left → ScanIn image cells o → ScanIn image left o
scan_apart image none a s = ap (λ p. p.phase) a.progress ∙ s
scan_apart image (some o) a s = standing_apart o a s

-- a row that is posted is short
row_short : (image : List ℕ) (row : List ℤ) → may_post (check_of image) (shape_in image) row ≡ accepted tt → length row ≤ name_limit
row_short image row e = checked (check_of image) refl e
  where
    long : check_of image ≡ accepted tt → (t : Bool) → eqb (length row) (row_length (shape_in image)) ≡ t → tested_before t 12 (accepted tt) ≡ accepted tt → length row ≤ name_limit
    long k true t q = omega (arith, row_most image k, eqb-true (length row) (row_length (shape_in image)) t)
    long k false t q = refused≢accepted tt 12 0 q

    checked : (a : Answer (Unit {0})) → check_of image ≡ a → may_post a (shape_in image) row ≡ accepted tt → length row ≤ name_limit
    checked (accepted tt) k q = long k (eqb (length row) (row_length (shape_in image))) refl q
    checked (refused n p) k q = refused≢accepted tt n p q

module _ {image : List ℕ} {cells : List ℤ} {w : Option (List ℤ)} {o : Option Scan} (x : Agrees image cells w o) where
  pub post_agrees : (i : List ℕ) (row : List ℤ) → Matches (plays (post i row) image cells) (expects (post i row) w o)
  unfolding post_of
  post_agrees i row = rw (eq-eqb (length cells) paused_length x.long) (by (may_post (check_of i) (shape_in i) row) refl)
    where
      by : (a : Answer (Unit {0})) → may_post (check_of i) (shape_in i) row ≡ a
          → Matches (played (says (or_refused a cells (after_call (R.Done 0) (with_row row cells))).reply) image (or_refused a cells (after_call (R.Done 0) (with_row row cells))).cells) (expect_post a row w o)
      by (refused n p) e = record { said = refl; agrees = x }
      by (accepted tt) e =
          let h = row_short i row e in
          let a = apart_row row cells h in
          record { said = refl; agrees = record { long = a.long ∙ x.long; waits = waits_row row cells x.long h; scan = scan_apart image o a x.scan } }
