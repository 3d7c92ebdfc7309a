-- A finish agrees with what is expected. Assumes nothing.
use Prim.Native.Nat.{ℕ, ◌≤◌, ◌<◌}
use native.Mathlib.Omega.{arith}
use mathlib.Core.Path.{◌≡◌, refl, ◌∙◌}
use mathlib.Core.Bool.{Bool, true, false, cond}
use mathlib.Core.List.{List}
use mathlib.Core.Option.{Option, none, some}
use lib.Dec.{leb}
use lib.IntN.{ℤ, pos}
use lib.ListN.{length, length-set}
use borrow.Author.Tests.{eq-eqb, lt-ltb, le-ltb, le-leb, lt-leb, leb-true, leb-false}
use Rattle.limits.specs.Limits.{paused_length}
use Rattle.arith.specs.Values.{Outcome, ok, refusal}
use Rattle.semantics.specs.Formula.{State}
use Rattle.machine.specs.Step.{Machine, machine}
use Rattle.paused.specs.declared.Response.TheVariants as R
use Rattle.paused.specs.Memory.{checkpoint_of, waiting_of}
use Rattle.lifecycle.specs.Calls.{same_values, without_scan, after_finish, finish_of}
use Rattle.divided.specs.Expected.{Scan, whole, says_leaving, played, finish, plays, expect, expects}
use Rattle.divided.proofs.Left.{Stands}
use Rattle.divided.proofs.Stored.{phase_over, waits_over}
use Rattle.divided.proofs.Agrees.{code_length, Agrees, Matches, over_refused, over_ended, not_over, whole_is}

-- a scan that is over leaves the row that waits
over_agrees : (image : List ℕ) (cells : List ℤ) (w : Option (List ℤ)) → length cells ≡ paused_length → waiting_of cells ≡ w → Agrees image (without_scan cells) w none
over_agrees image cells w l e = record { long = length-set cells 0 (pos 0) ∙ l; waits = waits_over cells ∙ e; scan = phase_over cells l }

module _ {image : List ℕ} {cells : List ℤ} {w : Option (List ℤ)} (o : Scan) (x : Agrees image cells w (some o)) (s : State) where
  by_last : (r : Outcome Machine) → x.scan.reached.last ≡ r → Stands cells (length o.start) (code_length o) o.done x.scan.reached.place r
      → Matches (plays (finish s) image cells) (expects (finish s) w (some o))
  unfolding finish_of
  by_last (refusal k) e g =
      let q : (whole o).steps ≡ o.done = over_refused o x.scan k e in
      let a = rw e at (whole_is o x.scan q) in
      rw (eq-eqb (length cells) paused_length x.long, g, a, le-ltb o.done o.done (omega arith), a)
      (record { said = refl; agrees = over_agrees image cells w x.long x.waits })
  by_last (ok (machine b c vs t)) e g = by (leb (code_length o) x.scan.reached.place) (leb-true (code_length o) x.scan.reached.place) (leb-false (code_length o) x.scan.reached.place)
    where
      same : (z : Bool) → Matches
          (played
          (says_leaving (cond z (after_finish (R.Done o.done) (without_scan cells) t) (after_finish (R.Refused 24 0 0) cells s)).reply
          (cond z (after_finish (R.Done o.done) (without_scan cells) t) (after_finish (R.Refused 24 0 0) cells s)).state)
          image (cond z (after_finish (R.Done o.done) (without_scan cells) t) (after_finish (R.Refused 24 0 0) cells s)).cells)
          (cond z (expect (says_leaving (R.Done o.done) t) w none) (expect (says_leaving (R.Refused 24 0 0) s) w (some o)))
      same true = record { said = refl; agrees = over_agrees image cells w x.long x.waits }
      same false = record { said = refl; agrees = x }

      by : (a : Bool) → (a ≡ true → code_length o ≤ x.scan.reached.place) → (a ≡ false → x.scan.reached.place < code_length o)
          → Matches (plays (finish s) image cells) (expects (finish s) w (some o))
      by true y f =
          let h = y refl in
          let q : (whole o).steps ≡ o.done = over_ended o x.scan (machine b c vs t) e h in
          let a = rw e at (whole_is o x.scan q) in
          rw (
            eq-eqb (length cells) paused_length x.long,
            g.progress,
            le-leb (code_length o) x.scan.reached.place h,
            x.scan.layout,
            g.current,
            x.scan.start,
            a,
            le-ltb o.done o.done (omega arith),
            a,
          )
          (same (same_values s o.start))
      by false y f =
          let h = f refl in
          rw (
            eq-eqb (length cells) paused_length x.long,
            g.progress,
            lt-leb (code_length o) x.scan.reached.place h,
            lt-ltb o.done (whole o).steps (not_over o x.scan (machine b c vs t) e h),
          )
          (record { said = refl; agrees = x })

pub finish_agrees : (image : List ℕ) (cells : List ℤ) (w : Option (List ℤ)) (o : Option Scan) (s : State) → Agrees image cells w o → Matches (plays (finish s) image cells) (expects (finish s) w o)
unfolding finish_of
finish_agrees image cells w none s x = rw (eq-eqb (length cells) paused_length x.long, eq-eqb (checkpoint_of cells).phase 0 x.scan) (record { said = refl; agrees = x })
finish_agrees image cells w (some o) s x = by_last o x s x.scan.reached.last refl x.scan.stands
