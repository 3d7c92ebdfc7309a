-- A start agrees with what is expected. Assumes nothing.
use Prim.Native.Nat.{ℕ, zero, suc, ◌<◌}
use native.Mathlib.Omega.{arith}
use mathlib.Core.Path.{◌≡◌, refl, sym, ap, ◌∙◌}
use mathlib.Core.Bool.{Bool, true, false, cond}
use mathlib.Core.List.{List, []}
use mathlib.Core.Option.{Option, none, some}
use lib.Dec.{leb}
use lib.IntN.{ℤ}
use lib.ListN.{length}
use borrow.Author.Tests.{eq-eqb, ne_eqb}
use Rattle.before.specs.Before.{before_code}
use Rattle.limits.specs.Limits.{paused_length}
use Rattle.limits.specs.Answer.{Answer, accepted, refused}
use Rattle.arith.specs.Values.{Outcome, ok, refusal}
use Rattle.semantics.specs.Formula.{State}
use Rattle.bytecode.specs.Parts.{code_of}
use Rattle.machine.specs.Step.{Machine, machine}
use Rattle.machine.specs.Runs.{ran}
use Rattle.runs.proofs.Divided.{refused_late}
use Rattle.scan.specs.Services.{finished, scan_of}
use Rattle.paused.specs.declared.Response.TheVariants as R
use Rattle.paused.specs.Memory.{checkpoint_of}
use Rattle.resumable.specs.Instalment.{AfterCall, after_call}
use Rattle.lifecycle.specs.Calls.{formed, started_in, row_taken, or_refused, begin_of}
use Rattle.divided.specs.Expected.{Scan, expect, says, begun_scan, played, image_after, begin, plays, expect_begin, expects}
use Rattle.divided.proofs.May.{placed, May, may, may_not}
use Rattle.divided.proofs.Left.{Stands, kept_left, stands_left}
use Rattle.divided.proofs.Stored.{apart_taken, waits_none, forms}
use Rattle.divided.proofs.Agrees.{setting_for, begun_with, goes, code_length, Agrees, Matches, few_numbers, first_sized, whole_finished}

-- a scan that is not over has a phase
pub some_phase : (cells : List ℤ) (w len total place : ℕ) (r : Outcome Machine) → Stands cells w len total place r → (checkpoint_of cells).phase ≡ 0 → ⊥
some_phase cells w len total place (ok (machine b c vs t)) s e = by (leb len place) (sym (ap (λ p. p.phase) s.progress) ∙ e)
  where
    by : (q : Bool) → ◌≡◌ {A = ℕ} (cond q 2 1) 0 → ⊥
    by true h = omega arith
    by false h = omega arith
some_phase cells w len total place (refusal k) s e = let h = sym (ap (λ p. p.phase) s) ∙ e in omega (arith, h)

-- a scan that passed the tests before the code is started
pub expect_begun : (i : List ℕ) (s : State) (row : List ℤ) → May i s row
    → expect_begin i s row (scan_of i s row).answer (scan_of i s row).steps ≡ expect (says (R.Done 0)) none (some (begun_scan i s row))
expect_begun i s row y =
    rw (whole_finished (begun_scan i s row) y)
    (by (goes (begun_scan i s row) (code_length (begun_scan i s row))).steps (goes (begun_scan i s row) (code_length (begun_scan i s row))).last
    (refused_late (setting_for (begun_scan i s row)) s (code_of i) (code_length (begun_scan i s row)) 0 0 (machine false false [] (begun_with (begun_scan i s row)))))
  where
    late : (k n : ℕ) → 0 < n → expect_begin i s row (refused k 0) n ≡ expect (says (R.Done 0)) none (some (begun_scan i s row))
    late k zero h = absurd (omega arith)
    late k (suc n) h = refl

    by : (n : ℕ) (r : Outcome Machine) → ((k : ℕ) → r ≡ refusal k → 0 < n)
        → expect_begin i s row (finished s n r).answer (finished s n r).steps ≡ expect (says (R.Done 0)) none (some (begun_scan i s row))
    by n (ok (machine b c vs t)) h = refl
    by n (refusal k) h = late k n (h k refl)

module _ (image : List ℕ) (cells : List ℤ) (i : List ℕ) (s : State) where
  started : (row : List ℤ) → length cells ≡ paused_length → May i s row → Agrees i (started_in i s row (row_taken cells)) none (some (begun_scan i s row))
  started row l y =
      let o = begun_scan i s row in
      let a = apart_taken cells in
      let f = forms i s row (row_taken cells) (a.long ∙ l) (placed i y.sound) y.numbers (few_numbers o y) in
      let z = first_sized o y in
      let first = machine false false [] (begun_with o) in
      let k = kept_left 0 (code_length o) 0 0 (length s) (formed i s row (row_taken cells)) f.long (few_numbers o y) (ok first) z in
      record {
        long = k.long ∙ f.long;
        waits = k.waits ∙ f.waits ∙ waits_none cells l;
        scan =
            record {
              same = refl;
              may = y;
              layout = k.layout ∙ f.layout;
              start = k.start (length s) (few_numbers o y) ∙ f.start;
              low = k.low (length s) ∙ f.low;
              high = k.high (length s) ∙ f.high;
              reached = ran 0 0 (ok first);
              went = refl;
              counted = refl;
              stands = stands_left 0 (code_length o) 0 0 (length s) (formed i s row (row_taken cells)) f.long (few_numbers o y) (omega arith) (omega arith) (ok first) z;
            };
      }

  tried : (row : List ℤ) (w : Option (List ℤ)) → Agrees image cells w none → (a : Answer (Unit {0})) → before_code i s row ≡ a → (b : AfterCall)
      → b ≡ or_refused a (row_taken cells) (after_call (R.Done 0) (started_in i s row (row_taken cells)))
      → Matches (played (says b.reply) (image_after b.reply i image) b.cells) (expect_begin i s row (scan_of i s row).answer (scan_of i s row).steps)
  tried row w x (refused n p) e b q =
      let a = apart_taken cells in
      rw (q, may_not i s row n p e)
      (record { said = refl; agrees = record { long = a.long ∙ x.long; waits = waits_none cells x.long; scan = ap (λ r. r.phase) a.progress ∙ x.scan } })
  tried row w x (accepted tt) e b q =
      let y = may i s row e in
      rw (q, expect_begun i s row y) (record { said = refl; agrees = started row x.long y })

  pub begin_agrees : (w : Option (List ℤ)) (o : Option Scan) → Agrees image cells w o → Matches (plays (begin i s) image cells) (expects (begin i s) w o)
  unfolding begin_of
  begin_agrees w (some o) x =
      rw (
        eq-eqb (length cells) paused_length x.long,
        ne_eqb (checkpoint_of cells).phase 0 (some_phase cells (length o.start) (code_length o) o.done x.scan.reached.place x.scan.reached.last x.scan.stands),
      )
      (record { said = refl; agrees = x })
  begin_agrees none none x =
      rw (eq-eqb (length cells) paused_length x.long, eq-eqb (checkpoint_of cells).phase 0 x.scan, x.waits) (record { said = refl; agrees = x })
  begin_agrees (some row) none x =
      rw (eq-eqb (length cells) paused_length x.long, eq-eqb (checkpoint_of cells).phase 0 x.scan, x.waits)
      (tried row (some row) x (before_code i s row) refl _ refl)
