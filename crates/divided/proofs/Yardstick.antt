-- What is expected of the calls is the undivided scan: its steps, its result and its state. Laws over the definitions of Expected alone.
-- Assumes nothing.
use Prim.Native.Nat.{ℕ, suc, ◌+◌, ◌-◌, ◌≤◌, min}
use native.Mathlib.Omega.{arith}
use mathlib.Core.Path.{◌≡◌, refl, sym, ap, ◌∙◌}
use mathlib.Core.Bool.{Bool, true, false, ◌&&◌, cond}
use mathlib.Core.List.{List, [], ◌∷◌}
use mathlib.Core.Option.{Option, none, some}
use lib.Dec.{eqb, ltb}
use lib.IntN.{ℤ}
use lib.ListN.{length}
use borrow.Author.Tests.{le-ltb}
use Rattle.limits.specs.Limits.{paused_length}
use Rattle.limits.specs.Answer.{Answer, accepted, refused}
use Rattle.arith.specs.Values.{Outcome, ok, refusal}
use Rattle.arith.proofs.Basics.{eq_z_self}
use Rattle.semantics.specs.Formula.{State}
use Rattle.bytecode.specs.Parts.{count_from, shape_in}
use Rattle.bytecode.specs.Check.{check_of}
use Rattle.bytecode.proofs.Walk.{refused≢accepted}
use Rattle.machine.specs.Step.{Machine, machine}
use Rattle.semantics.specs.Shape.{Setting}
use Rattle.machine.specs.Runs.{Ran, run, resume}
use Rattle.machine.proofs.Laws.{run_steps, run_divided}
use Rattle.runs.proofs.Divided.{run_counts, run_exact, refused_late}
use Rattle.scan.specs.Services.{AfterScan, finished, run_of, scan_code, scan_of}
use Rattle.scan.specs.Inner.Parts.{scanned_by}
use Rattle.before.specs.Before.{before_code}
use Rattle.scan.proofs.Scans.{scan_is}
use Rattle.paused.specs.declared.Checkpoint.{Checkpoint}
use Rattle.paused.specs.declared.Layout.{Layout}
use Rattle.paused.specs.declared.Response.TheVariants as R
use Rattle.paused.specs.Memory.{start_place, slice, checkpoint_of}
use Rattle.paused.specs.Responses.{steps_in}
use Rattle.resumable.specs.Instalment.{AfterCall, after_call, setting_in, standing, ran_from, advance_of}
use Rattle.lifecycle.specs.Calls.{same_values, may_post}
use Rattle.divided.specs.Expected.{Call, post, begin, advance_scan, finish, says_leaving, Scan, whole, expect, expect_post, further_by, expect_end, expects, expected_said, NotOver, given_in, done_in, said_of}

-- ---- the steps of an instalment

-- where it is not refused: the instructions of the code from where the scan stopped, at most as many as are given
pub counted : (code : List ℕ) (n : ℕ) (p : Checkpoint) (f : Layout) (cells : List ℤ) (m : Machine) → (ran_from code n p f cells).last ≡ ok m → (ran_from code n p f cells).steps ≡ count_from code n p.place
unfolding ran_from
counted code n p f cells m e = run_steps (setting_in f cells) (slice start_place f.size cells) code n p.place 0 (standing p f.size cells) m e ∙ omega arith

before_refusal : (ns : Setting) (s : State) (code : List ℕ) (b at j : ℕ) (m : Machine) (k : ℕ) → (run ns s code b at 0 m).last ≡ refusal k → (run ns s code b at 0 m).steps ≡ suc j → count_from code j at ≡ j
before_refusal ns s code b at j m k e q =
    let z : j + 1 ≡ suc j = omega arith in
    let x = run_exact ns s code b at 0 (suc j) m (omega (arith, q)) in
    let d = ap (λ (n : ℕ). run ns s code n at 0 m) (sym z) in
    by (run ns s code j at 0 m).last refl (ap (λ (r : Ran). r.steps) (sym (run_divided ns s code j 1 at 0 m) ∙ sym d ∙ x) ∙ q)
  where
    by : (o : Outcome Machine) → (run ns s code j at 0 m).last ≡ o → (resume ns s code 1 o (run ns s code j at 0 m).place (run ns s code j at 0 m).steps).steps ≡ suc j → count_from code j at ≡ j
    by (ok m₁) h w =
        let y = run_steps ns s code j at 0 m m₁ h in
        omega (arith, w, y, (run_counts ns s code j at 0 m).1, (run_counts ns s code 1 (run ns s code j at 0 m).place (run ns s code j at 0 m).steps m₁).1)
    by (refusal i) h w = absurd (omega (arith, w, (run_counts ns s code j at 0 m).1))

-- where it is refused: the instructions before the refusing one, and that one
pub counted_refused : (code : List ℕ) (n : ℕ) (p : Checkpoint) (f : Layout) (cells : List ℤ) (k : ℕ) → (ran_from code n p f cells).last ≡ refusal k
    → (ran_from code n p f cells).steps ≡ count_from code ((ran_from code n p f cells).steps - 1) p.place + 1
unfolding ran_from
counted_refused code n p f cells k e =
    let ns = setting_in f cells in
    let s = slice start_place f.size cells in
    let m = standing p f.size cells in
    let late = refused_late ns s code n p.place 0 m k e in
    let c = before_refusal ns s code n p.place ((run ns s code n p.place 0 m).steps - 1) m k e (omega (arith, late)) in
    omega (arith, late, c)

-- With 0 steps nothing moves, whatever the memory holds.
pub zero_stays : (image : List ℕ) (cells : List ℤ) → (advance_of image 0 cells).cells ≡ cells
unfolding advance_of
zero_stays image cells = by (eqb (length cells) paused_length) (eqb (checkpoint_of cells).phase 0) (eqb (checkpoint_of cells).phase 1) _
  where
    by : (a b c : Bool) (x : AfterCall) → (cond a (cond b (after_call R.Idle cells) (cond (c && false) x (after_call (R.Done 0) cells))) (after_call R.Idle cells)).cells ≡ cells
    by true true c x = refl
    by true false true x = refl
    by true false false x = refl
    by false b c x = refl

-- with 0 steps nothing moves
pub expected_zero : (w : Option (List ℤ)) (o : Scan) → expects (advance_scan 0) w (some o) ≡ expect (record { reply = R.Done 0; left = none }) w (some o)
expected_zero w o =
    let k : min 0 ((whole o).steps - o.done) ≡ 0 = omega arith in
    let d : o.done + 0 ≡ o.done = omega arith in
    rw (k, d)

-- ---- instalments of any sizes, with rows posted between

posted_steps : (a : Answer (Unit {0})) (row : List ℤ) (w : Option (List ℤ)) (o : Option Scan) → steps_in (expect_post a row w o).said.reply ≡ 0
posted_steps (refused number place) row w o = refl
posted_steps (accepted u) row w o = refl

pub posted_scan : (a : Answer (Unit {0})) (row : List ℤ) (w : Option (List ℤ)) (o : Option Scan) → (expect_post a row w o).scan ≡ o
posted_scan (refused number place) row w o = refl
posted_scan (accepted u) row w o = refl

-- a finish that leaves the scan not over tells no steps
open_steps : (t : State) (w : Option (List ℤ)) (o : Scan) → (expects (finish t) w (some o)).scan ≡ some o → steps_in (expects (finish t) w (some o)).said.reply ≡ 0
open_steps t w o h = by (ltb o.done (whole o).steps) h
  where
    same : (b : Bool) → (cond b (expect (says_leaving (R.Done (whole o).steps) (whole o).state) w none) (expect (says_leaving (R.Refused 24 0 0) t) w (some o))).scan ≡ some o
        → steps_in (cond b (expect (says_leaving (R.Done (whole o).steps) (whole o).state) w none) (expect (says_leaving (R.Refused 24 0 0) t) w (some o))).said.reply ≡ 0
    same true q = let z : ◌≡◌ {A = ℕ} 0 1 = cc in absurd (omega arith)
    same false q = refl

    end : (a : Answer (Unit {0})) → (expect_end t o w a).scan ≡ some o → steps_in (expect_end t o w a).said.reply ≡ 0
    end (refused n p) q = let z : ◌≡◌ {A = ℕ} 0 1 = cc in absurd (omega arith)
    end (accepted u) q = same (same_values t o.start) q

    by : (b : Bool) → (cond b (expect (says_leaving (R.Unfinished 0) t) w (some o)) (expect_end t o w (whole o).answer)).scan ≡ some o
        → steps_in (cond b (expect (says_leaving (R.Unfinished 0) t) w (some o)) (expect_end t o w (whole o).answer)).said.reply ≡ 0
    by true q = refl
    by false q = end (whole o).answer q

-- in all they do as many steps as are given, or those of the undivided scan that are left
pub expected_total : (cs : List Call) (w : Option (List ℤ)) (o : Scan) → NotOver cs w o → done_in (expected_said cs w (some o)) ≡ min (given_in cs) ((whole o).steps - o.done)
expected_total [] w o h = omega arith
expected_total (post i row ∷ cs) w o h =
    let a = may_post (check_of i) (shape_in i) row in
    let e = expected_total cs (expect_post a row w (some o)).waiting o h in
    rw (posted_steps a row w (some o), posted_scan a row w (some o)) (omega (arith, e))
expected_total (begin i s ∷ cs) w o h = let e = expected_total cs w o h in omega (arith, e)
expected_total (advance_scan n ∷ cs) w o h =
    let k = min n ((whole o).steps - o.done) in
    let e = expected_total cs w (further_by k o) h in
    omega (arith, e)
expected_total (finish t ∷ cs) w o h =
    let e = expected_total cs (expects (finish t) w (some o)).waiting o h.1 in
    rw (open_steps t w o h.0, h.0) (omega (arith, e))

-- ---- the result

pub same_itself : (s : State) → same_values s s ≡ true
same_itself [] = refl
same_itself (z ∷ s) = rw (eq_z_self z) (same_itself s)

-- a refused scan leaves the state
kept_state : (image : List ℕ) (s : State) (row : List ℤ) (n p : ℕ) → (scan_of image s row).answer ≡ refused n p → (scan_of image s row).state ≡ s
unfolding scan_code
kept_state image s row n p e = rw (scan_is image s row) (by (before_code image s row) (sym (ap (λ (a : AfterScan). a.answer) (scan_is image s row)) ∙ e))
  where
    ran_out : (k : ℕ) (r : Outcome Machine) → (finished s k r).answer ≡ refused n p → (finished s k r).state ≡ s
    ran_out k (ok (machine b c vs t)) q = refused≢accepted tt n p (sym q)
    ran_out k (refusal j) q = refl

    by : (a : Answer (Unit {0})) → (scanned_by a s (scan_code image s row)).answer ≡ refused n p → (scanned_by a s (scan_code image s row)).state ≡ s
    by (refused number place) q = refl
    by (accepted u) q = ran_out (run_of image s row).steps (run_of image s row).last q

-- a finish of a scan all of whose steps are done, lent the state of the start, answers the undivided scan and leaves its state
pub expected_result : (w : Option (List ℤ)) (o : Scan) → (whole o).steps ≤ o.done → (expects (finish o.start) w (some o)).said ≡ said_of (whole o)
expected_result w o h = rw (le-ltb o.done (whole o).steps h) (by (whole o).answer refl)
  where
    by : (a : Answer (Unit {0})) → (whole o).answer ≡ a → (expect_end o.start o w a).said ≡ said_of (whole o)
    by (refused n p) e = rw (e, kept_state o.image o.start o.row n p e)
    by (accepted tt) e = rw (same_itself o.start, e)
