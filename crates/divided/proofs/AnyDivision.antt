-- A.8's sentence as one theorem: any division into instalments gives the result, total steps and state of the undivided scan. Assumes nothing.
use Prim.Native.Nat.{ℕ, ◌+◌, ◌-◌, min}
use native.Mathlib.Omega.{arith}
use mathlib.Core.Path.{◌≡◌, refl, ap, ◌∙◌}
use mathlib.Core.List.{List, [], ◌∷◌, ◌++◌}
use mathlib.Core.Option.{Option, none, some}
use lib.IntN.{ℤ}
use lib.ListN.{length}
use borrow.Author.Tests.{lt-ltb}
use Rattle.before.specs.Before.{before_code}
use Rattle.limits.specs.Limits.{paused_length}
use Rattle.limits.specs.Answer.{accepted}
use Rattle.semantics.specs.Formula.{State}
use Rattle.bytecode.specs.Check.{check_of}
use Rattle.bytecode.specs.Parts.{shape_in}
use Rattle.paused.specs.declared.Response.TheVariants as R
use Rattle.paused.specs.Memory.{checkpoint_of, waiting_of}
use Rattle.lifecycle.specs.Calls.{may_post}
use Rattle.divided.specs.Expected.{Call, post, begin, advance_scan, finish, Said, says, play, Scan, whole, expect_post, steps_now, further_by, expects, expected_said, NotOver, given_in, begun_scan, AsUndivided}
use Rattle.divided.proofs.May.{may}
use Rattle.divided.proofs.Starting.{expect_begun}
use Rattle.divided.proofs.Undivided.{as_undivided}
use Rattle.divided.proofs.Yardstick.{posted_scan, expected_total, expected_result}

-- how far a scan is behind calls that leave it not over
abbrev behind_calls : List Call → Scan → Scan
behind_calls cs o = further_by (min (given_in cs) ((whole o).steps - o.done)) o

-- what a finish behind them says
record ThenFinish (cs : List Call) (w : Option (List ℤ)) (o : Scan) (t : State) : Type 0 where
  waiting : Option (List ℤ)
  said : expected_said (cs ++ (finish t ∷ [])) w (some o) ≡ expected_said cs w (some o) ++ ((expects (finish t) waiting (some (behind_calls cs o))).said ∷ [])

none_given : (n : ℕ) → 0 + n ≡ n
none_given n = omega arith

then_finish : (cs : List Call) (w : Option (List ℤ)) (o : Scan) (t : State) → NotOver cs w o → ThenFinish cs w o t
then_finish [] w o t h =
    let k : min 0 ((whole o).steps - o.done) ≡ 0 = omega arith in
    let d : o.done + 0 ≡ o.done = omega arith in
    record { waiting = w; said = rw (k, d) }
then_finish (post i row ∷ cs) w o t h =
    let a = may_post (check_of i) (shape_in i) row in
    let r = then_finish cs (expect_post a row w (some o)).waiting o t h in
    record { waiting = r.waiting; said = rw (posted_scan a row w (some o), none_given (given_in cs)) (ap (λ (l : List Said). (expect_post a row w (some o)).said ∷ l) r.said) }
then_finish (begin i s ∷ cs) w o t h =
    let r = then_finish cs w o t h in
    record { waiting = r.waiting; said = rw (none_given (given_in cs)) (ap (λ (l : List Said). says (R.Unfinished 0) ∷ l) r.said) }
then_finish (advance_scan n ∷ cs) w o t h =
    let r = then_finish cs w (further_by (steps_now n o) o) t h in
    let d : o.done + min n ((whole o).steps - o.done) + min (given_in cs) ((whole o).steps - (o.done + min n ((whole o).steps - o.done))) ≡ o.done + min (n + given_in cs) ((whole o).steps - o.done) = omega arith in
    record { waiting = r.waiting; said = ap (λ (l : List Said). says (R.Done (steps_now n o)) ∷ l) (rw d at r.said) }
then_finish (finish s ∷ cs) w o t h =
    let r = then_finish cs (expects (finish s) w (some o)).waiting o t h.1 in
    record { waiting = r.waiting; said = rw (h.0, none_given (given_in cs)) (ap (λ (l : List Said). (expects (finish s) w (some o)).said ∷ l) r.said) }

one_each : (cs : List Call) (w : Option (List ℤ)) (o : Option Scan) → length (expected_said cs w o) ≡ length cs
one_each [] w o = refl
one_each (c ∷ cs) w o = rw (one_each cs (expects c w o).waiting (expects c w o).scan)

-- from any memory in which a row waits without a scan, where the tests before the code pass
pub any_division : (cells : List ℤ) → length cells ≡ paused_length → (checkpoint_of cells).phase ≡ 0 → (row : List ℤ) → waiting_of cells ≡ some row
    → (image : List ℕ) (s : State) → before_code image s row ≡ accepted tt → (calls : List Call) → NotOver calls none (begun_scan image s row)
    → AsUndivided image s row calls (play (begin image s ∷ (calls ++ (finish s ∷ []))) [] cells)
any_division cells l p row q image s e calls h =
    let o = begun_scan image s row in
    let r = then_finish calls none o s h in
    let b = expect_begun image s row (may image s row e) in
    let t = expected_total calls none o h in
    record {
      between = expected_said calls none (some o);
      last = (expects (finish s) r.waiting (some (behind_calls calls o))).said;
      each =
          as_undivided (begin image s ∷ (calls ++ (finish s ∷ []))) cells l p
          ∙ ap (λ (w : Option (List ℤ)). expected_said (begin image s ∷ (calls ++ (finish s ∷ []))) w none) q
          ∙ rw b (ap (λ (x : List Said). says (R.Done 0) ∷ x) r.said);
      one = one_each calls none (some o);
      total = omega (arith, t);
      early = λ g. rw (lt-ltb (behind_calls calls o).done (whole o).steps (omega (arith, g)));
      undivided = λ g. expected_result r.waiting (behind_calls calls o) (omega (arith, g));
    }
