-- A visit keeps the lengths of the memory and the state that are lent to it. Assumes nothing.
use Prim.Native.Nat.{ℕ, ◌-◌, min}
use native.Mathlib.Omega.{arith}
use mathlib.Core.Path.{◌≡◌, refl, sym, ◌∙◌}
use mathlib.Core.Bool.{Bool, true, false, ◌&&◌, cond}
use mathlib.Core.List.{List, []}
use mathlib.Core.Option.{Option, none, some}
use lib.Dec.{eqb, ltb}
use lib.IntN.{ℤ, pos}
use lib.ListN.{length, take, drop, length-set}
use lib.Seq.{length-sets}
use borrow.Author.Tests.{eqb-true}
use Rattle.limits.specs.Limits.{image_limit, paused_length}
use Rattle.limits.specs.Answer.{Answer, accepted, refused}
use Rattle.arith.specs.Values.{Outcome, ok, refusal}
use Rattle.semantics.specs.Formula.{State}
use Rattle.semantics.specs.ReferenceScan.{with_inputs}
use Rattle.bytecode.specs.Parts.{code_of, shape_in}
use Rattle.machine.specs.Step.{Machine, machine}
use Rattle.before.specs.Before.{before_code}
use Rattle.paused.specs.declared.Checkpoint.{Checkpoint}
use Rattle.paused.specs.declared.Layout.{Layout}
use Rattle.paused.specs.declared.Response.{Response}
use Rattle.paused.specs.declared.Response.TheVariants as R
use Rattle.paused.specs.Memory.{start_place, current_place, slice, checkpoint_of, layout_of, waiting_of}
use Rattle.paused.proofs.Clipped.{layout_within}
use Rattle.resumable.specs.Instalment.{AfterCall, after_call, ran_from, left_after, instalment, advanced, advance_of}
use Rattle.resumable.proofs.Running.{length_slice}
use Rattle.lifecycle.specs.Calls.{AfterFinish, after_finish, without_scan, same_values, finish_of, row_taken, or_refused, formed, started_in, start_with, begin_of}
use Rattle.lifecycle.proofs.Sameness.{same_long}
use Rattle.rounds.specs.Visits.{share_in_limit, given, visit_from, visit_of}

cond_long : (b : Bool) (x y : AfterCall) (n : ℕ) → length x.cells ≡ n → length y.cells ≡ n → length (cond b x y).cells ≡ n
cond_long true x y n p q = p
cond_long false x y n p q = q

-- ---- the memory

left_long : (before len n place : ℕ) (o : Outcome Machine) (cells : List ℤ) → length (left_after before len n place o cells) ≡ length cells
left_long before len n place (ok (machine b c vs t)) cells = simp length-sets
left_long before len n place (refusal k) cells = simp length-sets

advanced_long : (image : List ℕ) (n : ℕ) (cells : List ℤ) (p : Checkpoint) (f : Layout) → length (advanced image n cells p f).cells ≡ length cells
advanced_long image n cells p f =
    let code = drop f.base image in
    let d = ran_from code (min n image_limit) p f cells in
    let test = eqb p.phase 1 && (ltb 0 n && (eqb (length image) f.image && ltb p.place (length image - f.base))) in
    let inner = cond test (instalment code (min n image_limit) cells p f) (after_call (R.Done 0) cells) in
    cond_long (eqb p.phase 0) (after_call R.Idle cells) inner (length cells) refl
    (cond_long test (instalment code (min n image_limit) cells p f) (after_call (R.Done 0) cells) (length cells) (left_long p.steps (length code) d.steps d.place d.last cells) refl)

advance_long : (image : List ℕ) (n : ℕ) (cells : List ℤ) → length (advance_of image n cells).cells ≡ length cells
unfolding advance_of
advance_long image n cells =
    cond_long (eqb (length cells) paused_length) (advanced image n cells (checkpoint_of cells) (layout_of cells)) (after_call R.Idle cells) (length cells)
    (advanced_long image n cells (checkpoint_of cells) (layout_of cells)) refl

begin_long : (image : List ℕ) (s : State) (cells : List ℤ) → length (begin_of image s cells).cells ≡ length cells
unfolding begin_of
begin_long image s cells =
    let inner = cond (eqb (checkpoint_of cells).phase 0) (start_with image s (waiting_of cells) cells) (after_call (R.Unfinished 0) cells) in
    cond_long (eqb (length cells) paused_length) inner (after_call R.Idle cells) (length cells)
    (cond_long (eqb (checkpoint_of cells).phase 0) (start_with image s (waiting_of cells) cells) (after_call (R.Unfinished 0) cells) (length cells) (with (waiting_of cells)) refl) refl
  where
    tried : (row : List ℤ) (a : Answer (Unit {0})) → length (or_refused a (row_taken cells) (record { reply = R.Done 0; cells = started_in image s row (row_taken cells) })).cells ≡ length cells
    tried row (refused number place) = length-set cells 13 (pos 0)
    tried row (accepted u) = left_long 0 (length (code_of image)) 0 0 (ok (machine false false [] (with_inputs s (take (shape_in image).inputs row)))) (formed image s row (row_taken cells)) ∙ simp (length-sets, length-set)

    with : (w : Option (List ℤ)) → length (start_with image s w cells).cells ≡ length cells
    with none = refl
    with (some row) = tried row (before_code image s row)

-- ---- the state, and the memory of a finish

pub record SameLengths (cells : List ℤ) (s : State) (a : AfterFinish) : Type 0 where
  pub memory : length a.cells ≡ length cells
  pub values : length a.state ≡ length s

cond_same : {cells : List ℤ} {s : State} (b : Bool) (x y : AfterFinish) → (b ≡ true → SameLengths cells s x) → SameLengths cells s y → SameLengths cells s (cond b x y)
cond_same true x y p q = p refl
cond_same false x y p q = q

finish_same : (s : State) (cells : List ℤ) → SameLengths cells s (finish_of s cells)
unfolding finish_of
finish_same s cells =
    cond_same (eqb (length cells) paused_length) _ _
    (λ l. cond_same (eqb (checkpoint_of cells).phase 0) _ _ (λ e. still)
    (cond_same (eqb (checkpoint_of cells).phase 1) _ _ (λ e. still)
    (cond_same (eqb (checkpoint_of cells).phase 2) _ _ (λ e. cond_same (same_values s (slice start_place (layout_of cells).size cells)) _ _ (λ q. done (eqb-true (length cells) paused_length l) q) still) (record { memory = length-set cells 0 (pos 0); values = refl }))))
    still
  where
    still : {r : Response} → SameLengths cells s (after_finish r cells s)
    still = record { memory = refl; values = refl }

    done : {r : Response} → length cells ≡ paused_length → same_values s (slice start_place (layout_of cells).size cells) ≡ true → SameLengths cells s (after_finish r (without_scan cells) (slice current_place (layout_of cells).size cells))
    done l q =
        let n = (layout_of cells).size in
        let few = (layout_within cells).sizes in
        record {
          memory = length-set cells 0 (pos 0);
          values = length_slice current_place n cells (omega (arith, l, few)) ∙ sym (same_long s (slice start_place n cells) q ∙ length_slice start_place n cells (omega (arith, l, few)));
        }

-- ---- a visit

given_same : (image : List ℕ) (share : ℕ) (cells : List ℤ) (s : State) → SameLengths cells s (given image share cells s)
given_same image share cells s =
    let f = finish_same s (advance_of image share cells).cells in
    record { memory = f.memory ∙ advance_long image share cells; values = f.values }

pub visit_same : (image : List ℕ) (share : ℕ) (cells : List ℤ) (s : State) → SameLengths cells s (visit_of image share cells s)
unfolding visit_of
visit_same image share cells s = cond_same (share_in_limit share) _ _ (λ e. from (begin_of image s cells).reply) (record { memory = refl; values = refl })
  where
    go : SameLengths cells s (given image share (begin_of image s cells).cells s)
    go = let g = given_same image share (begin_of image s cells).cells s in record { memory = g.memory ∙ begin_long image s cells; values = g.values }

    from : (r : Response) → SameLengths cells s (visit_from image share s r (begin_of image s cells).cells)
    from (R.Refused number place n) = record { memory = begin_long image s cells; values = refl }
    from (R.Done n) = go
    from (R.Unfinished n) = go
    from R.Idle = go
