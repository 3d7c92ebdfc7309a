-- What the running code records, row by row, is what the definition stores at once. Assumes nothing.
use Prim.Native.Nat.{ℕ, ◌+◌, min}
use mathlib.Core.Path.{◌≡◌, refl, sym, ap, ◌∙◌}
use mathlib.Core.Bool.{Bool, true, false, cond}
use mathlib.Core.List.{List, [], ◌∷◌, ◌++◌, map}
use native.Mathlib.Omega.{arith}
use native.Mathlib.Numerals.{add-one}
use lib.Dec.{eqb}
use lib.IntN.{ℤ}
use lib.ListN.{length}
use lib.Seq.{sets, length-sets}
use Rattle.limits.specs.Answer.{Answer, accepted, refused}
use Rattle.semantics.specs.Formula.{State}
use Rattle.semantics.specs.Rows.{if_accepted, accepted_states, final_state}
use Rattle.bytecode.specs.Check.{check_of}
use Rattle.bytecode.specs.Parts.{shape_in}
use Rattle.semantics.specs.Shape.{state_length, starting_state, values_of}
use Rattle.scan.specs.Services.{AfterStart, started, start_of, scan_of, scans_of}
use Rattle.correctness.specs.TraceCorrect.{verdict_of, reply_of}
use Rattle.leb128.proofs.Stores.{sets_clip, sets_append}
use Rattle.std.specs.Prelude.{Ok, Err}
use Rattle.limits.specs.declared.Refusal.{Refusal}
use Rattle.limits.specs.Refusals.{refusal_number, refusal_place}
use Rattle.replay.specs.Replay.{answer_number, steps_of, replay_rows}
use Rattle.replay.specs.Results.{lent, after_replay}
use Rattle.replay.specs.Inner.Records.{Records, records, added_by, record_scan, scan_rows}

-- values stored behind a part that was stored as far as there was room
pub sets_behind : {A : Type 0} (l : List A) (at : ℕ) (a b : List A) → sets (sets l at a) (min (at + length a) (length l)) b ≡ sets l at (a ++ b)
sets_behind l at a b =
    ap (λ (k : ℕ). sets (sets l at a) (min (at + length a) k) b) (sym (length-sets l at a)) ∙ sets_clip (sets l at a) (at + length a) b ∙ sym (sets_append l at a b)

added : (o : Answer (Unit {0})) (s : State) (more : List State) → added_by o s ++ values_of more ≡ values_of (if_accepted (verdict_of o) s more)
added (accepted u) s more = refl
added (refused number place) s more = refl

module _ (image : List ℕ) where
  pub rows_state : (rows : List (List ℤ)) (i : ℕ) (m : Records) → (scan_rows image i rows m).state ≡ final_state m.state (map reply_of (scans_of image m.state rows))
  unfolding record_scan
  rows_state [] i m = refl
  rows_state (r ∷ rs) i m = rows_state rs (i + 1) (record_scan i (scan_of image m.state r) m)

  pub rows_numbers : (rows : List (List ℤ)) (i : ℕ) (m : Records) → (scan_rows image i rows m).numbers ≡ sets m.numbers i (map answer_number (scans_of image m.state rows))
  unfolding record_scan
  rows_numbers [] i m = refl
  rows_numbers (r ∷ rs) i m = rows_numbers rs (i + 1) (record_scan i (scan_of image m.state r) m) ∙ rw (add-one i)

  pub rows_steps : (rows : List (List ℤ)) (i : ℕ) (m : Records) → (scan_rows image i rows m).steps ≡ sets m.steps i (map steps_of (scans_of image m.state rows))
  unfolding record_scan
  rows_steps [] i m = refl
  rows_steps (r ∷ rs) i m = rows_steps rs (i + 1) (record_scan i (scan_of image m.state r) m) ∙ rw (add-one i)

  pub rows_trace : (rows : List (List ℤ)) (i : ℕ) (m : Records) → (scan_rows image i rows m).trace ≡ sets m.trace m.place (values_of (accepted_states (map reply_of (scans_of image m.state rows))))
  unfolding record_scan
  rows_trace [] i m = refl
  rows_trace (r ∷ rs) i m =
      let a = scan_of image m.state r in
      rows_trace rs (i + 1) (record_scan i a m)
      ∙ sets_behind m.trace m.place (added_by a.answer a.state) (values_of (accepted_states (map reply_of (scans_of image a.state rs))))
      ∙ ap (sets m.trace m.place) (added a.answer a.state (accepted_states (map reply_of (scans_of image a.state rs))))

-- ---- the ways of an image

start_keeps : (image : List ℕ) (s : State) (number place : ℕ) → (start_of image s).answer ≡ refused number place → (start_of image s).state ≡ s
unfolding start_of
start_keeps image s number place = go (check_of image)
  where
    by : (t : Bool) → (cond {A = AfterStart} t (record { answer = accepted tt; state = starting_state (shape_in image) }) (record { answer = refused 12 0; state = s })).answer ≡ refused number place
        → (cond {A = AfterStart} t (record { answer = accepted tt; state = starting_state (shape_in image) }) (record { answer = refused 12 0; state = s })).state ≡ s
    by true e = let z : ◌≡◌ {A = ℕ} 0 1 = cc in let f : ⊥ = omega arith in absurd f
    by false e = refl

    go : (a : Answer (Unit {0})) → (started a (shape_in image) s).answer ≡ refused number place → (started a (shape_in image) s).state ≡ s
    go (refused k at) e = refl
    go (accepted u) e = by (eqb (length s) (state_length (shape_in image))) e

module _ (image buffer : List ℕ) (rows : List (List ℤ)) (s s₁ : State) (numbers steps : List ℕ) (trace : List ℤ) where
  pub replay_refused : (n : ℕ) (e : Refusal) → ◌≡◌ {A = AfterStart} (record { answer = refused (refusal_number e) (refusal_place e); state = s₁ }) (start_of image s)
      → after_replay (Err e) (lent buffer s₁ numbers steps trace) ≡ replay_rows (start_of image s) n image rows (lent buffer s numbers steps trace)
  replay_refused n x e =
      let k : s₁ ≡ s = ap {A = AfterStart} (λ r. r.state) e ∙ start_keeps image s (refusal_number x) (refusal_place x) (sym (ap {A = AfterStart} (λ r. r.answer) e)) in
      rw (← e, k)

  pub replay_done : (n at place : ℕ) (s₂ : State) (numbers₂ steps₂ : List ℕ) (trace₁ trace₂ : List ℤ) → ◌≡◌ {A = AfterStart} (record { answer = accepted tt; state = s₁ }) (start_of image s) → trace₁ ≡ sets trace 0 s₁
      → at ≡ min (0 + length s₁) (length trace) → records s₂ numbers₂ steps₂ trace₂ place ≡ scan_rows image 0 rows (records s₁ numbers steps trace₁ at)
      → after_replay (Ok n) (lent buffer s₂ numbers₂ steps₂ trace₂) ≡ replay_rows (start_of image s) n image rows (lent buffer s numbers steps trace)
  replay_done n at place s₂ numbers₂ steps₂ trace₁ trace₂ e t l h =
      let m = records s₁ numbers steps trace₁ at in
      let values = values_of (accepted_states (map reply_of (scans_of image s₁ rows))) in
      let a : s₂ ≡ final_state s₁ (map reply_of (scans_of image s₁ rows)) = ap {A = Records} (λ r. r.state) h ∙ rows_state image rows 0 m in
      let b : numbers₂ ≡ sets numbers 0 (map answer_number (scans_of image s₁ rows)) = ap {A = Records} (λ r. r.numbers) h ∙ rows_numbers image rows 0 m in
      let c : steps₂ ≡ sets steps 0 (map steps_of (scans_of image s₁ rows)) = ap {A = Records} (λ r. r.steps) h ∙ rows_steps image rows 0 m in
      let d : trace₂ ≡ sets trace 0 (s₁ ++ values) = ap {A = Records} (λ r. r.trace) h ∙ rows_trace image rows 0 m ∙ rw (t, l) (sets_behind trace 0 s₁ values) in
      rw (← e, a, b, c, d)
