-- A replay that was not refused shows demand 3 of what stands in memory. Assumes nothing.
use Prim.Native.Nat.{ℕ, ◌+◌, ◌≤◌}
use mathlib.Core.Path.{◌≡◌, refl, sym, ap, ◌∙◌, subst}
use mathlib.Core.List.{List, [], map}
use native.Mathlib.Omega.{arith}
use lib.IntN.{ℤ, pos}
use lib.ListN.{length, take, drop, length-map}
use lib.Seq.{sets, sets-eq, take-append_seam, length-sets}
use Rattle.limits.specs.Answer.{Answer, accepted, refused}
use Rattle.semantics.specs.Program.{Program, Range}
use Rattle.semantics.specs.Formula.{State}
use Rattle.semantics.specs.Shape.{shape_of, cells as stateRanges, state_length}
use Rattle.grammar.specs.Parse.{program_of}
use Rattle.translate.specs.Services.{AfterTranslation, translation_of}
use Rattle.scan.specs.Services.{AfterStart, start_of, scans_of}
use Rattle.correctness.specs.TraceCorrect.{TraceCorrect}
use Rattle.correctness.proofs.Correct.{trace_correct}
use Rattle.std.specs.Prelude.{Result, Ok, Err}
use Rattle.limits.specs.declared.Refusal.{Refusal}
use Rattle.replay.specs.Replay.{rows_of, Lent, AfterReplay, recorded, replay_rows, with_image, replay_image, replay_of, StandIn, Shown}
use Rattle.replay.specs.Results.{after_replay, ShownBy}
use Rattle.replay.proofs.Starts.{start_sized}

-- what is stored at the front stands there
stand : {A : Type 0} (l values left : List A) → left ≡ sets l 0 values → StandIn left values
stand l values left e h =
    let k : length values ≤ length l = omega (arith, ap length e, length-sets l 0 values) in
    rw (e, sets-eq values l 0 (omega arith)) (take-append_seam values (drop (0 + length values) l))

module _ (text : List ℕ) (cells : List ℤ) (lengths : List ℕ) (m : Lent) where
  -- translation and start answered no refusal
  record Ran (left : Lent) (n : ℕ) : Type 0 where
    buffer : List ℕ
    translated : translation_of text m.image ≡ record { answer = accepted n; buffer = buffer }
    begins : (start_of (take n buffer) m.state).answer ≡ accepted tt
    left_is : left ≡ recorded (with_image m buffer) (start_of (take n buffer) m.state).state (scans_of (take n buffer) (start_of (take n buffer) m.state).state (rows_of cells lengths))

  ran : (left : Lent) (n : ℕ) → after_replay (Ok n) left ≡ replay_of text cells lengths m → Ran left n
  unfolding replay_of
  ran left n e = go (translation_of text m.image).answer (translation_of text m.image).buffer refl e
    where
      by : (buffer : List ℕ) (k : ℕ) (b : Answer (Unit {0})) (s : State) → translation_of text m.image ≡ record { answer = accepted k; buffer = buffer }
          → start_of (take k buffer) m.state ≡ record { answer = b; state = s }
          → after_replay (Ok n) left ≡ replay_rows (record { answer = b; state = s }) k (take k buffer) (rows_of cells lengths) (with_image m buffer) → Ran left n
      by buffer k (refused j at) s h g q =
          let w : accepted n ≡ refused j at = ap {A = AfterReplay} (λ r. r.answer) q in
          let z : ◌≡◌ {A = ℕ} 0 1 = cc in
          let f : ⊥ = omega arith in
          absurd f
      by buffer k (accepted u) s h g q =
          let w : accepted n ≡ accepted k = ap {A = AfterReplay} (λ r. r.answer) q in
          let x : k ≡ n = cc in
          record {
            buffer = buffer;
            translated = rw x at h;
            begins = rw (← x, g);
            left_is =
                subst (λ (z : ℕ). left ≡ recorded (with_image m buffer) (start_of (take z buffer) m.state).state (scans_of (take z buffer) (start_of (take z buffer) m.state).state (rows_of cells lengths)))
                x (rw g (ap {A = AfterReplay} (λ r. r.left) q));
          }

      go : (a : Answer ℕ) (buffer : List ℕ) → translation_of text m.image ≡ record { answer = a; buffer = buffer }
          → after_replay (Ok n) left ≡ replay_image a buffer (rows_of cells lengths) m → Ran left n
      go (refused j at) buffer h q =
          let w : accepted n ≡ refused j at = ap {A = AfterReplay} (λ r. r.answer) q in
          let z : ◌≡◌ {A = ℕ} 0 1 = cc in
          let f : ⊥ = omega arith in
          absurd f
      go (accepted k) buffer h q = by buffer k (start_of (take k buffer) m.state).answer (start_of (take k buffer) m.state).state h refl q

  -- start takes a state as long as the program's names only
  right_length : (buffer : List ℕ) (n : ℕ) → translation_of text m.image ≡ record { answer = accepted n; buffer = buffer } → (start_of (take n buffer) m.state).answer ≡ accepted tt
      → (p : Program) → program_of text ≡ accepted p → length m.state ≡ state_length (shape_of p)
  right_length buffer n t b p h =
      let other = map (λ (x : Range). pos 0) (stateRanges (shape_of p)) in
      let d = trace_correct text m.image n (ap {A = AfterTranslation} (λ r. r.answer) t) other [] in
      let q : d.program ≡ p = cc d.parsed in
      let o : length other ≡ state_length (shape_of p) = length-map (stateRanges (shape_of p)) (λ (x : Range). pos 0) in
      let c = d.correct (rw q o) in
      let e = (start_sized _ other (ap {A = AfterStart} (λ r. r.answer) c.started)).1 in
      (start_sized (take n buffer) m.state b).1 ∙ sym (rw t at e) ∙ o

  shown : (left : Lent) (n : ℕ) → Ran left n → Shown text cells lengths m left n
  shown left n r =
      let d = trace_correct text m.image n (ap {A = AfterTranslation} (λ t. t.answer) r.translated) m.state (rows_of cells lengths) in
      let sized = right_length r.buffer n r.translated r.begins d.program d.parsed in
      subst (λ (l : Lent). Shown text cells lengths m l n) (sym r.left_is)
      (record {
        program = d.program;
        parsed = d.parsed;
        spelled = d.spelled;
        translated = r.translated;
        sized = sized;
        correct = subst (λ (b : List ℕ). TraceCorrect d.program (take n b) m.state (rows_of cells lengths)) (ap {A = AfterTranslation} (λ t. t.buffer) r.translated) (d.correct sized);
        stands =
            record { last = refl; trace = stand m.trace _ _ refl; numbers = stand m.numbers _ _ refl; steps = stand m.steps _ _ refl };
      })

  pub replay_shown : (r : Result ℕ Refusal) (left : Lent) → after_replay r left ≡ replay_of text cells lengths m → ShownBy r text cells lengths m left
  replay_shown (Ok n) left e = shown left n (ran left n e)
  replay_shown (Err x) left e = tt
