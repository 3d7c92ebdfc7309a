-- Demand 3, for every accepted text, buffer, lent state and list of rows. Assumes nothing.
use Prim.Native.Nat.{ℕ}
use native.Mathlib.Omega.{arith}
use mathlib.Core.Path.{◌≡◌, refl, sym, ap, ap₂, ◌∙◌, subst}
use mathlib.Core.Bool.{Bool, true, false}
use mathlib.Core.List.{List, [], ◌∷◌}
use lib.Dec.{eqb}
use lib.IntN.{ℤ}
use lib.ListN.{length, take}
use borrow.Author.Tests.{eq-eqb}
use Rattle.limits.specs.Answer.{Answer, accepted, refused}
use Rattle.arith.specs.Values.{Outcome, ok, refusal, ◌>>=◌, check}
use Rattle.semantics.specs.Program.{Program, ranges_of, known_first, first_timer, EachTimer, TimerFits}
use Rattle.semantics.specs.Formula.{State, written_of, GX, All}
use Rattle.semantics.specs.Shape.{shape_of, state_length, row_length, state_in_range, row_in_range, setting_of}
use Rattle.semantics.specs.ReferenceScan.{scan_rules, with_inputs, reference_scan}
use Rattle.semantics.specs.Rows.{Reply, reply, reference_replies, starts_of, trace_of, InRanges, OnlyTrace}
use Rattle.arith.proofs.Basics.{T_true, bind_assoc}
use Rattle.semantics.proofs.Timers.{each_map, each_both, Placed, owner_of, timer_count, cells_length, placed}
use Rattle.semantics.proofs.Written.{written_trace}
use Rattle.semantics.proofs.Reference.{length_known, reference_next, reference_trace, starts_in_range}
use Rattle.bytecode.specs.Instructions.{encode_all}
use Rattle.bytecode.specs.Translation.{code_rules, image_of, Translatable}
use Rattle.bytecode.specs.Parts.{instructions_in}
use Rattle.bytecode.proofs.Soundness.{header_of_lem, code_of_lem, translated_small, check_translated}
use Rattle.bytecode.proofs.Shapes.{limits_of_lem}
use Rattle.machine.specs.Step.{Machine, machine}
use Rattle.machine.proofs.Ranges.{current_of}
use Rattle.machine.proofs.Translated.{Room, exec_rules, run_exec}
use Rattle.grammar.specs.Parse.{program_of}
use Rattle.grammar.proofs.Accepted.{program_translatable}
use Rattle.grammar.proofs.ConverseText.{accepted_exactly}
use Rattle.translate.specs.Services.{translation_of}
use Rattle.scan.specs.Services.{AfterStart, start_of, started, AfterScan, finished, run_of, scan_code, tested_scan, scan_of, scans_of}
use Rattle.scan.proofs.Steps.{scan_steps_lem}
use Rattle.translate.proofs.Kept.{image_stored, stored_image}
use Rattle.correctness.specs.TraceCorrect.{reply_of, replies_of, StepsIf, StepsAre, begun, found, TraceCorrect, Demand3}

-- ---- one scan

reply_tested : (b : Bool) (k : ℕ) (s : State) (r : AfterScan) (o : Outcome State) → reply_of r ≡ reply s o → reply_of (tested_scan b k s r) ≡ reply s (check b k o)
reply_tested true k s r o e = e
reply_tested false k s r o e = refl

reply_finished : (s : State) (n : ℕ) (o : Outcome Machine) → reply_of (finished s n o) ≡ reply s (o >>= λ m. ok (current_of m))
reply_finished s n (ok (machine b c vs t)) = refl
reply_finished s n (refusal k) = refl

bind_ok : {A : Type 0} (o : Outcome A) → (o >>= λ a. ok a) ≡ o
bind_ok (ok a) = refl
bind_ok (refusal k) = refl

module _ (p : Program) (t : Translatable p) where
  -- what a scan of a row gives
  abbrev worked : State → List ℤ → Outcome State
  worked s row = scan_rules (setting_of (shape_of p) row) p.timers s (with_inputs s (take p.inputs row)) p.rules

  room : (s : State) (row : List ℤ) → EachTimer (Room (setting_of (shape_of p) row) s) p.timers
  room s row =
      let fit = t.well_formed.timed in
      let k = setting_of (shape_of p) row in
      let n = length (ranges_of p) in
      let c = cells_length p fit in
      let d = timer_count p fit in
      each_map (λ x. Placed k n (first_timer p) (owner_of p) x × TimerFits (ranges_of p) p.inputs (first_timer p) x) (Room k s) (λ x q.
      (omega arith, omega arith, q.1.most)) p.timers
      (each_both (Placed k n (first_timer p) (owner_of p)) (TimerFits (ranges_of p) p.inputs (first_timer p)) p.timers (placed p fit row) fit.each)

  run_reference : (s : State) (row : List ℤ) → (run_of (image_of p) s row).last ≡ (worked s row >>= λ u. ok (machine false false [] u))
  run_reference s row =
      let code = encode_all (code_rules p.timers p.rules) in
      let k = setting_of (shape_of p) row in
      let u = with_inputs s (take p.inputs row) in
      let c = cells_length p t.well_formed.timed in
      let l = length_known p.inputs (length (ranges_of p)) in
      rw (header_of_lem p t, limits_of_lem p t, code_of_lem p t)
      (run_exec k s code (code_rules p.timers p.rules) (length code) 0 0 (machine false false [] u) refl (translated_small p t) (omega arith)
      ∙ exec_rules k s p.timers (room s row) p.rules (known_first p.inputs (length (ranges_of p))) u (omega arith) t.well_formed.ordered t.shallow)

  code_reply : (s : State) (row : List ℤ) → reply_of (scan_code (image_of p) s row) ≡ reply s (worked s row)
  unfolding scan_code
  code_reply s row =
      let e : ((run_of (image_of p) s row).last >>= λ m. ok (current_of m)) ≡ worked s row = rw (run_reference s row) (bind_assoc (worked s row) _ _ ∙ bind_ok (worked s row)) in
      reply_finished s _ (run_of (image_of p) s row).last ∙ ap (reply s) e

  -- the scan of the image answers and leaves what the reference scan does
  pub scan_reply : (s : State) → InRanges p s → (row : List ℤ) → reply_of (scan_of (image_of p) s row) ≡ reply s (reference_scan p s row)
  unfolding scan_of reference_scan
  scan_reply s g row =
      let k = shape_of p in
      let l : eqb (length s) (state_length k) ≡ true = eq-eqb (length s) (state_length k) g.size in
      let r : state_in_range k s ≡ true = T_true _ g.ranges in
      let inner = reply_tested (row_in_range k row) 13 s (scan_code (image_of p) s row) (worked s row) (code_reply s row) in
      let outer = reply_tested (eqb (length row) (row_length k)) 12 s (tested_scan (row_in_range k row) 13 s (scan_code (image_of p) s row)) (check (row_in_range k row) 13 (worked s row)) inner in
      rw (check_translated p t, header_of_lem p t, limits_of_lem p t, l, r) outer

  kept : (s : State) → InRanges p s → (row : List ℤ) (o : Outcome State) → reference_scan p s row ≡ o → InRanges p (reply s o).state
  kept s g row (ok u) e = (reference_next p t.well_formed s g row u e).kept
  kept s g row (refusal k) e = g

  pub scans_agree : (rows : List (List ℤ)) (s : State) → InRanges p s → replies_of (image_of p) s rows ≡ reference_replies p s rows
  scans_agree [] s g = refl
  scans_agree (r ∷ rs) s g =
      let e = scan_reply s g r in
      let q : (scan_of (image_of p) s r).state ≡ (reply s (reference_scan p s r)).state = ap {A = Reply} (λ a. a.state) e in
      ap₂ ◌∷◌ e (ap (λ x. replies_of (image_of p) x rs) q ∙ scans_agree rs (reply s (reference_scan p s r)).state (kept s g r (reference_scan p s r) refl))

-- ---- steps, of any image

steps_if : (n k : ℕ) (a : Answer (Unit {0})) → (a ≡ accepted tt → k ≡ n) → StepsIf n k a
steps_if n k (accepted tt) h = h refl
steps_if n k (refused number place) h = tt

pub all_steps : (image : List ℕ) (rows : List (List ℤ)) (s : State) → StepsAre (instructions_in image) (scans_of image s rows)
all_steps image [] s = tt
all_steps image (r ∷ rs) s = (steps_if (instructions_in image) (scan_of image s r).steps (scan_of image s r).answer (scan_steps_lem image s r), all_steps image rs (scan_of image s r).state)

-- ---- the claim

module _ (p : Program) (t : Translatable p) where
  pub start_translated : (lent : State) → length lent ≡ state_length (shape_of p) → start_of (image_of p) lent ≡ record { answer = accepted tt; state = starts_of p }
  unfolding start_of
  start_translated lent l =
      rw (check_translated p t, header_of_lem p t, limits_of_lem p t, eq-eqb (length lent) (state_length (shape_of p)) l)

  pub image_correct : (lent : State) → length lent ≡ state_length (shape_of p) → (rows : List (List ℤ)) → TraceCorrect p (image_of p) lent rows
  image_correct lent l rows =
      let e = start_translated lent l in
      let g = starts_in_range p t.well_formed in
      let a = scans_agree p t rows (starts_of p) g in
      let x₀ : OnlyTrace p (starts_of p) rows (replies_of (image_of p) (starts_of p) rows) = rw a (reference_trace p t.well_formed rows (starts_of p) g) in
      let q : starts_of p ≡ begun (image_of p) lent = sym (ap {A = AfterStart} (λ r. r.state) e) in
      let x = subst (λ (s : State). OnlyTrace p s rows (replies_of (image_of p) s rows)) q x₀ in
      record {
        started = e;
        satisfies = x.satisfies;
        fits = x.fits;
        timed = x.timed;
        unique = x.unique;
        agrees = subst (λ (s : State). replies_of (image_of p) s rows ≡ reference_replies p (starts_of p) rows) q a;
        last = x.last;
        steps = all_steps (image_of p) rows (begun (image_of p) lent);
      }

  -- a pair's formulas hold as they are written too (document 02, A.6)
  pub image_written_lem : (lent : State) → length lent ≡ state_length (shape_of p) → (rows : List (List ℤ)) → All (λ f. GX f (trace_of (begun (image_of p) lent) (found (image_of p) lent rows))) (written_of p)
  image_written_lem lent l rows =
      let g = starts_in_range p t.well_formed in
      let a = scans_agree p t rows (starts_of p) g in
      let q : starts_of p ≡ begun (image_of p) lent = sym (ap {A = AfterStart} (λ r. r.state) (start_translated lent l)) in
      let x = subst (λ (rs : List Reply). All (λ f. GX f (trace_of (starts_of p) rs)) (written_of p)) (sym a) (written_trace p t.well_formed rows (starts_of p) g) in
      subst (λ (s : State). All (λ f. GX f (trace_of s (replies_of (image_of p) s rows))) (written_of p)) q x

-- ---- texts

-- Demand 3, for every text that translation accepts, every buffer, every state lent to start and every list of rows.
pub trace_correct : (text buffer : List ℕ) (n : ℕ) → (translation_of text buffer).answer ≡ accepted n → (lent : State) (rows : List (List ℤ)) → Demand3 text buffer n lent rows
trace_correct text buffer n e lent rows =
    let x = image_stored text buffer n e in
    record {
      program = x.program;
      parsed = x.parsed;
      spelled = accepted_exactly.accepted_spelled text x.program x.parsed;
      correct = λ l. rw (stored_image text buffer n x) (image_correct x.program (program_translatable text x.program x.parsed) lent l rows);
    }

-- The two formulas of a pair hold as they are written too (document 02, A.6), for every text that translation accepts.
pub trace_written : (text buffer : List ℕ) (n : ℕ) → (translation_of text buffer).answer ≡ accepted n → (p : Program) → program_of text ≡ accepted p → (lent : State) → length lent ≡ state_length (shape_of p) → (rows : List (List ℤ)) → All (λ f. GX f (trace_of (begun (take n (translation_of text buffer).buffer) lent) (found (take n (translation_of text buffer).buffer) lent rows))) (written_of p)
trace_written text buffer n e p parsed lent l rows =
    let x = image_stored text buffer n e in
    let same : x.program ≡ p = answered (sym x.parsed ∙ parsed) in
    rw (stored_image text buffer n x, same) (image_written_lem p (program_translatable text p parsed) lent l rows)
  where
    answered : {q r : Program} → ◌≡◌ {A = Answer Program} (accepted q) (accepted r) → q ≡ r
    answered h = cc
