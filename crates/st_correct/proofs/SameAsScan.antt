-- Structured Text does what the scans of the image do, for every text, buffer, state and row. Assumes nothing.
use Prim.Native.Nat.{ℕ}
use mathlib.Core.Path.{◌≡◌, refl, sym, ap, ◌∙◌, subst}
use mathlib.Core.Bool.{Bool, true, false, ◌&&◌}
use mathlib.Core.List.{List}
use mathlib.Core.Option.{some}
use lib.Dec.{eqb}
use lib.IntN.{ℤ}
use lib.ListN.{length, take}
use borrow.Author.Tests.{eqb-true}
use Rattle.limits.specs.Answer.{Answer, accepted}
use Rattle.arith.specs.Values.{Outcome, ok, refusal}
use Rattle.arith.proofs.Basics.{true_T, and_both, ok≢refusal}
use Rattle.semantics.specs.Program.{Program}
use Rattle.semantics.specs.Formula.{State}
use Rattle.semantics.specs.Shape.{shape_of, state_length, row_length, state_in_range}
use Rattle.semantics.specs.ReferenceScan.{reference_scan}
use Rattle.semantics.specs.Rows.{Reply, reply, reference_replies, starts_of, accepted_states, accepted_rows, InRanges}
use Rattle.semantics.proofs.Reference.{starts_in_range}
use Rattle.bytecode.specs.Translation.{image_of, Translatable}
use Rattle.bytecode.proofs.Soundness.{header_of_lem, check_translated}
use Rattle.bytecode.proofs.Shapes.{limits_of_lem}
use Rattle.grammar.specs.Spelled.{names_of}
use Rattle.grammar.proofs.Accepted.{program_translatable}
use Rattle.translate.specs.Services.{translation_of}
use Rattle.translate.proofs.Kept.{never, image_stored, stored_image}
use Rattle.scan.specs.Services.{AfterStart, AfterScan, tested_scan, scanned, scan_of}
use Rattle.correctness.specs.TraceCorrect.{verdict_of, reply_of, replies_of, found}
use Rattle.correctness.proofs.Correct.{scan_reply, scans_agree, start_translated}
use Rattle.st.specs.Meaning.{fresh_store, cycle_states}
use Rattle.st_program.specs.Written.{program_in_st, st_bytes, has_st}
use Rattle.st_program.proofs.Cycle.{InSt}
use Rattle.st_program.proofs.Trace.{fresh_ready, fresh_values, leaves_same, cycles_same}
use Rattle.st_program.proofs.Printable.{AllStarts, printed_read}
use Rattle.st_program.proofs.Literals.{accepted_in_st, accepted_starts, st_untimed}
use Rattle.structured_text.specs.Services.{structured_text_of}
use Rattle.structured_text.proofs.Ways.{st_stored, stored_st}
use Rattle.st_correct.specs.StructuredText.{SameAsScan, StCorrect}

-- ---- an accepted scan

tested_passed : (b : Bool) (k : ℕ) (s : State) (r : AfterScan) → (tested_scan b k s r).answer ≡ accepted tt → (b ≡ true) × (r.answer ≡ accepted tt)
tested_passed true k s r e = (refl, e)
tested_passed false k s r e = never tt k 0 (sym e)

-- what the reply of an accepted scan shows
accepted_reply : (s : State) (a : AfterScan) (o : Outcome State) → reply_of a ≡ reply s o → a.answer ≡ accepted tt → o ≡ ok a.state
accepted_reply s a (ok u) e f = let q : a.state ≡ u = ap {A = Reply} (λ x. x.state) e in ap ok (sym q)
accepted_reply s a (refusal k) e f =
    let v : verdict_of a.answer ≡ refusal k = ap {A = Reply} (λ x. x.verdict) e in
    ok≢refusal tt k (sym (ap verdict_of f) ∙ v)

module _ (p : Program) (t : Translatable p) where
  scan_tests : (s : State) (row : List ℤ) → scan_of (image_of p) s row ≡ scanned (accepted tt) (shape_of p) (image_of p) s row
  unfolding scan_of
  scan_tests s row = rw (check_translated p t, header_of_lem p t, limits_of_lem p t)

  -- its state is in range: 12 and 18 are tested
  scanned_in_range : (s : State) (row : List ℤ) → (scan_of (image_of p) s row).answer ≡ accepted tt → InRanges p s
  scanned_in_range s row e =
      let k = shape_of p in
      let x = tested_passed (eqb (length s) (state_length k) && eqb (length row) (row_length k)) 12 s _ (sym (ap {A = AfterScan} (λ a. a.answer) (scan_tests s row)) ∙ e) in
      let y = tested_passed (state_in_range k s) 18 s _ x.1 in
      record {
        size = eqb-true (length s) (state_length k) (and_both (eqb (length s) (state_length k)) (eqb (length row) (row_length k)) x.0).0;
        ranges = true_T (state_in_range k s) y.0;
      }

  module _ (w : InSt p) (starts : AllStarts p.names) (h : has_st p ≡ true) where
    pub same_as_scan : SameAsScan p (image_of p) (st_bytes p)
    same_as_scan = record {
      reads = printed_read p w starts h;
      starts = (fresh_values p w).0;
      previous_starts = (fresh_values p w).1;
      cycle = λ lazy s row e. let g = scanned_in_range s row e in
          leaves_same p w lazy (st_bytes p) (printed_read p w starts h) s g row (scan_of (image_of p) s row).state (accepted_reply s (scan_of (image_of p) s row) (reference_scan p s row) (scan_reply p t s g row) e);
      trace = traced;
    } where
      traced : (lazy : Bool) (lent : State) (rows : List (List ℤ)) → length lent ≡ state_length (shape_of p)
          → cycle_states lazy (program_in_st p) (names_of p) (fresh_store (program_in_st p)) (accepted_rows rows (found (image_of p) lent rows)) ≡ some (accepted_states (found (image_of p) lent rows))
      traced lazy lent rows l =
          let g = starts_in_range p t.well_formed in
          let q : found (image_of p) lent rows ≡ reference_replies p (starts_of p) rows
          = ap (λ (s : State). replies_of (image_of p) s rows) (ap {A = AfterStart} (λ r. r.state) (start_translated p t lent l)) ∙ scans_agree p t rows (starts_of p) g in
          subst (λ (x : List Reply). cycle_states lazy (program_in_st p) (names_of p) (fresh_store (program_in_st p)) (accepted_rows rows x) ≡ some (accepted_states x)) (sym q)
          (cycles_same p w lazy rows (fresh_store (program_in_st p)) (starts_of p) (fresh_ready p w) g)

-- ---- texts

one_program : (a b : Program) → ◌≡◌ {A = Answer Program} (accepted a) (accepted b) → a ≡ b
one_program a b e = cc

-- The theorem: for every text that has a Structured Text, every buffer, state and row.
pub structured_text_correct : (text buffer room : List ℕ) (n m : ℕ) → (structured_text_of text buffer).answer ≡ accepted n → (translation_of text room).answer ≡ accepted m → StCorrect text buffer room n m
structured_text_correct text buffer room n m e f =
    let x = st_stored text buffer n e in
    let y = image_stored text room m f in
    let q : y.program ≡ x.program = one_program y.program x.program (sym y.parsed ∙ x.parsed) in
    let i : take m (translation_of text room).buffer ≡ image_of x.program = stored_image text room m y ∙ ap image_of q in
    record {
      program = x.program;
      parsed = x.parsed;
      same = rw (i, stored_st text buffer n x)
          (same_as_scan x.program (program_translatable text x.program x.parsed) (accepted_in_st text x.program x.parsed (st_untimed x.program x.has)) (accepted_starts text x.program x.parsed) x.has);
    }
