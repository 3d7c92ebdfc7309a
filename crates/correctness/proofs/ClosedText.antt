-- The plain scan of an accepted text whose image is closed refuses no in-range row. Assumes nothing.
use Prim.Native.Nat.{ℕ}
use native.Mathlib.Omega.{arith}
use mathlib.Core.Path.{◌≡◌, refl, sym, ap, subst, ◌∙◌}
use mathlib.Core.List.{List, [], ◌∷◌, map}
use lib.IntN.{ℤ}
use lib.ListN.{length, take, length-map}
use Rattle.limits.specs.Answer.{accepted}
use Rattle.arith.specs.Values.{Outcome, ok, refusal}
use Rattle.semantics.specs.Program.{Program}
use Rattle.semantics.specs.Formula.{State}
use Rattle.semantics.specs.Shape.{shape_of, cells, state_length}
use Rattle.semantics.specs.ReferenceScan.{reference_scan}
use Rattle.semantics.specs.Rows.{Reply, reply, reference_replies, starts_of, InRanges}
use Rattle.semantics.proofs.Reference.{starts_in_range}
use Rattle.bytecode.specs.Translation.{image_of, Translatable}
use Rattle.bytecode.specs.Parts.{shape_in}
use Rattle.bytecode.proofs.Shapes.{limits_of_lem}
use Rattle.bytecode.proofs.Soundness.{header_of_lem}
use Rattle.grammar.proofs.Accepted.{program_translatable}
use Rattle.translate.specs.Services.{translation_of}
use Rattle.translate.proofs.Kept.{image_stored, stored_image}
use Rattle.scan.specs.Services.{AfterStart, AfterScan, start_of, scans_of}
use Rattle.closed.specs.Closed.{closed_of}
use Rattle.closed.specs.Claims.{InRangeState, InRangeRow, InRangeRows, Closed, AllAccepted}
use Rattle.closed.proofs.Exactly.{closed_exactly, closed_runs}
use Rattle.correctness.specs.TraceCorrect.{verdict_of, reply_of}
use Rattle.correctness.specs.ClosedText.{RowInRanges, RowsInRanges, NoneRefused, NeverStops}
use Rattle.correctness.proofs.Correct.{scan_reply, scans_agree, start_translated}

accepted_reply : (s : State) (o : Outcome State) → (reply s o).verdict ≡ ok tt → (t : State) × (o ≡ ok t)
accepted_reply s (ok t) e = (t, refl)
accepted_reply s (refusal k) e = let z : ◌≡◌ {A = ℕ} 0 1 = cc in let b : ⊥ = omega arith in absurd b

none_refused : (l : List AfterScan) → AllAccepted l → NoneRefused (map reply_of l)
none_refused [] h = tt
none_refused (a ∷ l) h = (ap verdict_of h.0, none_refused l h.1)

module _ (p : Program) (t : Translatable p) (k : Closed (image_of p)) where
  state_in : (s : State) → InRanges p s → InRangeState (shape_in (image_of p)) s
  state_in s g = record { size = rw (header_of_lem p t, limits_of_lem p t) g.size; ranges = rw (header_of_lem p t, limits_of_lem p t) g.ranges }

  row_in : (row : List ℤ) → RowInRanges p row → InRangeRow (shape_in (image_of p)) row
  row_in row g = record { size = rw (header_of_lem p t, limits_of_lem p t) g.size; ranges = rw (header_of_lem p t, limits_of_lem p t) g.ranges }

  rows_in_lem : (rows : List (List ℤ)) → RowsInRanges p rows → InRangeRows (shape_in (image_of p)) rows
  rows_in_lem [] g = tt
  rows_in_lem (r ∷ rs) g = (row_in r g.0, rows_in_lem rs g.1)

  image_scans : (s : State) (row : List ℤ) → InRanges p s → RowInRanges p row → (u : State) × (reference_scan p s row ≡ ok u)
  image_scans s row g h =
      accepted_reply s (reference_scan p s row) (sym (ap {A = Reply} (λ a. a.verdict) (scan_reply p t s g row)) ∙ ap verdict_of (k.accepts s row (state_in s g) (row_in row h)))

  image_runs : (rows : List (List ℤ)) → RowsInRanges p rows → NoneRefused (reference_replies p (starts_of p) rows)
  image_runs rows h =
      let size : length (starts_of p) ≡ state_length (shape_of p) = length-map (cells (shape_of p)) (λ n. n.start) in
      let q : (start_of (image_of p) (starts_of p)).state ≡ starts_of p = ap {A = AfterStart} (λ r. r.state) (start_translated p t (starts_of p) size) in
      let all : AllAccepted (scans_of (image_of p) (start_of (image_of p) (starts_of p)).state rows) = closed_runs (image_of p) k (starts_of p) (rw (header_of_lem p t, limits_of_lem p t) size) rows (rows_in_lem rows h) in
      let here : AllAccepted (scans_of (image_of p) (starts_of p) rows) = subst (λ (s : State). AllAccepted (scans_of (image_of p) s rows)) q all in
      subst NoneRefused (scans_agree p t rows (starts_of p) (starts_in_range p t.well_formed)) (none_refused (scans_of (image_of p) (starts_of p) rows) here)

-- The image that translation wrote, closed by the closed profile's answer.
pub closed_text : (text buffer : List ℕ) (n : ℕ) → (translation_of text buffer).answer ≡ accepted n → (closed_of (take n (translation_of text buffer).buffer)).answer ≡ accepted tt → NeverStops text
closed_text text buffer n e c =
    let x = image_stored text buffer n e in
    let t = program_translatable text x.program x.parsed in
    let k : Closed (image_of x.program) = (closed_exactly (image_of x.program)).0 (rw (stored_image text buffer n x) at c) in
    record { program = x.program; parsed = x.parsed; scans = image_scans x.program t k; runs = image_runs x.program t k }
