-- A line of the rows that has ended, and one byte of the rows. Assumes nothing.
use mathlib.Core.Path.{◌≡◌, sym, ap, subst, ◌∙◌}
use mathlib.Core.List.{List, append-nil}
use Prim.Native.Nat.{ℕ, ◌+◌, ◌*◌, ◌≤◌, min}
use native.Mathlib.Omega.{arith}
use lib.IntN.{ℤ}
use lib.ListN.{length, take, length-take}
use borrow.Author.Tests.{eq-eqb, ne_eqb}
use Rattle.limits.specs.Limits.{state_limit}
use Rattle.semantics.specs.Formula.{State}
use Rattle.scan.specs.declared.Scanned.{Scanned}
use Rattle.scan.specs.Services.{AfterScan, scan_of}
use Rattle.scan.specs.Results.{scan_answer, after_scan}
use Rattle.correctness.specs.TraceCorrect.{verdict_of}
use Rattle.trace_text.specs.declared.Line.{Line}
use Rattle.trace_text.specs.declared.Line.TheVariants.{Start}
use Rattle.trace_text.specs.Inner.Stages.{line_after, cells_after, count_of, cells_of, handed_row}
use Rattle.trace_text.specs.Output.{Put, row_line}
use Rattle.trace_text.proofs.Within.{count_within}
use Rattle.leb128.proofs.Stores.{take_clip}
use Rattle.tracer.specs.Printed.{refusal_of}
use Rattle.tracer.specs.Session.{line_room, in_rows, next_number, scan_line, after, put_by}
use Rattle.tracer.specs.Inner.Contracts.{PutWhole}
use Rattle.tracer.proofs.Begun.{put_whole}
use Rattle.tracer.proofs.Taking.{}

-- a row that was read is a part of the cells
pub count_inside : (line : Line) {n left room : ℕ} → n ≡ count_of line → left ≡ room → 65 ≤ room → n ≤ left
count_inside line e l h = omega (arith, count_within line)

-- a row scanned and printed: the state and the line are those of the scan of the row that the line hands over
pub row_traced : (image : List ℕ) (names : ℕ) (s : State) (cells : List ℤ) (line : Line) (number : ℕ) (r : Scanned) {out more : List ℕ} {t : State} {all : List ℤ} {n k shown at behind : ℕ}
    → (n ≡ count_of line) × (all ≡ cells_of line cells) → after_scan r t ≡ scan_of image s (take n all) → k ≡ refusal_of (verdict_of (scan_answer r))
    → shown ≡ min names (length t) → Put out at (row_line number (take shown t) k) more behind → length (row_line number (take shown t) k) ≤ 12 * length (take shown t) + 42 → length t ≤ state_limit → at + line_room ≤ length out
    → (t ≡ (scan_of image s (handed_row line cells)).state) × ((all ≡ cells_of line cells) × PutWhole out at (scan_line names number (scan_of image s (handed_row line cells))) more behind)
row_traced image names s cells line number r {out} {more} {t} {all} {n} {k} {shown} {at} {behind} c e f v p l m room =
    let g : after_scan r t ≡ scan_of image s (handed_row line cells) = rw (← c.0, ← c.1) e in
    let d : length (take shown t) ≤ state_limit = rw length-take (omega (arith, m)) in
    let w : PutWhole out at (row_line number (take shown t) k) more behind = put_whole p (omega arith) in
    let q : row_line number (take shown t) k ≡ scan_line names number (scan_of image s (handed_row line cells)) =
    ap (λ (x : ℕ). row_line number (take shown t) x) f ∙ ap (λ (x : State). row_line number x (refusal_of (verdict_of (scan_answer r)))) (ap (λ (x : ℕ). take x t) v ∙ take_clip names t) ∙ ap {A = AfterScan} (scan_line names number) g
    in
    (ap {A = AfterScan} (λ a. a.state) g, (c.1, subst (λ (x : List ℕ). PutWhole out at x more behind) q w))

-- ---- one byte

module _ (image : List ℕ) (names : ℕ) (s : State) (line : Line) (cells : List ℤ) (number b : ℕ) where
  -- LF ends the line
  pub byte_ends : b ≡ 10 → {k : ℕ} {t : State} {all : List ℤ} {out more : List ℕ} {at behind : ℕ} → k ≡ next_number number
      → t ≡ (scan_of image s (handed_row line cells)).state → all ≡ cells_of line cells → PutWhole out at (scan_line names k (scan_of image s (handed_row line cells))) more behind
      → (in_rows image names t Start all k ≡ after (in_rows image names s line cells number) b) × PutWhole out at (put_by (in_rows image names s line cells number) b) more behind
  unfolding after put_by
  byte_ends e n f g p = (rw (eq-eqb b 10 e, n, f, g), rw (eq-eqb b 10 e) (rw n at p))

  pub byte_more : (b ≡ 10 → ⊥) → {next : Line} {all : List ℤ} (out : List ℕ) {at : ℕ} → at ≤ length out → next ≡ line_after line b → all ≡ cells_after line cells b
      → (in_rows image names s next all number ≡ after (in_rows image names s line cells number) b) × PutWhole out at (put_by (in_rows image names s line cells number) b) out at
  unfolding after put_by
  byte_more e out {at} i f g = (rw (ne_eqb b 10 e, f, g), rw (ne_eqb b 10 e) (record { bytes = sym (append-nil (take at out)); place = omega arith; inside = i }))
