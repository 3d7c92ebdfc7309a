-- `tracer::rows::trace_row` meets its contract: its line is that of the scan. Assumes nothing.
use native.Mathlib.Omega.{arith}
use mathlib.Core.Path.{sym}
use lib.Seq.{length-take-le}
use Rattle.tracer.proofs.Lines.{count_inside, row_traced}
use borrow.Author.Rules.{rules}
use Rattle.tracer.proofs.rows.trace_row.Statement.{statement}
use Rattle.tracer.proofs.rows.trace_row.Tie as tie

slice-reshare-prefix-scan : tie.Need-slice_bounds-scan-end
slice-reshare-prefix-scan c = count_inside _ c.line_end-count.ensures.0 c.cells-1.given c.requires.0

slice-aggregate-scan : tie.Need-slice_bounds-scan-end-2
slice-aggregate-scan c = sym (length-take-le _ _ (count_inside _ c.line_end-count.ensures.0 c.cells-1.given c.requires.0))

slice-reshare-prefix-put-row : tie.Need-slice_bounds-put_row-end
slice-reshare-prefix-put-row c = omega (arith, c.min-shown.ensures)

slice-aggregate-put-row : tie.Need-slice_bounds-put_row-end-2
slice-aggregate-put-row c = sym (length-take-le _ _ (omega (arith, c.min-shown.ensures)))

returns : tie.Need-returns
returns c = row_traced _ _ _ _ _ _ c.scan-scanned.result c.line_end-count.ensures c.scan-scanned.ensures.0 c.scan_number.ensures c.min-shown.ensures c.put_row.ensures.0 c.put_row.ensures.1 (omega (arith, c.scan-scanned.auto.state, c.requires.1)) c.requires.2

pub trace_row_spec : {M : Type 1} → statement M
trace_row_spec = tie.close (tie.spec (λ c κs. search rules) slice-reshare-prefix-scan slice-aggregate-scan (λ c κs. search rules) (λ c κs. search rules) slice-reshare-prefix-put-row slice-aggregate-put-row (λ c κs. search rules) (λ c κs. search rules) (λ c. search rules) (λ c. search rules) (λ c. search rules) returns)
