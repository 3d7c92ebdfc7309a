-- `tracer::finish_in` meets its contract, by where the program stands. Assumes nothing.
use native.Mathlib.Omega.{arith}
use mathlib.Core.Path.{sym, ◌∙◌}
use lib.Seq.{length-take-le}
use borrow.Author.Tests.{not-true, not-false}
use Rattle.tracer.proofs.Taking.{part_within, end_refused, end_text, end_no_line, end_line}
use borrow.Author.Rules.{rules}
use Rattle.tracer.proofs.finish_in.Statement.{statement}
use Rattle.tracer.proofs.finish_in.Tie as tie

returns : tie.Need-returns-then-is_rows
returns c = (end_refused _ _ _ _ _ c.in-Text.is (sym c.is_rows.ensures ∙ c.if-is_rows.true), omega arith)

slice-aggregate-open-trace : tie.Need-slice_bounds-open_trace-end
slice-aggregate-open-trace c = sym (length-take-le _ _ (omega (arith, c.min-n.ensures)))

returns-2 : tie.Need-returns-then-not-is_begun
returns-2 c = (end_no_line _ _ _ _ _ c.in-Rows.is (sym c.is_begun.ensures ∙ not-true _ c.if-not-is_begun.true-raw), omega arith)

slice-aggregate-trace-row : tie.Need-slice_bounds-trace_row-end-in-Rows
slice-aggregate-trace-row c = sym (length-take-le _ _ (omega (arith, c.min-end.ensures)))

slice-aggregate-trace-row-2 : tie.Need-slice_bounds-trace_row-end-in-Rows-3
slice-aggregate-trace-row-2 c = sym (length-take-le _ _ (omega (arith, c.min-n-in-Rows.ensures)))

trace-row-requires : tie.Need-trace_row-requires
trace-row-requires c κs = (c.requires.0.in_cells, part_within c.min-n-in-Rows.result c.args.state.now c.requires.0.in_state, c.requires.1)

returns-3 : tie.Need-returns-else-is_rows
returns-3 c = end_text _ _ _ _ _ c.in-Text.is (sym c.is_rows.ensures ∙ c.if-is_rows.false) c.min-n.ensures c.open_trace-opened.ensures

returns-4 : tie.Need-returns-else-not-is_begun
returns-4 c = end_line _ _ _ _ _ c.in-Rows.is c.min-end.ensures c.min-n-in-Rows.ensures (sym c.is_begun.ensures ∙ not-false _ c.if-not-is_begun.false-raw) c.next_number-next.ensures c.trace_row.ensures.1.1

pub finish_in_spec : {M : Type 1} → statement M
finish_in_spec = tie.close (tie.spec (λ c. search rules) (λ c κs. search rules) returns (λ c κs. search rules) slice-aggregate-open-trace (λ c κs. search rules) (λ c. search rules) (λ c κs. search rules) returns-2 (λ c κs. search rules) (λ c κs. search rules) (λ c κs. search rules) (λ c. search rules) slice-aggregate-trace-row (λ c. search rules) slice-aggregate-trace-row-2 trace-row-requires (λ c. search rules) (λ c. search rules) (λ c. search rules) returns-3 (λ c. search rules) (λ c. search rules) (λ c. search rules) (λ c. search rules) returns-4)
