-- `tracer::feed_text` meets its contract: the part ends in the text, or the rows begin in it. Assumes nothing.
use native.Mathlib.Omega.{arith}
use mathlib.Core.Path.{sym, ◌∙◌}
use lib.Seq.{length-take-le}
use borrow.Author.Tests.{not-true, not-false}
use Rattle.trace_text.proofs.Puts.{put_length, put_inside}
use Rattle.tracer.proofs.Taking.{text_taken, rows_begun}
use borrow.Author.Rules.{rules}
use Rattle.tracer.proofs.feed_text.Statement.{statement}
use Rattle.tracer.proofs.feed_text.Tie as tie

returns : tie.Need-returns-then-not-is_rows
returns c = text_taken c.args.stage c.args.stored c.args.text.now c.args.part.now c.requires.0.2 c.requires.0.0 c.requires.0.1 c.split_chunk-divided.ensures.0 c.split_chunk-divided.ensures.1.0 c.split_chunk-divided.ensures.1.1 (sym c.is_rows.ensures ∙ not-true _ c.if-not-is_rows.true-raw) c.args.image.now c.args.state.now _ _

slice-aggregate-open-trace : tie.Need-slice_bounds-open_trace-end-2
slice-aggregate-open-trace c =
    let p = c.split_chunk-divided.ensures.1.0 in
    sym (length-take-le _ _ (omega (arith, put_inside p, put_length p)))

returns-2 : tie.Need-returns
returns-2 c = rows_begun c.args.stage c.args.stored c.args.text.now c.args.part.now c.requires.0.2 c.requires.0.0 c.requires.0.1 c.split_chunk-divided.ensures.0 c.split_chunk-divided.ensures.1.0 c.split_chunk-divided.ensures.1.1 (sym c.is_rows.ensures ∙ not-false _ c.if-not-is_rows.false-raw) c.open_trace-opened.ensures _

pub feed_text_spec : {M : Type 1} → statement M
feed_text_spec = tie.close (tie.spec (λ c κs. search rules) (λ c κs. search rules) (λ c. search rules) returns (λ c. search rules) slice-aggregate-open-trace (λ c κs. search rules) (λ c. search rules) (λ c. search rules) (λ c. search rules) (λ c. search rules) returns-2)
