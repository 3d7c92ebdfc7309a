use Rattle.std.proofs.Common.{sym, ◌∙◌}
use Rattle.trace_text.proofs.Puts.{put_clip}
use Rattle.trace_text.proofs.Chunks.{divide_all, divide_rows, divide_byte, gone_over}
use Rattle.trace_text.proofs.split_chunk.Goals as goal

pub returns-then-is_rows : goal.returns-then-is_rows
returns-then-is_rows c =
    let w = divide_rows c.loop-i.invariant (sym c.is_rows.ensures ∙ c.if-is_rows.true) in
    record { stage_value = w.0; put = put_clip (rw c.min-place.ensures at w.1.0); rows_value = w.1.1 }

pub loop-i-preserved : goal.loop-i-preserved
loop-i-preserved c =
    divide_byte c.loop-i.invariant c.loop-i-test.true (sym c.is_rows.ensures ∙ c.if-is_rows.false) c.stage_after-stage.ensures c.put_text-place.ensures

pub returns : goal.returns
returns c =
    let w = divide_all c.loop-i.invariant c.loop-i-test.false in
    record { stage_value = w.0; put = put_clip (rw c.min-place.ensures at w.1.0); rows_value = c.max.ensures ∙ gone_over _ _ _ _ c.loop-i-test.false c.loop-i.auto.i c.loop-i.auto.i-end w.1.1 }
