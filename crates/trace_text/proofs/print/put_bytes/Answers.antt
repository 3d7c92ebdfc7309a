use Rattle.trace_text.proofs.Puts.{put_copied}
use Rattle.trace_text.proofs.print.put_bytes.Goals as goal

pub returns : goal.returns
returns c = put_copied _ _ _ _ _ c.min-place.ensures c.min-count.ensures (c.copy_from_slice.ensures.after)
