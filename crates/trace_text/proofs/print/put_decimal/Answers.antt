use Rattle.std.proofs.Common.{sym}
use Rattle.trace_text.proofs.Puts.{put_as, put_then}
use Rattle.trace_text.proofs.SignedDecimals.{printed, printed_below}
use Rattle.trace_text.proofs.print.put_decimal.Goals as goal

pub returns-then-z-ge0 : goal.returns-then-z-ge0
returns-then-z-ge0 c =
    put_as c.put_unsigned_decimal.ensures (sym (printed c.args.z c.ranges.z c.unsigned_abs.ensures.value c.from-n.ensures c.if-z-ge0.true))

pub returns : goal.returns
returns c =
    put_as (put_then c.put_byte-next.ensures c.put_unsigned_decimal-2.ensures)
    (sym (printed_below c.args.z c.ranges.z c.unsigned_abs.ensures.value c.from-n.ensures c.if-z-ge0.false))
