use Rattle.std.proofs.Common.{◌≡◌, length, arith}
use Rattle.tracer.proofs.Taking.{taking, taking_byte, taking_all, taking_full, rows_taken}
use Rattle.tracer.proofs.rows.feed_rows.Goals as goal

pub loop-taken-init : goal.loop-taken-init
loop-taken-init c = taking _ _ _

pub returns-then-out-put-lt-LINE_ROOM : goal.returns-then-out-put-lt-LINE_ROOM
returns-then-out-put-lt-LINE_ROOM c = rows_taken _ _ c.loop-taken.invariant c.requires.2 (taking_full c.loop-taken.invariant c.loop-taken-test.true c.if-out-put-lt-LINE_ROOM.true)

pub loop-taken-preserved : goal.loop-taken-preserved
loop-taken-preserved c = taking_byte c.loop-taken.invariant c.loop-taken-test.true c.if-out-put-lt-LINE_ROOM.false c.trace_byte-traced.ensures.number_after c.trace_byte-traced.ensures.put_whole c.trace_byte-traced.auto.out

pub returns : goal.returns
returns c =
    let e : c.loop-taken.taken ≡ length c.args.part.now = omega arith in
    rw e at (rows_taken _ _ c.loop-taken.invariant c.requires.2 (taking_all c.loop-taken.invariant c.loop-taken-test.false))
