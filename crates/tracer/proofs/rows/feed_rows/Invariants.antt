-- What is left of the part makes the whole.
use Rattle.std.proofs.Common.{length}
use Rattle.tracer.specs.Session.{in_rows}
use Rattle.tracer.proofs.Taking.{Taking}
use Rattle.tracer.proofs.rows.feed_rows.Given as goal

abbrev pub invariant-loop-taken : goal.invariant-loop-taken
invariant-loop-taken l =
    Taking (length l.initial.out) (in_rows l.image l.names l.initial.state l.initial.line l.initial.cells l.initial.number) l.part l.taken
    (in_rows l.image l.names l.state l.line l.cells l.number) l.out l.put
