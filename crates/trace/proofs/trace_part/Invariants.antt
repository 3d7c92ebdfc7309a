-- What was taken so far was fed, and what that puts out was written.
use Rattle.std.proofs.Common.{length, ◌-◌, ◌≤◌, ◌≡◌, take}
use Rattle.std.specs.Io.KnownBytes.{Appends}
use Rattle.tracer.specs.Session.{Session, session_of, fed_over, put_over}
use Rattle.trace.proofs.trace_part.Given as goal

abbrev pub invariant-loop-at : goal.invariant-loop-at
invariant-loop-at g l =
    let start : Session = session_of l.fn.first l.fn.text l.fn.image l.fn.state l.fn.cells in
    (l.at ≤ length l.part)
    × (session_of l.s l.text l.image l.state l.cells ≡ fed_over start (take l.at l.part))
    × Appends (g.W.Write.contents l.fn.output) (g.W.Write.contents l.output) (put_over start (take l.at l.part))

abbrev pub decreases-loop-at : goal.decreases-loop-at
decreases-loop-at g l = length l.part - l.at
