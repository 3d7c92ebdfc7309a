-- What was read so far was fed, and what that puts out was written.
use Rattle.std.proofs.Common.{◌≡◌, ℕ, List, []}
use Rattle.std.specs.Io.KnownBytes.{Appends, Consumes}
use Rattle.trace_text.specs.declared.Stage.TheVariants.{LineStart}
use Rattle.tracer.specs.Session.{Session, in_text, session_of, fed_over, put_over}
use Rattle.trace.proofs.trace_input.Given as goal

abbrev pub invariant-loop : goal.invariant-loop
invariant-loop g l =
    let start : Session = in_text LineStart [] l.fn.cells in
    (bytes : List ℕ)
    × Consumes (g.R.Read.remaining l.fn.input) (g.R.Read.remaining l.input) bytes
    × (session_of l.s l.text l.image l.state l.cells ≡ fed_over start bytes)
    × Appends (g.W.Write.contents l.fn.output) (g.W.Write.contents l.output) (put_over start bytes)
