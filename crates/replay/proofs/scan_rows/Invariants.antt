-- What is left to do makes the whole.
use Rattle.replay.specs.Inner.Records.{records}
use Rattle.replay.proofs.Scans.{Scanning}
use Rattle.replay.proofs.scan_rows.Given as goal

abbrev pub invariant-loop-i : goal.invariant-loop-i
invariant-loop-i l =
    Scanning l.image l.cells l.lengths (records l.initial.state l.initial.numbers l.initial.steps l.initial.trace l.at) l.i l.cell (records l.state l.numbers l.steps l.trace l.place)
