-- The values from k on are turned over.
use Rattle.std.proofs.Common.{List}
use Rattle.semantics.specs.Program.{Range}
use Rattle.machine.specs.Inner.Memory.{RangesIn}
use Rattle.closed.proofs.Turning.{Turning}
use Rattle.closed.proofs.next.Given as goal

abbrev pub invariant-loop-k : goal.invariant-loop-k
invariant-loop-k l = (ns : List Range) → RangesIn ns l.low l.high → Turning ns l.initial.values l.values l.k
