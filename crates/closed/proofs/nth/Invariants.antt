-- The combination of the turns done stands in the values.
use Rattle.std.proofs.Common.{List, ◌<◌}
use Rattle.semantics.specs.Program.{Range}
use Rattle.machine.specs.Inner.Memory.{RangesIn}
use Rattle.closed.specs.Closed.{product_of_sizes}
use Rattle.closed.specs.Inner.Parts.{IsNth}
use Rattle.closed.proofs.nth.Given as goal

abbrev pub invariant-loop : goal.invariant-loop
invariant-loop l = (ns : List Range) → RangesIn ns l.low l.high → l.counter < product_of_sizes ns → IsNth ns l.counter l.values
