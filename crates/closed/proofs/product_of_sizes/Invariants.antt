-- What is left to multiply makes the whole.
use Rattle.std.proofs.Common.{◌≡◌, List, ◌*◌, ◌≤◌, drop}
use Rattle.semantics.specs.Program.{Range}
use Rattle.machine.specs.Inner.Memory.{RangesIn}
use Rattle.closed.specs.Closed.{product_of_sizes}
use Rattle.closed.proofs.product_of_sizes.Given as goal

abbrev pub invariant-loop-i : goal.invariant-loop-i
invariant-loop-i l = (1 ≤ l.p) × (l.p ≤ 65536) × ((ns : List Range) → RangesIn ns l.low l.high → product_of_sizes ns ≡ l.p * product_of_sizes (drop l.i ns))
