-- The first i values lie in their ranges.
use Rattle.machine.proofs.InRange.{Testing}
use Rattle.machine.proofs.lists.all_in_range.Given as goal

abbrev pub invariant-loop-i : goal.invariant-loop-i
invariant-loop-i l = Testing l.low l.high l.values l.i
