-- What is left of the walk makes the whole. Assumes nothing.
use Rattle.std.proofs.Common.{length, ◌-◌}
use Rattle.checker.proofs.Timing.{Timing}
use Rattle.checker.proofs.timed.walk.Given as goal

abbrev pub invariant-loop-at : goal.invariant-loop-at
invariant-loop-at l = Timing l.code l.base l.low l.high l.start l.inputs l.at l.w l.last

abbrev pub decreases-loop-at : goal.decreases-loop-at
decreases-loop-at l = length l.code - l.at
