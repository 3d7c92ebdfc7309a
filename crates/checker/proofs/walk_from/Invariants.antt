-- What is left of the walk makes the whole. Assumes nothing.
use Rattle.std.proofs.Common.{length, ◌-◌}
use Rattle.checker.specs.Inner.Walk.{known_of}
use Rattle.checker.proofs.Walking.{Walking}
use Rattle.checker.proofs.walk_from.Given as goal

abbrev pub invariant-loop-at : goal.invariant-loop-at
invariant-loop-at l = Walking l.code l.from (known_of l.initial.w) l.at l.w

abbrev pub decreases-loop-at : goal.decreases-loop-at
decreases-loop-at l = length l.code - l.at
