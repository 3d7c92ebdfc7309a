-- The instructions that are left make the whole condition (Going.Rest). Assumes nothing.
use Rattle.std.proofs.Common.{length, ◌-◌}
use Rattle.evaluation.proofs.Going.{Going}
use Rattle.evaluation.proofs.evaluate.Given as goal

abbrev pub invariant-loop-at : goal.invariant-loop-at
invariant-loop-at l = Going l.code l.prev l.cur l.initial.vals l.k l.vals l.at

abbrev pub decreases-loop-at : goal.decreases-loop-at
decreases-loop-at l = length l.code - l.at
