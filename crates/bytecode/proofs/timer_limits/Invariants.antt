-- The limits that are left to store make the whole table. Assumes nothing.
use Rattle.std.proofs.Common.{length, ◌-◌}
use Rattle.bytecode.proofs.Limiting.{Limiting}
use Rattle.bytecode.proofs.timer_limits.Given as goal

abbrev pub invariant-loop-at : goal.invariant-loop-at
invariant-loop-at l = Limiting l.code l.initial.table l.at l.table

abbrev pub decreases-loop-at : goal.decreases-loop-at
decreases-loop-at l = length l.code - l.at
