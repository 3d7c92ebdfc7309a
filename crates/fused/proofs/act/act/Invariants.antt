-- What was done so far. Assumes nothing.
use Rattle.std.proofs.Common.{length, ◌-◌}
use Rattle.fused.specs.Inner.Acts.{StretchedBy}
use Rattle.fused.proofs.act.act.Given as goal

abbrev pub invariant-loop-b : goal.invariant-loop-b
invariant-loop-b l = StretchedBy l.code l.low l.high l.prev l.initial.b l.initial.vals l.cur l.steps l.b l.vals

abbrev pub decreases-loop-b : goal.decreases-loop-b
decreases-loop-b l = length l.code - l.b.at
