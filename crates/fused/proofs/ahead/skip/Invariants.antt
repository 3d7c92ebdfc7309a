-- What was passed over so far. Assumes nothing.
use Rattle.std.proofs.Common.{length, ◌-◌}
use Rattle.fused.specs.Inner.Leaps.{with_held, SkipsTo}
use Rattle.fused.proofs.ahead.skip.Given as goal

abbrev pub invariant-loop-at : goal.invariant-loop-at
invariant-loop-at l = SkipsTo l.code l.w l.from l.steps (with_held l.w l.held) l.at

abbrev pub decreases-loop-at : goal.decreases-loop-at
decreases-loop-at l = length l.code - l.at
