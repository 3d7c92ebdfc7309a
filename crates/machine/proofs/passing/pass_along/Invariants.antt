-- What was passed over leads to the place.
use Rattle.std.proofs.Common.{◌≡◌, true}
use Rattle.machine.specs.Inner.Passing.{OverTo}
use Rattle.machine.proofs.passing.pass_along.Given as goal

abbrev pub invariant-loop-steps : goal.invariant-loop-steps
invariant-loop-steps l = OverTo l.code l.from l.steps true l.at × (l.steps ≡ 0 → l.at ≡ l.from)
