-- Assumes nothing.
use Rattle.std.proofs.Common.{arith}
use Rattle.fused.proofs.Fusing.{goes_far}
use Rattle.fused.proofs.Acting.{stretch_begins, stretch_far, stretch_on, stretch_stops}
use Rattle.fused.proofs.act.act.Goals as goal

pub loop-b-init : goal.loop-b-init
loop-b-init c = stretch_begins c.requires.ready c.requires.passing_value

pub overflow_add-steps : goal.overflow_add-steps
overflow_add-steps c =
    let far = goes_far _ _ _ _ _ _ _ c.in-Some.ensures.1 in
    omega (arith, stretch_far c.loop-b.invariant, far.0, far.1, c.well_formed.0)

pub loop-b-smaller : goal.loop-b-smaller
loop-b-smaller c =
    let far = goes_far _ _ _ _ _ _ _ c.in-Some.ensures.1 in
    omega (arith, far.0, far.2, c.loop-b-test.true)

pub loop-b-preserved : goal.loop-b-preserved
loop-b-preserved c = stretch_on c.loop-b.invariant _ _ _ c.in-Some.ensures c.act_ahead.auto.vals

pub returns-in_default : goal.returns-in_default
returns-in_default c = stretch_stops c.loop-b.invariant _ c.act_ahead.result c.act_ahead.ensures c.in_default.is
