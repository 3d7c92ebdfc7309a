-- Assumes nothing.
use Rattle.std.proofs.Common.{arith}
use Rattle.bytecode.proofs.RoundTrip.{one_next}
use Rattle.fused.specs.Inner.Leaps.{stays, further}
use Rattle.fused.proofs.Skipping.{skips_far, skips_kept}
use Rattle.fused.proofs.ahead.skip.Goals as goal

pub loop-at-init : goal.loop-at-init
loop-at-init c = stays

pub skip_one-requires : goal.skip_one-requires
skip_one-requires c = (c.requires, (skips_kept c.args.code.now c.args.w c.args.from c.requires _ _ _ c.loop-at.invariant).0, c.if-w-eq0.true, c.loop-at-test.true)

pub overflow_add-steps : goal.overflow_add-steps
overflow_add-steps c = omega (arith, skips_far c.args.code.now c.args.w c.args.from _ _ _ c.loop-at.invariant, c.loop-at-test.true, c.well_formed.0)

pub loop-at-smaller : goal.loop-at-smaller
loop-at-smaller c =
    let s = c.in-Some.ensures in
    omega (arith, (one_next c.args.code.now _ s.stride.instruction _ s.stride.fetched).1, c.loop-at-test.true)

pub loop-at-preserved : goal.loop-at-preserved
loop-at-preserved c = further _ _ _ _ _ c.loop-at.invariant c.in-Some.ensures

pub returns-else-w-eq0 : goal.returns-else-w-eq0
returns-else-w-eq0 c = stays
