use Rattle.std.proofs.Common.{arith}
use Rattle.shapes.proofs.Placing.{placing_begins, placing_goes, placing_small, placing_ends}
use Rattle.shapes.proofs.place_times.Goals as goal

pub loop-i-init : goal.loop-i-init
loop-i-init c = placing_begins _ _ _

pub place_time-t-requires : goal.place_time-t-requires
place_time-t-requires c =
    let few = placing_small c.loop-i.invariant c.requires.0 in
    (omega (arith, c.requires.1 c.loop-i.i), omega (arith, c.loop-i-test.true, c.requires.0), omega arith)

pub loop-i-preserved : goal.loop-i-preserved
loop-i-preserved c = placing_goes c.loop-i.invariant c.loop-i-test.true _ _ _ c.place_time-t.ensures

pub returns : goal.returns
returns c = placing_ends c.loop-i.invariant c.loop-i-test.false
