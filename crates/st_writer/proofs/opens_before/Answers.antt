use Rattle.std.proofs.Common.{◌≡◌, arith}
use Rattle.st_writer.proofs.Laws.{opens_more, opens_none}
use Rattle.st_writer.proofs.opens_before.Goals as goal

pub loop-init : goal.loop-init
loop-init c = opens_none _ _

pub loop-preserved : goal.loop-preserved
loop-preserved c = opens_more _ _ _ _ _ _ _ c.loop.invariant c.byte_before-place.ensures

pub returns : goal.returns
returns c = let e : c.loop.counter ≡ c.args.n = omega arith in rw e at c.loop.invariant
