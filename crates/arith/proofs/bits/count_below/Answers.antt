use Rattle.arith.proofs.Flags.{ones_masked}
use Rattle.arith.proofs.bits.count_below.Goals as goal

pub returns : goal.returns
returns c = rw c.ones.ensures (ones_masked c.args.n c.args.bits c.min.result c.min.ensures c.ranges.bits.fits)
