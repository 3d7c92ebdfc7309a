-- `arith::difference` meets its contract. Assumes nothing.
use lib.IntN.{◌-ℤ◌}
use mathlib.Core.Path.{ap}
use Rattle.arith.specs.Values.{int32, arithmetic}
use Rattle.arith.proofs.Laws.{widens, sub_fits, op_fits, op_is}
use Rattle.arith.proofs.difference.Statement.{statement}
use Rattle.arith.proofs.difference.Tie as tie

sub-result : tie.Need-overflow_sub-result
sub-result c = let f = c.ranges in op_fits ◌-ℤ◌ f.a f.b (sub_fits f.a f.b)

returns : tie.Need-returns
unfolding arithmetic
returns c = let f = c.ranges in ap int32 (op_is ◌-ℤ◌ f.a f.b (sub_fits f.a f.b))

pub difference_spec : {M : Type 1} → statement M
difference_spec = tie.close (tie.spec (λ c. widens c.ranges.a) (λ c. widens c.ranges.b) sub-result returns)
