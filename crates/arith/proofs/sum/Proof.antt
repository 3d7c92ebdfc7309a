-- `arith::sum` meets its contract. Assumes nothing.
use lib.IntN.{◌+ℤ◌}
use mathlib.Core.Path.{ap}
use Rattle.arith.specs.Values.{int32, arithmetic}
use Rattle.arith.proofs.Laws.{widens, add_fits, op_fits, op_is}
use Rattle.arith.proofs.sum.Statement.{statement}
use Rattle.arith.proofs.sum.Tie as tie

add-result : tie.Need-overflow_add-result
add-result c = let f = c.ranges in op_fits ◌+ℤ◌ f.a f.b (add_fits f.a f.b)

returns : tie.Need-returns
unfolding arithmetic
returns c = let f = c.ranges in ap int32 (op_is ◌+ℤ◌ f.a f.b (add_fits f.a f.b))

pub sum_spec : {M : Type 1} → statement M
sum_spec = tie.close (tie.spec (λ c. widens c.ranges.a) (λ c. widens c.ranges.b) add-result returns)
