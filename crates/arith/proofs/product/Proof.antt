-- `arith::product` meets its contract. Assumes nothing.
use lib.IntN.{◌*ℤ◌}
use mathlib.Core.Path.{ap}
use Rattle.arith.specs.Values.{int32, arithmetic}
use Rattle.arith.proofs.Laws.{widens, mul_fits, op_fits, op_is}
use Rattle.arith.proofs.product.Statement.{statement}
use Rattle.arith.proofs.product.Tie as tie

mul-result : tie.Need-overflow_mul-result
mul-result c = let f = c.ranges in op_fits ◌*ℤ◌ f.a f.b (mul_fits f.a f.b)

returns : tie.Need-returns
unfolding arithmetic
returns c = let f = c.ranges in ap int32 (op_is ◌*ℤ◌ f.a f.b (mul_fits f.a f.b))

pub product_spec : {M : Type 1} → statement M
product_spec = tie.close (tie.spec (λ c. widens c.ranges.a) (λ c. widens c.ranges.b) mul-result returns)
