-- `arith::is_equal` meets its contract. Assumes nothing.
use Rattle.arith.specs.Values.{compares}
use Rattle.arith.proofs.Laws.{eq_bits}
use Rattle.arith.proofs.is_equal.Statement.{statement}
use Rattle.arith.proofs.is_equal.Tie as tie

returns : tie.Need-returns
unfolding compares
returns c = rw (eq_bits _ _ c.ranges.a c.ranges.b)

pub is_equal_spec : {M : Type 1} → statement M
is_equal_spec = tie.close (tie.spec returns)
