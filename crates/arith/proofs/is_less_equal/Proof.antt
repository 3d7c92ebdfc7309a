-- `arith::is_less_equal` meets its contract. Assumes nothing.
use Rattle.arith.specs.Values.{compares}
use Rattle.arith.proofs.Laws.{same32}
use Rattle.arith.proofs.is_less_equal.Statement.{statement}
use Rattle.arith.proofs.is_less_equal.Tie as tie

returns : tie.Need-returns
unfolding compares
returns c = rw (same32 c.ranges.a, same32 c.ranges.b)

pub is_less_equal_spec : {M : Type 1} → statement M
is_less_equal_spec = tie.close (tie.spec returns)
