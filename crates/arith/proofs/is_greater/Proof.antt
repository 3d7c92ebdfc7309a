-- `arith::is_greater` meets its contract. Assumes nothing.
use Rattle.arith.specs.Values.{compares}
use Rattle.arith.proofs.Laws.{same32}
use Rattle.arith.proofs.is_greater.Statement.{statement}
use Rattle.arith.proofs.is_greater.Tie as tie

returns : tie.Need-returns
unfolding compares
returns c = rw (same32 c.ranges.a, same32 c.ranges.b)

pub is_greater_spec : {M : Type 1} → statement M
is_greater_spec = tie.close (tie.spec returns)
