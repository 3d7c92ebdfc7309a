-- `arith::is_less` meets its contract. Assumes nothing.
use Rattle.arith.specs.Values.{compares}
use Rattle.arith.proofs.Laws.{same32}
use Rattle.arith.proofs.is_less.Statement.{statement}
use Rattle.arith.proofs.is_less.Tie as tie

returns : tie.Need-returns
unfolding compares
returns c = rw (same32 c.ranges.a, same32 c.ranges.b)

pub is_less_spec : {M : Type 1} → statement M
is_less_spec = tie.close (tie.spec returns)
