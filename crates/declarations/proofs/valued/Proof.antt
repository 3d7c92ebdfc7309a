-- `declarations::valued` meets its contract. Assumes nothing.
use Rattle.arith.proofs.Laws.{same32}
use Rattle.declarations.proofs.valued.Statement.{statement}
use Rattle.declarations.proofs.valued.Tie as tie

pub valued_spec : {M : Type 1} → statement M
valued_spec = tie.close (tie.spec (λ c. rw (same32 c.ranges.value)))
