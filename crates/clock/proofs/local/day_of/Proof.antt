-- `clock::local::day_of` meets its contract. Assumes nothing.
use native.Mathlib.Omega.{arith}
use Rattle.clock.proofs.Held.{same64, Below, below_zero, Above, from_zero}
use Rattle.clock.proofs.local.day_of.Statement.{statement}
use Rattle.clock.proofs.local.day_of.Tie as tie

below : (c : tie.Then-local-lt0) → Below c.args.local
below c = below_zero _ c.requires (rw (same64 c.ranges.local) at c.if-local-lt0.true)

above : (c : tie.Else-local-lt0) → Above c.args.local
above c = from_zero _ c.requires (rw (same64 c.ranges.local) at c.if-local-lt0.false)

pub day_of_spec : {M : Type 1} → statement M
day_of_spec =
    tie.close
    (tie.spec (λ c. (below c).first) (λ c. (omega arith, (below c).quotient)) (λ c. (below c).second) (λ c. (below c).narrow)
    (λ c. (below c).day) (λ c. (omega arith, (above c).quotient)) (λ c. (above c).narrow) (λ c. (above c).day))
