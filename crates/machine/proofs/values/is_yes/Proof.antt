-- `machine::values::is_yes` meets its contract. Assumes nothing.
use borrow.Author.Rules.{rules}
use mir.Facts.{to_z-of_z}
use Rattle.machine.specs.Step.{yes}
use Rattle.arith.specs.Values.{compares}
use Rattle.machine.proofs.values.is_yes.Statement.{statement}
use Rattle.machine.proofs.values.is_yes.Tie as tie

returns : tie.Need-returns
unfolding compares yes
returns c = rw (to_z-of_z c.ranges.z) at c.is_not_equal.ensures

pub is_yes_spec : {M : Type 1} → statement M
is_yes_spec = tie.close (tie.spec (λ c κs. search rules) returns)
