-- `machine::values::bit_of` meets its contract. Assumes nothing.
use mathlib.Core.Path.{ap, sym}
use Rattle.machine.specs.Step.{bit}
use Rattle.machine.proofs.values.bit_of.Statement.{statement}
use Rattle.machine.proofs.values.bit_of.Tie as tie

returns : tie.Need-returns-then-b
unfolding bit
returns c = ap bit (sym c.if-b.true)

returns-2 : tie.Need-returns-else-b
unfolding bit
returns-2 c = ap bit (sym c.if-b.false)

pub bit_of_spec : {M : Type 1} → statement M
bit_of_spec = tie.close (tie.spec returns returns-2)
