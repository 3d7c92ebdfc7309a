-- Of numbers of 32 bits the tests of the code are those of the definition.
use Rattle.std.proofs.Common.{arith}
use Rattle.std.proofs.lemmas.Int.{ints, to_z-of_z}
use Rattle.semantics.specs.ReferenceScan.{moves}
use Rattle.machine.proofs.variable.Side.moves.Goals as goal

pub returns-in-Changing : goal.returns-in-Changing
unfolding moves
returns-in-Changing c = grind (arith, ints, to_z-of_z)

pub returns-in-Rising : goal.returns-in-Rising
unfolding moves
returns-in-Rising c = grind (arith, ints, to_z-of_z)

pub returns-in-Falling : goal.returns-in-Falling
unfolding moves
returns-in-Falling c = grind (arith, ints, to_z-of_z)
