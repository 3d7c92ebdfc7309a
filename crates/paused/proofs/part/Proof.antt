-- `paused::part` meets its contract. Assumes nothing.
use native.Mathlib.Omega.{arith}
use borrow.Author.Rules.{rules}
use Rattle.paused.proofs.Clipped.{clipped_most}
use Rattle.paused.proofs.part.Statement.{statement}
use Rattle.paused.proofs.part.Tie as tie

returns : tie.Need-returns
returns c = (c.cell.ensures, omega (arith, c.cell.ensures, clipped_most c.args.memory.now c.args.i 65535))

pub part_spec : {M : Type 1} → statement M
part_spec = tie.close (tie.spec (λ c κs. search rules) returns)
