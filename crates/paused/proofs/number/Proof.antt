-- `paused::number` meets its contract. Assumes nothing.
use borrow.Author.Rules.{rules}
use mir.Facts.{to_z_pos}
use mir.Syntax.{w32}
use Rattle.paused.proofs.number.Statement.{statement}
use Rattle.paused.proofs.number.Tie as tie

pub number_spec : {M : Type 1} → statement M
number_spec = tie.close (tie.spec (λ c. search rules) (λ c. to_z_pos w32 c.requires))
