-- `paused::waiting` meets its contract. Assumes nothing.
use borrow.Author.Rules.{rules}
use Rattle.paused.specs.Memory.{waiting_length}
use Rattle.paused.proofs.waiting.Statement.{statement}
use Rattle.paused.proofs.waiting.Tie as tie

returns : tie.Need-returns
unfolding waiting_length
returns c = c.cell.ensures

pub waiting_spec : {M : Type 1} → statement M
waiting_spec = tie.close (tie.spec (λ c. search rules) (λ c κs. search rules) returns)
