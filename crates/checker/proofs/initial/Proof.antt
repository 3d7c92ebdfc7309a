-- `checker::initial` meets its contract. Assumes nothing.
use borrow.Author.Rules.{rules}
use Rattle.checker.proofs.initial.Statement.{statement}
use Rattle.checker.proofs.initial.Tie as tie

pub initial_spec : {M : Type 1} → statement M
initial_spec = tie.close (tie.spec (λ c κs. search rules) (λ c. rw c.ones.ensures))
