-- `resumable::phase_at` meets its contract. Assumes nothing.
use borrow.Author.Tests.{le-leb, lt-leb}
use Rattle.resumable.proofs.phase_at.Statement.{statement}
use Rattle.resumable.proofs.phase_at.Tie as tie

pub phase_at_spec : {M : Type 1} → statement M
phase_at_spec = tie.close (tie.spec (λ c. simp (le-leb _ _ c.if-len-place.true)) (λ c. simp (lt-leb _ _ c.if-len-place.false)))
