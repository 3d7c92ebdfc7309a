-- `trace_text::in_range` meets its contract. Assumes nothing.
use Rattle.trace_text.proofs.in_range.Statement.{statement}
use Rattle.trace_text.proofs.in_range.Tie as tie

pub in_range_spec : {M : Type 1} → statement M
in_range_spec = tie.close (tie.spec (λ c. rw c.if-negative.true) (λ c. rw c.if-negative.false))
