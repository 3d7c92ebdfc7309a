-- `trace_text::text_stage` meets its contract. Assumes nothing.
use borrow.Author.Tests.{eq-eqb, ne_eqb}
use Rattle.trace_text.proofs.text_stage.Statement.{statement}
use Rattle.trace_text.proofs.text_stage.Tie as tie

pub text_stage_spec : {M : Type 1} → statement M
text_stage_spec = tie.close (tie.spec (λ c. rw (eq-eqb _ 10 c.if-b-eq10.true)) (λ c. rw (ne_eqb _ 10 c.if-b-eq10.false)))
