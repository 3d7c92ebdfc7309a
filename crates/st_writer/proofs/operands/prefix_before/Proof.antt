-- `st_writer::operands::prefix_before` meets its contract. Assumes nothing.
use borrow.Author.Rules.{rules}
use borrow.Author.Tests.{ne_eqb}
use Rattle.st_writer.proofs.Laws.{as_front}
use Rattle.st_writer.specs.Inner.Operands.{prefix_bytes}
use Rattle.st_writer.proofs.operands.prefix_before.Statement.{statement}
use Rattle.st_writer.proofs.operands.prefix_before.Tie as tie

same_length : tie.Need-shape_of-out-then-op-eq9
same_length c = c.bytes_before.ensures.same

returns : tie.Need-returns-then-op-eq9
unfolding prefix_bytes
returns c = as_front (λ l. rw c.if-op-eq9.true) c.bytes_before.ensures

same-length-2 : tie.Need-shape_of-out
same-length-2 c = c.bytes_before-2.ensures.same

returns-2 : tie.Need-returns
unfolding prefix_bytes
returns-2 c = as_front (λ l. rw (ne_eqb _ _ c.if-op-eq9.false)) c.bytes_before-2.ensures

pub prefix_before_spec : {M : Type 1} → statement M
prefix_before_spec =
    tie.close
    (tie.spec (λ c. search rules) same_length returns (λ c. search rules) same-length-2 returns-2)
