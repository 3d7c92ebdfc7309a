-- `st_writer::operands::value_before` meets its contract. Assumes nothing.
use borrow.Author.Rules.{rules}
use borrow.Author.Tests.{ne_eqb}
use Rattle.st_writer.proofs.Laws.{fronts_then, as_front}
use Rattle.st_writer.specs.Inner.Operands.{leaf_printed}
use Rattle.st_writer.proofs.operands.value_before.Statement.{statement}
use Rattle.st_writer.proofs.operands.value_before.Tie as tie

returns : tie.Need-returns-then-op-eq1
unfolding leaf_printed
returns c = as_front (λ l. rw c.if-op-eq1.true) c.constant_before.ensures

returns-2 : tie.Need-returns-then-op-eq2
unfolding leaf_printed
returns-2 c = as_front (λ l. rw c.if-op-eq2.true) c.name_before-first.ensures

returns-3 : tie.Need-returns
unfolding leaf_printed
returns-3 c = as_front (λ l. rw (ne_eqb _ _ c.if-op-eq1.false, ne_eqb _ _ c.if-op-eq2.false)) (fronts_then c.name_before-first.ensures c.byte_before.ensures)

pub value_before_spec : {M : Type 1} → statement M
value_before_spec =
    tie.close
    (tie.spec (λ c κs. search rules) (λ c. search rules) returns (λ c κs. search rules) (λ c. search rules) returns-2 (λ c κs. search rules) (λ c. search rules) returns-3)
