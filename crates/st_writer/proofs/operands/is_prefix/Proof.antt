-- `st_writer::operands::is_prefix` meets its contract. Assumes nothing.
use borrow.Author.Tests.{ne_eqb}
use Rattle.st_writer.specs.Inner.Operands.{is_prefix}
use Rattle.st_writer.proofs.operands.is_prefix.Statement.{statement}
use Rattle.st_writer.proofs.operands.is_prefix.Tie as tie

returns : tie.Need-returns-then-op-eq9
unfolding is_prefix
returns c = rw c.if-op-eq9.true

returns-2 : tie.Need-returns
unfolding is_prefix
returns-2 c = rw (ne_eqb _ _ c.if-op-eq9.false)

pub is_prefix_spec : {M : Type 1} → statement M
is_prefix_spec = tie.close (tie.spec returns returns-2)
