use Rattle.std.proofs.Common.{eq-eqb}
use borrow.Author.Tests.{ne_eqb}
use Rattle.trace_text.specs.Inner.Stages.{text_after}
use Rattle.trace_text.proofs.Puts.{put_nothing, put_then}
use Rattle.trace_text.proofs.put_text.Goals as goal

pub returns-then-b-eq35 : goal.returns-then-b-eq35
unfolding text_after
returns-then-b-eq35 c = rw (c.in-LineStart.is, eq-eqb _ 35 c.if-b-eq35.true, c.min.ensures) (put_nothing _ _)

pub returns-then-b-eq10 : goal.returns-then-b-eq10
unfolding text_after
returns-then-b-eq10 c = rw (c.in-Hash.is, eq-eqb _ 10 c.if-b-eq10.true, c.min-then-b-eq10.ensures) (put_nothing _ _)

pub returns-else-b-eq35 : goal.returns-else-b-eq35
unfolding text_after
returns-else-b-eq35 c = rw (c.in-LineStart.is, ne_eqb _ 35 c.if-b-eq35.false) c.put_byte.ensures

pub returns-in-InLine : goal.returns-in-InLine
unfolding text_after
returns-in-InLine c = rw c.in-InLine.is c.put_byte-in-InLine.ensures

pub returns-else-b-eq10 : goal.returns-else-b-eq10
unfolding text_after
returns-else-b-eq10 c = rw (c.in-Hash.is, ne_eqb _ 10 c.if-b-eq10.false) (put_then c.put_byte-next.ensures c.put_byte-in-Hash.ensures)

pub returns-in-Rows : goal.returns-in-Rows
unfolding text_after
returns-in-Rows c = rw (c.in-Rows.is, c.min-in-Rows.ensures) (put_nothing _ _)
