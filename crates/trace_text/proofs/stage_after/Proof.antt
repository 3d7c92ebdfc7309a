-- `trace_text::stage_after` meets its contract. Assumes nothing.
use borrow.Author.Tests.{eq-eqb, ne_eqb}
use borrow.Author.Rules.{rules}
use Rattle.trace_text.specs.Inner.Stages.{stage_after}
use Rattle.trace_text.proofs.stage_after.Statement.{statement}
use Rattle.trace_text.proofs.stage_after.Tie as tie

returns : tie.Need-returns-then-b-eq35
unfolding stage_after
returns c = rw (c.in-LineStart.is, eq-eqb _ 35 c.if-b-eq35.true)

returns-2 : tie.Need-returns-then-b-eq10
unfolding stage_after
returns-2 c = rw (c.in-Hash.is, eq-eqb _ 10 c.if-b-eq10.true)

returns-3 : tie.Need-returns-else-b-eq35
unfolding stage_after
returns-3 c = rw (c.in-LineStart.is, ne_eqb _ 35 c.if-b-eq35.false) c.text_stage.ensures

returns-4 : tie.Need-returns-in-InLine
unfolding stage_after
returns-4 c = rw c.in-InLine.is c.text_stage-in-InLine.ensures

returns-5 : tie.Need-returns-else-b-eq10
unfolding stage_after
returns-5 c = rw (c.in-Hash.is, ne_eqb _ 10 c.if-b-eq10.false)

returns-6 : tie.Need-returns-in-Rows
unfolding stage_after
returns-6 c = rw c.in-Rows.is

pub stage_after_spec : {M : Type 1} → statement M
stage_after_spec =
    tie.close
    (tie.spec (λ c. search rules) returns (λ c κs. search rules) (λ c. search rules) (λ c κs. search rules) (λ c. search rules) returns-2
    (λ c. search rules) returns-3 returns-4 returns-5 returns-6)
