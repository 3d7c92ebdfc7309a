-- `trace_text::begin` meets its contract. Assumes nothing.
use borrow.Author.Tests.{eq-eqb, ne_eqb}
use borrow.Author.Rules.{rules}
use Rattle.trace_text.specs.Inner.Stages.{number_begins}
use Rattle.trace_text.proofs.begin.Statement.{statement}
use Rattle.trace_text.proofs.begin.Tie as tie

returns : tie.Need-returns-in-45
unfolding number_begins
returns c = rw (eq-eqb _ 45 c.in-45.is)

returns-2 : tie.Need-returns-in_default
unfolding number_begins
returns-2 c = rw (ne_eqb _ 45 c.in_default.in_default-own.rest.1) c.digit.ensures

pub begin_spec : {M : Type 1} → statement M
begin_spec = tie.close (tie.spec (λ c κs. search rules) returns returns-2)
