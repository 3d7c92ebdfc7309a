-- `trace_text::number_byte` meets its contract. Assumes nothing.
use mathlib.Core.Path.{refl, sym, ◌∙◌}
use native.Mathlib.Omega.{arith}
use borrow.Author.Tests.{eq-eqb, ne_eqb}
use borrow.Author.Rules.{rules}
use Rattle.trace_text.specs.Inner.Stages.{line_after, cells_after}
use Rattle.trace_text.proofs.Lines.{counted}
use Rattle.trace_text.proofs.number_byte.Statement.{statement}
use Rattle.trace_text.proofs.number_byte.Tie as tie

add-t10 : tie.Need-overflow_add-result
add-t10 c =
    let start = c.before.before.before.before.before in
    omega (arith, counted start.args.n start.args.negative start.args.v (sym c.end_number.ensures.0 ∙ c.if-end_number.true))

returns : tie.Need-returns-then-end_number
unfolding line_after cells_after
returns c = rw (eq-eqb _ 32 c.if-b-eq32.true, sym c.end_number.ensures.0 ∙ c.if-end_number.true) (refl, c.end_number.ensures.1)

returns-2 : tie.Need-returns-then-b-eq32
unfolding line_after cells_after
returns-2 c = rw (eq-eqb _ 32 c.if-b-eq32.true, sym c.end_number.ensures.0 ∙ c.if-end_number.false) (refl, c.end_number.ensures.1)

returns-3 : tie.Need-returns
unfolding line_after cells_after
returns-3 c = rw (ne_eqb _ 32 c.if-b-eq32.false) (c.digit.ensures, refl)

pub number_byte_spec : {M : Type 1} → statement M
number_byte_spec =
    tie.close
    (tie.spec (λ c κs. search rules) add-t10 (λ c. search rules) returns (λ c. search rules) returns-2 (λ c κs. search rules) returns-3)
