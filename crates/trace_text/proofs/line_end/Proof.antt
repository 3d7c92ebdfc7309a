-- `trace_text::line_end` meets its contract. Assumes nothing.
use mathlib.Core.Path.{refl, sym, ap, ◌∙◌}
use mathlib.Core.List.{List}
use native.Mathlib.Omega.{arith}
use lib.IntN.{ℤ}
use lib.Seq.{sets}
use borrow.Author.Rules.{rules}
use Rattle.trace_text.specs.Row.{long_row}
use Rattle.trace_text.specs.Inner.Stages.{count_of, cells_of}
use Rattle.trace_text.proofs.Lines.{counted, not_counted}
use Rattle.trace_text.proofs.line_end.Statement.{statement}
use Rattle.trace_text.proofs.line_end.Tie as tie

add-result : tie.Need-overflow_add-result
add-result c =
    let at-s = c in
    omega (arith, counted c.in-Number.n c.in-Number.negative c.in-Number.v (sym c.end_number.ensures.0 ∙ c.if-end_number.true))

returns : tie.Need-returns-then-end_number
unfolding count_of cells_of
returns c = rw (c.in-Number.is, sym c.end_number.ensures.0 ∙ c.if-end_number.true) (refl, c.end_number.ensures.1)

returns-2 : tie.Need-returns-in-Start
unfolding count_of cells_of
returns-2 c = rw c.in-Start.is (refl, refl)

returns-3 : tie.Need-returns-else-end_number
unfolding count_of cells_of
returns-3 c =
    let at-end-number = c.before.before.before.before.before in
    let at-s = at-end-number in
    let e = sym at-end-number.end_number.ensures.0 ∙ c.if-end_number.false in
    let same = at-end-number.end_number.ensures.1 ∙ not_counted at-end-number.in-Number.n at-end-number.in-Number.negative at-end-number.in-Number.v at-end-number.args.cells.now e in
    rw (at-end-number.in-Number.is, e) (c.put_long_row.ensures.0, c.put_long_row.ensures.1 ∙ ap (λ (l : List ℤ). sets l 0 long_row) same)

returns-4 : tie.Need-returns-in-Wanted
unfolding count_of cells_of
returns-4 c = rw c.in-Wanted.is c.put_long_row-in-Wanted.ensures

returns-5 : tie.Need-returns-in-Minus
unfolding count_of cells_of
returns-5 c = rw c.in-Minus.is c.put_long_row-in-Minus.ensures

returns-6 : tie.Need-returns-in-NoRow
unfolding count_of cells_of
returns-6 c = rw c.in-NoRow.is c.put_long_row-in-NoRow.ensures

pub line_end_spec : {M : Type 1} → statement M
line_end_spec =
    tie.close
    (tie.spec (λ c. search rules) (λ c. search rules) (λ c κs. search rules) add-result (λ c. search rules) returns (λ c κs. search rules)
    (λ c. search rules) (λ c κs. search rules) (λ c. search rules) (λ c κs. search rules) (λ c. search rules) (λ c κs. search rules)
    returns-2 (λ c. search rules) returns-3 (λ c. search rules) returns-4 (λ c. search rules) returns-5 (λ c. search rules) returns-6)
