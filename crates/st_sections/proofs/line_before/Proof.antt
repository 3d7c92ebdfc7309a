-- `st_sections::line_before` meets its contract. Assumes nothing.
use mathlib.Core.Path.{sym, ap}
use mathlib.Core.List.{◌++◌}
use lib.IntN.{ℤ}
use borrow.Author.Rules.{rules}
use Rattle.arith.proofs.Laws.{same32}
use Rattle.trace_text.specs.Output.{decimal_of}
use Rattle.st_writer.proofs.Laws.{fronts_then, as_front}
use Rattle.st_sections.proofs.line_before.Statement.{statement}
use Rattle.st_sections.proofs.line_before.Tie as tie

returns : tie.Need-returns-then-previous
returns c = rw c.if-previous.true (fronts_then (fronts_then (fronts_then (fronts_then c.bytes_before-end.ensures (as_front (λ l. ap (λ (z : ℤ). decimal_of z ++ l) (sym (same32 c.ranges.start))) c.signed_before-number.ensures)) c.bytes_before-sort.ensures) c.name_before-name.ensures) c.bytes_before.ensures)

returns-2 : tie.Need-returns
returns-2 c = rw c.if-previous.false (fronts_then (fronts_then (fronts_then (fronts_then c.bytes_before-end.ensures (as_front (λ l. ap (λ (z : ℤ). decimal_of z ++ l) (sym (same32 c.ranges.start))) c.signed_before-number.ensures)) c.bytes_before-sort.ensures) c.name_before-name.ensures) c.bytes_before-2.ensures)

pub line_before_spec : {M : Type 1} → statement M
line_before_spec =
    tie.close
    (tie.spec (λ c κs. search rules) (λ c κs. search rules) (λ c κs. search rules) (λ c κs. search rules)
    (λ c κs. search rules) (λ c. search rules) returns (λ c κs. search rules) (λ c. search rules) returns-2)
