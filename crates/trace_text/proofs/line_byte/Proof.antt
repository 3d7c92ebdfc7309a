-- `trace_text::line_byte` meets its contract. Assumes nothing.
use mathlib.Core.Path.{refl}
use borrow.Author.Rules.{rules}
use Rattle.trace_text.specs.Inner.Stages.{line_after, cells_after}
use Rattle.trace_text.proofs.line_byte.Statement.{statement}
use Rattle.trace_text.proofs.line_byte.Tie as tie

returns : tie.Need-returns-in-Start
unfolding line_after cells_after
returns c = rw c.in-Start.is (c.begin.ensures, refl)

returns-2 : tie.Need-returns-in-Wanted
unfolding line_after cells_after
returns-2 c = rw c.in-Wanted.is (c.begin-in-Wanted.ensures, refl)

returns-3 : tie.Need-returns-in-Minus
unfolding line_after cells_after
returns-3 c = rw c.in-Minus.is (c.digit.ensures, refl)

returns-4 : tie.Need-returns-in-Number
returns-4 c = rw c.in-Number.is c.number_byte.ensures

returns-5 : tie.Need-returns-in-NoRow
unfolding line_after cells_after
returns-5 c = rw c.in-NoRow.is (refl, refl)

pub line_byte_spec : {M : Type 1} → statement M
line_byte_spec =
    tie.close
    (tie.spec (λ c. search rules) (λ c κs. search rules) (λ c. search rules) (λ c κs. search rules) (λ c. search rules)
    (λ c κs. search rules) (λ c. search rules) (λ c κs. search rules) (λ c. search rules) returns returns-2 returns-3 (λ c. search rules)
    returns-4 returns-5)
