-- `before::before_ranges` meets its contract. Assumes nothing.
use mathlib.Core.Path.{refl, sym, ◌∙◌}
use borrow.Author.Tests.{not-true, not-false}
use borrow.Author.Rules.{rules}
use Rattle.before.proofs.before_ranges.Statement.{statement}
use Rattle.before.proofs.before_ranges.Tie as tie

returns : tie.Need-returns-then-not-all_in_range
returns c = (λ ns r. rw (sym (c.all_in_range.ensures ns r) ∙ not-true _ c.if-not-all_in_range.true-raw), refl)

returns-2 : tie.Need-returns-then-not-all_in_range-2
returns-2 c =
    (λ ns r. rw (sym (c.all_in_range.ensures ns r) ∙ not-false _ c.if-not-all_in_range.false-raw, sym (c.all_in_range-2.ensures ns r) ∙ not-true _ c.if-not-all_in_range-2.true-raw), refl)

returns-3 : tie.Need-returns
returns-3 c = (
  λ ns r. rw (sym (c.all_in_range.ensures ns r) ∙ not-false _ c.if-not-all_in_range.false-raw, sym (c.all_in_range-2.ensures ns r) ∙ not-false _ c.if-not-all_in_range-2.false-raw),
  (refl, refl, c.take_row.ensures),
)

pub before_ranges_spec : {M : Type 1} → statement M
before_ranges_spec =
    tie.close
    (tie.spec (λ c κs. search rules) returns (λ c κs. search rules) returns-2 (λ c κs. search rules) (λ c. search rules) returns-3)
