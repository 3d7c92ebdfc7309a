-- `machine::values::truth` meets its contract. Assumes nothing.
use mathlib.Core.Path.{◌∙◌}
use borrow.Author.Tests.{ne_eqb}
use borrow.Author.Rules.{rules}
use Rattle.machine.specs.Inner.Groups.{truth_of}
use Rattle.arith.proofs.Laws.{same32}
use Rattle.machine.proofs.values.truth.Statement.{statement}
use Rattle.machine.proofs.values.truth.Tie as tie

returns : tie.Need-returns-in-10
unfolding truth_of
returns c = c.is_equal.ensures ∙ rw (same32 c.ranges.a, same32 c.ranges.b, c.in-10.is)

returns-2 : tie.Need-returns-in-11
unfolding truth_of
returns-2 c = c.is_not_equal.ensures ∙ rw (same32 c.ranges.a, same32 c.ranges.b, c.in-11.is)

returns-3 : tie.Need-returns-in-12
unfolding truth_of
returns-3 c = c.is_less.ensures ∙ rw (same32 c.ranges.a, same32 c.ranges.b, c.in-12.is)

returns-4 : tie.Need-returns-in-13
unfolding truth_of
returns-4 c = c.is_less_equal.ensures ∙ rw (same32 c.ranges.a, same32 c.ranges.b, c.in-13.is)

returns-5 : tie.Need-returns-in-14
unfolding truth_of
returns-5 c = c.is_greater.ensures ∙ rw (same32 c.ranges.a, same32 c.ranges.b, c.in-14.is)

returns-6 : tie.Need-returns-in-17
unfolding truth_of
returns-6 c = c.both_yes.ensures ∙ rw (same32 c.ranges.a, same32 c.ranges.b, c.in-17.is)

returns-7 : tie.Need-returns-in-18
unfolding truth_of
returns-7 c = c.either_yes.ensures ∙ rw (same32 c.ranges.a, same32 c.ranges.b, c.in-18.is)

returns-8 : tie.Need-returns-in_default
unfolding truth_of
returns-8 c =
    let r = c.in_default.in_default-own.rest in
    c.is_greater_equal.ensures
    ∙ rw (
      same32 c.ranges.a,
      same32 c.ranges.b,
      ne_eqb _ _ r.0.0.0.0.0.0.1,
      ne_eqb _ _ r.0.0.0.0.0.1,
      ne_eqb _ _ r.0.0.0.0.1,
      ne_eqb _ _ r.0.0.0.1,
      ne_eqb _ _ r.0.0.1,
      ne_eqb _ _ r.0.1,
      ne_eqb _ _ r.1,
    )

pub truth_spec : {M : Type 1} → statement M
truth_spec =
    tie.close
    (tie.spec (λ c κs. search rules) (λ c κs. search rules) (λ c κs. search rules) (λ c κs. search rules) (λ c κs. search rules)
    (λ c κs. search rules) (λ c κs. search rules) (λ c κs. search rules) returns returns-2 returns-3 returns-4 returns-5 returns-6 returns-7
    returns-8)
