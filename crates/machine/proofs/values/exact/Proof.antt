-- `machine::values::exact` meets its contract. Assumes nothing.
use mathlib.Core.Path.{ap, ◌∙◌}
use borrow.Author.Tests.{ne_eqb}
use borrow.Author.Rules.{rules}
use Rattle.arith.specs.Values.{int32}
use Rattle.arith.proofs.Laws.{same32, given64}
use Rattle.machine.proofs.values.exact.Statement.{statement}
use Rattle.machine.proofs.values.exact.Tie as tie

returns : tie.Need-returns-in-4
returns c = ap int32 (given64 c.sum.result c.sum.type_inv) ∙ c.sum.ensures ∙ rw (same32 c.ranges.a, same32 c.ranges.b, c.in-4.is)

returns-2 : tie.Need-returns-in-5
returns-2 c = ap int32 (given64 c.difference.result c.difference.type_inv) ∙ c.difference.ensures ∙ rw (same32 c.ranges.a, same32 c.ranges.b, c.in-5.is)

returns-3 : tie.Need-returns-in-6
returns-3 c = ap int32 (given64 c.product.result c.product.type_inv) ∙ c.product.ensures ∙ rw (same32 c.ranges.a, same32 c.ranges.b, c.in-6.is)

returns-4 : tie.Need-returns-in-7
returns-4 c = ap int32 (given64 c.quotient.result c.quotient.type_inv) ∙ c.quotient.ensures ∙ rw (same32 c.ranges.a, same32 c.ranges.b, c.in-7.is)

returns-5 : tie.Need-returns-in_default
returns-5 c =
    let r = c.in_default.in_default-own.rest in
    ap int32 (given64 c.remainder.result c.remainder.type_inv) ∙ c.remainder.ensures
    ∙ rw (same32 c.ranges.a, same32 c.ranges.b, ne_eqb _ _ r.0.0.0.1, ne_eqb _ _ r.0.0.1, ne_eqb _ _ r.0.1, ne_eqb _ _ r.1)

pub exact_spec : {M : Type 1} → statement M
exact_spec =
    tie.close
    (tie.spec (λ c κs. search rules) (λ c κs. search rules) (λ c κs. search rules) (λ c κs. search rules) (λ c κs. search rules) returns
    returns-2 returns-3 returns-4 returns-5)
