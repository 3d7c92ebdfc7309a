-- `machine::values::calculated` meets its contract. Assumes nothing.
use mathlib.Core.Path.{ap, ◌∙◌}
use borrow.Author.Rules.{rules}
use Rattle.arith.specs.Values.{int32}
use Rattle.arith.proofs.Laws.{same32, given64}
use Rattle.machine.proofs.values.calculated.Statement.{statement}
use Rattle.machine.proofs.values.calculated.Tie as tie

returns : tie.Need-returns
returns c =
    let f = c.ranges in
    c.narrow.ensures ∙ ap int32 (given64 c.exact.result c.exact.type_inv) ∙ c.exact.ensures ∙ rw (same32 f.a, same32 f.b)

pub calculated_spec : {M : Type 1} → statement M
calculated_spec = tie.close (tie.spec (λ c κs. search rules) (λ c κs. search rules) returns)
