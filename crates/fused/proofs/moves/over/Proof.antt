-- `fused::moves::over` meets its contract. Assumes nothing.
use mathlib.Core.Path.{sym, ap}
use Rattle.fused.specs.Inner.Passes.{passed_over}
use borrow.Author.Rules.{rules}
use Rattle.fused.proofs.moves.over.Statement.{statement}
use Rattle.fused.proofs.moves.over.Tie as tie

returns-2 : tie.Need-returns
returns-2 c = ap (passed_over c.args.b c.args.next c.args.passing) (sym c.in-Some.is)

pub over_spec : {M : Type 1} → statement M
over_spec = tie.close (tie.spec (λ c. search rules) (λ c. search rules) (λ c. search rules) returns-2)
