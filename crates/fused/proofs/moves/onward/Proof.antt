-- `fused::moves::onward` meets its contract. Assumes nothing.
use mathlib.Core.Path.{sym, ap}
use Rattle.fused.specs.Inner.Passes.{moved_of}
use borrow.Author.Rules.{rules}
use Rattle.fused.proofs.moves.onward.Statement.{statement}
use Rattle.fused.proofs.moves.onward.Tie as tie

returns : tie.Need-returns-in-Next
returns c = ap (moved_of c.args.k c.args.next) (sym c.in-Next.is)

returns-2 : tie.Need-returns-in-Refused
returns-2 c = ap (moved_of c.args.k c.args.next) (sym c.in-Refused.is)

pub onward_spec : {M : Type 1} → statement M
onward_spec = tie.close (tie.spec (λ c. search rules) (λ c. search rules) returns returns-2)
