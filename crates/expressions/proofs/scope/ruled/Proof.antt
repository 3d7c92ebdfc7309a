-- `expressions::scope::ruled` meets its contract. Assumes nothing.
use mathlib.Core.Path.{refl}
use borrow.Author.Rules.{rules}
use Rattle.arith.proofs.Flags.{flag_set}
use Rattle.expressions.proofs.scope.ruled.Statement.{statement}
use Rattle.expressions.proofs.scope.ruled.Tie as tie

pub ruled_spec : {M : Type 1} → statement M
ruled_spec = tie.close (tie.spec (λ c κs. search rules) (λ c. (refl, rw c.with_bit.ensures (flag_set _ _ _))))
