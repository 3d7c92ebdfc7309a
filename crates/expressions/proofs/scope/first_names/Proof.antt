-- `expressions::scope::first_names` meets its contract. Assumes nothing.
use mathlib.Core.Path.{refl}
use borrow.Author.Rules.{rules}
use Rattle.semantics.proofs.Flags.{flags_first}
use Rattle.expressions.proofs.scope.first_names.Statement.{statement}
use Rattle.expressions.proofs.scope.first_names.Tie as tie

pub first_names_spec : {M : Type 1} → statement M
first_names_spec = tie.close (tie.spec (λ c κs. search rules) (λ c. (refl, rw c.ones.ensures (flags_first _ _))))
