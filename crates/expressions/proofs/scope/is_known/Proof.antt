-- `expressions::scope::is_known` meets its contract. Assumes nothing.
use mathlib.Core.Path.{sym, ◌∙◌}
use borrow.Author.Rules.{rules}
use Rattle.arith.proofs.Flags.{flag_at}
use Rattle.expressions.proofs.scope.is_known.Statement.{statement}
use Rattle.expressions.proofs.scope.is_known.Tie as tie

returns : tie.Need-returns
returns c = c.bit.ensures ∙ sym (flag_at _ _ _ c.requires.0)

pub is_known_spec : {M : Type 1} → statement M
is_known_spec = tie.close (tie.spec (λ c κs. search rules) returns)
