-- `fused::broken` meets its contract. Assumes nothing.
use mathlib.Core.Path.{refl}
use borrow.Author.Rules.{rules}
use Rattle.fused.proofs.broken.Statement.{statement}
use Rattle.fused.proofs.broken.Tie as tie

pub broken_spec : {M : Type 1} → statement M
broken_spec = tie.close (tie.spec (λ c. search rules) (λ c. search rules) (λ c. (refl, c.if-code-at-eq23.false)))
