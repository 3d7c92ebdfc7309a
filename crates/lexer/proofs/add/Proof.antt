-- `lexer::add` meets its contract. Assumes nothing.
use borrow.Author.Rules.{rules}
use mathlib.Core.Path.{refl}
use Rattle.lexer.proofs.add.Statement.{statement}
use Rattle.lexer.proofs.add.Tie as tie

pub add_spec : {M : Type 1} → statement M
add_spec = tie.close (tie.spec (λ c. search rules) (λ c. search rules) (λ c. search rules) (λ c. search rules) (λ c. search rules) (λ c. search rules) (λ c. (refl, refl)))
