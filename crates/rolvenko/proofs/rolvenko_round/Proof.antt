-- `rolvenko::rolvenko_round` meets its contract. Assumes nothing.
use mathlib.Core.Path.{ap, ◌∙◌}
use Prim.Native.Nat.{ℕ}
use borrow.Author.Rules.{rules}
use Rattle.paused.specs.Responses.{packed}
use Rattle.rounds.specs.Together.{AfterRoundCall}
use Rattle.rolvenko.proofs.rolvenko_round.Statement.{statement}
use Rattle.rolvenko.proofs.rolvenko_round.Tie as tie

returns : tie.Need-returns
returns c =
    let e = c.round-number.ensures in
    (c.pack.ensures ∙ ap (λ (n : ℕ). packed n 0 0) (ap {A = AfterRoundCall} (λ x. x.number) e), ap {A = AfterRoundCall} (λ x. x.left) e)

pub rolvenko_round_spec : {M : Type 1} → statement M
rolvenko_round_spec =
    tie.close (tie.spec (λ c κs. search rules) (λ c κs. search rules) (λ c. search rules) (λ c. search rules) (λ c. search rules) returns)
