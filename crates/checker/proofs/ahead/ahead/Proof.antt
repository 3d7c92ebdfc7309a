-- `checker::ahead::ahead` meets its contract. Assumes nothing.
use native.Mathlib.Omega.{arith}
use borrow.Author.Rules.{rules}
use Rattle.checker.proofs.Bits.{below_40}
use Rattle.checker.proofs.ahead.ahead.Statement.{statement}
use Rattle.checker.proofs.ahead.ahead.Tie as tie

mul-k : tie.Need-overflow_mul-k
mul-k c = record { fits = omega (arith, below_40 _ _ c.requires.0.few_held c.requires.0.sorts_low) }

add-k-2 : tie.Need-overflow_add-k-then-comparison_ahead
add-k-2 c = record { fits = omega (arith, below_40 _ _ c.requires.0.few_held c.requires.0.sorts_low) }

returns : tie.Need-returns-then-comparison_ahead
returns c = c.comparison_ahead.ensures c.if-comparison_ahead.true

returns-2 : tie.Need-returns-then-operation_ahead
returns-2 c = c.operation_ahead.ensures c.if-operation_ahead.true

pub ahead_spec : {M : Type 1} → statement M
ahead_spec =
    tie.close
    (tie.spec (λ c κs. search rules) (λ c. search rules) mul-k add-k-2 (λ c. search rules) returns (λ c κs. search rules)
    (λ c. search rules) returns-2 (λ c κs. search rules) (λ c. c.single.ensures))
