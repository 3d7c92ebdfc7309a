-- How far a loop has come that reads operands with operators between them, by one call for all operands. Assumes nothing.
use Rattle.std.specs.Prelude.{ℕ, ◌+◌, ◌<◌, ◌≡◌, List, ◌++◌, length}
use Rattle.std.proofs.Math.Option.{Option}
use Rattle.std.proofs.lemmas.List.Edits.{sets}
use Rattle.lexer.specs.Token.{Kind}
use Rattle.grammar.specs.Parsed.{Parsed, and_then, rest, chain}
use Rattle.expressions.specs.Inner.Steps.{Room}
use Rattle.expressions.specs.Inner.Readers.{operator_bytes}

-- the chain begins at `at`, with the bytes out₀ written up to `to`; the next operand begins at a, with the bytes out written up to t, and
-- c is the code of the operator before it: 0 before the first operand, where nothing of the chain is read yet
pub record Pending {O A : Type 0} (code : A → List ℕ) (join : O → A → A → A) (operator : Kind → Option O) (operand : ℕ → Parsed A) (text : List ℕ) (at to : ℕ) (out₀ : List ℕ) (a t c : ℕ) (out : List ℕ) : Type 0 where
  -- what the next operand makes with those before it: they and the operator, or the operand alone
  pub made : A → A
  -- the code of those before it
  pub written : List ℕ
  pub fuel : ℕ
  pub same : chain join operator operand text at ≡ and_then (operand a) (λ b n. rest join operator operand text fuel (made b) n)
  pub spelt : (b : A) → code (made b) ≡ written ++ (code b ++ operator_bytes c)
  pub wrote : out ≡ sets out₀ to written
  pub count : t ≡ to + length written
  pub fuels : length text < fuel + a
  pub room : Room text a (t + length (operator_bytes c))
