-- What inner contracts know of a text that is being read. Assumes nothing.
use Rattle.std.specs.Prelude.{ℕ, ◌≤◌, ◌≡◌, List, length}
use Rattle.std.proofs.Math.Option.{some}
use Rattle.std.proofs.Math.ListN.{get_elem?}
use Rattle.grammar.specs.Derivation.{Tokens, normal, Spells, IsName}
use Rattle.grammar.specs.Spelled.{Distinct}

-- the names of a text: no two the same, each of them a name
pub record Named (names : List (List ℕ)) : Type 0 where
  pub distinct : Distinct names
  pub each : (i : ℕ) (w : List ℕ) → get_elem? names i ≡ some w → IsName w

-- just tokens stand from a up to b
pub record TokensIn (text : List ℕ) (a b : ℕ) : Type 0 where
  pub tokens : Tokens
  pub within : a ≤ length text
  pub spells : Spells normal text a b tokens
