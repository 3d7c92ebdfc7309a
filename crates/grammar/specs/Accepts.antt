-- The claims on texts: which are accepted, and by which numbers the others are refused. Document 01, "The text" and "Who can cause which refusal";
-- document 02, A.7, A.13. Assumes nothing.
use Rattle.std.specs.Prelude.{ℕ, ◌≤◌, ◌≡◌, List}
use Rattle.limits.specs.Limits.{wrong_timer, too_many_watches}
use Rattle.limits.specs.Answer.{accepted}
use Rattle.semantics.specs.Program.{Program}
use Rattle.grammar.specs.Parse.{program_of}
use Rattle.grammar.specs.Spelled.{Spelled}

-- A text is accepted, as the program p, exactly if it has the documents' grammar, limits, order and agreement, and spells p.
pub record Accepts : Type 0 where
  pub accepted_spelled : (text : List ℕ) (p : Program) → program_of text ≡ accepted p → Spelled text p
  pub spelled_accepted : (text : List ℕ) (p : Program) → Spelled text p → program_of text ≡ accepted p

-- A fault of a text has one of the numbers 1 to 9, or 23, or 30.
pub data IsFault (number : ℕ) : Type 0 where
  one_to_nine : 1 ≤ number → number ≤ 9 → IsFault number
  a_timer : number ≡ wrong_timer → IsFault number
  a_watch : number ≡ too_many_watches → IsFault number
