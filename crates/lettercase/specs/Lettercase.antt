-- Letters of names in other cases leave the meaning and the image of a text. Document 02, A.2. Assumes nothing.
use Rattle.std.specs.Prelude.{ℕ, ◌≡◌, List, length}
use Rattle.limits.specs.Answer.{accepted}
use Rattle.semantics.specs.Program.{Program, ranges_of}
use Rattle.lexer.specs.Spelling.{Separated}
use Rattle.bytecode.specs.Translation.{image_of}
use Rattle.grammar.specs.Derivation.{Tokens, normal, normals, Stands, Spells}
use Rattle.grammar.specs.Parse.{program_of}
use Rattle.grammar.specs.Spelled.{names_of}

-- A text with letters of its names in other cases: where a token stands behind tokens in the one, a token that the rule forms know as the same
-- stands in the other, and where only space stands behind them, only space stands there too.
pub record Recased (text other : List ℕ) : Type 0 where
  pub as_long : length other ≡ length text
  pub same_token_lem : (before : Tokens) (a n : ℕ) (w : List ℕ) → Spells normal text 0 a before → Stands normal text a n w → Stands normal other a n w
  pub same_space : (before : Tokens) (a s : ℕ) → Spells normal text 0 a before → Separated text a s → Separated other a s

-- programs that differ in nothing but the letter case of their names
pub record SameProgram (p q : Program) : Type 0 where
  pub same_inputs : q.inputs ≡ p.inputs
  pub same_names : normals (names_of q) ≡ normals (names_of p)
  pub same_ranges : ranges_of q ≡ ranges_of p
  pub same_timers : q.timers ≡ p.timers
  pub same_rules : q.rules ≡ p.rules
  pub same_watches : q.watches ≡ p.watches

-- Such a text is accepted if the other is, and has the same image.
pub record CaseIgnored : Type 0 where
  pub accepted_too : (text other : List ℕ) (p : Program) → Recased text other → program_of text ≡ accepted p → (q : Program) × (program_of other ≡ accepted q) × SameProgram p q × (image_of q ≡ image_of p)
