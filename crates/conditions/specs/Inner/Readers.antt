-- Shapes that the contracts of the functions inside need: the parts of a condition with so many brackets left to open.
-- Assumes nothing.
use Rattle.std.specs.Prelude.{ℕ}
use Rattle.semantics.specs.Program.{Condition}
use Rattle.grammar.specs.Parsed.{Parsed}
use Rattle.grammar.specs.Expressions.{Scope, bracket}
use Rattle.grammar.specs.Conditions.{comparison_at, inverted, atom, conjunction, condition, square}

abbrev pub comparison_in : ℕ → Scope → ℕ → Parsed Condition
comparison_in left sc at = comparison_at (λ s n. bracket left sc s n) sc at

abbrev pub inverted_in : ℕ → Scope → ℕ → Parsed Condition
inverted_in left sc at = inverted (λ s n. square left sc s n) sc at

abbrev pub atom_in : ℕ → Scope → ℕ → Parsed Condition
atom_in left sc at = atom (λ s n. bracket left sc s n) (λ s n. square left sc s n) sc at

abbrev pub conjunction_in : ℕ → Scope → ℕ → Parsed Condition
conjunction_in left sc at = conjunction (λ s n. bracket left sc s n) (λ s n. square left sc s n) sc at

abbrev pub condition_in : ℕ → Scope → ℕ → Parsed Condition
condition_in left sc at = condition (λ s n. bracket left sc s n) (λ s n. square left sc s n) sc at
