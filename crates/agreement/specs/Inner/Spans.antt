-- Where the conditions of a change formula stand, as a program holds it. Assumes nothing.
use Rattle.std.specs.Prelude.{ℕ, zero, suc, ◌≤◌, ◌<◌, List, [], ◌∷◌, map, length, get_or}
use Rattle.grammar.specs.Rules.{Span, Spanned}
use Rattle.grammar.specs.Inner.Names.{TokensIn}

-- the spans that the first n entries hold
unfoldable pub spans_in : List ℕ → List ℕ → ℕ → List Span
spans_in [] to n = []
spans_in (f ∷ from) [] n = []
spans_in (f ∷ from) (t ∷ to) zero = []
spans_in (f ∷ from) (t ∷ to) (suc n) = record { from = f; to = t } ∷ spans_in from to n

abbrev pub spans_of : List Spanned → List Span
spans_of cases = map (λ c. c.span) cases

-- n spans are held, and each ends within the text
pub record Spans (text from to : List ℕ) (n : ℕ) : Type 0 where
  pub in_from : n ≤ length from
  pub in_to : n ≤ length to
  pub inside : (i : ℕ) → i < n → get_or to i 0 ≤ length text

-- in each of them just tokens stand
pub record SpansRead (text from to : List ℕ) (n : ℕ) : Type 0 where
  pub each : (i : ℕ) → i < n → TokensIn text (get_or from i 0) (get_or to i 0)
