-- What the answers of a comparison stand for. Document 01, "Who can cause which refusal", 7. Assumes nothing.
use Rattle.std.specs.Prelude.{ℕ, ◌≡◌, List, length, Option, Some, None, Ok, Err}
use Rattle.limits.specs.Refusals.{refusal_place}
use Rattle.lexer.specs.Results.{Step}
use Rattle.grammar.specs.Rules as R
use Rattle.grammar.specs.Inner.Names.{TokensIn}

-- `Ok` is at the place after what agrees, `Err` at the first token that is not the one wanted, or what is none.
abbrev pub compared_of : Step → R.Compared
compared_of (Ok p) = R.agrees p.at
compared_of (Err e) = R.differs (refusal_place e)

-- `Some` is the place after a part of tokens that stands once more, so that they agree; `None` says nothing.
abbrev pub RepetitionBy : List ℕ → ℕ → ℕ → ℕ → Option ℕ → Type 0
RepetitionBy text from to at (Some n) = TokensIn text from to → R.part_from (length text) text from to at ≡ R.agrees n
RepetitionBy text from to at None = Unit {0}
