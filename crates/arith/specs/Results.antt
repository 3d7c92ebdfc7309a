-- What the answers of this crate's functions stand for. Document 01, "Who can cause which refusal". Assumes nothing.
use Rattle.std.specs.Prelude.{ℤ, Option, Some, None}
use Rattle.limits.specs.Limits.{overflow}
use Rattle.arith.specs.Values.{Outcome, ok, refusal}

-- `None` is 14: result outside 32 bits, or zero divisor (A.5: of division).
abbrev pub outcome_of : Option ℤ → Outcome ℤ
outcome_of (Some z) = ok z
outcome_of None = refusal overflow
