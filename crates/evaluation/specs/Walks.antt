-- What the answer of a walk over a trace stands for. Document 02, A.13. Assumes nothing.
use Rattle.std.specs.Prelude.{ℕ, Some, None}
use Rattle.std.specs.Prelude as O
use Rattle.std.proofs.Math.Option.{Option, none, some}

abbrev pub failed_at : O.Option ℕ → Option ℕ
failed_at (Some n) = some n
failed_at None = none
