-- How long a row is, by the counts that an analysis tells. Assumes nothing.
use Rattle.std.specs.Prelude.{ℕ, zero, suc, ◌+◌}

-- it ends with the milliseconds if there is any timer
abbrev pub row_for : ℕ → ℕ → ℕ
row_for inputs zero = inputs
row_for inputs (suc n) = inputs + 1
