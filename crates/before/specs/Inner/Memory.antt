-- The memory lent to a scan. Assumes nothing.
use Rattle.std.specs.Prelude.{◌≡◌, List, ℕ, ◌≤◌, ℤ, length}

-- A low, a high and a copy for each number of the state, no more inputs than those.
pub record FittingMemory (inputs : ℕ) (state low high copy : List ℤ) : Type 0 where
  pub among : inputs ≤ length state
  pub lows : length low ≡ length state
  pub highs : length high ≡ length state
  pub copies : length copy ≡ length state

-- A low, a high and a copy for each number of a state of at most so many; a longer state is refused, and nothing of it is stored.
pub record Scratch (most : ℕ) (state low high work : List ℤ) : Type 0 where
  pub lows : length state ≤ most → length state ≤ length low
  pub highs : length state ≤ most → length state ≤ length high
  pub copies : length state ≤ most → length state ≤ length work
