-- Parts of the calls as the running code works them: auxiliary definitions for proofs. Assumes nothing.
use Rattle.std.specs.Prelude.{ℕ, ◌-◌, ◌≤◌, ◌≡◌, false, cond, List, leb, ℤ, length}
use Rattle.std.proofs.lemmas.List.Edits.{sets}
use Rattle.limits.specs.Limits.{image_limit, name_limit, state_limit, time_limit, paused_length, state_differs}
use Rattle.semantics.specs.Formula.{State}
use Rattle.paused.specs.declared.Layout.{Layout}
use Rattle.paused.specs.declared.Response.TheVariants as R
use Rattle.machine.specs.declared.Timing.{Timing}
use Rattle.paused.specs.Memory.{checkpoint_of, waiting_length, start_place, current_place, low_place, high_place, slice, with_layout, checkpoint_cells}
use Rattle.lifecycle.specs.Calls.{same_values, AfterFinish, after_finish, without_scan}

-- a finish at the end of the code
abbrev pub finish_ended : ℕ → ℕ → State → List ℤ → AfterFinish
finish_ended steps size s cells =
    cond (same_values s (slice start_place size cells))
    (after_finish (R.Done steps) (without_scan cells) (slice current_place size cells))
    (after_finish (R.Refused state_differs 0 0) cells s)

-- a start, stored list by list
abbrev pub kept_start : Layout → State → List ℤ → List ℤ → List ℤ → List ℤ → List ℤ
kept_start f s low high cur cells =
    sets (sets (with_layout f (sets (sets (sets cells low_place low) high_place high) start_place s)) current_place cur) 0
    (checkpoint_cells (record { phase = cond (leb (f.image - f.base) 0) 2 1; number = 0; place = 0; steps = 0; held = 0; picked = false; passing = false }))

abbrev pub layout_with : ℕ → ℕ → ℕ → Timing → Layout
layout_with len place size timing = record { image = len; base = place; size = size; names = timing.names; millis = timing.millis; timers = timing.timers }

-- what a start keeps fits the memory
pub record StartKeepable (memory : List ℤ) (f : Layout) (s low high cur : List ℤ) : Type 0 where
  pub cells : length memory ≡ paused_length
  pub images : f.image ≤ image_limit
  pub bases : f.base ≤ f.image
  pub sizes : f.size ≤ state_limit
  pub few : f.names ≤ name_limit
  pub short : f.millis ≤ time_limit
  pub starts : length s ≤ state_limit
  pub lows : length low ≤ state_limit
  pub highs : length high ≤ state_limit
  pub current : length cur ≤ state_limit

-- the memory lent to a start that passed its tests
pub record Beginning (memory : List ℤ) (len place : ℕ) (timing : Timing) (s low high work : List ℤ) : Type 0 where
  pub cells : length memory ≡ paused_length
  pub images : len ≤ image_limit
  pub bases : place ≤ len
  pub few : timing.names ≤ name_limit
  pub short : timing.millis ≤ time_limit
  pub starts : length s ≤ state_limit
  pub lows : length low ≡ state_limit
  pub highs : length high ≡ state_limit
  pub copies : length work ≡ state_limit

-- 127 lows, highs and copies
pub record FullScratch (low high work : List ℤ) : Type 0 where
  pub lows : length low ≡ state_limit
  pub highs : length high ≡ state_limit
  pub copies : length work ≡ state_limit

-- no scan is there, and a row waits
pub record RowWaits (cells : List ℤ) (w : ℕ) : Type 0 where
  pub sized : length cells ≡ paused_length
  pub no_scan : (checkpoint_of cells).phase ≡ 0
  pub waits : w ≡ waiting_length cells
  pub some : w ≡ 0 → ⊥
