-- What the contracts of the functions inside say. Assumes nothing.
use Rattle.std.specs.Prelude as O
use Rattle.std.specs.Prelude.{Some, None}
use Rattle.std.specs.Prelude.{ℕ, ◌-◌, ◌^◌, ◌≤◌, ◌<◌, ◌≡◌, List, length, take, drop}
use Rattle.std.proofs.Math.Option.{Option, none, some}
use Rattle.semantics.specs.Program.{Condition, Watch}
use Rattle.translate.specs.Inner.Descent.{WatchesStand}
use Rattle.evaluation.specs.Conditions.{ConditionCode}

-- a place that a report has room for
abbrev pub FailedWithin : O.Option ℕ → Type 0
FailedWithin (Some n) = n < 2 ^ 63
FailedWithin None = Unit {0}

-- the code of a second condition; where there is none, no code
abbrev pub LaterCode : Option Condition → ℕ → List ℕ → Type 0
LaterCode none size code = length code ≡ 0
LaterCode (some d) size code = ConditionCode d size code × (length code ≡ 0 → ⊥)

-- the code of a watch over states of `size` numbers stands up to `end`, that of its first condition up to `middle`
pub record WatchCode (w : Watch) (size middle end : ℕ) (code : List ℕ) : Type 0 where
  pub ordered : middle ≤ end
  pub first : ConditionCode w.first size (take middle code)
  pub later : LaterCode w.later size (take (end - middle) (drop middle code))

-- so many watches stand from `at` on
pub record CountedWatches (text starts ends : List ℕ) (names at count : ℕ) : Type 0 where
  pub watches : List Watch
  pub stand : WatchesStand text starts ends names at watches
  pub counted : length watches ≡ count
