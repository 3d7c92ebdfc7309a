-- A watch walked alone or paired, by its code. Assumes nothing.
use Rattle.std.specs.Prelude as O
use mathlib.Core.Path.{◌≡◌, ap}
use mathlib.Core.List.{List}
use mathlib.Core.Option.{Option, none, some}
use Prim.Native.Nat.{ℕ, ◌-◌, ◌≤◌}
use native.Mathlib.Omega.{arith}
use lib.ListN.{length, take, drop, length-drop}
use lib.Seq.{length-take-le}
use Rattle.semantics.specs.Program.{Condition}
use Rattle.watching.specs.Watching.{TracePlace, first_failure}
use Rattle.evaluation.specs.Conditions.{ConditionCode}
use Rattle.evaluation.specs.Walks.{failed_at}
use Rattle.watch.specs.Inner.Reports.{LaterCode}

module _ (size middle end : ℕ) (code : List ℕ) (xs : List TracePlace) (r : O.Option ℕ) where
  pub walk_alone_of : (c : Condition) (o : Option Condition) → ConditionCode c size (take middle code) → LaterCode o size (take (end - middle) (drop middle code)) → middle ≡ end
      → ((c : Condition) → ConditionCode c size (take middle code) → failed_at r ≡ first_failure (record { first = c; later = none }) xs)
      → failed_at r ≡ first_failure (record { first = c; later = o }) xs
  walk_alone_of c none d l e f = f c d
  walk_alone_of c (some y) d l e f =
      let z : end - middle ≡ 0 = omega arith in
      absurd (l.1 (ap (λ (n : ℕ). length (take n (drop middle code))) z))

  pub walk_paired_of : (c : Condition) (o : Option Condition) → ConditionCode c size (take middle code) → LaterCode o size (take (end - middle) (drop middle code)) → middle ≤ end → end ≤ length code → (middle ≡ end → ⊥)
      → ((c d : Condition) → ConditionCode c size (take middle code) → ConditionCode d size (take (end - middle) (drop middle code)) → failed_at r ≡ first_failure (record { first = c; later = some d }) xs)
      → failed_at r ≡ first_failure (record { first = c; later = o }) xs
  walk_paired_of c none d l h i e f =
      let a : length (take (end - middle) (drop middle code)) ≡ end - middle = length_part in
      absurd (e (omega (arith, a, l)))
    where
      length_part : length (take (end - middle) (drop middle code)) ≡ end - middle
      length_part = length-take-le (end - middle) (drop middle code) (omega (arith, length-drop middle code))
  walk_paired_of c (some y) d l h i e f = f c y d l.0
