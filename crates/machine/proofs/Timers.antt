-- Timers at work: the place of an elapsed time, the time itself, and what a 23 does. Assumes nothing.
use Prim.Native.Nat.{ℕ, ◌+◌, ◌≤◌, ◌<◌, min}
use native.Mathlib.Omega.{arith}
use mathlib.Core.Path.{◌≡◌, refl, ◌∙◌}
use mathlib.Core.Bool.{Bool, true, false}
use mathlib.Core.List.{List}
use lib.Dec.{ltb}
use lib.IntN.{ℤ, pos, negsuc}
use lib.ListN.{length, set}
use borrow.Author.Tests.{lt-ltb, le-ltb, le-leb, lt-leb}
use Rattle.arith.specs.Values.{ok, refusal, eq_z, count}
use Rattle.arith.specs.Inner.Flags.{flags_of, ones_below}
use Rattle.arith.proofs.Flags.{length_flags}
use Rattle.semantics.specs.Formula.{State, at}
use Rattle.semantics.specs.Shape.{Setting, millis_of, time_place, elapsed, due, timed}
use Rattle.semantics.proofs.Flags.{flags_counted, flags_taken, flags_all_taken}
use Rattle.bytecode.specs.Instructions.{timer}
use Rattle.machine.specs.declared.Timing.{Timing}
use Rattle.machine.specs.Step.{machine, perform}
use Rattle.machine.specs.Inner.Memory.{TimingIn}

-- ---- the place

module _ (n b t : ℕ) where
  pub place_below : t < n → time_place (flags_of n b) t ≡ n + ones_below t b
  place_below h = rw (length_flags n b, flags_taken t n b (omega arith), flags_counted t b)

  pub place_over : n ≤ t → time_place (flags_of n b) t ≡ n + ones_below n b
  place_over h = rw (length_flags n b, flags_all_taken t n b h, flags_counted n b)

-- ---- the time

pub millis_count : (z : ℤ) → millis_of z ≡ count z
millis_count (pos n) = refl
millis_count (negsuc n) = refl

module _ (ms n : ℕ) (before now since : ℤ) where
  pub elapsed_off : eq_z now (pos 0) ≡ true → elapsed ms n before now since ≡ 0
  unfolding elapsed
  elapsed_off e = rw e

  module _ (on : eq_z now (pos 0) ≡ false) where
    pub elapsed_rose : eq_z before (pos 0) ≡ true → elapsed ms n before now since ≡ 0
    unfolding elapsed
    elapsed_rose e = rw (on, e)

    module _ (was : eq_z before (pos 0) ≡ false) where
      goes_on_lem : elapsed ms n before now since ≡ min n (count since + ms)
      unfolding elapsed
      goes_on_lem = rw (on, was, millis_count since)

      pub elapsed_full : n ≤ count since + ms → elapsed ms n before now since ≡ n
      elapsed_full h = goes_on_lem ∙ omega arith

      pub elapsed_more : count since + ms < n → elapsed ms n before now since ≡ count since + ms
      elapsed_more h = goes_on_lem ∙ omega arith

-- ---- what a 23 does

module _ (ns : Setting) (s : State) (t w n : ℕ) (c : Bool) (vs : List ℤ) (u : State) (timing : Timing) (size : ℕ) (sized : length ns.ranges ≡ size) (k : TimingIn ns timing) where
  abbrev Broken : Type 0
  Broken = refusal 11 ≡ perform ns s (timer t w n) c vs u

  abbrev cell : ℕ
  cell = time_place (flags_of timing.names timing.timers) t

  pub id_undeclared : size ≤ t → Broken
  id_undeclared h = rw (sized, le-ltb t size h)

  module _ (id : t < size) where
    pub watched_undeclared : size ≤ w → Broken
    watched_undeclared h = rw (sized, lt-ltb t size id, le-ltb w size h)

    module _ (watched : w < size) where
      pub cell_undeclared : size ≤ cell → Broken
      cell_undeclared h = rw (sized, lt-ltb t size id, lt-ltb w size watched, k.flags, le-ltb cell size h)

      -- the elapsed times stand behind the names
      pub names_undeclared : size ≤ timing.names → Broken
      names_undeclared h = cell_undeclared (omega (arith, length_flags timing.names timing.timers))

      module _ (declared : cell < size) where
        pub over_limit : 2147483647 < n → Broken
        over_limit h = rw (sized, lt-ltb t size id, lt-ltb w size watched, k.flags, lt-ltb cell size declared, lt-leb n 2147483647 h)

        pub timer_worked : n ≤ 2147483647 → (place e : ℕ) (d : ℤ) → place ≡ cell → e ≡ elapsed timing.millis n (at s w) (at u w) (at s place) → d ≡ due n (at u w) (pos e)
            → ok (machine false c vs (set (set u place (pos e)) t d)) ≡ perform ns s (timer t w n) c vs u
        unfolding timed
        timer_worked h place e d is time value =
            rw (value, time, is, sized, lt-ltb t size id, lt-ltb w size watched, k.flags, k.time, lt-ltb cell size declared, le-leb n 2147483647 h)

-- a 23 where states have no elapsed times
pub untimed : (ns : Setting) (s : State) (t w n : ℕ) (c : Bool) (vs : List ℤ) (u : State) → length ns.ranges ≤ length ns.timers → refusal 11 ≡ perform ns s (timer t w n) c vs u
untimed ns s t w n c vs u h = by (ltb t (length ns.ranges)) (ltb w (length ns.ranges)) refl refl
  where
    by : (a b : Bool) → ltb t (length ns.ranges) ≡ a → ltb w (length ns.ranges) ≡ b → refusal 11 ≡ perform ns s (timer t w n) c vs u
    by false b e f = rw e
    by true false e f = rw (e, f)
    by true true e f = rw (e, f, le-ltb (time_place ns.timers t) (length ns.ranges) (omega arith))
