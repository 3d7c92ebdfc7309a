-- A run asks only lows and highs of the ranges, no starts; and the timers and milliseconds. Assumes nothing.
use Prim.Native.Nat.{ℕ, zero, suc, ◌+◌}
use mathlib.Core.Path.{◌≡◌, refl, sym, ap, ◌∙◌}
use mathlib.Core.Bool.{Bool, true, false, cond}
use mathlib.Core.List.{List, [], ◌∷◌}
use lib.Dec.{ltb}
use lib.IntN.{ℤ}
use lib.ListN.{length, get_or}
use Rattle.arith.specs.Values.{Outcome, ok, refusal, ◌>>=◌, require}
use Rattle.semantics.specs.Program.{Side, Range, Timer, within, no_range, range_at}
use Rattle.semantics.specs.Formula.{State, at}
use Rattle.semantics.specs.Shape.{Setting, timed}
use Rattle.semantics.specs.ReferenceScan.{ranged, moves, stays, picked}
use Rattle.leb128.specs.Numbers.{Read, got, nothing}
use Rattle.bytecode.specs.Instructions.{Instruction, constant, current, previous, operation, negate, comparison, negated, both, either, gate, pick, assign, settle, timer, fetch}
use Rattle.bytecode.specs.Parts.{lows, highs}
use Rattle.machine.specs.Step.{Machine, machine, perform, step}
use Rattle.machine.specs.Runs.{ran, after_step, after_fetch, run}

-- the same lows, highs, timers and milliseconds
pub record Alike (ns ms : Setting) : Type 0 where
  pub low : lows ns.ranges ≡ lows ms.ranges
  pub high : highs ns.ranges ≡ highs ms.ranges
  pub flags : ns.timers ≡ ms.timers
  pub time : ns.millis ≡ ms.millis

low_at : (ns : List Range) (i : ℕ) → (range_at ns i).low ≡ get_or (lows ns) i no_range.low
low_at [] i = refl
low_at (n ∷ ns) zero = refl
low_at (n ∷ ns) (suc i) = low_at ns i

high_at : (ns : List Range) (i : ℕ) → (range_at ns i).high ≡ get_or (highs ns) i no_range.high
high_at [] i = refl
high_at (n ∷ ns) zero = refl
high_at (n ∷ ns) (suc i) = high_at ns i

length_lows : (ns : List Range) → length (lows ns) ≡ length ns
length_lows [] = refl
length_lows (n ∷ ns) = ap suc (length_lows ns)

module _ (ns ms : Setting) (a : Alike ns ms) (s : State) where
  count_alike : length ns.ranges ≡ length ms.ranges
  count_alike = sym (length_lows ns.ranges) ∙ ap length a.low ∙ length_lows ms.ranges

  within_alike : (v : ℕ) (z : ℤ) → within (range_at ns.ranges v) z ≡ within (range_at ms.ranges v) z
  unfolding within
  within_alike v z = rw (low_at ns.ranges v, high_at ns.ranges v, low_at ms.ranges v, high_at ms.ranges v, a.low, a.high)

  ranged_alike : (v : ℕ) (z : ℤ) → ranged ns.ranges v z ≡ ranged ms.ranges v z
  ranged_alike v z = rw (within_alike v z)

  picked_alike : (side : Side) (v : ℕ) (z : ℤ) → picked side ns.ranges s v z ≡ picked side ms.ranges s v z
  unfolding picked
  picked_alike side v z = by (moves side (at s v) z)
    where
      by : (b : Bool) → (require b (stays side) z >>= λ y. ranged ns.ranges v y) ≡ (require b (stays side) z >>= λ y. ranged ms.ranges v y)
      by true = ranged_alike v z
      by false = refl

  timed_alike : (x : Timer) (t : State) → timed ns s x t ≡ timed ms s x t
  unfolding timed
  timed_alike x t = rw (a.flags, a.time)

  perform_alike : (i : Instruction) (c : Bool) (vs : List ℤ) (t : State) → perform ns s i c vs t ≡ perform ms s i c vs t
  perform_alike (constant z) c vs t = refl
  perform_alike (current i) c vs t = rw count_alike
  perform_alike (previous i) c vs t = rw count_alike
  perform_alike (operation o) c vs t = refl
  perform_alike negate c vs t = refl
  perform_alike (comparison o) c vs t = refl
  perform_alike negated c vs t = refl
  perform_alike both c vs t = refl
  perform_alike either c vs t = refl
  perform_alike gate c vs t = refl
  perform_alike (pick side v) c [] t = refl
  perform_alike (pick side v) c (x ∷ vs) t = rw (count_alike, picked_alike side v x)
  perform_alike (assign v) c [] t = refl
  perform_alike (assign v) c (x ∷ vs) t = rw (count_alike, ranged_alike v x)
  perform_alike (settle v) c vs t = rw count_alike
  perform_alike (timer u v n) c vs t = rw (timed_alike (record { id = u; watched = v; limit = n }) t, count_alike, a.flags)

  step_alike : (i : Instruction) (m : Machine) → step ns s i m ≡ step ms s i m
  step_alike i (machine false c vs t) = perform_alike i c vs t
  step_alike i (machine true c vs t) = refl

  pub run_ranges : (code : List ℕ) (b at n : ℕ) (m : Machine) → run ns s code b at n m ≡ run ms s code b at n m
  run_ranges code zero at n m = refl
  run_ranges code (suc b) at n m = inside (ltb at (length code)) (λ next m₁. run_ranges code b next (n + 1) m₁)
    where
      stepped : (o : Outcome Machine) (next : ℕ) → ((m₁ : Machine) → run ns s code b next (n + 1) m₁ ≡ run ms s code b next (n + 1) m₁)
          → after_step o (n + 1) at (λ m₁. run ns s code b next (n + 1) m₁) ≡ after_step o (n + 1) at (λ m₁. run ms s code b next (n + 1) m₁)
      stepped (ok m₁) next ih = ih m₁
      stepped (refusal k) next ih = refl

      fetched : (f : Read Instruction) → ((next : ℕ) (m₁ : Machine) → run ns s code b next (n + 1) m₁ ≡ run ms s code b next (n + 1) m₁)
          → after_fetch f (n + 1) at (λ i next. after_step (step ns s i m) (n + 1) at λ m₁. run ns s code b next (n + 1) m₁)
          ≡ after_fetch f (n + 1) at (λ i next. after_step (step ms s i m) (n + 1) at λ m₁. run ms s code b next (n + 1) m₁)
      fetched nothing ih = refl
      fetched (got i next) ih = rw (step_alike i m) (stepped (step ms s i m) next (ih next))

      inside : (t : Bool) → ((next : ℕ) (m₁ : Machine) → run ns s code b next (n + 1) m₁ ≡ run ms s code b next (n + 1) m₁)
          → cond t (after_fetch (fetch code at) (n + 1) at λ i next. after_step (step ns s i m) (n + 1) at λ m₁. run ns s code b next (n + 1) m₁) (ran n at (ok m))
          ≡ cond t (after_fetch (fetch code at) (n + 1) at λ i next. after_step (step ms s i m) (n + 1) at λ m₁. run ms s code b next (n + 1) m₁) (ran n at (ok m))
      inside true ih = fetched (fetch code at) ih
      inside false ih = refl
