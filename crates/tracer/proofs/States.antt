-- The length of an accepted text's state: a number for each name, and one for each timer. Assumes nothing.
use mathlib.Core.Path.{◌≡◌, refl, ap, ◌∙◌}
use mathlib.Core.List.{List, [], ◌∷◌, map}
use Prim.Native.Nat.{ℕ, ◌+◌, ◌≤◌}
use native.Mathlib.Omega.{arith}
use lib.ListN.{length, length-map}
use Rattle.limits.specs.Limits.{name_limit, state_limit}
use Rattle.semantics.specs.Program.{Program, Timer, ranges_of, first_timer, EachTimer, TimerFits, WellFormed}
use Rattle.semantics.specs.Shape.{shape_of, state_length}
use Rattle.semantics.proofs.Timers.{cells_length}

abbrev pub timer_limits : List Timer → List ℕ
timer_limits ts = map (λ (x : Timer). x.limit) ts

-- each of some timers fits the program
abbrev pub EachFits : Program → List Timer → Type 0
EachFits p ts = EachTimer (TimerFits (ranges_of p) p.inputs (first_timer p)) ts

module _ (p : Program) (w : WellFormed p) where
  pub state_counted : state_length (shape_of p) ≡ length p.names + length p.timers
  state_counted = cells_length p w.timed ∙ ap (λ (n : ℕ). n + length p.timers) (length-map p.names (λ n. n.range))

  -- a name that is no timer comes with the first timer
  pub state_few : length p.names ≤ name_limit → length p.names + length p.timers ≤ state_limit
  state_few few = go p.timers refl w.timed.each
    where
      go : (ts : List Timer) → length p.timers ≡ length ts → EachFits p ts → length p.names + length p.timers ≤ state_limit
      go [] e h = omega (arith, e, few)
      go (x ∷ xs) e h = omega (arith, few, h.0.no_timer_lem, length-map p.names (λ n. n.range))
