-- An instruction keeps every number of the state in its range. Assumes nothing.
use Prim.Native.Nat.{ℕ}
use mathlib.Core.Path.{◌≡◌, refl, ◌∙◌}
use mathlib.Core.Bool.{Bool, true, false, cond}
use mathlib.Core.List.{List, [], ◌∷◌}
use lib.Dec.{T, leb, ltb}
use lib.IntN.{ℤ, pos}
use lib.ListN.{length, set, length-set}
use Rattle.limits.specs.Limits.{time_limit}
use Rattle.arith.specs.Values.{Outcome, ok, refusal, ◌>>=◌, require, arithmetic, negation}
use Rattle.semantics.specs.Program.{Range, Side, within, range_at, bit_range}
use Rattle.semantics.specs.Formula.{State, at}
use Rattle.semantics.specs.Shape.{time_range, all_within, Setting, time_place, elapsed, due, timed}
use Rattle.semantics.specs.ReferenceScan.{ranged, moves, stays, picked}
use Rattle.arith.proofs.Basics.{Bound, bound, unbind, passed}
use Rattle.semantics.proofs.Unique.{allWithin-at, all_within_set, elapsed_within, due_within}
use Rattle.bytecode.specs.Instructions.{Instruction, constant, current, previous, operation, negate, comparison, negated, both, either, gate, pick, assign, settle, timer}
use Rattle.bytecode.specs.Signature.{Role, signature}
use Rattle.bytecode.proofs.Timeless.{OfTimer}
use Rattle.machine.specs.Step.{Machine, machine, yes, push, pop, gated, settled, perform, step}

abbrev pub current_of : Machine → State
current_of (machine b c vs t) = t

-- as many numbers as ranges, each in its own
pub record Within (ns : List Range) (t : State) : Type 0 where
  pub size : length t ≡ length ns
  pub ranges : T (all_within ns t)

abbrev pub AllWithin : List Range → Outcome Machine → Type 0
AllWithin ns (ok m) = Within ns (current_of m)
AllWithin ns (refusal k) = Unit {0}

module _ (ns : Setting) (s : State) (old : Within ns.ranges s) where
  set_within : (t : State) (v : ℕ) (z : ℤ) → Within ns.ranges t → T (within (range_at ns.ranges v) z) → Within ns.ranges (set t v z)
  set_within t v z w h = record { size = length-set t v z ∙ w.size; ranges = all_within_set ns.ranges t v z w.ranges h }

  cond_within : (b : Bool) (o : Outcome Machine) → AllWithin ns.ranges o → AllWithin ns.ranges (cond b o (refusal 11))
  cond_within true o h = h
  cond_within false o h = tt

  pop_within : (vs : List ℤ) (k : ℤ → List ℤ → Outcome Machine) → ((z : ℤ) (vs₁ : List ℤ) → AllWithin ns.ranges (k z vs₁)) → AllWithin ns.ranges (pop vs k)
  pop_within [] k h = tt
  pop_within (z ∷ vs) k h = h z vs

  bind_within : {A : Type 0} (o : Outcome A) (f : A → Outcome Machine) → ((a : A) → o ≡ ok a → AllWithin ns.ranges (f a)) → AllWithin ns.ranges (o >>= f)
  bind_within (ok a) f h = h a refl
  bind_within (refusal k) f h = tt

  push_within : (z : ℤ) (c : Bool) (vs : List ℤ) (t : State) → Within ns.ranges t → AllWithin ns.ranges (push z c vs t)
  push_within z c vs t w = cond_within (ltb (length vs) 40) (ok (machine false c (z ∷ vs) t)) w

  gated_within : (b c : Bool) (vs : List ℤ) (t : State) → Within ns.ranges t → AllWithin ns.ranges (gated b c vs t)
  gated_within false c vs t w = w
  gated_within true true vs t w = tt
  gated_within true false vs t w = w

  settled_within : (v : ℕ) (c : Bool) (vs : List ℤ) (t : State) → Within ns.ranges t → Within ns.ranges (current_of (settled v (at s v) c vs t))
  settled_within v true vs t w = w
  settled_within v false vs t w = set_within t v (at s v) w (allWithin-at ns.ranges s old.size old.ranges v)

  ranged_within : (v : ℕ) (x z : ℤ) → ranged ns.ranges v x ≡ ok z → T (within (range_at ns.ranges v) z)
  ranged_within v x z e = let b = passed (within (range_at ns.ranges v) x) 17 x z e in rw (← b.1) b.0

  picked_within : (side : Side) (v : ℕ) (x z : ℤ) → picked side ns.ranges s v x ≡ ok z → T (within (range_at ns.ranges v) z)
  unfolding picked
  picked_within side v x z e = go (unbind (require (moves side (at s v) x) (stays side) x) _ z e)
    where
      go : Bound (require (moves side (at s v) x) (stays side) x) (λ y. ranged ns.ranges v y) z → T (within (range_at ns.ranges v) z)
      go (bound y p q) = ranged_within v y z q

  -- a timer's cells have the ranges that its work keeps
  abbrev pub Fit : ℕ → ℕ → ℕ → Type 0
  Fit t w n = (range_at ns.ranges (time_place ns.timers t) ≡ time_range n) × (range_at ns.ranges t ≡ bit_range)

  abbrev pub FitIn : Role → Type 0
  FitIn r = OfTimer Fit r

  timer_within : (t w n : ℕ) → Fit t w n → (u : State) → Within ns.ranges u → Within ns.ranges (timed ns s (record { id = t; watched = w; limit = n }) u)
  unfolding timed
  timer_within t w n fit u h =
      let now = at u w in
      let p = time_place ns.timers t in
      let e = elapsed_within ns.millis n (at s w) now (at s p) in
      let z = pos (elapsed ns.millis n (at s w) now (at s p)) in
      set_within (set u p z) t (due n now z) (set_within u p z h (rw fit.0 e)) (rw fit.1 (due_within n now z))

  perform_within : (i : Instruction) → FitIn (signature i).role → (c : Bool) (vs : List ℤ) (t : State) → Within ns.ranges t → AllWithin ns.ranges (perform ns s i c vs t)
  perform_within (constant z) fit c vs t w = push_within z c vs t w
  perform_within (current i) fit c vs t w = cond_within (ltb i (length ns.ranges)) _ (push_within (at t i) c vs t w)
  perform_within (previous i) fit c vs t w = cond_within (ltb i (length ns.ranges)) _ (push_within (at s i) c vs t w)
  perform_within (operation o) fit c vs t w = pop_within vs _ λ b vs₁. pop_within vs₁ _ λ a vs₂. bind_within (arithmetic o a b) _ λ z e. w
  perform_within negate fit c vs t w = pop_within vs _ λ a vs₁. bind_within (negation a) _ λ z e. w
  perform_within (comparison o) fit c vs t w = pop_within vs _ λ b vs₁. pop_within vs₁ _ λ a vs₂. w
  perform_within negated fit c vs t w = pop_within vs _ λ a vs₁. w
  perform_within both fit c vs t w = pop_within vs _ λ b vs₁. pop_within vs₁ _ λ a vs₂. w
  perform_within either fit c vs t w = pop_within vs _ λ b vs₁. pop_within vs₁ _ λ a vs₂. w
  perform_within gate fit c vs t w = pop_within vs _ λ a vs₁. gated_within (yes a) c vs₁ t w
  perform_within (pick side v) fit c vs t w = pop_within vs _ λ x vs₁. cond_within (ltb v (length ns.ranges)) _ (bind_within (picked side ns.ranges s v x) _ λ z e. set_within t v z w (picked_within side v x z e))
  perform_within (assign v) fit c vs t w = pop_within vs _ λ x vs₁. cond_within (ltb v (length ns.ranges)) _ (bind_within (ranged ns.ranges v x) _ λ z e. set_within t v z w (ranged_within v x z e))
  perform_within (settle v) fit c vs t w = cond_within (ltb v (length ns.ranges)) _ (settled_within v c vs t w)
  perform_within (timer u v n) fit c vs t w =
      cond_within (ltb u (length ns.ranges)) _ (cond_within (ltb v (length ns.ranges)) _ (cond_within (ltb (time_place ns.timers u) (length ns.ranges)) _
      (cond_within (leb n time_limit) (ok (machine false c vs (timed ns s (record { id = u; watched = v; limit = n }) t))) (timer_within u v n fit t w))))

  pub step_within : (i : Instruction) → FitIn (signature i).role → (m : Machine) → Within ns.ranges (current_of m) → AllWithin ns.ranges (step ns s i m)
  step_within i fit (machine false c vs t) w = perform_within i fit c vs t w
  step_within i fit (machine true c vs t) w = w
