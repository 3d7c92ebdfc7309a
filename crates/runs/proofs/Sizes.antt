-- A run holds at most 40 values, keeps the number of current values, and is refused by a number of at most 30, whatever the code. Assumes nothing.
use Prim.Native.Nat.{ℕ, zero, suc, ◌+◌, ◌≤◌, ◌<◌}
use native.Mathlib.Omega.{arith}
use mathlib.Core.Path.{◌≡◌, refl, ◌∙◌}
use mathlib.Core.Bool.{Bool, true, false, not, cond}
use mathlib.Core.List.{List, [], ◌∷◌}
use lib.Dec.{leb, ltb}
use lib.IntN.{ℤ, pos, neg_ℤ, ◌+ℤ◌, ◌-ℤ◌, ◌*ℤ◌}
use lib.Signed.{quot_z}
use lib.ListN.{length, length-set}
use borrow.Author.Tests.{ltb-true}
use Rattle.limits.specs.Limits.{stack_limit, time_limit, overflow, value_out_of_range}
use Rattle.arith.specs.Values.{Outcome, ok, refusal, ◌>>=◌, require, eq_z, is_int32, int32, non_zero, remainder, Operation, add, subtract, multiply, divide, modulo, arithmetic, negation}
use Rattle.semantics.specs.Program.{Range, Side, changing, rising, falling, within, range_at}
use Rattle.semantics.specs.Formula.{State, at}
use Rattle.semantics.specs.Shape.{Setting, time_place}
use Rattle.semantics.specs.ReferenceScan.{ranged, moves, stays, picked}
use Rattle.semantics.proofs.Cells.{timed_length}
use Rattle.leb128.specs.Numbers.{Read, got, nothing}
use Rattle.bytecode.specs.Instructions.{Instruction, constant, current, previous, operation, negate, comparison, negated, both, either, gate, pick, assign, settle, timer, fetch}
use Rattle.machine.specs.Step.{Machine, machine, yes, push, pop, gated, settled, perform, step}
use Rattle.machine.specs.Runs.{ran, after_step, after_fetch, run}

-- ---- the numbers of refusals

abbrev Numbered : {A : Type 0} → Outcome A → Type 0
Numbered (ok a) = Unit {0}
Numbered (refusal k) = k ≤ 30

require_numbered : {A : Type 0} (b : Bool) (k : ℕ) (x : A) → k ≤ 30 → Numbered (require b k x)
require_numbered true k x h = tt
require_numbered false k x h = h

then_numbered : {A B : Type 0} (o : Outcome A) (f : A → Outcome B) → Numbered o → ((a : A) → Numbered (f a)) → Numbered (o >>= f)
then_numbered (ok a) f h g = g a
then_numbered (refusal k) f h g = h

int32_numbered : (z : ℤ) → Numbered (int32 z)
int32_numbered z = require_numbered (is_int32 z) overflow z (omega arith)

arithmetic_numbered : (o : Operation) (a b : ℤ) → Numbered (arithmetic o a b)
unfolding arithmetic
arithmetic_numbered add a b = int32_numbered (a +ℤ b)
arithmetic_numbered subtract a b = int32_numbered (a -ℤ b)
arithmetic_numbered multiply a b = int32_numbered (a *ℤ b)
arithmetic_numbered divide a b = then_numbered (non_zero b) _ (require_numbered (not (eq_z b (pos 0))) overflow b (omega arith)) λ d. int32_numbered (quot_z a d)
arithmetic_numbered modulo a b = int32_numbered (remainder a b)

negation_numbered : (a : ℤ) → Numbered (negation a)
unfolding negation
negation_numbered a = int32_numbered (neg_ℤ a)

ranged_numbered : (ns : List Range) (v : ℕ) (z : ℤ) → Numbered (ranged ns v z)
ranged_numbered ns v z = require_numbered (within (range_at ns v) z) value_out_of_range z (omega arith)

stays_numbered : (side : Side) → stays side ≤ 30
stays_numbered changing = omega arith
stays_numbered rising = omega arith
stays_numbered falling = omega arith

picked_numbered : (side : Side) (ns : List Range) (s : State) (v : ℕ) (z : ℤ) → Numbered (picked side ns s v z)
unfolding picked
picked_numbered side ns s v z = then_numbered (require (moves side (at s v) z) (stays side) z) _ (require_numbered (moves side (at s v) z) (stays side) z (stays_numbered side)) λ y. ranged_numbered ns v y

-- ---- a machine's lists

-- at most 40 values held, w current values
abbrev pub Sized : ℕ → Machine → Type 0
Sized w (machine b c vs t) = (length vs ≤ stack_limit) × (length t ≡ w)

abbrev pub SizedIn : ℕ → Outcome Machine → Type 0
SizedIn w (ok m) = Sized w m
SizedIn w (refusal k) = k ≤ 30

module _ (ns : Setting) (s : State) (w : ℕ) where
  cond_sized : (b : Bool) (o : Outcome Machine) → SizedIn w o → SizedIn w (cond b o (refusal 11))
  cond_sized true o h = h
  cond_sized false o h = omega arith

  pop_sized : (vs : List ℤ) (k : ℤ → List ℤ → Outcome Machine) → length vs ≤ stack_limit
      → ((z : ℤ) (vs₁ : List ℤ) → length vs₁ + 1 ≤ stack_limit → SizedIn w (k z vs₁)) → SizedIn w (pop vs k)
  pop_sized [] k l h = omega arith
  pop_sized (z ∷ vs) k l h = h z vs (omega arith)

  bind_sized : {A : Type 0} (o : Outcome A) (f : A → Outcome Machine) → Numbered o → ((a : A) → SizedIn w (f a)) → SizedIn w (o >>= f)
  bind_sized (ok a) f n h = h a
  bind_sized (refusal k) f n h = n

  push_sized : (z : ℤ) (c : Bool) (vs : List ℤ) (t : State) → length t ≡ w → SizedIn w (push z c vs t)
  push_sized z c vs t e = by (ltb (length vs) stack_limit) (ltb-true (length vs) stack_limit)
    where
      by : (b : Bool) → (b ≡ true → length vs < stack_limit) → SizedIn w (cond b (ok (machine false c (z ∷ vs) t)) (refusal 11))
      by true y = let l = y refl in (omega (arith, l), e)
      by false y = omega arith

  gated_sized : (b c : Bool) (vs : List ℤ) (t : State) → Sized w (machine b c vs t) → SizedIn w (gated b c vs t)
  gated_sized false c vs t h = h
  gated_sized true true vs t h = omega arith
  gated_sized true false vs t h = h

  settled_sized : (v : ℕ) (z : ℤ) (c : Bool) (vs : List ℤ) (t : State) → Sized w (machine c c vs t) → Sized w (settled v z c vs t)
  settled_sized v z true vs t h = h
  settled_sized v z false vs t h = (h.0, length-set t v z ∙ h.1)

  perform_sized : (i : Instruction) (c : Bool) (vs : List ℤ) (t : State) → length vs ≤ stack_limit → length t ≡ w → SizedIn w (perform ns s i c vs t)
  perform_sized (constant z) c vs t l e = push_sized z c vs t e
  perform_sized (current i) c vs t l e = cond_sized (ltb i (length ns.ranges)) _ (push_sized (at t i) c vs t e)
  perform_sized (previous i) c vs t l e = cond_sized (ltb i (length ns.ranges)) _ (push_sized (at s i) c vs t e)
  perform_sized (operation o) c vs t l e =
      pop_sized vs _ l λ b vs₁ l₁. pop_sized vs₁ _ (omega arith) λ a vs₂ l₂. bind_sized (arithmetic o a b) _ (arithmetic_numbered o a b) λ z. (omega arith, e)
  perform_sized negate c vs t l e = pop_sized vs _ l λ a vs₁ l₁. bind_sized (negation a) _ (negation_numbered a) λ z. (omega arith, e)
  perform_sized (comparison o) c vs t l e = pop_sized vs _ l λ b vs₁ l₁. pop_sized vs₁ _ (omega arith) λ a vs₂ l₂. (omega arith, e)
  perform_sized negated c vs t l e = pop_sized vs _ l λ a vs₁ l₁. (omega arith, e)
  perform_sized both c vs t l e = pop_sized vs _ l λ b vs₁ l₁. pop_sized vs₁ _ (omega arith) λ a vs₂ l₂. (omega arith, e)
  perform_sized either c vs t l e = pop_sized vs _ l λ b vs₁ l₁. pop_sized vs₁ _ (omega arith) λ a vs₂ l₂. (omega arith, e)
  perform_sized gate c vs t l e = pop_sized vs _ l λ a vs₁ l₁. gated_sized (yes a) c vs₁ t (omega arith, e)
  perform_sized (pick side v) c vs t l e =
      pop_sized vs _ l λ x vs₁ l₁. cond_sized (ltb v (length ns.ranges)) _ (bind_sized (picked side ns.ranges s v x) _ (picked_numbered side ns.ranges s v x) λ z. (omega arith, length-set t v z ∙ e))
  perform_sized (assign v) c vs t l e =
      pop_sized vs _ l λ x vs₁ l₁. cond_sized (ltb v (length ns.ranges)) _ (bind_sized (ranged ns.ranges v x) _ (ranged_numbered ns.ranges v x) λ z. (omega arith, length-set t v z ∙ e))
  perform_sized (settle v) c vs t l e = cond_sized (ltb v (length ns.ranges)) _ (settled_sized v (at s v) c vs t (l, e))
  perform_sized (timer u v n) c vs t l e =
      cond_sized (ltb u (length ns.ranges)) _
      (cond_sized (ltb v (length ns.ranges)) _
      (cond_sized (ltb (time_place ns.timers u) (length ns.ranges)) _
      (cond_sized (leb n time_limit) _ (l, timed_length ns s (record { id = u; watched = v; limit = n }) t ∙ e))))

  step_sized : (i : Instruction) (m : Machine) → Sized w m → SizedIn w (step ns s i m)
  step_sized i (machine false c vs t) h = perform_sized i c vs t h.0 h.1
  step_sized i (machine true c vs t) h = h

  pub run_sized : (code : List ℕ) (b at n : ℕ) (m : Machine) → Sized w m → SizedIn w (run ns s code b at n m).last
  run_sized code zero at n m h = h
  run_sized code (suc b) at n m h = inside (ltb at (length code)) (λ next m₁ x. run_sized code b next (n + 1) m₁ x)
    where
      stepped : (o : Outcome Machine) (next : ℕ) → SizedIn w o → ((m₁ : Machine) → Sized w m₁ → SizedIn w (run ns s code b next (n + 1) m₁).last)
          → SizedIn w (after_step o (n + 1) at (λ m₁. run ns s code b next (n + 1) m₁)).last
      stepped (ok m₁) next z ih = ih m₁ z
      stepped (refusal k) next z ih = z

      fetched : (f : Read Instruction) → ((next : ℕ) (m₁ : Machine) → Sized w m₁ → SizedIn w (run ns s code b next (n + 1) m₁).last)
          → SizedIn w (after_fetch f (n + 1) at (λ i next. after_step (step ns s i m) (n + 1) at λ m₁. run ns s code b next (n + 1) m₁)).last
      fetched nothing ih = omega arith
      fetched (got i next) ih = stepped (step ns s i m) next (step_sized i m h) (ih next)

      inside : (t : Bool) → ((next : ℕ) (m₁ : Machine) → Sized w m₁ → SizedIn w (run ns s code b next (n + 1) m₁).last)
          → SizedIn w (cond t (after_fetch (fetch code at) (n + 1) at λ i next. after_step (step ns s i m) (n + 1) at λ m₁. run ns s code b next (n + 1) m₁) (ran n at (ok m))).last
      inside true ih = fetched (fetch code at) ih
      inside false ih = h
