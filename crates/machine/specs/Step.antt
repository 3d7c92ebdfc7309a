-- One instruction of the machine that runs an image's code. It is total: a missing operand, a 41st value, an id that is not declared
-- and a code that is not listed are 11. It looks for no other fault of unsound code (sorts, gates, second rules): scan checks the image first.
-- Document 01, "The image" and "Values and formulas"; document 02, A.7. Assumes nothing.
use Rattle.std.specs.Prelude.{ℕ, Bool, true, false, not, ◌&&◌, ◌||◌, cond, List, [], ◌∷◌, leb, ltb, ℤ, pos, length, set}
use Rattle.limits.specs.Limits.{stack_limit, time_limit, broken_image, second_true_case}
use Rattle.arith.specs.Values.{Outcome, ok, refusal, ◌>>=◌, eq_z, arithmetic, negation, compares}
use Rattle.semantics.specs.Formula.{State, at}
use Rattle.semantics.specs.Shape.{Setting, time_place, timed}
use Rattle.semantics.specs.ReferenceScan.{ranged, picked}
use Rattle.bytecode.specs.Instructions.{Instruction, constant, current, previous, operation, negate, comparison, negated, both, either, gate, pick, assign, settle, timer}
use Rattle.bytecode.specs.Signature.{Role, pushes, computes, tests, opens, picks, lets, settles, times, signature}

-- Whether instructions are passed over up to the next pick; whether the variable at hand was picked; the values held, the last
-- first; the current values.
pub data Machine : Type 0 where
  machine : Bool → Bool → List ℤ → State → Machine

-- a yes is 1, a no is 0
unfoldable pub bit : Bool → ℤ
bit true = pos 1
bit false = pos 0

unfoldable pub yes : ℤ → Bool
yes z = not (eq_z z (pos 0))

-- a value more, never over 40
abbrev pub push : ℤ → Bool → List ℤ → State → Outcome Machine
push z c vs t = cond (ltb (length vs) stack_limit) (ok (machine false c (z ∷ vs) t)) (refusal broken_image)

-- take the value held last
abbrev pub pop : List ℤ → (ℤ → List ℤ → Outcome Machine) → Outcome Machine
pop [] k = refusal broken_image
pop (z ∷ vs) k = k z vs

-- The gate takes the condition. If it is false, instructions are passed over; a gate true after a pick for that variable is 15.
abbrev pub gated : Bool → Bool → List ℤ → State → Outcome Machine
gated false c vs t = ok (machine true c vs t)
gated true true vs t = refusal second_true_case
gated true false vs t = ok (machine false false vs t)

-- Settle keeps the previous value if nothing was picked.
abbrev pub settled : ℕ → ℤ → Bool → List ℤ → State → Machine
settled v before true vs t = machine false false vs t
settled v before false vs t = machine false false vs (set t v before)

-- the role at which passing over ends
abbrev pub ends_passing : Role → Bool
ends_passing (pushes fits) = false
ends_passing computes = false
ends_passing tests = false
ends_passing opens = false
ends_passing (picks side v) = true
ends_passing (lets v) = false
ends_passing (settles v) = false
ends_passing (times t w n) = false

abbrev pub is_pick : Instruction → Bool
is_pick i = ends_passing (signature i).role

-- a range for each number of the state, the names that are timers, the milliseconds; and the previous values
module _ (ns : Setting) (s : State) where
  -- only ids of numbers that the state has
  abbrev pub declared : ℕ → Outcome Machine → Outcome Machine
  declared i o = cond (ltb i (length ns.ranges)) o (refusal broken_image)

  -- an instruction that is not passed over
  abbrev pub perform : Instruction → Bool → List ℤ → State → Outcome Machine
  perform (constant z) c vs t = push z c vs t
  perform (current i) c vs t = declared i (push (at t i) c vs t)
  perform (previous i) c vs t = declared i (push (at s i) c vs t)
  perform (operation o) c vs t = pop vs λ b vs₁. pop vs₁ λ a vs₂. arithmetic o a b >>= λ z. ok (machine false c (z ∷ vs₂) t)
  perform negate c vs t = pop vs λ a vs₁. negation a >>= λ z. ok (machine false c (z ∷ vs₁) t)
  perform (comparison o) c vs t = pop vs λ b vs₁. pop vs₁ λ a vs₂. ok (machine false c (bit (compares o a b) ∷ vs₂) t)
  perform negated c vs t = pop vs λ a vs₁. ok (machine false c (bit (not (yes a)) ∷ vs₁) t)
  perform both c vs t = pop vs λ b vs₁. pop vs₁ λ a vs₂. ok (machine false c (bit (yes a && yes b) ∷ vs₂) t)
  perform either c vs t = pop vs λ b vs₁. pop vs₁ λ a vs₂. ok (machine false c (bit (yes a || yes b) ∷ vs₂) t)
  perform gate c vs t = pop vs λ a vs₁. gated (yes a) c vs₁ t
  perform (pick side v) c vs t = pop vs λ x vs₁. declared v (picked side ns.ranges s v x >>= λ z. ok (machine false true vs₁ (set t v z)))
  perform (assign v) c vs t = pop vs λ x vs₁. declared v (ranged ns.ranges v x >>= λ z. ok (machine false c vs₁ (set t v z)))
  perform (settle v) c vs t = declared v (ok (settled v (at s v) c vs t))
  perform (timer u w n) c vs t =
      declared u
      (declared w
      (declared (time_place ns.timers u)
      (cond (leb n time_limit) (ok (machine false c vs (timed ns s (record { id = u; watched = w; limit = n }) t))) (refusal broken_image))))

  -- If the gate's condition is false, all instructions up to and including the next pick count a step each and do nothing else.
  abbrev pub step : Instruction → Machine → Outcome Machine
  step i (machine false c vs t) = perform i c vs t
  step i (machine true c vs t) = ok (machine (not (is_pick i)) c vs t)
