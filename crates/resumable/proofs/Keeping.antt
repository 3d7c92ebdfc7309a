-- What an instalment leaves, kept. Assumes nothing.
use Prim.Native.Nat.{ℕ, zero, suc, ◌+◌, ◌≤◌, ◌<◌, ◌^◌}
use native.Mathlib.Omega.{arith}
use mathlib.Core.Path.{◌≡◌, refl, ap, ◌∙◌}
use mathlib.Core.List.{List}
use mathlib.Core.Bool.{Bool, true, false, cond}
use lib.Dec.{leb}
use lib.IntN.{ℤ, pos}
use lib.ListN.{length, take}
use lib.Seq.{take-suc, sets, length-sets}
use Rattle.machine.specs.Held.{held_of}
use Rattle.arith.specs.Values.{ok}
use Rattle.machine.proofs.Stack.{length_held}
use Rattle.machine.specs.Inner.Memory.{machine_of}
use Rattle.machine.specs.declared.Registers.{Registers}
use Rattle.paused.specs.Memory.{current_place, held_place, checkpoint_cells, stacked}
use Rattle.resumable.specs.Instalment.{left_after}

-- the values held, as they stand in memory
pub stacked_held : (vals : List ℤ) (n : ℕ) → n ≤ length vals → stacked (held_of vals n) ≡ take n vals
unfolding held_of
stacked_held vals zero h = refl
stacked_held vals (suc n) h = rw (stacked_held vals n (omega arith), take-suc vals n (pos 0) h)

-- 1 or 2
pub phase_small : (len place : ℕ) {n : ℕ} → n ≡ cond (leb len place) 2 1 → n < 2 ^ 31
phase_small len place {n} e = rw e (by (leb len place))
  where
    by : (b : Bool) → cond b 2 1 < 2 ^ 31
    by true = omega arith
    by false = omega arith

-- the current values and the values held stored, one after the other
module _ (l₀ l₁ l₂ cur vals : List ℤ) (held : ℕ) (e₁ : l₁ ≡ sets l₀ current_place cur) (e₂ : l₂ ≡ sets l₁ held_place (take held vals)) where
  pub stored_length : length l₂ ≡ length l₀
  stored_length = ap length e₂ ∙ simp length-sets (ap length e₁ ∙ simp length-sets)

module _ (before len n place ph : ℕ) (m : Registers) (l₀ l₁ l₂ l₃ cur vals : List ℤ) (room : m.held ≤ length vals) (p : ph ≡ cond (leb len place) 2 1)
    (e₁ : l₁ ≡ sets l₀ current_place cur) (e₂ : l₂ ≡ sets l₁ held_place (take m.held vals))
    (e₃ : l₃ ≡ sets l₂ 0 (checkpoint_cells (record { phase = ph; number = 0; place = place; steps = before + n; held = m.held; picked = m.picked; passing = m.passing }))) where
  pub kept_going : l₃ ≡ left_after before len n place (ok (machine_of m vals cur)) l₀
  kept_going = e₃ ∙ rw (e₂, e₁, p, length_held, stacked_held vals m.held room)
