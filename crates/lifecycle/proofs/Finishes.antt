-- The tests of a finish. Assumes nothing.
use Prim.Native.Nat.{ℕ, ◌+◌, ◌-◌, ◌≤◌}
use mathlib.Core.Bool.{true}
use native.Mathlib.Omega.{arith}
use mathlib.Core.Path.{◌≡◌, sym, ◌∙◌}
use mathlib.Core.List.{List}
use lib.IntN.{ℤ}
use lib.ListN.{length}
use borrow.Author.Tests.{eq-eqb, ne_eqb}
use Rattle.limits.specs.Limits.{state_limit, paused_length}
use Rattle.semantics.specs.Formula.{State}
use Rattle.semantics.specs.ReferenceScan.{with_inputs}
use Rattle.machine.proofs.Copies.{over_all}
use Rattle.paused.specs.declared.Checkpoint.{Checkpoint}
use Rattle.paused.specs.declared.Layout.{Layout}
use Rattle.paused.specs.declared.Response.TheVariants as R
use Rattle.paused.specs.Memory.{start_place, current_place, slice, checkpoint_of, layout_of}
use Rattle.lifecycle.specs.Calls.{same_values, after_finish, without_scan, finish_of}
use Rattle.resumable.proofs.Running.{length_slice}
use Rattle.lifecycle.specs.Inner.Parts.{finish_ended}
use Rattle.lifecycle.proofs.Sameness.{same_long}

pub back : (a n : ℕ) → a + n - a ≡ n
back a n = omega arith

module _ (s : State) (cells : List ℤ) where
  pub finish_elsewhere : (length cells ≡ paused_length → ⊥) → after_finish R.Idle cells s ≡ finish_of s cells
  unfolding finish_of
  finish_elsewhere h = rw (ne_eqb (length cells) paused_length h)

  module _ (l : length cells ≡ paused_length) (p : Checkpoint) (e : p ≡ checkpoint_of cells) where
    pub finish_idle : p.phase ≡ 0 → after_finish R.Idle cells s ≡ finish_of s cells
    unfolding finish_of
    finish_idle z = rw (eq-eqb (length cells) paused_length l, ← e, eq-eqb p.phase 0 z)

    module _ (n : p.phase ≡ 0 → ⊥) where
      pub finish_early : p.phase ≡ 1 → after_finish (R.Unfinished 0) cells s ≡ finish_of s cells
      unfolding finish_of
      finish_early z = rw (eq-eqb (length cells) paused_length l, ← e, ne_eqb p.phase 0 n, eq-eqb p.phase 1 z)

      module _ (m : p.phase ≡ 1 → ⊥) where
        pub finish_end : p.phase ≡ 2 → (f : Layout) → f ≡ layout_of cells → finish_ended p.steps f.size s cells ≡ finish_of s cells
        unfolding finish_of
        finish_end z f g = rw (eq-eqb (length cells) paused_length l, ← e, ← g, ne_eqb p.phase 0 n, ne_eqb p.phase 1 m, eq-eqb p.phase 2 z)

        pub finish_refused : (p.phase ≡ 2 → ⊥) → after_finish (R.Refused p.number 0 p.steps) (without_scan cells) s ≡ finish_of s cells
        unfolding finish_of
        finish_refused z = rw (eq-eqb (length cells) paused_length l, ← e, ne_eqb p.phase 0 n, ne_eqb p.phase 1 m, ne_eqb p.phase 2 z)

-- the state lent is the one at the start, so it has as many values
module _ (s : State) (cells : List ℤ) (size : ℕ) (l : length cells ≡ paused_length) (few : size ≤ state_limit) (e : same_values s (slice start_place size cells) ≡ true) where
  state_sized : length s ≡ size
  state_sized = same_long s (slice start_place size cells) e ∙ length_slice start_place size cells (omega arith)

  pub state_room : length (slice current_place size cells) ≤ length s
  state_room = omega (arith, length_slice current_place size cells (omega arith), state_sized)

  pub ended_done : (steps : ℕ) (m t : List ℤ) → t ≡ with_inputs s (slice current_place size cells) → m ≡ without_scan cells → after_finish (R.Done steps) m t ≡ finish_ended steps size s cells
  ended_done steps m t f g = rw (e, g, f, over_all (slice current_place size cells) s (length_slice current_place size cells (omega arith) ∙ sym state_sized))
