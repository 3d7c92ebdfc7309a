-- Instructions that are passed over. Assumes nothing.
use Rattle.std.specs.Prelude.{Some, None}
use Prim.Native.Nat.{ℕ, ◌+◌, ◌≤◌, ◌<◌}
use native.Mathlib.Omega.{arith}
use mathlib.Core.Path.{◌≡◌, refl, sym, ap, subst, ◌∙◌}
use mathlib.Core.Bool.{Bool, true, false, not}
use mathlib.Core.List.{List}
use mathlib.Core.Option.{Option, none, some}
use lib.Dec.{eqb, ltb}
use lib.IntN.{ℤ}
use lib.ListN.{length}
use borrow.Author.Tests.{eqb-true, eqb-false, ltb-true, ltb-false}
use Rattle.arith.specs.Inner.Flags.{flags_of}
use Rattle.arith.specs.Values.{ok}
use Rattle.semantics.specs.Shape.{Setting}
use Rattle.bytecode.specs.Instructions.{Instruction, instruction_of, decoded, fetch_one}
use Rattle.bytecode.specs.Signature.{Sort}
use Rattle.bytecode.proofs.Timeless.{one_timeless}
use Rattle.bytecode.specs.Check.{Picks, known}
use Rattle.bytecode.proofs.Soundness.{none≢some}
use Rattle.bytecode.proofs.Codes.{comparison_of_lem, none_above, past}
use Rattle.checker.specs.declared.advance.Walk.{Walk}
use Rattle.checker.specs.Inner.Walk.{Advanced, sorts_of, open_of, picks_of, known_of, advanced_known, advance_by, SmallAfter}
use Rattle.checker.proofs.Steps.{one_none, two_none}
use Rattle.checker.proofs.Walking.{judges_broken}
use Rattle.machine.specs.Step.{machine, is_pick, step}
use Rattle.machine.specs.Inner.Memory.{held_of, machine_of, RangesIn}
use Rattle.machine.proofs.Refusals.{Matches, Kept as KeptBy}
use Rattle.fused.specs.declared.Progress.{Progress}
use Rattle.fused.specs.declared.Moved.{Moved}
use Rattle.fused.specs.declared.Moved.TheVariants as M
use Rattle.fused.specs.Inner.Passes.{registers_of, passed_over, Ready, Passes, PassesBy, Moves, MovesBy}
use Rattle.fused.proofs.Joining.{setting_by, aligned, opens, here, kept}

-- whether passing over goes on behind an instruction
abbrev pub GoesOn : Option Instruction → Bool → Type 0
GoesOn none p = Unit {0}
GoesOn (some i) p = p ≡ not (is_pick i)

module _ (code : List ℕ) (b : Progress) (within : b.at < length code) where
  -- read as this instruction, with this place behind it
  by_walk : (o : Option Instruction) (next : ℕ) (p : Bool) → fetch_one code b.at ≡ decoded o next → next ≤ length code → GoesOn o p → (a : Advanced)
      → advanced_known a ≡ advance_by o (known_of b.walk) → SmallAfter a → PassesBy code b (passed_over b next p a)
  by_walk o next p f i g None e s = judges_broken code b.at (known_of b.walk) within o next f (sym e)
  by_walk none next p f i g (Some k) e s = none≢some _ (sym e)
  by_walk (some x) next p f i g (Some k) e s = record { stride = record { instruction = x; fetched = f; inside = i; advanced = sym e; small = s }; same_picked = refl; passing_is = g }

  pub passes : (o : Option Instruction) (next : ℕ) (p : Bool) → fetch_one code b.at ≡ decoded o next → next ≤ length code → GoesOn o p → (a : Advanced)
      → advanced_known a ≡ advance_by o (known_of b.walk) → SmallAfter a → (m : Moved) → m ≡ passed_over b next p a → PassesBy code b m
  passes o next p f i g a e s m q = subst (λ x. PassesBy code b x) (sym q) (by_walk o next p f i g a e s)

-- ---- between a gate and its pick only codes 1 to 9 stand

at_each : {P : Type 0} (k code : ℕ) → k ≤ code → (code ≡ k → P) → (k + 1 ≤ code → P) → P
at_each {P} k code l y n = by (eqb code k) (eqb-true code k) (eqb-false code k)
  where
    by : (t : Bool) → (t ≡ true → code ≡ k) → (t ≡ false → code ≡ k → ⊥) → P
    by true a b = y (a refl)
    by false a b = n (past k code l (b refl))

module _ (vs : List Sort) (o : Option Picks) (ids : List Bool) (code n : ℕ) where
  open_above : 16 ≤ code → (code ≡ 20 → ⊥) → (code ≡ 24 → ⊥) → (code ≡ 25 → ⊥) → advance_by (instruction_of code n) (known vs true o ids) ≡ none
  unfolding instruction_of
  open_above l no_pick no-rise no-fall =
      at_each 16 code l (λ e. rw e (one_none Sort.truth vs)) λ l₁.
      at_each 17 code l₁ (λ e. rw e (two_none Sort.truth vs)) λ l₂.
      at_each 18 code l₂ (λ e. rw e (two_none Sort.truth vs)) λ l₃.
      at_each 19 code l₃ (λ e. rw e (one_none Sort.truth vs)) λ l₄.
      at_each 20 code l₄ (λ e. absurd (no_pick e)) λ l₅.
      at_each 21 code l₅ (λ e. rw e (one_none Sort.number vs)) λ l₆.
      at_each 22 code l₆ (λ e. rw e refl) λ l₇. rw (none_above code n l₇ no-rise no-fall)

  open_none : 10 ≤ code → (code ≡ 20 → ⊥) → (code ≡ 24 → ⊥) → (code ≡ 25 → ⊥) → advance_by (instruction_of code n) (known vs true o ids) ≡ none
  open_none l no_pick no-rise no-fall = by (ltb code 16) (ltb-true code 16) (ltb-false code 16)
    where
      by : (t : Bool) → (t ≡ true → code < 16) → (t ≡ false → 16 ≤ code) → advance_by (instruction_of code n) (known vs true o ids) ≡ none
      by true y m = let h = y refl in rw (comparison_of_lem code n l (omega arith)) (two_none Sort.number vs)
      by false y m = open_above (m refl) no_pick no-rise no-fall

pub open_breaks : (w : Walk) → open_of w.gate ≡ true → (code n : ℕ) → 10 ≤ code → (code ≡ 20 → ⊥) → (code ≡ 24 → ⊥) → (code ≡ 25 → ⊥) → advance_by (instruction_of code n) (known_of w) ≡ none
open_breaks w g code n l no_pick no-rise no-fall =
    subst (λ (t : Bool). advance_by (instruction_of code n) (known (sorts_of w.held w.sorts) t (picks_of w.picking) (flags_of w.names w.known)) ≡ none) (sym g) (open_none (sorts_of w.held w.sorts) (picks_of w.picking) (flags_of w.names w.known) code n l no_pick no-rise no-fall)

-- ---- what is passed over leaves the memory as it is

module _ (code : List ℕ) {low high prev cur vals : List ℤ} {b : Progress} (r : Ready low high prev cur vals b) (go : b.passing ≡ true) where
  over_moves : (k : Progress) → Passes code b k → Moves code low high prev b vals cur vals cur k
  over_moves k p =
      record {
        stride = p.stride;
        acted = λ ns q. acts ns ∙ rw (p.passing_is, p.same_picked) (ap (λ (vs : List ℤ). ok (machine on b.picked vs cur)) (aligned k.walk on b.picked 0 vals cur (matched ns q)));
        opened = rw p.passing_is (opens k.walk on b.picked 0 vals cur (matched (setting_by low high) (here r)));
      }
    where
      on : Bool
      on = not (is_pick p.stride.instruction)

      acts : (ns : Setting) → step ns prev p.stride.instruction (machine_of (registers_of b) vals cur) ≡ ok (machine (not (is_pick p.stride.instruction)) b.picked (held_of vals 0) cur)
      acts ns = rw go

      matched : (ns : Setting) → RangesIn ns.ranges low high → Matches (known_of k.walk) (machine (not (is_pick p.stride.instruction)) b.picked (held_of vals 0) cur)
      matched ns q = subst (λ o. KeptBy (known_of k.walk) o) (acts ns) (kept r p.stride.instruction k.walk (one_timeless code b.at p.stride.instruction k.at p.stride.fetched) ns q p.stride.advanced)

  pub over_moves_by : (m : Moved) → PassesBy code b m → MovesBy code low high prev b vals cur vals cur m
  over_moves_by M.Broken p = p
  over_moves_by (M.Refused k number) p = absurd p
  over_moves_by (M.On k) p = over_moves k p
