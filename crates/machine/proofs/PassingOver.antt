-- Instructions that are passed over: what a run is then left with. Assumes nothing.
use Prim.Native.Nat.{ℕ, zero, suc, ◌+◌, ◌-◌, ◌≤◌, ◌<◌}
use native.Mathlib.Omega.{arith}
use mathlib.Core.Path.{◌≡◌, refl, sym, ap, subst, ◌∙◌}
use mathlib.Core.Bool.{Bool, true, false}
use mathlib.Core.List.{List}
use mathlib.Core.Option.{Option, some}
use lib.Dec.{eqb}
use lib.IntN.{ℤ}
use lib.ListN.{length, get_or}
use Rattle.arith.specs.Values.{Outcome, ok}
use Rattle.semantics.specs.Formula.{State}
use Rattle.semantics.specs.Shape.{Setting}
use Rattle.leb128.specs.Numbers.{Read, got, nothing, number_at}
use Rattle.bytecode.specs.Instructions.{Instruction, timer, instruction_of, has_operand, decoded, fetch}
use Rattle.machine.specs.Step.{Machine, machine}
use Rattle.machine.specs.Runs.{after_step, run}
use Rattle.machine.specs.Inner.Memory.{held_of, machine_of, stepped}
use Rattle.machine.specs.Inner.Dispatch.{registers}
use Rattle.machine.specs.Inner.Passing.{Passing, over_of, OverTo, BrokenOver, PassedBy}
use Rattle.machine.proofs.Laws.{run_broken}
use Rattle.machine.proofs.Loop.{run_fetched}
use Rattle.machine.proofs.Fetches.{read_alone, read_with, read_malformed}

-- only whether instructions are passed over moves
abbrev pub MovesOn : Option Instruction → Bool → Type 0
MovesOn o p = (ns : Setting) (prev : State) (c : Bool) (vs : List ℤ) (t : State) → ok (machine p c vs t) ≡ stepped ns prev o (machine true c vs t)

module _ (code : List ℕ) (at : ℕ) (l : at < length code) where
  pub leads_over : (o : Option Instruction) (next : ℕ) → fetch code at ≡ decoded o next → (p : Bool) → MovesOn o p → OverTo code at 1 p next
  leads_over o next f p e ns prev vals cur h c budget done b =
      run_fetched ns prev code budget at done (machine_of (registers h c true) vals cur) o next (sym f) l (omega (arith, b))
      ∙ ap (λ (x : Outcome Machine). after_step x (done + 1) at (λ m. run ns prev code (budget - 1) next (done + 1) m)) (sym (e ns prev c (held_of vals h) cur))

  pub broken_over : fetch code at ≡ nothing → BrokenOver code at
  broken_over f ns prev vals cur h c budget done b = run_broken ns prev code budget at done (machine_of (registers h c true) vals cur) l f b

  module _ (byte : ℕ) (is : get_or code at 0 ≡ byte) where
    pub alone_over : eqb byte 23 ≡ false → has_operand byte ≡ false → MovesOn (instruction_of byte 0) true → OverTo code at 1 true (at + 1)
    alone_over other has e = leads_over (instruction_of byte 0) (at + 1) (read_alone code at l byte is other has) true e

    module _ (has : has_operand byte ≡ true) (p : Bool) (e : (n : ℕ) → MovesOn (instruction_of byte n) p) where
      pub number_over : (n next : ℕ) → number_at code (at + 1) ≡ got n next → OverTo code at 1 p next
      number_over n next f = leads_over (instruction_of byte n) next (read_with code at l byte is has n next f) p (e n)

      by_operand : (r : Read ℕ) → number_at code (at + 1) ≡ r → PassedBy code at 1 (over_of p r)
      by_operand nothing f = broken_over (read_malformed code at l byte is has f)
      by_operand (got n next) f = (omega arith, omega arith, number_over n next f)

      pub operand_over : (d : Passing) → d ≡ over_of p (number_at code (at + 1)) → PassedBy code at 1 d
      operand_over d q = subst (λ x. PassedBy code at 1 x) (sym q) (by_operand (number_at code (at + 1)) refl)

  pub timer_over : (t w n next : ℕ) → fetch code at ≡ got (timer t w n) next → OverTo code at 1 true next
  timer_over t w n next f = leads_over (some (timer t w n)) next f true (λ ns prev c vs k. refl)

-- none
pub none_over : (code : List ℕ) (at : ℕ) → OverTo code at 0 true at
none_over code at ns prev vals cur h c budget done b =
    let e : budget - 0 ≡ budget = omega arith in
    let f : done + 0 ≡ done = omega arith in
    rw (e, f)

-- and more
pub further_over : (code : List ℕ) (from n at : ℕ) (p : Bool) (m next : ℕ) → OverTo code from n true at → OverTo code at m p next → OverTo code from (n + m) p next
further_over code from n at p m next o s ns prev vals cur h c budget done b =
    let e : budget - n - m ≡ budget - (n + m) = omega arith in
    let f : done + n + m ≡ done + (n + m) = omega arith in
    o ns prev vals cur h c budget done (omega arith) ∙ s ns prev vals cur h c (budget - n) (done + n) (omega arith) ∙ rw (e, f)

-- a place behind the one from which nothing was passed over
pub some_over : (n at from end : ℕ) → (n ≡ 0 → at ≡ from) → from < end → end ≤ at → 1 ≤ n
some_over zero at from end e l h = let f : at ≡ from = e refl in absurd (omega arith)
some_over (suc n) at from end e l h = omega arith
