-- A run in a state without elapsed times is whole. Assumes nothing.
use Prim.Native.Nat.{ℕ, ◌+◌, ◌-◌, ◌≤◌, ◌<◌}
use native.Mathlib.Omega.{arith}
use mathlib.Core.Path.{◌≡◌, refl, sym, subst, ◌∙◌}
use mathlib.Core.Bool.{Bool, true, false}
use mathlib.Core.List.{List}
use borrow.Author.Tests.{ltb-true, ltb-false}
use lib.Dec.{ltb}
use lib.IntN.{ℤ}
use lib.ListN.{length}
use Rattle.arith.specs.Values.{ok}
use Rattle.semantics.specs.Shape.{Setting}
use Rattle.machine.specs.declared.Registers.{Registers}
use Rattle.machine.specs.declared.Executed.{Executed}
use Rattle.machine.specs.declared.Stepped.{Stepped}
use Rattle.machine.specs.declared.Stepped.TheVariants.{Next, Refused}
use Rattle.machine.specs.Runs.{ran, run}
use Rattle.machine.specs.Inner.Memory.{machine_of, step_outcome, ran_of}
use Rattle.machine.specs.Inner.Dispatch.{RestsAt, RanTo}
use Rattle.machine.proofs.Laws.{run_end_lem}

module _ {code : List ℕ} {settings : Setting → Type 0} {prev vals cur : List ℤ} {names from budget : ℕ} {m : Registers} {r : Executed} {vs cs : List ℤ}
    (t : RanTo code settings prev vals cur names from budget m r vs cs) (h : length prev ≤ names) (ns : Setting) (q : settings ns) where
  from_zero : 0 + r.steps ≡ r.steps
  from_zero = omega arith

  inside : (k : Registers) → r.last ≡ Next k → r.steps < budget → (b : Bool) → ltb r.place (length code) ≡ b
      → run ns prev code (budget - r.steps) r.place r.steps (machine_of k vs cs) ≡ ran r.steps r.place (ok (machine_of k vs cs))
  inside k e less true i =
      let w = subst (λ x. RestsAt code prev names (budget - r.steps) r.place x) e t.rests (omega arith) (ltb-true r.place (length code) i) in
      let b : ⊥ = omega (arith, w.2) in absurd b
  inside k e less false i = run_end_lem ns prev code (budget - r.steps) r.place r.steps (machine_of k vs cs) (ltb-false r.place (length code) i)

  left_over : (k : Registers) → r.last ≡ Next k → (b : Bool) → ltb r.steps budget ≡ b
      → run ns prev code (budget - r.steps) r.place r.steps (machine_of k vs cs) ≡ ran r.steps r.place (ok (machine_of k vs cs))
  left_over k e true i = inside k e (ltb-true r.steps budget i) (ltb r.place (length code)) refl
  left_over k e false i = let z : budget - r.steps ≡ 0 = omega (arith, ltb-false r.steps budget i) in rw z

  by_last : (o : Stepped) → r.last ≡ o → ran r.steps r.place (step_outcome o vs cs) ≡ run ns prev code budget from 0 (machine_of m vals cur)
  by_last (Refused k) e = sym (rw (e, from_zero) at (t.goes ns 0 q))
  by_last (Next k) e = sym (rw (e, from_zero) at (t.goes ns 0 q) ∙ left_over k e (ltb r.steps budget) refl)

  pub whole_run : ran_of r vs cs ≡ run ns prev code budget from 0 (machine_of m vals cur)
  whole_run = by_last r.last refl
