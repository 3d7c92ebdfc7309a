-- Laws of a run: its end, an instruction that is malformed, a divided budget, its count of steps. Assumes nothing.
use Prim.Native.Nat.{ℕ, zero, suc, ◌+◌, ◌≤◌, ◌<◌}
use native.Mathlib.Omega.{arith}
use mathlib.Core.Path.{◌≡◌, refl, sym}
use mathlib.Core.Bool.{Bool, true, false, cond}
use mathlib.Core.List.{List}
use lib.Dec.{ltb}
use lib.ListN.{length}
use borrow.Author.Tests.{lt-ltb, le-ltb, ltb-false}
use Rattle.arith.specs.Values.{Outcome, ok, refusal}
use Rattle.semantics.specs.Formula.{State}
use Rattle.semantics.specs.Shape.{Setting}
use Rattle.leb128.specs.Numbers.{Read, got, nothing}
use Rattle.bytecode.specs.Instructions.{Instruction, fetch}
use Rattle.bytecode.specs.Parts.{counted, count_from}
use Rattle.bytecode.proofs.RoundTrip.{fetch_next}
use Rattle.machine.specs.Step.{Machine, step}
use Rattle.machine.specs.Runs.{ran, after_step, after_fetch, run, resume}

module _ (ns : Setting) (s : State) (code : List ℕ) where
  -- at the end of the code nothing is done
  pub run_end_lem : (budget at n : ℕ) (m : Machine) → length code ≤ at → run ns s code budget at n m ≡ ran n at (ok m)
  run_end_lem zero at n m h = refl
  run_end_lem (suc budget) at n m h = rw (le-ltb at (length code) h)

  pub run_broken : (budget at n : ℕ) (m : Machine) → at < length code → fetch code at ≡ nothing → 0 < budget → run ns s code budget at n m ≡ ran (n + 1) at (refusal 11)
  run_broken zero at n m l f p = let b : ⊥ = omega arith in absurd b
  run_broken (suc budget) at n m l f p = rw (lt-ltb at (length code) l, f)

  -- a run with the budget a + b is one with a, and one with b from where it stopped
  pub run_divided : (a b at n : ℕ) (m : Machine)
      → run ns s code (a + b) at n m ≡ resume ns s code b (run ns s code a at n m).last (run ns s code a at n m).place (run ns s code a at n m).steps
  run_divided zero b at n m = let q : 0 + b ≡ b = omega arith in rw q
  run_divided (suc a) b at n m = let q : suc a + b ≡ suc (a + b) = omega arith in rw q (inside (ltb at (length code)) refl (λ next m₁. run_divided a b next (n + 1) m₁))
    where
      stepped : (o : Outcome Machine) (next : ℕ)
          → ((m₁ : Machine) → run ns s code (a + b) next (n + 1) m₁ ≡ resume ns s code b (run ns s code a next (n + 1) m₁).last (run ns s code a next (n + 1) m₁).place (run ns s code a next (n + 1) m₁).steps)
          → after_step o (n + 1) at (λ m₁. run ns s code (a + b) next (n + 1) m₁)
          ≡ resume ns s code b (after_step o (n + 1) at (λ m₁. run ns s code a next (n + 1) m₁)).last (after_step o (n + 1) at (λ m₁. run ns s code a next (n + 1) m₁)).place (after_step o (n + 1) at (λ m₁. run ns s code a next (n + 1) m₁)).steps
      stepped (ok m₁) next ih = ih m₁
      stepped (refusal k) next ih = refl

      fetched : (f : Read Instruction)
          → ((next : ℕ) (m₁ : Machine) → run ns s code (a + b) next (n + 1) m₁ ≡ resume ns s code b (run ns s code a next (n + 1) m₁).last (run ns s code a next (n + 1) m₁).place (run ns s code a next (n + 1) m₁).steps)
          → after_fetch f (n + 1) at (λ i next. after_step (step ns s i m) (n + 1) at λ m₁. run ns s code (a + b) next (n + 1) m₁)
          ≡ resume ns s code b (after_fetch f (n + 1) at (λ i next. after_step (step ns s i m) (n + 1) at λ m₁. run ns s code a next (n + 1) m₁)).last
          (after_fetch f (n + 1) at (λ i next. after_step (step ns s i m) (n + 1) at λ m₁. run ns s code a next (n + 1) m₁)).place
          (after_fetch f (n + 1) at (λ i next. after_step (step ns s i m) (n + 1) at λ m₁. run ns s code a next (n + 1) m₁)).steps
      fetched nothing ih = refl
      fetched (got i next) ih = stepped (step ns s i m) next (λ m₁. ih next m₁)

      inside : (t : Bool) → ltb at (length code) ≡ t
          → ((next : ℕ) (m₁ : Machine) → run ns s code (a + b) next (n + 1) m₁ ≡ resume ns s code b (run ns s code a next (n + 1) m₁).last (run ns s code a next (n + 1) m₁).place (run ns s code a next (n + 1) m₁).steps)
          → run ns s code (suc (a + b)) at n m
          ≡ resume ns s code b (run ns s code (suc a) at n m).last (run ns s code (suc a) at n m).place (run ns s code (suc a) at n m).steps
      inside true e ih = rw e (fetched (fetch code at) ih)
      inside false e ih = rw e (sym (run_end_lem b at n m (ltb-false at (length code) e)))

  -- the steps of a run that is not refused are as many as the instructions of the code, at most the budget
  pub run_steps : (budget at n : ℕ) (m m₁ : Machine) → (run ns s code budget at n m).last ≡ ok m₁
      → (run ns s code budget at n m).steps ≡ n + count_from code budget at
  run_steps zero at n m m₁ e = omega arith
  run_steps (suc budget) at n m m₁ e = inside (ltb at (length code)) refl e (λ next m₂ q₁. run_steps budget next (n + 1) m₂ m₁ q₁)
    where
      stepped : (o : Outcome Machine) (next : ℕ)
          → ((m₂ : Machine) → (run ns s code budget next (n + 1) m₂).last ≡ ok m₁ → (run ns s code budget next (n + 1) m₂).steps ≡ n + 1 + count_from code budget next)
          → (after_step o (n + 1) at (λ m₂. run ns s code budget next (n + 1) m₂)).last ≡ ok m₁
          → (after_step o (n + 1) at (λ m₂. run ns s code budget next (n + 1) m₂)).steps ≡ n + (count_from code budget next + 1)
      stepped (ok m₂) next ih q = let h : (run ns s code budget next (n + 1) m₂).steps ≡ n + 1 + count_from code budget next = ih m₂ q in omega arith
      stepped (refusal k) next ih q = let z : ◌≡◌ {A = ℕ} 0 1 = cc in omega arith

      fetched : (f : Read Instruction) → fetch code at ≡ f
          → ((next : ℕ) (m₂ : Machine) → (run ns s code budget next (n + 1) m₂).last ≡ ok m₁ → (run ns s code budget next (n + 1) m₂).steps ≡ n + 1 + count_from code budget next)
          → (after_fetch f (n + 1) at (λ i next. after_step (step ns s i m) (n + 1) at λ m₂. run ns s code budget next (n + 1) m₂)).last ≡ ok m₁
          → (after_fetch f (n + 1) at (λ i next. after_step (step ns s i m) (n + 1) at λ m₂. run ns s code budget next (n + 1) m₂)).steps ≡ n + count_from code (suc budget) at
      fetched nothing h ih q = let z : ◌≡◌ {A = ℕ} 0 1 = cc in omega arith
      fetched (got i next) h ih q = rw h (stepped (step ns s i m) next (ih next) q)

      none : (f : Read Instruction) → fetch code at ≡ f → length code ≤ at → counted f (λ next. count_from code budget next) ≡ 0
      none nothing h k = refl
      none (got i next) h k = let b : ⊥ = omega (arith, (fetch_next code at i next h).0) in absurd b

      inside : (t : Bool) → ltb at (length code) ≡ t
          → (cond t (after_fetch (fetch code at) (n + 1) at λ i next. after_step (step ns s i m) (n + 1) at λ m₂. run ns s code budget next (n + 1) m₂) (ran n at (ok m))).last ≡ ok m₁
          → ((next : ℕ) (m₂ : Machine) → (run ns s code budget next (n + 1) m₂).last ≡ ok m₁ → (run ns s code budget next (n + 1) m₂).steps ≡ n + 1 + count_from code budget next)
          → (cond t (after_fetch (fetch code at) (n + 1) at λ i next. after_step (step ns s i m) (n + 1) at λ m₂. run ns s code budget next (n + 1) m₂) (ran n at (ok m))).steps ≡ n + count_from code (suc budget) at
      inside true h q ih = fetched (fetch code at) refl ih q
      inside false h q ih = rw (none (fetch code at) refl (ltb-false at (length code) h)) (omega arith)
