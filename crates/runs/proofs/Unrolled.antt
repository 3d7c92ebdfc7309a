-- The first instruction of a run: the three ways it goes, for every budget and count. Assumes nothing.
use Prim.Native.Nat.{ℕ, suc, ◌+◌, ◌≤◌, ◌<◌}
use native.Mathlib.Omega.{arith}
use mathlib.Core.Path.{◌≡◌, refl}
use mathlib.Core.Bool.{Bool, true, false, cond}
use mathlib.Core.Option.{Option, none, some}
use mathlib.Core.List.{List}
use lib.Dec.{eqb, ltb}
use lib.ListN.{length, get_or}
use borrow.Author.Tests.{lt-ltb, ltb-true, ltb-false}
use Rattle.arith.specs.Values.{Outcome, ok, refusal}
use Rattle.semantics.specs.Formula.{State}
use Rattle.semantics.specs.Shape.{Setting}
use Rattle.leb128.specs.Numbers.{Read, got, nothing, ◌then◌, number_at}
use Rattle.bytecode.specs.Instructions.{Instruction, timer, instruction_of, has_operand, decoded, fetch_one, timer_at, fetch}
use Rattle.bytecode.proofs.RoundTrip.{one_next, fetch_next}
use Rattle.bytecode.proofs.Fetching.{number_within, fetch_alone, fetch_malformed, fetch_number}
use Rattle.machine.specs.Step.{Machine, step}
use Rattle.machine.specs.Runs.{ran, run}

-- an instruction ends inside the code: one of one operand at most,
one_inside : (code : List ℕ) (at : ℕ) (i : Instruction) (next : ℕ) → fetch_one code at ≡ got i next → next ≤ length code
one_inside code at i next e = by (has_operand (get_or code at 0)) refl
  where
    l : at < length code
    l = (one_next code at i next e).0

    plain : (o : Option Instruction) (to : ℕ) → decoded o to ≡ got i next → to ≤ length code → next ≤ length code
    plain none to q h = let z : ◌≡◌ {A = ℕ} 0 1 = cc in absurd (omega arith)
    plain (some j) to q h = let w : to ≡ next = cc in omega arith

    numbered : (r : Read ℕ) → number_at code (at + 1) ≡ r → has_operand (get_or code at 0) ≡ true → next ≤ length code
    numbered nothing h o = let f = fetch_malformed code at l o h in let z : ◌≡◌ {A = ℕ} 0 1 = cc in absurd (omega arith)
    numbered (got n to) h o = plain (instruction_of (get_or code at 0) n) to (cc (fetch_number code at n to l o h)) (number_within code (at + 1) n to h).inside

    by : (b : Bool) → has_operand (get_or code at 0) ≡ b → next ≤ length code
    by true o = numbered (number_at code (at + 1)) refl o
    by false o = plain (instruction_of (get_or code at 0) 0) (at + 1) (cc (fetch_alone code at l o)) (omega (arith, (one_next code at i next e).0))

-- a 23
timer_inside : (code : List ℕ) (at : ℕ) (i : Instruction) (next : ℕ) → timer_at code at ≡ got i next → next ≤ length code
unfolding timer_at
timer_inside code at i next e = first (number_at code at) refl e
  where
    third : (at₂ t w : ℕ) (r : Read ℕ) → number_at code at₂ ≡ r → (r then λ n at₃. got (timer t w n) at₃) ≡ got i next → next ≤ length code
    third at₂ t w nothing h q = let z : ◌≡◌ {A = ℕ} 0 1 = cc in absurd (omega arith)
    third at₂ t w (got n at₃) h q = let v : at₃ ≡ next = cc in omega (arith, (number_within code at₂ n at₃ h).inside)

    second : (at₁ t : ℕ) (r : Read ℕ) → (r then λ w at₂. number_at code at₂ then λ n at₃. got (timer t w n) at₃) ≡ got i next → next ≤ length code
    second at₁ t nothing q = let z : ◌≡◌ {A = ℕ} 0 1 = cc in absurd (omega arith)
    second at₁ t (got w at₂) q = third at₂ t w (number_at code at₂) refl q

    first : (r : Read ℕ) → number_at code at ≡ r → (r then λ t at₁. number_at code at₁ then λ w at₂. number_at code at₂ then λ n at₃. got (timer t w n) at₃) ≡ got i next → next ≤ length code
    first nothing h q = let z : ◌≡◌ {A = ℕ} 0 1 = cc in absurd (omega arith)
    first (got t at₁) h q = second at₁ t (number_at code at₁) q

-- and so every one
pub fetch_inside : (code : List ℕ) (at : ℕ) (i : Instruction) (next : ℕ) → fetch code at ≡ got i next → next ≤ length code
unfolding fetch
fetch_inside code at i next e = by (eqb (get_or code at 0) 23) e
  where
    by : (b : Bool) → cond b (timer_at code (at + 1)) (fetch_one code at) ≡ got i next → next ≤ length code
    by true q = timer_inside code (at + 1) i next q
    by false q = one_inside code at i next q

-- at the end of the code; an instruction that is refused; one that goes on, at a place behind it
pub data Unrolled (ns : Setting) (s : State) (code : List ℕ) (at : ℕ) (m : Machine) : Type 0 where
  over : length code ≤ at → Unrolled ns s code at m
  stops : (k : ℕ) → at < length code → ((b n : ℕ) → run ns s code (suc b) at n m ≡ ran (n + 1) at (refusal k)) → Unrolled ns s code at m
  goes : (next : ℕ) (m₁ : Machine) (i : Instruction) → at < length code → at < next → next ≤ length code → step ns s i m ≡ ok m₁
      → ((b n : ℕ) → run ns s code (suc b) at n m ≡ run ns s code b next (n + 1) m₁) → Unrolled ns s code at m

pub unrolled : (ns : Setting) (s : State) (code : List ℕ) (at : ℕ) (m : Machine) → Unrolled ns s code at m
unrolled ns s code at m = inside (ltb at (length code)) refl
  where
    stepped : (o : Outcome Machine) (i : Instruction) (next : ℕ) → step ns s i m ≡ o → fetch code at ≡ got i next → at < length code → Unrolled ns s code at m
    stepped (ok m₁) i next h f l = goes next m₁ i l (fetch_next code at i next f).1 (fetch_inside code at i next f) h (λ b n. rw (lt-ltb at (length code) l, f, h))
    stepped (refusal k) i next h f l = stops k l (λ b n. rw (lt-ltb at (length code) l, f, h))

    fetched : (f : Read Instruction) → fetch code at ≡ f → at < length code → Unrolled ns s code at m
    fetched nothing f l = stops 11 l (λ b n. rw (lt-ltb at (length code) l, f))
    fetched (got i next) f l = stepped (step ns s i m) i next refl f l

    inside : (t : Bool) → ltb at (length code) ≡ t → Unrolled ns s code at m
    inside true e = fetched (fetch code at) refl (ltb-true at (length code) e)
    inside false e = over (ltb-false at (length code) e)
