-- Code bytes and the instructions that they stand for, as the matches on them tell. Assumes nothing.
use mathlib.Core.Path.{◌≡◌, refl, ◌∙◌}
use mathlib.Core.Bool.{Bool, true, false, ◌&&◌, cond}
use mathlib.Core.List.{List, [], ◌∷◌}
use mathlib.Core.Option.{Option, none, some}
use Prim.Native.Nat.{ℕ, suc, ◌≤◌, ◌<◌}
use native.Mathlib.Omega.{arith}
use borrow.Author.Tests.{le-leb, ne_eqb, eqb-true, eqb-false, leb-false}
use lib.Dec.{eqb, leb}
use lib.IntN.{ℤ}
use Rattle.arith.specs.Values.{ok, compares}
use Rattle.semantics.specs.Formula.{State}
use Rattle.semantics.specs.Shape.{Setting}
use Rattle.bytecode.specs.Instructions.{Instruction, operation, comparison, operation_of, comparison_of, instruction_of}
use Rattle.bytecode.proofs.Codes.{operation_of_lem, comparison_of_lem, past, from_four}
use Rattle.machine.specs.declared.Registers.{Registers}
use Rattle.machine.specs.declared.Stepped.{Stepped}
use Rattle.machine.specs.Step.{machine, is_pick}
use Rattle.machine.specs.Inner.Groups.{truth_of, related, performed, OnStack}
use Rattle.machine.specs.Inner.Memory.{held_of, machine_of, step_outcome, stepped}

-- ---- arithmetic and comparisons

pub operation_code_lem : (code n : ℕ) → 1 ≤ code → code < 9 → (code ≡ 1 → ⊥) → (code ≡ 2 → ⊥) → (code ≡ 3 → ⊥) → instruction_of code n ≡ some (operation (operation_of code))
operation_code_lem code n h k a b c = operation_of_lem code n (from_four code h a b c) (omega arith)

pub comparison_code_lem : (code n : ℕ) → 9 ≤ code → code < 16 → (code ≡ 9 → ⊥) → instruction_of code n ≡ some (comparison (comparison_of code))
comparison_code_lem code n h k a = comparison_of_lem code n (past 9 code h a) (omega arith)

pub truth_comparison : (code : ℕ) (a b : ℤ) → code < 16 → truth_of code a b ≡ compares (comparison_of code) a b
unfolding truth_of
truth_comparison code a b h = rw (ne_eqb code 17 (λ e. omega arith), ne_eqb code 18 (λ e. omega arith))

pub related_same : (f g : ℤ → ℤ → Bool) (c : Bool) (vs : List ℤ) (t : State) → ((a b : ℤ) → f a b ≡ g a b) → related f c vs t ≡ related g c vs t
related_same f g c [] t h = refl
related_same f g c (b ∷ []) t h = refl
related_same f g c (b ∷ a ∷ vs) t h = rw (h a b)

module _ (code : ℕ) (m : Registers) (vals left : List ℤ) (r : Stepped) (go : m.passing ≡ false) where
  pub calculated_is : 4 ≤ code → code ≤ 8 → OnStack (operation (operation_of code)) m vals r left
      → (ns : Setting) (s t : List ℤ) → step_outcome r left t ≡ stepped ns s (instruction_of code 0) (machine_of m vals t)
  calculated_is l h e ns s t = e ns s t ∙ rw (operation_of_lem code 0 l h, go)

  pub related_is : 10 ≤ code → code ≤ 15 → ((t : List ℤ) → step_outcome r left t ≡ related (truth_of code) m.picked (held_of vals m.held) t)
      → (ns : Setting) (s t : List ℤ) → step_outcome r left t ≡ stepped ns s (instruction_of code 0) (machine_of m vals t)
  related_is l h e ns s t = e t ∙ related_same _ _ _ (held_of vals m.held) t (λ x y. truth_comparison code x y (omega arith)) ∙ rw (comparison_of_lem code 0 l h, go)

-- ---- passing over: every instruction but a pick

data Other : Option Instruction → Type 0 where
  other : (i : Instruction) → is_pick i ≡ false → Other (some i)

cond_other : (b : Bool) (x y : Option Instruction) → (b ≡ true → Other x) → (b ≡ false → Other y) → Other (cond b x y)
cond_other true x y p q = p refl
cond_other false x y p q = q refl

up : (k code : ℕ) → k ≤ code → eqb code k ≡ false → suc k ≤ code
up k code h e = let f = eqb-false code k e in omega arith

over : (low high code : ℕ) → low ≤ code → (leb low code && leb code high) ≡ false → suc high ≤ code
over low high code h e = omega (arith, leb-false code high (rw (le-leb low code h) at e))

others : (code n : ℕ) → 1 ≤ code → code < 23 → (code ≡ 20 → ⊥) → Other (instruction_of code n)
unfolding instruction_of
others code n h k p =
    cond_other (eqb code 1) _ _ (λ e. other _ refl) λ e₁.
    cond_other (eqb code 2) _ _ (λ e. other _ refl) λ e₂.
    cond_other (eqb code 3) _ _ (λ e. other _ refl) λ e₃.
    cond_other (leb 4 code && leb code 8) _ _ (λ e. other _ refl) λ e₄.
    cond_other (eqb code 9) _ _ (λ e. other _ refl) λ e₅.
    cond_other (leb 10 code && leb code 15) _ _ (λ e. other _ refl) λ e₆.
    cond_other (eqb code 16) _ _ (λ e. other _ refl) λ e₇.
    cond_other (eqb code 17) _ _ (λ e. other _ refl) λ e₈.
    cond_other (eqb code 18) _ _ (λ e. other _ refl) λ e₉.
    cond_other (eqb code 19) _ _ (λ e. other _ refl) λ e₁₀.
    cond_other (eqb code 20) _ _ (λ e. absurd (p (eqb-true code 20 e))) λ e₁₁.
    cond_other (eqb code 21) _ _ (λ e. other _ refl) λ e₁₂.
    cond_other (eqb code 22) _ _ (λ e. other _ refl) λ e₁₃.
    cond_other (eqb code 24) _ _ (λ e. let b : ⊥ = omega (arith, eqb-true code 24 e) in absurd b) λ e₁₄.
    cond_other (eqb code 25) _ _ (λ e. let b : ⊥ = omega (arith, eqb-true code 25 e) in absurd b) λ e₁₅.
    let f₃ = up 3 code (up 2 code (up 1 code h e₁) e₂) e₃ in
    let f₆ = over 10 15 code (up 9 code (over 4 8 code f₃ e₄) e₅) e₆ in
    let f₉ = up 18 code (up 17 code (up 16 code f₆ e₇) e₈) e₉ in
    let f : 23 ≤ code = up 22 code (up 21 code (up 20 code (up 19 code f₉ e₁₀) e₁₁) e₁₂) e₁₃ in
    absurd (omega arith)

passed : (ns : Setting) (s : State) (o : Option Instruction) (c : Bool) (vs : List ℤ) (t : State) → Other o → ok (machine true c vs t) ≡ stepped ns s o (machine true c vs t)
passed ns s none c vs t x = elim x [ ]
passed ns s (some i) c vs t (other j e) = rw e

pub pass_other : (ns : Setting) (s : State) (code n : ℕ) (c : Bool) (vs : List ℤ) (t : State) → 1 ≤ code → code < 23 → (code ≡ 20 → ⊥)
    → ok (machine true c vs t) ≡ stepped ns s (instruction_of code n) (machine true c vs t)
pass_other ns s code n c vs t h k p = passed ns s (instruction_of code n) c vs t (others code n h k p)

-- not passing over: what the instruction does
pub act_stepped : (ns : Setting) (s : State) (o : Option Instruction) (p c : Bool) (vs : List ℤ) (t : State) → p ≡ false
    → performed ns s o c vs t ≡ stepped ns s o (machine p c vs t)
act_stepped ns s none p c vs t e = refl
act_stepped ns s (some i) p c vs t e = rw e
