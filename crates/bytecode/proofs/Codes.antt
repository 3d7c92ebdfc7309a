-- Code bytes and the instructions that they stand for. Assumes nothing.
use Prim.Native.Nat.{ℕ, zero, suc, ◌+◌, ◌≤◌, ◌<◌}
use native.Mathlib.Omega.{arith}
use mathlib.Core.Path.{◌≡◌, refl, sym, subst}
use mathlib.Core.Bool.{Bool, true, false, ◌&&◌, cond, false≢true}
use mathlib.Core.Option.{none, some}
use lib.Dec.{eqb, leb}
use borrow.Author.Tests.{ne_eqb, le-leb, lt-leb, leb-true, leb-false, eqb-true, eqb-false}
use Rattle.arith.proofs.Basics.{and_both}
use Rattle.bytecode.specs.Instructions.{Instruction, operation, comparison, operation_of, comparison_of, instruction_of, has_operand}

pub operation_of_lem : (code n : ℕ) → 4 ≤ code → code ≤ 8 → instruction_of code n ≡ some (operation (operation_of code))
unfolding instruction_of
operation_of_lem code n l m =
    rw (ne_eqb code 1 (λ e. omega arith), ne_eqb code 2 (λ e. omega arith), ne_eqb code 3 (λ e. omega arith), le-leb 4 code l, le-leb code 8 m)

pub comparison_of_lem : (code n : ℕ) → 10 ≤ code → code ≤ 15 → instruction_of code n ≡ some (comparison (comparison_of code))
unfolding instruction_of
comparison_of_lem code n l m =
    rw (
      ne_eqb code 1 (λ e. omega arith),
      ne_eqb code 2 (λ e. omega arith),
      ne_eqb code 3 (λ e. omega arith),
      le-leb 4 code (omega arith),
      lt-leb code 8 (omega arith),
      ne_eqb code 9 (λ e. omega arith),
      le-leb 10 code l,
      le-leb code 15 m,
    )

-- only the codes listed
pub none_below : (code n : ℕ) → code < 1 → instruction_of code n ≡ none
unfolding instruction_of
none_below code n l = let e : code ≡ 0 = omega arith in rw e

pub none_above : (code n : ℕ) → 22 < code → (code ≡ 24 → ⊥) → (code ≡ 25 → ⊥) → instruction_of code n ≡ none
unfolding instruction_of
none_above code n l up down =
    rw (
      ne_eqb code 1 (λ e. omega arith),
      ne_eqb code 2 (λ e. omega arith),
      ne_eqb code 3 (λ e. omega arith),
      le-leb 4 code (omega arith),
      lt-leb code 8 (omega arith),
      ne_eqb code 9 (λ e. omega arith),
      le-leb 10 code (omega arith),
      lt-leb code 15 (omega arith),
      ne_eqb code 16 (λ e. omega arith),
      ne_eqb code 17 (λ e. omega arith),
      ne_eqb code 18 (λ e. omega arith),
      ne_eqb code 19 (λ e. omega arith),
      ne_eqb code 20 (λ e. omega arith),
      ne_eqb code 21 (λ e. omega arith),
      ne_eqb code 22 (λ e. omega arith),
      ne_eqb code 24 up,
      ne_eqb code 25 down,
    )

-- what is left where none of the keys fits
pub past : (k code : ℕ) → k ≤ code → (code ≡ k → ⊥) → k + 1 ≤ code
past k code l h = omega arith

pub from_four : (code : ℕ) → 1 ≤ code → (code ≡ 1 → ⊥) → (code ≡ 2 → ⊥) → (code ≡ 3 → ⊥) → 4 ≤ code
from_four code l a b c = past 3 code (past 2 code (past 1 code l a) b) c

pub above : (code : ℕ) → 16 ≤ code → (code ≡ 16 → ⊥) → (code ≡ 17 → ⊥) → (code ≡ 18 → ⊥) → (code ≡ 19 → ⊥) → (code ≡ 20 → ⊥) → (code ≡ 21 → ⊥) → (code ≡ 22 → ⊥)
    → 22 < code
above code l a b c d e f g = past 22 code (past 21 code (past 20 code (past 19 code (past 18 code (past 17 code (past 16 code l a) b) c) d) e) f) g

-- no operand behind the codes 4 to 19
pub no_operand : (code : ℕ) → 4 ≤ code → code < 20 → has_operand code ≡ false
unfolding has_operand
no_operand code l h = rw (le-leb 1 code (omega arith), lt-leb code 3 (omega arith), lt-leb 20 code h, lt-leb 24 code (omega arith))

-- ---- each code listed

-- what holds of a code and of some behind it
abbrev Each : (ℕ → Type 0) → ℕ → ℕ → Type 0
Each P low zero = P low
Each P low (suc k) = P low × Each P (suc low) k

each_at : (P : ℕ → Type 0) (low k code : ℕ) → Each P low k → low ≤ code → code ≤ low + k → P code
each_at P low zero code h l m = let e : low ≡ code = omega arith in subst P e h
each_at P low (suc k) code h l m = go (eqb low code) refl (each_at P (suc low) k code h.1)
  where
    go : (b : Bool) → eqb low code ≡ b → (suc low ≤ code → code ≤ suc low + k → P code) → P code
    go true e ih = subst P (eqb-true low code e) h.0
    go false e ih = let n : low ≡ code → ⊥ = eqb-false low code e in ih (omega arith) (omega arith)

-- an instruction
abbrev pub Listed : ℕ → ℕ → Type 0
Listed n code = (i : Instruction) × (instruction_of code n ≡ some i)

pub listed_alone : (code n : ℕ) → 4 ≤ code → code ≤ 19 → Listed n code
unfolding instruction_of
listed_alone code n l m =
    each_at (Listed n) 4 15 code
    ((_, refl), ((_, refl), ((_, refl), ((_, refl), ((_, refl), ((_, refl), ((_, refl), ((_, refl), ((_, refl), ((_, refl), ((_, refl), ((_, refl), ((_, refl), ((_, refl), ((_, refl), (_, refl)))))))))))))))) l m

-- codes with an operand
codes_split : (code : ℕ) (P : Type 0) → has_operand code ≡ true → (1 ≤ code → code ≤ 3 → P) → (20 ≤ code → code ≤ 22 → P) → (24 ≤ code → code ≤ 25 → P) → P
unfolding has_operand
codes_split code P h low middle high = first (leb 1 code && leb code 3) refl h
  where
    second : (b : Bool) → (leb 20 code && leb code 22) ≡ b → cond b true (leb 24 code && leb code 25) ≡ true → P
    second true e q = let x = and_both (leb 20 code) (leb code 22) e in middle (leb-true 20 code x.0) (leb-true code 22 x.1)
    second false e q = let x = and_both (leb 24 code) (leb code 25) q in high (leb-true 24 code x.0) (leb-true code 25 x.1)

    first : (b : Bool) → (leb 1 code && leb code 3) ≡ b → cond b true (cond (leb 20 code && leb code 22) true (leb 24 code && leb code 25)) ≡ true → P
    first true e q = let x = and_both (leb 1 code) (leb code 3) e in low (leb-true 1 code x.0) (leb-true code 3 x.1)
    first false e q = second (leb 20 code && leb code 22) refl q

pub listed_number : (code n : ℕ) → has_operand code ≡ true → Listed n code
unfolding instruction_of
listed_number code n h =
    codes_split code (Listed n code) h (each_at (Listed n) 1 2 code ((_, refl), ((_, refl), (_, refl)))) (each_at (Listed n) 20 2 code ((_, refl), ((_, refl), (_, refl)))) (each_at (Listed n) 24 1 code ((_, refl), (_, refl)))

-- no other code byte stands alone
pub unlisted_low : (code n : ℕ) → has_operand code ≡ false → code < 4 → instruction_of code n ≡ none
unfolding instruction_of has_operand
unlisted_low code n h l =
    each_at (λ c. has_operand c ≡ false → instruction_of c n ≡ none) 0 3 code
    ((λ e. refl), ((λ e. absurd (false≢true (sym e))), ((λ e. absurd (false≢true (sym e))), (λ e. absurd (false≢true (sym e)))))) (omega arith) (omega arith) h

pub unlisted_high : (code n : ℕ) → has_operand code ≡ false → (code ≡ 23 → ⊥) → 19 < code → instruction_of code n ≡ none
unfolding instruction_of has_operand
unlisted_high code n h t l = go (leb code 25) refl
  where
    go : (b : Bool) → leb code 25 ≡ b → instruction_of code n ≡ none
    go false e = let m = leb-false code 25 e in none_above code n (omega arith) (λ q. omega arith) (λ q. omega arith)
    go true e =
        each_at (λ c. has_operand c ≡ false → (c ≡ 23 → ⊥) → instruction_of c n ≡ none) 20 5 code
        ((λ q r. absurd (false≢true (sym q))), ((λ q r. absurd (false≢true (sym q))), ((λ q r. absurd (false≢true (sym q))), ((λ q r. refl), ((λ q r. absurd (false≢true (sym q))), (λ q r. absurd (false≢true (sym q))))))))
        (omega arith) (leb-true code 25 e) h t
