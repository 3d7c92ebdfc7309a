-- Instructions as they are read where they stand: with an operand, alone, and with operands of one byte. Assumes nothing.
use Prim.Native.Nat.{ℕ, ◌+◌, ◌≤◌, ◌<◌}
use native.Mathlib.Omega.{arith}
use mathlib.Core.Path.{◌≡◌, refl, sym, ap, ◌∙◌}
use mathlib.Core.Bool.{Bool, true, false, false≢true}
use mathlib.Core.List.{List}
use mathlib.Core.Option.{Option, none, some}
use lib.Dec.{eqb}
use lib.ListN.{length, get_or}
use borrow.Author.Tests.{le-leb, lt-leb, eq-eqb, ne_eqb}
use Rattle.leb128.specs.Numbers.{Read, got, nothing, number_at, unzigzag}
use Rattle.leb128.proofs.Laws.{one_group}
use Rattle.bytecode.specs.Instructions.{Instruction, constant, comparison, comparison_of, instruction_of, has_operand, decoded, fetch_one, fetch}
use Rattle.bytecode.proofs.Codes.{comparison_of_lem, no_operand}
use Rattle.bytecode.proofs.Fetching.{fetch_alone, fetch_number, fetch_malformed, fetch_other, timer_unfetched}
use Rattle.bytecode.proofs.Timeless.{code_timeless, timeless_one}

-- ---- which codes have an operand

pub low_operand : (code : ℕ) → 1 ≤ code → code ≤ 3 → has_operand code ≡ true
unfolding has_operand
low_operand code l h = rw (le-leb 1 code l, le-leb code 3 h)

pub high_operand : (code : ℕ) → 20 ≤ code → code ≤ 22 → has_operand code ≡ true
unfolding has_operand
high_operand code l h = rw (le-leb 1 code (omega arith), lt-leb code 3 (omega arith), le-leb 20 code l, le-leb code 22 h)

-- 23 has three
pub operand_other : (code : ℕ) → has_operand code ≡ true → eqb code 23 ≡ false
unfolding has_operand
operand_other code has = ne_eqb code 23 (λ e. false≢true (rw e at has))

-- ---- the instruction at a place

module _ (code : List ℕ) (at : ℕ) (inside : at < length code) where
  -- a code byte that is not listed
  pub fetch_unlisted : eqb (get_or code at 0) 23 ≡ false → ((n : ℕ) → instruction_of (get_or code at 0) n ≡ none) → fetch code at ≡ nothing
  fetch_unlisted other h = fetch_other code at other ∙ by (has_operand (get_or code at 0)) refl
    where
      read : has_operand (get_or code at 0) ≡ true → (r : Read ℕ) → number_at code (at + 1) ≡ r → fetch_one code at ≡ nothing
      read t nothing e = fetch_malformed code at inside t e
      read t (got n next) e = fetch_number code at n next inside t e ∙ ap (λ o. decoded o next) (h n)

      by : (t : Bool) → has_operand (get_or code at 0) ≡ t → fetch_one code at ≡ nothing
      by true t = read t (number_at code (at + 1)) refl
      by false t = fetch_alone code at inside t ∙ ap (λ o. decoded o (at + 1)) (h 0)

  module _ (byte : ℕ) (is : get_or code at 0 ≡ byte) where
    pub read_alone : eqb byte 23 ≡ false → has_operand byte ≡ false → fetch code at ≡ decoded (instruction_of byte 0) (at + 1)
    read_alone other has = fetch_other code at (rw is other) ∙ fetch_alone code at inside (ap has_operand is ∙ has) ∙ rw is

    module _ (has : has_operand byte ≡ true) where
      pub read_with : (n next : ℕ) → number_at code (at + 1) ≡ got n next → fetch code at ≡ decoded (instruction_of byte n) next
      read_with n next e = fetch_other code at (rw is (operand_other byte has)) ∙ fetch_number code at n next inside (ap has_operand is ∙ has) e ∙ rw is

      pub read_malformed : number_at code (at + 1) ≡ nothing → fetch code at ≡ nothing
      read_malformed e = fetch_other code at (rw is (operand_other byte has)) ∙ fetch_malformed code at inside (ap has_operand is ∙ has) e

-- a 23 is no other instruction
pub timer_only : (code : List ℕ) (at : ℕ) → get_or code at 0 ≡ 23 → (byte n next : ℕ) → decoded (instruction_of byte n) next ≡ fetch code at → fetch code at ≡ nothing
timer_only code at is byte n next e = by (instruction_of byte n) refl
  where
    by : (o : Option Instruction) → instruction_of byte n ≡ o → fetch code at ≡ nothing
    by none q = sym e ∙ rw q
    by (some i) q =
        let f : fetch code at ≡ got i next = sym e ∙ rw q in
        let g : nothing ≡ got i next = sym (timer_unfetched code at (eq-eqb (get_or code at 0) 23 is)) ∙ timeless_one code at i next f (code_timeless byte n i q) in
        let z : ◌≡◌ {A = ℕ} 0 1 = cc in let b : ⊥ = omega arith in absurd b

-- ---- operands of one byte

module _ (code : List ℕ) (at byte : ℕ) (is : get_or code at 0 ≡ byte) (i : Instruction) where
  -- a code byte and an operand of one byte
  pub short_fetch : at + 1 < length code → has_operand byte ≡ true → get_or code (at + 1) 0 < 128 → instruction_of byte (get_or code (at + 1) 0) ≡ some i → fetch_one code at ≡ got i (at + 2)
  short_fetch l has s e =
      let two : at + 1 + 1 ≡ at + 2 = omega arith in
      fetch_number code at (get_or code (at + 1) 0) (at + 1 + 1) (omega arith) (ap has_operand is ∙ has) (one_group code (at + 1) l s) ∙ rw (is, e, two)

  -- a code byte alone
  lone_fetch : at < length code → has_operand byte ≡ false → instruction_of byte 0 ≡ some i → fetch_one code at ≡ got i (at + 1)
  lone_fetch l has e = fetch_alone code at l (ap has_operand is ∙ has) ∙ rw (is, e)

module _ (code : List ℕ) (at : ℕ) where
  pub constant_ahead : at + 1 < length code → get_or code at 0 ≡ 1 → get_or code (at + 1) 0 < 128 → fetch_one code at ≡ got (constant (unzigzag (get_or code (at + 1) 0))) (at + 2)
  unfolding instruction_of has_operand
  constant_ahead l is s = short_fetch code at 1 is (constant (unzigzag (get_or code (at + 1) 0))) l refl s refl

module _ (code : List ℕ) (at : ℕ) where
  pub second_is : at + 4 < length code → get_or code (at + 2) 0 ≡ 1 → get_or code (at + 3) 0 < 128 → fetch_one code (at + 2) ≡ got (constant (unzigzag (get_or code (at + 3) 0))) (at + 4)
  second_is l is s =
      let p : at + 2 + 1 ≡ at + 3 = omega arith in
      let q : at + 2 + 2 ≡ at + 4 = omega arith in
      let s₁ : get_or code (at + 2 + 1) 0 < 128 = rw p s in
      rw (p, q) at (constant_ahead code (at + 2) (omega arith) is s₁)

  pub third_is : at + 4 < length code → 10 ≤ get_or code (at + 4) 0 → get_or code (at + 4) 0 ≤ 15 → fetch_one code (at + 4) ≡ got (comparison (comparison_of (get_or code (at + 4) 0))) (at + 5)
  third_is l a z =
      let q : at + 4 + 1 ≡ at + 5 = omega arith in
      let has : has_operand (get_or code (at + 4) 0) ≡ false = no_operand (get_or code (at + 4) 0) (omega arith) (omega arith) in
      rw q at (lone_fetch code (at + 4) (get_or code (at + 4) 0) refl (comparison (comparison_of (get_or code (at + 4) 0))) l has (comparison_of_lem (get_or code (at + 4) 0) 0 a z))
