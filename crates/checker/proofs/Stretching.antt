-- Instructions that stand ahead together: the walk goes as many steps. Assumes nothing.
use Prim.Native.Nat.{ℕ, ◌+◌, ◌*◌, ◌%◌, ◌^◌, ◌≤◌, ◌<◌}
use native.Mathlib.Omega.{arith}
use native.Mathlib.Numerals.{add-one}
use native.Mathlib.Nat.{pow-suc}
use mathlib.Core.Path.{◌≡◌, refl, ◌∙◌}
use mathlib.Core.Bool.{true, false}
use mathlib.Core.List.{List}
use mathlib.Core.Option.{Option, none, some}
use lib.ListN.{length, get_or}
use borrow.Author.Tests.{lt-ltb}
use Rattle.arith.specs.Inner.Flags.{flags_of}
use Rattle.arith.proofs.Flags.{length_flags}
use Rattle.leb128.specs.Numbers.{got, unzigzag}
use Rattle.leb128.proofs.Laws.{one_group}
use Rattle.bytecode.specs.Instructions.{Instruction, constant, current, previous, operation, comparison, operation_of, comparison_of, instruction_of, has_operand, decoded, fetch_one}
use Rattle.bytecode.specs.Signature.{number, truth}
use Rattle.bytecode.specs.Check.{Known, advance}
use Rattle.bytecode.proofs.Codes.{operation_of_lem, comparison_of_lem, no_operand}
use Rattle.bytecode.proofs.Fetching.{fetch_alone, fetch_number}
use Rattle.bytecode.proofs.RoundTrip.{one_next}
use Rattle.bytecode.proofs.Soundness.{none≢some, known_inside}
use Rattle.checker.specs.declared.advance.Walk.{Walk}
use Rattle.checker.specs.Inner.Walk.{open_of, known_of, advance_by, pushed, joined, outside, Small}
use Rattle.checker.specs.Inner.Stretches.{with_number, with_sort, KeepsTo, StepsTo, last_step, first_step, LeadsTo}
use Rattle.checker.proofs.Bits.{length_sorts, sorts-cons, sorts_push, sorts_number, number_low}
use Rattle.checker.proofs.Steps.{operation-is, comparison_is, constant_is}
use Rattle.checker.proofs.Walking.{WalksTo, walks_on, walks_step}

-- ---- the walk's numbers

truth_low : (n k : ℕ) → k < 2 ^ n → k * 2 + 1 < 2 ^ (n + 1)
truth_low n k h = rw (add-one n, pow-suc) (omega arith)

module _ (w : Walk) where
  pub pushed_is : w.held < 40 → pushed (known_of w) ≡ some (known_of (with_number w))
  unfolding pushed
  pushed_is h = rw (length_sorts w.held w.sorts, lt-ltb w.held 40 h, sorts_number w.held w.sorts)

  pub number_small : Small w → w.held < 40 → Small (with_number w)
  number_small s h = record { few_held = omega arith; sorts_low = number_low w.held w.sorts s.sorts_low; few_names = s.few_names; known_low = s.known_low }

  pub truth_small : Small w → w.held < 40 → Small (with_sort w 1)
  truth_small s h = record { few_held = omega arith; sorts_low = truth_low w.held w.sorts s.sorts_low; few_names = s.few_names; known_low = s.known_low }

  pub two_tested : w.gate ≡ 0 → outside (open_of w.gate) (joined number truth (known_of (with_number (with_number w)))) ≡ some (known_of (with_sort w 1))
  unfolding joined
  two_tested e = rw (e, sorts_number (w.held + 1) (w.sorts * 2), sorts_number w.held w.sorts, sorts_push w.held w.sorts 1 (omega arith))

  pub two_joined : 1 ≤ w.held → w.sorts % 2 ≡ 0 → joined number number (known_of (with_number w)) ≡ some (known_of w)
  unfolding joined
  two_joined h e = rw (sorts_number w.held w.sorts, sorts-cons w.held w.sorts h, e)

  module _ (i : ℕ) where
    pub previous_pushed : i < w.names → advance (previous i) (known_of w) ≡ pushed (known_of w)
    unfolding pushed
    previous_pushed l = rw (length_flags w.names w.known, lt-ltb i w.names l)

    pub current_pushed : get_or (flags_of w.names w.known) i false ≡ true → advance (current i) (known_of w) ≡ pushed (known_of w)
    unfolding pushed
    current_pushed e = rw e

-- ---- instructions as they stand: with an operand of one byte, or alone

module _ (code : List ℕ) (at : ℕ) (i : Instruction) where
  with_byte : (next : ℕ) → at + 2 ≡ next → at + 1 < length code → has_operand (get_or code at 0) ≡ true → get_or code (at + 1) 0 < 128 → instruction_of (get_or code at 0) (get_or code (at + 1) 0) ≡ some i
      → fetch_one code at ≡ got i next
  with_byte next q l has s e =
      let two : at + 1 + 1 ≡ next = omega arith in
      fetch_number code at (get_or code (at + 1) 0) (at + 1 + 1) (omega arith) has (one_group code (at + 1) l s) ∙ rw (e, two)

  by_itself : (next : ℕ) → at + 1 ≡ next → at < length code → has_operand (get_or code at 0) ≡ false → instruction_of (get_or code at 0) 0 ≡ some i → fetch_one code at ≡ got i next
  by_itself next q l has e = fetch_alone code at l has ∙ rw (e, q)

-- ---- a constant, and what follows it

module _ (code : List ℕ) (at : ℕ) (w : Walk) (next : ℕ) (q : at + 2 ≡ next) (l : at + 1 < length code) (one : get_or code at 0 ≡ 1) (short : get_or code (at + 1) 0 < 128) (room : w.held < 40) where
  constant_keeps : KeepsTo code at (known_of w) next (known_of (with_number w))
  unfolding instruction_of has_operand
  constant_keeps =
      let n = get_or code (at + 1) 0 in
      let has : has_operand (get_or code at 0) ≡ true = rw one in
      let is : instruction_of (get_or code at 0) n ≡ some (constant (unzigzag n)) = rw one in
      record {
        instruction = constant (unzigzag n);
        fetched = with_byte code at (constant (unzigzag n)) next q l has short is;
        advanced = constant_is (get_or code (at + 1) 0) (known_of w) (omega arith) ∙ pushed_is w room;
      }

module _ (code : List ℕ) (at : ℕ) (w : Walk) (small : Small w) where
  pub operation_leads : get_or code at 0 ≡ 1 → at + 2 < length code → 4 ≤ get_or code (at + 2) 0 → get_or code (at + 2) 0 ≤ 8 → get_or code (at + 1) 0 < 128 → 1 ≤ w.held → w.held < 40 → w.sorts % 2 ≡ 0
      → LeadsTo code at w (at + 3) w
  operation_leads one l least most short some-held room on-number =
      let op = get_or code (at + 2) 0 in
      record {
        steps =
            first_step at (known_of w) (at + 2) (known_of (with_number w)) (at + 3) (known_of w) (constant_keeps code at w (at + 2) refl (omega arith) one short room)
            (last_step (at + 2) (known_of (with_number w)) (at + 3) (known_of w) record {
              instruction = operation (operation_of op);
              fetched = by_itself code (at + 2) (operation (operation_of op)) (at + 3) (omega arith) l (no_operand op least (omega arith)) (operation_of_lem op 0 least most);
              advanced = operation-is (operation_of op) (known_of (with_number w)) ∙ two_joined w some-held on-number;
            });
        inside = omega arith;
        small = small;
      }

  -- ---- a value, a constant and their comparison

  module _ (l : at + 4 < length code) (one : get_or code (at + 2) 0 ≡ 1) (least : 10 ≤ get_or code (at + 4) 0) (most : get_or code (at + 4) 0 ≤ 15) (short : get_or code (at + 3) 0 < 128)
      (shut : w.gate ≡ 0) (room : w.held + 1 < 40) where
    abbrev op : ℕ
    op = get_or code (at + 4) 0

    value_leads : (i : Instruction) → instruction_of (get_or code at 0) (get_or code (at + 1) 0) ≡ some i → has_operand (get_or code at 0) ≡ true → get_or code (at + 1) 0 < 128
        → advance i (known_of w) ≡ pushed (known_of w) → LeadsTo code at w (at + 5) (with_sort w 1)
    value_leads i is has one_byte admitted =
        let p : at + 2 + 1 ≡ at + 3 = omega arith in
        let short₂ : get_or code (at + 2 + 1) 0 < 128 = rw p short in
        record {
          steps =
              first_step at (known_of w) (at + 2) (known_of (with_number w)) (at + 5) (known_of (with_sort w 1)) record {
                instruction = i;
                fetched = with_byte code at i (at + 2) refl (omega arith) has one_byte is;
                advanced = admitted ∙ pushed_is w (omega arith);
              }
              (first_step (at + 2) (known_of (with_number w)) (at + 4) (known_of (with_number (with_number w))) (at + 5) (known_of (with_sort w 1))
              (constant_keeps code (at + 2) (with_number w) (at + 4) (omega arith) (omega arith) one short₂ room)
              (last_step (at + 4) (known_of (with_number (with_number w))) (at + 5) (known_of (with_sort w 1)) record {
                instruction = comparison (comparison_of op);
                fetched = by_itself code (at + 4) (comparison (comparison_of op)) (at + 5) (omega arith) l (no_operand op (omega arith) (omega arith)) (comparison_of_lem op 0 least most);
                advanced = comparison_is (comparison_of op) (known_of (with_number (with_number w))) ∙ two_tested w shut;
              }));
          inside = omega arith;
          small = truth_small w small (omega arith);
        }

    pub previous_leads : get_or code at 0 ≡ 3 → get_or code (at + 1) 0 < w.names → LeadsTo code at w (at + 5) (with_sort w 1)
    unfolding instruction_of has_operand
    previous_leads is id =
        let n = get_or code (at + 1) 0 in
        let e : instruction_of (get_or code at 0) n ≡ some (previous n) = rw is in
        let has : has_operand (get_or code at 0) ≡ true = rw is in
        value_leads (previous n) e has (omega (arith, small.few_names)) (previous_pushed w n id)

    pub current_leads : get_or code at 0 ≡ 2 → get_or (flags_of w.names w.known) (get_or code (at + 1) 0) false ≡ true → LeadsTo code at w (at + 5) (with_sort w 1)
    unfolding instruction_of has_operand
    current_leads is known =
        let n = get_or code (at + 1) 0 in
        let e : instruction_of (get_or code at 0) n ≡ some (current n) = rw is in
        let has : has_operand (get_or code at 0) ≡ true = rw is in
        value_leads (current n) e has (omega (arith, small.few_names, known_inside (flags_of w.names w.known) n known, length_flags w.names w.known)) (current_pushed w n known)

-- ---- one instruction

pub single_leads : (code : List ℕ) (at : ℕ) (w : Walk) (next : ℕ) (k : Walk) (o : Option Instruction) → fetch_one code at ≡ decoded o next → advance_by o (known_of w) ≡ some (known_of k) → next ≤ length code → Small k
    → LeadsTo code at w next k
single_leads code at w next k none e q l s = none≢some _ q
single_leads code at w next k (some i) e q l s = record { steps = last_step at (known_of w) next (known_of k) record { instruction = i; fetched = e; advanced = q }; inside = l; small = s }

-- ---- the walk goes on behind them

keeps_walks : (code : List ℕ) (at : ℕ) (c : Known) (next : ℕ) (c₁ : Known) → KeepsTo code at c next c₁ → WalksTo code at c next c₁
keeps_walks code at c next c₁ k =
    let n = one_next code at k.instruction next k.fetched in
    walks_step code at c n.0 (some k.instruction) next k.fetched c₁ k.advanced n.1

steps_walk : {code : List ℕ} (at : ℕ) (c : Known) (at₁ : ℕ) (c₁ : Known) → StepsTo code at c at₁ c₁ → WalksTo code at c at₁ c₁
steps_walk {code} _ _ _ _ (last_step at c next c₁ k) = keeps_walks code at c next c₁ k
steps_walk {code} _ _ _ _ (first_step at c next c₁ at₂ c₂ k r) = walks_on code at c next c₁ at₂ c₂ (keeps_walks code at c next c₁ k) (steps_walk next c₁ at₂ c₂ r)

pub stretch_walks : {code : List ℕ} {at : ℕ} {w : Walk} {next : ℕ} {k : Walk} → LeadsTo code at w next k → WalksTo code at (known_of w) next (known_of k)
stretch_walks {code} {at} {w} {next} {k} s = steps_walk at (known_of w) next (known_of k) s.steps

steps_onward : {code : List ℕ} (at : ℕ) (c : Known) (at₁ : ℕ) (c₁ : Known) → StepsTo code at c at₁ c₁ → at < at₁
steps_onward {code} _ _ _ _ (last_step at c next c₁ k) = (one_next code at k.instruction next k.fetched).1
steps_onward {code} _ _ _ _ (first_step at c next c₁ at₂ c₂ k r) = omega (arith, (one_next code at k.instruction next k.fetched).1, steps_onward next c₁ at₂ c₂ r)

pub stretch_onward : {code : List ℕ} {at : ℕ} {w : Walk} {next : ℕ} {k : Walk} → LeadsTo code at w next k → at < next
stretch_onward {code} {at} {w} {next} {k} s = steps_onward at (known_of w) next (known_of k) s.steps
