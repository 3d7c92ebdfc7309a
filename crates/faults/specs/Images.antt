-- Where an image breaks soundness. Document 01, "The image" (Sound) and refusal 11: the place of the first header number or instruction
-- that breaks soundness, or the image length where something is only missing there. What is cut short breaks at its own first byte.
-- Assumes nothing.
use Rattle.std.specs.Prelude.{ℕ, ◌+◌, ◌≤◌, ◌<◌, ◌≡◌, ◌&&◌, List, T, ℤ, length, drop}
use Rattle.std.proofs.Math.Option.{Option}
use Rattle.std.proofs.Math.Option as O
use Rattle.std.specs.Int.Signed.{le_z}
use Rattle.limits.specs.Limits.{name_limit, image_limit, too_long, broken_image}
use Rattle.limits.specs.Answer.{refused}
use Rattle.arith.specs.Values.{is_int32}
use Rattle.semantics.specs.Program.{Range}
use Rattle.leb128.specs.Numbers.{Read, got, number_at, signed_at}
use Rattle.bytecode.specs.Instructions.{Instruction, fetch}
use Rattle.bytecode.specs.Translation.{RangesFit}
use Rattle.bytecode.specs.Check.{Known, Header, at_start, suits, check_of}
use Rattle.bytecode.specs.Sound.{RangesAt, Sound}
use Rattle.bytecode.specs.Allowed.{left_by, Allowed, Finished}

-- a number or an instruction is there, whole, and keeps a sentence
pub record Keeps {A : Type 0} (found : Read A) (Sentence : A → Type 0) : Type 0 where
  pub what : A
  pub next : ℕ
  pub read : found ≡ got what next
  pub kept : Sentence what

-- ---- the header

-- low ≤ start ≤ high, all in signed 32-bit range. Of low, high, start from a place on, the first that breaks it is at another
pub data RangeBreaks (bytes : List ℕ) (at : ℕ) : ℕ → Type 0 where
  low : (Keeps (signed_at bytes at) (λ l. T (is_int32 l)) → ⊥) → RangeBreaks bytes at at
  high : (l : ℤ) (at₁ : ℕ) → signed_at bytes at ≡ got l at₁ → T (is_int32 l) → (Keeps (signed_at bytes at₁) (λ h. T (is_int32 h && le_z l h)) → ⊥) → RangeBreaks bytes at at₁
  start : (l h : ℤ) (at₁ at₂ : ℕ) → signed_at bytes at ≡ got l at₁ → T (is_int32 l) → signed_at bytes at₁ ≡ got h at₂ → T (is_int32 h && le_z l h)
      → (Keeps (signed_at bytes at₂) (λ z. T (is_int32 z && le_z l z && le_z z h)) → ⊥) → RangeBreaks bytes at at₂

-- count of inputs, count of variables, at most 64 names; behind them the ranges of the first names, that fit, up to `at`
pub record RangesKept (bytes : List ℕ) (inputs variables : ℕ) (ranges : List Range) (at : ℕ) : Type 0 where
  pub at₁ : ℕ
  pub at₂ : ℕ
  pub inputs_read : number_at bytes 0 ≡ got inputs at₁
  pub variables_read : number_at bytes at₁ ≡ got variables at₂
  pub few : inputs + variables ≤ name_limit
  pub ranges_read : RangesAt bytes at₂ ranges at
  pub fit : RangesFit ranges

-- all header numbers keep soundness
pub record HeaderKept (bytes : List ℕ) (header : Header) : Type 0 where
  pub variables : ℕ
  pub ranges : RangesKept bytes header.inputs variables header.ranges header.place
  pub size : length header.ranges ≡ header.inputs + variables

-- ---- the code

-- from a place of the code up to another stand instructions, each allowed after those before it, and timers keep their limits and their place; what is known
-- before them and after, and the last instruction there
pub data CodeKept (ns : List Range) (code : List ℕ) : ℕ → Option Instruction → Known → ℕ → Option Instruction → Known → Type 0 where
  none : {at : ℕ} {last : Option Instruction} {c : Known} → CodeKept ns code at last c at last c
  more : {at to : ℕ} {last end : Option Instruction} {c d : Known} (i : Instruction) (next : ℕ) → fetch code at ≡ got i next → Allowed i c → T (suits ns last i)
      → CodeKept ns code next (O.some i) (left_by i c) to end d → CodeKept ns code at last c to end d

-- ---- the image

-- what stands before the place keeps soundness, and the header number or instruction at the place breaks it
pub data Breaks (bytes : List ℕ) : ℕ → Type 0 where
  -- at most 64 names: the count of inputs alone, then with the count of variables
  inputs : (Keeps (number_at bytes 0) (λ k. k ≤ name_limit) → ⊥) → Breaks bytes 0
  variables : (k at : ℕ) → number_at bytes 0 ≡ got k at → k ≤ name_limit → (Keeps (number_at bytes at) (λ m. k + m ≤ name_limit) → ⊥) → Breaks bytes at
  -- low ≤ start ≤ high, all in signed 32-bit range
  range : {place : ℕ} (k m : ℕ) (ranges : List Range) (at : ℕ) → RangesKept bytes k m ranges at → length ranges < k + m → RangeBreaks bytes at place → Breaks bytes place
  -- only the codes listed, and the sentences from "operands of the right sort" on
  instruction : (h : Header) (at : ℕ) (last : Option Instruction) (c : Known) → HeaderKept bytes h → CodeKept h.ranges (drop h.place bytes) 0 O.none (at_start h) at last c → at < length (drop h.place bytes)
      → (Keeps (fetch (drop h.place bytes) at) (λ i. Allowed i c × T (suits h.ranges last i)) → ⊥) → Breaks bytes (h.place + at)
  -- nothing missing at the end
  end : (h : Header) (at : ℕ) (last : Option Instruction) (c : Known) → HeaderKept bytes h → CodeKept h.ranges (drop h.place bytes) 0 O.none (at_start h) at last c → length (drop h.place bytes) ≤ at
      → (Finished c → ⊥) → Breaks bytes (length bytes)

pub record BrokenImages : Type 0 where
  -- 9 image over its limit (place 0, before all else)
  pub too_long_lem : (bytes : List ℕ) → image_limit < length bytes → check_of bytes ≡ refused too_long 0
  -- 11 exactly at the place of the first that breaks soundness
  pub broken : (bytes : List ℕ) (place : ℕ) → length bytes ≤ image_limit → Breaks bytes place → check_of bytes ≡ refused broken_image place
  pub breaks : (bytes : List ℕ) (place : ℕ) → check_of bytes ≡ refused broken_image place → (length bytes ≤ image_limit) × Breaks bytes place
  -- there is one such place at most, and none in a sound image
  pub one_place : (bytes : List ℕ) (p q : ℕ) → Breaks bytes p → Breaks bytes q → p ≡ q
  pub unbroken : (bytes : List ℕ) (place : ℕ) → Sound bytes → Breaks bytes place → ⊥
  -- an image within its limit that is not sound has one
  pub unsound : (bytes : List ℕ) → length bytes ≤ image_limit → (Sound bytes → ⊥) → (place : ℕ) × Breaks bytes place
