-- What the answers of this crate's functions stand for. Assumes nothing.
use Rattle.std.specs.Prelude.{ℕ, ◌^◌, ◌≤◌, ◌<◌, ◌≡◌, List, ℤ, length, Option, Some, None, Result, Ok, Err}
use Rattle.std.proofs.Math.Option.{some}
use Rattle.std.proofs.lemmas.List.Edits.{sets}
use Rattle.semantics.specs.Program.{Range}
use Rattle.leb128.specs.Numbers.{Read, got, nothing}
use Rattle.bytecode.specs.declared.Fetched.{Fetched}
use Rattle.bytecode.specs.declared.Fetched.TheVariants as F
use Rattle.limits.specs.Limits.{broken_image, name_limit}
use Rattle.limits.specs.Answer.{Answer, accepted, refused}
use Rattle.bytecode.specs.Instructions.{Instruction, timer, instruction_of, decoded}
use Rattle.bytecode.specs.Check.{Counts, check_range, Header}
use Rattle.bytecode.specs.Parts.{lows, highs, starts}

-- ---- an instruction

abbrev pub fetched_read : Option Fetched → Read Instruction
fetched_read (Some (F.Instruction code n next)) = decoded (instruction_of code n) next
fetched_read (Some (F.Timer t w n next)) = got (timer t w n) next
fetched_read None = nothing

-- An operand is below 2 ^ 32; the instruction stands between its place and the place behind it, inside a code of this length.
pub record Bounded (length at n next : ℕ) : Type 0 where
  pub operand : n < 2 ^ 32
  pub behind : at < next
  pub inside : next ≤ length

-- and its code byte is listed
pub record InstructionBounded (length at code n next : ℕ) : Type 0 where
  pub operand : n < 2 ^ 32
  pub behind : at < next
  pub inside : next ≤ length
  pub instruction : Instruction
  pub listed : instruction_of code n ≡ some instruction

pub record TimerBounded (length at t w n next : ℕ) : Type 0 where
  pub id : t < 2 ^ 32
  pub watched : w < 2 ^ 32
  pub limit : n < 2 ^ 32
  pub behind : at < next
  pub inside : next ≤ length

abbrev pub FetchedWithin : ℕ → ℕ → Option Fetched → Type 0
FetchedWithin length at (Some (F.Instruction code n next)) = InstructionBounded length at code n next
FetchedWithin length at (Some (F.Timer t w n next)) = TimerBounded length at t w n next
FetchedWithin length at None = Unit {0}

-- ---- an instruction of one operand at most: its code byte, its operand and the place behind

abbrev pub Single : Type 0
Single = Option (ℕ × ℕ × ℕ)

-- A code byte that is not listed is no instruction, though its byte was read.
abbrev pub single_read : Single → Read Instruction
single_read (Some (code, n, next)) = decoded (instruction_of code n) next
single_read None = nothing

abbrev pub SingleWithin : ℕ → ℕ → Single → Type 0
SingleWithin length at (Some (code, n, next)) = Bounded length at n next
SingleWithin length at None = Unit {0}

-- ---- the operands of a 23

abbrev pub Operands : Type 0
Operands = Option (ℕ × ℕ × ℕ × ℕ)

abbrev pub operands_read : Operands → Read Instruction
operands_read (Some (t, w, n, next)) = got (timer t w n) next
operands_read None = nothing

abbrev pub OperandsWithin : ℕ → ℕ → Operands → Type 0
OperandsWithin length at (Some (t, w, n, next)) = TimerBounded length at t w n next
OperandsWithin length at None = Unit {0}

-- ---- the header: what breaks it is refusal 11, with its place

-- the counts of inputs and of names and the place behind, of the two counts or of the whole header; or the place that breaks it
abbrev pub Headed : Type 0
Headed = Result (ℕ × ℕ × ℕ) ℕ

abbrev pub counted_answer : Headed → Answer Counts
counted_answer (Ok (inputs, names, place)) = accepted (record { inputs = inputs; names = names; place = place })
counted_answer (Err place) = refused broken_image place

-- The inputs are among the names, of which there are at most 64; a place is inside bytes of this length, or at their end.
pub record Extends (length inputs names place : ℕ) : Type 0 where
  pub inputs_named : inputs ≤ names
  pub few : names ≤ name_limit
  pub inside : place ≤ length

abbrev pub CountedWithin : ℕ → Headed → Type 0
CountedWithin length (Ok (inputs, names, place)) = Extends length inputs names place
CountedWithin length (Err place) = place ≤ length

-- a range that fits, and the place behind it
abbrev pub RangedBy : List ℕ → ℕ → Result (ℤ × ℤ × ℤ × ℕ) ℕ → Type 0
RangedBy image at (Ok (low, high, start, next)) =
    (check_range image at ≡ accepted (record { range = record { low = low; high = high; start = start }; next = next })) × (next ≤ length image)
RangedBy image at (Err place) = (check_range image at ≡ refused broken_image place) × (place ≤ length image)

-- A header that was read from bytes of this length: its counts, the place where the code begins, and its ranges, which are stored at the front
-- of the memory lent for lows, highs and starts, as far as there is room.
pub record HeaderStands (a : Answer Header) (n : ℕ) (low₀ high₀ start₀ low high start : List ℤ) (inputs names place : ℕ) : Type 0 where
  pub ranges : List Range
  pub read : a ≡ accepted (record { inputs = inputs; ranges = ranges; place = place })
  pub many : length ranges ≡ names
  pub extends : Extends n inputs names place
  pub lower : low ≡ sets low₀ 0 (lows ranges)
  pub upper : high ≡ sets high₀ 0 (highs ranges)
  pub starting : start ≡ sets start₀ 0 (starts ranges)

abbrev pub HeadedAs : Answer Header → ℕ → List ℤ → List ℤ → List ℤ → List ℤ → List ℤ → List ℤ → Headed → Type 0
HeadedAs a n low₀ high₀ start₀ low high start (Ok (inputs, names, place)) = HeaderStands a n low₀ high₀ start₀ low high start inputs names place
HeadedAs a n low₀ high₀ start₀ low high start (Err place) = (a ≡ refused broken_image place) × (place ≤ n)

pub record HeadedBy (a : Answer Header) (n : ℕ) (low₀ high₀ start₀ low high start : List ℤ) (r : Headed) : Type 0 where
  pub so : HeadedAs a n low₀ high₀ start₀ low high start r
