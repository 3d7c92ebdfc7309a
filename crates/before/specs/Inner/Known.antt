-- The tests before the code as the running code works them: auxiliary definitions for proofs. Assumes nothing.
use Rattle.std.specs.Prelude.{ℕ, ◌^◌, ◌≤◌, ◌<◌, ◌≡◌, List, eqb, ℤ, length, take, Result, Ok, Err}
use Rattle.limits.specs.Limits.{image_limit, state_limit, time_limit, wrong_length, state_out_of_range, input_out_of_range}
use Rattle.limits.specs.Answer.{Answer, accepted, refused}
use Rattle.limits.specs.Refusals.{refusal_number, refusal_place}
use Rattle.limits.specs.declared.Refusal.{Refusal}
use Rattle.arith.specs.Inner.Flags.{flags_of}
use Rattle.semantics.specs.Program.{Range}
use Rattle.semantics.specs.Formula.{State}
use Rattle.semantics.specs.Shape.{Shape, name_count, timers_of, cells, state_length, all_within, state_in_range, row_length, row_in_range, setting_of}
use Rattle.semantics.specs.ReferenceScan.{with_inputs}
use Rattle.bytecode.specs.Parts.{header_of, shape_in, lows, highs}
use Rattle.bytecode.specs.Check.{check_of}
use Rattle.shapes.specs.declared.Measured.{Measured}
use Rattle.shapes.specs.Results.{Measures}
use Rattle.machine.specs.declared.Timing.{Timing}
use Rattle.machine.specs.Inner.Memory.{RangesIn, TimingIn}
use Rattle.before.specs.declared.Code.{Code}
use Rattle.before.specs.Before.{tested_before}

-- 18, then 13 of the inputs
abbrev pub in_ranges : List Range → State → List ℤ → Answer (Unit {0})
in_ranges ns s inputs = tested_before (all_within ns s) state_out_of_range (tested_before (all_within ns inputs) input_out_of_range (accepted tt))

-- the copy holds the inputs, and the rest is handed on
abbrev pub CopiedBy : ℕ → Timing → State → List ℤ → List ℤ → Result Code Refusal → Type 0
CopiedBy at k s inputs work (Ok c) = (c.place ≡ at) × (c.timing ≡ k) × (work ≡ with_inputs s inputs)
CopiedBy at k s inputs work (Err e) = refusal_place e ≡ 0

-- ---- an image known to be sound

-- what is known of its shape: the measures, low and high of each number of a state
pub record KnownShape (k : Shape) (m : Measured) (low high : List ℤ) : Type 0 where
  pub inputs_are : k.inputs ≡ m.inputs
  pub names_are : name_count k ≡ m.names
  pub among : m.inputs ≤ m.names
  pub flags : timers_of k ≡ flags_of m.names m.timers
  pub ranges : RangesIn (cells k) low high

-- 12 of the row, 18, 13
abbrev pub tested_row : Shape → State → List ℤ → Answer (Unit {0})
tested_row k s row =
    tested_before (eqb (length row) (row_length k)) wrong_length
    (tested_before (state_in_range k s) state_out_of_range
    (tested_before (row_in_range k row) input_out_of_range
    (accepted tt)))

-- what the code's run needs: the copy and the timing
pub record Prepared (k : Shape) (m : Measured) (s : State) (row work : List ℤ) (timing : Timing) : Type 0 where
  pub names_are : timing.names ≡ m.names
  pub timers_are : timing.timers ≡ m.timers
  pub short : timing.millis ≤ time_limit
  pub timed : TimingIn (setting_of k row) timing
  pub copied : work ≡ with_inputs s (take k.inputs row)

abbrev pub PreparedBy : Shape → Measured → State → List ℤ → List ℤ → Result Code Refusal → Type 0
PreparedBy k m s row work (Ok c) = (c.place ≡ m.place) × Prepared k m s row work c.timing
PreparedBy k m s row work (Err e) = refusal_place e ≡ 0

-- ---- a state of the image's length

-- 9 and 11, then 12 of a state of so many numbers
abbrev pub tested_length : Answer (Unit {0}) → Shape → ℕ → Answer (Unit {0})
tested_length (refused number place) k n = refused number place
tested_length (accepted u) k n = tested_before (eqb n (state_length k)) wrong_length (accepted tt)

-- what was measured of an image whose states have so many numbers
abbrev pub ShapedFor : List ℕ → ℕ → List ℤ → List ℤ → List ℤ → List ℤ → Result Measured Refusal → Type 0
ShapedFor image n low₀ high₀ low high (Ok m) = Measures image low₀ high₀ low high m × (n ≡ m.size)
ShapedFor image n low₀ high₀ low high (Err e) = (refused (refusal_number e) (refusal_place e) ≡ tested_length (check_of image) (shape_in image) n) × (refusal_place e ≤ image_limit)

-- an image known to be sound, what is known of its shape, and a state of its length
pub record KnownImage (image : List ℕ) (m : Measured) (state low high : List ℤ) : Type 0 where
  pub sound : check_of image ≡ accepted tt
  pub code : m.place ≡ (header_of image).place
  pub inside : m.place ≤ length image
  pub shape : KnownShape (shape_in image) m low high
  pub numbers : length state ≡ state_length (shape_in image)

-- the same at the front of lent memory, which has room for as many numbers as the state has
pub record KnownFront (image : List ℕ) (m : Measured) (state low high work : List ℤ) : Type 0 where
  pub known : KnownImage image m state (take m.size low) (take m.size high)
  pub lows : m.size ≤ length low
  pub highs : m.size ≤ length high
  pub copies : m.size ≤ length work

-- ---- any image

-- what a scan has before its code: the code's place, the ranges and the current values at the front of lent memory, the timing
pub record Begun (image : List ℕ) (s : State) (row : List ℤ) (low high work : List ℤ) (place : ℕ) (timing : Timing) : Type 0 where
  pub numbers : length s ≡ state_length (shape_in image)
  pub few : length s ≤ state_limit
  pub code : place ≡ (header_of image).place
  pub inside : place ≤ length image
  pub lowest : take (length s) low ≡ lows (cells (shape_in image))
  pub highest : take (length s) high ≡ highs (cells (shape_in image))
  pub copied : take (length s) work ≡ with_inputs s (take (shape_in image).inputs row)
  pub timed : TimingIn (setting_of (shape_in image) row) timing
  pub names : timing.names ≡ name_count (shape_in image)
  pub low_timers : timing.timers < 2 ^ timing.names
  pub short : timing.millis ≤ time_limit

-- of a refused one, how large its place is
abbrev pub BegunBy : List ℕ → State → List ℤ → List ℤ → List ℤ → List ℤ → Result Code Refusal → Type 0
BegunBy image s row low high work (Ok c) = Begun image s row low high work c.place c.timing
BegunBy image s row low high work (Err e) = refusal_place e ≤ image_limit
