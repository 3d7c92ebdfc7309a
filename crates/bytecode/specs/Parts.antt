-- The parts of an image, on its bytes alone. Document 01, "The image" and "The plain scan and the list of rows"; document 02, A.7. Assumes nothing.
use Rattle.std.specs.Prelude.{ℕ, zero, suc, ◌+◌, List, [], map, ℤ, length, set, drop, replicate}
use Rattle.limits.specs.Answer.{Answer, accepted, refused}
use Rattle.semantics.specs.Program.{Range}
use Rattle.semantics.specs.Shape.{Shape}
use Rattle.leb128.specs.Numbers.{Read, got, nothing}
use Rattle.bytecode.specs.Instructions.{Instruction, fetch}
use Rattle.bytecode.specs.Signature.{Role, pushes, computes, tests, opens, picks, lets, settles, times, signature}
use Rattle.bytecode.specs.Check.{Header, check_header}

-- ---- the header

abbrev pub no_header : Header
no_header = record { inputs = 0; ranges = []; place = 0 }

abbrev pub or_none : Answer Header → Header
or_none (accepted h) = h
or_none (refused number place) = no_header

-- the header of an image; of bytes without one, no names
unfoldable pub header_of : List ℕ → Header
header_of bytes = or_none (check_header bytes)

abbrev pub lows : List Range → List ℤ
lows ns = map (λ n. n.low) ns

abbrev pub highs : List Range → List ℤ
highs ns = map (λ n. n.high) ns

abbrev pub starts : List Range → List ℤ
starts ns = map (λ n. n.start) ns

-- ---- the code

-- The code is the rest of the image after the header.
unfoldable pub code_of : List ℕ → List ℕ
code_of bytes = drop (header_of bytes).place bytes

abbrev pub counted : Read Instruction → (ℕ → ℕ) → ℕ
counted nothing k = 0
counted (got i next) k = k next + 1

-- the instructions of a code from a place on, at most f
abbrev pub count_from : List ℕ → ℕ → ℕ → ℕ
count_from code zero at = 0
count_from code (suc f) at = counted (fetch code at) λ next. count_from code f next

-- as many as the instructions in the code, those that a gate passes over included
unfoldable pub instructions_in : List ℕ → ℕ
instructions_in bytes = count_from (code_of bytes) (length (code_of bytes)) 0

-- ---- timers

-- a 23 gives its timer the limit N
abbrev pub limit_in : Role → List ℕ → List ℕ
limit_in (pushes fits) ls = ls
limit_in computes ls = ls
limit_in tests ls = ls
limit_in opens ls = ls
limit_in (picks side v) ls = ls
limit_in (lets v) ls = ls
limit_in (settles v) ls = ls
limit_in (times t w n) ls = set ls t n

abbrev pub limited : Read Instruction → List ℕ → (ℕ → List ℕ → List ℕ) → List ℕ
limited nothing ls k = ls
limited (got i next) ls k = k next (limit_in (signature i).role ls)

-- the limits that at most f instructions of a code give, from a place on
abbrev pub limits_from : List ℕ → ℕ → ℕ → List ℕ → List ℕ
limits_from code zero at ls = ls
limits_from code (suc f) at ls = limited (fetch code at) ls λ next ls₁. limits_from code f next ls₁

-- of each name the limit of its timer, 0 if it is none
unfoldable pub limits_of : List ℕ → List ℕ
limits_of bytes = limits_from (code_of bytes) (length (code_of bytes)) 0 (replicate (length (header_of bytes).ranges) 0)

-- what the states and rows of an image are held to
abbrev pub shape_in : List ℕ → Shape
shape_in bytes = record { inputs = (header_of bytes).inputs; ranges = (header_of bytes).ranges; limits = limits_of bytes }
