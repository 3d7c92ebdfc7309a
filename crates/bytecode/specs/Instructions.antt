-- Instructions and their bytes. Document 01, "The image"; document 02, A.6 and A.7. Assumes nothing.
use Rattle.std.specs.Prelude.{ℕ, ◌+◌, Bool, true, cond, ◌&&◌, List, [], ◌∷◌, ◌++◌, eqb, leb, ltb, ℤ, length, get_or}
use Rattle.std.proofs.Math.Option.{Option, none, some}
use Rattle.arith.specs.Values.{Operation, add, subtract, multiply, divide, modulo, Comparison, equal, not_equal, less, less_equal, greater, greater_equal}
use Rattle.semantics.specs.Program.{Side, changing, rising, falling}
use Rattle.leb128.specs.Numbers.{number, zigzag, unzigzag, Read, got, nothing, ◌then◌, number_at}

-- Instructions (decimal code byte): 1 constant (signed), 2 current id, 3 previous id, 4 + 5 − 6 × 7 / 8 mod 9 negate, 10 = 11 <>
-- 12 < 13 <= 14 > 15 >=, 16 not 17 and 18 or, 19 gate, 20 pick id, 21 let id, 22 settle id. Instructions 24 id and 25 id pick a rising and a
-- falling value (document 02, A.6). Instruction 23 carries timer id, w's id and N, unsigned (document 02, A.7).
pub data Instruction : Type 0 where
  constant : ℤ → Instruction
  current : ℕ → Instruction
  previous : ℕ → Instruction
  operation : Operation → Instruction
  negate : Instruction
  comparison : Comparison → Instruction
  negated : Instruction
  both : Instruction
  either : Instruction
  gate : Instruction
  pick : Side → ℕ → Instruction
  assign : ℕ → Instruction
  settle : ℕ → Instruction
  timer : ℕ → ℕ → ℕ → Instruction

-- ---- from instructions to bytes

abbrev pub operation_code : Operation → ℕ
operation_code add = 4
operation_code subtract = 5
operation_code multiply = 6
operation_code divide = 7
operation_code modulo = 8

abbrev pub comparison_code : Comparison → ℕ
comparison_code equal = 10
comparison_code not_equal = 11
comparison_code less = 12
comparison_code less_equal = 13
comparison_code greater = 14
comparison_code greater_equal = 15

abbrev pub pick_code : Side → ℕ
pick_code changing = 20
pick_code rising = 24
pick_code falling = 25

abbrev pub encode : Instruction → List ℕ
encode (constant z) = 1 ∷ number (zigzag z)
encode (current i) = 2 ∷ number i
encode (previous i) = 3 ∷ number i
encode (operation o) = operation_code o ∷ []
encode negate = 9 ∷ []
encode (comparison o) = comparison_code o ∷ []
encode negated = 16 ∷ []
encode both = 17 ∷ []
encode either = 18 ∷ []
encode gate = 19 ∷ []
encode (pick side i) = pick_code side ∷ number i
encode (assign i) = 21 ∷ number i
encode (settle i) = 22 ∷ number i
encode (timer t w n) = 23 ∷ number t ++ (number w ++ number n)

abbrev pub encode_all : List Instruction → List ℕ
encode_all [] = []
encode_all (i ∷ is) = encode i ++ encode_all is

-- ---- from bytes to instructions

abbrev pub operation_of : ℕ → Operation
operation_of code = cond (eqb code 4) add (cond (eqb code 5) subtract (cond (eqb code 6) multiply (cond (eqb code 7) divide modulo)))

abbrev pub comparison_of : ℕ → Comparison
comparison_of code =
    cond (eqb code 10) equal (cond (eqb code 11) not_equal (cond (eqb code 12) less (cond (eqb code 13) less_equal (cond (eqb code 14) greater greater_equal))))

-- the instruction of a code byte and its operand
unfoldable pub instruction_of : ℕ → ℕ → Option Instruction
instruction_of code n =
    cond (eqb code 1) (some (constant (unzigzag n)))
    (cond (eqb code 2) (some (current n))
    (cond (eqb code 3) (some (previous n))
    (cond (leb 4 code && leb code 8) (some (operation (operation_of code)))
    (cond (eqb code 9) (some negate)
    (cond (leb 10 code && leb code 15) (some (comparison (comparison_of code)))
    (cond (eqb code 16) (some negated)
    (cond (eqb code 17) (some both)
    (cond (eqb code 18) (some either)
    (cond (eqb code 19) (some gate)
    (cond (eqb code 20) (some (pick changing n))
    (cond (eqb code 21) (some (assign n))
    (cond (eqb code 22) (some (settle n))
    (cond (eqb code 24) (some (pick rising n))
    (cond (eqb code 25) (some (pick falling n)) none))))))))))))))

-- whether an operand follows the code byte: codes 1 to 3, 20 to 22, 24 and 25
unfoldable pub has_operand : ℕ → Bool
has_operand code = cond (leb 1 code && leb code 3) true (cond (leb 20 code && leb code 22) true (leb 24 code && leb code 25))

abbrev pub decoded : Option Instruction → ℕ → Read Instruction
decoded none next = nothing
decoded (some i) next = got i next

abbrev pub fetch_code : List ℕ → ℕ → ℕ → Read Instruction
fetch_code bytes code at = cond (has_operand code) (number_at bytes at then λ n next. decoded (instruction_of code n) next) (decoded (instruction_of code 0) at)

-- an instruction of one operand at most
unfoldable pub fetch_one : List ℕ → ℕ → Read Instruction
fetch_one bytes at = cond (ltb at (length bytes)) (fetch_code bytes (get_or bytes at 0) (at + 1)) nothing

-- the three operands of 23
unfoldable pub timer_at : List ℕ → ℕ → Read Instruction
timer_at bytes at = number_at bytes at then λ t at₁. number_at bytes at₁ then λ w at₂. number_at bytes at₂ then λ n at₃. got (timer t w n) at₃

-- the instruction at a place, and the place behind it: every definition reads code through it
unfoldable pub fetch : List ℕ → ℕ → Read Instruction
fetch bytes at = cond (eqb (get_or bytes at 0) 23) (timer_at bytes (at + 1)) (fetch_one bytes at)
