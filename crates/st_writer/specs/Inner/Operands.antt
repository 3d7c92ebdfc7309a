-- Operands, their mirrored code and their print. Assumes nothing.
use Rattle.std.specs.Prelude.{ℕ, ◌^◌, ◌<◌, ◌≡◌, Bool, true, cond, List, [], ◌∷◌, ◌++◌, eqb, ℤ, length, drop}
use Rattle.semantics.specs.Program.{Expression, Condition}
use Rattle.semantics.specs.Program as P
use Rattle.lexer.specs.Bytes.{bytes}
use Rattle.leb128.specs.Numbers.{number, zigzag, unzigzag}
use Rattle.bytecode.specs.Instructions.{operation_code, comparison_code}
use Rattle.st.specs.Syntax.{Identifier, or, and, Operator, connects, relates, computes, StExpression, variable, negative, complement, binary}
use Rattle.st.specs.Meaning.{previous_name}
use Rattle.st.specs.Printed.{expression_printed}
use Rattle.st_program.specs.Written.{name_at, expression_in_st}
use Rattle.st_writer.specs.Inner.Fronts.{Fronts}

-- an expression or a condition: as the code of both is read alike
pub data Operand : Type 0 where
  constant : ℤ → Operand
  current : ℕ → Operand
  previous : ℕ → Operand
  minus_of : Operand → Operand
  not_of : Operand → Operand
  joined_by : Operator → Operand → Operand → Operand

abbrev pub operand_of : Expression → Operand
operand_of (P.constant z) = constant z
operand_of (P.current i) = current i
operand_of (P.previous i) = previous i
operand_of (P.operation o a b) = joined_by (computes o) (operand_of a) (operand_of b)
operand_of (P.negate a) = minus_of (operand_of a)

abbrev pub operand_of_c : Condition → Operand
operand_of_c (P.comparison o a b) = joined_by (relates o) (operand_of a) (operand_of b)
operand_of_c (P.negated c) = not_of (operand_of_c c)
operand_of_c (P.both a b) = joined_by (connects and) (operand_of_c a) (operand_of_c b)
operand_of_c (P.either a b) = joined_by (connects or) (operand_of_c a) (operand_of_c b)

abbrev pub operator_code : Operator → ℕ
operator_code (connects and) = 17
operator_code (connects or) = 18
operator_code (relates o) = comparison_code o
operator_code (computes o) = operation_code o

-- its code in reverse order, then c
unfoldable pub operand_code : Operand → List ℕ → List ℕ
operand_code (constant z) c = 1 ∷ (number (zigzag z) ++ c)
operand_code (current i) c = 2 ∷ (number i ++ c)
operand_code (previous i) c = 3 ∷ (number i ++ c)
operand_code (minus_of a) c = 9 ∷ operand_code a c
operand_code (not_of a) c = 16 ∷ operand_code a c
operand_code (joined_by o a b) c = operator_code o ∷ operand_code b (operand_code a c)

-- its numbers are numbers of an image
abbrev pub SmallOperand : Operand → Type 0
SmallOperand (constant z) = zigzag z < 2 ^ 32
SmallOperand (current i) = i < 2 ^ 32
SmallOperand (previous i) = i < 2 ^ 32
SmallOperand (minus_of a) = SmallOperand a
SmallOperand (not_of a) = SmallOperand a
SmallOperand (joined_by o a b) = SmallOperand a × SmallOperand b

unfoldable pub operand_in_st : List Identifier → Operand → StExpression
operand_in_st names (constant z) = expression_in_st names (P.constant z)
operand_in_st names (current i) = variable (name_at names i)
operand_in_st names (previous i) = variable (previous_name (name_at names i))
operand_in_st names (minus_of a) = negative (operand_in_st names a)
operand_in_st names (not_of a) = complement (operand_in_st names a)
operand_in_st names (joined_by o a b) = binary o (operand_in_st names a) (operand_in_st names b)

-- the print of a number of an image
abbrev pub constant_printed : ℕ → List ℕ → List ℕ
constant_printed n l = expression_printed (expression_in_st [] (P.constant (unzigzag n))) l

-- the print of an instruction without operands, by its code byte and its number
unfoldable pub leaf_printed : List Identifier → ℕ → ℕ → List ℕ → List ℕ
leaf_printed names code n l = cond (eqb code 1) (constant_printed n l) (cond (eqb code 2) (name_at names n ++ l) (95 ∷ (name_at names n ++ l)))

-- the operations of one operand, and what stands before it
unfoldable pub is_prefix : ℕ → Bool
is_prefix code = cond (eqb code 9) true (eqb code 16)

unfoldable pub prefix_bytes : ℕ → List ℕ
prefix_bytes code = cond (eqb code 9) (bytes "(-") (bytes "(NOT ")

-- the number at a place was read as that of such an instruction, which was printed
pub record PrintsLeaf (names : List Identifier) (code : List ℕ) (op at : ℕ) (before after : List ℕ) (to next first : ℕ) : Type 0 where
  pub same : length after ≡ length before
  pub found : (n : ℕ) (c : List ℕ) → n < 2 ^ 32 → drop at code ≡ number n ++ c → (drop next code ≡ c) × Fronts (leaf_printed names op n) before after to first

-- the operand that stands at a place of the code was printed so
pub record PrintsOperand (names : List Identifier) (code : List ℕ) (at : ℕ) (before after : List ℕ) (to next first : ℕ) : Type 0 where
  pub same : length after ≡ length before
  pub found : (t : Operand) (c : List ℕ) → SmallOperand t → drop at code ≡ operand_code t c → (drop next code ≡ c) × Fronts (expression_printed (operand_in_st names t)) before after to first
