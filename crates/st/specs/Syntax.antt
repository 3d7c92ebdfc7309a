-- Structured Text, the text language of IEC 61131-3, cut down to the statements that document 02, A.4, shows. Assumes nothing.
use Rattle.std.specs.Prelude.{ℕ, List, ℤ}
use Rattle.arith.specs.Values.{Operation, Comparison}

-- as spelled
abbrev pub Identifier : Type 0
Identifier = List ℕ

pub data Logical : Type 0 where
  or and : Logical

-- the operations of two operands: of truth values, comparisons and arithmetic of numbers
pub data Operator : Type 0 where
  connects : Logical → Operator
  relates : Comparison → Operator
  computes : Operation → Operator

pub data StExpression : Type 0 where
  number : ℕ → StExpression
  variable : Identifier → StExpression
  negative : StExpression → StExpression
  complement : StExpression → StExpression
  binary : Operator → StExpression → StExpression → StExpression

-- `v := e;`
pub record Assignment : Type 0 where
  pub target : Identifier
  pub value : StExpression

-- `IF c THEN v := e;` or `ELSIF c THEN v := e;`
pub record Branch : Type 0 where
  pub condition : StExpression
  pub body : Assignment

pub data Statement : Type 0 where
  assign : Assignment → Statement
  choose : List Branch → Statement

-- `v : DINT := 0;`
pub record Declaration : Type 0 where
  pub name : Identifier
  pub start : ℤ

-- the sections VAR_INPUT and VAR, then the statements
pub record StProgram : Type 0 where
  pub inputs : List Declaration
  pub variables : List Declaration
  pub body : List Statement
