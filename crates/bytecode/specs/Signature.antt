-- What each instruction takes of the values held, and its role in a rule: everything that soundness says of an instruction goes by
-- these. Document 01, "The image". Assumes nothing.
use Rattle.std.specs.Prelude.{ℕ, Bool, false, List, [], ◌∷◌, ltb, length, get_or, drop}
use Rattle.arith.specs.Values.{is_int32}
use Rattle.semantics.specs.Program.{Side}
use Rattle.bytecode.specs.Instructions.{Instruction, constant, current, previous, operation, negate, comparison, negated, both, either, gate, pick, assign, settle, timer}

-- operands of the right sort, numbers or yes-no
pub data Sort : Type 0 where
  number truth : Sort

pub data Role : Type 0 where
  -- codes 1 to 3: a number more is held, if the operand fits the ids whose current values may be used
  pushes : (List Bool → Bool) → Role
  -- codes 4 to 9: a number
  computes : Role
  -- codes 10 to 18: a yes-no
  tests : Role
  -- gate; pick, on a side, let and settle, of a variable
  opens : Role
  picks : Side → ℕ → Role
  lets settles : ℕ → Role
  -- 23, of t, w and N
  times : ℕ → ℕ → ℕ → Role

pub record Signature : Type 0 where
  pub takes : List Sort
  pub role : Role

-- the sorts of the operands, the last first
abbrev pub signature : Instruction → Signature
signature (constant z) = record { takes = []; role = pushes (λ ids. is_int32 z) }
signature (current i) = record { takes = []; role = pushes (λ ids. get_or ids i false) }
signature (previous i) = record { takes = []; role = pushes (λ ids. ltb i (length ids)) }
signature (operation o) = record { takes = number ∷ number ∷ []; role = computes }
signature negate = record { takes = number ∷ []; role = computes }
signature (comparison o) = record { takes = number ∷ number ∷ []; role = tests }
signature negated = record { takes = truth ∷ []; role = tests }
signature both = record { takes = truth ∷ truth ∷ []; role = tests }
signature either = record { takes = truth ∷ truth ∷ []; role = tests }
signature gate = record { takes = truth ∷ []; role = opens }
signature (pick side v) = record { takes = number ∷ []; role = picks side v }
signature (assign v) = record { takes = number ∷ []; role = lets v }
signature (settle v) = record { takes = []; role = settles v }
signature (timer t w n) = record { takes = []; role = times t w n }

-- the sort given, put on the values below the operands
abbrev pub giving : Role → List Sort → List Sort
giving (pushes fits) rest = number ∷ rest
giving computes rest = number ∷ rest
giving tests rest = truth ∷ rest
giving opens rest = rest
giving (picks side v) rest = rest
giving (lets v) rest = rest
giving (settles v) rest = rest
giving (times t w n) rest = rest

-- the sorts of the values held after an instruction, the last first
abbrev pub held_by : Instruction → List Sort → List Sort
held_by i vs = giving (signature i).role (drop (length (signature i).takes) vs)
