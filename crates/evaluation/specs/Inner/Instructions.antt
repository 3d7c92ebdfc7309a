-- The instructions of a condition: auxiliary definitions for proofs. Assumes nothing.
use Rattle.std.proofs.Math.Option.{Option, none, some}
use Rattle.bytecode.specs.Instructions.{Instruction}
use Rattle.bytecode.specs.Signature.{Role, pushes, computes, tests, opens, picks, lets, settles, times, signature}

-- codes 1 to 18
abbrev pub CalculatesIn : Role → Type 0
CalculatesIn (pushes fits) = Unit {0}
CalculatesIn computes = Unit {0}
CalculatesIn tests = Unit {0}
CalculatesIn opens = ⊥
CalculatesIn (picks side v) = ⊥
CalculatesIn (lets v) = ⊥
CalculatesIn (settles v) = ⊥
CalculatesIn (times t w n) = ⊥

abbrev pub Calculates : Instruction → Type 0
Calculates i = CalculatesIn (signature i).role

-- no instruction, or one of these
abbrev pub CalculatesOr : Option Instruction → Type 0
CalculatesOr none = Unit {0}
CalculatesOr (some i) = Calculates i
