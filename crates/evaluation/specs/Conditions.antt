-- The code of one condition, and what the answer of its evaluation stands for. Document 02, A.13. Assumes nothing.
use Rattle.std.specs.Prelude.{ℕ, ◌^◌, ◌≤◌, ◌<◌, ◌≡◌, Bool, List, Option, Some, None}
use Rattle.limits.specs.Limits.{stack_limit}
use Rattle.arith.specs.Values.{Outcome, ok, refusal}
use Rattle.semantics.specs.Program.{Condition, UsableC, free}
use Rattle.bytecode.specs.Instructions.{encode_all}
use Rattle.bytecode.specs.Translation.{code_c, depth_c}

-- the bytes are the code of the condition, over so many names
pub record ConditionCode (c : Condition) (names : ℕ) (code : List ℕ) : Type 0 where
  pub spelled : code ≡ encode_all (code_c c)
  pub usable : UsableC (free names) c
  pub shallow : depth_c c ≤ stack_limit
  pub few : names < 2 ^ 32

-- `None` is a refusal: a condition's only one is 14.
abbrev pub Tells : Option Bool → Outcome Bool → Type 0
Tells (Some b) o = o ≡ ok b
Tells None o = (k : ℕ) × (o ≡ refusal k)
