-- Several instructions at once: as many steps of the walk, one after the other. Auxiliary definitions for proofs. Assumes nothing.
use Rattle.std.specs.Prelude.{ℕ, ◌+◌, ◌*◌, ◌≤◌, ◌≡◌, List, length, Option, Some, None}
use Rattle.std.proofs.Math.Option.{some}
use Rattle.leb128.specs.Numbers.{got}
use Rattle.bytecode.specs.Instructions.{Instruction, fetch_one}
use Rattle.bytecode.specs.Check.{Known, advance}
use Rattle.checker.specs.declared.advance.Walk.{Walk}
use Rattle.checker.specs.Inner.Walk.{known_of, Small}
use Rattle.checker.specs.Results.{BreaksUnlessTimed}

-- ---- a value more

-- a number more is held
abbrev pub with_number : Walk → Walk
with_number w = record { held = w.held + 1; sorts = w.sorts * 2; gate = w.gate; picking = w.picking; known = w.known; names = w.names }

-- a value more, of a sort
abbrev pub with_sort : Walk → ℕ → Walk
with_sort w sort = record { held = w.held + 1; sorts = w.sorts * 2 + sort; gate = w.gate; picking = w.picking; known = w.known; names = w.names }

-- ---- steps of the walk

-- the instruction at a place keeps soundness
pub record KeepsTo (code : List ℕ) (at : ℕ) (c : Known) (next : ℕ) (c₁ : Known) : Type 0 where
  pub instruction : Instruction
  pub fetched : fetch_one code at ≡ got instruction next
  pub advanced : advance instruction c ≡ some c₁

-- some instructions do, one after the other
pub data StepsTo (code : List ℕ) : ℕ → Known → ℕ → Known → Type 0 where
  last_step : (at : ℕ) (c : Known) (next : ℕ) (c₁ : Known) → KeepsTo code at c next c₁ → StepsTo code at c next c₁
  first_step : (at : ℕ) (c : Known) (next : ℕ) (c₁ : Known) (at₂ : ℕ) (c₂ : Known) → KeepsTo code at c next c₁ → StepsTo code next c₁ at₂ c₂ → StepsTo code at c at₂ c₂

pub record LeadsTo (code : List ℕ) (at : ℕ) (w : Walk) (next : ℕ) (k : Walk) : Type 0 where
  pub steps : StepsTo code at (known_of w) next (known_of k)
  pub inside : next ≤ length code
  pub small : Small k

-- the walk and the place behind instructions; or the first of them breaks soundness or is a timer
abbrev pub TakenBy : List ℕ → ℕ → Walk → Option (Walk × ℕ) → Type 0
TakenBy code at w (Some (k, next)) = LeadsTo code at w next k
TakenBy code at w None = BreaksUnlessTimed code at (known_of w)
