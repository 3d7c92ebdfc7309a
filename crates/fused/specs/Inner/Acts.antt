-- Instructions that put a value on top or work on those on top, and a gate on a no. Auxiliary definitions for proofs. Assumes nothing.
use Rattle.std.specs.Prelude.{◌≡◌, Bool, true, false, ◌⊎◌, List, ℕ, ◌+◌, ◌%◌, ◌≤◌, ℤ, pos, length, get_or, Option, Some, None}
use Rattle.semantics.specs.Formula.{State}
use Rattle.semantics.specs.Shape.{Setting}
use Rattle.leb128.specs.Numbers.{got}
use Rattle.bytecode.specs.Instructions.{Instruction, fetch_one}
use Rattle.bytecode.specs.Signature.{truth}
use Rattle.bytecode.specs.Check.{advance}
use Rattle.checker.specs.declared.advance.Walk.{Walk}
use Rattle.checker.specs.Inner.Walk.{known_of, open_of, sort_of, pushed, joined, outside, Small}
use Rattle.machine.specs.Step.{yes, push, perform}
use Rattle.machine.specs.Inner.Groups.{truth_of, related}
use Rattle.fused.specs.declared.Progress.{Progress}
use Rattle.fused.specs.Inner.Passes.{Ready}
use Rattle.fused.specs.Inner.Leaps.{Goes}

-- the progress behind instructions that are done, and how many they are; or it is another
abbrev pub Acted : Type 0
Acted = Option (Progress × ℕ)

-- one instruction, with the walk and the place behind it
abbrev pub done_of : Progress → Walk → ℕ → Acted
done_of b k next = Some (record { walk = k; at = next; picked = b.picked; passing = false }, 1)

-- so many are done, and the current values stay; or none is, and what is held stays too
abbrev pub ActedBy : List ℕ → List ℤ → List ℤ → List ℤ → Progress → List ℤ → List ℤ → List ℤ → Acted → Type 0
ActedBy code low high prev b vals cur vals₁ (Some (k, n)) = (k.passing ≡ false) × Goes code low high prev n b vals cur k vals₁ cur
ActedBy code low high prev b vals cur vals₁ None = vals₁ ≡ vals

-- one is done, or none
abbrev pub ActedOnce : List ℕ → List ℤ → List ℤ → List ℤ → Progress → List ℤ → List ℤ → List ℤ → Acted → Type 0
ActedOnce code low high prev b vals cur vals₁ (Some (k, n)) = (n ≡ 1) × (k.passing ≡ false) × Goes code low high prev 1 b vals cur k vals₁ cur
ActedOnce code low high prev b vals cur vals₁ None = vals₁ ≡ vals

-- the walk's numbers stay small
abbrev pub SmallOn : Acted → Type 0
SmallOn (Some (k, n)) = Small k.walk
SmallOn None = Unit {0}

-- this instruction is at hand, with this place behind it, and is not passed over
pub record AtHand (code : List ℕ) (low high prev cur vals : List ℤ) (b : Progress) (i : Instruction) (next : ℕ) : Type 0 where
  pub ready : Ready low high prev cur vals b
  pub acting : b.passing ≡ false
  pub inside : next ≤ length code
  pub fetched : fetch_one code b.at ≡ got i next

-- where this instruction is at hand
abbrev pub DoneBy : Instruction → ℕ → Progress → List ℤ → List ℤ → Acted → Type 0
DoneBy i next b vals vals₁ r = (code : List ℕ) (low high prev cur : List ℤ) → AtHand code low high prev cur vals b i next → ActedOnce code low high prev b vals cur vals₁ r

-- an instruction is at hand that puts v on top
pub record PutsAt (code : List ℕ) (low high prev cur vals : List ℤ) (b : Progress) (next : ℕ) (v : ℤ) : Type 0 where
  pub putting : Instruction
  pub at_hand : AtHand code low high prev cur vals b putting next
  pub admitted : advance putting (known_of b.walk) ≡ pushed (known_of b.walk)
  pub puts : (ns : Setting) (c : Bool) (vs : List ℤ) → length ns.ranges ≡ b.walk.names → perform ns prev putting c vs cur ≡ push v c vs cur

-- where one is
abbrev pub PutBy : ℕ → ℤ → Progress → List ℤ → List ℤ → Acted → Type 0
PutBy next v b vals vals₁ r = (code : List ℕ) (low high prev cur : List ℤ) → PutsAt code low high prev cur vals b next v → ActedOnce code low high prev b vals cur vals₁ r

-- the same, and what stands behind it may be done too
abbrev pub PutOnBy : List ℕ → ℕ → ℤ → Progress → List ℤ → List ℤ → Acted → Type 0
PutOnBy code next v b vals vals₁ r = (low high prev cur : List ℤ) → PutsAt code low high prev cur vals b next v → ActedBy code low high prev b vals cur vals₁ r

-- where one is at hand that puts the yes-no of a code in the place of two values of a sort
abbrev pub RelatedBy : ℕ → ℕ → ℕ → Progress → List ℤ → List ℤ → Acted → Type 0
RelatedBy code sort next b vals vals₁ r =
    (i : Instruction) → advance i (known_of b.walk) ≡ outside (open_of b.walk.gate) (joined (sort_of sort) truth (known_of b.walk))
    → ((ns : Setting) (s t : State) (c : Bool) (vs : List ℤ) → perform ns s i c vs t ≡ related (truth_of code) c vs t) → DoneBy i next b vals vals₁ r

-- whatever instruction is at hand
abbrev pub ActedHere : List ℕ → Progress → List ℤ → List ℤ → Acted → Type 0
ActedHere code b vals vals₁ r = (low high prev cur : List ℤ) → Ready low high prev cur vals b → b.passing ≡ false → ActedOnce code low high prev b vals cur vals₁ r

-- as many as stand here, or none
pub record StretchedBy (code : List ℕ) (low high prev : List ℤ) (b : Progress) (vals cur : List ℤ) (n : ℕ) (k : Progress) (vals₁ : List ℤ) : Type 0 where
  pub ready : Ready low high prev cur vals₁ k
  pub acting : k.passing ≡ false
  pub deep : length vals₁ ≡ length vals
  pub goes : ((n ≡ 0) × (k ≡ b) × (vals₁ ≡ vals)) ⊎ Goes code low high prev n b vals cur k vals₁ cur

-- a gate on a no is at hand
pub record Shut (code : List ℕ) (vals : List ℤ) (b : Progress) : Type 0 where
  pub is : get_or code b.at 0 ≡ 19
  pub none_open : b.walk.gate ≡ 0
  pub one : b.walk.held ≡ 1
  pub truth_held : b.walk.sorts % 2 ≡ 1
  pub no : yes (get_or vals 0 (pos 0)) ≡ false

-- behind it
abbrev pub shut_of : Progress → Progress
shut_of b =
    record {
      walk = record { held = 0; sorts = 0; gate = 1; picking = b.walk.picking; known = b.walk.known; names = b.walk.names };
      at = b.at + 1;
      picked = b.picked;
      passing = true;
    }
