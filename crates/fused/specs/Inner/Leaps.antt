-- Several instructions at once: as many steps of walk and machine, one after the other. Auxiliary definitions for proofs. Assumes nothing.
use Rattle.std.specs.Prelude.{◌≡◌, Bool, true, false, ◌⊎◌, List, ◌∷◌, ℕ, ◌+◌, ◌≤◌, ◌<◌, ℤ, length, get_or, Option, Some, None}
use Rattle.std.proofs.Math.Option.{some}
use Rattle.limits.specs.Limits.{stack_limit}
use Rattle.arith.specs.Values.{ok}
use Rattle.semantics.specs.Formula.{State}
use Rattle.semantics.specs.Shape.{Setting}
use Rattle.leb128.specs.Numbers.{got, unzigzag}
use Rattle.bytecode.specs.Instructions.{Instruction, constant, instruction_of, has_operand, fetch_one}
use Rattle.bytecode.specs.Check.{advance}
use Rattle.checker.specs.declared.advance.Walk.{Walk}
use Rattle.checker.specs.Inner.Walk.{known_of, pushed}
use Rattle.checker.specs.Inner.Stretches.{with_number, with_sort}
use Rattle.machine.specs.Step.{machine, push, perform, is_pick}
use Rattle.fused.specs.declared.Progress.{Progress}
use Rattle.fused.specs.declared.Moved.{Moved}
use Rattle.fused.specs.declared.Moved.TheVariants as M
use Rattle.fused.specs.declared.ahead.Leap.{Leap}
use Rattle.fused.specs.declared.ahead.Leap.TheVariants as L
use Rattle.fused.specs.Inner.Passes.{Ready, Strides, Moves, Refuses, BreaksAt}

-- ---- what stands ahead

-- An instruction, by its code byte, that has no operand and makes v, of a sort, of the two numbers held last; the walk lets it pass.
pub record MadeOf (w : Walk) (byte : ℕ) (a b v : ℤ) (sort : ℕ) : Type 0 where
  pub acting : Instruction
  pub listed : instruction_of byte 0 ≡ some acting
  pub alone : has_operand byte ≡ false
  pub sort_low : sort < 2
  pub moved : advance acting (known_of (with_number (with_number w))) ≡ some (known_of (with_sort w sort))
  pub worked : (ns : Setting) (s t : State) (c : Bool) (vs : List ℤ) → perform ns s acting c (b ∷ a ∷ vs) t ≡ ok (machine false c (v ∷ vs) t)

-- what two numbers make, and its sort; or nothing is seen
abbrev pub Seen : Type 0
Seen = Option (ℤ × ℕ)

abbrev pub FoundBy : Walk → ℕ → ℤ → ℤ → Seen → Type 0
FoundBy w byte a b (Some (v, sort)) = MadeOf w byte a b v sort
FoundBy w byte a b None = Unit {0}

-- An instruction that puts x on top, a constant, and one that makes v of the two; there is room for both values.
pub record PairSeen (code : List ℕ) (prev cur : List ℤ) (at : ℕ) (w : Walk) (v : ℤ) (sort : ℕ) : Type 0 where
  pub loading : Instruction
  pub x : ℤ
  pub first : fetch_one code at ≡ got loading (at + 2)
  pub second : fetch_one code (at + 2) ≡ got (constant (unzigzag (get_or code (at + 3) 0))) (at + 4)
  pub inside : at + 5 ≤ length code
  pub short : get_or code (at + 3) 0 < 128
  pub room : w.held + 2 ≤ stack_limit
  pub admitted : advance loading (known_of w) ≡ pushed (known_of w)
  pub loaded : (ns : Setting) (c : Bool) (vs : List ℤ) → length ns.ranges ≡ w.names → perform ns prev loading c vs cur ≡ push x c vs cur
  pub made : MadeOf w (get_or code (at + 4) 0) x (unzigzag (get_or code (at + 3) 0)) v sort

abbrev pub SeenBy : List ℕ → List ℤ → List ℤ → ℕ → Walk → Seen → Type 0
SeenBy code prev cur at w (Some (v, sort)) = PairSeen code prev cur at w v sort
SeenBy code prev cur at w None = Unit {0}

-- ---- what is passed over

-- the walk with so many values held
abbrev pub with_held : Walk → ℕ → Walk
with_held w held = record { held = held; sorts = w.sorts; gate = w.gate; picking = w.picking; known = w.known; names = w.names }

-- an instruction that is no pick, by which the walk moves
pub record Skips (code : List ℕ) (w : Walk) (at : ℕ) (k : Walk) (next : ℕ) : Type 0 where
  pub stride : Strides code w at k next
  pub no_pick : is_pick stride.instruction ≡ false
  pub same_gate : k.gate ≡ w.gate

-- how many values are held behind one, and the place behind it; or it is another
abbrev pub Skipped : Type 0
Skipped = Option (ℕ × ℕ)

abbrev pub SkippedBy : List ℕ → Walk → ℕ → ℕ → Skipped → Type 0
SkippedBy code w held at (Some (more, next)) = Skips code (with_held w held) at (with_held w more) next
SkippedBy code w held at None = Unit {0}

-- so many of them
pub data SkipsTo (code : List ℕ) (w : Walk) (at : ℕ) : ℕ → Walk → ℕ → Type 0 where
  stays : SkipsTo code w at 0 w at
  further : (n : ℕ) (k : Walk) (next : ℕ) (j : Walk) (later : ℕ) → SkipsTo code w at n k next → Skips code k next j later → SkipsTo code w at (n + 1) j later

-- ---- a settle

-- the progress behind it, or none stands there; what is held stays
abbrev pub SettledBy : List ℕ → List ℤ → Progress → List ℤ → List ℤ → Option Progress → Type 0
SettledBy code prev b cur cur₁ (Some k) = (low high vals : List ℤ) → Ready low high prev cur vals b → Moves code low high prev b vals cur vals cur₁ k
SettledBy code prev b cur cur₁ None = cur₁ ≡ cur

-- ---- what is done

-- so many instructions, from one progress and memory to another
pub data Goes (code : List ℕ) (low high prev : List ℤ) : ℕ → Progress → List ℤ → List ℤ → Progress → List ℤ → List ℤ → Type 0 where
  lastly : (b : Progress) (vals cur vals₁ cur₁ : List ℤ) (k : Progress) → Moves code low high prev b vals cur vals₁ cur₁ k → Goes code low high prev 1 b vals cur k vals₁ cur₁
  first : (n : ℕ) (b : Progress) (vals cur vals₁ cur₁ : List ℤ) (m : Progress) (vals₂ cur₂ : List ℤ) (k : Progress) → Moves code low high prev b vals cur vals₁ cur₁ m
      → length vals₁ ≡ length vals → length cur₁ ≡ length cur → Goes code low high prev n m vals₁ cur₁ k vals₂ cur₂ → Goes code low high prev (1 + n) b vals cur k vals₂ cur₂

abbrev pub leap_of : Moved → Leap
leap_of (M.On k) = L.On k 1
leap_of (M.Refused k number) = L.Refused k number
leap_of M.Broken = L.Broken

abbrev pub LeapsBy : List ℕ → List ℤ → List ℤ → List ℤ → Progress → List ℤ → List ℤ → List ℤ → List ℤ → Leap → Type 0
LeapsBy code low high prev b vals cur vals₁ cur₁ (L.On k n) = Goes code low high prev n b vals cur k vals₁ cur₁
LeapsBy code low high prev b vals cur vals₁ cur₁ (L.Refused k number) = Refuses code low high prev b vals cur k number
LeapsBy code low high prev b vals cur vals₁ cur₁ L.Broken = BreaksAt code b

-- what is held stays
abbrev pub LeapsOver : List ℕ → List ℤ → Progress → List ℤ → List ℤ → Leap → Type 0
LeapsOver code prev b cur cur₁ (L.On k n) = (low high vals : List ℤ) → Ready low high prev cur vals b → Goes code low high prev n b vals cur k vals cur₁
LeapsOver code prev b cur cur₁ (L.Refused k number) = ⊥
LeapsOver code prev b cur cur₁ L.Broken = BreaksAt code b

-- the same where instructions are passed over, else nothing
abbrev pub LeapsFirst : List ℕ → List ℤ → Progress → List ℤ → List ℤ → Leap → Type 0
LeapsFirst code prev b cur cur₁ (L.On k n) = ((b.passing ≡ false) × (k ≡ b) × (n ≡ 0) × (cur₁ ≡ cur)) ⊎ ((b.passing ≡ true) × LeapsOver code prev b cur cur₁ (L.On k n))
LeapsFirst code prev b cur cur₁ (L.Refused k number) = ⊥
LeapsFirst code prev b cur cur₁ L.Broken = BreaksAt code b
