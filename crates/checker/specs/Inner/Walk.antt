-- The walk's numbers, and what they stand for in the definition of soundness: auxiliary definitions for proofs. Assumes nothing.
use Rattle.std.specs.Prelude.{ℕ, zero, suc, ◌-◌, ◌/◌, ◌%◌, ◌^◌, ◌≤◌, ◌<◌, Bool, true, false, List, [], ◌∷◌}
use Rattle.std.specs.Prelude as O
use Rattle.std.specs.Prelude.{Some, None}
use Rattle.std.proofs.Math.Option.{Option, none, some}
use Rattle.limits.specs.Limits.{stack_limit, name_limit}
use Rattle.arith.specs.Inner.Flags.{flags_of}
use Rattle.semantics.specs.Program.{Side, changing, rising, falling}
use Rattle.bytecode.specs.Instructions.{Instruction}
use Rattle.bytecode.specs.Signature.{Sort, number, truth, pushes}
use Rattle.bytecode.specs.Check.{Picks, Known, known, one, admits, advance}
use Rattle.checker.specs.declared.advance.Walk.{Walk}

-- ---- what the numbers stand for

-- a bit of `sorts`: 0 is a number, 1 a yes-no
abbrev pub sort_of : ℕ → Sort
sort_of zero = number
sort_of (suc n) = truth

-- the sorts of so many values, the lowest bit that of the last held
unfoldable pub sorts_of : ℕ → ℕ → List Sort
sorts_of zero bits = []
sorts_of (suc n) bits = sort_of (bits % 2) ∷ sorts_of n (bits / 2)

-- `gate` is 1 if a gate awaits its pick, else 0
abbrev pub open_of : ℕ → Bool
open_of zero = false
open_of (suc n) = true

-- sides by number
abbrev pub side_of : ℕ → Side
side_of zero = changing
side_of (suc zero) = rising
side_of (suc (suc n)) = falling

-- `picking` is 0, or 1 plus three times the id whose picks await their settle plus the side of the last
abbrev pub picks_of : ℕ → Option Picks
picks_of zero = none
picks_of (suc n) = some (record { side = side_of (n % 3); id = n / 3 })

-- `known` tells of each id whether its current value may be used, the lowest bit that of id 0
abbrev pub known_of : Walk → Known
known_of w = known (sorts_of w.held w.sorts) (open_of w.gate) (picks_of w.picking) (flags_of w.names w.known)

-- what an instruction leads to: the walk behind it, or nothing where it breaks soundness
abbrev pub Advanced : Type 0
Advanced = O.Option Walk

abbrev pub advanced_known : Advanced → Option Known
advanced_known (Some w) = some (known_of w)
advanced_known None = none

-- before the first instruction: nothing held, no gate, no picks; the inputs known
abbrev pub initial_walk : ℕ → ℕ → Walk
initial_walk inputs names = record { held = 0; sorts = 0; gate = 0; picking = 0; known = 2 ^ inputs - 1; names = names }

-- ---- what holds of the numbers

pub record Small (w : Walk) : Type 0 where
  pub few_held : w.held ≤ stack_limit
  pub sorts_low : w.sorts < 2 ^ w.held
  pub few_names : w.names ≤ name_limit
  pub known_low : w.known < 2 ^ w.names

abbrev pub SmallAfter : Advanced → Type 0
SmallAfter (Some w) = Small w
SmallAfter None = Unit {0}

-- ---- the parts of `advance`

-- a code byte that is not listed breaks soundness
abbrev pub advance_by : Option Instruction → Known → Option Known
advance_by none c = none
advance_by (some i) c = advance i c

-- a number more is held
unfoldable pub pushed : Known → Option Known
pushed (known vs g o ids) = admits (pushes λ flags. true) vs g o ids

-- an operand of a sort is on top; it is replaced by one of the same sort
unfoldable pub kept : Sort → Known → Option Known
kept s (known vs g o ids) = one s vs λ vs₁. some (known (s ∷ vs₁) g o ids)

-- two operands of a sort are replaced by a result of another
unfoldable pub joined : Sort → Sort → Known → Option Known
joined s t (known vs g o ids) = one s vs λ vs₁. one s vs₁ λ vs₂. some (known (t ∷ vs₂) g o ids)

-- just one value is held, of a sort
abbrev pub only : Sort → List Sort → Bool
only number [] = false
only number (number ∷ []) = true
only number (number ∷ x ∷ vs) = false
only number (truth ∷ vs) = false
only truth [] = false
only truth (number ∷ vs) = false
only truth (truth ∷ []) = true
only truth (truth ∷ x ∷ vs) = false

-- not between a gate and its pick
abbrev pub outside : Bool → Option Known → Option Known
outside true r = none
outside false r = r
