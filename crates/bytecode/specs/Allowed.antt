-- Soundness place by place: what must hold at an instruction, of what those before it leave. Document 01, "The image" (Sound). Assumes
-- nothing.
use Rattle.std.specs.Prelude.{◌<◌, ◌≡◌, Bool, true, false, List, [], ◌∷◌, ◌++◌, T, length, drop}
use Rattle.std.proofs.Math.Option.{Option, none, some}
use Rattle.limits.specs.Limits.{stack_limit}
use Rattle.semantics.specs.Program.{all_true}
use Rattle.bytecode.specs.Instructions.{Instruction}
use Rattle.bytecode.specs.Signature.{Sort, Role, pushes, computes, tests, opens, picks, lets, settles, times, signature, giving}
use Rattle.bytecode.specs.Check.{Picks, Known, known, unset, fresh, opened}
use Rattle.bytecode.specs.Sound.{ids_in}

-- ---- what instructions leave

-- whether a gate awaits its pick
abbrev pub gate_by : Role → Bool → Bool
gate_by (pushes fits) g = g
gate_by computes g = g
gate_by tests g = g
gate_by opens g = true
gate_by (picks side v) g = false
gate_by (lets v) g = g
gate_by (settles v) g = g
gate_by (times t w n) g = g

-- the picks that await their settle
abbrev pub picks_by : Role → Option Picks → Option Picks
picks_by (pushes fits) o = o
picks_by computes o = o
picks_by tests o = o
picks_by opens o = o
picks_by (picks side v) o = some (record { side = side; id = v })
picks_by (lets v) o = o
picks_by (settles v) o = none
picks_by (times t w n) o = o

-- all that is known after an instruction of a role, of the values below its operands
abbrev pub left_in : Role → List Sort → Bool → Option Picks → List Bool → Known
left_in r rest g o ids = known (giving r rest) (gate_by r g) (picks_by r o) (ids_in r ids)

abbrev pub left_by : Instruction → Known → Known
left_by i (known vs g o ids) = left_in (signature i).role (drop (length (signature i).takes) vs) g o ids

abbrev pub left_by_all : List Instruction → Known → Known
left_by_all [] c = c
left_by_all (i ∷ is) c = left_by_all is (left_by i c)

-- ---- what must hold at an instruction, and at the end

abbrev pub AllowedIn : Role → List Sort → Bool → Option Picks → List Bool → Type 0
-- constants in signed 32-bit range, ids of names declared, current values by the rule above; never over 40 values held
AllowedIn (pushes fits) rest g o ids = T (fits ids) × (length rest < stack_limit)
AllowedIn computes rest g o ids = Unit {0}
-- between a gate and its pick only codes 1 to 9
AllowedIn tests rest g o ids = g ≡ false
-- gate finds just one yes-no; each gate has its pick
AllowedIn opens rest g o ids = (g ≡ false) × (rest ≡ [])
-- pick just one number; each pick its gate; no pick of another id before the settle, sides in order; a variable neither settled nor let,
-- no input
AllowedIn (picks side v) rest g o ids = (g ≡ true) × (rest ≡ []) × T (unset ids v) × T (fresh o side v)
-- let just one number; no let between picks and their settle
AllowedIn (lets v) rest g o ids = (g ≡ false) × (rest ≡ []) × T (unset ids v) × (o ≡ none)
-- settle none; picks of the same id, at least one, before it, that may end
AllowedIn (settles v) rest g o ids = (g ≡ false) × (rest ≡ []) × T (unset ids v) × T (opened o v)
-- a timer as a let, but that it takes nothing
AllowedIn (times t w n) rest g o ids = (g ≡ false) × (rest ≡ []) × T (unset ids t) × (o ≡ none)

-- operands of the right sort, numbers or yes-no, then what the role asks for
pub record AllowedOn (i : Instruction) (vs : List Sort) (g : Bool) (o : Option Picks) (ids : List Bool) : Type 0 where
  pub rest : List Sort
  pub operands : vs ≡ (signature i).takes ++ rest
  pub in_role : AllowedIn (signature i).role rest g o ids

abbrev pub Allowed : Instruction → Known → Type 0
Allowed i (known vs g o ids) = AllowedOn i vs g o ids

-- nothing missing at the end: no value held, no gate without its pick, no pick without its settle, each variable settled, let or timed
abbrev pub Finished : Known → Type 0
Finished (known vs g o ids) = (vs ≡ []) × (g ≡ false) × (o ≡ none) × T (all_true ids)
