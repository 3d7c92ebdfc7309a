-- Sound images: the properties of document 01's paragraph, over the whole code. Document 01, "The image" (Sound); document 02, A.6 and A.7. Assumes nothing.
use Rattle.std.specs.Prelude.{ℕ, ◌+◌, ◌≤◌, ◌<◌, ◌≡◌, Bool, true, cond, List, [], ◌∷◌, ◌++◌, T, eqb, length, set, drop}
use Rattle.limits.specs.Limits.{stack_limit, name_limit, image_limit, time_limit}
use Rattle.semantics.specs.Program.{Range, range_at, Side, Sided, all_true, known_first, bit_range, is_binary}
use Rattle.leb128.specs.Numbers.{got, number_at, signed_at}
use Rattle.bytecode.specs.Instructions.{Instruction, gate, pick, settle, timer, fetch}
use Rattle.bytecode.specs.Signature.{Sort, Role, pushes, computes, tests, opens, picks, lets, settles, times, signature, held_by}
use Rattle.bytecode.specs.Translation.{RangesFit}
use Rattle.bytecode.specs.Check.{unset, Header}

-- the sorts of the values held after instructions, the last first
abbrev pub held_after : List Instruction → List Sort → List Sort
held_after [] vs = vs
held_after (i ∷ is) vs = held_after is (held_by i vs)

-- of each id, whether it is an input, or a variable settled, let or timed
abbrev pub ids_in : Role → List Bool → List Bool
ids_in (pushes fits) ids = ids
ids_in computes ids = ids
ids_in tests ids = ids
ids_in opens ids = ids
ids_in (picks side v) ids = ids
ids_in (lets v) ids = set ids v true
ids_in (settles v) ids = set ids v true
ids_in (times t w n) ids = set ids t true

abbrev pub ids_after : List Instruction → List Bool → List Bool
ids_after [] ids = ids
ids_after (i ∷ is) ids = ids_after is (ids_in (signature i).role ids)

-- codes 1 to 9
abbrev pub PlainIn : Role → Type 0
PlainIn (pushes fits) = Unit {0}
PlainIn computes = Unit {0}
PlainIn tests = ⊥
PlainIn opens = ⊥
PlainIn (picks side v) = ⊥
PlainIn (lets v) = ⊥
PlainIn (settles v) = ⊥
PlainIn (times t w n) = ⊥

abbrev pub Plain : Instruction → Type 0
Plain i = PlainIn (signature i).role

-- no let, and no pick or settle of another id than v
abbrev pub WithinIn : ℕ → Role → Type 0
WithinIn v (pushes fits) = Unit {0}
WithinIn v computes = Unit {0}
WithinIn v tests = Unit {0}
WithinIn v opens = Unit {0}
WithinIn v (picks side u) = u ≡ v
WithinIn v (lets u) = ⊥
WithinIn v (settles u) = ⊥
WithinIn v (times t w n) = ⊥

abbrev pub Within : ℕ → Instruction → Type 0
Within v i = WithinIn v (signature i).role

abbrev pub Every : (Instruction → Type 0) → List Instruction → Type 0
Every P [] = Unit {0}
Every P (i ∷ is) = P i × Every P is

-- the code after a gate: codes 1 to 9, then the pick
pub record HasPick (after : List Instruction) : Type 0 where
  pub between : List Instruction
  pub side : Side
  pub id : ℕ
  pub rest : List Instruction
  pub found : after ≡ between ++ pick side id ∷ rest
  pub plain : Every Plain between

-- the code after a pick of v: no let, and no pick or settle of another id, up to the settle of v
pub record HasSettle (v : ℕ) (after : List Instruction) : Type 0 where
  pub between : List Instruction
  pub rest : List Instruction
  pub found : after ≡ between ++ settle v ∷ rest
  pub same : Every (Within v) between

-- the code before a pick: a gate, then codes 1 to 9
pub record HasGate (before : List Instruction) : Type 0 where
  pub first : List Instruction
  pub between : List Instruction
  pub found : before ≡ first ++ gate ∷ between
  pub plain : Every Plain between

-- the code before a settle of v: a pick of v, then no let, and no pick or settle of another id
pub record HasPicks (v : ℕ) (before : List Instruction) : Type 0 where
  pub first : List Instruction
  pub between : List Instruction
  pub side : Side
  pub found : before ≡ first ++ pick side v ∷ between
  pub same : Every (Within v) between

-- the sides of the picks of v, in order
abbrev pub side_in : ℕ → Role → List Side
side_in v (pushes fits) = []
side_in v computes = []
side_in v tests = []
side_in v opens = []
side_in v (picks side u) = cond (eqb u v) (side ∷ []) []
side_in v (lets u) = []
side_in v (settles u) = []
side_in v (times t w n) = []

abbrev pub sides_of : ℕ → List Instruction → List Side
sides_of v [] = []
sides_of v (i ∷ is) = side_in v (signature i).role ++ sides_of v is

-- what a role asks for, of the values below the operands and the ids known there
abbrev pub FittingIn : Role → List Sort → List Bool → Type 0
-- constants in signed 32-bit range; ids of names declared, current values by the rule above: of inputs, and of variables settled, let or timed
-- before; never over 40 values held
FittingIn (pushes fits) rest ids = T (fits ids) × (length rest < stack_limit)
FittingIn computes rest ids = Unit {0}
FittingIn tests rest ids = Unit {0}
-- gate finds just one yes-no
FittingIn opens rest ids = rest ≡ []
-- pick and let just one number, settle none; each variable settled or let once, not picked after that, no input ever
FittingIn (picks side v) rest ids = (rest ≡ []) × T (unset ids v)
FittingIn (lets v) rest ids = (rest ≡ []) × T (unset ids v)
FittingIn (settles v) rest ids = (rest ≡ []) × T (unset ids v)
-- a timer's one instruction 23 replaces a let, and finds nothing held
FittingIn (times t w n) rest ids = (rest ≡ []) × T (unset ids t)

-- what must hold at an instruction: operands of the right sort, numbers or yes-no, and what its role asks for
pub record Fitting (i : Instruction) (vs : List Sort) (ids : List Bool) : Type 0 where
  pub rest : List Sort
  pub operands : vs ≡ (signature i).takes ++ rest
  pub in_role : FittingIn (signature i).role rest ids

-- w's settle or let, or a timer of w of smaller id than t
abbrev pub RuleIn : ℕ → ℕ → Role → Type 0
RuleIn t w (pushes fits) = ⊥
RuleIn t w computes = ⊥
RuleIn t w tests = ⊥
RuleIn t w opens = ⊥
RuleIn t w (picks side v) = ⊥
RuleIn t w (lets v) = v ≡ w
RuleIn t w (settles v) = v ≡ w
RuleIn t w (times u v n) = (v ≡ w) × (u < t)

-- A 23 keeps these limits: t of range 0..1, starting at 0, w of range 0..1, N from 1 to 2,147,483,647; and stands directly after w's settle or
-- let, timers of one w by id.
pub record TimerStands (ns : List Range) (before : List Instruction) (t w n : ℕ) : Type 0 where
  pub own : range_at ns t ≡ bit_range
  pub watched : T (is_binary (range_at ns w))
  pub least : 1 ≤ n
  pub most : n ≤ time_limit
  pub earlier : List Instruction
  pub last : Instruction
  pub directly : before ≡ earlier ++ last ∷ []
  pub rule : RuleIn t w (signature last).role

pub record SoundCode (ns : List Range) (first : List Bool) (code : List Instruction) : Type 0 where
  -- what must hold at each instruction, after those before it
  pub fitting : (before : List Instruction) (i : Instruction) (after : List Instruction) → code ≡ before ++ i ∷ after → Fitting i (held_after before []) (ids_after before first)
  -- each gate has its pick and each pick its gate, with only codes 1 to 9 between
  pub gates : (before after : List Instruction) → code ≡ before ++ gate ∷ after → HasPick after
  pub gated : (before : List Instruction) (side : Side) (v : ℕ) (after : List Instruction) → code ≡ before ++ pick side v ∷ after → HasGate before
  -- picks followed by the settle of the same id, at least one, with no let, and no pick or settle of another id, in between
  pub settled : (before : List Instruction) (side : Side) (v : ℕ) (after : List Instruction) → code ≡ before ++ pick side v ∷ after → HasSettle v after
  pub picked : (before : List Instruction) (v : ℕ) (after : List Instruction) → code ≡ before ++ settle v ∷ after → HasPicks v before
  -- the picks before one settle are all code 20, or some 24 and then some 25 (document 02, A.6)
  pub sided : (before : List Instruction) (v : ℕ) (after : List Instruction) → code ≡ before ++ settle v ∷ after → Sided (sides_of v before)
  -- a timer's instruction keeps its limits and its place (document 02, A.7)
  pub timed : (before : List Instruction) (t w n : ℕ) (after : List Instruction) → code ≡ before ++ timer t w n ∷ after → TimerStands ns before t w n
  -- nothing missing at the end: no value held, each variable settled, let or timed
  pub none_held_lem : held_after code [] ≡ []
  pub all_set : T (all_true (ids_after code first))

-- ---- the image

-- low, high, start of each name stand from a place on, up to another
abbrev pub RangesAt : List ℕ → ℕ → List Range → ℕ → Type 0
RangesAt bytes at [] end = at ≡ end
RangesAt bytes at (n ∷ ns) end =
    (at₁ : ℕ) × (at₂ : ℕ) × (at₃ : ℕ) × (signed_at bytes at ≡ got n.low at₁) × (signed_at bytes at₁ ≡ got n.high at₂) × (signed_at bytes at₂ ≡ got n.start at₃) × RangesAt bytes at₃ ns end

-- the code is these instructions, one behind the other, from a place on: only the codes listed
abbrev pub SpellsCode : List ℕ → ℕ → List Instruction → Type 0
SpellsCode code at [] = length code ≤ at
SpellsCode code at (i ∷ is) = (next : ℕ) × (fetch code at ≡ got i next) × SpellsCode code next is

pub record Sound (bytes : List ℕ) : Type 0 where
  -- at most 65,536 bytes
  pub short : length bytes ≤ image_limit
  -- count of inputs, count of variables, then low, high, start of each name
  pub header : Header
  pub variables : ℕ
  pub at₁ : ℕ
  pub at₂ : ℕ
  pub inputs_read : number_at bytes 0 ≡ got header.inputs at₁
  pub variables_read : number_at bytes at₁ ≡ got variables at₂
  pub ranges_read : RangesAt bytes at₂ header.ranges header.place
  pub size : length header.ranges ≡ header.inputs + variables
  -- at most 64 names
  pub few : header.inputs + variables ≤ name_limit
  -- low ≤ start ≤ high, all in signed 32-bit range
  pub fit : RangesFit header.ranges
  -- only the codes listed: the rest of the image after the header is these instructions
  pub code : List Instruction
  pub spells : SpellsCode (drop header.place bytes) 0 code
  pub sound : SoundCode header.ranges (known_first header.inputs (length header.ranges)) code
