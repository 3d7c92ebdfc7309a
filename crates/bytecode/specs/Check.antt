-- Sound images, and the place where an image breaks soundness. Document 01, "The image" (Sound) and refusal 11; document 02, A.6 and A.7. Assumes nothing.
use Rattle.std.specs.Prelude.{ℕ, zero, suc, ◌+◌, Bool, true, false, not, ◌&&◌, cond, List, [], ◌∷◌, eqb, leb, ltb, pos, length, get_or, set, drop}
use Rattle.std.proofs.Math.Option.{Option, none, some}
use Rattle.std.specs.Int.Signed.{le_z}
use Rattle.limits.specs.Limits.{stack_limit, name_limit, image_limit, time_limit, too_long, broken_image}
use Rattle.limits.specs.Answer.{Answer, accepted, refused, ◌and_then◌}
use Rattle.arith.specs.Values.{is_int32, eq_z}
use Rattle.semantics.specs.Program.{Range, range_at, Side, changing, rising, falling, all_true, known_first, is_binary}
use Rattle.leb128.specs.Numbers.{Read, got, nothing, number_at, signed_at}
use Rattle.bytecode.specs.Instructions.{Instruction, fetch}
use Rattle.bytecode.specs.Signature.{Sort, number, truth, Role, pushes, computes, tests, opens, picks, lets, settles, times, signature}

-- ---- the header

abbrev pub tested : {B : Type 0} → Bool → ℕ → Answer B → Answer B
tested true at a = a
tested false at a = refused broken_image at

-- Something that stands at a place and passes its test; else 11 with that place. What is cut short breaks at its own first byte;
-- where nothing of it is there, that place is the image length.
abbrev pub item : {A B : Type 0} → Read A → ℕ → (A → Bool) → (A → ℕ → Answer B) → Answer B
item nothing at test k = refused broken_image at
item (got a next) at test k = tested (test a) at (k a next)

-- a range, and the place behind it
pub record Placed : Type 0 where
  pub range : Range
  pub next : ℕ

-- low ≤ start ≤ high, all in signed 32-bit range. Low over high breaks at high, a start outside at start.
unfoldable pub check_range : List ℕ → ℕ → Answer Placed
check_range bytes at =
    item (signed_at bytes at) at is_int32 λ l at₁.
    item (signed_at bytes at₁) at₁ (λ h. is_int32 h && le_z l h) λ h at₂.
    item (signed_at bytes at₂) at₂ (λ z. is_int32 z && le_z l z && le_z z h) λ z at₃.
    accepted (record { range = record { low = l; high = h; start = z }; next = at₃ })

-- the range of each name in declared order, and what follows them
abbrev pub check_ranges : {B : Type 0} → List ℕ → ℕ → ℕ → (List Range → ℕ → Answer B) → Answer B
check_ranges bytes zero at k = k [] at
check_ranges bytes (suc m) at k = check_range bytes at and_then λ r. check_ranges bytes m r.next λ ns next. k (r.range ∷ ns) next

-- the count of inputs, the count of names, and the place behind the two counts
pub record Counts : Type 0 where
  pub inputs : ℕ
  pub names : ℕ
  pub place : ℕ

-- Header: count of inputs, count of variables. At most 64 names: a count of inputs over 64 breaks at place 0, a sum over 64 at the
-- second number.
unfoldable pub check_counts : List ℕ → Answer Counts
check_counts bytes =
    item (number_at bytes 0) 0 (λ k. leb k name_limit) λ k at₁.
    item (number_at bytes at₁) at₁ (λ m. leb (k + m) name_limit) λ m at₂.
    accepted (record { inputs = k; names = k + m; place = at₂ })

-- what a header says, and the place where the code begins
pub record Header : Type 0 where
  pub inputs : ℕ
  pub ranges : List Range
  pub place : ℕ

abbrev pub header_with : ℕ → List Range → ℕ → Answer Header
header_with k = λ ns next. accepted (record { inputs = k; ranges = ns; place = next })

-- Header: the counts, then low, high, start of each name in declared order.
unfoldable pub check_header : List ℕ → Answer Header
check_header bytes = check_counts bytes and_then λ c. check_ranges bytes c.names c.place (header_with c.inputs)

-- ---- one instruction

-- picks that await their settle: the side of the last, and their variable
pub record Picks : Type 0 where
  pub side : Side
  pub id : ℕ

-- What is known before an instruction: the sorts of the values held; whether a gate awaits its pick; the picks that await their
-- settle; and of each id whether its current value may be used.
pub data Known : Type 0 where
  known : List Sort → Bool → Option Picks → List Bool → Known

abbrev pub guard : Bool → Known → Option Known
guard true c = some c
guard false c = none

-- an operand on top, of the right sort
abbrev pub one : Sort → List Sort → (List Sort → Option Known) → Option Known
one number [] k = none
one number (number ∷ vs) k = k vs
one number (truth ∷ vs) k = none
one truth [] k = none
one truth (number ∷ vs) k = none
one truth (truth ∷ vs) k = k vs

abbrev pub empty : List Sort → Bool
empty [] = true
empty (x ∷ vs) = false

-- a declared variable, no input, neither settled nor let
abbrev pub unset : List Bool → ℕ → Bool
unset ids v = ltb v (length ids) && not (get_or ids v false)

-- no picks await a settle
abbrev pub closed : Option Picks → Bool
closed none = true
closed (some p) = false

-- The picks before one settle are all code 20, or some 24 and then some 25 (document 02, A.6): which side comes first,
abbrev pub may_begin : Side → Bool
may_begin changing = true
may_begin rising = true
may_begin falling = false

-- which comes after which,
abbrev pub may_follow : Side → Side → Bool
may_follow changing changing = true
may_follow changing rising = false
may_follow changing falling = false
may_follow rising changing = false
may_follow rising rising = true
may_follow rising falling = true
may_follow falling changing = false
may_follow falling rising = false
may_follow falling falling = true

-- and which is last
abbrev pub may_end : Side → Bool
may_end changing = true
may_end rising = false
may_end falling = true

-- a pick of v on a side may follow
abbrev pub fresh : Option Picks → Side → ℕ → Bool
fresh none side v = may_begin side
fresh (some p) side v = eqb p.id v && may_follow p.side side

-- picks of v await their settle, and may end
abbrev pub opened : Option Picks → ℕ → Bool
opened none v = false
opened (some p) v = eqb p.id v && may_end p.side

-- the operands taken are on top, of the right sorts, and what follows goes on with the values below them
abbrev pub taking : List Sort → List Sort → (List Sort → Option Known) → Option Known
taking [] vs k = k vs
taking (x ∷ xs) vs k = one x vs λ rest. taking xs rest k

-- What an instruction of a role leaves, or that it breaks soundness: of the values below its operands, whether a gate awaits its pick,
-- the picks that await their settle, and the ids whose current values may be used.
abbrev pub admits : Role → List Sort → Bool → Option Picks → List Bool → Option Known
-- constants in signed 32-bit range, ids of names declared, current values by the rule above; never over 40 values held
admits (pushes fits) rest g o ids = guard (fits ids && ltb (length rest) stack_limit) (known (number ∷ rest) g o ids)
admits computes rest g o ids = some (known (number ∷ rest) g o ids)
-- not between a gate and its pick, where only codes 1 to 9 stand
admits tests rest g o ids = guard (not g) (known (truth ∷ rest) g o ids)
-- gate finds just one yes-no; each gate has its pick
admits opens rest g o ids = guard (not g && empty rest) (known [] true o ids)
-- pick just one number; each pick its gate; not picked after it is settled or let, no input ever; no pick of another id before the settle;
-- sides in order
admits (picks side v) rest g o ids = guard (g && empty rest && unset ids v && fresh o side v) (known [] false (some (record { side = side; id = v })) ids)
-- let just one number; each variable settled or let once, no input ever; no let between picks and their settle
admits (lets v) rest g o ids = guard (not g && empty rest && unset ids v && closed o) (known [] false none (set ids v true))
-- settle none; each variable settled or let once, no input ever; picks of the same id before it, at least one, that may end
admits (settles v) rest g o ids = guard (not g && empty rest && unset ids v && opened o v) (known [] false none (set ids v true))
-- a timer's one instruction 23 replaces a let
admits (times t w n) rest g o ids = guard (not g && empty rest && unset ids t && closed o) (known [] false none (set ids t true))

-- One instruction keeps soundness, or breaks it: operands of the right sort, numbers or yes-no, then what its role asks for.
abbrev pub advance : Instruction → Known → Option Known
advance i (known vs g o ids) = taking (signature i).takes vs λ rest. admits (signature i).role rest g o ids

-- nothing missing at the end: no value held, no gate without its pick, no picks without their settle, no variable without its rule
abbrev pub complete : Known → Bool
complete (known vs g o ids) = empty vs && not g && closed o && all_true ids

-- ---- timers

-- directly after w's settle or let, timers of one w by id: what the instruction before must be
abbrev pub follows_in : Role → ℕ → ℕ → Bool
follows_in (pushes fits) t w = false
follows_in computes t w = false
follows_in tests t w = false
follows_in opens t w = false
follows_in (picks side v) t w = false
follows_in (lets v) t w = eqb v w
follows_in (settles v) t w = eqb v w
follows_in (times u v n) t w = eqb v w && ltb u t

abbrev pub follows : Option Instruction → ℕ → ℕ → Bool
follows none t w = false
follows (some i) t w = follows_in (signature i).role t w

-- t of range 0..1, starting at 0
unfoldable pub is_timer_range : Range → Bool
is_timer_range n = is_binary n && eq_z n.start (pos 0)

-- A 23 keeps its limits, w is of range 0..1, N from 1 to 2,147,483,647; of other instructions nothing is asked. `last` is the instruction before.
abbrev pub suits_in : List Range → Option Instruction → Role → Bool
suits_in ns last (pushes fits) = true
suits_in ns last computes = true
suits_in ns last tests = true
suits_in ns last opens = true
suits_in ns last (picks side v) = true
suits_in ns last (lets v) = true
suits_in ns last (settles v) = true
suits_in ns last (times t w n) = is_timer_range (range_at ns t) && is_binary (range_at ns w) && (leb 1 n && leb n time_limit) && follows last t w

abbrev pub suits : List Range → Option Instruction → Instruction → Bool
suits ns last i = suits_in ns last (signature i).role

-- ---- the code

-- 11, with the image length where something is only missing there
abbrev pub ends : Bool → ℕ → Answer (Unit {0})
ends true at = accepted tt
ends false at = refused broken_image at

abbrev pub if_some : Option Known → ℕ → (Known → Answer (Unit {0})) → Answer (Unit {0})
if_some none at k = refused broken_image at
if_some (some c) at k = k c

-- The walk over at most f instructions of the code, from a place on; the code begins at `base` of the image. Only the codes listed:
-- `fetch` finds no others. A fault of an operand (cut short, not the shortest form, over 32 bits) is at the instruction's code byte.
abbrev pub check_code : List Range → ℕ → List ℕ → ℕ → ℕ → Option Instruction → Known → Answer (Unit {0})
check_code ns base code zero at last c = ends (complete c) (base + length code)
check_code ns base code (suc f) at last c =
    cond (ltb at (length code))
    (item (fetch code at) (base + at) (suits ns last) λ i next. if_some (advance i c) (base + at) λ c₁. check_code ns base code f next (some i) c₁)
    (ends (complete c) (base + length code))

-- nothing held, no gate, no picks; the inputs known
abbrev pub at_start : Header → Known
at_start h = known [] false none (known_first h.inputs (length h.ranges))

-- The code is the rest of the image after the header; each instruction has at least one byte.
unfoldable pub check_body : List ℕ → Header → Answer (Unit {0})
check_body bytes h = let code = drop h.place bytes in check_code h.ranges h.place code (length code) 0 none (at_start h)

-- Check tests 9 (place 0), then 11, with the place of the first header number or instruction that breaks soundness. Its success
-- carries nothing.
unfoldable pub check_of : List ℕ → Answer (Unit {0})
check_of bytes = cond (leb (length bytes) image_limit) (check_header bytes and_then λ h. check_body bytes h) (refused too_long 0)
