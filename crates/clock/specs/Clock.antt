-- The clock of a farm. Document 02, A.1: each comment is a sentence of it, or says how one is read. Assumes nothing.
use Rattle.std.specs.Prelude.{◌%◌, ◌≡◌, Bool, true, false, ◌&&◌, cond, List, [], ◌∷◌, leb, eqb, ℤ, pos, negsuc, ◌+ℤ◌, ◌-ℤ◌, ◌*ℤ◌, length, ◌≤ℤ◌, ◌<ℤ◌}
use Rattle.std.specs.Int.Signed.{le_z, lt_z, shr_z}
use Rattle.limits.specs.Limits.{entry_limit, last_minute, lowest_offset, highest_offset}
use Rattle.arith.specs.Values.{eq_z}

-- ---- the farm table

-- an entry: a UTC minute and an offset
pub record Entry : Type 0 where
  pub minute : ℤ
  pub offset : ℤ

-- a farm table, lent as one list of numbers: each entry's minute, then its offset
unfoldable pub entries_of : List ℤ → List Entry
entries_of [] = []
entries_of (m ∷ []) = []
entries_of (m ∷ o ∷ l) = record { minute = m; offset = o } ∷ entries_of l

-- within 0 to 2,147,483,647
abbrev pub is_minute : ℤ → Bool
is_minute m = le_z (pos 0) m && le_z m last_minute

-- an offset of −720 to 840 minutes
abbrev pub is_offset : ℤ → Bool
is_offset o = le_z lowest_offset o && le_z o highest_offset

-- the minutes strictly rising: each above `last`, the one before it
abbrev pub entry_fits : ℤ → ℤ → ℤ → Bool
entry_fits last m o = lt_z last m && (is_minute m && is_offset o)

unfoldable pub entries_fit : ℤ → List Entry → Bool
entries_fit last [] = true
entries_fit last (e ∷ t) = entry_fits last e.minute e.offset && entries_fit e.minute t

-- A farm table holds 1 to 32 entries. (All numbers lent belong to one; no minute stands before the first: −1 is below all.)
unfoldable pub is_table : List ℤ → Bool
is_table lent =
    eqb (length lent % 2) 0 && (leb 1 (length (entries_of lent)) && (leb (length (entries_of lent)) entry_limit && entries_fit (negsuc 0) (entries_of lent)))

-- ---- local time

-- the first offset also holds for all earlier minutes
abbrev pub first_offset : List Entry → ℤ
first_offset [] = pos 0
first_offset (e ∷ t) = e.offset

-- the offset of the last entry whose minute is at most u (an entry holds from its own minute on); `held` where there is none
unfoldable pub offset_from : ℤ → List Entry → ℤ → ℤ
offset_from held [] u = held
offset_from held (e ∷ t) u = offset_from (cond (le_z e.minute u) e.offset held) t u

unfoldable pub offset_at : List Entry → ℤ → ℤ
offset_at t u = offset_from (first_offset t) t u

-- UTC minute plus offset, for every whole minute, those below 0 too
unfoldable pub local_at : List Entry → ℤ → ℤ
local_at t u = u +ℤ offset_at t u

-- Offset plus UTC minute equals 1440 times day plus minute exactly, below zero too: a division that rounds down, and what it leaves.
unfoldable pub day_of : ℤ → ℤ
day_of local = shr_z local 1440

unfoldable pub minute_of : ℤ → ℤ
minute_of local = local -ℤ pos 1440 *ℤ day_of local

-- `again` is 1 exactly if some earlier UTC minute, one below 0 too, has the same day and minute.
pub record Again (t : List Entry) (u : ℤ) : Type 0 where
  pub earlier : ℤ
  pub before : earlier <ℤ u
  pub same_day : day_of (local_at t earlier) ≡ day_of (local_at t u)
  pub same_minute : minute_of (local_at t earlier) ≡ minute_of (local_at t u)

-- Worked out over the entries (law `again_exactly`): were the offset `o` in force at an earlier minute with the local time of u, that
-- minute would be this; it is earlier, and o is in force there.
abbrev pub repeats : List Entry → ℤ → ℤ → Bool
repeats t u o = let v = local_at t u -ℤ o in lt_z v u && eq_z (offset_at t v) o

unfoldable pub repeats_in : List Entry → ℤ → List Entry → Bool
repeats_in t u [] = false
repeats_in t u (e ∷ l) = let r = repeats_in t u l in cond (repeats t u e.offset) true r

unfoldable pub is_again : List Entry → ℤ → Bool
is_again t u = repeats_in t u t

-- 1, else 0
abbrev pub again_of : List Entry → ℤ → ℤ
again_of t u = cond (is_again t u) (pos 1) (pos 0)

-- ---- the three values in the document's words: what the law `shown` says of them, and that no others are so

pub record Shows (t : List Entry) (u day minute again : ℤ) : Type 0 where
  pub exactly : offset_at t u +ℤ u ≡ pos 1440 *ℤ day +ℤ minute
  pub least : pos 0 ≤ℤ minute
  pub most : minute ≤ℤ pos 1439
  pub repeated : Again t u → again ≡ pos 1
  pub new : (Again t u → ⊥) → again ≡ pos 0
