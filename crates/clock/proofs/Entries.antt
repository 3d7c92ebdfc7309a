-- Laws of the table as the loops walk it: two numbers an entry. Assumes nothing.
use mathlib.Core.Path.{◌≡◌, refl}
use mathlib.Core.Bool.{Bool, true, false, ◌&&◌, cond}
use mathlib.Core.List.{List, [], ◌∷◌, ◌++◌}
use Prim.Native.Nat.{◌/◌, ◌%◌, ◌≤◌, ◌<◌}
use native.Mathlib.Omega.{arith}
use borrow.Author.Tests.{eq-eqb, ne_eqb, le-leb, lt-leb, leb-true}
use lib.Dec.{leb, eqb}
use lib.IntN.{ℤ, pos, negsuc, ◌+ℤ◌}
use lib.ListN.{length, get_or}
use lib.Signed.{mag, le_z, lt_z}
use Rattle.arith.proofs.Basics.{and_both}
use Rattle.clock.specs.Clock.{Entry, entries_of, is_minute, is_offset, entry_fits, entries_fit, is_table, offset_from, offset_at, local_at, repeats, repeats_in, is_again}
use Rattle.clock.specs.Inner.Numbers.{SmallNumbers}

short : (l : List ℤ) → length l ≤ 1 → entries_of l ≡ []
unfolding entries_of
short [] h = refl
short (m ∷ []) h = refl
short (m ∷ o ∷ l) h = absurd (omega arith)

pair : (e others : List ℤ) → length e ≡ 2 → entries_of (e ++ others) ≡ record { minute = get_or e 0 (pos 0); offset = get_or e 1 (pos 0) } ∷ entries_of others
unfolding entries_of
pair [] l h = absurd (omega arith)
pair (m ∷ []) l h = absurd (omega arith)
pair (m ∷ o ∷ []) l h = refl
pair (m ∷ o ∷ x ∷ e) l h = absurd (omega arith)

-- every two numbers are an entry
entries_count : (l : List ℤ) → length (entries_of l) ≡ length l / 2
unfolding entries_of
entries_count [] = refl
entries_count (m ∷ []) = refl
entries_count (m ∷ o ∷ l) = let e = entries_count l in omega arith

-- ---- the next two numbers, `e`, are an entry; behind them are the `others`
module _ (e : List ℤ) where
  abbrev minute : ℤ
  minute = get_or e 0 (pos 0)

  abbrev offset : ℤ
  offset = get_or e 1 (pos 0)

module _ (l e others : List ℤ) (s : l ≡ e ++ others) (two : length e ≡ 2) where
  entries_step : entries_of l ≡ record { minute = minute e; offset = offset e } ∷ entries_of others
  entries_step = rw s (pair e others two)

  -- the test of the limits
  pub fit_stops : (last : ℤ) → entry_fits last (minute e) (offset e) ≡ false → entries_fit last (entries_of l) ≡ false
  unfolding entries_fit
  fit_stops last h = rw (entries_step, h)

  pub fit_goes : (last : ℤ) → entry_fits last (minute e) (offset e) ≡ true → entries_fit last (entries_of l) ≡ entries_fit (minute e) (entries_of others)
  unfolding entries_fit
  fit_goes last h = rw (entries_step, h)

  -- the offset in force
  pub offset_goes : (held u : ℤ) → offset_from held (entries_of l) u ≡ offset_from (cond (le_z (minute e) u) (offset e) held) (entries_of others) u
  unfolding offset_from
  offset_goes held u = rw entries_step

  -- the test for a repeated minute
  module _ (t : List Entry) (u : ℤ) where
    pub repeats_here : repeats t u (offset e) ≡ true → repeats_in t u (entries_of l) ≡ true
    unfolding repeats_in
    repeats_here h = rw (entries_step, h)

    pub repeats_goes : repeats t u (offset e) ≡ false → repeats_in t u (entries_of l) ≡ repeats_in t u (entries_of others)
    unfolding repeats_in
    repeats_goes h = rw (entries_step, h)

  pub small_step : SmallNumbers (entries_of l) → (mag (offset e) ≤ 840) × SmallNumbers (entries_of others)
  small_step h = rw entries_step at h

-- no entry is left
module _ (l : List ℤ) (h : length l < 2) where
  pub fit_end : (last : ℤ) → entries_fit last (entries_of l) ≡ true
  unfolding entries_fit
  fit_end last = rw (short l (omega arith))

  pub offset_end : (held u : ℤ) → offset_from held (entries_of l) u ≡ held
  unfolding offset_from
  offset_end held u = rw (short l (omega arith))

  pub repeats_end : (t : List Entry) (u : ℤ) → repeats_in t u (entries_of l) ≡ false
  unfolding repeats_in
  repeats_end t u = rw (short l (omega arith))

-- ---- the loops' beginnings, and the definitions opened once
-- the first offset, 0 where there is none
pub offset_start : (l : List ℤ) (u : ℤ) → offset_from (get_or l 1 (pos 0)) (entries_of l) u ≡ offset_at (entries_of l) u
unfolding offset_at entries_of
offset_start [] u = refl
offset_start (m ∷ []) u = refl
offset_start (m ∷ o ∷ l) u = refl

pub local_is : (t : List Entry) (u : ℤ) → local_at t u ≡ u +ℤ offset_at t u
unfolding local_at
local_is t u = refl

pub again-start : (t : List Entry) (u : ℤ) → repeats_in t u t ≡ is_again t u
unfolding is_again
again-start t u = refl

-- ---- the whole table
module _ (l : List ℤ) where
  pub table_odd : (length l % 2 ≡ 0 → ⊥) → is_table l ≡ false
  unfolding is_table
  table_odd h = rw (ne_eqb (length l % 2) 0 h)

  module _ (even : length l % 2 ≡ 0) where
    pub table_empty : length l / 2 < 1 → is_table l ≡ false
    unfolding is_table
    table_empty h = rw (eq-eqb (length l % 2) 0 even, entries_count l, lt-leb 1 (length l / 2) h)

    module _ (some : 1 ≤ length l / 2) where
      pub table_long : 32 < length l / 2 → is_table l ≡ false
      unfolding is_table
      table_long h = rw (eq-eqb (length l % 2) 0 even, entries_count l, le-leb 1 (length l / 2) some, lt-leb (length l / 2) 32 h)

      pub table_fits : length l / 2 ≤ 32 → is_table l ≡ entries_fit (negsuc 0) (entries_of l)
      unfolding is_table
      table_fits h = rw (eq-eqb (length l % 2) 0 even, entries_count l, le-leb 1 (length l / 2) some, le-leb (length l / 2) 32 h)

-- ---- offsets of a table are small
offset_small : (o : ℤ) → is_offset o ≡ true → mag o ≤ 840
offset_small (pos n) e = leb-true n 840 e
offset_small (negsuc n) e = let h : n ≤ 719 = leb-true n 719 (and_both (leb n 719) true e).0 in omega arith

fit_small : (last : ℤ) (t : List Entry) → entries_fit last t ≡ true → SmallNumbers t
unfolding entries_fit
fit_small last [] e = tt
fit_small last (x ∷ t) e =
    let b = and_both (entry_fits last x.minute x.offset) (entries_fit x.minute t) e in
    let c = and_both (lt_z last x.minute) (is_minute x.minute && is_offset x.offset) b.0 in
    let d = and_both (is_minute x.minute) (is_offset x.offset) c.1 in
    (offset_small x.offset d.1, fit_small x.minute t b.1)

pub table_small : (l : List ℤ) → is_table l ≡ true → SmallNumbers (entries_of l)
unfolding is_table
table_small l e =
    let b = and_both (eqb (length l % 2) 0) _ e in
    let c = and_both (leb 1 (length (entries_of l))) _ b.1 in
    let d = and_both (leb (length (entries_of l)) 32) _ c.1 in
    fit_small (negsuc 0) (entries_of l) d.1

from_small : (held : ℤ) (t : List Entry) (u : ℤ) → mag held ≤ 840 → SmallNumbers t → mag (offset_from held t u) ≤ 840
unfolding offset_from
from_small held [] u h s = h
from_small held (x ∷ t) u h s = from_small (cond (le_z x.minute u) x.offset held) t u (go (le_z x.minute u)) s.1
  where
    go : (b : Bool) → mag (cond b x.offset held) ≤ 840
    go true = s.0
    go false = h

pub at_small : (t : List Entry) (u : ℤ) → SmallNumbers t → mag (offset_at t u) ≤ 840
unfolding offset_at
at_small [] u s = from_small (pos 0) [] u (omega arith) s
at_small (x ∷ t) u s = from_small x.offset (x ∷ t) u s.0 s
