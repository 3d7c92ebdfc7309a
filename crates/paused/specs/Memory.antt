-- The memory of a paused scan and of the row that waits. Document 02, A.7 and A.8. Any content has a meaning: each number is clipped.
-- Assumes nothing.
use Rattle.std.specs.Prelude.{ℕ, zero, suc, ◌+◌, ◌*◌, ◌/◌, ◌%◌, min, Bool, true, false, cond, List, [], ◌∷◌, ◌++◌, eqb, ℤ, pos, get_or, take, drop}
use Rattle.std.proofs.Math.Option.{Option, none, some}
use Rattle.std.proofs.lemmas.List.Edits.{sets}
use Rattle.limits.specs.Limits.{image_limit, name_limit, stack_limit, state_limit}
use Rattle.arith.specs.Values.{count}
use Rattle.paused.specs.declared.Checkpoint.{Checkpoint}
use Rattle.paused.specs.declared.Layout.{Layout}

-- ---- the places

abbrev pub checkpoint_place : ℕ
checkpoint_place = 0

abbrev pub layout_place : ℕ
layout_place = 8

-- 0, or 1 + the length of the row that waits
abbrev pub waiting_place : ℕ
waiting_place = 13

abbrev pub row_place : ℕ
row_place = 16

-- the values held, the first at the front
abbrev pub held_place : ℕ
held_place = 80

-- which names are timers: four numbers of 16 bits
abbrev pub timers_place : ℕ
timers_place = 120

-- the state at the start, the current values, lows and highs: room for 127 each
abbrev pub start_place : ℕ
start_place = 128

abbrev pub current_place : ℕ
current_place = 256

abbrev pub low_place : ℕ
low_place = 384

abbrev pub high_place : ℕ
high_place = 512

-- ---- what stands there

unfoldable pub clipped : List ℤ → ℕ → ℕ → ℕ
clipped cells i most = min (count (get_or cells i (pos 0))) most

abbrev pub slice : ℕ → ℕ → List ℤ → List ℤ
slice at n cells = take n (drop at cells)

-- the largest number of a refusal in documents 01 and 02
abbrev pub largest_number : ℕ
largest_number = 30

-- Phase 0 is no scan, 1 under way, 2 at the end of the code, 3 refused.
unfoldable pub checkpoint_of : List ℤ → Checkpoint
checkpoint_of cells =
    record {
      phase = clipped cells 0 3;
      number = clipped cells 1 largest_number;
      place = clipped cells 2 image_limit;
      steps = clipped cells 3 image_limit;
      held = clipped cells 4 stack_limit;
      picked = eqb (clipped cells 5 1) 1;
      passing = eqb (clipped cells 6 1) 1;
    }

-- the largest number of 16 bits
abbrev pub part_limit : ℕ
part_limit = 65535

-- four numbers of 16 bits as one, the lowest first
unfoldable pub parts_at : List ℤ → ℕ
parts_at cells = clipped cells 120 part_limit + 65536 * (clipped cells 121 part_limit + 65536 * (clipped cells 122 part_limit + 65536 * clipped cells 123 part_limit))

-- which names are timers, as the bits of a number: none where a state has no more numbers than names
abbrev pub timers_at : ℕ → ℕ → List ℤ → ℕ
timers_at size names cells = cond (eqb size names) 0 (parts_at cells)

-- the length of the image, the place of its code, the numbers of a state, the names, the milliseconds, the timers
unfoldable pub layout_of : List ℤ → Layout
layout_of cells =
    record {
      image = clipped cells 8 image_limit;
      base = clipped cells 9 (clipped cells 8 image_limit);
      size = clipped cells 10 state_limit;
      names = clipped cells 11 name_limit;
      millis = count (get_or cells 12 (pos 0));
      timers = timers_at (clipped cells 10 state_limit) (clipped cells 11 name_limit) cells;
    }

unfoldable pub waiting_length : List ℤ → ℕ
waiting_length cells = clipped cells waiting_place (name_limit + 1)

abbrev pub waiting_in : ℕ → List ℤ → Option (List ℤ)
waiting_in zero cells = none
waiting_in (suc n) cells = some (slice row_place n cells)

-- the row that waits
unfoldable pub waiting_of : List ℤ → Option (List ℤ)
waiting_of cells = waiting_in (waiting_length cells) cells

-- ---- what is stored

abbrev pub flag_of : Bool → ℕ
flag_of true = 1
flag_of false = 0

abbrev pub checkpoint_cells : Checkpoint → List ℤ
checkpoint_cells p =
    pos p.phase ∷ pos p.number ∷ pos p.place ∷ pos p.steps ∷ pos p.held ∷ pos (flag_of p.picked) ∷ pos (flag_of p.passing) ∷ []

abbrev pub layout_cells : Layout → List ℤ
layout_cells s = pos s.image ∷ pos s.base ∷ pos s.size ∷ pos s.names ∷ pos s.millis ∷ []

-- flags as the bits of a number, the first the lowest
abbrev pub bits_of : List Bool → ℕ
bits_of [] = 0
bits_of (b ∷ bs) = flag_of b + 2 * bits_of bs

-- the lowest k · 16 bits of a number
abbrev pub parts_of : ℕ → ℕ → List ℤ
parts_of zero n = []
parts_of (suc k) n = pos (n % 65536) ∷ parts_of k (n / 65536)

abbrev pub timer_cells : ℕ → List ℤ
timer_cells n = parts_of 4 n

abbrev pub with_layout : Layout → List ℤ → List ℤ
with_layout f cells = sets (sets cells layout_place (layout_cells f)) timers_place (timer_cells f.timers)

-- the values held, the first at the front
abbrev pub stacked : List ℤ → List ℤ
stacked [] = []
stacked (z ∷ vs) = stacked vs ++ (z ∷ [])
