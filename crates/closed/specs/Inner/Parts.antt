-- The parts of the closed profile as the running code works them: auxiliary definitions for proofs. Assumes nothing.
use Rattle.std.specs.Prelude.{ℕ, suc, Option, Some, None, ◌*◌, ◌≤◌, ◌<◌, ◌≡◌, Bool, true, false, ◌&&◌, cond, List, [], ◌∷◌, ℤ, pos, ◌+ℤ◌, eqb, leb, length, take, drop}
use Rattle.std.proofs.Math.ListN.{get_elem?}
use Rattle.std.specs.Int.Signed.{lt_z}
use Rattle.limits.specs.Limits.{name_limit, stack_limit, combination_limit, wrong_length, not_small}
use Rattle.limits.specs.Answer.{Answer, accepted, refused}
use Rattle.semantics.specs.Program.{Range}
use Rattle.scan.specs.Inner.Parts.{scanned_code}
use Rattle.closed.specs.Closed.{product_of_sizes, combinations, Combination, paired, Walked, every_accepted, refused_at, walked, AfterClosed, leaves, closed_by, combined}

-- ---- the combination after one: the last value moves, a value at its high goes back to its low and the one before moves

-- whether every value went back, and the values
pub record Turned : Type 0 where
  pub over : Bool
  pub values : List ℤ

abbrev pub turned_to : Bool → List ℤ → Turned
turned_to b s = record { over = b; values = s }

abbrev pub turn : Range → ℤ → Turned → Turned
turn n z t = cond t.over (cond (lt_z z n.high) (turned_to false ((z +ℤ pos 1) ∷ t.values)) (turned_to true (n.low ∷ t.values))) (turned_to false (z ∷ t.values))

abbrev pub turned : List Range → List ℤ → Turned
turned [] zs = turned_to true []
turned (n ∷ ns) [] = turned_to true []
turned (n ∷ ns) (z ∷ zs) = turn n z (turned ns zs)

abbrev pub next_of : List Range → List ℤ → List ℤ
next_of ns s = (turned ns s).values

-- ---- one scan

abbrev pub is_refused : Answer (Unit {0}) → Bool
is_refused (accepted u) = false
is_refused (refused number place) = true

-- what the code answers, for values in their ranges
abbrev pub working : List Range → List ℕ → Combination → Answer (Unit {0})
working ns code c = (scanned_code ns code c.state c.row).answer

-- ---- the walk

-- a low, a high, a value and a copy for each name; a low, a high and a value for each input; a stack
pub record Walking (low high row_low row_high state row work vals : List ℤ) : Type 0 where
  pub highs : length high ≡ length low
  pub states : length state ≡ length low
  pub works : length work ≡ length low
  pub stack : length vals ≡ stack_limit
  pub row_highs : length row_high ≡ length row_low
  pub rows : length row ≡ length row_low
  pub among : length row_low ≤ length low

-- the scans done before, if one was refused; the refused combination is what the walk leaves
abbrev pub visited_as : Option ℕ → List ℤ → List ℤ → Walked
visited_as None state row = every_accepted
visited_as (Some n) state row = refused_at n (record { state = state; row = row })

abbrev pub VisitedWithin : Option ℕ → Type 0
VisitedWithin None = Unit {0}
VisitedWithin (Some n) = n < combination_limit

-- ---- the parts of the services

-- 26, then 27, by the code alone
abbrev pub part_working : List Range → ℕ → List ℕ → ℕ → ℕ → List ℤ → List ℤ → AfterClosed
part_working ns inputs code first most state row =
    cond (leb (product_of_sizes ns * product_of_sizes (take inputs ns)) combination_limit)
    (closed_by (walked (working ns code) (take most (drop first (paired (combinations ns) (combinations (take inputs ns))))) first) state row)
    (leaves (refused not_small 0) state row)

-- what is lent has room for 64 names, and for the values held
pub record ClosedRoom (low high work vals state row : List ℤ) : Type 0 where
  pub lows : name_limit ≤ length low
  pub highs : name_limit ≤ length high
  pub works : name_limit ≤ length work
  pub stack : length vals ≡ stack_limit
  pub state_room : name_limit ≤ length state
  pub row_room : name_limit ≤ length row

-- the i-th combination
abbrev pub IsNth : List Range → ℕ → List ℤ → Type 0
IsNth ns i s = drop i (combinations ns) ≡ s ∷ drop (suc i) (combinations ns)

-- 26, then 12
abbrev pub combined_ranges : List Range → ℕ → ℕ → List ℤ → List ℤ → AfterClosed
combined_ranges ns inputs index state row =
    cond (leb (product_of_sizes ns * product_of_sizes (take inputs ns)) combination_limit)
    (cond (eqb (length state) (length ns) && eqb (length row) inputs)
    (combined (get_elem? (paired (combinations ns) (combinations (take inputs ns))) index) state row)
    (leaves (refused wrong_length 0) state row))
    (leaves (refused not_small 0) state row)
