-- What a closed image is, and what a refusal 27 says, over the scans themselves. Document 02, A.10. Assumes nothing.
use Rattle.std.specs.Prelude.{ℕ, ◌+◌, ◌*◌, ◌≤◌, ◌≡◌, false, ◌⊎◌, List, [], ◌∷◌, ◌++◌, T, ℤ, pos, length, replicate, ◌<ℤ◌}
use Rattle.std.proofs.Math.Option.{some}
use Rattle.std.proofs.Math.ListN.{get_elem?}
use Rattle.limits.specs.Limits.{name_limit, combination_limit}
use Rattle.limits.specs.Answer.{Answer, accepted, refused}
use Rattle.semantics.specs.Formula.{State}
use Rattle.bytecode.specs.Check.{check_of}
use Rattle.bytecode.specs.Parts.{shape_in}
use Rattle.semantics.specs.Shape.{Shape, has_timer, state_length, row_length, state_in_range, row_in_range}
use Rattle.scan.specs.Services.{AfterScan, scan_of}
use Rattle.closed.specs.Closed.{product_of_sizes, input_ranges, Combination, combinations_of, refused_at, scanning, AfterClosed, closed_by, closed_of, closed_part_of}

-- an in-range state: neither 12 nor 18
pub record InRangeState (h : Shape) (s : State) : Type 0 where
  pub size : length s ≡ state_length h
  pub ranges : T (state_in_range h s)

-- an in-range row: neither 12 nor 13
pub record InRangeRow (h : Shape) (row : List ℤ) : Type 0 where
  pub size : length row ≡ row_length h
  pub ranges : T (row_in_range h row)

-- A set is accepted exactly if no such scan is refused (law `closed_exactly`).
pub record Closed (image : List ℕ) : Type 0 where
  pub sound : check_of image ≡ accepted tt
  pub untimed : has_timer (shape_in image).limits ≡ false
  pub small : product_of_sizes (shape_in image).ranges * product_of_sizes (input_ranges (shape_in image)) ≤ combination_limit
  pub accepts : (s : State) (row : List ℤ) → InRangeState (shape_in image) s → InRangeRow (shape_in image) row → (scan_of image s row).answer ≡ accepted tt

-- Then no list of in-range rows from the fresh start ever meets 14 to 17 or 22 (law `closed_runs`): no refusal at all.
abbrev pub InRangeRows : Shape → List (List ℤ) → Type 0
InRangeRows h [] = Unit {0}
InRangeRows h (r ∷ rs) = InRangeRow h r × InRangeRows h rs

abbrev pub AllAccepted : List AfterScan → Type 0
AllAccepted [] = Unit {0}
AllAccepted (a ∷ more) = (a.answer ≡ accepted tt) × AllAccepted more

-- Rows are tried inside states; the last declared name moves fastest in both, from low to high: of two states with their rows, the earlier
-- is lower where they first differ.
abbrev pub Earlier : List ℤ → List ℤ → Type 0
Earlier [] m = ⊥
Earlier (a ∷ l) [] = ⊥
Earlier (a ∷ l) (b ∷ m) = (a <ℤ b) ⊎ ((a ≡ b) × Earlier l m)

abbrev pub scanned_values : State → List ℤ → List ℤ
scanned_values s row = s ++ row

-- 27 with the state and row of the refused scan (law `closed_first`): the n-th combination is refused, no earlier one is, and it is the
-- one left.
pub record FirstRefused (image : List ℕ) (n : ℕ) : Type 0 where
  pub combination : Combination
  pub state_in : InRangeState (shape_in image) combination.state
  pub row_in : InRangeRow (shape_in image) combination.row
  pub number : ℕ
  pub refuses : scanning image combination ≡ refused number 0
  pub before : (s : State) (row : List ℤ) → InRangeState (shape_in image) s → InRangeRow (shape_in image) row
      → Earlier (scanned_values s row) (scanned_values combination.state combination.row) → (scan_of image s row).answer ≡ accepted tt
  pub stands : get_elem? (combinations_of (shape_in image)) n ≡ some combination
  pub left : closed_of image ≡ closed_by (refused_at n combination) (replicate name_limit (pos 0)) (replicate name_limit (pos 0))

-- The second part's answer, unless the first is refused.
abbrev pub unless_refused : Answer (Unit {0}) → AfterClosed → AfterClosed → AfterClosed
unless_refused (refused number place) first second = first
unless_refused (accepted u) first second = second

-- The profile in parts (law `closed_in_parts`): the whole is the part of all, and a part is what two parts of it answer in turn.
pub record InParts (image : List ℕ) : Type 0 where
  pub whole : (most : ℕ) → combination_limit ≤ most → closed_of image ≡ closed_part_of image 0 most
  pub divided : (first k most : ℕ) → closed_part_of image first (k + most) ≡ unless_refused (closed_part_of image first k).answer (closed_part_of image first k) (closed_part_of image (first + k) most)
