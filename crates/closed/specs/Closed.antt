-- The closed profile: the walk over every in-range state with every in-range row, for every input. Document 02, A.10. Assumes nothing.
use Rattle.std.specs.Prelude.{ℕ, zero, suc, ◌+◌, ◌*◌, Bool, not, ◌&&◌, cond, List, [], ◌∷◌, ◌++◌, map, eqb, leb, ℤ, pos, negsuc, ◌+ℤ◌, ◌-ℤ◌, length, take, drop, replicate}
use Rattle.std.proofs.Math.Option.{Option, none, some}
use Rattle.std.proofs.Math.ListN.{get_elem?}
use Rattle.limits.specs.Limits.{name_limit, combination_limit, wrong_length, not_small, not_closed}
use Rattle.limits.specs.Answer.{Answer, accepted, refused}
use Rattle.semantics.specs.Program.{Range}
use Rattle.semantics.specs.Formula.{State}
use Rattle.semantics.specs.ReferenceScan.{with_inputs}
use Rattle.bytecode.specs.Check.{check_of}
use Rattle.bytecode.specs.Parts.{shape_in}
use Rattle.semantics.specs.Shape.{Shape, has_timer, state_length, row_length}
use Rattle.scan.specs.Services.{scan_of}

-- ---- sizes

abbrev pub above_zero : ℤ → ℕ
above_zero (pos n) = n
above_zero (negsuc n) = 0

-- how many values a range has: a sound image has low ≤ high
unfoldable pub size_between : ℤ → ℤ → ℕ
size_between low high = suc (above_zero (high -ℤ low))

abbrev pub size_of : Range → ℕ
size_of n = size_between n.low n.high

abbrev pub product_of_sizes : List Range → ℕ
product_of_sizes [] = 1
product_of_sizes (n ∷ ns) = size_of n * product_of_sizes ns

abbrev pub input_ranges : Shape → List Range
input_ranges h = take h.inputs h.ranges

-- The product of all range sizes times the product of the input range sizes must be at most 65,536. Else 26, and so with a timer.
unfoldable pub is_small : Shape → Bool
is_small h = not (has_timer h.limits) && leb (product_of_sizes h.ranges * product_of_sizes (input_ranges h)) combination_limit

-- ---- combinations

-- so many numbers, from one on
abbrev pub upwards : ℕ → ℤ → List ℤ
upwards zero z = []
upwards (suc k) z = z ∷ upwards k (z +ℤ pos 1)

-- each of the numbers before every one of the lists
abbrev pub prefixed : List ℤ → List (List ℤ) → List (List ℤ)
prefixed [] ls = []
prefixed (z ∷ zs) ls = map (λ l. z ∷ l) ls ++ prefixed zs ls

-- The last declared name moves fastest, from low to high.
abbrev pub combinations : List Range → List (List ℤ)
combinations [] = [] ∷ []
combinations (n ∷ ns) = prefixed (upwards (size_of n) n.low) (combinations ns)

pub record Combination : Type 0 where
  pub state : State
  pub row : List ℤ

abbrev pub with_rows : State → List (List ℤ) → List Combination
with_rows s rows = map (λ r. record { state = s; row = r }) rows

-- Rows are tried inside states.
abbrev pub paired : List State → List (List ℤ) → List Combination
paired [] rows = []
paired (s ∷ ss) rows = with_rows s rows ++ paired ss rows

-- every in-range state with every in-range row
unfoldable pub combinations_of : Shape → List Combination
combinations_of h = paired (combinations h.ranges) (combinations (input_ranges h))

-- ---- the walk

-- no scan was refused; or the scans before the refused one, and its combination
pub data Walked : Type 0 where
  every_accepted : Walked
  refused_at : ℕ → Combination → Walked

abbrev pub go_on : Answer (Unit {0}) → Walked → Walked → Walked
go_on (accepted u) more end = more
go_on (refused number place) more end = end

-- The walk ends at the first scan that is refused; n were done before.
abbrev pub walked : (Combination → Answer (Unit {0})) → List Combination → ℕ → Walked
walked scans [] n = every_accepted
walked scans (c ∷ cs) n = go_on (scans c) (walked scans cs (n + 1)) (refused_at n c)

-- what a scan of the combination answers
abbrev pub scanning : List ℕ → Combination → Answer (Unit {0})
scanning image c = (scan_of image c.state c.row).answer

-- ---- the services

-- the answer, with a state and a row left
pub record AfterClosed : Type 0 where
  pub answer : Answer (Unit {0})
  pub state : List ℤ
  pub row : List ℤ

abbrev pub leaves : Answer (Unit {0}) → List ℤ → List ℤ → AfterClosed
leaves a state row = record { answer = a; state = state; row = row }

-- Errors: 9, 11, then 26 a timer or too large a product, which leave state and row as found; then what the combinations answer.
abbrev pub if_small : Answer (Unit {0}) → Shape → (List ℤ → List ℤ → AfterClosed) → List ℤ → List ℤ → AfterClosed
if_small (refused number place) h answered state row = leaves (refused number place) state row
if_small (accepted u) h answered state row = cond (is_small h) (answered state row) (leaves (refused not_small 0) state row)

-- ---- the profile

-- 27 has the number of scans before the refused one as its place; its state and row stand at the front of the two. Every other answer leaves them as found.
abbrev pub closed_by : Walked → List ℤ → List ℤ → AfterClosed
closed_by every_accepted state row = leaves (accepted tt) state row
closed_by (refused_at n c) state row = leaves (refused not_closed n) (with_inputs state c.state) (with_inputs row c.row)

-- of 64 numbers, those behind the state and the row are 0
unfoldable pub closed_of : List ℕ → AfterClosed
closed_of image = if_small (check_of image) (shape_in image) (closed_by (walked (scanning image) (combinations_of (shape_in image)) 0)) (replicate name_limit (pos 0)) (replicate name_limit (pos 0))

-- ---- the profile in parts

-- the combinations numbered first, first + 1, .., at most `most` of them, and none beyond the last
unfoldable pub part_of : Shape → ℕ → ℕ → List Combination
part_of h first most = take most (drop first (combinations_of h))

-- 27 counts the scans before the refused one from the first of all, so the whole is its parts (law `closed_in_parts`).
unfoldable pub part_in : List ℕ → ℕ → ℕ → List ℤ → List ℤ → AfterClosed
part_in image first most state row = if_small (check_of image) (shape_in image) (closed_by (walked (scanning image) (part_of (shape_in image) first most) first)) state row

unfoldable pub closed_part_of : List ℕ → ℕ → ℕ → AfterClosed
closed_part_of image first most = part_in image first most (replicate name_limit (pos 0)) (replicate name_limit (pos 0))

-- ---- one combination by its number

-- An index that no combination has is 12 (left open by the document).
abbrev pub combined : Option Combination → List ℤ → List ℤ → AfterClosed
combined none state row = leaves (refused wrong_length 0) state row
combined (some c) state row = leaves (accepted tt) c.state c.row

-- Then 12, a state or row of wrong length.
abbrev pub combined_in : Shape → ℕ → List ℤ → List ℤ → AfterClosed
combined_in h index state row =
    cond (eqb (length state) (state_length h) && eqb (length row) (row_length h))
    (combined (get_elem? (combinations_of h) index) state row)
    (leaves (refused wrong_length 0) state row)

unfoldable pub combination_of : List ℕ → ℕ → List ℤ → List ℤ → AfterClosed
combination_of image index state row = if_small (check_of image) (shape_in image) (combined_in (shape_in image) index) state row
