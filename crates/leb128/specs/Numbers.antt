-- Numbers in the bytes of an image: unsigned LEB128 in its shortest form. Document 01, "The image", first two sentences.
-- Assumes nothing.
use Rattle.std.specs.Prelude.{ℕ, zero, suc, ◌+◌, ◌-◌, ◌*◌, ◌/◌, ◌%◌, ◌^◌, cond, List, [], ◌∷◌, eqb, ltb, ℤ, pos, negsuc, drop}

-- ---- writing

-- Numbers are in groups of seven bits, lowest group first, top bit set where another follows: here at most k further groups.
unfoldable pub groups : ℕ → ℕ → List ℕ
groups zero n = n ∷ []
groups (suc k) n = cond (ltb n 128) (n ∷ []) ((128 + n % 128) ∷ groups k (n / 128))

-- every number of an image is below 2 ^ 32, so five groups hold it
unfoldable pub number : ℕ → List ℕ
number n = groups 4 n

-- A signed z is written as 2z if z ≥ 0, else −2z − 1 (negsuc n is −n − 1).
unfoldable pub zigzag : ℤ → ℕ
zigzag (pos n) = 2 * n
zigzag (negsuc n) = 2 * n + 1

unfoldable pub unzigzag : ℕ → ℤ
unzigzag u = cond (eqb (u % 2) 0) (pos (u / 2)) (negsuc (u / 2))

-- ---- reading

-- what a list begins with: a number, of so many bytes; or no number in shortest form
pub data Found : Type 0 where
  found : ℕ → ℕ → Found
  none : Found

-- a group before what is found behind it; shortest form only: a last group of 0 is none
unfoldable pub grouped : ℕ → Found → Found
grouped low none = none
grouped low (found zero k) = none
grouped low (found (suc v) k) = found (low + suc v * 128) (k + 1)

unfoldable pub number_in : List ℕ → Found
number_in [] = none
number_in (b ∷ bs) = cond (ltb b 128) (found b 1) (grouped (b - 128) (number_in bs))

-- what was read at a place, and the place behind it; or nothing
pub data Read (A : Type 0) : Type 0 where
  got : A → ℕ → Read A
  nothing : Read A

-- what is read next, from the place behind
infixl 20 ◌then◌
abbrev pub ◌then◌ : {A B : Type 0} → Read A → (A → ℕ → Read B) → Read B
got a next then f = f a next
nothing then f = nothing

unfoldable pub below32 : ℕ → Found → Read ℕ
below32 at none = nothing
below32 at (found v k) = cond (ltb v (2 ^ 32)) (got v (at + k)) nothing

-- the number at a place, below 2 ^ 32
unfoldable pub number_at : List ℕ → ℕ → Read ℕ
number_at bytes at = below32 at (number_in (drop at bytes))

-- the signed number at a place
unfoldable pub signed_at : List ℕ → ℕ → Read ℤ
signed_at bytes at = number_at bytes at then λ u next. got (unzigzag u) next
