-- The ways of the services: the tests before the combinations, the products and the walk of an image's names. Assumes nothing.
use mathlib.Core.Path.{◌≡◌, refl, sym, ap, ap₂, ◌∙◌}
use mathlib.Core.Bool.{Bool, true, false, cond}
use mathlib.Core.List.{List, [], ◌∷◌, map}
use Rattle.std.specs.Prelude.{Option, Some, None}
use Prim.Native.Nat.{ℕ, zero, suc, ◌+◌, ◌-◌, ◌*◌, ◌≤◌, ◌<◌, min}
use native.Mathlib.Nat.{mul-le-mul}
use native.Mathlib.Omega.{arith}
use borrow.Author.Tests.{le-leb, lt-leb, leb-true, leb-false}
use lib.Dec.{leb}
use lib.IntN.{ℤ}
use lib.ListN.{length, take, drop, length-drop, drop_of_length-le}
use lib.Seq.{take_all, take-nil}
use Rattle.limits.specs.Answer.{Answer, accepted, refused}
use Rattle.semantics.specs.Program.{Range}
use Rattle.semantics.specs.ReferenceScan.{with_inputs}
use Rattle.semantics.specs.Shape.{has_timer}
use Rattle.bytecode.specs.Check.{check_of}
use Rattle.bytecode.specs.Parts.{header_of, limits_of, shape_in}
use Rattle.bytecode.proofs.Limits.{no_times}
use Rattle.bytecode.proofs.CheckNumbers.{CheckRefusal, too_long_lem, broken, check_numbers}
use Rattle.machine.specs.Inner.Memory.{RangesIn}
use Rattle.closed.specs.Closed.{product_of_sizes, input_ranges, is_small, combinations, Combination, paired, combinations_of, every_accepted, refused_at, walked, AfterClosed, leaves, if_small, combined_in, combination_of}
use Rattle.closed.specs.Inner.Parts.{working, visited_as, part_working, combined_ranges}
use Rattle.closed.proofs.Combining.{combinations_count, paired_count}
use Rattle.closed.proofs.Walks.{ahead}

-- ---- 9, 11 and 26 leave state and row as found, else the combinations answer

not_check : (number : ℕ) → CheckRefusal number → number ≡ 27 → ⊥
not_check number too_long_lem e = omega arith
not_check number broken e = omega arith

module _ (image : List ℕ) (state row : List ℤ) where
  -- what holds of each way holds of a service; none but the combinations answers 27
  pub ways : (P : ((List ℤ → List ℤ → AfterClosed) → AfterClosed) → Type 0) → ((number place : ℕ) → (number ≡ 27 → ⊥) → P (λ f. leaves (refused number place) state row))
      → (check_of image ≡ accepted tt → is_small (shape_in image) ≡ true → P (λ f. f state row)) → P (λ f. if_small (check_of image) (shape_in image) f state row)
  ways P before small = by (check_of image) refl
    where
      tested : (b : Bool) → check_of image ≡ accepted tt → is_small (shape_in image) ≡ b → P (λ f. cond b (f state row) (leaves (refused 26 0) state row))
      tested true e q = small e q
      tested false e q = before 26 0 (λ n. omega arith)

      by : (a : Answer (Unit {0})) → check_of image ≡ a → P (λ f. if_small a (shape_in image) f state row)
      by (refused number place) e = before number place (not_check number (check_numbers image number place e))
      by (accepted u) e = tested (is_small (shape_in image)) e refl

  module _ (f : List ℤ → List ℤ → AfterClosed) where
    -- 9 and 11
    pub small_refused : (number place : ℕ) → check_of image ≡ refused number place → leaves (refused number place) state row ≡ if_small (check_of image) (shape_in image) f state row
    small_refused number place e = rw e

    module _ (sound : check_of image ≡ accepted tt) where
      -- 26 a timer
      pub small_timed : has_timer (limits_of image) ≡ true → leaves (refused 26 0) state row ≡ if_small (check_of image) (shape_in image) f state row
      unfolding is_small
      small_timed e = rw (sound, e)

      -- 26 too large a product, else the combinations
      pub small_untimed : has_timer (limits_of image) ≡ false
          → cond (leb (product_of_sizes (header_of image).ranges * product_of_sizes (input_ranges (shape_in image))) 65536) (f state row) (leaves (refused 26 0) state row) ≡ if_small (check_of image) (shape_in image) f state row
      unfolding is_small
      small_untimed e = rw (sound, e)

  pub combination_from : (index inputs : ℕ) → check_of image ≡ accepted tt → (header_of image).inputs ≡ inputs → has_timer (limits_of image) ≡ false
      → combined_ranges (header_of image).ranges inputs index state row ≡ combination_of image index state row
  unfolding combination_of combinations_of
  combination_from index inputs sound e untimed = rw (← e) (rw (no_times image untimed, untimed) at (small_untimed (combined_in (shape_in image) index) sound untimed))

-- ---- the ranges of the inputs

map_take : (f : Range → ℤ) (k : ℕ) (ns : List Range) → map f (take k ns) ≡ take k (map f ns)
map_take f zero ns = refl
map_take f (suc k) [] = refl
map_take f (suc k) (n ∷ ns) = ap (λ (l : List ℤ). f n ∷ l) (map_take f k ns)

pub ranges_taken : (k : ℕ) (ns : List Range) (low high : List ℤ) → RangesIn ns low high → RangesIn (take k ns) (take k low) (take k high)
ranges_taken k ns low high r = record { lows = map_take (λ n. n.low) k ns ∙ ap (take k) r.lows; highs = map_take (λ n. n.high) k ns ∙ ap (take k) r.highs }

-- ---- the two products, each at most one over the limit

capped_fits : (p q : ℕ) → p ≤ 65537 → q ≤ 65537 → p * q ≤ 4295098369
capped_fits p q h k = mul-le-mul h k

pub capped_product : (p q : ℕ) → p ≤ 65537 → q ≤ 65537 → p * q < 18446744073709551616
capped_product p q h k = omega (arith, capped_fits p q h k)

module _ (P Q p q : ℕ) (e : p ≡ min P 65537) (f : q ≡ min Q 65537) where
  pub too_large : 65536 < p * q → leb (P * Q) 65536 ≡ false
  too_large h =
      let k : p * q ≤ P * Q = mul-le-mul (omega arith) (omega arith) in
      lt-leb (P * Q) 65536 (omega arith)

-- small enough: the two are the products themselves
pub record Sized (P Q p q : ℕ) : Type 0 where
  pub first : p ≡ P
  pub second : q ≡ Q
  pub small : leb (P * Q) 65536 ≡ true

pub sized : (P Q p q : ℕ) → p ≡ min P 65537 → q ≡ min Q 65537 → 1 ≤ p → 1 ≤ q → p * q ≤ 65536 → Sized P Q p q
sized P Q p q e f a b h =
    let k : p * 1 ≤ p * q = mul-le-mul {n₁ = p} {n₂ = p} (omega arith) b in
    let l : 1 * q ≤ p * q = mul-le-mul {m₁ = q} {m₂ = q} a (omega arith) in
    let x : p ≡ P = omega arith in
    let y : q ≡ Q = omega arith in
    let m : p * q ≡ P * Q = ap₂ (λ (m n : ℕ). m * n) x y in
    record { first = x; second = y; small = le-leb (P * Q) 65536 (omega arith) }

-- ---- the walk

-- no further than the last
taken_before : (l : List Combination) (first most end all : ℕ) → length l ≡ all → first ≤ all → end ≡ min (first + most) all → take (end - first) (drop first l) ≡ take most (drop first l)
taken_before l first most end all e h m = by (leb (first + most) all) (leb-true (first + most) all) (leb-false (first + most) all)
  where
    by : (t : Bool) → (t ≡ true → first + most ≤ all) → (t ≡ false → all < first + most) → take (end - first) (drop first l) ≡ take most (drop first l)
    by true y n = let k = y refl in let q : end - first ≡ most = omega arith in rw q
    by false y n =
        let k = n refl in
        let q : length (drop first l) ≡ all - first = length-drop first l ∙ ap (λ (n : ℕ). n - first) e in
        take_all (end - first) (drop first l) (omega arith) ∙ sym (take_all most (drop first l) (omega arith))

module _ (ns : List Range) (inputs : ℕ) (code : List ℕ) (first most : ℕ) (state row : List ℤ) (small : leb (product_of_sizes ns * product_of_sizes (take inputs ns)) 65536 ≡ true) where
  abbrev combos : List Combination
  combos = paired (combinations ns) (combinations (take inputs ns))

  combos_count : length combos ≡ product_of_sizes ns * product_of_sizes (take inputs ns)
  combos_count = paired_count (combinations ns) (combinations (take inputs ns)) ∙ ap₂ (λ (m n : ℕ). m * n) (combinations_count ns) (combinations_count (take inputs ns))

  -- a part beyond the last is empty
  pub closed_beyond : product_of_sizes ns * product_of_sizes (take inputs ns) ≤ first → leaves (accepted tt) state row ≡ part_working ns inputs code first most state row
  closed_beyond h =
      let k : length combos ≤ first = omega (arith, combos_count) in
      let d : drop first combos ≡ [] = drop_of_length-le combos k in
      rw (small, d, take-nil most)

  module _ (end : ℕ) (h : first ≤ product_of_sizes ns * product_of_sizes (take inputs ns)) (m : end ≡ min (first + most) (product_of_sizes ns * product_of_sizes (take inputs ns))) where
    part_is : ahead (working ns code) ns (take inputs ns) end first ≡ walked (working ns code) (take most (drop first combos)) first
    part_is = ap (λ (l : List Combination). walked (working ns code) l first) (taken_before combos first most end _ combos_count h m)

    pub closed_through : (r : Option ℕ) (s t : List ℤ) → visited_as r s t ≡ ahead (working ns code) ns (take inputs ns) end first → r ≡ None
        → leaves (accepted tt) state row ≡ part_working ns inputs code first most state row
    closed_through r s t e q = let k : walked (working ns code) (take most (drop first combos)) first ≡ every_accepted = sym part_is ∙ sym e ∙ ap (λ (x : Option ℕ). visited_as x s t) q in rw (small, k)

    pub closed_stopped : (r : Option ℕ) (s t left right : List ℤ) (n : ℕ) → visited_as r s t ≡ ahead (working ns code) ns (take inputs ns) end first → r ≡ Some n
        → left ≡ with_inputs state s → right ≡ with_inputs row t → leaves (refused 27 n) left right ≡ part_working ns inputs code first most state row
    closed_stopped r s t left right n e q a b =
        let k : walked (working ns code) (take most (drop first combos)) first ≡ refused_at n (record { state = s; row = t }) = sym part_is ∙ sym e ∙ ap (λ (x : Option ℕ). visited_as x s t) q in
        rw (small, k, a, b)
