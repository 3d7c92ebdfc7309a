-- The closed profile in parts: the whole is its parts. Assumes nothing.
use mathlib.Core.Path.{◌≡◌, refl, sym, ap, ◌∙◌}
use mathlib.Core.Bool.{true, not}
use mathlib.Core.List.{List, [], ◌∷◌}
use Prim.Native.Nat.{ℕ, zero, suc, ◌+◌, ◌*◌, ◌≤◌}
use native.Mathlib.Omega.{arith}
use borrow.Author.Tests.{leb-true}
use lib.Dec.{leb}
use lib.IntN.{ℤ}
use lib.ListN.{length, take, drop}
use lib.Seq.{take_all, take-nil, drop-drop}
use Rattle.limits.specs.Answer.{Answer, accepted, refused}
use Rattle.arith.proofs.Basics.{and_both}
use Rattle.semantics.specs.Shape.{Shape, has_timer}
use Rattle.bytecode.specs.Parts.{shape_in}
use Rattle.closed.specs.Closed.{product_of_sizes, input_ranges, is_small, combinations, Combination, combinations_of, Walked, every_accepted, refused_at, go_on, walked, scanning, AfterClosed, closed_by, closed_of, part_of, part_in, closed_part_of}
use Rattle.closed.specs.Claims.{unless_refused, InParts}
use Rattle.closed.proofs.Combining.{combinations_count, paired_count}
use Rattle.closed.proofs.Profiles.{ways}

-- ---- the whole

-- a small image has no more combinations
small_count : (h : Shape) → is_small h ≡ true → length (combinations_of h) ≤ 65536
unfolding is_small combinations_of
small_count h e =
    let s : product_of_sizes h.ranges * product_of_sizes (input_ranges h) ≤ 65536 = leb-true _ 65536 (and_both (not (has_timer h.limits)) (leb (product_of_sizes h.ranges * product_of_sizes (input_ranges h)) 65536) e).1 in
    let n : length (combinations_of h) ≡ product_of_sizes h.ranges * product_of_sizes (input_ranges h) = paired_count (combinations h.ranges) (combinations (input_ranges h)) ∙ rw (combinations_count h.ranges, combinations_count (input_ranges h)) in
    omega arith

-- ---- two parts

-- the second walk, unless the first was refused
abbrev after : Walked → Walked → Walked
after every_accepted more = more
after (refused_at n c) more = refused_at n c

after_one : (a : Answer (Unit {0})) (more behind whole end : Walked) → whole ≡ after more behind → after end behind ≡ end → go_on a whole end ≡ after (go_on a more end) behind
after_one (accepted u) more behind whole end e q = e
after_one (refused number place) more behind whole end e q = sym q

walked_divided : (f : Combination → Answer (Unit {0})) (l : List Combination) (k m n : ℕ) → walked f (take (k + m) l) n ≡ after (walked f (take k l) n) (walked f (take m (drop k l)) (n + k))
walked_divided f l zero m n =
    let a : 0 + m ≡ m = omega arith in
    let b : n + 0 ≡ n = omega arith in
    rw (a, b)
walked_divided f [] (suc k) m n =
    let a : suc k + m ≡ suc (k + m) = omega arith in
    rw (a, take-nil m)
walked_divided f (c ∷ l) (suc k) m n =
    let a : suc k + m ≡ suc (k + m) = omega arith in
    let b : n + suc k ≡ n + 1 + k = omega arith in
    rw (a, b) (after_one (f c) (walked f (take k l) (n + 1)) (walked f (take m (drop k l)) (n + 1 + k)) (walked f (take (k + m) l) (n + 1)) (refused_at n c) (walked_divided f l k m (n + 1)) refl)

closed_after : (v w : Walked) (state row : List ℤ) → closed_by (after v w) state row ≡ unless_refused (closed_by v state row).answer (closed_by v state row) (closed_by w state row)
closed_after every_accepted w state row = refl
closed_after (refused_at n c) w state row = refl

-- ---- the law

module _ (image : List ℕ) where
  abbrev all : List Combination
  all = combinations_of (shape_in image)

  abbrev part : ℕ → ℕ → List ℤ → List ℤ → AfterClosed
  part first most = closed_by (walked (scanning image) (part_of (shape_in image) first most) first)

  two_parts : (first k most : ℕ) (state row : List ℤ) → part first (k + most) state row ≡ unless_refused (part first k state row).answer (part first k state row) (part (first + k) most state row)
  unfolding part_of
  two_parts first k most state row =
      ap (λ (w : Walked). closed_by w state row) (walked_divided (scanning image) (drop first all) k most first)
      ∙ closed_after (walked (scanning image) (take k (drop first all)) first) (walked (scanning image) (take most (drop k (drop first all))) (first + k)) state row
      ∙ rw (drop-drop k first all)

  pub closed_in_parts : InParts image
  unfolding closed_of closed_part_of part_in part_of
  closed_in_parts = record {
    whole = λ most h. ways image _ _ (λ x. x (closed_by (walked (scanning image) all 0)) ≡ x (part 0 most)) (λ number place n. refl) (λ sound small. let n = small_count (shape_in image) small in rw (take_all most all (omega arith)));
    divided = λ first k most. ways image _ _ (λ x. x (part first (k + most)) ≡ unless_refused (x (part first k)).answer (x (part first k)) (x (part (first + k) most))) (λ number place n. refl) (λ sound small. two_parts first k most _ _);
  }

-- Cut in two anywhere, the whole is what the first part answers if it is refused, else what the second does.
pub closed_cut : (image : List ℕ) (k : ℕ) → closed_of image ≡ unless_refused (closed_part_of image 0 k).answer (closed_part_of image 0 k) (closed_part_of image k 65536)
closed_cut image k =
    let p = closed_in_parts image in
    let n : 0 + k ≡ k = omega arith in
    p.whole (k + 65536) (omega arith) ∙ rw n at (p.divided 0 k 65536)
