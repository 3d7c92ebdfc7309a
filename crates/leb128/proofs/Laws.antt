-- Laws of the groups of seven bits. Assumes nothing.
use mathlib.Core.Path.{◌≡◌, refl, sym, ap}
use mathlib.Core.Bool.{Bool, true, false, ◌||◌, cond}
use mathlib.Core.Logic.{◌⊎◌, inl, inr, ⊎_elim}
use mathlib.Core.List.{List, [], ◌∷◌}
use Prim.Native.Nat.{ℕ, zero, suc, ◌+◌, ◌*◌, ◌-◌, ◌/◌, ◌%◌, ◌^◌, ◌≤◌, ◌<◌}
use native.Mathlib.Nat.{suc-mul, mul_comm, add-mul, mul_assoc, mul-le-mul_right, pow-suc}
use native.Mathlib.Numerals.{add-one}
use native.Mathlib.Omega.{arith}
use lib.Dec.{leb, ltb, eqb}
use lib.ListN.{length, get_or, drop, drop_of_length-le}
use lib.Seq.{drop-cons, get_or-drop}
use borrow.Author.Tests.{lt-ltb, le-ltb, le-leb, ne_eqb, ltb-true}
use Rattle.leb128.specs.Numbers.{groups, number, Found, found, none, grouped, number_in, Read, got, nothing, below32, number_at}
use Rattle.leb128.specs.Inner.Groups.{joined_groups}

-- ---- the writer

pub lower : (k n : ℕ) → n < 128 ^ suc (suc k) → n / 128 < 128 ^ suc k
lower k n h = let e : 128 ^ suc (suc k) ≡ 128 ^ suc k * 128 = pow-suc 128 (suc k) in omega arith

-- a number that has room in k + 1 groups takes no more of them where it may
more_room : (k n : ℕ) → n < 128 ^ suc k → groups (suc k) n ≡ groups k n
unfolding groups
more_room zero n h = rw (lt-ltb n 128 h)
more_room (suc k) n h = ap (λ (l : List ℕ). cond (ltb n 128) (n ∷ []) ((128 + n % 128) ∷ l)) (more_room k (n / 128) (lower k n h))

pub groups_one : (n : ℕ) → n < 128 → number n ≡ n ∷ []
unfolding number groups
groups_one n h = rw (lt-ltb n 128 h)

pub groups_more : (n : ℕ) → n < 2 ^ 32 → 128 ≤ n → number n ≡ (128 + n % 128) ∷ number (n / 128)
unfolding number groups
groups_more n h l = rw (le-ltb n 128 l) (ap (λ (r : List ℕ). (128 + n % 128) ∷ r) (sym (more_room 3 (n / 128) (omega arith))))

length_cond : (t : Bool) (a b : List ℕ) (m : ℕ) → length a ≤ m → length b ≤ m → length (cond t a b) ≤ m
length_cond true a b m p q = p
length_cond false a b m p q = q

length_groups : (k n : ℕ) → length (groups k n) ≤ k + 1
unfolding groups
length_groups zero n = omega arith
length_groups (suc k) n = length_cond (ltb n 128) _ _ _ (omega arith) (omega (arith, length_groups k (n / 128)))

pub at_most_five : (n : ℕ) → length (number n) ≤ 5
unfolding number
at_most_five n = length_groups 4 n

-- ---- the reader

-- a number of k groups is below 128 ^ k, and if k is more than one, it is no number of fewer
abbrev pub Sized : Found → Type 0
Sized (found v k) = (1 ≤ k) × (v < 128 ^ k) × ((k < 2) ⊎ (128 ^ k ≤ v * 128))
Sized none = Unit

sized_after : (low : ℕ) (f : Found) → low < 128 → Sized f → Sized (grouped low f)
unfolding grouped
sized_after low none l s = tt
sized_after low (found zero k) l s = tt
sized_after low (found (suc v) k) l s =
    let e : 128 ^ (k + 1) ≡ 128 ^ k * 128 = rw add-one (pow-suc 128 k) in
    let big : 128 ^ k ≤ suc v * 128 = ⊎_elim (λ (q : k < 2). let k1 : k ≡ 1 = omega (arith, s.0) in rw k1 (omega arith)) (λ q. q) s.2 in
    (omega arith, omega (arith, s.1), inr (omega arith))

sized_cond : (t : Bool) (b : ℕ) (f : Found) → (t ≡ true → b < 128) → b < 256 → Sized f → Sized (cond t (found b 1) (grouped (b - 128) f))
sized_cond true b f y l s = (omega arith, y refl, inl (omega arith))
sized_cond false b f y l s = sized_after (b - 128) f (omega arith) s

abbrev pub Bytes : List ℕ → Type 0
Bytes s = (i : ℕ) → get_or s i 0 < 256

pub sized : (s : List ℕ) → Bytes s → Sized (number_in s)
unfolding number_in
sized [] h = tt
sized (b ∷ s) h = sized_cond (ltb b 128) b (number_in s) (ltb-true b 128) (h 0) (sized s (λ i. h (suc i)))

pub sized_at : (s : List ℕ) (at : ℕ) → Bytes s → Sized (number_in (drop at s))
sized_at s at h = sized (drop at s) (λ i. rw get_or-drop (h (at + i)))

pub after_nonzero : (low v k : ℕ) → 1 ≤ v → grouped low (found v k) ≡ found (low + v * 128) (k + 1)
unfolding grouped
after_nonzero low zero k h = absurd (omega arith)
after_nonzero low (suc v) k h = refl

-- what a list has at a place: nothing, a last group, or a group before others
module _ (s : List ℕ) (at : ℕ) where
  pub at_end_lem : length s ≤ at → number_in (drop at s) ≡ none
  unfolding number_in
  at_end_lem h = rw (drop_of_length-le s h)

  pub at_last : at < length s → get_or s at 0 < 128 → number_in (drop at s) ≡ found (get_or s at 0) 1
  unfolding number_in
  at_last h l = rw (drop-cons s at 0 h, lt-ltb (get_or s at 0) 128 l)

  pub at_more : at < length s → 128 ≤ get_or s at 0 → number_in (drop at s) ≡ grouped (get_or s at 0 - 128) (number_in (drop (at + 1) s))
  unfolding number_in
  at_more h l = rw (add-one, drop-cons s at 0 h, le-ltb (get_or s at 0) 128 l)

  -- a number of one group
  pub one_group : at < length s → get_or s at 0 < 128 → number_at s at ≡ got (get_or s at 0) (at + 1)
  unfolding number_at below32
  one_group h l = rw (at_last h l, lt-ltb (get_or s at 0) (2 ^ 32) (omega arith))

-- ---- the reader's loop: groups of value `low`, of which the next counts `scale`, before what is found behind them

-- what a group adds stays below what a 1 of the next counts
pub low_below : (low scale g : ℕ) → low < scale → g < 128 → low + g * scale < scale * 128
low_below low scale g l h = let m : g * scale ≤ 127 * scale = mul-le-mul_right scale (omega arith) in omega arith

-- before the first group
pub joined_first : (f : Found) → joined_groups 0 1 f ≡ f
unfolding joined_groups
joined_first none = refl
joined_first (found zero k) = refl
joined_first (found (suc v) k) = let n : 0 + suc v * 1 ≡ suc v = omega arith in rw (le-leb 1 (suc v) (omega arith), n)

-- one group further
joined_more : (low scale g at : ℕ) (f : Found) → below32 at (joined_groups low scale (grouped g f)) ≡ below32 (at + 1) (joined_groups (low + g * scale) (scale * 128) f)
unfolding joined_groups grouped below32
joined_more low scale g at none = refl
joined_more low scale g at (found zero k) = rw (ne_eqb (scale * 128) 1 (λ e. omega arith))
joined_more low scale g at (found (suc v) k) =
    let n : low + (g + suc v * 128) * scale ≡ low + g * scale + suc v * (scale * 128) =
    rw (add-mul g (suc v * 128) scale, mul_assoc (suc v) 128 scale, mul_comm 128 scale) (omega arith) in
    let p : at + (k + 1) ≡ at + 1 + k = omega arith in
    rw (le-leb 1 (g + suc v * 128) (omega arith), le-leb 1 (suc v) (omega arith), n, p)

pub joined_at : (s : List ℕ) (at low scale : ℕ) → at < length s → 128 ≤ get_or s at 0
    → below32 at (joined_groups low scale (number_in (drop at s))) ≡ below32 (at + 1) (joined_groups (low + (get_or s at 0 - 128) * scale) (scale * 128) (number_in (drop (at + 1) s)))
joined_at s at low scale h l = rw (at_more s at h l) (joined_more low scale (get_or s at 0 - 128) at (number_in (drop (at + 1) s)))

-- a number of 2 ^ 32 or more is none, whatever its last group
large : (t : Bool) (v at k : ℕ) → 2 ^ 32 ≤ v → below32 at (cond t (found v k) none) ≡ nothing
unfolding below32
large true v at k h = rw (le-ltb v (2 ^ 32) h)
large false v at k h = refl

pub joined_large : (low scale v at k : ℕ) → 2 ^ 32 ≤ low + v * scale → below32 at (joined_groups low scale (found v k)) ≡ nothing
unfolding joined_groups
joined_large low scale v at k h = large (leb 1 v || eqb scale 1) (low + v * scale) at k h

-- where a 1 counts 2 ^ 32 or more, there is no number below that
pub joined_over : (low scale at : ℕ) (f : Found) → 2 ^ 32 ≤ scale → below32 at (joined_groups low scale f) ≡ nothing
unfolding joined_groups below32
joined_over low scale at none h = refl
joined_over low scale at (found zero k) h = rw (ne_eqb scale 1 (λ e. omega arith))
joined_over low scale at (found (suc v) k) h = joined_large low scale (suc v) at k (omega (arith, suc-mul v scale))

-- a number that is read is below 2 ^ 32
abbrev pub Below32 : Read ℕ → Type 0
Below32 (got v n) = v < 2 ^ 32
Below32 nothing = Unit

below_cond : (t : Bool) (v n : ℕ) → (t ≡ true → v < 2 ^ 32) → Below32 (cond t (got v n) nothing)
below_cond true v n h = h refl
below_cond false v n h = tt

pub below_found : (at : ℕ) (f : Found) → Below32 (below32 at f)
unfolding below32
below_found at (found v k) = below_cond (ltb v (2 ^ 32)) v (at + k) (ltb-true v (2 ^ 32))
below_found at none = tt

pub below : (s : List ℕ) (at : ℕ) → Below32 (number_at s at)
unfolding number_at
below s at = below_found at (number_in (drop at s))
