-- Laws of the combinations: their order, their count, and that they are the lists within the ranges. Assumes nothing.
use mathlib.Core.Path.{◌≡◌, refl, ap, ap₂, ◌∙◌}
use mathlib.Core.Bool.{true, false}
use mathlib.Core.Logic.{◌⊎◌, inl, inr}
use mathlib.Core.List.{List, [], ◌∷◌, ◌++◌, map}
use Prim.Native.Nat.{ℕ, zero, suc, ◌*◌, ◌≤◌, ◌<◌}
use native.Mathlib.Omega.{arith}
use lib.IntN.{ℤ, pos, ◌+ℤ◌, ◌-ℤ◌}
use lib.ListN.{length, take, drop, length-append, length-map}
use lib.Signed.{le_z, ≤ℤ_refl}
use Rattle.arith.proofs.Basics.{T_true, and_left, and_right, and_T}
use Rattle.semantics.specs.Program.{Range, within}
use Rattle.semantics.specs.Formula.{State}
use Rattle.semantics.specs.Shape.{all_within}
use Rattle.bytecode.specs.Parts.{lows}
use Rattle.machine.proofs.Ranges.{Within}
use Rattle.closed.specs.Closed.{above_zero, size_between, size_of, product_of_sizes, upwards, prefixed, combinations, with_rows, paired}
use Rattle.closed.specs.Inner.Parts.{Turned, turned_to, turned, IsNth}
use Rattle.closed.proofs.Whole.{last_value, value_below, value_closer, at_least, next_within, same_number}

-- ---- order

-- behind s each list is what turning the one before it gives, and the last turns over to `first`
abbrev Follows : (List ℤ → Turned) → List ℤ → List ℤ → List (List ℤ) → Type 0
Follows f first s [] = f s ≡ turned_to true first
Follows f first s (t ∷ l) = (f s ≡ turned_to false t) × Follows f first t l

module _ (n : Range) (ns : List Range) (first : List ℤ) where
  -- one value of the first name with the lists of the others
  block : (z : ℤ) (more l : List (List ℤ)) (s : List ℤ)
      → ((t : List ℤ) → turned ns t ≡ turned_to true first → Follows (turned (n ∷ ns)) (n.low ∷ first) (z ∷ t) more)
      → Follows (turned ns) first s l → Follows (turned (n ∷ ns)) (n.low ∷ first) (z ∷ s) (map (λ t. z ∷ t) l ++ more)
  block z more [] s h e = h s e
  block z more (t ∷ l) s h e = (rw e.0, block z more l t h e.1)

  blocks : (k : ℕ) (z : ℤ) (rest : List (List ℤ)) → above_zero (n.high -ℤ z) ≡ k → Follows (turned ns) first first rest
      → Follows (turned (n ∷ ns)) (n.low ∷ first) (z ∷ first) (map (λ t. z ∷ t) rest ++ prefixed (upwards k (z +ℤ pos 1)) (first ∷ rest))
  blocks zero z rest e f = block z [] rest first (λ t q. rw (q, last_value z n.high e)) f
  blocks (suc k) z rest e f =
      block z _ rest first
      (λ t q. (rw (q, value_below z n.high k e), blocks k (z +ℤ pos 1) rest (value_closer z n.high k e) f)) f

-- the first combination has every low, and each is followed by the next
record Ordered (ns : List Range) : Type 0 where
  rest : List (List ℤ)
  starts : combinations ns ≡ lows ns ∷ rest
  follows : Follows (turned ns) (lows ns) (lows ns) rest

ordered : (ns : List Range) → Ordered ns
unfolding size_between
ordered [] = record { rest = []; starts = refl; follows = refl }
ordered (n ∷ ns) =
    let o = ordered ns in
    record {
      rest = map (λ t. n.low ∷ t) o.rest ++ prefixed (upwards (above_zero (n.high -ℤ n.low)) (n.low +ℤ pos 1)) (lows ns ∷ o.rest);
      starts = rw o.starts;
      follows = blocks n ns (lows ns) (above_zero (n.high -ℤ n.low)) n.low o.rest refl o.follows;
    }

follows_at : (f : List ℤ → Turned) (first s t : List ℤ) (l : List (List ℤ)) (i : ℕ) → Follows f first s l → drop i (s ∷ l) ≡ t ∷ drop (suc i) (s ∷ l) → suc i < length (s ∷ l)
    → drop (suc i) (s ∷ l) ≡ (f t).values ∷ drop (suc (suc i)) (s ∷ l)
follows_at f first s t [] i g e h = let b : ⊥ = omega arith in absurd b
follows_at f first s t (u ∷ l) zero g e h = let q : s ≡ t = cc in rw (← q, g.0)
follows_at f first s t (u ∷ l) (suc i) g e h = follows_at f first u t l i g.1 e (omega arith)

pub combinations_first : (ns : List Range) → IsNth ns 0 (lows ns)
combinations_first ns = let o = ordered ns in rw o.starts

-- the odometer goes from each to the next
pub combinations_next : (ns : List Range) (i : ℕ) (s : List ℤ) → IsNth ns i s → suc i < length (combinations ns) → IsNth ns (suc i) (turned ns s).values
combinations_next ns i s e h =
    let o = ordered ns in
    let q = o.starts in
    rw q (follows_at (turned ns) (lows ns) (lows ns) s o.rest i o.follows (rw q at e) (rw q at h))

follows_last : (f : List ℤ → Turned) (first s t : List ℤ) (l : List (List ℤ)) (i : ℕ) → Follows f first s l → drop i (s ∷ l) ≡ t ∷ drop (suc i) (s ∷ l) → suc i ≡ length (s ∷ l)
    → (f t).values ≡ first
follows_last f first s t [] zero g e h = let q : s ≡ t = cc in rw (← q, g)
follows_last f first s t [] (suc i) g e h = let b : ⊥ = omega arith in absurd b
follows_last f first s t (u ∷ l) zero g e h = let b : ⊥ = omega arith in absurd b
follows_last f first s t (u ∷ l) (suc i) g e h = follows_last f first u t l i g.1 e (omega arith)

-- and from the last to the first
pub combinations_again : (ns : List Range) (i : ℕ) (s : List ℤ) → IsNth ns i s → suc i ≡ length (combinations ns) → IsNth ns 0 (turned ns s).values
combinations_again ns i s e h =
    let o = ordered ns in
    let q = o.starts in
    let v : (turned ns s).values ≡ lows ns = follows_last (turned ns) (lows ns) (lows ns) s o.rest i o.follows (rw q at e) (rw q at h) in
    rw v (combinations_first ns)

-- ---- count

length_upwards : (k : ℕ) (z : ℤ) → length (upwards k z) ≡ k
length_upwards zero z = refl
length_upwards (suc k) z = ap suc (length_upwards k (z +ℤ pos 1))

length_prefixed : (zs : List ℤ) (ls : List (List ℤ)) → length (prefixed zs ls) ≡ length zs * length ls
length_prefixed [] ls = omega arith
length_prefixed (z ∷ zs) ls = simp (length-append, length-map) (omega (arith, length_prefixed zs ls))

pub combinations_count : (ns : List Range) → length (combinations ns) ≡ product_of_sizes ns
combinations_count [] = refl
combinations_count (n ∷ ns) = length_prefixed (upwards (size_of n) n.low) (combinations ns) ∙ ap₂ (λ (a b : ℕ). a * b) (length_upwards (size_of n) n.low) (combinations_count ns)

pub product_one : (ns : List Range) → 1 ≤ product_of_sizes ns
product_one ns = let o = ordered ns in rw (← (combinations_count ns), o.starts) (omega arith)

pub paired_count : (ss : List State) (rs : List (List ℤ)) → length (paired ss rs) ≡ length ss * length rs
paired_count [] rs = omega arith
paired_count (s ∷ ss) rs = simp (length-append, length-map) (omega (arith, paired_count ss rs))

-- ---- what holds of each element

abbrev pub All : {A : Type 0} → (A → Type 0) → List A → Type 0
All P [] = Unit {0}
All P (a ∷ l) = P a × All P l

pub all_append : {A : Type 0} (P : A → Type 0) (l m : List A) → All P l → All P m → All P (l ++ m)
all_append P [] m h k = k
all_append P (a ∷ l) m h k = (h.0, all_append P l m h.1 k)

pub all_map : {A B : Type 0} (P : A → Type 0) (Q : B → Type 0) (f : A → B) (l : List A) → ((a : A) → P a → Q (f a)) → All P l → All Q (map f l)
all_map P Q f [] g h = tt
all_map P Q f (a ∷ l) g h = (g a h.0, all_map P Q f l g h.1)

pub all_weaker : {A : Type 0} (P Q : A → Type 0) (l : List A) → ((a : A) → P a → Q a) → All P l → All Q l
all_weaker P Q [] g h = tt
all_weaker P Q (a ∷ l) g h = (g a h.0, all_weaker P Q l g h.1)

pub all_taken : {A : Type 0} (P : A → Type 0) (n : ℕ) (l : List A) → All P l → All P (take n l)
all_taken P zero l h = tt
all_taken P (suc n) [] h = tt
all_taken P (suc n) (a ∷ l) h = (h.0, all_taken P n l h.1)

pub all_dropped : {A : Type 0} (P : A → Type 0) (n : ℕ) (l : List A) → All P l → All P (drop n l)
all_dropped P zero l h = h
all_dropped P (suc n) [] h = tt
all_dropped P (suc n) (a ∷ l) h = all_dropped P n l h.1

-- ---- every combination is within its ranges

abbrev pub Upright : List Range → Type 0
Upright [] = Unit {0}
Upright (n ∷ ns) = (le_z n.low n.high ≡ true) × Upright ns

upwards_within : (low high : ℤ) (k : ℕ) (z : ℤ) → le_z low z ≡ true → le_z z high ≡ true → above_zero (high -ℤ z) ≡ k
    → All (λ y. (le_z low y ≡ true) × (le_z y high ≡ true)) (upwards (suc k) z)
upwards_within low high zero z a b e = ((a, b), tt)
upwards_within low high (suc k) z a b e =
    let w = next_within low z high a (value_below z high k e) in
    ((a, b), upwards_within low high k (z +ℤ pos 1) w.0 w.1 (value_closer z high k e))

value_within : (n : Range) (ns : List Range) (z : ℤ) (s : State) → le_z n.low z ≡ true → le_z z n.high ≡ true → Within ns s → Within (n ∷ ns) (z ∷ s)
unfolding within
value_within n ns z s a b w = record { size = ap suc w.size; ranges = and_T (within n z) (all_within ns s) (rw (a, b) tt) w.ranges }

prefixed_within : (n : Range) (ns : List Range) (zs : List ℤ) (ls : List (List ℤ)) → All (λ y. (le_z n.low y ≡ true) × (le_z y n.high ≡ true)) zs → All (Within ns) ls
    → All (Within (n ∷ ns)) (prefixed zs ls)
prefixed_within n ns [] ls h k = tt
prefixed_within n ns (z ∷ zs) ls h k =
    all_append (Within (n ∷ ns)) (map (λ l. z ∷ l) ls) (prefixed zs ls)
    (all_map (Within ns) (Within (n ∷ ns)) (λ l. z ∷ l) ls (λ s w. value_within n ns z s h.0.0 h.0.1 w) k)
    (prefixed_within n ns zs ls h.1 k)

pub combinations_within : (ns : List Range) → Upright ns → All (Within ns) (combinations ns)
unfolding size_between
combinations_within [] u = (record { size = refl; ranges = tt }, tt)
combinations_within (n ∷ ns) u =
    prefixed_within n ns (upwards (size_of n) n.low) (combinations ns)
    (upwards_within n.low n.high (above_zero (n.high -ℤ n.low)) n.low (T_true _ (≤ℤ_refl n.low).le) u.0 refl) (combinations_within ns u.1)

-- each of the one with every one of the other
pub paired_all : (P Q : List ℤ → Type 0) (ss : List State) (rs : List (List ℤ)) → All P ss → All Q rs → All (λ c. P c.state × Q c.row) (paired ss rs)
paired_all P Q [] rs h k = tt
paired_all P Q (s ∷ ss) rs h k =
    all_append (λ c. P c.state × Q c.row) (with_rows s rs) (paired ss rs)
    (all_map Q (λ c. P c.state × Q c.row) (λ r. record { state = s; row = r }) rs (λ r q. (h.0, q)) k)
    (paired_all P Q ss rs h.1 k)

-- ---- every list within the ranges is a combination

infix 4 ◌∈◌
pub data ◌∈◌ {A : Type 0} (a : A) : List A → Type 0 where
  here : {l : List A} → a ∈ (a ∷ l)
  there : {b : A} {l : List A} → a ∈ l → a ∈ (b ∷ l)

pub all_in : {A : Type 0} (P : A → Type 0) (a : A) (l : List A) → All P l → a ∈ l → P a
all_in {A = A} P a [] h m = elim m [ ]
all_in P a (b ∷ l) h here = h.0
all_in P a (b ∷ l) h (there m) = all_in P a l h.1 m

in_first : {A : Type 0} (a : A) (l m : List A) → a ∈ l → a ∈ (l ++ m)
in_first {A = A} a [] m i = elim i [ ]
in_first a (b ∷ l) m here = here
in_first a (b ∷ l) m (there i) = there (in_first a l m i)

in_second : {A : Type 0} (a : A) (l m : List A) → a ∈ m → a ∈ (l ++ m)
in_second a [] m i = i
in_second a (b ∷ l) m i = there (in_second a l m i)

in_map : {A B : Type 0} (f : A → B) (a : A) (l : List A) → a ∈ l → f a ∈ map f l
in_map {A = A} {B = B} f a [] i = elim i [ ]
in_map f a (b ∷ l) here = here
in_map f a (b ∷ l) (there i) = there (in_map f a l i)

in_prefixed : (z : ℤ) (zs s : List ℤ) (ls : List (List ℤ)) → z ∈ zs → s ∈ ls → (z ∷ s) ∈ prefixed zs ls
in_prefixed z [] s ls i j = elim i [ ]
in_prefixed z (y ∷ zs) s ls here j = in_first (z ∷ s) (map (λ l. z ∷ l) ls) (prefixed zs ls) (in_map (λ l. z ∷ l) s ls j)
in_prefixed z (y ∷ zs) s ls (there i) j = in_second (z ∷ s) (map (λ l. y ∷ l) ls) (prefixed zs ls) (in_prefixed z zs s ls i j)

in_upwards : (z high : ℤ) (k : ℕ) (a : ℤ) → le_z a z ≡ true → le_z z high ≡ true → above_zero (high -ℤ a) ≡ k → z ∈ upwards (suc k) a
in_upwards z high zero a p q e = let s : a ≡ z = same_number a z high p q (last_value a high e) in rw s here
in_upwards z high (suc k) a p q e = by (at_least a z p) (λ h. in_upwards z high k (a +ℤ pos 1) h q (value_closer a high k e))
  where
    by : (a ≡ z) ⊎ (le_z (a +ℤ pos 1) z ≡ true) → (le_z (a +ℤ pos 1) z ≡ true → z ∈ upwards (suc k) (a +ℤ pos 1)) → z ∈ upwards (suc (suc k)) a
    by (inl s) g = rw s here
    by (inr h) g = there (g h)

pub combinations_complete : (ns : List Range) (s : State) → Within ns s → s ∈ combinations ns
unfolding size_between within
combinations_complete [] [] w = here
combinations_complete [] (z ∷ s) w = let q = w.size in let b : ⊥ = omega arith in absurd b
combinations_complete (n ∷ ns) [] w = let q = w.size in let b : ⊥ = omega arith in absurd b
combinations_complete (n ∷ ns) (z ∷ s) w =
    let t = and_left (within n z) (all_within ns s) w.ranges in
    let a = T_true _ (and_left (le_z n.low z) (le_z z n.high) t) in
    let b = T_true _ (and_right (le_z n.low z) (le_z z n.high) t) in
    let q : length s ≡ length ns = let e = w.size in omega arith in
    in_prefixed z (upwards (size_of n) n.low) s (combinations ns) (in_upwards z n.high (above_zero (n.high -ℤ n.low)) n.low a b refl)
    (combinations_complete ns s (record { size = q; ranges = and_right (within n z) (all_within ns s) w.ranges }))

pub in_paired : (s : State) (r : List ℤ) (ss : List State) (rs : List (List ℤ)) → s ∈ ss → r ∈ rs → record { state = s; row = r } ∈ paired ss rs
in_paired s r [] rs i j = elim i [ ]
in_paired s r (t ∷ ss) rs here j = in_first _ (with_rows s rs) (paired ss rs) (in_map (λ x. record { state = s; row = x }) r rs j)
in_paired s r (t ∷ ss) rs (there i) j = in_second _ (with_rows t rs) (paired ss rs) (in_paired s r ss rs i j)
