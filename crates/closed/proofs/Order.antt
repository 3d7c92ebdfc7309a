-- The combinations rise in the document's order. Assumes nothing.
use mathlib.Core.Path.{◌≡◌, refl, ◌∙◌}
use mathlib.Core.Bool.{true, false≢true}
use mathlib.Core.Logic.{◌⊎◌, inl, inr}
use mathlib.Core.List.{List, [], ◌∷◌, ◌++◌, map}
use Prim.Native.Nat.{ℕ, zero, suc, ◌+◌}
use native.Mathlib.Omega.{arith}
use borrow.Author.Tests.{le-leb, lt-ltb, ltb-true}
use lib.Dec.{leb, ltb}
use lib.IntN.{ℤ, pos, negsuc, suc_ℤ, ◌+ℤ◌, +ℤ_one}
use lib.Signed.{lt_z, ◌≤ℤ◌, ◌<ℤ◌, le_z_yes, lt_z_yes, ≤ℤ_refl, <ℤ-≤ℤ_trans, clash_ℤ}
use Rattle.arith.proofs.Basics.{T_true, true_T}
use Rattle.limits.specs.Answer.{Answer, accepted, refused}
use Rattle.semantics.specs.Program.{Range}
use Rattle.semantics.specs.Formula.{State}
use Rattle.closed.specs.Closed.{size_of, upwards, prefixed, combinations, Combination, with_rows, paired, refused_at, go_on, walked}
use Rattle.closed.specs.Claims.{Earlier, scanned_values}
use Rattle.closed.proofs.Combining.{All, all_append, all_map, ◌∈◌, here, there, all_in}

-- ---- the order

not_both_below : {a b : ℤ} → a <ℤ b → b <ℤ a → ⊥
not_both_below {a} {b} e f = clash_ℤ (<ℤ-≤ℤ_trans e (below-least b a f)) (≤ℤ_refl a)
  where
    below-least : (b a : ℤ) → b <ℤ a → b ≤ℤ a
    below-least (pos b) (pos a) f = le_z_yes (true_T (leb b a) (le-leb b a (omega (arith, ltb-true b a (T_true (ltb b a) f.lt)))))
    below-least (pos b) (negsuc a) f = absurd f.lt
    below-least (negsuc b) (pos a) f = le_z_yes tt
    below-least (negsuc b) (negsuc a) f = le_z_yes (true_T (leb a b) (le-leb a b (omega (arith, ltb-true a b (T_true (ltb a b) f.lt)))))

pub not_earlier_itself : (l : List ℤ) → Earlier l l → ⊥
not_earlier_itself [] e = e
not_earlier_itself (a ∷ l) (inl e) = clash_ℤ e (≤ℤ_refl a)
not_earlier_itself (a ∷ l) (inr e) = not_earlier_itself l e.1

pub not_both_earlier : (l m : List ℤ) → Earlier l m → Earlier m l → ⊥
not_both_earlier [] m e f = e
not_both_earlier (a ∷ l) [] e f = e
not_both_earlier (a ∷ l) (b ∷ m) (inl e) (inl f) = not_both_below e f
not_both_earlier (a ∷ l) (b ∷ m) (inl e) (inr f) = clash_ℤ (rw f.0 at e) (≤ℤ_refl a)
not_both_earlier (a ∷ l) (b ∷ m) (inr e) (inl f) = clash_ℤ (rw (← e.0) at f) (≤ℤ_refl a)
not_both_earlier (a ∷ l) (b ∷ m) (inr e) (inr f) = not_both_earlier l m e.1 f.1

earlier_front : (s t r q : List ℤ) → Earlier s t → Earlier (s ++ r) (t ++ q)
earlier_front [] t r q e = absurd e
earlier_front (a ∷ s) [] r q e = absurd e
earlier_front (a ∷ s) (b ∷ t) r q (inl e) = inl e
earlier_front (a ∷ s) (b ∷ t) r q (inr e) = inr (e.0, earlier_front s t r q e.1)

earlier_behind : (s r q : List ℤ) → Earlier r q → Earlier (s ++ r) (s ++ q)
earlier_behind [] r q e = e
earlier_behind (a ∷ s) r q e = inr (refl, earlier_behind s r q e)

-- ---- lists that rise

-- each is earlier than all behind it
abbrev pub Rising : {A : Type 0} → (A → List ℤ) → List A → Type 0
Rising key [] = Unit {0}
Rising key (a ∷ l) = All (λ b. Earlier (key a) (key b)) l × Rising key l

append_rises : {A : Type 0} (key : A → List ℤ) (l m : List A) → Rising key l → Rising key m → All (λ a. All (λ b. Earlier (key a) (key b)) m) l → Rising key (l ++ m)
append_rises key [] m h k e = k
append_rises key (a ∷ l) m h k e = (all_append (λ b. Earlier (key a) (key b)) l m h.0 e.0, append_rises key l m h.1 k e.1)

map_rises : {A B : Type 0} (key : A → List ℤ) (key₁ : B → List ℤ) (f : A → B) (l : List A) → ((a b : A) → Earlier (key a) (key b) → Earlier (key₁ (f a)) (key₁ (f b))) → Rising key l
    → Rising key₁ (map f l)
map_rises key key₁ f [] g h = tt
map_rises key key₁ f (a ∷ l) g h = (all_map (λ b. Earlier (key a) (key b)) (λ b. Earlier (key₁ (f a)) (key₁ b)) f l (λ b e. g a b e) h.0, map_rises key key₁ f l g h.1)

all_any : {A : Type 0} (P : A → Type 0) (l : List A) → ((a : A) → P a) → All P l
all_any P [] g = tt
all_any P (a ∷ l) g = (g a, all_any P l g)

-- ---- the values of one name

below_next : (z : ℤ) → lt_z z (suc_ℤ z) ≡ true
below_next (pos a) = lt-ltb a (suc a) (omega arith)
below_next (negsuc zero) = refl
below_next (negsuc (suc a)) = lt-ltb a (suc a) (omega arith)

below_more : (z w : ℤ) → lt_z z w ≡ true → lt_z z (suc_ℤ w) ≡ true
below_more (pos a) (pos b) e = lt-ltb a (suc b) (omega (arith, ltb-true a b e))
below_more (pos a) (negsuc b) e = absurd (false≢true e)
below_more (negsuc a) (pos b) e = refl
below_more (negsuc a) (negsuc zero) e = refl
below_more (negsuc a) (negsuc (suc b)) e = lt-ltb b a (omega (arith, ltb-true (suc b) a e))

below_all : (z w : ℤ) (k : ℕ) → lt_z z w ≡ true → All (λ y. z <ℤ y) (upwards k w)
below_all z w zero e = tt
below_all z w (suc k) e = (lt_z_yes (true_T (lt_z z w) e), below_all z (w +ℤ pos 1) k (rw (+ℤ_one w) (below_more z w e)))

abbrev itself : List ℤ → List ℤ
itself l = l

below_prefixed : (z : ℤ) (l : List ℤ) (zs : List ℤ) (ls : List (List ℤ)) → All (λ y. z <ℤ y) zs → All (λ m. Earlier (z ∷ l) m) (prefixed zs ls)
below_prefixed z l [] ls h = tt
below_prefixed z l (y ∷ zs) ls h =
    all_append (λ m. Earlier (z ∷ l) m) (map (λ m. y ∷ m) ls) (prefixed zs ls)
    (all_map (λ m. Unit {0}) (λ m. Earlier (z ∷ l) m) (λ m. y ∷ m) ls (λ m u. inl h.0) (all_any (λ m. Unit {0}) ls (λ m. tt)))
    (below_prefixed z l zs ls h.1)

prefixed_rises : (k : ℕ) (z : ℤ) (ls : List (List ℤ)) → Rising itself ls → Rising itself (prefixed (upwards k z) ls)
prefixed_rises zero z ls h = tt
prefixed_rises (suc k) z ls h =
    append_rises itself (map (λ l. z ∷ l) ls) (prefixed (upwards k (z +ℤ pos 1)) ls) (map_rises itself itself (λ l. z ∷ l) ls (λ a b e. inr (refl, e)) h) (prefixed_rises k (z +ℤ pos 1) ls h)
    (all_map (λ l. Unit {0}) (λ a. All (λ b. Earlier a b) (prefixed (upwards k (z +ℤ pos 1)) ls)) (λ l. z ∷ l) ls
    (λ l u. below_prefixed z l (upwards k (z +ℤ pos 1)) ls (below_all z (z +ℤ pos 1) k (rw (+ℤ_one z) (below_next z)))) (all_any (λ l. Unit {0}) ls (λ l. tt)))

-- the last declared name moves fastest, from low to high
pub combinations_rise : (ns : List Range) → Rising itself (combinations ns)
combinations_rise [] = (tt, tt)
combinations_rise (n ∷ ns) = prefixed_rises (size_of n) n.low (combinations ns) (combinations_rise ns)

-- ---- states and rows

abbrev pub values_in : Combination → List ℤ
values_in c = scanned_values c.state c.row

below_paired : (s r : List ℤ) (ss : List State) (rs : List (List ℤ)) → All (λ t. Earlier s t) ss → All (λ c. Earlier (s ++ r) (values_in c)) (paired ss rs)
below_paired s r [] rs h = tt
below_paired s r (t ∷ ss) rs h =
    all_append (λ c. Earlier (s ++ r) (values_in c)) (with_rows t rs) (paired ss rs)
    (all_map (λ q. Unit {0}) (λ c. Earlier (s ++ r) (values_in c)) (λ q. record { state = t; row = q }) rs (λ q u. earlier_front s t r q h.0) (all_any (λ q. Unit {0}) rs (λ q. tt)))
    (below_paired s r ss rs h.1)

-- rows are tried inside states
pub paired_rise : (ss : List State) (rs : List (List ℤ)) → Rising itself ss → Rising itself rs → Rising values_in (paired ss rs)
paired_rise [] rs h k = tt
paired_rise (s ∷ ss) rs h k =
    append_rises values_in (with_rows s rs) (paired ss rs) (map_rises itself values_in (λ r. record { state = s; row = r }) rs (λ r q e. earlier_behind s r q e) k) (paired_rise ss rs h.1 k)
    (all_map (λ r. Unit {0}) (λ c. All (λ d. Earlier (values_in c) (values_in d)) (paired ss rs)) (λ r. record { state = s; row = r }) rs (λ r u. below_paired s r ss rs h.0) (all_any (λ r. Unit {0}) rs (λ r. tt)))

-- ---- the walk ends at the first refused scan: all that are earlier were accepted

in_cons : {A : Type 0} {a b : A} {l : List A} → a ∈ (b ∷ l) → (a ≡ b) ⊎ (a ∈ l)
in_cons here = inl refl
in_cons (there i) = inr i

pub earlier_accepted : (f : Combination → Answer (Unit {0})) (cs : List Combination) (k n : ℕ) (c d : Combination) → Rising values_in cs → walked f cs k ≡ refused_at n c → d ∈ cs
    → Earlier (values_in d) (values_in c) → f d ≡ accepted tt
earlier_accepted f [] k n c d h e i l = let z : ◌≡◌ {A = ℕ} 0 1 = cc in let b : ⊥ = omega arith in absurd b
earlier_accepted f (x ∷ cs) k n c d h e i l = go (f x) refl e (λ q j. earlier_accepted f cs (k + 1) n c d h.1 q j l) (in_cons i)
  where
    go : (a : Answer (Unit {0})) → f x ≡ a → go_on a (walked f cs (k + 1)) (refused_at k x) ≡ refused_at n c → (walked f cs (k + 1) ≡ refused_at n c → d ∈ cs → f d ≡ accepted tt)
        → (d ≡ x) ⊎ (d ∈ cs) → f d ≡ accepted tt
    go (accepted u) q p ih (inl s) = rw s q
    go (accepted u) q p ih (inr j) = ih p j
    go (refused number place) q p ih (inl s) = let t : x ≡ c = cc in absurd (not_earlier_itself (values_in c) (rw (s ∙ t) at l))
    go (refused number place) q p ih (inr j) = let t : x ≡ c = cc in absurd (not_both_earlier (values_in d) (values_in c) l (rw t at (all_in (λ b. Earlier (values_in x) (values_in b)) d cs h.0 j)))
