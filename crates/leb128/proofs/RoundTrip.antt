-- What is written is read back, and what is read is what would be written: the shortest form is one. Assumes nothing.
use mathlib.Core.Path.{◌≡◌, refl, sym, ap, subst, ◌∙◌}
use mathlib.Core.Bool.{Bool, true, false, cond}
use mathlib.Core.Logic.{⊎_elim}
use mathlib.Core.List.{List, [], ◌∷◌, ◌++◌}
use Prim.Native.Nat.{ℕ, zero, suc, ◌+◌, ◌*◌, ◌-◌, ◌/◌, ◌%◌, ◌^◌, ◌≤◌, ◌<◌}
use native.Mathlib.Nat.{pow-le-pow_right}
use native.Mathlib.Numerals.{add-one}
use native.Mathlib.Omega.{arith}
use lib.Dec.{T, leb, ltb, lit<}
use lib.IntN.{ℤ}
use lib.ListN.{length, take, drop, take-append-drop}
use lib.Seq.{drop-drop, drop-append_seam, get_or-drop}
use borrow.Author.Tests.{lt-ltb, le-ltb, leb-true, leb-false, ltb-true, ltb-false}
use Rattle.leb128.specs.Numbers.{groups, number, Found, found, none, grouped, number_in, got, nothing, below32, number_at, zigzag, signed_at}
use Rattle.arith.specs.Values.{is_int32}
use Rattle.arith.proofs.Laws.{int32_fits}
use Rattle.leb128.proofs.Laws.{Bytes, Sized, sized, sized_at, lower, after_nonzero}
use Rattle.leb128.proofs.Signs.{unzigzag_zigzag, zigzag-below}

read_last : (n : ℕ) (rest : List ℕ) → n < 128 → number_in (n ∷ rest) ≡ found n 1
unfolding number_in
read_last n rest h = rw (lt-ltb n 128 h)

-- ---- what is written is read back
read_back : (k n : ℕ) (rest : List ℕ) → n < 128 ^ suc k → number_in (groups k n ++ rest) ≡ found n (length (groups k n))
unfolding groups number_in
read_back zero n rest h = read_last n rest h
read_back (suc k) n rest h = by (ltb n 128) (ltb-true n 128) (ltb-false n 128) (read_back k (n / 128) rest (lower k n h)) where
  by : (t : Bool) → (t ≡ true → n < 128) → (t ≡ false → 128 ≤ n) → number_in (groups k (n / 128) ++ rest) ≡ found (n / 128) (length (groups k (n / 128)))
      → number_in (cond t (n ∷ []) ((128 + n % 128) ∷ groups k (n / 128)) ++ rest) ≡ found n (length (cond t (n ∷ []) ((128 + n % 128) ∷ groups k (n / 128))))
  by true y m ih = read_last n rest (y refl)
  by false y m ih =
      let big : 128 ≤ n = m refl in
      let low : 128 + n % 128 - 128 ≡ n % 128 = omega arith in
      let whole : n % 128 + n / 128 * 128 ≡ n = omega arith in
      rw (le-ltb (128 + n % 128) 128 (omega arith), ih, low, after_nonzero (n % 128) (n / 128) (length (groups k (n / 128))) (omega arith), whole, add-one)

pub round_trip : (n : ℕ) (rest : List ℕ) → n < 2 ^ 35 → number_in (number n ++ rest) ≡ found n (length (number n))
unfolding number
round_trip n rest h = read_back 4 n rest h

-- ---- what is read is the shortest form
group-one : (k n : ℕ) → n < 128 → groups k n ≡ n ∷ []
unfolding groups
group-one zero n h = refl
group-one (suc k) n h = rw (lt-ltb n 128 h)

abbrev Spelled : List ℕ → Found → Type 0
Spelled s (found v k) = (f : ℕ) → k ≤ suc f → groups f v ≡ take k s
Spelled s none = Unit

spelled_after : (b : ℕ) (s : List ℕ) (r : Found) → 128 ≤ b → b < 256 → Sized r → Spelled s r → Spelled (b ∷ s) (grouped (b - 128) r)
unfolding grouped groups
spelled_after b s none l h z w = tt
spelled_after b s (found zero k) l h z w = tt
spelled_after b s (found (suc v) k) l h z w = by where
  by : (f : ℕ) → k + 1 ≤ suc f → groups f (b - 128 + suc v * 128) ≡ take (k + 1) (b ∷ s)
  by zero g = absurd (omega (arith, z.0))
  by (suc f) g =
      let q : (b - 128 + suc v * 128) / 128 ≡ suc v = omega arith in
      let m : 128 + (b - 128 + suc v * 128) % 128 ≡ b = omega arith in
      rw (le-ltb (b - 128 + suc v * 128) 128 (omega arith), q, m, add-one, w f (omega arith))

spelled_cond : (t : Bool) (b : ℕ) (s : List ℕ) (r : Found) → (t ≡ true → b < 128) → (t ≡ false → 128 ≤ b) → b < 256 → Sized r → Spelled s r → Spelled (b ∷ s) (cond t (found b 1) (grouped (b - 128) r))
spelled_cond true b s r y n h z w = λ f g. group-one f b (y refl)
spelled_cond false b s r y n h z w = spelled_after b s r (n refl) h z w

spelled : (s : List ℕ) → Bytes s → Spelled s (number_in s)
unfolding number_in
spelled [] h = tt
spelled (b ∷ s) h =
    spelled_cond (ltb b 128) b s (number_in s) (ltb-true b 128) (ltb-false b 128) (h 0) (sized s (λ i. h (suc i))) (spelled s (λ i. h (suc i)))

pub shortest : (s : List ℕ) (v k : ℕ) → Bytes s → number_in s ≡ found v k → k ≤ 5 → number v ≡ take k s
unfolding number
shortest s v k h e g = subst (Spelled s) e (spelled s h) 4 g

-- ---- numbers at a place of an image

-- bytes that begin with xs at a place have the rest behind them
pub drop_behind : (bytes : List ℕ) (at : ℕ) (xs rest : List ℕ) → drop at bytes ≡ xs ++ rest → drop (at + length xs) bytes ≡ rest
drop_behind bytes at xs rest h = sym (drop-drop (length xs) at bytes) ∙ ap (drop (length xs)) h ∙ drop-append_seam xs rest

pub number_at_lem : (bytes : List ℕ) (at n : ℕ) (rest : List ℕ) → n < 2 ^ 32 → drop at bytes ≡ number n ++ rest → number_at bytes at ≡ got n (at + length (number n))
unfolding number_at below32
number_at_lem bytes at n rest l h = rw (h, round_trip n rest (omega arith), lt-ltb n (2 ^ 32) l)

pub zigzag_small : (z : ℤ) → T (is_int32 z) → zigzag z < 2 ^ 32
zigzag_small z t = zigzag-below z (int32_fits t)

pub signed_at_lem : (bytes : List ℕ) (at : ℕ) (z : ℤ) (rest : List ℕ) → T (is_int32 z) → drop at bytes ≡ number (zigzag z) ++ rest
    → signed_at bytes at ≡ got z (at + length (number (zigzag z)))
unfolding signed_at
signed_at_lem bytes at z rest l h = rw (number_at_lem bytes at (zigzag z) rest (zigzag_small z l) h, unzigzag_zigzag)

-- a place behind is behind
pub number_next : (bytes : List ℕ) (at n next : ℕ) → number_at bytes at ≡ got n next → at ≤ next
unfolding number_at below32
number_next bytes at n next e = go (number_in (drop at bytes)) e
  where
    go₁ : (v k : ℕ) (b : Bool) → cond b (got v (at + k)) nothing ≡ got n next → at ≤ next
    go₁ v k true q = let w : at + k ≡ next = cc in omega arith
    go₁ v k false q = let z : ◌≡◌ {A = ℕ} 0 1 = cc in omega arith

    go : (f : Found) → below32 at f ≡ got n next → at ≤ next
    go none q = let z : ◌≡◌ {A = ℕ} 0 1 = cc in omega arith
    go (found v k) q = go₁ v k (ltb v (2 ^ 32)) q

-- what is read at a place is the one spelling of its value, followed by the rest
module _ (bytes : List ℕ) (at : ℕ) (h : Bytes bytes) where
  few_groups : (v k : ℕ) → Sized (found v k) → v < 2 ^ 32 → k ≤ 5
  few_groups v k z l = by (leb k 5) (leb-true k 5) (leb-false k 5) where
    by : (t : Bool) → (t ≡ true → k ≤ 5) → (t ≡ false → 5 < k) → k ≤ 5
    by true y n = y refl
    by false y n =
        let p : 128 ^ 6 ≤ 128 ^ k = pow-le-pow_right (lit< tt) (n refl) in
        ⊎_elim (λ (q : k < 2). omega arith) (λ (q : 128 ^ k ≤ v * 128). omega arith) z.2

  spelling : (v k : ℕ) → number_in (drop at bytes) ≡ found v k → v < 2 ^ 32 → drop at bytes ≡ number v ++ drop (at + k) bytes
  spelling v k e l =
      let few : k ≤ 5 = few_groups v k (subst Sized e (sized_at bytes at h)) l in
      rw (shortest (drop at bytes) v k (λ i. rw get_or-drop (h (at + i))) e few, ← drop-drop k at bytes) (sym (take-append-drop k (drop at bytes)))

  pub one_spelling : (v next : ℕ) → number_at bytes at ≡ got v next → drop at bytes ≡ number v ++ drop next bytes
  unfolding number_at below32
  one_spelling v next e = by (number_in (drop at bytes)) refl e
    where
      tested : (w k : ℕ) (t : Bool) → (t ≡ true → w < 2 ^ 32) → number_in (drop at bytes) ≡ found w k → cond t (got w (at + k)) nothing ≡ got v next → drop at bytes ≡ number v ++ drop next bytes
      tested w k true y f q =
          let a : w ≡ v = cc in
          let b : at + k ≡ next = cc in
          rw (← a, ← b) (spelling w k f (y refl))
      tested w k false y f q = let z : ◌≡◌ {A = ℕ} 0 1 = cc in let b : ⊥ = omega arith in absurd b

      by : (f : Found) → number_in (drop at bytes) ≡ f → below32 at f ≡ got v next → drop at bytes ≡ number v ++ drop next bytes
      by none g q = let z : ◌≡◌ {A = ℕ} 0 1 = cc in let b : ⊥ = omega arith in absurd b
      by (found w k) g q = tested w k (ltb w (2 ^ 32)) (ltb-true w (2 ^ 32)) g q
