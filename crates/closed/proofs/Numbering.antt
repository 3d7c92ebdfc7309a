-- A combination by its number. Assumes nothing.
use mathlib.Core.Path.{◌≡◌, refl, ◌∙◌}
use mathlib.Core.Bool.{Bool, true, false}
use mathlib.Core.List.{List, [], ◌∷◌, ◌++◌}
use mathlib.Core.Option.{none, some}
use Prim.Native.Nat.{ℕ, zero, suc, ◌+◌, ◌*◌, ◌/◌, ◌%◌, ◌≤◌, ◌<◌}
use native.Mathlib.Nat.{mul-le-mul_right, div-add-mod'}
use native.Mathlib.Omega.{arith}
use borrow.Author.Tests.{eq-eqb, ne_eqb, ltb-true, ltb-false}
use lib.Dec.{leb, ltb}
use lib.IntN.{ℤ}
use lib.ListN.{length, take, drop, get_elem?, length-map}
use Rattle.semantics.specs.Program.{Range}
use Rattle.semantics.specs.Formula.{State}
use Rattle.limits.specs.Answer.{accepted, refused}
use Rattle.closed.specs.Closed.{product_of_sizes, combinations, Combination, with_rows, paired, leaves}
use Rattle.closed.specs.Inner.Parts.{IsNth, combined_ranges}
use Rattle.closed.proofs.Combining.{combinations_count, paired_count}

-- ---- the place of a pair

skip : (xs ys : List Combination) (n : ℕ) → get_elem? (xs ++ ys) (length xs + n) ≡ get_elem? ys n
skip [] ys n = let e : 0 + n ≡ n = omega arith in rw e
skip (x ∷ xs) ys n = let e : suc (length xs) + n ≡ suc (length xs + n) = omega arith in rw e (skip xs ys n)

row_at : (s r : List ℤ) (rs : List (List ℤ)) (more : List Combination) (j : ℕ) → drop j rs ≡ r ∷ drop (suc j) rs → get_elem? (with_rows s rs ++ more) j ≡ some (record { state = s; row = r })
row_at s r [] more zero e = let z : ◌≡◌ {A = ℕ} 0 1 = cc in let b : ⊥ = omega arith in absurd b
row_at s r [] more (suc j) e = let z : ◌≡◌ {A = ℕ} 0 1 = cc in let b : ⊥ = omega arith in absurd b
row_at s r (x ∷ rs) more zero e = let q : x ≡ r = cc in rw q
row_at s r (x ∷ rs) more (suc j) e = row_at s r rs more j e

pub pair_at_lem : (s r : List ℤ) (ss : List State) (rs : List (List ℤ)) (i j : ℕ) → drop i ss ≡ s ∷ drop (suc i) ss → drop j rs ≡ r ∷ drop (suc j) rs
    → get_elem? (paired ss rs) (i * length rs + j) ≡ some (record { state = s; row = r })
pair_at_lem s r [] rs zero j e f = let z : ◌≡◌ {A = ℕ} 0 1 = cc in let b : ⊥ = omega arith in absurd b
pair_at_lem s r [] rs (suc i) j e f = let z : ◌≡◌ {A = ℕ} 0 1 = cc in let b : ⊥ = omega arith in absurd b
pair_at_lem s r (t ∷ ss) rs zero j e f =
    let q : t ≡ s = cc in
    let n : 0 * length rs + j ≡ j = omega arith in
    rw (n, q) (row_at s r rs (paired ss rs) j f)
pair_at_lem s r (t ∷ ss) rs (suc i) j e f =
    let n : suc i * length rs + j ≡ length (with_rows t rs) + (i * length rs + j) = simp length-map (omega arith) in
    rw n (skip (with_rows t rs) (paired ss rs) (i * length rs + j) ∙ pair_at_lem s r ss rs i j e f)

none_at : (l : List Combination) (n : ℕ) → length l ≤ n → get_elem? l n ≡ none
none_at [] n h = refl
none_at (c ∷ l) zero h = let b : ⊥ = omega arith in absurd b
none_at (c ∷ l) (suc n) h = none_at l n (omega arith)

-- ---- quotient and remainder

pub quotient_below : (index states rows : ℕ) → index < states * rows → index / rows < states
quotient_below index states rows h = by (ltb (index / rows) states) (ltb-true (index / rows) states) (ltb-false (index / rows) states)
  where
    by : (t : Bool) → (t ≡ true → index / rows < states) → (t ≡ false → states ≤ index / rows) → index / rows < states
    by true y n = y refl
    by false y n =
        let k : states * rows ≤ index / rows * rows = mul-le-mul_right rows (n refl) in
        let f : ⊥ = omega (arith, div-add-mod' index rows) in
        absurd f

-- ---- the ways of combination

module _ (ns : List Range) (inputs index : ℕ) (state row : List ℤ) (small : leb (product_of_sizes ns * product_of_sizes (take inputs ns)) 65536 ≡ true) where
  pub combined_state : (length state ≡ length ns → ⊥) → leaves (refused 12 0) state row ≡ combined_ranges ns inputs index state row
  combined_state h = rw (small, ne_eqb (length state) (length ns) h)

  pub combined_row : length state ≡ length ns → (length row ≡ inputs → ⊥) → leaves (refused 12 0) state row ≡ combined_ranges ns inputs index state row
  combined_row e h = rw (small, eq-eqb (length state) (length ns) e, ne_eqb (length row) inputs h)

  module _ (e : length state ≡ length ns) (f : length row ≡ inputs) (states rows : ℕ) (p : states ≡ product_of_sizes ns) (q : rows ≡ product_of_sizes (take inputs ns)) where
    pub combined_none : states * rows ≤ index → leaves (refused 12 0) state row ≡ combined_ranges ns inputs index state row
    combined_none h =
        let n : length (paired (combinations ns) (combinations (take inputs ns))) ≡ states * rows = paired_count (combinations ns) (combinations (take inputs ns)) ∙ rw (combinations_count ns, combinations_count (take inputs ns), p, q) in
        let k : get_elem? (paired (combinations ns) (combinations (take inputs ns))) index ≡ none = none_at (paired (combinations ns) (combinations (take inputs ns))) index (omega arith) in
        rw (small, eq-eqb (length state) (length ns) e, eq-eqb (length row) inputs f, k)

    pub combined_found : (s r : List ℤ) → IsNth ns (index / rows) s → IsNth (take inputs ns) (index % rows) r → leaves (accepted tt) s r ≡ combined_ranges ns inputs index state row
    combined_found s r a b =
        let n : index / rows * length (combinations (take inputs ns)) + index % rows ≡ index = rw (combinations_count (take inputs ns), ← q) (div-add-mod' index rows) in
        let k : get_elem? (paired (combinations ns) (combinations (take inputs ns))) index ≡ some (record { state = s; row = r }) = rw n at (pair_at_lem s r (combinations ns) (combinations (take inputs ns)) (index / rows) (index % rows) a b) in
        rw (small, eq-eqb (length state) (length ns) e, eq-eqb (length row) inputs f, k)
