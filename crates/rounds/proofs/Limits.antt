-- A table in limit. Assumes nothing.
use Prim.Native.Nat.{ℕ, zero, suc, ◌*◌, ◌-◌, ◌≤◌, ◌<◌}
use native.Mathlib.Omega.{arith}
use mathlib.Core.Path.{◌≡◌, refl, sym, ap, ◌∙◌}
use mathlib.Core.Bool.{Bool, true, false}
use mathlib.Core.List.{List, [], ◌∷◌}
use lib.ListN.{length, get_or, take, drop, length-drop}
use lib.Seq.{take_all}
use borrow.Author.Tests.{lt-ltb, le-ltb}
use Rattle.arith.proofs.Basics.{and_both}
use Rattle.rounds.specs.Visits.{share_in_limit, sets_in_limit, round_of}
use Rattle.rounds.specs.Together.{Together, rounded, visits_of, call_of}

never : {X : Type 0} → ◌≡◌ {A = Bool} false true → X
never e = let z : ◌≡◌ {A = ℕ} 0 1 = cc in absurd (omega arith)

-- a table

pub limit_end : (most : ℕ) (table : List ℕ) → length table < 1 → true ≡ sets_in_limit most table
limit_end zero [] h = refl
limit_end (suc most) [] h = refl
limit_end most (x ∷ table) h = let f : ⊥ = omega arith in absurd f

pub limit_many : (most : ℕ) (table : List ℕ) → 1 ≤ length table → most < 1 → false ≡ sets_in_limit most table
limit_many zero (x ∷ table) h m = refl
limit_many (suc most) table h m = let f : ⊥ = omega arith in absurd f
limit_many zero [] h m = let f : ⊥ = omega arith in absurd f

pub limit_cut : (most : ℕ) (table : List ℕ) → 1 ≤ length table → length table < 3 → false ≡ sets_in_limit most table
limit_cut zero (x ∷ table) h m = refl
limit_cut (suc most) (x ∷ []) h m = refl
limit_cut (suc most) (x ∷ (y ∷ [])) h m = refl
limit_cut (suc most) (x ∷ (y ∷ (z ∷ table))) h m = let f : ⊥ = omega arith in absurd f
limit_cut most [] h m = let f : ⊥ = omega arith in absurd f

pub limit_out : (most : ℕ) (table : List ℕ) → 1 ≤ most → 3 ≤ length table → false ≡ share_in_limit (get_or table 2 0) → false ≡ sets_in_limit most table
limit_out zero table a h m = let f : ⊥ = omega arith in absurd f
limit_out (suc most) (x ∷ (y ∷ (z ∷ table))) a h m = rw (← m)
limit_out (suc most) [] a h m = let f : ⊥ = omega arith in absurd f
limit_out (suc most) (x ∷ []) a h m = let f : ⊥ = omega arith in absurd f
limit_out (suc most) (x ∷ (y ∷ [])) a h m = let f : ⊥ = omega arith in absurd f

limit_on : (most : ℕ) (table : List ℕ) → 3 ≤ length table → true ≡ share_in_limit (get_or table 2 0) → sets_in_limit most (drop 3 table) ≡ sets_in_limit (suc most) table
limit_on most (x ∷ (y ∷ (z ∷ table))) h a = rw (← a)
limit_on most [] h a = let f : ⊥ = omega arith in absurd f
limit_on most (x ∷ []) h a = let f : ⊥ = omega arith in absurd f
limit_on most (x ∷ (y ∷ [])) h a = let f : ⊥ = omega arith in absurd f

pub limit_next : (most : ℕ) (table : List ℕ) → 1 ≤ most → 3 ≤ length table → true ≡ share_in_limit (get_or table 2 0) → (r : Bool)
    → r ≡ sets_in_limit (most - 1) (take (length table - 3) (drop 3 table)) → r ≡ sets_in_limit most table
limit_next most table m h a r e =
    let q : most ≡ suc (most - 1) = omega arith in
    e ∙ ap (λ (l : List ℕ). sets_in_limit (most - 1) l) (take_all (length table - 3) (drop 3 table) (simp length-drop (omega arith))) ∙ limit_on (most - 1) table h a ∙ ap (λ (n : ℕ). sets_in_limit n table) (sym q)

-- ---- the round

pub table_short : (most : ℕ) (table : List ℕ) → sets_in_limit most table ≡ true → length table ≤ 3 * most
table_short most [] e = omega arith
table_short zero (x ∷ table) e = never e
table_short (suc most) (x ∷ []) e = never e
table_short (suc most) (x ∷ (y ∷ [])) e = never e
table_short (suc most) (x ∷ (y ∷ (z ∷ table))) e = let h = table_short most table (and_both (share_in_limit z) (sets_in_limit most table) e).1 in omega (arith, h)

module _ (table images : List ℕ) (m : Together) where
  pub round_empty : length table < 1 → rounded 25 m ≡ call_of table images m
  unfolding call_of round_of
  round_empty h = rw (le-ltb 0 (length table) (omega arith))

  pub round_out : 1 ≤ length table → false ≡ sets_in_limit 8 table → rounded 25 m ≡ call_of table images m
  unfolding call_of round_of
  round_out h e = rw (lt-ltb 0 (length table) h, ← e)

  pub round_in : 1 ≤ length table → true ≡ sets_in_limit 8 table → (n : Together) → n ≡ visits_of table images 0 m → rounded 0 n ≡ call_of table images m
  unfolding call_of round_of
  round_in h e n q = rw (lt-ltb 0 (length table) h, ← e) (ap (λ (x : Together). rounded 0 x) q)
