-- Parts of a text, and how many bytes numbers and ids take. Assumes nothing.
use mathlib.Core.Path.{◌≡◌, subst}
use mathlib.Core.List.{List, [], ◌∷◌}
use mathlib.Core.Bool.{Bool, true, false, cond}
use mathlib.Core.Option.{some}
use Prim.Native.Nat.{ℕ, zero, suc, ◌+◌, ◌*◌, ◌/◌, ◌%◌, ◌≤◌, ◌<◌}
use native.Mathlib.Omega.{arith}
use lib.ListN.{length, get_elem?}
use lib.Dec.{ltb}
use lib.IntN.{pos}
use borrow.Author.Tests.{ltb-false}
use Rattle.lexer.specs.Lexer.{value_on, value_of, same_name}
use Rattle.lexer.specs.Names.{id_from, id_of}
use Rattle.lexer.proofs.Laws.{cond_prop}
pub use Rattle.lexer.proofs.Values.{part_length, part_cons}
use Rattle.leb128.specs.Numbers.{groups, number, zigzag}

-- 128 to the d
power : ℕ → ℕ
power zero = 1
power (suc d) = 128 * power d

power_some : (d : ℕ) → 1 ≤ power d
unfolding power
power_some zero = omega arith
power_some (suc d) = omega (arith, power_some d)

groups_length : (d f n : ℕ) → n < power (suc d) → length (groups f n) ≤ suc d
unfolding power groups
groups_length d zero n h = omega arith
groups_length zero (suc f) n h =
    cond_prop (λ (l : List ℕ). length l ≤ 1) (ltb n 128) (n ∷ []) _ (λ e. omega arith) (λ e. absurd (omega (arith, ltb-false n 128 e)))
groups_length (suc d) (suc f) n h =
    cond_prop (λ (l : List ℕ). length l ≤ suc (suc d)) (ltb n 128) (n ∷ []) _ (λ e. omega arith) (λ e. omega (arith, groups_length d f (n / 128) (omega arith)))

value_on_lem : (l : List ℕ) (i v : ℕ) → 2 * v < power i → 2 * value_on l v < power (i + length l)
unfolding value_on power
value_on_lem [] i v h = let e : i ≡ i + 0 = omega arith in subst (λ (k : ℕ). 2 * v < power k) e h
value_on_lem (b ∷ l) i v h =
    let e : suc i + length l ≡ i + suc (length l) = omega arith in
    subst (λ (k : ℕ). 2 * value_on l (10 * v + b % 16) < power k) e
    (value_on_lem l (suc i) (10 * v + b % 16) (omega (arith, power_some i)))

-- a number takes no more groups than digits
pub digits_bytes : (l : List ℕ) → 1 ≤ length l → length (number (zigzag (pos (value_of l)))) ≤ length l
unfolding number zigzag value_of power
digits_bytes [] h = omega arith
digits_bytes (b ∷ l) h =
    let v = value_on (b ∷ l) 0 in
    let e : 0 + suc (length l) ≡ suc (length l) = omega arith in
    groups_length (length l) 4 (2 * v) (subst (λ (k : ℕ). 2 * value_on (b ∷ l) 0 < power k) e (value_on_lem (b ∷ l) 0 0 (omega arith)))

-- the same of any number up to twice the value
pub value_bytes : (l : List ℕ) (m : ℕ) → m ≤ 2 * value_of l → 1 ≤ length l → length (number m) ≤ length l
unfolding number value_of power
value_bytes [] m h g = absurd (omega arith)
value_bytes (b ∷ l) m h g =
    let e : 0 + suc (length l) ≡ suc (length l) = omega arith in
    let f : 2 * value_on (b ∷ l) 0 < power (suc (length l)) = subst (λ (k : ℕ). 2 * value_on (b ∷ l) 0 < power k) e (value_on_lem (b ∷ l) 0 0 (omega arith)) in
    groups_length (length l) 4 m (omega arith)

pub id_bytes : (i : ℕ) → i < 128 → length (number i) ≤ 1
unfolding number power
id_bytes i h = groups_length 0 4 i (omega arith)

id_from_lem : (l : List (List ℕ)) (w : List ℕ) (i j : ℕ) → id_from l w i ≡ some j → j < i + length l
unfolding id_from
id_from_lem [] w i j e = let z : ◌≡◌ {A = ℕ} 0 1 = cc in absurd (omega arith)
id_from_lem (x ∷ l) w i j e = go (same_name w x) (λ h. id_from_lem l w (i + 1) j h) e
  where
    go : (t : Bool) → (id_from l w (i + 1) ≡ some j → j < i + 1 + length l) → cond t (some i) (id_from l w (i + 1)) ≡ some j → j < i + suc (length l)
    go true f h = let q : i ≡ j = cc in omega arith
    go false f h = omega (arith, f h)

-- an id is below the number of names
pub id_of_lem : (l : List (List ℕ)) (w : List ℕ) (j : ℕ) → id_of l w ≡ some j → j < length l
unfolding id_of
id_of_lem l w j e = omega (arith, id_from_lem l w 0 j e)

pub place_in : (names : List (List ℕ)) (i : ℕ) (w : List ℕ) → get_elem? names i ≡ some w → i < length names
place_in [] i w e = let z : ◌≡◌ {A = ℕ} 0 1 = cc in absurd (omega arith)
place_in (x ∷ l) zero w e = omega arith
place_in (x ∷ l) (suc i) w e = omega (arith, place_in l i w e)

pub heads : {A : Type 0} {x y : A} {k l : List A} → x ∷ k ≡ y ∷ l → x ≡ y
heads e = cc

pub tails : {A : Type 0} {x y : A} {k l : List A} → x ∷ k ≡ y ∷ l → k ≡ l
tails e = cc
