-- Sorts and flags kept as the bits of a number. Assumes nothing.
use Prim.Native.Nat.{ℕ, zero, suc, ◌+◌, ◌-◌, ◌*◌, ◌/◌, ◌%◌, ◌^◌, ◌≤◌, ◌<◌}
use mathlib.Core.Path.{◌≡◌, refl, sym, ap, ◌∙◌}
use mathlib.Core.Bool.{Bool, true, false, not, ◌&&◌, false≢true}
use mathlib.Core.List.{List, [], ◌∷◌}
use native.Mathlib.Omega.{arith}
use native.Mathlib.Numerals.{add-one}
use native.Mathlib.Nat.{pow-suc}
use lib.Dec.{ltb}
use lib.ListN.{length, get_or}
use lib.Pow.{pow_mono}
use borrow.Author.Tests.{ltb-true}
use Rattle.arith.specs.Inner.Flags.{flags_of}
use Rattle.arith.proofs.Flags.{length_flags}
use Rattle.bytecode.specs.Signature.{Sort, number}
use Rattle.bytecode.specs.Check.{unset}
use Rattle.checker.specs.Inner.Walk.{sort_of, sorts_of}

-- ---- sorts

pub length_sorts : (n k : ℕ) → length (sorts_of n k) ≡ n
unfolding sorts_of
length_sorts zero k = refl
length_sorts (suc n) k = ap suc (length_sorts n (k / 2))

pub sorts_none : (k : ℕ) → sorts_of 0 k ≡ []
unfolding sorts_of
sorts_none k = refl

pub sorts-one : (k : ℕ) → sorts_of 1 k ≡ sort_of (k % 2) ∷ []
unfolding sorts_of
sorts-one k = refl

-- the last held, and those below it
pub sorts-cons : (n k : ℕ) → 1 ≤ n → sorts_of n k ≡ sort_of (k % 2) ∷ sorts_of (n - 1) (k / 2)
unfolding sorts_of
sorts-cons zero k h = let b : ⊥ = omega arith in absurd b
sorts-cons (suc n) k h = let e : suc n - 1 ≡ n = omega arith in rw e

pub sorts_push : (n k b : ℕ) → b < 2 → sorts_of (n + 1) (k * 2 + b) ≡ sort_of b ∷ sorts_of n k
unfolding sorts_of
sorts_push n k b h =
    let p : (k * 2 + b) % 2 ≡ b = omega arith in
    let q : (k * 2 + b) / 2 ≡ k = omega arith in
    rw (add-one n, p, q)

pub sorts_number : (n k : ℕ) → sorts_of (n + 1) (k * 2) ≡ number ∷ sorts_of n k
sorts_number n k = let e : k * 2 ≡ k * 2 + 0 = omega arith in rw e (sorts_push n k 0 (omega arith))

-- two values, and those below them
pub sorts_two : (n k : ℕ) → 2 ≤ n → sorts_of n k ≡ sort_of (k % 2) ∷ sort_of (k / 2 % 2) ∷ sorts_of (n - 2) (k / 2 / 2)
sorts_two n k h =
    let e : n - 1 - 1 ≡ n - 2 = omega arith in
    sorts-cons n k (omega arith) ∙ ap (λ (l : List Sort). sort_of (k % 2) ∷ l) (sorts-cons (n - 1) (k / 2) (omega arith) ∙ rw e)

-- two values give way to one
pub sorts_join : (n k b : ℕ) → 2 ≤ n → b < 2 → sorts_of (n - 1) (k / 2 / 2 * 2 + b) ≡ sort_of b ∷ sorts_of (n - 2) (k / 2 / 2)
sorts_join n k b h l = let e : n - 1 ≡ n - 2 + 1 = omega arith in rw e (sorts_push (n - 2) (k / 2 / 2) b l)

pub number_low : (n k : ℕ) → k < 2 ^ n → k * 2 < 2 ^ (n + 1)
number_low n k h = rw (add-one n, pow-suc) (omega arith)

pub join_low : (n k b : ℕ) → 2 ≤ n → k < 2 ^ n → b < 2 → k / 2 / 2 * 2 + b < 2 ^ (n - 1)
join_low n k b h l p =
    let e : n ≡ suc (suc (n - 2)) = omega arith in
    let q : 2 ^ n ≡ 2 ^ (n - 2) * 2 * 2 = ap (λ (m : ℕ). 2 ^ m) e ∙ pow-suc 2 (suc (n - 2)) ∙ ap (λ (m : ℕ). m * 2) (pow-suc 2 (n - 2)) in
    let d : n - 1 ≡ suc (n - 2) = omega arith in
    let r : 2 ^ (n - 1) ≡ 2 ^ (n - 2) * 2 = ap (λ (m : ℕ). 2 ^ m) d ∙ pow-suc 2 (n - 2) in
    omega arith

pub below_40 : (n k : ℕ) → n ≤ 40 → k < 2 ^ n → k < 2 ^ 40
below_40 n k h l = omega (arith, pow_mono h)

-- ---- flags

-- a declared id whose bit is clear
pub unset_below : (n b i : ℕ) → unset (flags_of n b) i ≡ true → i < n
unset_below n b i e = inside (ltb i n) (ltb-true i n) (sym (ap (λ (m : ℕ). ltb i m && not (get_or (flags_of n b) i false)) (length_flags n b)) ∙ e)
  where
    inside : (t : Bool) → (t ≡ true → i < n) → (t && not (get_or (flags_of n b) i false)) ≡ true → i < n
    inside true y q = y refl
    inside false y q = absurd (false≢true q)
