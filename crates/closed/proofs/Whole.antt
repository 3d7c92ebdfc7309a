-- Whole numbers: how far one is below another, and the order. Assumes nothing.
use mathlib.Core.Path.{◌≡◌, refl, sym, ap, ◌∙◌}
use mathlib.Core.Bool.{Bool, true, false}
use mathlib.Core.Logic.{◌⊎◌, inl, inr}
use Prim.Native.Nat.{ℕ, zero, suc, ◌+◌, ◌-◌, ◌≤◌, ◌<◌}
use native.Mathlib.Omega.{arith}
use borrow.Author.Tests.{lt-ltb, le-ltb, le-leb, ltb-true, ltb-false, leb-true}
use lib.Dec.{ltb}
use lib.IntN.{ℤ, pos, negsuc, suc_ℤ, sub_ℕ, ◌+ℤ◌, ◌-ℤ◌, +ℤ_one}
use lib.Signed.{mag, le_z, lt_z}
use mir.Syntax.{w32}
use mir.Val.{SFits}
use Rattle.closed.specs.Closed.{above_zero, size_between}

-- the difference by the signs
abbrev above : ℤ → ℤ → ℕ
above (pos a) (pos b) = b - a
above (pos a) (negsuc b) = 0
above (negsuc a) (pos b) = b + suc a
above (negsuc a) (negsuc b) = a - b

above_sub : (a b : ℕ) → above_zero (sub_ℕ a b) ≡ a - b
above_sub a b = by (ltb a b) (λ e. let h = ltb-true a b e in omega arith)
  where
    by : (t : Bool) → (t ≡ true → a - b ≡ 0) → above_zero (mathlib.Core.Bool.cond t (negsuc (b - suc a)) (pos (a - b))) ≡ a - b
    by true y = sym (y refl)
    by false y = refl

above_is : (a b : ℤ) → above_zero (b -ℤ a) ≡ above a b
above_is (pos zero) (pos b) = omega arith
above_is (pos (suc a)) (pos b) = above_sub b (suc a)
above_is (pos zero) (negsuc b) = above_sub 0 (suc b) ∙ omega arith
above_is (pos (suc a)) (negsuc b) = refl
above_is (negsuc a) (pos b) = refl
above_is (negsuc a) (negsuc b) = above_sub (suc a) (suc b) ∙ omega arith

-- nothing above: not below
level : (a b : ℤ) → above a b ≡ 0 → lt_z a b ≡ false
level (pos a) (pos b) e = le-ltb a b (omega arith)
level (pos a) (negsuc b) e = refl
level (negsuc a) (pos b) e = let f : ⊥ = omega arith in absurd f
level (negsuc a) (negsuc b) e = le-ltb b a (omega arith)

-- something above: below, and one less above the next number
below : (a b : ℤ) (k : ℕ) → above a b ≡ suc k → lt_z a b ≡ true
below (pos a) (pos b) k e = lt-ltb a b (omega arith)
below (pos a) (negsuc b) k e = let f : ⊥ = omega arith in absurd f
below (negsuc a) (pos b) k e = refl
below (negsuc a) (negsuc b) k e = lt-ltb b a (omega arith)

closer : (a b : ℤ) (k : ℕ) → above a b ≡ suc k → above (suc_ℤ a) b ≡ k
closer (pos a) (pos b) k e = omega arith
closer (pos a) (negsuc b) k e = let f : ⊥ = omega arith in absurd f
closer (negsuc zero) (pos b) k e = omega arith
closer (negsuc (suc a)) (pos b) k e = omega arith
closer (negsuc zero) (negsuc b) k e = let f : ⊥ = omega arith in absurd f
closer (negsuc (suc a)) (negsuc b) k e = omega arith

-- the same of the code's numbers
pub last_value : (z high : ℤ) → above_zero (high -ℤ z) ≡ 0 → lt_z z high ≡ false
last_value z high e = level z high (sym (above_is z high) ∙ e)

pub value_below : (z high : ℤ) (k : ℕ) → above_zero (high -ℤ z) ≡ suc k → lt_z z high ≡ true
value_below z high k e = below z high k (sym (above_is z high) ∙ e)

pub value_closer : (z high : ℤ) (k : ℕ) → above_zero (high -ℤ z) ≡ suc k → above_zero (high -ℤ (z +ℤ pos 1)) ≡ k
value_closer z high k e = above_is (z +ℤ pos 1) high ∙ rw (+ℤ_one z) (closer z high k (sym (above_is z high) ∙ e))

-- ---- the order

-- at least a: a itself, or at least the next number
data Least (a z : ℤ) : Type 0 where
  this : a ≡ z → Least a z
  more : le_z (suc_ℤ a) z ≡ true → Least a z

least_nat : (a b : ℕ) → a ≤ b → (a ≡ b) ⊎ (suc a ≤ b)
least_nat zero zero h = inl refl
least_nat zero (suc b) h = inr (omega arith)
least_nat (suc a) zero h = let f : ⊥ = omega arith in absurd f
least_nat (suc a) (suc b) h = by (least_nat a b (omega arith))
  where
    by : (a ≡ b) ⊎ (suc a ≤ b) → (suc a ≡ suc b) ⊎ (suc (suc a) ≤ suc b)
    by (inl e) = inl (ap suc e)
    by (inr k) = inr (omega arith)

least_pos : (a b : ℕ) → (a ≡ b) ⊎ (suc a ≤ b) → Least (pos a) (pos b)
least_pos a b (inl e) = this (ap pos e)
least_pos a b (inr k) = more (le-leb (suc a) b k)

least_neg : (a b : ℕ) → (b ≡ a) ⊎ (suc b ≤ a) → Least (negsuc a) (negsuc b)
least_neg a b (inl e) = this (ap negsuc (sym e))
least_neg zero b (inr k) = let f : ⊥ = omega arith in absurd f
least_neg (suc a) b (inr k) = more (le-leb b a (omega arith))

least_mixed : (a b : ℕ) → Least (negsuc a) (pos b)
least_mixed zero b = more (le-leb 0 b (omega arith))
least_mixed (suc a) b = more refl

least : (a z : ℤ) → le_z a z ≡ true → Least a z
least (pos a) (pos b) e = least_pos a b (least_nat a b (leb-true a b e))
least (pos a) (negsuc b) e = let z : ◌≡◌ {A = ℕ} 0 1 = cc in let f : ⊥ = omega arith in absurd f
least (negsuc a) (pos b) e = least_mixed a b
least (negsuc a) (negsuc b) e = least_neg a b (least_nat b a (leb-true b a e))

pub at_least : (a z : ℤ) → le_z a z ≡ true → (a ≡ z) ⊎ (le_z (a +ℤ pos 1) z ≡ true)
at_least a z e = by (least a z e)
  where
    by : Least a z → (a ≡ z) ⊎ (le_z (a +ℤ pos 1) z ≡ true)
    by (this q) = inl q
    by (more q) = inr (rw (+ℤ_one a) q)

-- below a number that is not above another: not above it either
pub next_within : (a z high : ℤ) → le_z a z ≡ true → lt_z z high ≡ true → (le_z a (z +ℤ pos 1) ≡ true) × (le_z (z +ℤ pos 1) high ≡ true)
next_within a z high e h = rw (+ℤ_one z) (over a z e, under z high h)
  where
    over : (a z : ℤ) → le_z a z ≡ true → le_z a (suc_ℤ z) ≡ true
    over (pos a) (pos z) e = le-leb a (suc z) (omega (arith, leb-true a z e))
    over (pos a) (negsuc zero) e = let z : ◌≡◌ {A = ℕ} 0 1 = cc in let f : ⊥ = omega arith in absurd f
    over (pos a) (negsuc (suc z)) e = e
    over (negsuc a) (pos z) e = refl
    over (negsuc a) (negsuc zero) e = refl
    over (negsuc a) (negsuc (suc z)) e = le-leb z a (omega (arith, leb-true (suc z) a e))

    under : (z high : ℤ) → lt_z z high ≡ true → le_z (suc_ℤ z) high ≡ true
    under (pos z) (pos h) e = le-leb (suc z) h (omega (arith, ltb-true z h e))
    under (pos z) (negsuc h) e = e
    under (negsuc zero) (pos h) e = le-leb 0 h (omega arith)
    under (negsuc (suc z)) (pos h) e = refl
    under (negsuc zero) (negsuc h) e = let f : ⊥ = omega (arith, ltb-true h 0 e) in absurd f
    under (negsuc (suc z)) (negsuc h) e = le-leb h z (omega (arith, ltb-true h (suc z) e))

-- neither below nor above
pub same_number : (a z high : ℤ) → le_z a z ≡ true → le_z z high ≡ true → lt_z a high ≡ false → a ≡ z
same_number a z high e h n = by (at_least a z e)
  where
    between-them : (a z high : ℤ) → le_z (suc_ℤ a) z ≡ true → le_z z high ≡ true → lt_z a high ≡ true
    between-them (pos a) (pos z) (pos h) e k = lt-ltb a h (omega (arith, leb-true (suc a) z e, leb-true z h k))
    between-them (pos a) (pos z) (negsuc h) e k = k
    between-them (pos a) (negsuc z) high e k = let z : ◌≡◌ {A = ℕ} 0 1 = cc in let f : ⊥ = omega arith in absurd f
    between-them (negsuc a) z (pos h) e k = refl
    between-them (negsuc zero) (pos z) (negsuc h) e k = let z : ◌≡◌ {A = ℕ} 0 1 = cc in let f : ⊥ = omega arith in absurd f
    between-them (negsuc zero) (negsuc z) (negsuc h) e k = let z : ◌≡◌ {A = ℕ} 0 1 = cc in let f : ⊥ = omega arith in absurd f
    between-them (negsuc (suc a)) (pos z) (negsuc h) e k = let z : ◌≡◌ {A = ℕ} 0 1 = cc in let f : ⊥ = omega arith in absurd f
    between-them (negsuc (suc a)) (negsuc z) (negsuc h) e k = lt-ltb h (suc a) (omega (arith, leb-true z a e, leb-true h z k))

    by : (a ≡ z) ⊎ (le_z (a +ℤ pos 1) z ≡ true) → a ≡ z
    by (inl q) = q
    by (inr q) =
        let t : lt_z a high ≡ true = between-them a z high (rw (+ℤ_one a) at q) h in
        let z : ◌≡◌ {A = ℕ} 0 1 = cc in
        let f : ⊥ = omega arith in
        absurd f

-- ---- the size of a range

pub span : (low high : ℤ) → lt_z high low ≡ false → high -ℤ low ≡ pos (above_zero (high -ℤ low))
span (pos zero) (pos b) e = refl
span (pos (suc a)) (pos b) e = rw (le-ltb b (suc a) (ltb-false b (suc a) e))
span (pos a) (negsuc b) e = let z : ◌≡◌ {A = ℕ} 0 1 = cc in let f : ⊥ = omega arith in absurd f
span (negsuc a) (pos b) e = refl
span (negsuc a) (negsuc b) e = let h = ltb-false a b e in rw (le-ltb (suc a) (suc b) (omega arith))

no_span : (low high : ℤ) → lt_z high low ≡ true → above low high ≡ 0
no_span (pos a) (pos b) e = let h = ltb-true b a e in omega arith
no_span (pos a) (negsuc b) e = refl
no_span (negsuc a) (pos b) e = let z : ◌≡◌ {A = ℕ} 0 1 = cc in let f : ⊥ = omega arith in absurd f
no_span (negsuc a) (negsuc b) e = let h = ltb-true a b e in omega arith

pub size_empty : (low high : ℤ) → lt_z high low ≡ true → size_between low high ≡ 1
unfolding size_between
size_empty low high e = ap suc (above_is low high ∙ no_span low high e)

above_most : (low high : ℤ) → mag low < 2147483648 → mag high < 2147483648 → above low high < 4294967296
above_most (pos a) (pos b) h k = omega arith
above_most (pos a) (negsuc b) h k = omega arith
above_most (negsuc a) (pos b) h k = omega arith
above_most (negsuc a) (negsuc b) h k = omega arith

pub above_limit : (low high : ℤ) → mag low < 2147483648 → mag high < 2147483648 → above_zero (high -ℤ low) < 4294967296
above_limit low high h k = omega (arith, above_is low high, above_most low high h k)

-- a number below another is not the last of 32 bits
after_fits : (z high : ℤ) → lt_z z high ≡ true → mag z < 2147483648 → mag high < 2147483648 → mag (suc_ℤ z) < 2147483648
after_fits (pos a) (pos b) e h k = omega (arith, ltb-true a b e)
after_fits (pos a) (negsuc b) e h k = let z : ◌≡◌ {A = ℕ} 0 1 = cc in let f : ⊥ = omega arith in absurd f
after_fits (negsuc zero) high e h k = omega arith
after_fits (negsuc (suc a)) high e h k = omega arith

pub next_fits : {z high : ℤ} → SFits w32 z → SFits w32 high → lt_z z high ≡ true → SFits w32 (z +ℤ pos 1)
next_fits {z} {high} f g e = rw (+ℤ_one z) (record { sfits = after_fits z high e f.sfits g.sfits })
