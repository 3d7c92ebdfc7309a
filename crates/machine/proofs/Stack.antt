-- Laws of the values held, as they stand in lent memory, and of instructions that take one or two of them. Assumes nothing.
use mathlib.Core.Path.{◌≡◌, refl, ap, ◌∙◌}
use mathlib.Core.Bool.{Bool, false}
use mathlib.Core.List.{List, ◌∷◌}
use Prim.Native.Nat.{ℕ, zero, suc, ◌+◌, ◌-◌, ◌≤◌, ◌<◌}
use native.Mathlib.Omega.{arith}
use native.Mathlib.Numerals.{add-one}
use borrow.Author.Tests.{lt-ltb, le-ltb}
use lib.IntN.{ℤ, pos}
use lib.ListN.{length, get_or, set}
use lib.Seq.{get_or-set_same, get_or-set_other}
use Rattle.arith.specs.Values.{Outcome, ok, refusal, ◌>>=◌}
use Rattle.semantics.specs.Formula.{State}
use Rattle.machine.specs.Step.{Machine, machine, push, pop}
use Rattle.machine.specs.Inner.Memory.{held_of}

-- ---- the values held

pub length_held : (l : List ℤ) (n : ℕ) → length (held_of l n) ≡ n
unfolding held_of
length_held l zero = refl
length_held l (suc n) = ap suc (length_held l n)

-- a store above them leaves them
held_set : (l : List ℤ) (i n : ℕ) (v : ℤ) → n ≤ i → held_of (set l i v) n ≡ held_of l n
unfolding held_of
held_set l i zero v h = refl
held_set l i (suc n) v h = rw (get_or-set_other l i n v (pos 0) (λ e. omega arith), held_set l i n v (omega arith))

-- a store on top
pub held_put : (l : List ℤ) (n : ℕ) (v : ℤ) → n < length l → held_of (set l n v) (n + 1) ≡ v ∷ held_of l n
unfolding held_of
held_put l n v h = rw (add-one n, get_or-set_same l n v (pos 0) h, held_set l n n v (omega arith))

pub held_top : (l : List ℤ) (n : ℕ) → 0 < n → held_of l n ≡ get_or l (n - 1) (pos 0) ∷ held_of l (n - 1)
unfolding held_of
held_top l zero h = absurd (omega arith)
held_top l (suc n) h = let e : suc n - 1 ≡ n = omega arith in rw e

pub not_none : (n : ℕ) → (n ≡ 0 → ⊥) → 0 < n
not_none zero h = absurd (h refl)
not_none (suc n) h = omega arith

-- ---- a value more
module _ (l : List ℤ) (n : ℕ) (v : ℤ) (c : Bool) (t : State) where
  pub push_full : 40 ≤ n → refusal 11 ≡ push v c (held_of l n) t
  push_full h = rw (length_held, le-ltb n 40 h)

  pub push_put : n < 40 → 40 ≤ length l → ok (machine false c (held_of (set l n v) (n + 1)) t) ≡ push v c (held_of l n) t
  push_put h k = rw (held_put l n v (omega arith), length_held, lt-ltb n 40 h)

-- ---- no value to take
pub pop_none : (l : List ℤ) (n : ℕ) (k : ℤ → List ℤ → Outcome Machine) → n ≡ 0 → refusal 11 ≡ pop (held_of l n) k
unfolding held_of
pop_none l n k e = rw e

-- one value taken
pub pop-top : (l : List ℤ) (n : ℕ) (k : ℤ → List ℤ → Outcome Machine) → (n ≡ 0 → ⊥) → pop (held_of l n) k ≡ k (get_or l (n - 1) (pos 0)) (held_of l (n - 1))
pop-top l n k h = rw (held_top l n (not_none n h))

-- ---- one value taken and one put in its place
abbrev pub on_one : (ℤ → Outcome ℤ) → Bool → List ℤ → State → Outcome Machine
on_one f c vs t = pop vs λ a vs₁. f a >>= λ z. ok (machine false c (z ∷ vs₁) t)

module _ (f : ℤ → Outcome ℤ) (l : List ℤ) (n : ℕ) (c : Bool) (t : State) (some : n ≡ 0 → ⊥) where
  pub one_refused : (k : ℕ) → f (get_or l (n - 1) (pos 0)) ≡ refusal k → refusal k ≡ on_one f c (held_of l n) t
  one_refused k e = rw (held_top l n (not_none n some), e)

  pub one_put : (v : ℤ) → n ≤ length l → f (get_or l (n - 1) (pos 0)) ≡ ok v → ok (machine false c (held_of (set l (n - 1) v) n) t) ≡ on_one f c (held_of l n) t
  one_put v k e =
      let h : 0 < n = not_none n some in
      let q : n - 1 + 1 ≡ n = omega arith in
      let p : held_of (set l (n - 1) v) n ≡ v ∷ held_of l (n - 1) = rw q at (held_put l (n - 1) v (omega arith)) in
      rw (p, held_top l n h, e)

-- ---- two values taken and one put in their place
abbrev pub on_two : (ℤ → ℤ → Outcome ℤ) → Bool → List ℤ → State → Outcome Machine
on_two f c vs t = pop vs λ b vs₁. pop vs₁ λ a vs₂. f a b >>= λ z. ok (machine false c (z ∷ vs₂) t)

module _ (f : ℤ → ℤ → Outcome ℤ) (l : List ℤ) (n : ℕ) (c : Bool) (t : State) where
  pub two_few : n < 2 → refusal 11 ≡ on_two f c (held_of l n) t
  two_few h = few n h
    where
      few : (k : ℕ) → k < 2 → refusal 11 ≡ on_two f c (held_of l k) t
      few zero h = pop_none l 0 _ refl
      few (suc zero) h = rw (held_top l 1 (omega arith)) (pop_none l 0 _ refl)
      few (suc (suc k)) h = absurd (omega arith)

  held_two : 2 ≤ n → held_of l n ≡ get_or l (n - 1) (pos 0) ∷ get_or l (n - 2) (pos 0) ∷ held_of l (n - 2)
  held_two h =
      let e : n - 1 - 1 ≡ n - 2 = omega arith in
      held_top l n (omega arith) ∙ rw (held_top l (n - 1) (omega arith), e)

  pub two_refused : (k : ℕ) → 2 ≤ n → f (get_or l (n - 2) (pos 0)) (get_or l (n - 1) (pos 0)) ≡ refusal k → refusal k ≡ on_two f c (held_of l n) t
  two_refused k h e = rw (held_two h, e)

  pub two_put : (v : ℤ) → 2 ≤ n → n ≤ length l → f (get_or l (n - 2) (pos 0)) (get_or l (n - 1) (pos 0)) ≡ ok v
      → ok (machine false c (held_of (set l (n - 2) v) (n - 1)) t) ≡ on_two f c (held_of l n) t
  two_put v h k e =
      let q : n - 2 + 1 ≡ n - 1 = omega arith in
      let p : held_of (set l (n - 2) v) (n - 1) ≡ v ∷ held_of l (n - 2) = rw q at (held_put l (n - 2) v (omega arith)) in
      rw (p, held_two h, e)
