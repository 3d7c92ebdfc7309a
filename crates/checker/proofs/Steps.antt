-- The definition of one instruction's soundness, test by test, as the code takes the tests. Assumes nothing.
use Prim.Native.Nat.{ℕ, zero, suc, ◌+◌, ◌-◌, ◌*◌, ◌/◌, ◌%◌, ◌^◌, ◌≤◌, ◌<◌}
use mathlib.Core.Path.{◌≡◌, refl, sym, ap, ◌∙◌}
use mathlib.Core.Bool.{Bool, true, false, not, ◌&&◌}
use mathlib.Core.List.{List, [], ◌∷◌}
use mathlib.Core.Option.{Option, none, some}
use native.Mathlib.Omega.{arith}
use lib.Dec.{eqb, ltb}
use lib.ListN.{set}
use borrow.Author.Tests.{eq-eqb, ne_eqb, eqb-true, eqb-false, le-ltb}
use Rattle.arith.specs.Inner.Flags.{flags_of}
use Rattle.arith.specs.Values.{Operation, Comparison, is_int32}
use Rattle.arith.proofs.Basics.{T_true}
use Rattle.semantics.specs.Program.{Side, changing, rising, falling}
use Rattle.leb128.specs.Numbers.{unzigzag}
use Rattle.bytecode.specs.Instructions.{constant, operation, negate, comparison, negated, both, either, gate, pick, assign}
use Rattle.bytecode.specs.Signature.{Sort, number, truth}
use Rattle.bytecode.specs.Check.{Picks, Known, known, guard, one, empty, unset, closed, may_begin, may_follow, fresh, opened, advance}
use Rattle.bytecode.proofs.Heading.{unzigzag_int32}
use Rattle.bytecode.proofs.LastOpen.{gate_of}
use Rattle.checker.specs.declared.advance.Walk.{Walk}
use Rattle.checker.specs.Inner.Walk.{sort_of, sorts_of, open_of, side_of, picks_of, known_of, pushed, kept, joined, only, outside}
use Rattle.checker.proofs.Bits.{sorts_none, sorts-one, sorts-cons, sorts_two}

-- ---- the value on top

-- it is of the sort wanted, or of the other
pub one_same : (b : ℕ) (vs : List Sort) (k : List Sort → Option Known) → one (sort_of b) (sort_of b ∷ vs) k ≡ k vs
one_same zero vs k = refl
one_same (suc b) vs k = refl

pub one_other : (a b : ℕ) → a < 2 → b < 2 → (a ≡ b → ⊥) → (vs : List Sort) (k : List Sort → Option Known) → one (sort_of b) (sort_of a ∷ vs) k ≡ none
one_other zero zero l m h vs k = absurd (h refl)
one_other zero (suc b) l m h vs k = refl
one_other (suc a) zero l m h vs k = refl
one_other (suc a) (suc b) l m h vs k = absurd (h (omega arith))

pub one_nothing : (s : Sort) (k : List Sort → Option Known) → one s [] k ≡ none
one_nothing number k = refl
one_nothing truth k = refl

-- whatever follows, it breaks
pub one_none : (s : Sort) (vs : List Sort) → one s vs (λ vs₁. none) ≡ none
one_none number [] = refl
one_none number (number ∷ vs) = refl
one_none number (truth ∷ vs) = refl
one_none truth [] = refl
one_none truth (number ∷ vs) = refl
one_none truth (truth ∷ vs) = refl

-- just one value
only_same : (a b : ℕ) → a < 2 → b < 2 → only (sort_of b) (sort_of a ∷ []) ≡ eqb a b
only_same zero zero l m = refl
only_same zero (suc b) l m = sym (ne_eqb 0 (suc b) (λ e. omega arith))
only_same (suc a) zero l m = sym (ne_eqb (suc a) 0 (λ e. omega arith))
only_same (suc a) (suc b) l m = let e : a ≡ b = omega arith in rw (eq-eqb (suc a) (suc b) (ap suc e))

pub only_one : (k b : ℕ) → b < 2 → only (sort_of b) (sorts_of 1 k) ≡ eqb (k % 2) b
only_one k b l = rw (sorts-one k) (only_same (k % 2) b (omega arith) l)

only_two : (s x y : Sort) (vs : List Sort) → only s (x ∷ y ∷ vs) ≡ false
only_two number number y vs = refl
only_two number truth y vs = refl
only_two truth number y vs = refl
only_two truth truth y vs = refl

only_nothing : (s : Sort) → only s [] ≡ false
only_nothing number = refl
only_nothing truth = refl

pub only_other : (s : Sort) (n k : ℕ) → (n ≡ 1 → ⊥) → only s (sorts_of n k) ≡ false
unfolding sorts_of
only_other s zero k h = only_nothing s
only_other s (suc zero) k h = absurd (h refl)
only_other s (suc (suc n)) k h = only_two s _ _ _

pub empty_not : (n k : ℕ) → (n ≡ 0 → ⊥) → empty (sorts_of n k) ≡ false
unfolding sorts_of
empty_not zero k h = absurd (h refl)
empty_not (suc n) k h = refl

-- ---- values that give way to a result

module _ (w : Walk) (b : ℕ) where
  pub kept_none : w.held ≡ 0 → kept (sort_of b) (known_of w) ≡ none
  unfolding kept
  kept_none e = rw (e, sorts_none) (one_nothing (sort_of b) _)

  pub kept_other : b < 2 → (w.held ≡ 0 → ⊥) → (w.sorts % 2 ≡ b → ⊥) → kept (sort_of b) (known_of w) ≡ none
  unfolding kept
  kept_other l h e = rw (sorts-cons w.held w.sorts (omega arith)) (one_other (w.sorts % 2) b (omega arith) l e _ _)

  pub kept_same : (w.held ≡ 0 → ⊥) → w.sorts % 2 ≡ b → kept (sort_of b) (known_of w) ≡ some (known_of w)
  unfolding kept
  kept_same h e = rw (sorts-cons w.held w.sorts (omega arith), e) (one_same b _ _)

  module _ (t : Sort) where
    pub joined_few : w.held < 2 → joined (sort_of b) t (known_of w) ≡ none
    unfolding joined sorts_of
    joined_few h = go w.held h
      where
        go : (n : ℕ) → n < 2 → joined (sort_of b) t (known (sorts_of n w.sorts) (open_of w.gate) (picks_of w.picking) (flags_of w.names w.known)) ≡ none
        go zero l = one_nothing (sort_of b) _
        go (suc zero) l = top (sort_of b) (sort_of (w.sorts % 2))
          where
            top : (s x : Sort) → (one s (x ∷ []) λ vs₁. one s vs₁ λ vs₂. some (known (t ∷ vs₂) (open_of w.gate) (picks_of w.picking) (flags_of w.names w.known))) ≡ none
            top number number = refl
            top number truth = refl
            top truth number = refl
            top truth truth = refl
        go (suc (suc n)) l = let f : ⊥ = omega arith in absurd f

    module _ (l : b < 2) (h : 2 ≤ w.held) where
      pub joined_first : (w.sorts % 2 ≡ b → ⊥) → joined (sort_of b) t (known_of w) ≡ none
      unfolding joined
      joined_first e = rw (sorts_two w.held w.sorts h) (one_other (w.sorts % 2) b (omega arith) l e _ _)

      pub joined_second : w.sorts % 2 ≡ b → (w.sorts / 2 % 2 ≡ b → ⊥) → joined (sort_of b) t (known_of w) ≡ none
      unfolding joined
      joined_second e f = rw (sorts_two w.held w.sorts h, e) (one_same b _ _ ∙ one_other (w.sorts / 2 % 2) b (omega arith) l f _ _)

      pub joined_both : w.sorts % 2 ≡ b → w.sorts / 2 % 2 ≡ b
          → joined (sort_of b) t (known_of w) ≡ some (known (t ∷ sorts_of (w.held - 2) (w.sorts / 2 / 2)) (open_of w.gate) (picks_of w.picking) (flags_of w.names w.known))
      unfolding joined
      joined_both e f = rw (sorts_two w.held w.sorts h, e, f) (one_same b _ _ ∙ one_same b _ _)

-- ---- the gate

pub open_yes : (n : ℕ) → (n ≡ 0 → ⊥) → open_of n ≡ true
open_yes zero h = absurd (h refl)
open_yes (suc n) h = refl

-- ---- the picks that await their settle

pub closed_not : (p : ℕ) → (p ≡ 0 → ⊥) → closed (picks_of p) ≡ false
closed_not zero h = absurd (h refl)
closed_not (suc p) h = refl

pub picks_made : (side id : ℕ) → side < 3 → picks_of (3 * id + 1 + side) ≡ some (record { side = side_of side; id = id })
picks_made side id l =
    let e : 3 * id + 1 + side ≡ suc (3 * id + side) = omega arith in
    let q : (3 * id + side) / 3 ≡ id = omega arith in
    let r : (3 * id + side) % 3 ≡ side = omega arith in
    rw (e, q, r)

follow_self : (side : Side) → may_follow side side ≡ true
follow_self changing = refl
follow_self rising = refl
follow_self falling = refl

-- another side follows only where a falling one comes after a rising one
follow_not : (a b : ℕ) → a < 3 → b < 2 → (a ≡ b → ⊥) → may_follow (side_of a) (side_of b) ≡ false
follow_not zero zero l m h = absurd (h refl)
follow_not zero (suc zero) l m h = refl
follow_not (suc zero) zero l m h = refl
follow_not (suc zero) (suc zero) l m h = absurd (h refl)
follow_not (suc (suc a)) zero l m h = refl
follow_not (suc (suc a)) (suc zero) l m h = refl
follow_not a (suc (suc b)) l m h = let f : ⊥ = omega arith in absurd f

pub begin_is : (side : ℕ) → side < 3 → may_begin (side_of side) ≡ ltb side 2
begin_is zero l = refl
begin_is (suc zero) l = refl
begin_is (suc (suc side)) l = sym (le-ltb (suc (suc side)) 2 (omega arith))

by_test : {P : Type 0} (a b : ℕ) → (a ≡ b → P) → ((a ≡ b → ⊥) → P) → P
by_test {P} a b y n = go (eqb a b) (eqb-true a b) (eqb-false a b)
  where
    go : (t : Bool) → (t ≡ true → a ≡ b) → (t ≡ false → a ≡ b → ⊥) → P
    go true e f = y (e refl)
    go false e f = n (f refl)

pub fresh_same : (p side id : ℕ) → side < 3 → p ≡ 3 * id + 1 + side → fresh (picks_of p) (side_of side) id ≡ true
fresh_same zero side id l e = let f : ⊥ = omega arith in absurd f
fresh_same (suc n) side id l e =
    let q : n / 3 ≡ id = omega arith in
    let r : n % 3 ≡ side = omega arith in
    rw (q, r, eq-eqb id id refl) (follow_self (side_of side))

pub fresh_not : (p side id : ℕ) → (p ≡ 0 → ⊥) → side < 2 → (p ≡ 3 * id + 1 + side → ⊥) → fresh (picks_of p) (side_of side) id ≡ false
fresh_not zero side id z l h = absurd (z refl)
fresh_not (suc n) side id z l h =
    by_test (n / 3) id
    (λ q. rw (eq-eqb (n / 3) id q) (follow_not (n % 3) side (omega arith) l λ r. h (omega arith)))
    (λ q. rw (ne_eqb (n / 3) id q))

pub fresh_falling : (p id : ℕ) → (p ≡ 0 → ⊥) → (p ≡ 3 * id + 1 + 2 → ⊥) → fresh (picks_of p) falling id ≡ eqb p (3 * id + 2)
fresh_falling zero id z h = absurd (z refl)
fresh_falling (suc n) id z h =
    by_test (n / 3) id
    (λ q. by_test (n % 3) 1
    (λ r. rw (eq-eqb (n / 3) id q, r, eq-eqb (suc n) (3 * id + 2) (omega arith)))
    (λ r. let e : n % 3 ≡ 0 = last (n % 3) (omega arith) r λ w. h (omega arith) in rw (eq-eqb (n / 3) id q, e, ne_eqb (suc n) (3 * id + 2) λ w. omega arith)))
    (λ q. rw (ne_eqb (n / 3) id q, ne_eqb (suc n) (3 * id + 2) λ w. q (omega arith)))
  where
    last : (k : ℕ) → k < 3 → (k ≡ 1 → ⊥) → (k ≡ 2 → ⊥) → k ≡ 0
    last zero l a b = refl
    last (suc zero) l a b = absurd (a refl)
    last (suc (suc zero)) l a b = absurd (b refl)
    last (suc (suc (suc k))) l a b = let f : ⊥ = omega arith in absurd f

pub opened_level : (p id : ℕ) → p ≡ 3 * id + 1 → opened (picks_of p) id ≡ true
opened_level zero id e = let f : ⊥ = omega arith in absurd f
opened_level (suc n) id e =
    let q : n / 3 ≡ id = omega arith in
    let r : n % 3 ≡ 0 = omega arith in
    rw (q, r, eq-eqb id id refl)

pub opened_other : (p id : ℕ) → (p ≡ 3 * id + 1 → ⊥) → opened (picks_of p) id ≡ eqb p (3 * id + 3)
opened_other zero id h = sym (ne_eqb 0 (3 * id + 3) λ e. omega arith)
opened_other (suc n) id h =
    by_test (n / 3) id
    (λ q. by_test (n % 3) 2
    (λ r. rw (eq-eqb (n / 3) id q, r, eq-eqb (suc n) (3 * id + 3) (omega arith)))
    (λ r. let e : n % 3 ≡ 1 = middle (n % 3) (omega arith) (λ w. h (omega arith)) r in rw (eq-eqb (n / 3) id q, e, ne_eqb (suc n) (3 * id + 3) λ w. omega arith)))
    (λ q. rw (ne_eqb (n / 3) id q, ne_eqb (suc n) (3 * id + 3) λ w. q (omega arith)))
  where
    middle : (k : ℕ) → k < 3 → (k ≡ 0 → ⊥) → (k ≡ 2 → ⊥) → k ≡ 1
    middle zero l a b = absurd (a refl)
    middle (suc zero) l a b = refl
    middle (suc (suc zero)) l a b = absurd (b refl)
    middle (suc (suc (suc k))) l a b = let f : ⊥ = omega arith in absurd f

-- ---- the instructions

pub two_none : (s : Sort) (vs : List Sort) → (one s vs λ vs₁. one s vs₁ λ vs₂. none) ≡ none
two_none number [] = refl
two_none number (number ∷ vs) = one_none number vs
two_none number (truth ∷ vs) = refl
two_none truth [] = refl
two_none truth (number ∷ vs) = refl
two_none truth (truth ∷ vs) = one_none truth vs

two_is : (s : Sort) (vs : List Sort) (g : Bool) (o : Option Picks) (ids : List Bool)
    → (one s vs λ vs₁. one s vs₁ λ vs₂. guard (not g) (known (truth ∷ vs₂) g o ids)) ≡ outside g (joined s truth (known vs g o ids))
unfolding joined
two_is s vs true o ids = two_none s vs
two_is s vs false o ids = refl

pub operation-is : (x : Operation) (c : Known) → advance (operation x) c ≡ joined number number c
unfolding joined
operation-is x (known vs g o ids) = refl

pub comparison_is : (x : Comparison) (c : Known) → advance (comparison x) c ≡ outside (gate_of c) (joined number truth c)
comparison_is x (known vs g o ids) = two_is number vs g o ids

pub both_is : (c : Known) → advance both c ≡ outside (gate_of c) (joined truth truth c)
both_is (known vs g o ids) = two_is truth vs g o ids

pub either_is : (c : Known) → advance either c ≡ outside (gate_of c) (joined truth truth c)
either_is (known vs g o ids) = two_is truth vs g o ids

pub negate_is : (c : Known) → advance negate c ≡ kept number c
unfolding kept
negate_is (known vs g o ids) = refl

pub negated_is : (c : Known) → advance negated c ≡ outside (gate_of c) (kept truth c)
unfolding kept
negated_is (known vs true o ids) = one_none truth vs
negated_is (known vs false o ids) = refl

module _ (g : Bool) (o : Option Picks) (ids : List Bool) where
  pub gate_is : (vs : List Sort) → advance gate (known vs g o ids) ≡ guard (not g && only truth vs) (known [] true o ids)
  gate_is vs = go g vs
    where
      go : (h : Bool) (vs : List Sort) → (one truth vs λ vs₁. guard (not h && empty vs₁) (known [] true o ids)) ≡ guard (not h && only truth vs) (known [] true o ids)
      go true [] = refl
      go false [] = refl
      go true (number ∷ vs) = refl
      go false (number ∷ vs) = refl
      go h (truth ∷ []) = refl
      go h (truth ∷ x ∷ vs) = refl

  -- pick and let find just one number, and what else they need
  number_is : (h a b : Bool) (c : Known) (vs : List Sort) → (one number vs λ vs₁. guard (h && empty vs₁ && a && b) c) ≡ guard (h && only number vs && a && b) c
  number_is true a b c [] = refl
  number_is false a b c [] = refl
  number_is true a b c (truth ∷ vs) = refl
  number_is false a b c (truth ∷ vs) = refl
  number_is h a b c (number ∷ []) = refl
  number_is h a b c (number ∷ x ∷ vs) = refl

  pub pick_is : (side : Side) (v : ℕ) (vs : List Sort)
      → advance (pick side v) (known vs g o ids) ≡ guard (g && only number vs && unset ids v && fresh o side v) (known [] false (some (record { side = side; id = v })) ids)
  pick_is side v vs = number_is g (unset ids v) (fresh o side v) _ vs

  pub assign_is : (v : ℕ) (vs : List Sort)
      → advance (assign v) (known vs g o ids) ≡ guard (not g && only number vs && unset ids v && closed o) (known [] false none (set ids v true))
  assign_is v vs = number_is (not g) (unset ids v) (closed o) _ vs

-- constants in signed 32-bit range: an operand is below 2 ^ 32
pub constant_is : (n : ℕ) (c : Known) → n < 2 ^ 32 → advance (constant (unzigzag n)) c ≡ pushed c
unfolding pushed
constant_is n (known vs g o ids) h = rw (T_true (is_int32 (unzigzag n)) (unzigzag_int32 n h))

pub outside_no : (g : Bool) (r : Option Known) → g ≡ false → r ≡ outside g r
outside_no g r e = rw e
