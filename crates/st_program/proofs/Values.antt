-- Expressions and conditions have the same values in Structured Text. Assumes nothing.
use Prim.Native.Nat.{ℕ, ◌<◌}
use native.Mathlib.Omega.{arith}
use mathlib.Core.Path.{◌≡◌, refl, sym, ap, ◌∙◌}
use mathlib.Core.Bool.{Bool, true, false, not, ◌&&◌, ◌||◌, cond}
use mathlib.Core.List.{List}
use mathlib.Core.Option.{none, some}
use lib.Dec.{ltb}
use lib.IntN.{ℤ, pos, negsuc, neg_ℤ, ◌+ℤ◌, ◌-ℤ◌, ◌*ℤ◌}
use lib.Signed.{quot_z}
use lib.ListN.{length}
use borrow.Author.Tests.{ltb-true}
use Rattle.arith.specs.Values.{ok, ◌>>=◌, require, eq_z, is_int32, int32, remainder, Operation, add, subtract, multiply, divide, modulo, arithmetic, negation, Comparison, equal, not_equal, less, less_equal, greater, greater_equal, compares}
use Rattle.arith.proofs.Basics.{T_true, ok≢refusal, ok_inj, Bound, bound, unbind}
use Rattle.semantics.specs.Program.{Expression, constant, current, previous, operation, negate, Condition, comparison, negated, both, either, UsableE, UsableC}
use Rattle.semantics.specs.Formula.{State, at, eval_e, eval_c}
use Rattle.st.specs.Syntax.{Identifier, or, and, Operator, connects, relates, computes, StExpression, negative, complement, binary}
use Rattle.st.specs.Meaning.{Value, dint, truth, dint_result, applied, opposed, decides, Store, value_in, evaluate, previous_name}
use Rattle.bytecode.proofs.SmallOperands.{known_inside}
use Rattle.st_program.specs.Written.{name_at, expression_in_st, condition_in_st}

-- ---- operations

required : (t : Bool) (k : ℕ) (w z : ℤ) → require t k w ≡ ok z → cond t (some (dint w)) none ≡ some (dint z)
required true k w z e = ap (λ x. some (dint x)) (ok_inj e)
required false k w z e = ok≢refusal z k (sym e)

in_range_lem : (w z : ℤ) → int32 w ≡ ok z → dint_result w ≡ some (dint z)
in_range_lem w z e = required (is_int32 w) 14 w z e

arithmetic_same : (o : Operation) (x y z : ℤ) → arithmetic o x y ≡ ok z → applied (computes o) (dint x) (dint y) ≡ some (dint z)
unfolding arithmetic
arithmetic_same add x y z e = in_range_lem (x +ℤ y) z e
arithmetic_same subtract x y z e = in_range_lem (x -ℤ y) z e
arithmetic_same multiply x y z e = in_range_lem (x *ℤ y) z e
arithmetic_same divide x y z e = by (eq_z y (pos 0)) e where
  by : (t : Bool) → (require (not t) 14 y >>= λ d. int32 (quot_z x d)) ≡ ok z → cond t none (dint_result (quot_z x y)) ≡ some (dint z)
  by true e = ok≢refusal z 14 (sym e)
  by false e = required (is_int32 (quot_z x y)) 14 (quot_z x y) z e
arithmetic_same modulo x y z e = required (is_int32 (remainder x y)) 14 (remainder x y) z e

negation_same : (x z : ℤ) → negation x ≡ ok z → opposed (dint x) ≡ some (dint z)
unfolding negation
negation_same x z e = in_range_lem (neg_ℤ x) z e

compares_same : (o : Comparison) (x y : ℤ) → applied (relates o) (dint x) (dint y) ≡ some (truth (compares o x y))
unfolding compares
compares_same equal x y = refl
compares_same not_equal x y = refl
compares_same less x y = refl
compares_same less_equal x y = refl
compares_same greater x y = refl
compares_same greater_equal x y = refl

-- both operands worked out
both-worked : (lazy : Bool) (σ : Store) (o : Operator) (a b : StExpression) (x y v : Value) → evaluate lazy σ a ≡ some x → decides o x ≡ false → evaluate lazy σ b ≡ some y → applied o x y ≡ some v
    → evaluate lazy σ (binary o a b) ≡ some v
unfolding evaluate
both-worked true σ o a b x y v ea d eb e = rw (ea, d, eb, e)
both-worked false σ o a b x y v ea d eb e = rw (ea, eb, e)

-- AND and OR, whether the left operand decides or not
and_worked : (lazy : Bool) (σ : Store) (u v : StExpression) (x y : Bool) → evaluate lazy σ u ≡ some (truth x) → evaluate lazy σ v ≡ some (truth y)
    → evaluate lazy σ (binary (connects and) u v) ≡ some (truth (x && y))
unfolding evaluate
and_worked true σ u v true y eu ev = rw (eu, ev)
and_worked true σ u v false y eu ev = rw eu
and_worked false σ u v x y eu ev = rw (eu, ev)

or_worked : (lazy : Bool) (σ : Store) (u v : StExpression) (x y : Bool) → evaluate lazy σ u ≡ some (truth x) → evaluate lazy σ v ≡ some (truth y)
    → evaluate lazy σ (binary (connects or) u v) ≡ some (truth (x || y))
unfolding evaluate
or_worked true σ u v true y eu ev = rw eu
or_worked true σ u v false y eu ev = rw (eu, ev)
or_worked false σ u v x y eu ev = rw (eu, ev)

not_worked : (lazy : Bool) (σ : Store) (u : StExpression) (x : Bool) → evaluate lazy σ u ≡ some (truth x) → evaluate lazy σ (complement u) ≡ some (truth (not x))
unfolding evaluate
not_worked lazy σ u x eu = rw eu

-- ---- numbers of a text carry no sign

abbrev pub Literal : Expression → Type 0
Literal (constant (pos n)) = Unit {0}
Literal (constant (negsuc n)) = ⊥
Literal (current i) = Unit {0}
Literal (previous i) = Unit {0}
Literal (operation o a b) = Literal a × Literal b
Literal (negate a) = Literal a

abbrev pub LiteralC : Condition → Type 0
LiteralC (comparison o a b) = Literal a × Literal b
LiteralC (negated c) = LiteralC c
LiteralC (both a b) = LiteralC a × LiteralC b
LiteralC (either a b) = LiteralC a × LiteralC b

-- ---- expressions and conditions

-- each name has the value of t, its previous value that of s
pub record Shows (names : List Identifier) (σ : Store) (t s : State) : Type 0 where
  pub now : (i : ℕ) → i < length names → value_in σ (name_at names i) ≡ some (at t i)
  pub past : (i : ℕ) → i < length names → value_in σ (previous_name (name_at names i)) ≡ some (at s i)

module _ (names : List Identifier) (lazy : Bool) (σ : Store) (t s : State) (h : Shows names σ t s) (known : List Bool) (n : length known ≡ length names) where
  of_operation : (o : Operation) (x : ℤ) (b : Expression) (z : ℤ) (u v : StExpression) → evaluate lazy σ u ≡ some (dint x) → ((y : ℤ) → eval_e s t b ≡ ok y → evaluate lazy σ v ≡ some (dint y))
      → (eval_e s t b >>= λ y. arithmetic o x y) ≡ ok z → evaluate lazy σ (binary (computes o) u v) ≡ some (dint z)
  of_operation o x b z u v eu ev e = by (unbind (eval_e s t b) (λ y. arithmetic o x y) z e) where
    by : Bound (eval_e s t b) (λ y. arithmetic o x y) z → evaluate lazy σ (binary (computes o) u v) ≡ some (dint z)
    by (bound y ey r) = both-worked lazy σ (computes o) u v (dint x) (dint y) (dint z) eu refl (ev y ey) (arithmetic_same o x y z r)

  of_negation : (u : StExpression) (x z : ℤ) → evaluate lazy σ u ≡ some (dint x) → negation x ≡ ok z → evaluate lazy σ (negative u) ≡ some (dint z)
  unfolding evaluate
  of_negation u x z eu e = rw eu (negation_same x z e)

  pub expression_same : (e : Expression) → UsableE known e → Literal e → (z : ℤ) → eval_e s t e ≡ ok z → evaluate lazy σ (expression_in_st names e) ≡ some (dint z)
  unfolding evaluate expression_in_st
  expression_same (constant (pos k)) u l z e = rw (T_true (is_int32 (pos k)) u) (ap (λ x. some (dint x)) (ok_inj e))
  expression_same (constant (negsuc k)) u l z e = absurd l
  expression_same (current i) u l z e = rw (h.now i (let j = known_inside known i u in omega arith)) (ap (λ x. some (dint x)) (ok_inj e))
  expression_same (previous i) u l z e = rw (h.past i (let j = ltb-true i (length known) (T_true (ltb i (length known)) u) in omega arith)) (ap (λ x. some (dint x)) (ok_inj e))
  expression_same (operation o a b) u l z e = by (unbind (eval_e s t a) (λ x. eval_e s t b >>= λ y. arithmetic o x y) z e) (expression_same a u.0 l.0) (expression_same b u.1 l.1) where
    by : Bound (eval_e s t a) (λ x. eval_e s t b >>= λ y. arithmetic o x y) z → ((x : ℤ) → eval_e s t a ≡ ok x → evaluate lazy σ (expression_in_st names a) ≡ some (dint x)) → ((y : ℤ) → eval_e s t b ≡ ok y → evaluate lazy σ (expression_in_st names b) ≡ some (dint y))
        → evaluate lazy σ (binary (computes o) (expression_in_st names a) (expression_in_st names b)) ≡ some (dint z)
    by (bound x ex r) va vb = of_operation o x b z (expression_in_st names a) (expression_in_st names b) (va x ex) vb r
  expression_same (negate a) u l z e = by (unbind (eval_e s t a) (λ x. negation x) z e) (expression_same a u l) where
    by : Bound (eval_e s t a) (λ x. negation x) z → ((x : ℤ) → eval_e s t a ≡ ok x → evaluate lazy σ (expression_in_st names a) ≡ some (dint x)) → evaluate lazy σ (negative (expression_in_st names a)) ≡ some (dint z)
    by (bound x ex r) va = of_negation (expression_in_st names a) x z (va x ex) r

  abbrev Worth : Condition → Bool → Type 0
  Worth c x = evaluate lazy σ (condition_in_st names c) ≡ some (truth x)

  pub condition_same : (c : Condition) → UsableC known c → LiteralC c → (x : Bool) → eval_c s t c ≡ ok x → evaluate lazy σ (condition_in_st names c) ≡ some (truth x)
  unfolding condition_in_st
  condition_same (comparison o a b) u l x e = by (unbind (eval_e s t a) (λ y. eval_e s t b >>= λ z. ok (compares o y z)) x e) where
    right : (y : ℤ) → eval_e s t a ≡ ok y → Bound (eval_e s t b) (λ z. ok (compares o y z)) x → evaluate lazy σ (binary (relates o) (expression_in_st names a) (expression_in_st names b)) ≡ some (truth x)
    right y ey (bound z ez r) =
        both-worked lazy σ (relates o) (expression_in_st names a) (expression_in_st names b) (dint y) (dint z) (truth x) (expression_same a u.0 l.0 y ey) refl (expression_same b u.1 l.1 z ez)
        (compares_same o y z ∙ ap (λ w. some (truth w)) (ok_inj r))

    by : Bound (eval_e s t a) (λ y. eval_e s t b >>= λ z. ok (compares o y z)) x → evaluate lazy σ (binary (relates o) (expression_in_st names a) (expression_in_st names b)) ≡ some (truth x)
    by (bound y ey r) = right y ey (unbind (eval_e s t b) (λ z. ok (compares o y z)) x r)
  condition_same (negated c) u l x e = by (unbind (eval_c s t c) (λ y. ok (not y)) x e) (condition_same c u l) where
    by : Bound (eval_c s t c) (λ y. ok (not y)) x → ((y : Bool) → eval_c s t c ≡ ok y → Worth c y) → evaluate lazy σ (complement (condition_in_st names c)) ≡ some (truth x)
    by (bound y ey r) v = not_worked lazy σ (condition_in_st names c) y (v y ey) ∙ ap (λ w. some (truth w)) (ok_inj r)
  condition_same (both a b) u l x e = by (unbind (eval_c s t a) (λ y. eval_c s t b >>= λ z. ok (y && z)) x e) (condition_same a u.0 l.0) (condition_same b u.1 l.1) where
    right : (y : Bool) → Worth a y → Bound (eval_c s t b) (λ z. ok (y && z)) x → ((z : Bool) → eval_c s t b ≡ ok z → Worth b z) → evaluate lazy σ (binary (connects and) (condition_in_st names a) (condition_in_st names b)) ≡ some (truth x)
    right y va (bound z ez r) w = and_worked lazy σ (condition_in_st names a) (condition_in_st names b) y z va (w z ez) ∙ ap (λ w. some (truth w)) (ok_inj r)

    by : Bound (eval_c s t a) (λ y. eval_c s t b >>= λ z. ok (y && z)) x → ((y : Bool) → eval_c s t a ≡ ok y → Worth a y) → ((z : Bool) → eval_c s t b ≡ ok z → Worth b z)
        → evaluate lazy σ (binary (connects and) (condition_in_st names a) (condition_in_st names b)) ≡ some (truth x)
    by (bound y ey r) v w = right y (v y ey) (unbind (eval_c s t b) (λ z. ok (y && z)) x r) w
  condition_same (either a b) u l x e = by (unbind (eval_c s t a) (λ y. eval_c s t b >>= λ z. ok (y || z)) x e) (condition_same a u.0 l.0) (condition_same b u.1 l.1) where
    right : (y : Bool) → Worth a y → Bound (eval_c s t b) (λ z. ok (y || z)) x → ((z : Bool) → eval_c s t b ≡ ok z → Worth b z) → evaluate lazy σ (binary (connects or) (condition_in_st names a) (condition_in_st names b)) ≡ some (truth x)
    right y va (bound z ez r) w = or_worked lazy σ (condition_in_st names a) (condition_in_st names b) y z va (w z ez) ∙ ap (λ w. some (truth w)) (ok_inj r)

    by : Bound (eval_c s t a) (λ y. eval_c s t b >>= λ z. ok (y || z)) x → ((y : Bool) → eval_c s t a ≡ ok y → Worth a y) → ((z : Bool) → eval_c s t b ≡ ok z → Worth b z)
        → evaluate lazy σ (binary (connects or) (condition_in_st names a) (condition_in_st names b)) ≡ some (truth x)
    by (bound y ey r) v w = right y (v y ey) (unbind (eval_c s t b) (λ z. ok (y || z)) x r) w
