-- Laws of results, tests and equality of whole numbers. Assumes nothing.
use Prim.Native.Nat.{ℕ}
use native.Mathlib.Omega.{arith}
use mathlib.Core.Path.{◌≡◌, refl, sym, ap, ap₂, fun_ext}
use mathlib.Core.Bool.{Bool, true, false, not, ◌&&◌, ◌||◌, true≢false, false≢true}
use lib.Dec.{T, eqb, eqb→eq, eqb_refl}
use lib.IntN.{ℤ, pos, negsuc}
use Rattle.arith.specs.Values.{Outcome, ok, refusal, ◌>>=◌, require, eq_z}

pub T_true : (b : Bool) → T b → b ≡ true
T_true true t = refl
T_true false t = absurd t

pub true_T : (b : Bool) → b ≡ true → T b
true_T true e = tt
true_T false e = absurd (false≢true e)

pub and_left : (a b : Bool) → T (a && b) → T a
and_left true b t = tt
and_left false b t = t

pub and_right : (a b : Bool) → T (a && b) → T b
and_right true b t = t
and_right false b t = absurd t

pub and_T : (a b : Bool) → T a → T b → T (a && b)
and_T true b s t = t
and_T false b s t = s

pub and_both : (a b : Bool) → (a && b) ≡ true → (a ≡ true) × (b ≡ true)
and_both true b e = (refl, e)
and_both false b e = absurd (false≢true e)

pub eq_z→≡ : (a b : ℤ) → T (eq_z a b) → a ≡ b
eq_z→≡ (pos a) (pos b) t = ap pos (eqb→eq a b t)
eq_z→≡ (pos a) (negsuc b) t = absurd t
eq_z→≡ (negsuc a) (pos b) t = absurd t
eq_z→≡ (negsuc a) (negsuc b) t = ap negsuc (eqb→eq a b t)

pub eq_z_self : (a : ℤ) → eq_z a a ≡ true
eq_z_self (pos a) = T_true (eqb a a) (eqb_refl a)
eq_z_self (negsuc a) = T_true (eqb a a) (eqb_refl a)

pub eq_z_true : (a b : ℤ) → eq_z a b ≡ true → a ≡ b
eq_z_true a b e = eq_z→≡ a b (true_T (eq_z a b) e)

-- two constructors are never equal
pub ok≢refusal : {A : Type 0} {X : Type 0} (a : A) (k : ℕ) → ◌≡◌ {A = Outcome A} (ok a) (refusal k) → X
ok≢refusal a k e = let z : ◌≡◌ {A = ℕ} 0 1 = cc in let f : ⊥ = omega arith in absurd f

pub ok_inj : {A : Type 0} {a b : A} → ok a ≡ ok b → a ≡ b
ok_inj e = cc

-- a bind that succeeds: its parts did
pub data Bound {A B : Type 0} (m : Outcome A) (f : A → Outcome B) (b : B) : Type 0 where
  bound : (a : A) → m ≡ ok a → f a ≡ ok b → Bound m f b

pub unbind : {A B : Type 0} (m : Outcome A) (f : A → Outcome B) (b : B) → (m >>= f) ≡ ok b → Bound m f b
unbind (ok a) f b e = bound a refl e
unbind (refusal k) f b e = ok≢refusal b k (sym e)

-- a test that passed
pub passed : {A : Type 0} (t : Bool) (k : ℕ) (x y : A) → require t k x ≡ ok y → T t × (x ≡ y)
passed true k x y e = (tt, ok_inj e)
passed false k x y e = ok≢refusal y k (sym e)

pub bind_assoc : {A B C : Type 0} (m : Outcome A) (f : A → Outcome B) (g : B → Outcome C) → (m >>= f >>= g) ≡ (m >>= λ a. f a >>= g)
bind_assoc (ok a) f g = refl
bind_assoc (refusal k) f g = refl

pub bind_cong : {A B : Type 0} {m n : Outcome A} {f g : A → Outcome B} → m ≡ n → ((a : A) → f a ≡ g a) → (m >>= f) ≡ (n >>= g)
bind_cong e h = ap₂ ◌>>=◌ e (fun_ext h)

pub or_second : (a b : Bool) → a ≡ false → (a || b) ≡ true → b ≡ true
or_second true b e h = absurd (true≢false e)
or_second false b e h = h

pub T_not_false : (a : Bool) → T (not a) → a ≡ false
T_not_false true t = absurd t
T_not_false false t = refl
