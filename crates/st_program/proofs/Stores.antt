-- Stores of variables: one or several with new values, and the inputs of a row. Assumes nothing.
use Prim.Native.Nat.{ℕ, zero, suc, ◌<◌}
use native.Mathlib.Omega.{arith}
use mathlib.Core.Path.{◌≡◌, refl, sym, ap, ◌∙◌, subst}
use mathlib.Core.Bool.{Bool, true, false, cond, false≢true}
use mathlib.Core.List.{List, [], ◌∷◌, ◌++◌, map}
use mathlib.Core.Logic.{◌⊎◌, inl, inr}
use mathlib.Core.Option.{Option, some}
use lib.IntN.{ℤ}
use lib.ListN.{length, get_or}
use Rattle.lexer.specs.Lexer.{same_name}
use Rattle.lexer.proofs.Same.{same_name_lem, names_same, same_left}
use Rattle.grammar.specs.Spelled.{Apart, Distinct}
use Rattle.semantics.specs.Formula.{at}
use Rattle.st.specs.Syntax.{Identifier}
use Rattle.st.specs.Meaning.{Variable, Store, with, value_in, holding, holding_all, next_input, given_row, is_input, values_in}
use Rattle.bytecode.proofs.Soundness.{none≢some}

-- ---- names

pub same_here : (w : Identifier) → same_name w w ≡ true
same_here w = names_same w w refl

-- two that are the same as a third are the same
same_third : (u w x : Identifier) → same_name u x ≡ true → same_name w x ≡ true → same_name u w ≡ true
same_third u w x e f = names_same u w (same_name_lem u x e ∙ sym (same_name_lem w x f))

pub apart_turned : (u w : Identifier) → same_name u w ≡ false → same_name w u ≡ false
apart_turned u w e = by (same_name w u) refl where
  by : (t : Bool) → same_name w u ≡ t → t ≡ false
  by true q = absurd (false≢true (sym e ∙ names_same u w (sym (same_name_lem w u q))))
  by false q = refl

pub apart_at : (w : Identifier) (ws : List Identifier) → Apart w ws → (i : ℕ) → i < length ws → same_name w (get_or ws i []) ≡ false
apart_at w [] a i h = absurd (omega arith)
apart_at w (x ∷ ws) a zero h = a.0
apart_at w (x ∷ ws) a (suc i) h = apart_at w ws a.1 i (omega arith)

abbrev pub store_names : Store → List Identifier
store_names σ = map (λ x. x.name) σ

-- the names of the inputs, in order
unfoldable pub input_names : Store → List Identifier
input_names [] = []
input_names (x ∷ σ) = cond x.input (x.name ∷ input_names σ) (input_names σ)

apart_input : (w : Identifier) (σ : Store) → Apart w (store_names σ) → Apart w (input_names σ)
unfolding input_names
apart_input w [] a = tt
apart_input w (x ∷ σ) a = by x.input (apart_input w σ a.1) where
  by : (t : Bool) → Apart w (input_names σ) → Apart w (cond t (x.name ∷ input_names σ) (input_names σ))
  by true h = (a.0, h)
  by false h = h

-- ---- one new value

pub record Held (w : Identifier) (z : ℤ) (σ : Store) : Type 0 where
  pub store : Store
  pub is : holding w z σ ≡ some store
  pub here : value_in store w ≡ some z
  pub other : (u : Identifier) → same_name u w ≡ false → value_in store u ≡ value_in σ u
  pub inputs : (u : Identifier) → is_input store u ≡ is_input σ u
  pub in_order : input_names store ≡ input_names σ
  pub names : store_names store ≡ store_names σ

pub held : (w : Identifier) (z y : ℤ) (σ : Store) → value_in σ w ≡ some y → Held w z σ
unfolding value_in holding is_input input_names
held w z y [] e = none≢some y e
held w z y (x ∷ σ) e = by (same_name w x.name) refl e (held w z y σ) where
  apart : (u : Identifier) (t : Bool) → same_name u x.name ≡ t → same_name w x.name ≡ true → same_name u w ≡ false → t ≡ false
  apart u true q p n = absurd (false≢true (sym n ∙ same_third u w x.name q p))
  apart u false q p n = refl

  by : (t : Bool) → same_name w x.name ≡ t → cond t (some x.value) (value_in σ w) ≡ some y → (value_in σ w ≡ some y → Held w z σ) → Held w z (x ∷ σ)
  by true q e more =
      record {
        store = with x z ∷ σ;
        is = rw q;
        here = rw q;
        other = λ u n. rw (apart u (same_name u x.name) refl q n);
        inputs = λ u. refl;
        in_order = refl;
        names = refl;
      }
  by false q e more =
      let r = more e in
      record {
        store = x ∷ r.store;
        is = rw (q, r.is);
        here = rw q r.here;
        other = λ u n. rw (r.other u n);
        inputs = λ u. rw (r.inputs u);
        in_order = rw r.in_order;
        names = rw r.names;
      }

-- ---- several

-- a variable of the name
abbrev pub Has : Store → Identifier → Type 0
Has σ w = (y : ℤ) × (value_in σ w ≡ some y)

found_same : (σ : Store) (u w : Identifier) → same_name u w ≡ true → value_in σ u ≡ value_in σ w
unfolding value_in
found_same [] u w e = refl
found_same (x ∷ σ) u w e = rw (same_left u w x.name (same_name_lem u w e), found_same σ u w e)

pub still_has : (w : Identifier) (z : ℤ) (σ : Store) (h : Held w z σ) (u : Identifier) → Has σ u → Has h.store u
still_has w z σ h u (y, e) = by (same_name u w) refl where
  by : (t : Bool) → same_name u w ≡ t → Has h.store u
  by true q = (z, found_same h.store u w q ∙ h.here)
  by false q = (y, h.other u q ∙ e)

pub record AllHeld (ws : List Identifier) (zs : List ℤ) (σ : Store) : Type 0 where
  pub store : Store
  pub is : holding_all ws zs σ ≡ some store
  pub here : (i : ℕ) → i < length ws → value_in store (get_or ws i []) ≡ some (at zs i)
  pub other : (u : Identifier) → Apart u ws → value_in store u ≡ value_in σ u
  pub inputs : (u : Identifier) → is_input store u ≡ is_input σ u
  pub in_order : input_names store ≡ input_names σ
  pub names : store_names store ≡ store_names σ

pub all_held : (ws : List Identifier) (zs : List ℤ) (σ : Store) → length zs ≡ length ws → Distinct ws → ((i : ℕ) → i < length ws → Has σ (get_or ws i [])) → AllHeld ws zs σ
all_held [] [] σ l d h =
    record { store = σ; is = refl; here = λ i k. absurd (omega arith); other = λ u a. refl; inputs = λ u. refl; in_order = refl; names = refl }
all_held [] (z ∷ zs) σ l d h = absurd (omega arith)
all_held (w ∷ ws) [] σ l d h = absurd (omega arith)
all_held (w ∷ ws) (z ∷ zs) σ l d h =
    let x = h zero (omega arith) in
    let a = held w z x.0 σ x.1 in
    both a (all_held ws zs a.store (omega arith) d.1 (λ i k. still_has w z σ a (get_or ws i []) (h (suc i) (omega arith)))) where
      both : (a : Held w z σ) → AllHeld ws zs a.store → AllHeld (w ∷ ws) (z ∷ zs) σ
      both a r =
          record {
            store = r.store;
            is = rw a.is r.is;
            here = first;
            other = λ u n. r.other u n.1 ∙ a.other u n.0;
            inputs = λ u. r.inputs u ∙ a.inputs u;
            in_order = r.in_order ∙ a.in_order;
            names = r.names ∙ a.names;
          } where
            first : (i : ℕ) → i < length (w ∷ ws) → value_in r.store (get_or (w ∷ ws) i []) ≡ some (at (z ∷ zs) i)
            first zero k = r.other w d.0 ∙ a.here
            first (suc i) k = r.here i (omega arith)

-- the values of several
pub values_listed : (σ : Store) (ws : List Identifier) (zs : List ℤ) → length zs ≡ length ws → ((i : ℕ) → i < length ws → value_in σ (get_or ws i []) ≡ some (at zs i)) → values_in σ ws ≡ some zs
values_listed σ [] [] l h = refl
values_listed σ [] (z ∷ zs) l h = absurd (omega arith)
values_listed σ (w ∷ ws) [] l h = absurd (omega arith)
values_listed σ (w ∷ ws) (z ∷ zs) l h = rw (h zero (omega arith), values_listed σ ws zs (omega arith) (λ i k. h (suc i) (omega arith)))

-- ---- the inputs of a row

pub record Rowed (row : List ℤ) (σ : Store) : Type 0 where
  pub store : Store
  pub is : given_row row σ ≡ some store
  pub here : (i : ℕ) → i < length row → value_in store (get_or (input_names σ) i []) ≡ some (at row i)
  pub other : (u : Identifier) → is_input σ u ≡ false → value_in store u ≡ value_in σ u
  pub inputs : (u : Identifier) → is_input store u ≡ is_input σ u
  pub in_order : input_names store ≡ input_names σ
  pub names : store_names store ≡ store_names σ

next_input_lem : (b : Bool) (x : Variable) (z : ℤ) (zs : List ℤ) (more : List ℤ → Option Store) (τ : Store) → b ≡ true → more zs ≡ some τ → next_input b x (z ∷ zs) more ≡ some (with x z ∷ τ)
next_input_lem true x z zs more τ e f = rw f
next_input_lem false x z zs more τ e f = absurd (false≢true e)

no_input : (b : Bool) (x : Variable) (zs : List ℤ) (more : List ℤ → Option Store) (τ : Store) → b ≡ false → more zs ≡ some τ → next_input b x zs more ≡ some (x ∷ τ)
no_input true x zs more τ e f = absurd (false≢true (sym e))
no_input false x zs more τ e f = rw f

input_first : (x : Variable) (σ : Store) → x.input ≡ true → input_names (x ∷ σ) ≡ x.name ∷ input_names σ
unfolding input_names
input_first x σ e = rw e

input_later : (x : Variable) (σ : Store) → x.input ≡ false → input_names (x ∷ σ) ≡ input_names σ
unfolding input_names
input_later x σ e = rw e

-- a variable that is not an input has its value, whatever the one before it in both stores
same_found : (t : Bool) (x y : ℤ) (m n : Option ℤ) → (t ≡ true → x ≡ y) → (t ≡ false → m ≡ n) → cond t (some x) m ≡ cond t (some y) n
same_found true x y m n f g = ap some (f refl)
same_found false x y m n f g = g refl

free_later : (t i r : Bool) → t ≡ false → cond t i r ≡ false → r ≡ false
free_later true i r e f = absurd (false≢true (sym e))
free_later false i r e f = f

free_here : (t i r : Bool) → t ≡ true → cond t i r ≡ false → i ≡ false
free_here true i r e f = f
free_here false i r e f = absurd (false≢true e)

pub rowed : (σ : Store) (row : List ℤ) → Distinct (store_names σ) → length row ≡ length (input_names σ) → Rowed row σ
unfolding input_names given_row value_in is_input
rowed [] [] d l = record { store = []; is = refl; here = λ i h. absurd (omega arith); other = λ u e. refl; inputs = λ u. refl; in_order = refl; names = refl }
rowed [] (z ∷ row) d l = absurd (omega arith)
rowed (x ∷ σ) row d l = by x.input refl row l (λ zs k. rowed σ zs d.1 k) where
  -- a later input's name is not this one's
  later : (i : ℕ) → i < length (input_names σ) → same_name (get_or (input_names σ) i []) x.name ≡ false
  later i h = apart_turned x.name (get_or (input_names σ) i []) (apart_at x.name (input_names σ) (apart_input x.name σ d.0) i h)

  by : (t : Bool) → x.input ≡ t → (row : List ℤ) → length row ≡ length (cond t (x.name ∷ input_names σ) (input_names σ)) → ((zs : List ℤ) → length zs ≡ length (input_names σ) → Rowed zs σ) → Rowed row (x ∷ σ)
  by true q [] l more = absurd (omega arith)
  by true q (z ∷ zs) l more = go (more zs (omega arith)) where
    go : Rowed zs σ → Rowed (z ∷ zs) (x ∷ σ)
    go r =
        record {
          store = with x z ∷ r.store;
          is = next_input_lem x.input x z zs (λ ys. given_row ys σ) r.store q r.is;
          here = λ i h. subst (λ (ws : List Identifier). value_in (with x z ∷ r.store) (get_or ws i []) ≡ some (at (z ∷ zs) i)) (sym (input_first x σ q)) (place i h);
          other = λ u e. same_found (same_name u x.name) z x.value (value_in r.store u) (value_in σ u)
              (λ t. absurd (false≢true (sym (free_here (same_name u x.name) x.input (is_input σ u) t e) ∙ q))) (λ t. r.other u (free_later (same_name u x.name) x.input (is_input σ u) t e));
          inputs = λ u. rw (r.inputs u);
          in_order = rw r.in_order;
          names = rw r.names;
        } where
          place : (i : ℕ) → i < length (z ∷ zs) → value_in (with x z ∷ r.store) (get_or (x.name ∷ input_names σ) i []) ≡ some (at (z ∷ zs) i)
          place zero h = rw (same_here x.name)
          place (suc i) h = rw (later i (omega arith)) (r.here i (omega arith))
  by false q row l more = go (more row l) where
    go : Rowed row σ → Rowed row (x ∷ σ)
    go r =
        record {
          store = x ∷ r.store;
          is = no_input x.input x row (λ ys. given_row ys σ) r.store q r.is;
          here = λ i h. subst (λ (ws : List Identifier). value_in (x ∷ r.store) (get_or ws i []) ≡ some (at row i)) (sym (input_later x σ q)) (rw (later i (omega arith)) (r.here i h));
          other = λ u e. same_found (same_name u x.name) x.value x.value (value_in r.store u) (value_in σ u) (λ t. refl) (λ t. r.other u (free_later (same_name u x.name) x.input (is_input σ u) t e));
          inputs = λ u. rw (r.inputs u);
          in_order = rw r.in_order;
          names = rw r.names;
        }

-- ---- a variable of a store

abbrev pub In : {A : Type 0} → A → List A → Type 0
In a [] = ⊥
In a (b ∷ l) = (a ≡ b) ⊎ In a l

pub in_left : {A : Type 0} (a : A) (k l : List A) → In a k → In a (k ++ l)
in_left a [] l i = absurd i
in_left a (b ∷ k) l (inl e) = inl e
in_left a (b ∷ k) l (inr i) = inr (in_left a k l i)

pub in_right : {A : Type 0} (a : A) (k l : List A) → In a l → In a (k ++ l)
in_right a [] l i = i
in_right a (b ∷ k) l i = inr (in_right a k l i)

pub in_map : {A B : Type 0} (f : A → B) (a : A) (l : List A) → In a l → In (f a) (map f l)
in_map f a [] i = absurd i
in_map f a (b ∷ l) (inl e) = inl (ap f e)
in_map f a (b ∷ l) (inr i) = inr (in_map f a l i)

pub in_either : {A : Type 0} (a : A) (k l : List A) → In a (k ++ l) → In a k ⊎ In a l
in_either a [] l i = inr i
in_either a (b ∷ k) l (inl e) = inl (inl e)
in_either a (b ∷ k) l (inr i) = later (in_either a k l i) where
  later : In a k ⊎ In a l → In a (b ∷ k) ⊎ In a l
  later (inl x) = inl (inr x)
  later (inr x) = inr x

-- apart from all is apart from one
pub apart_in : (w u : Identifier) (ws : List Identifier) → Apart w ws → In u ws → same_name w u ≡ false
apart_in w u [] a i = absurd i
apart_in w u (x ∷ ws) a (inl e) = rw e a.0
apart_in w u (x ∷ ws) a (inr i) = apart_in w u ws a.1 i

pub value_of : (σ : Store) (x : Variable) → Distinct (store_names σ) → In x σ → value_in σ x.name ≡ some x.value
unfolding value_in
value_of [] x d i = absurd i
value_of (y ∷ σ) x d (inl e) = rw (e, same_here y.name)
value_of (y ∷ σ) x d (inr i) = rw (apart_turned y.name x.name (apart_in y.name x.name (store_names σ) d.0 (in_map (λ v. v.name) x σ i))) (value_of σ x d.1 i)
