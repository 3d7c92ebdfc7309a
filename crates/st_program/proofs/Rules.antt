-- Rules one after the other, and the previous-value lines. Assumes nothing.
use Prim.Native.Nat.{ℕ, zero, suc, ◌<◌}
use native.Mathlib.Omega.{arith}
use mathlib.Core.Path.{◌≡◌, refl, sym, ap, ◌∙◌, subst}
use mathlib.Core.Bool.{Bool, true, false, false≢true}
use mathlib.Core.List.{List, [], ◌∷◌, ◌++◌, map}
use mathlib.Core.Option.{Option, none, some}
use lib.Dec.{ltb, eqb}
use lib.IntN.{ℤ, pos}
use lib.ListN.{length, get_or, set, length-set}
use lib.Seq.{get_or-set_same, get_or-set_other}
use borrow.Author.Tests.{ltb-true, eqb-true, eqb-false}
use Rattle.arith.specs.Values.{ok}
use Rattle.arith.proofs.Basics.{T_true, ok_inj, Bound, bound, unbind, passed}
use Rattle.semantics.specs.Program.{Range, range_at, Rule, function, change, target, within, UsableR, OrderedRules}
use Rattle.semantics.specs.Formula.{State, at, eval_e}
use Rattle.semantics.specs.ReferenceScan.{ranged, try_cases, or_previous, new_value}
use Rattle.semantics.proofs.Untimed.{plain_rules}
use Rattle.lexer.specs.Lexer.{same_name}
use Rattle.trace_text.specs.Row.{◌and_if◌}
use Rattle.st.specs.Syntax.{Identifier, Statement}
use Rattle.st.specs.Meaning.{Store, value_in, holding, holding_all, is_input, evaluate, first_true, run_statements, previous_name}
use Rattle.st_program.specs.Written.{name_at, expression_in_st, branch_in_st, rule_in_st, saving_line}
use Rattle.st_program.proofs.Stores.{input_names, store_names, Held, held, Has, still_has, apart_turned}
use Rattle.st_program.proofs.Values.{Literal, Shows, expression_same}
use Rattle.st_program.proofs.Cases.{LiteralK, assigns, cases_same}

abbrev pub LiteralR : Rule → Type 0
LiteralR (function v e) = Literal e
LiteralR (change v ks cs) = LiteralK ks

abbrev pub LiteralAll : List Rule → Type 0
LiteralAll [] = Unit {0}
LiteralAll (r ∷ rs) = LiteralR r × LiteralAll rs

-- what is the same of two stores: where inputs stand
pub record SameFrame (σ τ : Store) : Type 0 where
  pub inputs : (u : Identifier) → is_input τ u ≡ is_input σ u
  pub in_order : input_names τ ≡ input_names σ
  pub names : store_names τ ≡ store_names σ

pub same_frame : (σ : Store) → SameFrame σ σ
same_frame σ = record { inputs = λ u. refl; in_order = refl; names = refl }

pub frames : {σ τ υ : Store} → SameFrame σ τ → SameFrame τ υ → SameFrame σ υ
frames a b = record { inputs = λ u. b.inputs u ∙ a.inputs u; in_order = b.in_order ∙ a.in_order; names = b.names ∙ a.names }

-- no two names are the same, and none is the same as a previous value's
pub record Separate (names : List Identifier) : Type 0 where
  pub apart : (i j : ℕ) → i < length names → j < length names → (i ≡ j → ⊥) → same_name (name_at names i) (name_at names j) ≡ false
  pub from_previous : (i j : ℕ) → i < length names → j < length names → same_name (previous_name (name_at names i)) (name_at names j) ≡ false

-- at a rule: values found so far, the rest as found; the variables without a value yet are no inputs
pub record Underway (names : List Identifier) (σ : Store) (t s : State) (known : List Bool) : Type 0 where
  pub shows : Shows names σ t s
  pub unknown : (i : ℕ) → i < length names → get_or known i false ≡ false → at t i ≡ at s i
  pub free : (i : ℕ) → i < length names → get_or known i false ≡ false → is_input σ (name_at names i) ≡ false
  pub size : length t ≡ length names
  pub knowns : length known ≡ length names

pub record Ruled (names : List Identifier) (lazy : Bool) (σ : Store) (t s : State) (ss : List Statement) : Type 0 where
  pub store : Store
  pub is : (rest : List Statement) → run_statements lazy (ss ++ rest) σ ≡ run_statements lazy rest store
  pub shows : Shows names store t s
  pub frame : SameFrame σ store

module _ (names : List Identifier) (sep : Separate names) (lazy : Bool) (ns : List Range) (s : State) where
  -- the store with a new value of the variable v
  put : (σ : Store) (t : State) (v : ℕ) (z : ℤ) → v < length names → Shows names σ t s → length t ≡ length names → (x : Held (name_at names v) z σ) → Shows names x.store (set t v z) s
  put σ t v z h a l x = record { now = now; past = λ i k. x.other (previous_name (name_at names i)) (sep.from_previous i v k h) ∙ a.past i k } where
    now : (i : ℕ) → i < length names → value_in x.store (name_at names i) ≡ some (at (set t v z) i)
    now i k = by (eqb i v) refl where
      by : (b : Bool) → eqb i v ≡ b → value_in x.store (name_at names i) ≡ some (at (set t v z) i)
      by true e =
          let q : i ≡ v = eqb-true i v e in
          ap (λ (j : ℕ). value_in x.store (name_at names j)) q ∙ x.here ∙ ap some (sym (get_or-set_same t v z (pos 0) (omega arith))) ∙ ap (λ (j : ℕ). some (at (set t v z) j)) (sym q)
      by false e =
          let n : i ≡ v → ⊥ = eqb-false i v e in
          x.other (name_at names i) (sep.apart i v k h n) ∙ a.now i k ∙ ap some (sym (get_or-set_other t v i z (pos 0) n))

  -- what a rule's statement does, given the new value
  pub record Stated (σ : Store) (t : State) (r : Rule) (z : ℤ) : Type 0 where
    pub store : Store
    pub is : (rest : List Statement) → run_statements lazy (rule_in_st names r ∷ rest) σ ≡ run_statements lazy rest store
    pub shows : Shows names store (set t (target r) z) s
    pub frame : SameFrame σ store

  held_frame : (σ : Store) (w : Identifier) (z : ℤ) (x : Held w z σ) → SameFrame σ x.store
  held_frame σ w z x = record { inputs = x.inputs; in_order = x.in_order; names = x.names }

  rule_same : (σ : Store) (t : State) (known : List Bool) → Underway names σ t s known → (r : Rule) → UsableR known r → LiteralR r → target r < length names → get_or known (target r) false ≡ false
      → (z : ℤ) → new_value ns s t r ≡ ok z → Stated σ t r z
  unfolding new_value run_statements rule_in_st
  rule_same σ t known w (function v e) u l h k z q = by (unbind (eval_e s t e) (λ y. ranged ns v y) z q) where
    by : Bound (eval_e s t e) (λ y. ranged ns v y) z → Stated σ t (function v e) z
    by (bound y ey r) =
        let g : y ≡ z = (passed (within (range_at ns v) y) 17 y z r).1 in
        let x = held (name_at names v) z (at t v) σ (w.shows.now v h) in
        let a = assigns names lazy σ t s w.shows known w.knowns ns v (w.free v h k) (expression_in_st names e) y (expression_same names lazy σ t s w.shows known w.knowns e u l y ey)
        ∙ ap (λ (c : ℤ). holding (name_at names v) c σ) g ∙ x.is in
        record { store = x.store; is = λ rest. ap {A = Option Store} (λ o. o and_if λ τ. run_statements lazy rest τ) a; shows = put σ t v z h w.shows w.size x; frame = held_frame σ (name_at names v) z x }
  rule_same σ t known w (change v ks cs) u l h k z q = by (unbind (try_cases ns s t v none ks) (λ f. ok (or_previous s v f)) z q) where
    none_held_lem : first_true lazy (map (branch_in_st names v) ks) σ ≡ some σ → at s v ≡ z → Stated σ t (change v ks cs) z
    none_held_lem a g =
        let same : (i : ℕ) → at (set t v z) i ≡ at t i = kept in
        record {
          store = σ;
          is = λ rest. ap {A = Option Store} (λ o. o and_if λ τ. run_statements lazy rest τ) a;
          shows = record { now = λ i j. w.shows.now i j ∙ ap some (sym (same i)); past = w.shows.past };
          frame = same_frame σ;
        } where
          kept : (i : ℕ) → at (set t v z) i ≡ at t i
          kept i = go (eqb i v) refl where
            go : (b : Bool) → eqb i v ≡ b → at (set t v z) i ≡ at t i
            go true e =
                let p : i ≡ v = eqb-true i v e in
                ap (λ (j : ℕ). at (set t v z) j) p ∙ get_or-set_same t v z (pos 0) (let m = w.size in omega arith) ∙ sym g ∙ sym (w.unknown v h k) ∙ ap (λ (j : ℕ). at t j) (sym p)
            go false e = get_or-set_other t v i z (pos 0) (eqb-false i v e)

    one_held_lem : (y : ℤ) → first_true lazy (map (branch_in_st names v) ks) σ ≡ holding (name_at names v) y σ → y ≡ z → Stated σ t (change v ks cs) z
    one_held_lem y a g =
        let x = held (name_at names v) z (at t v) σ (w.shows.now v h) in
        record {
          store = x.store;
          is = λ rest. ap {A = Option Store} (λ o. o and_if λ τ. run_statements lazy rest τ) (a ∙ ap (λ (c : ℤ). holding (name_at names v) c σ) g ∙ x.is);
          shows = put σ t v z h w.shows w.size x;
          frame = held_frame σ (name_at names v) z x;
        }

    by : Bound (try_cases ns s t v none ks) (λ f. ok (or_previous s v f)) z → Stated σ t (change v ks cs) z
    by (bound none e r) = none_held_lem (cases_same names lazy σ t s w.shows known w.knowns ns v (w.free v h k) ks u l none e) (ok_inj r)
    by (bound (some y) e r) = one_held_lem y (cases_same names lazy σ t s w.shows known w.knowns ns v (w.free v h k) ks u l (some y) e) (ok_inj r)

  false_set : (known : List Bool) (v i : ℕ) → v < length known → get_or (set known v true) i false ≡ false → (get_or known i false ≡ false) × (i ≡ v → ⊥)
  false_set known v i h e = by (eqb i v) refl where
    by : (b : Bool) → eqb i v ≡ b → (get_or known i false ≡ false) × (i ≡ v → ⊥)
    by true q = let p : i ≡ v = eqb-true i v q in absurd (false≢true (sym e ∙ ap (λ (j : ℕ). get_or (set known v true) j false) p ∙ get_or-set_same known v true false h))
    by false q = let n : i ≡ v → ⊥ = eqb-false i v q in (sym (get_or-set_other known v i true false n) ∙ e, n)

  pub rules_same : (rs : List Rule) (σ : Store) (t : State) (known : List Bool) → Underway names σ t s known → OrderedRules [] known rs → LiteralAll rs → (u : State) → plain_rules ns s t rs ≡ ok u
      → Ruled names lazy σ u s (map (rule_in_st names) rs)
  rules_same [] σ t known w o l u e =
      record { store = σ; is = λ rest. refl; shows = subst (λ (x : State). Shows names σ x s) (ok_inj e) w.shows; frame = same_frame σ }
  rules_same (r ∷ rs) σ t known w o l u e = by (unbind (new_value ns s t r) (λ z. plain_rules ns s (set t (target r) z) rs) u e) (λ τ t' known' w' o' f. rules_same rs τ t' known' w' o' l.1 u f) where
    in_range_lem : target r < length known
    in_range_lem = ltb-true (target r) (length known) (T_true (ltb (target r) (length known)) o.1)

    next : (z : ℤ) (x : Stated σ t r z) → Underway names x.store (set t (target r) z) s (set known (target r) true)
    next z x =
        record {
          shows = x.shows;
          unknown = λ i h n. let m = false_set known (target r) i in_range_lem n in get_or-set_other t (target r) i z (pos 0) m.1 ∙ w.unknown i h m.0;
          free = λ i h n. x.frame.inputs (name_at names i) ∙ w.free i h (false_set known (target r) i in_range_lem n).0;
          size = length-set t (target r) z ∙ w.size;
          knowns = length-set known (target r) true ∙ w.knowns;
        }

    by : Bound (new_value ns s t r) (λ z. plain_rules ns s (set t (target r) z) rs) u
        → ((τ : Store) (t' : State) (known' : List Bool) → Underway names τ t' s known' → OrderedRules [] known' rs → plain_rules ns s t' rs ≡ ok u → Ruled names lazy τ u s (map (rule_in_st names) rs))
        → Ruled names lazy σ u s (map (rule_in_st names) (r ∷ rs))
    by (bound z q f) more =
        let x = rule_same σ t known w r o.0 l.0 (let m = w.knowns in let k = in_range_lem in omega arith) o.2 z q in
        let y = more x.store (set t (target r) z) (set known (target r) true) (next z x) o.3 f in
        record { store = y.store; is = λ rest. x.is (map (rule_in_st names) rs ++ rest) ∙ y.is rest; shows = y.shows; frame = frames x.frame y.frame }

-- ---- the previous-value lines

-- they put the values of the names into the previous values
pub lines_same : (lazy : Bool) (ws : List Identifier) (zs : List ℤ) (σ : Store) → length zs ≡ length ws
    → ((i : ℕ) → i < length ws → value_in σ (name_at ws i) ≡ some (at zs i))
    → ((i : ℕ) → i < length ws → Has σ (previous_name (name_at ws i)))
    → ((i : ℕ) → i < length ws → is_input σ (previous_name (name_at ws i)) ≡ false)
    → ((i j : ℕ) → i < length ws → j < length ws → same_name (previous_name (name_at ws i)) (name_at ws j) ≡ false)
    → run_statements lazy (map saving_line ws) σ ≡ holding_all (map previous_name ws) zs σ
unfolding run_statements evaluate
lines_same lazy [] [] σ l v p f a = refl
lines_same lazy [] (z ∷ zs) σ l v p f a = absurd (omega arith)
lines_same lazy (w ∷ ws) [] σ l v p f a = absurd (omega arith)
lines_same lazy (w ∷ ws) (z ∷ zs) σ l v p f a =
    let y = p zero (omega arith) in
    let x = held (previous_name w) z y.0 σ y.1 in
    rw (v zero (omega arith), f zero (omega arith), x.is)
    (lines_same lazy ws zs x.store (omega arith)
    (λ i h. x.other (name_at ws i) (apart_turned (previous_name w) (name_at ws i) (a zero (suc i) (omega arith) (omega arith))) ∙ v (suc i) (omega arith))
    (λ i h. still_has (previous_name w) z σ x (previous_name (name_at ws i)) (p (suc i) (omega arith)))
    (λ i h. x.inputs (previous_name (name_at ws i)) ∙ f (suc i) (omega arith))
    (λ i j h k. a (suc i) (suc j) (omega arith) (omega arith)))
