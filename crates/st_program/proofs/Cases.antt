-- The cases of a rule leave in Structured Text what they leave in a scan. Assumes nothing.
use Prim.Native.Nat.{ℕ}
use mathlib.Core.Path.{◌≡◌, sym, ap, ◌∙◌}
use mathlib.Core.Bool.{Bool, true, false}
use mathlib.Core.List.{List, [], ◌∷◌, map}
use mathlib.Core.Option.{Option, none, some}
use lib.IntN.{ℤ}
use lib.ListN.{length}
use Rattle.arith.specs.Values.{ok, ◌>>=◌}
use Rattle.arith.proofs.Basics.{ok_inj, Bound, bound, unbind}
use Rattle.semantics.specs.Program.{Range, Case, UsableK}
use Rattle.semantics.specs.Formula.{State, eval_e, eval_c}
use Rattle.semantics.specs.ReferenceScan.{picked, try_case, try_cases}
use Rattle.semantics.proofs.Unique.{picked_is}
use Rattle.semantics.proofs.Written.{found_stays}
use Rattle.st.specs.Syntax.{Identifier, StExpression, Branch}
use Rattle.st.specs.Meaning.{dint, truth, Store, evaluate, holding, is_input, assigned_to, first_true}
use Rattle.st_program.specs.Written.{name_at, expression_in_st, condition_in_st, branch_in_st}
use Rattle.st_program.proofs.Values.{Literal, LiteralC, Shows, expression_same, condition_same}

abbrev pub LiteralK : List Case → Type 0
LiteralK [] = Unit {0}
LiteralK (k ∷ ks) = LiteralC k.condition × Literal k.value × LiteralK ks

-- the store behind a rule whose cases found a value, or none
abbrev pub afterwards : Option ℤ → Identifier → Store → Option Store
afterwards none w σ = some σ
afterwards (some z) w σ = holding w z σ

module _ (names : List Identifier) (lazy : Bool) (σ : Store) (t s : State) (h : Shows names σ t s) (known : List Bool) (n : length known ≡ length names) (ns : List Range) (v : ℕ) (free : is_input σ (name_at names v) ≡ false) where
  pub assigns : (e : StExpression) (z : ℤ) → evaluate lazy σ e ≡ some (dint z) → assigned_to lazy (record { target = name_at names v; value = e }) σ ≡ holding (name_at names v) z σ
  assigns e z q = rw (q, free)

  first_false : (c u : StExpression) (w : Identifier) (ks : List Branch) → evaluate lazy σ c ≡ some (truth false) → first_true lazy (record { condition = c; body = record { target = w; value = u } } ∷ ks) σ ≡ first_true lazy ks σ
  unfolding first_true
  first_false c u w ks e = rw e

  first-true : (c u : StExpression) (w : Identifier) (ks : List Branch) → evaluate lazy σ c ≡ some (truth true) → first_true lazy (record { condition = c; body = record { target = w; value = u } } ∷ ks) σ ≡ assigned_to lazy (record { target = w; value = u }) σ
  unfolding first_true
  first-true c u w ks e = rw e

  pub cases_same : (ks : List Case) → UsableK known ks → LiteralK ks → (f : Option ℤ) → try_cases ns s t v none ks ≡ ok f → first_true lazy (map (branch_in_st names v) ks) σ ≡ afterwards f (name_at names v) σ
  unfolding first_true
  cases_same [] u l f e = ap (λ g. afterwards g (name_at names v) σ) (ok_inj e)
  cases_same (k ∷ ks) u l f e = by (unbind (eval_c s t k.condition) (λ c. try_case ns s t v none k.side k.value c >>= λ g. try_cases ns s t v g ks) f e) (cases_same ks u.2 l.2 f) where
    given : (x z : ℤ) → eval_e s t k.value ≡ ok x → x ≡ z → some z ≡ f → eval_c s t k.condition ≡ ok true → first_true lazy (map (branch_in_st names v) (k ∷ ks)) σ ≡ afterwards f (name_at names v) σ
    given x z ex q r ec =
        first-true (condition_in_st names k.condition) (expression_in_st names k.value) (name_at names v) (map (branch_in_st names v) ks) (condition_same names lazy σ t s h known n k.condition u.0 l.0 true ec)
        ∙ assigns (expression_in_st names k.value) x (expression_same names lazy σ t s h known n k.value u.1 l.1 x ex)
        ∙ ap (λ y. holding (name_at names v) y σ) q ∙ ap (λ g. afterwards g (name_at names v) σ) r

    pick : (g : Option ℤ) → try_cases ns s t v g ks ≡ ok f → eval_c s t k.condition ≡ ok true → (x : ℤ) → eval_e s t k.value ≡ ok x → Bound (picked k.side ns s v x) (λ z. ok (some z)) g
        → first_true lazy (map (branch_in_st names v) (k ∷ ks)) σ ≡ afterwards f (name_at names v) σ
    pick g r ec x ex (bound z ez q) = given x z ex (picked_is ns s t v k.side x z ez).0 (sym (found_stays ns s t v ks z f (ap (λ y. try_cases ns s t v y ks) (ok_inj q) ∙ r))) ec

    work : (g : Option ℤ) → try_cases ns s t v g ks ≡ ok f → eval_c s t k.condition ≡ ok true → Bound (eval_e s t k.value) (λ x. picked k.side ns s v x >>= λ z. ok (some z)) g
        → first_true lazy (map (branch_in_st names v) (k ∷ ks)) σ ≡ afterwards f (name_at names v) σ
    work g r ec (bound x ex q) = pick g r ec x ex (unbind (picked k.side ns s v x) (λ z. ok (some z)) g q)

    value : Bound (try_case ns s t v none k.side k.value true) (λ g. try_cases ns s t v g ks) f → eval_c s t k.condition ≡ ok true → first_true lazy (map (branch_in_st names v) (k ∷ ks)) σ ≡ afterwards f (name_at names v) σ
    value (bound g eg r) ec = work g r ec (unbind (eval_e s t k.value) (λ x. picked k.side ns s v x >>= λ z. ok (some z)) g eg)

    by : Bound (eval_c s t k.condition) (λ c. try_case ns s t v none k.side k.value c >>= λ g. try_cases ns s t v g ks) f → (try_cases ns s t v none ks ≡ ok f → first_true lazy (map (branch_in_st names v) ks) σ ≡ afterwards f (name_at names v) σ) → first_true lazy (map (branch_in_st names v) (k ∷ ks)) σ ≡ afterwards f (name_at names v) σ
    by (bound false ec r) more =
        first_false (condition_in_st names k.condition) (expression_in_st names k.value) (name_at names v) (map (branch_in_st names v) ks) (condition_same names lazy σ t s h known n k.condition u.0 l.0 false ec) ∙ more r
    by (bound true ec r) more = value (unbind (try_case ns s t v none k.side k.value true) (λ g. try_cases ns s t v g ks) f r) ec
