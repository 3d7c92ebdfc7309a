-- The reference scan's new state satisfies every formula at its place, and is the only state of its length and inputs that does.
-- Assumes nothing.
use Prim.Native.Nat.{ℕ, zero, suc, ◌+◌, min, ◌<◌}
use native.Mathlib.Omega.{arith}
use native.Mathlib.Decide.{ℕ_discrete}
use mathlib.Core.Path.{◌≡◌, refl, sym, ap, ◌∙◌, subst}
use mathlib.Core.Bool.{Bool, true, false, ◌&&◌, ◌||◌, cond, false≢true, or-true, or-false}
use mathlib.Core.List.{List, [], ◌∷◌, ◌++◌, map}
use mathlib.Core.Option.{Option, none, some}
use lib.Dec.{T, leb, eqb, ltb→lt, le→leb}
use lib.IntN.{ℤ, pos}
use lib.Signed.{le_z, ≤ℤ_refl}
use lib.ListN.{length, get_or, set, drop, length-set, get_or-append}
use lib.Seq.{drop-nil, get_or-set_same, get_or-set_other, ext_get_or}
use Rattle.arith.specs.Values.{ok, ◌>>=◌, require, eq_z}
use Rattle.semantics.specs.Program.{Range, no_range, range_at, Expression, constant, current, previous, operation, negate, Condition, comparison, negated, both, either, Side, changing, rising, falling, Case, Rule, function, change, target, UsableE, UsableC, UsableK, UsableR, OrderedRules, AgreesR, AgreesAll, within, Timer, timers_known, bit_range, Numbered, EachTimer}
use Rattle.semantics.specs.Formula.{State, at, eval_e, eval_c, any_case, any_condition, change_formula, no_change_formula, function_formula, formulas_of_rule, Holds, All}
use Rattle.semantics.specs.Shape.{all_within, Setting, time_range, time_cell, millis_of, elapsed, new_time, due, timed}
use Rattle.semantics.specs.ReferenceScan.{ranged, moves, stays, picked, try_case, try_cases, or_previous, new_value, run_timers, scan_rules}
use Rattle.semantics.specs.Rows.{Equations}
use borrow.Author.Tests.{not-true}
use Rattle.arith.proofs.Basics.{and_left, and_right, and_T, T_true, eq_z_self, eq_z_true, ok≢refusal, ok_inj, Bound, bound, unbind, passed, bind_cong, bind_assoc, or_second, T_not_false}
use Rattle.semantics.proofs.Timers.{each_map, each_both, Placed}
use Rattle.semantics.proofs.Cells.{Agree, agree_set, agree_back, all_true_lem, marks, marks_length, marks_name, all_marked, agree_names, Waiting, ToCome, before_timers, not_taken, known_length, timers-length, timers_back, timers_value, names_kept, first_unknown, still_waiting}

abbrev conditions : List Case → List Condition
conditions ks = map (λ k. k.condition) ks

-- the formulas of a rule hold at a place
unfoldable pub HoldsRule : State → State → Rule → Type 0
HoldsRule s t r = All (λ f. Holds f s t) (formulas_of_rule r)

abbrev pub HoldsAll : State → State → List Rule → Type 0
HoldsAll s t [] = Unit {0}
HoldsAll s t (r ∷ rs) = HoldsRule s t r × HoldsAll s t rs

module _ (known : List Bool) (s a b : State) (agree : Agree known a b) where
  pub eval_e_agree : (e : Expression) → UsableE known e → eval_e s a e ≡ eval_e s b e
  eval_e_agree (constant z) u = refl
  eval_e_agree (current i) u = ap ok (agree i u)
  eval_e_agree (previous i) u = refl
  eval_e_agree (operation o x y) u = rw (eval_e_agree x u.0, eval_e_agree y u.1)
  eval_e_agree (negate x) u = rw (eval_e_agree x u)

  pub eval_c_agree : (c : Condition) → UsableC known c → eval_c s a c ≡ eval_c s b c
  eval_c_agree (comparison o x y) u = rw (eval_e_agree x u.0, eval_e_agree y u.1)
  eval_c_agree (negated x) u = rw (eval_c_agree x u)
  eval_c_agree (both x y) u = rw (eval_c_agree x u.0, eval_c_agree y u.1)
  eval_c_agree (either x y) u = rw (eval_c_agree x u.0, eval_c_agree y u.1)

  try_case_agree : (ns : List Range) (v : ℕ) (found : Option ℤ) (side : Side) (e : Expression) (c : Bool) → UsableE known e → try_case ns s a v found side e c ≡ try_case ns s b v found side e c
  try_case_agree ns v found side e false u = refl
  try_case_agree ns v (some y) side e true u = refl
  try_case_agree ns v none side e true u = rw (eval_e_agree e u)

  try_cases_agree : (ns : List Range) (v : ℕ) (found : Option ℤ) (ks : List Case) → UsableK known ks → try_cases ns s a v found ks ≡ try_cases ns s b v found ks
  try_cases_agree ns v found [] u = refl
  try_cases_agree ns v found (k ∷ ks) u =
      bind_cong (eval_c_agree k.condition u.0) λ c. bind_cong (try_case_agree ns v found k.side k.value c u.1) λ f. try_cases_agree ns v f ks u.2

  new_value_agree : (ns : List Range) (r : Rule) → UsableR known r → new_value ns s a r ≡ new_value ns s b r
  unfolding new_value
  new_value_agree ns (function v e) u = rw (eval_e_agree e u)
  new_value_agree ns (change v ks cs) u = rw (try_cases_agree ns v none ks u)

-- ---- one rule

-- What the cases of an accepted rule found, and the values of the two lists that the rule's formulas are made of.
data Tried (ns : List Range) (s t : State) (v : ℕ) (ks : List Case) : Option ℤ → Type 0 where
  none_held : any_condition (conditions ks) s t ≡ ok false → any_case v ks s t ≡ ok false → Tried ns s t v ks none
  one_held : (z : ℤ) → T (within (range_at ns v) z) → eq_z z (at s v) ≡ false → any_condition (conditions ks) s t ≡ ok true → any_case v ks s t ≡ ok (eq_z (at t v) z) → Tried ns s t v ks (some z)

pub le_self : (a : ℤ) → le_z a a ≡ true
le_self a = T_true (le_z a a) (≤ℤ_refl a).le

differ : (a b : ℤ) → (a ≡ b → ⊥) → eq_z a b ≡ false
differ a b n = go (eq_z a b) (eq_z_true a b)
  where
    go : (t : Bool) → (t ≡ true → a ≡ b) → t ≡ false
    go true h = absurd (n (h refl))
    go false h = refl

-- a value on any side of the previous one is another
moves_apart : (side : Side) (before z : ℤ) → moves side before z ≡ true → eq_z z before ≡ false
unfolding moves
moves_apart changing before z e = T_not_false (eq_z z before) (rw e tt)
moves_apart rising before z e = differ z before λ h. false≢true (rw (h, le_self before) at e)
moves_apart falling before z e = differ z before λ h. false≢true (rw (h, le_self before) at e)

-- no further case holds after one that did
data Quiet (s t : State) (v : ℕ) (ks : List Case) (y : ℤ) (f : Option ℤ) : Type 0 where
  quiet : f ≡ some y → any_condition (conditions ks) s t ≡ ok false → any_case v ks s t ≡ ok false → Quiet s t v ks y f

quiet_cons : (s t : State) (v : ℕ) (k : Case) (ks : List Case) (y : ℤ) (f : Option ℤ) → eval_c s t k.condition ≡ ok false → Quiet s t v ks y f → Quiet s t v (k ∷ ks) y f
quiet_cons s t v k ks y f p (quiet e c a) = quiet e (rw (p, c)) (rw (p, a))

tried_cons : (ns : List Range) (s t : State) (v : ℕ) (k : Case) (ks : List Case) (f : Option ℤ) → eval_c s t k.condition ≡ ok false → Tried ns s t v ks f → Tried ns s t v (k ∷ ks) f
tried_cons ns s t v k ks f p (none_held c a) = none_held (rw (p, c)) (rw (p, a))
tried_cons ns s t v k ks f p (one_held z w d c a) = one_held z w d (rw (p, c)) (rw (p, a))

module _ (ns : List Range) (s t : State) (v : ℕ) where
  after_case : (k : Case) (ks : List Case) (y : ℤ) (f : Option ℤ)
      → Bound (eval_c s t k.condition) (λ c. try_case ns s t v (some y) k.side k.value c >>= λ g. try_cases ns s t v g ks) f
      → (try_cases ns s t v (some y) ks ≡ ok f → Quiet s t v ks y f) → Quiet s t v (k ∷ ks) y f
  after_case k ks y f (bound true p q) ih = ok≢refusal f 15 (sym q)
  after_case k ks y f (bound false p q) ih = quiet_cons s t v k ks y f p (ih q)

  after : (ks : List Case) (y : ℤ) (f : Option ℤ) → try_cases ns s t v (some y) ks ≡ ok f → Quiet s t v ks y f
  after [] y f e = quiet (sym (ok_inj e)) refl refl
  after (k ∷ ks) y f e = after_case k ks y f (unbind (eval_c s t k.condition) _ f e) λ q. after ks y f q

  pub picked_is : (side : Side) (x z : ℤ) → picked side ns s v x ≡ ok z → (x ≡ z) × (moves side (at s v) z ≡ true) × T (within (range_at ns v) z)
  unfolding picked
  picked_is side x z e =
      let go : Bound (require (moves side (at s v) x) (stays side) x) (λ y. ranged ns v y) z → (x ≡ z) × (moves side (at s v) z ≡ true) × T (within (range_at ns v) z) =
      elim [
        | bound y p q ↦
            let a = passed (moves side (at s v) x) (stays side) x y p in
            let b = passed (within (range_at ns v) y) 17 y z q in
            (a.1 ∙ b.1, rw (← (a.1 ∙ b.1)) (T_true (moves side (at s v) x) a.0), rw (← b.1) b.0)
      ] in
      go (unbind (require (moves side (at s v) x) (stays side) x) (λ y. ranged ns v y) z e)

  held : (k : Case) (ks : List Case) (x z : ℤ) (f : Option ℤ) → eval_c s t k.condition ≡ ok true → eval_e s t k.value ≡ ok x → picked k.side ns s v x ≡ ok z
      → Quiet s t v ks z f → Tried ns s t v (k ∷ ks) f
  held k ks x z f p q w (quiet e c a) =
      let d = picked_is k.side x z w in
      rw e (one_held z d.2 (moves_apart k.side (at s v) z d.1) (rw (p, c)) (rw (p, q, a, or-false) (rw d.0)))

  tried_case : (k : Case) (ks : List Case) (f : Option ℤ)
      → Bound (eval_c s t k.condition) (λ c. try_case ns s t v none k.side k.value c >>= λ g. try_cases ns s t v g ks) f
      → (try_cases ns s t v none ks ≡ ok f → Tried ns s t v ks f) → Tried ns s t v (k ∷ ks) f
  tried_case k ks f (bound false p q) ih = tried_cons ns s t v k ks f p (ih q)
  tried_case k ks f (bound true p q) ih = go (unbind (eval_e s t k.value) _ f (rw bind_assoc at q))
    where
      go₁ : (x : ℤ) → eval_e s t k.value ≡ ok x → Bound (picked k.side ns s v x) (λ z. try_cases ns s t v (some z) ks) f → Tried ns s t v (k ∷ ks) f
      go₁ x q₁ (bound z q₂ q₃) = held k ks x z f p q₁ q₂ (after ks z f q₃)

      go : Bound (eval_e s t k.value) (λ x. picked k.side ns s v x >>= (λ z. ok (some z)) >>= λ g. try_cases ns s t v g ks) f → Tried ns s t v (k ∷ ks) f
      go (bound x q₁ q₂) = go₁ x q₁ (unbind (picked k.side ns s v x) _ f (rw bind_assoc at q₂))

  tried : (ks : List Case) (f : Option ℤ) → try_cases ns s t v none ks ≡ ok f → Tried ns s t v ks f
  tried [] f e = subst (λ g. Tried ns s t v [] g) (ok_inj e) (none_held refl refl)
  tried (k ∷ ks) f e = tried_case k ks f (unbind (eval_c s t k.condition) _ f e) λ q. tried ks f q

-- The formulas of a rule hold at a place exactly if its variable has the reference scan's new value there.
module _ (ns : List Range) (s t : State) where
  change_holds : (v : ℕ) (ks : List Case) (cs : List Condition) (f : Option ℤ) → cs ≡ conditions ks → Tried ns s t v ks f → at t v ≡ or_previous s v f → HoldsRule s t (change v ks cs)
  unfolding HoldsRule formulas_of_rule change_formula no_change_formula
  change_holds v ks cs f same (none_held c a) h = (rw (a, h, eq_z_self), (rw (same, c, or-true), tt))
  change_holds v ks cs f same (one_held z w d c a) h = (rw (a, h, eq_z_self, or-true), (rw (same, c, h, d), tt))

  change_value : (v : ℕ) (ks : List Case) (cs : List Condition) (f : Option ℤ) → cs ≡ conditions ks → Tried ns s t v ks f → HoldsRule s t (change v ks cs) → at t v ≡ or_previous s v f
  unfolding HoldsRule formulas_of_rule change_formula no_change_formula
  change_value v ks cs f same (none_held c a) h = eq_z_true (at t v) (at s v) (ok_inj (rw (a, or-false) at h.0))
  change_value v ks cs f same (one_held z w d c a) h =
      eq_z_true (at t v) z (or_second _ _ (not-true (eq_z (at t v) (at s v)) (ok_inj (rw (same, c, or-false) at h.1.0))) (ok_inj (rw a at h.0)))

  function_value : (v : ℕ) (e : Expression) (z : ℤ) → new_value ns s t (function v e) ≡ ok z → eval_e s t e ≡ ok z
  unfolding new_value
  function_value v e z h =
      let go : Bound (eval_e s t e) (λ y. ranged ns v y) z → eval_e s t e ≡ ok z =
      elim [ bound y p q ↦ p ∙ ap ok (passed (within (range_at ns v) y) 17 y z q).1 ] in
      go (unbind (eval_e s t e) (λ y. ranged ns v y) z h)

  pub rule_holds : (r : Rule) (z : ℤ) → AgreesR r → new_value ns s t r ≡ ok z → at t (target r) ≡ z → HoldsRule s t r
  unfolding HoldsRule formulas_of_rule function_formula new_value
  rule_holds (function v e) z same h k = (rw (function_value v e z h, k, eq_z_self), tt)
  rule_holds (change v ks cs) z same h k = go (unbind (try_cases ns s t v none ks) _ z h)
    where
      go : Bound (try_cases ns s t v none ks) (λ f. ok (or_previous s v f)) z → HoldsRule s t (change v ks cs)
      go (bound f p q) = change_holds v ks cs f same (tried ns s t v ks f p) (k ∙ sym (ok_inj q))

  rule_value : (r : Rule) (z : ℤ) → AgreesR r → new_value ns s t r ≡ ok z → HoldsRule s t r → at t (target r) ≡ z
  unfolding HoldsRule formulas_of_rule function_formula new_value
  rule_value (function v e) z same h k = eq_z_true (at t v) z (ok_inj (rw (function_value v e z h) at k.0))
  rule_value (change v ks cs) z same h k = go (unbind (try_cases ns s t v none ks) _ z h)
    where
      go : Bound (try_cases ns s t v none ks) (λ f. ok (or_previous s v f)) z → at t v ≡ z
      go (bound f p q) = change_value v ks cs f same (tried ns s t v ks f p) k ∙ ok_inj q

-- ---- ranges

no_range_within : (z : ℤ) → z ≡ pos 0 → T (within no_range z)
unfolding within
no_range_within z e = rw e tt

pub allWithin-at : (ns : List Range) (zs : State) → length zs ≡ length ns → T (all_within ns zs) → (i : ℕ) → T (within (range_at ns i) (at zs i))
allWithin-at [] [] l t i = no_range_within (pos 0) refl
allWithin-at [] (z ∷ zs) l t i = let f : ⊥ = omega arith in absurd f
allWithin-at (n ∷ ns) [] l t i = let f : ⊥ = omega arith in absurd f
allWithin-at (n ∷ ns) (z ∷ zs) l t zero = and_left (within n z) (all_within ns zs) t
allWithin-at (n ∷ ns) (z ∷ zs) l t (suc i) = allWithin-at ns zs (omega arith) (and_right (within n z) (all_within ns zs) t) i

pub all_within_set : (ns : List Range) (zs : State) (i : ℕ) (z : ℤ) → T (all_within ns zs) → T (within (range_at ns i) z) → T (all_within ns (set zs i z))
all_within_set [] zs i z t w = tt
all_within_set (n ∷ ns) [] zero z t w = tt
all_within_set (n ∷ ns) [] (suc i) z t w = tt
all_within_set (n ∷ ns) (y ∷ ys) zero z t w = and_T (within n z) (all_within ns ys) w (and_right (within n y) (all_within ns ys) t)
all_within_set (n ∷ ns) (y ∷ ys) (suc i) z t w =
    and_T (within n y) (all_within ns (set ys i z)) (and_left (within n y) (all_within ns ys) t) (all_within_set ns ys i z (and_right (within n y) (all_within ns ys) t) w)

all_within_nil : (ns : List Range) → T (all_within ns [])
all_within_nil [] = tt
all_within_nil (n ∷ ns) = tt

pub all_within_inputs : (ns : List Range) (row s : State) → T (all_within ns row) → T (all_within ns s) → T (all_within ns (row ++ drop (length row) s))
all_within_inputs [] row s a b = tt
all_within_inputs (n ∷ ns) [] s a b = b
all_within_inputs (n ∷ ns) (z ∷ zs) [] a b =
    and_T (within n z) (all_within ns (zs ++ [])) (and_left (within n z) (all_within ns zs) a) (rw drop-nil at (all_within_inputs ns zs [] (and_right (within n z) (all_within ns zs) a) (all_within_nil ns)))
all_within_inputs (n ∷ ns) (z ∷ zs) (y ∷ ys) a b =
    and_T (within n z) (all_within ns (zs ++ drop (length zs) ys)) (and_left (within n z) (all_within ns zs) a)
    (all_within_inputs ns zs ys (and_right (within n z) (all_within ns zs) a) (and_right (within n y) (all_within ns ys) b))

module _ (ns : List Range) (s : State) (size : length s ≡ length ns) (ranges : T (all_within ns s)) where
  new_value_within : (t : State) (r : Rule) (z : ℤ) → new_value ns s t r ≡ ok z → T (within (range_at ns (target r)) z)
  unfolding new_value
  new_value_within t (function v e) z h =
      let go : Bound (eval_e s t e) (λ y. ranged ns v y) z → T (within (range_at ns v) z) =
      elim [ bound y p q ↦ let b = passed (within (range_at ns v) y) 17 y z q in rw (← b.1) b.0 ] in
      go (unbind (eval_e s t e) (λ y. ranged ns v y) z h)
  new_value_within t (change v ks cs) z h = go (unbind (try_cases ns s t v none ks) _ z h)
    where
      go₁ : (f : Option ℤ) → Tried ns s t v ks f → T (within (range_at ns v) (or_previous s v f))
      go₁ f (none_held c a) = allWithin-at ns s size ranges v
      go₁ f (one_held y w d c a) = w

      go : Bound (try_cases ns s t v none ks) (λ f. ok (or_previous s v f)) z → T (within (range_at ns v) z)
      go (bound f p q) = rw (← (ok_inj q)) (go₁ f (tried ns s t v ks f p))

pub elapsed_within : (ms n : ℕ) (before now since : ℤ) → T (within (time_range n) (pos (elapsed ms n before now since)))
unfolding within elapsed
elapsed_within ms n before now since = go (eq_z now (pos 0) || eq_z before (pos 0))
  where
    go : (b : Bool) → T (leb 0 (cond b 0 (min n (millis_of since + ms))) && leb (cond b 0 (min n (millis_of since + ms))) n)
    go true = and_T (leb 0 0) (leb 0 n) tt (le→leb 0 n (omega arith))
    go false =
        let m = min n (millis_of since + ms) in
        and_T (leb 0 m) (leb m n) (le→leb 0 m (omega arith)) (le→leb m n (omega arith))

pub due_within : (n : ℕ) (now e : ℤ) → T (within bit_range (due n now e))
unfolding within due
due_within n now e = go (eq_z now (pos 1) && eq_z e (pos n))
  where
    go : (b : Bool) → T (within bit_range (cond b (pos 1) (pos 0)))
    go true = tt
    go false = tt

module _ (k : Setting) (s : State) (n first : ℕ) (owner : ℕ → ℕ) where
  timed_within : (x : Timer) → Placed k n first owner x → (t : State) → T (all_within k.ranges t) → T (all_within k.ranges (timed k s x t))
  unfolding timed
  timed_within x p t w =
      let now = at t x.watched in
      let e = new_time k s x now in
      let a = elapsed_within k.millis x.limit (at s x.watched) now (at s (time_cell k x)) in
      all_within_set k.ranges (set t (time_cell k x) e) x.id (due x.limit now e) (all_within_set k.ranges t (time_cell k x) e w (rw p.time a)) (rw p.own (due_within x.limit now e))

  timers_within : (v : ℕ) (ts : List Timer) → EachTimer (Placed k n first owner) ts → (t : State) → T (all_within k.ranges t) → T (all_within k.ranges (run_timers k s v ts t))
  timers_within v [] p t w = w
  timers_within v (x ∷ xs) p t w = timers_within v xs p.1 (cond (eqb x.watched v) (timed k s x t) t) (go (eqb x.watched v))
    where
      go : (b : Bool) → T (all_within k.ranges (cond b (timed k s x t) t))
      go true = timed_within x p.0 t w
      go false = w

  module _ (size : length s ≡ length k.ranges) (ranges : T (all_within k.ranges s)) (ts : List Timer) (placed : EachTimer (Placed k n first owner) ts) where
    pub scan_within : (rs : List Rule) (t u : State) → scan_rules k ts s t rs ≡ ok u → T (all_within k.ranges t) → T (all_within k.ranges u) × (length u ≡ length t)
    scan_within [] t u e w = (rw (← (ok_inj e)) w, rw (ok_inj e))
    scan_within (r ∷ rs) t u e w = go (λ z q w₁. scan_within rs (run_timers k s (target r) ts (set t (target r) z)) u q w₁) (unbind (new_value k.ranges s t r) _ u e)
      where
        go : ((z : ℤ) → scan_rules k ts s (run_timers k s (target r) ts (set t (target r) z)) rs ≡ ok u → T (all_within k.ranges (run_timers k s (target r) ts (set t (target r) z)))
            → T (all_within k.ranges u) × (length u ≡ length (run_timers k s (target r) ts (set t (target r) z))))
            → Bound (new_value k.ranges s t r) (λ z. scan_rules k ts s (run_timers k s (target r) ts (set t (target r) z)) rs) u → T (all_within k.ranges u) × (length u ≡ length t)
        go ih (bound z p q) =
            let a = all_within_set k.ranges t (target r) z w (new_value_within k.ranges s size ranges t r z p) in
            let h = ih z q (timers_within (target r) ts placed (set t (target r) z) a) in
            (h.0, h.1 ∙ timers-length k s (target r) ts (set t (target r) z) ∙ length-set t (target r) z)

-- ---- the rules in order

-- each rule's new value at a place is the value of its variable there
abbrev pub NewAll : List Range → State → State → List Rule → Type 0
NewAll ns s u [] = Unit {0}
NewAll ns s u (r ∷ rs) = (new_value ns s u r ≡ ok (at u (target r))) × NewAll ns s u rs

-- Then it holds every formula.
pub new_holds : (ns : List Range) (s : State) (rs : List Rule) (u : State) → AgreesAll rs → NewAll ns s u rs → HoldsAll s u rs
new_holds ns s [] u same h = tt
new_holds ns s (r ∷ rs) u same h = (rule_holds ns s u r (at u (target r)) same.0 h.0 refl, new_holds ns s rs u same.1 h.1)

module _ (k : Setting) (s : State) (n first : ℕ) (owner : ℕ → ℕ) (ts : List Timer) (numbered : Numbered first n ts) (placed : EachTimer (Placed k n first owner) ts) where
  module _ (r : Rule) (rs : List Rule) (known : List Bool) (t : State) (z : ℤ) (l : length known ≡ n) (m : length t ≡ length (marks first known)) (o : OrderedRules ts known (r ∷ rs)) where
    abbrev known₂ : List Bool
    known₂ = timers_known (target r) ts (set known (target r) true)

    abbrev t₂ : State
    t₂ = run_timers k s (target r) ts (set t (target r) z)

    inside : target r < length known
    inside = ltb→lt (target r) (length known) o.1

    unknown : get_or known (target r) false ≡ false
    unknown = (not_taken ts known (target r) o.2).1

    below : target r < first
    below = let h = inside in before_timers first n ts (target r) numbered (not_taken ts known (target r) o.2).0 (omega arith)

    length₂ : length known₂ ≡ n
    length₂ = known_length (target r) ts (set known (target r) true) ∙ length-set known (target r) true ∙ l

    size₁ : length (set t (target r) z) ≡ length (marks first (set known (target r) true))
    size₁ =
        let a : length (set known (target r) true) ≡ length known = length-set known (target r) true in
        let b : length (set t (target r) z) ≡ length t = length-set t (target r) z in
        omega (arith, marks_length first known, marks_length first (set known (target r) true))

    size₂ : length t₂ ≡ length (marks first known₂)
    size₂ =
        let a : length (set known (target r) true) ≡ length known = length-set known (target r) true in
        let b : length t₂ ≡ length (set t (target r) z) = timers-length k s (target r) ts (set t (target r) z) in
        let c = length₂ in
        let d = size₁ in
        omega (arith, marks_length first known₂, marks_length first (set known (target r) true))

    known₁ : get_or (set known (target r) true) (target r) false ≡ true
    known₁ = get_or-set_same known (target r) true false inside

    waiting₂ : EachTimer (Waiting known) ts → EachTimer (Waiting known₂) ts
    waiting₂ h = still_waiting k s n first owner ts placed (target r) below known inside h

    new_step : (u : State) → EachTimer (Waiting known) ts → new_value k.ranges s t r ≡ ok z → Agree (marks first known₂) t₂ u × NewAll k.ranges s u rs × EachTimer (ToCome k s u known₂) ts
        → Agree (marks first known) t u × NewAll k.ranges s u (r ∷ rs) × EachTimer (ToCome k s u known) ts
    new_step u waiting p ih =
        let v = target r in
        let un = first_unknown k s n first owner ts placed v below known inside unknown waiting in
        let a = timers_back k s n first owner v below u first ts numbered placed (set known v true) (set t v z) (length-set known v true ∙ l) size₁ known₁ un ih.0 in
        let wide : v < length (marks first known) = omega (arith, marks_length first known, inside) in
        let free : get_or (marks first known) v false ≡ false = get_or-append known (drop first known) false v inside ∙ unknown in
        let b = agree_back (marks first known) t u v z m wide free (rw (marks_name first known v below inside) at a.0) in
        let names : Agree known t u = agree_names first known t u b.0 in
        let come : EachTimer (ToCome k s u known) ts =
        each_map (λ x. (x.watched ≡ v → Equations k s u x) × (Placed k n first owner x × ToCome k s u known₂ x)) (ToCome k s u known) (λ x h. either_way x h.1.0 h.0 h.1.1) ts
        (each_both (λ x. x.watched ≡ v → Equations k s u x) (λ x. Placed k n first owner x × ToCome k s u known₂ x) ts a.1 (each_both (Placed k n first owner) (ToCome k s u known₂) ts placed ih.2)) in
        (b.0, (sym (new_value_agree known s t u names k.ranges r o.0) ∙ (p ∙ ap ok (sym b.1)), ih.1), come)
      where
        either_way : (x : Timer) → Placed k n first owner x → (x.watched ≡ target r → Equations k s u x) → ToCome k s u known₂ x → ToCome k s u known x
        either_way x q here later e = go (ℕ_discrete x.watched (target r))
          where
            go : Dec (x.watched ≡ target r) → Equations k s u x
            go (yes f) = here f
            go (no f) = later (names_kept k s n first owner ts placed (target r) below known inside x.watched q.watches ∙ get_or-set_other known (target r) x.watched true false f ∙ e)

    value_step : (w : State) → AgreesR r → new_value k.ranges s t r ≡ ok z → Agree (marks first known) t w → HoldsRule s w r → EachTimer (Equations k s w) ts → Agree (marks first known₂) t₂ w
    value_step w same p agree h eqs =
        let v = target r in
        let names : Agree known t w = agree_names first known t w agree in
        let new : at w v ≡ z = rule_value k.ranges s w r z same (sym (new_value_agree known s t w names k.ranges r o.0) ∙ p) h in
        let wide : v < length (marks first known) = omega (arith, marks_length first known, inside) in
        let a : Agree (marks first (set known v true)) (set t v z) w = rw (marks_name first known v below inside) (agree_set (marks first known) t w v z m wide agree new) in
        timers_value k s n first owner v below w ts placed (set known v true) (set t v z) (length-set known v true ∙ l) size₁ known₁ eqs a

  -- The state found holds the values known, every new value, and the equations of the timers that are to come.
  pub scan_new : (rs : List Rule) (known : List Bool) (t u : State) → length known ≡ n → length t ≡ length (marks first known) → EachTimer (Waiting known) ts → OrderedRules ts known rs
      → scan_rules k ts s t rs ≡ ok u → Agree (marks first known) t u × NewAll k.ranges s u rs × EachTimer (ToCome k s u known) ts
  scan_new [] known t u l m waiting o e = (
    (λ i h. rw (ok_inj e)),
    tt,
    each_map (Placed k n first owner) (ToCome k s u known) (λ x p h.
        absurd (false≢true (sym h ∙ all_true_lem known o x.watched (omega arith)))) ts placed,
  )
  scan_new (r ∷ rs) known t u l m waiting o e =
      go (λ z q. scan_new rs (known₂ r rs known t z l m o) (t₂ r rs known t z l m o) u (length₂ r rs known t z l m o) (size₂ r rs known t z l m o) (waiting₂ r rs known t z l m o waiting) o.3 q)
      (unbind (new_value k.ranges s t r) _ u e)
    where
      go : ((z : ℤ) → scan_rules k ts s (t₂ r rs known t z l m o) rs ≡ ok u
          → Agree (marks first (known₂ r rs known t z l m o)) (t₂ r rs known t z l m o) u × NewAll k.ranges s u rs × EachTimer (ToCome k s u (known₂ r rs known t z l m o)) ts)
          → Bound (new_value k.ranges s t r) (λ z. scan_rules k ts s (t₂ r rs known t z l m o) rs) u → Agree (marks first known) t u × NewAll k.ranges s u (r ∷ rs) × EachTimer (ToCome k s u known) ts
      go ih (bound z p q) = new_step r rs known t z l m o u waiting p (ih z q)

  -- A state that holds the values known, every formula and the timers' equations is the state found.
  pub scan_value : (rs : List Rule) (known : List Bool) (t u w : State) → length known ≡ n → length t ≡ length (marks first known) → length w ≡ length t → OrderedRules ts known rs → AgreesAll rs
      → scan_rules k ts s t rs ≡ ok u → Agree (marks first known) t w → HoldsAll s w rs → EachTimer (Equations k s w) ts → w ≡ u
  scan_value [] known t u w l m d o same e agree h eqs =
      ext_get_or (pos 0) w t d (λ i h₁. sym (agree i (all_marked first known o i (omega arith)))) ∙ ok_inj e
  scan_value (r ∷ rs) known t u w l m d o same e agree h eqs =
      go (λ z q a. scan_value rs (known₂ r rs known t z l m o) (t₂ r rs known t z l m o) u w (length₂ r rs known t z l m o) (size₂ r rs known t z l m o) (same_size z) o.3 same.1 q a h.1 eqs)
      (unbind (new_value k.ranges s t r) _ u e)
    where
      same_size : (z : ℤ) → length w ≡ length (t₂ r rs known t z l m o)
      same_size z = d ∙ sym (timers-length k s (target r) ts (set t (target r) z) ∙ length-set t (target r) z)

      go : ((z : ℤ) → scan_rules k ts s (t₂ r rs known t z l m o) rs ≡ ok u → Agree (marks first (known₂ r rs known t z l m o)) (t₂ r rs known t z l m o) w → w ≡ u)
          → Bound (new_value k.ranges s t r) (λ z. scan_rules k ts s (t₂ r rs known t z l m o) rs) u → w ≡ u
      go ih (bound z p q) = ih z q (value_step r rs known t z l m o w same.0 p agree h.0 eqs)
