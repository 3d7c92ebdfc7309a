-- Which numbers of two states are the same: the names known, and the elapsed times of the timers known; how the timers of a variable
-- change them. Assumes nothing.
use Prim.Native.Nat.{ℕ, zero, suc, ◌+◌, ◌-◌, ◌≤◌, ◌<◌}
use native.Mathlib.Omega.{arith}
use native.Mathlib.Decide.{ℕ_discrete}
use native.Mathlib.Nat.{zero-add, suc-add}
use mathlib.Core.Path.{◌≡◌, refl, sym, ap, ap₂, ◌∙◌}
use mathlib.Core.Logic.{◌≢◌}
use mathlib.Core.Bool.{Bool, true, false, cond, false≢true}
use mathlib.Core.List.{List, [], ◌∷◌, ◌++◌}
use lib.Dec.{T, eqb}
use lib.IntN.{ℤ, pos}
use lib.ListN.{length, get_or, set, drop, length-set, length-append, length-drop, get_or-append}
use lib.Seq.{drop-set-lt, drop-set-add, set-append_left, get_or-append-add, get_or-drop, get_or-set_same, get_or-set_other}
use borrow.Author.Tests.{eqb-true, eqb-false}
use Rattle.semantics.specs.Program.{all_true, Timer, is_timer, taken, timers_known, Numbered, EachTimer}
use Rattle.semantics.specs.Formula.{State, at}
use Rattle.semantics.specs.Shape.{Setting, time_cell, new_time, due, timed}
use Rattle.semantics.specs.ReferenceScan.{run_timers}
use Rattle.semantics.specs.Rows.{Equations}
use Rattle.arith.proofs.Basics.{and_left, and_right, and_T, T_true}
use Rattle.semantics.proofs.Timers.{each_map, each_both, numbered_from, Placed}

-- a and b have the same known values
abbrev pub Agree : List Bool → State → State → Type 0
Agree known a b = (i : ℕ) → get_or known i false ≡ true → at a i ≡ at b i

-- every id is known in the end
pub all_true_lem : (bs : List Bool) → T (all_true bs) → (i : ℕ) → i < length bs → get_or bs i false ≡ true
all_true_lem [] h i k = let b : ⊥ = omega arith in absurd b
all_true_lem (b ∷ bs) h zero k = T_true b (and_left b (all_true bs) h)
all_true_lem (b ∷ bs) h (suc i) k = all_true_lem bs (and_right b (all_true bs) h) i (omega arith)

all_drop : (i : ℕ) (bs : List Bool) → T (all_true bs) → T (all_true (drop i bs))
all_drop zero bs h = h
all_drop (suc i) [] h = h
all_drop (suc i) (b ∷ bs) h = all_drop i bs (and_right b (all_true bs) h)

all_append : (bs cs : List Bool) → T (all_true bs) → T (all_true cs) → T (all_true (bs ++ cs))
all_append [] cs g h = h
all_append (b ∷ bs) cs g h = and_T b (all_true (bs ++ cs)) (and_left b (all_true bs) g) (all_append bs cs (and_right b (all_true bs) g) h)

known≢ : (known : List Bool) (i v : ℕ) → get_or known i false ≡ true → get_or known v false ≡ false → i ≢ v
known≢ known i v p q e = false≢true (sym q ∙ rw e at p)

-- after a rule, its variable is known too
pub agree_set : (known : List Bool) (a b : State) (v : ℕ) (z : ℤ) → length a ≡ length known → v < length known → Agree known a b → at b v ≡ z
    → Agree (set known v true) (set a v z) b
agree_set known a b v z l h agree e i k = go (ℕ_discrete i v)
  where
    go : Dec (i ≡ v) → at (set a v z) i ≡ at b i
    go (yes p) = rw p (get_or-set_same a v z (pos 0) (omega arith) ∙ sym e)
    go (no p) = get_or-set_other a v i z (pos 0) p ∙ agree i (sym (get_or-set_other known v i true false p) ∙ k)

-- before it, the values known were the same
pub agree_back : (known : List Bool) (a b : State) (v : ℕ) (z : ℤ) → length a ≡ length known → v < length known → get_or known v false ≡ false → Agree (set known v true) (set a v z) b
    → Agree known a b × (at b v ≡ z)
agree_back known a b v z l h unknown agree = (
  (λ i k.
      let d : i ≢ v = known≢ known i v k unknown in
      sym (get_or-set_other a v i z (pos 0) d) ∙ agree i (get_or-set_other known v i true false d ∙ k)),
  sym (agree v (get_or-set_same known v true false h)) ∙ get_or-set_same a v z (pos 0) (omega arith),
)

-- ---- the cells known: the names, and the elapsed times of the timers known

abbrev pub marks : ℕ → List Bool → List Bool
marks first known = known ++ drop first known

pub marks_length : (first : ℕ) (known : List Bool) → length (marks first known) ≡ length known + (length known - first)
marks_length first known = simp (length-append, length-drop)

-- all cells are known in the end
pub all_marked : (first : ℕ) (known : List Bool) → T (all_true known) → (i : ℕ) → i < length (marks first known) → get_or (marks first known) i false ≡ true
all_marked first known h i l = all_true_lem (marks first known) (all_append known (drop first known) h (all_drop first known h)) i l

known_marked : (known rest : List Bool) (i : ℕ) → get_or known i false ≡ true → get_or (known ++ rest) i false ≡ true
known_marked [] rest i e = absurd (false≢true e)
known_marked (b ∷ bs) rest zero e = e
known_marked (b ∷ bs) rest (suc i) e = known_marked bs rest i e

pub agree_names : (first : ℕ) (known : List Bool) (a b : State) → Agree (marks first known) a b → Agree known a b
agree_names first known a b agree i e = agree i (known_marked known (drop first known) i e)

set_append_add : (xs ys : List Bool) (i : ℕ) (a : Bool) → set (xs ++ ys) (length xs + i) a ≡ xs ++ set ys i a
set_append_add [] ys i a = rw (zero-add i)
set_append_add (x ∷ xs) ys i a = rw (suc-add (length xs) i) (ap (λ (l : List Bool). x ∷ l) (set_append_add xs ys i a))

pub marks_name : (first : ℕ) (known : List Bool) (v : ℕ) → v < first → v < length known → marks first (set known v true) ≡ set (marks first known) v true
marks_name first known v g h = rw (drop-set-lt first known v true g, set-append_left known (drop first known) v true h)

marks_timer : (first : ℕ) (known : List Bool) (t e : ℕ) → first ≤ t → t < length known → e ≡ length known + (t - first)
    → marks first (set known t true) ≡ set (set (marks first known) e true) t true
marks_timer first known t e g h c =
    let j : first + (t - first) ≡ t = omega arith in
    let a : drop first (set known t true) ≡ set (drop first known) (t - first) true = rw j at (drop-set-add first known (t - first) true) in
    rw (a, c, set_append_add known (drop first known) (t - first) true, set-append_left known (set (drop first known) (t - first) true) t true h)

marked_time : (first : ℕ) (known : List Bool) (t e : ℕ) → first ≤ t → e ≡ length known + (t - first) → get_or (marks first known) e false ≡ get_or known t false
marked_time first known t e g c =
    let j : first + (t - first) ≡ t = omega arith in
    rw c (get_or-append-add known (drop first known) (t - first) false ∙ get_or-drop first known (t - first) false ∙ rw j)

-- ---- timers

-- a timer of v that is not known; one that is not known before its w
abbrev pub Unknown : ℕ → List Bool → Timer → Type 0
Unknown v known x = x.watched ≡ v → get_or known x.id false ≡ false

abbrev pub Waiting : List Bool → Timer → Type 0
Waiting known x = get_or known x.watched false ≡ false → get_or known x.id false ≡ false

-- the equations of a timer that is to come
abbrev pub ToCome : Setting → State → State → List Bool → Timer → Type 0
ToCome k s u known x = get_or known x.watched false ≡ false → Equations k s u x

-- the timers behind one that becomes known stay unknown
pub unknown_kept : (v i end : ℕ) (ts : List Timer) (known : List Bool) (t : ℕ) → Numbered (suc i) end ts → t ≡ i → EachTimer (Unknown v known) ts → EachTimer (Unknown v (set known t true)) ts
unknown_kept v i end ts known t num c un =
    each_map (λ y. ((suc i ≤ y.id) × (y.id < end)) × Unknown v known y) (Unknown v (set known t true)) (λ y h d.
    get_or-set_other known t y.id true false (λ f. let b : ⊥ = omega arith in b) ∙ h.1 d) ts (each_both (λ y. (suc i ≤ y.id) × (y.id < end)) (Unknown v known) ts (numbered_from (suc i) (suc i) end ts (omega arith) num) un)

-- v is no timer, so it stands before them
pub before_timers : (i end : ℕ) (ts : List Timer) (v : ℕ) → Numbered i end ts → is_timer ts v ≡ false → v < end → v < i
before_timers i end [] v h n l = omega arith
before_timers i end (x ∷ xs) v h n l = go (eqb x.id v) (eqb-false x.id v) n (λ n₁. before_timers (suc i) end xs v h.1 n₁ l)
  where
    go : (b : Bool) → (b ≡ false → x.id ≡ v → ⊥) → cond b true (is_timer xs v) ≡ false → (is_timer xs v ≡ false → v < suc i) → v < i
    go true f n ih = absurd (false≢true (sym n))
    go false f n ih =
        let a : v < suc i = ih n in
        let c : x.id ≡ i = h.0 in
        let d : i ≢ v = λ e. f refl (c ∙ e) in
        omega arith

pub not_taken : (ts : List Timer) (known : List Bool) (v : ℕ) → taken ts known v ≡ false → (is_timer ts v ≡ false) × (get_or known v false ≡ false)
not_taken ts known v e = go (is_timer ts v) e
  where
    go : (b : Bool) → cond b true (get_or known v false) ≡ false → (b ≡ false) × (get_or known v false ≡ false)
    go true e = absurd (false≢true (sym e))
    go false e = (refl, e)

timers_other : (v i : ℕ) (ts : List Timer) (known : List Bool) → EachTimer (λ x. x.watched ≡ v → i ≢ x.id) ts → get_or (timers_known v ts known) i false ≡ get_or known i false
timers_other v i [] known h = refl
timers_other v i (x ∷ xs) known h = timers_other v i xs (cond (eqb x.watched v) (set known x.id true) known) h.1 ∙ go (eqb x.watched v) (eqb-true x.watched v)
  where
    go : (b : Bool) → (b ≡ true → x.watched ≡ v) → get_or (cond b (set known x.id true) known) i false ≡ get_or known i false
    go true f = get_or-set_other known x.id i true false (h.0 (f refl))
    go false f = refl

pub known_length : (v : ℕ) (ts : List Timer) (known : List Bool) → length (timers_known v ts known) ≡ length known
known_length v [] known = refl
known_length v (x ∷ xs) known = known_length v xs (cond (eqb x.watched v) (set known x.id true) known) ∙ go (eqb x.watched v)
  where
    go : (b : Bool) → length (cond b (set known x.id true) known) ≡ length known
    go true = length-set known x.id true
    go false = refl

pub timed_length : (k : Setting) (s : State) (x : Timer) (t : State) → length (timed k s x t) ≡ length t
unfolding timed
timed_length k s x t = simp length-set

pub timers-length : (k : Setting) (s : State) (v : ℕ) (ts : List Timer) (t : State) → length (run_timers k s v ts t) ≡ length t
timers-length k s v [] t = refl
timers-length k s v (x ∷ xs) t = timers-length k s v xs (cond (eqb x.watched v) (timed k s x t) t) ∙ go (eqb x.watched v)
  where
    go : (b : Bool) → length (cond b (timed k s x t) t) ≡ length t
    go true = timed_length k s x t
    go false = refl

module _ (k : Setting) (s : State) (n first : ℕ) (owner : ℕ → ℕ) where
  module _ (x : Timer) (p : Placed k n first owner x) (known : List Bool) (t u : State) (l : length known ≡ n) (m : length t ≡ length (marks first known)) (w : get_or known x.watched false ≡ true) where
    place_in : time_cell k x < length (marks first known)
    place_in =
        let a = marks_length first known in
        omega arith

    id-in : x.id < length (set (marks first known) (time_cell k x) true)
    id-in =
        let a : length (set (marks first known) (time_cell k x) true) ≡ length known + (length known - first) = simp length-set (marks_length first known) in
        omega arith

    cells_of : marks first (set known x.id true) ≡ set (set (marks first known) (time_cell k x) true) x.id true
    cells_of =
        marks_timer first known x.id (time_cell k x) p.after (omega arith) (omega arith)

    timer_back : get_or known x.id false ≡ false → Agree (marks first (set known x.id true)) (timed k s x t) u → Agree (marks first known) t u × Equations k s u x
    unfolding timed
    timer_back unknown agree =
        let e = time_cell k x in
        let now = at t x.watched in
        let z = new_time k s x now in
        let apart : x.id ≢ e = λ q. let b : ⊥ = omega arith in b in
        let g : get_or (set (marks first known) e true) x.id false ≡ false =
        get_or-set_other (marks first known) e x.id true false apart ∙ get_or-append known (drop first known) false x.id (omega arith) ∙ unknown in
        let a = agree_back (set (marks first known) e true) (set t e z) u x.id (due x.limit now z) (simp length-set m) id-in g (rw cells_of at agree) in
        let b = agree_back (marks first known) t u e z m place_in (marked_time first known x.id e p.after (omega arith) ∙ unknown) a.0 in
        let same : now ≡ at u x.watched = b.0 x.watched (known_marked known (drop first known) x.watched w) in
        (b.0, record { time = b.1 ∙ ap (new_time k s x) same; value = a.1 ∙ ap₂ (due x.limit) same (sym b.1) })

    timer_value : Agree (marks first known) t u → Equations k s u x → Agree (marks first (set known x.id true)) (timed k s x t) u
    unfolding timed
    timer_value agree h =
        let e = time_cell k x in
        let now = at t x.watched in
        let z = new_time k s x now in
        let same : at u x.watched ≡ now = sym (agree x.watched (known_marked known (drop first known) x.watched w)) in
        let time : at u e ≡ z = h.time ∙ ap (new_time k s x) same in
        let a = agree_set (marks first known) t u e z m place_in agree time in
        rw cells_of (agree_set (set (marks first known) e true) (set t e z) u x.id (due x.limit now z) (simp length-set m) id-in a (h.value ∙ ap₂ (due x.limit) same time))

  -- the timers of v, from the state left back to the one before them
  pub timers_back : (v : ℕ) → v < first → (u : State) (i : ℕ) (ts : List Timer) → Numbered i n ts → EachTimer (Placed k n first owner) ts → (known : List Bool) (t : State) → length known ≡ n
      → length t ≡ length (marks first known) → get_or known v false ≡ true → EachTimer (Unknown v known) ts → Agree (marks first (timers_known v ts known)) (run_timers k s v ts t) u
      → Agree (marks first known) t u × EachTimer (λ x. x.watched ≡ v → Equations k s u x) ts
  timers_back v below u i [] num pl known t l m w un agree = (agree, tt)
  timers_back v below u i (x ∷ xs) num pl known t l m w un agree =
      go (eqb x.watched v) (eqb-true x.watched v) (eqb-false x.watched v) agree (λ known₁ t₁. timers_back v below u (suc i) xs num.1 pl.1 known₁ t₁)
    where
      E : Timer → Type 0
      E y = y.watched ≡ v → Equations k s u y

      go : (b : Bool) → (b ≡ true → x.watched ≡ v) → (b ≡ false → x.watched ≡ v → ⊥)
          → Agree (marks first (timers_known v xs (cond b (set known x.id true) known))) (run_timers k s v xs (cond b (timed k s x t) t)) u
          → ((known₁ : List Bool) (t₁ : State) → length known₁ ≡ n → length t₁ ≡ length (marks first known₁) → get_or known₁ v false ≡ true → EachTimer (Unknown v known₁) xs
          → Agree (marks first (timers_known v xs known₁)) (run_timers k s v xs t₁) u → Agree (marks first known₁) t₁ u × EachTimer E xs)
          → Agree (marks first known) t u × EachTimer E (x ∷ xs)
      go false yes₁ no₁ agree ih =
          let h = ih known t l m w un.1 agree in
          (h.0, ((λ e. absurd (no₁ refl e)), h.1))
      go true yes₁ no₁ agree ih =
          let p = pl.0 in
          let c : x.id ≡ i = num.0 in
          let e : x.watched ≡ v = yes₁ refl in
          let known₁ = set known x.id true in
          let l₁ : length known₁ ≡ n = simp length-set l in
          let m₁ : length (timed k s x t) ≡ length (marks first known₁) = omega (arith, timed_length k s x t, marks_length first known, marks_length first known₁) in
          let w₁ : get_or known₁ v false ≡ true = get_or-set_other known x.id v true false (λ d. let b : ⊥ = omega arith in b) ∙ w in
          let un₁ = unknown_kept v i n xs known x.id num.1 c un.1 in
          let h = ih known₁ (timed k s x t) l₁ m₁ w₁ un₁ agree in
          let a = timer_back x p known t u l m (rw e w) (un.0 e) h.0 in
          (a.0, ((λ _. a.1), h.1))

  -- the timers of v, on from a state that has the values known
  pub timers_value : (v : ℕ) → v < first → (u : State) (ts : List Timer) → EachTimer (Placed k n first owner) ts → (known : List Bool) (t : State) → length known ≡ n
      → length t ≡ length (marks first known) → get_or known v false ≡ true → EachTimer (Equations k s u) ts → Agree (marks first known) t u
      → Agree (marks first (timers_known v ts known)) (run_timers k s v ts t) u
  timers_value v below u [] pl known t l m w h agree = agree
  timers_value v below u (x ∷ xs) pl known t l m w h agree =
      go (eqb x.watched v) (eqb-true x.watched v) (λ known₁ t₁ l₁ m₁ w₁ a. timers_value v below u xs pl.1 known₁ t₁ l₁ m₁ w₁ h.1 a)
    where
      go : (b : Bool) → (b ≡ true → x.watched ≡ v)
          → ((known₁ : List Bool) (t₁ : State) → length known₁ ≡ n → length t₁ ≡ length (marks first known₁) → get_or known₁ v false ≡ true → Agree (marks first known₁) t₁ u
          → Agree (marks first (timers_known v xs known₁)) (run_timers k s v xs t₁) u)
          → Agree (marks first (timers_known v xs (cond b (set known x.id true) known))) (run_timers k s v xs (cond b (timed k s x t) t)) u
      go false yes₁ ih = ih known t l m w agree
      go true yes₁ ih =
          let known₁ = set known x.id true in
          let l₁ : length known₁ ≡ n = simp length-set l in
          let m₁ : length (timed k s x t) ≡ length (marks first known₁) = omega (arith, timed_length k s x t, marks_length first known, marks_length first known₁) in
          let w₁ : get_or known₁ v false ≡ true = get_or-set_other known x.id v true false (λ d. let b : ⊥ = omega arith in b) ∙ w in
          ih known₁ (timed k s x t) l₁ m₁ w₁ (timer_value x pl.0 known t u l m (rw (yes₁ refl) w) agree h.0)

  module _ (ts : List Timer) (placed : EachTimer (Placed k n first owner) ts) (v : ℕ) (below : v < first) (known : List Bool) (inside : v < length known) where
    -- names that are no timers are known as before
    pub names_kept : (i : ℕ) → i < first → get_or (timers_known v ts (set known v true)) i false ≡ get_or (set known v true) i false
    names_kept i h = timers_other v i ts (set known v true) (each_map (Placed k n first owner) (λ y. y.watched ≡ v → i ≢ y.id) (λ y p e f. let a = p.after in let b : ⊥ = omega arith in b) ts placed)

    -- its timers are not known before them
    pub first_unknown : get_or known v false ≡ false → EachTimer (Waiting known) ts → EachTimer (Unknown v (set known v true)) ts
    first_unknown e h =
        each_map (λ x. Placed k n first owner x × Waiting known x) (Unknown v (set known v true)) (λ x g d.
        get_or-set_other known v x.id true false (λ f. let b : ⊥ = omega arith in b) ∙ g.1 (rw d e)) ts (each_both (Placed k n first owner) (Waiting known) ts placed h)

    -- so w of a timer that is not known after the rule of v was not known before, and is not v
    still_unknown : (x : Timer) → Placed k n first owner x → get_or (timers_known v ts (set known v true)) x.watched false ≡ false → (x.watched ≢ v) × (get_or known x.watched false ≡ false)
    still_unknown x p h =
        let e : get_or (set known v true) x.watched false ≡ false = sym (names_kept x.watched p.watches) ∙ h in
        let d : x.watched ≢ v = λ f. false≢true (sym (rw f at e) ∙ get_or-set_same known v true false inside) in
        (d, sym (get_or-set_other known v x.watched true false d) ∙ e)

    pub still_waiting : EachTimer (Waiting known) ts → EachTimer (Waiting (timers_known v ts (set known v true))) ts
    still_waiting h =
        each_map (λ x. Placed k n first owner x × Waiting known x) (Waiting (timers_known v ts (set known v true))) (λ x g. one x g.0 g.1) ts (each_both (Placed k n first owner) (Waiting known) ts placed h)
      where
        one : (x : Timer) → Placed k n first owner x → Waiting known x → Waiting (timers_known v ts (set known v true)) x
        one x p w e =
            let u = still_unknown x p e in
            let other : EachTimer (λ y. y.watched ≡ v → x.id ≢ y.id) ts =
            each_map (Placed k n first owner) (λ y. y.watched ≡ v → x.id ≢ y.id) (λ y q f g. u.0 (sym p.owned ∙ ap owner g ∙ q.owned ∙ f)) ts placed in
            timers_other v x.id ts (set known v true) other ∙ get_or-set_other known v x.id true false (λ f. let b : ⊥ = omega arith in b) ∙ w u.1
