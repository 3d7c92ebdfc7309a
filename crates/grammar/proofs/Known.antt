-- What is known after rules: just the inputs, the variables that have a rule, and the timers of these. So that the rules of a text leave nothing
-- unknown says that every variable has its rule. Assumes nothing.
use mathlib.Core.Path.{◌≡◌, refl, ap, sym, ◌∙◌}
use mathlib.Core.List.{List, [], ◌∷◌}
use mathlib.Core.Bool.{Bool, true, false, cond}
use Prim.Native.Nat.{ℕ, zero, suc, ◌<◌}
use native.Mathlib.Omega.{arith}
use lib.ListN.{length, get_or, set, length-set}
use lib.Seq.{get_or-set_same, get_or-set_other}
use lib.Dec.{T, eqb, ltb}
use borrow.Author.Tests.{eqb-true, eqb-false, ltb-true, ltb-false, lt-ltb, le-ltb}
use Rattle.semantics.specs.Program.{Rule, Timer, target, known_first, all_true, timers_known, OrderedRules}
use Rattle.semantics.proofs.Reference.{length_known}
use Rattle.semantics.proofs.Cells.{known_length}
use Rattle.bytecode.proofs.SmallOperands.{known_inside}
use Rattle.lexer.proofs.Laws.{choice_itself}

-- what is known after rules, each of which makes its variable and the timers of that known
abbrev pub known_after : List Timer → List Bool → List Rule → List Bool
known_after ts known [] = known
known_after ts known (r ∷ rs) = known_after ts (timers_known (target r) ts (set known (target r) true)) rs

-- every variable has exactly one: in the end none is left
pub all_known : (ts : List Timer) (known : List Bool) (rs : List Rule) → OrderedRules ts known rs → T (all_true (known_after ts known rs))
all_known ts known [] o = o
all_known ts known (r ∷ rs) o = all_known ts (timers_known (target r) ts (set known (target r) true)) rs o.3

-- a timer of w is v
abbrev pub is_timer_of : List Timer → ℕ → ℕ → Bool
is_timer_of [] w v = false
is_timer_of (x ∷ xs) w v = cond (eqb x.watched w) (cond (eqb x.id v) true (is_timer_of xs w v)) (is_timer_of xs w v)

-- one of the rules is v's, or that of the variable of which v is a timer
abbrev pub has_rule : List Timer → List Rule → ℕ → Bool
has_rule ts [] v = false
has_rule ts (r ∷ rs) v = cond (eqb v (target r)) true (cond (is_timer_of ts (target r) v) true (has_rule ts rs v))

or-true : (t : Bool) → true ≡ cond t true true
or-true true = refl
or-true false = refl

or_or : (t u v : Bool) → cond (cond t true u) true v ≡ cond t true (cond u true v)
or_or true u v = refl
or_or false u v = refl

timers_more : (w : ℕ) (ts : List Timer) (known : List Bool) (v : ℕ) → v < length known → get_or (timers_known w ts known) v false ≡ cond (get_or known v false) true (is_timer_of ts w v)
timers_more w [] known v h = sym (choice_itself (get_or known v false))
timers_more w (x ∷ xs) known v h = go (eqb x.watched w) (eqb x.id v) refl (timers_more w xs (set known x.id true) v (simp length-set h)) (timers_more w xs known v h)
  where
    go : (b c : Bool) → eqb x.id v ≡ c → get_or (timers_known w xs (set known x.id true)) v false ≡ cond (get_or (set known x.id true) v false) true (is_timer_of xs w v) → get_or (timers_known w xs known) v false ≡ cond (get_or known v false) true (is_timer_of xs w v)
        → get_or (timers_known w xs (cond b (set known x.id true) known)) v false ≡ cond (get_or known v false) true (cond b (cond c true (is_timer_of xs w v)) (is_timer_of xs w v))
    go true true e set_more more = let q : x.id ≡ v = eqb-true x.id v e in set_more ∙ rw (q, get_or-set_same known v true false h) (or-true (get_or known v false))
    go true false e set_more more = set_more ∙ rw (get_or-set_other known x.id v true false (λ z. eqb-false x.id v e (sym z)))
    go false c e set_more more = more

-- after a rule of v, v is known, and what was known still is
pub ruled_known : (ts : List Timer) (known : List Bool) (v : ℕ) → v < length known → get_or (timers_known v ts (set known v true)) v false ≡ true
ruled_known ts known v h = timers_more v ts (set known v true) v (simp length-set h) ∙ rw (get_or-set_same known v true false h)

pub known_stays : (ts : List Timer) (known : List Bool) (v i : ℕ) → get_or known i false ≡ true → get_or (timers_known v ts (set known v true)) i false ≡ true
known_stays ts known v i e = let h = known_inside known i e in timers_more v ts (set known v true) i (simp length-set h) ∙ rw (kept (eqb i v) refl)
  where
    kept : (t : Bool) → eqb i v ≡ t → get_or (set known v true) i false ≡ true
    kept true q = let r : i ≡ v = eqb-true i v q in rw (← r, get_or-set_same known i true false (known_inside known i e))
    kept false q = get_or-set_other known v i true false (eqb-false i v q) ∙ e

known_more : (ts : List Timer) (known : List Bool) (rs : List Rule) (v : ℕ) → v < length known → get_or (known_after ts known rs) v false ≡ cond (get_or known v false) true (has_rule ts rs v)
known_more ts known [] v h = sym (choice_itself (get_or known v false))
known_more ts known (r ∷ rs) v h =
    let first = set known (target r) true in
    let l : v < length first = simp length-set h in
    known_more ts (timers_known (target r) ts first) rs v (rw (known_length (target r) ts first) l)
    ∙ rw (timers_more (target r) ts first v l) (go (eqb v (target r)) refl)
  where
    go : (t : Bool) → eqb v (target r) ≡ t → cond (cond (get_or (set known (target r) true) v false) true (is_timer_of ts (target r) v)) true (has_rule ts rs v) ≡ cond (get_or known v false) true (cond t true (cond (is_timer_of ts (target r) v) true (has_rule ts rs v)))
    go true e = let q : v ≡ target r = eqb-true v (target r) e in rw (← q, get_or-set_same known v true false h) (or-true (get_or known v false))
    go false e = rw (get_or-set_other known (target r) v true false (eqb-false v (target r) e)) (or_or (get_or known v false) (is_timer_of ts (target r) v) (has_rule ts rs v))

first_known : (k m v : ℕ) → v < m → get_or (known_first k m) v false ≡ ltb v k
first_known k zero v h = absurd (omega arith)
first_known zero (suc m) zero h = refl
first_known zero (suc m) (suc v) h = first_known zero m v (omega arith) ∙ rw (le-ltb v 0 (omega arith), le-ltb (suc v) 0 (omega arith))
first_known (suc k) (suc m) zero h = sym (lt-ltb 0 (suc k) (omega arith))
first_known (suc k) (suc m) (suc v) h = first_known k m v (omega arith) ∙ go (ltb v k) refl
  where
    go : (t : Bool) → ltb v k ≡ t → ltb v k ≡ ltb (suc v) (suc k)
    go true e = let l = ltb-true v k e in e ∙ sym (lt-ltb (suc v) (suc k) (omega arith))
    go false e = let l = ltb-false v k e in e ∙ sym (le-ltb (suc v) (suc k) (omega arith))

-- of k inputs and m names in all: known after the rules is an input, a variable that has one of them, or a timer of such a variable
pub known_exactly : (k m : ℕ) (ts : List Timer) (rs : List Rule) (v : ℕ) → v < m → get_or (known_after ts (known_first k m) rs) v false ≡ cond (ltb v k) true (has_rule ts rs v)
known_exactly k m ts rs v h = known_more ts (known_first k m) rs v (rw (length_known k m) h) ∙ ap (λ (t : Bool). cond t true (has_rule ts rs v)) (first_known k m v h)
