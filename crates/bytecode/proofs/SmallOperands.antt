-- The operands of a program's code are below 2 ^ 32. Assumes nothing.
use Prim.Native.Nat.{ℕ, zero, suc, ◌^◌, ◌≤◌, ◌<◌}
use native.Mathlib.Omega.{arith}
use mathlib.Core.Path.{◌≡◌, ◌∙◌}
use mathlib.Core.Bool.{Bool, true, false, cond, false≢true}
use mathlib.Core.List.{List, [], ◌∷◌, ◌++◌}
use lib.Dec.{eqb, ltb→lt}
use lib.ListN.{length, get_or, set, length-set}
use Rattle.semantics.specs.Program.{Expression, constant, current, previous, operation, negate, Condition, comparison, negated, both, either, Case, Rule, function, change, target, UsableE, UsableC, UsableK, UsableR, Timer, timers_known, OrderedRules, EachTimer}
use Rattle.semantics.proofs.Cells.{known_length}
use Rattle.bytecode.specs.Instructions.{Instruction}
use Rattle.bytecode.specs.Translation.{code_e, code_c, code_case, code_k, code_r, code_t, code_rules}
use Rattle.bytecode.proofs.RoundTrip.{AllSmall}

small_append : (is js : List Instruction) → AllSmall is → AllSmall js → AllSmall (is ++ js)
small_append [] js g h = h
small_append (i ∷ is) js g h = (g.0, small_append is js g.1 h)

pub known_inside : (known : List Bool) (i : ℕ) → get_or known i false ≡ true → i < length known
known_inside [] i e = absurd (false≢true e)
known_inside (b ∷ bs) zero e = omega arith
known_inside (b ∷ bs) (suc i) e = let h : i < length bs = known_inside bs i e in omega arith

module _ (known : List Bool) (few : length known ≤ 64) where
  small_E : (e : Expression) → UsableE known e → AllSmall (code_e e)
  small_E (constant z) u = (u, tt)
  small_E (current i) u = let h : i < length known = known_inside known i u in (omega arith, tt)
  small_E (previous i) u = let h : i < length known = ltb→lt i (length known) u in (omega arith, tt)
  small_E (operation o a b) u = small_append (code_e a ++ code_e b) _ (small_append (code_e a) (code_e b) (small_E a u.0) (small_E b u.1)) (tt, tt)
  small_E (negate a) u = small_append (code_e a) _ (small_E a u) (tt, tt)

  small_C : (c : Condition) → UsableC known c → AllSmall (code_c c)
  small_C (comparison o a b) u = small_append (code_e a ++ code_e b) _ (small_append (code_e a) (code_e b) (small_E a u.0) (small_E b u.1)) (tt, tt)
  small_C (negated a) u = small_append (code_c a) _ (small_C a u) (tt, tt)
  small_C (both a b) u = small_append (code_c a ++ code_c b) _ (small_append (code_c a) (code_c b) (small_C a u.0) (small_C b u.1)) (tt, tt)
  small_C (either a b) u = small_append (code_c a ++ code_c b) _ (small_append (code_c a) (code_c b) (small_C a u.0) (small_C b u.1)) (tt, tt)

  small_K : (v : ℕ) → v < length known → (ks : List Case) → UsableK known ks → AllSmall (code_k v ks)
  small_K v h [] u = tt
  small_K v h (k ∷ ks) u =
      small_append (code_case v k) (code_k v ks) (small_append (code_c k.condition) _ (small_C k.condition u.0) (tt, small_append (code_e k.value) _ (small_E k.value u.1) (omega arith, tt))) (small_K v h ks u.2)

  small_R : (r : Rule) → target r < length known → UsableR known r → AllSmall (code_r r)
  small_R (function v e) h u = small_append (code_e e) _ (small_E e u) (omega arith, tt)
  small_R (change v ks cs) h u = small_append (code_k v ks) _ (small_K v h ks u) (omega arith, tt)

-- a timer's operands are
abbrev pub SmallTimer : Timer → Type 0
SmallTimer x = (x.id < 64) × (x.limit < 2 ^ 32)

small_T : (v : ℕ) → v < 64 → (ts : List Timer) → EachTimer SmallTimer ts → AllSmall (code_t v ts)
small_T v h [] f = tt
small_T v h (x ∷ xs) f = go (eqb x.watched v) (small_T v h xs f.1)
  where
    go : (b : Bool) → AllSmall (code_t v xs) → AllSmall (cond b (Instruction.timer x.id v x.limit ∷ code_t v xs) (code_t v xs))
    go true ih = let a = f.0.0 in ((omega arith, omega arith, f.0.1), ih)
    go false ih = ih

pub small_rules : (ts : List Timer) → EachTimer SmallTimer ts → (known : List Bool) (rs : List Rule) → length known ≤ 64 → OrderedRules ts known rs → AllSmall (code_rules ts rs)
small_rules ts f known [] few o = tt
small_rules ts f known (r ∷ rs) few o =
    let v = target r in
    let h : v < length known = ltb→lt v (length known) o.1 in
    let l : length (timers_known v ts (set known v true)) ≡ length known = known_length v ts (set known v true) ∙ length-set known v true in
    small_append (code_r r) _ (small_R known few r h o.0) (small_append (code_t v ts) _ (small_T v (omega arith) ts f) (small_rules ts f (timers_known v ts (set known v true)) rs (omega arith) o.3))
