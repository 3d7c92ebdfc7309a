-- The run of translated code is the reference scan. Assumes nothing.
use Prim.Native.Nat.{ℕ, zero, suc, ◌+◌, ◌-◌, ◌≤◌, ◌<◌}
use native.Mathlib.Omega.{arith}
use mathlib.Core.Path.{◌≡◌, refl, sym, ap, ◌∙◌}
use mathlib.Core.Logic.{◌≢◌}
use mathlib.Core.Bool.{Bool, true, false, cond, false≢true}
use mathlib.Core.List.{List, [], ◌∷◌, ◌++◌}
use mathlib.Core.Option.{Option, none, some}
use lib.Dec.{eqb, ltb, ltb→lt}
use lib.IntN.{ℤ, pos}
use lib.ListN.{length, set, get_or, drop, length-append, length-set, length-drop}
use lib.Seq.{get_or-set_other}
use borrow.Author.Tests.{lt-ltb, le-ltb, le-leb, eqb-true}
use Rattle.limits.specs.Limits.{time_limit}
use Rattle.arith.specs.Values.{Outcome, ok, refusal, ◌>>=◌}
use Rattle.semantics.specs.Program.{Expression, Condition, Side, Case, Rule, function, change, target, UsableE, UsableC, UsableK, UsableR, Timer, timers_known, OrderedRules, EachTimer}
use Rattle.semantics.specs.Program as P
use Rattle.semantics.specs.Formula.{State, at, eval_e, eval_c}
use Rattle.semantics.specs.Shape.{Setting, time_cell, timed}
use Rattle.semantics.specs.ReferenceScan.{try_case, try_cases, or_previous, new_value, run_timers, scan_rules}
use Rattle.arith.proofs.Basics.{bind_assoc, bind_cong}
use Rattle.semantics.proofs.Cells.{Agree, not_taken, known_length}
use Rattle.semantics.proofs.Unique.{eval_c_agree}
use Rattle.bytecode.specs.Instructions.{Instruction, gate, pick, timer, encode, encode_all}
use Rattle.bytecode.specs.Translation.{code_e, code_c, code_case, code_k, code_r, code_t, code_rules, depth_e, depth_c, ShallowK, ShallowR, Shallow}
use Rattle.leb128.proofs.RoundTrip.{drop_behind}
use Rattle.bytecode.proofs.RoundTrip.{AllSmall, fetch_encoded, length_encode, encoded_inside}
use Rattle.bytecode.proofs.Soundness.{known_inside}
use Rattle.machine.specs.Step.{Machine, machine, bit, yes, push, gated, settled, step}
use Rattle.machine.specs.Runs.{after_step, run}

pub yes_bit : (b : Bool) → yes (bit b) ≡ b
unfolding yes bit
yes_bit true = refl
yes_bit false = refl

-- the instructions one after the other, without places
abbrev pub exec : Setting → State → List Instruction → Machine → Outcome Machine
exec ns s [] m = ok m
exec ns s (i ∷ is) m = step ns s i m >>= λ m₁. exec ns s is m₁

-- whether a case held, and the current values then
abbrev held : Option ℤ → Bool
held none = false
held (some z) = true

abbrev values : State → ℕ → Option ℤ → State
values t v none = t
values t v (some z) = set t v z

module _ (ns : Setting) (s : State) where
  exec_append : (is js : List Instruction) (m : Machine) → exec ns s (is ++ js) m ≡ (exec ns s is m >>= λ m₁. exec ns s js m₁)
  exec_append [] js m = refl
  exec_append (i ∷ is) js m = bind_cong {m = step ns s i m} refl (λ m₁. exec_append is js m₁) ∙ sym (bind_assoc (step ns s i m) _ _)

  push_ok : (z : ℤ) (c : Bool) (vs : List ℤ) (t : State) → length vs < 40 → push z c vs t ≡ ok (machine false c (z ∷ vs) t)
  push_ok z c vs t h = rw (lt-ltb (length vs) 40 h)

  module _ (ids : List Bool) (size : length ids ≤ length ns.ranges) where
    -- an expression pushes its value
    pub exec_E : (e : Expression) (c : Bool) (vs : List ℤ) (t : State) → UsableE ids e → depth_e e + length vs ≤ 40
        → exec ns s (code_e e) (machine false c vs t) ≡ (eval_e s t e >>= λ z. ok (machine false c (z ∷ vs) t))
    exec_E (P.constant z) c vs t u d = rw (push_ok z c vs t (omega arith))
    exec_E (P.current i) c vs t u d = rw (lt-ltb i (length ns.ranges) (omega (arith, known_inside ids i u)), push_ok (at t i) c vs t (omega arith))
    exec_E (P.previous i) c vs t u d = rw (lt-ltb i (length ns.ranges) (omega (arith, ltb→lt i (length ids) u)), push_ok (at s i) c vs t (omega arith))
    exec_E (P.operation o a b) c vs t u d =
        let ua : UsableE ids a = u.0 in
        let ub : UsableE ids b = u.1 in
        let da : depth_e a + length vs ≤ 40 = omega arith in
        let db : depth_e b + suc (length vs) ≤ 40 = omega arith in
        simp (exec_append, exec_E a, exec_E b, bind_assoc)
    exec_E (P.negate a) c vs t u d = simp (exec_append, exec_E a c vs t u d, bind_assoc)

    -- a condition pushes its bit
    pub exec_C : (x : Condition) (c : Bool) (vs : List ℤ) (t : State) → UsableC ids x → depth_c x + length vs ≤ 40
        → exec ns s (code_c x) (machine false c vs t) ≡ (eval_c s t x >>= λ z. ok (machine false c (bit z ∷ vs) t))
    exec_C (P.comparison o a b) c vs t u d =
        let ua : UsableE ids a = u.0 in
        let ub : UsableE ids b = u.1 in
        let da : depth_e a + length vs ≤ 40 = omega arith in
        let db : depth_e b + suc (length vs) ≤ 40 = omega arith in
        simp (exec_append, exec_E a, exec_E b, bind_assoc)
    exec_C (P.negated a) c vs t u d = simp (exec_append, exec_C a c vs t u d, bind_assoc, yes_bit)
    exec_C (P.both a b) c vs t u d =
        let ua : UsableC ids a = u.0 in
        let ub : UsableC ids b = u.1 in
        let da : depth_c a + length vs ≤ 40 = omega arith in
        let db : depth_c b + suc (length vs) ≤ 40 = omega arith in
        simp (exec_append, exec_C a, exec_C b, bind_assoc, yes_bit)
    exec_C (P.either a b) c vs t u d =
        let ua : UsableC ids a = u.0 in
        let ub : UsableC ids b = u.1 in
        let da : depth_c a + length vs ≤ 40 = omega arith in
        let db : depth_c b + suc (length vs) ≤ 40 = omega arith in
        simp (exec_append, exec_C a, exec_C b, bind_assoc, yes_bit)

    -- an expression that is passed over does nothing
    over_E : (e : Expression) (c : Bool) (vs : List ℤ) (t : State) → exec ns s (code_e e) (machine true c vs t) ≡ ok (machine true c vs t)
    over_E (P.constant z) c vs t = refl
    over_E (P.current i) c vs t = refl
    over_E (P.previous i) c vs t = refl
    over_E (P.operation o a b) c vs t = simp (exec_append, over_E a, over_E b)
    over_E (P.negate a) c vs t = simp (exec_append, over_E a)

    module _ (v : ℕ) (inside : v < length ids) (first : get_or ids v false ≡ false) where
      apart : (i : ℕ) → get_or ids i false ≡ true → i ≢ v
      apart i k e = false≢true (sym first ∙ rw e at k)

      -- the value picked so far is not read before its settle
      picked_agrees : (t : State) (f : Option ℤ) → Agree ids (values t v f) t
      picked_agrees t none i k = refl
      picked_agrees t (some z) i k = get_or-set_other t v i z (pos 0) (apart i k)

      -- after the gate, expression and pick are one case
      gated_case : (side : Side) (e : Expression) (b : Bool) (f : Option ℤ) (t : State) → UsableE ids e → depth_e e ≤ 40
          → (gated b (held f) [] (values t v f) >>= λ m. exec ns s (code_e e ++ pick side v ∷ []) m) ≡ (try_case ns.ranges s t v f side e b >>= λ q. ok (machine false (held q) [] (values t v q)))
      gated_case side e false f t u d = exec_append (code_e e) (pick side v ∷ []) _ ∙ rw (over_E e (held f) [] (values t v f))
      gated_case side e true (some y) t u d = refl
      gated_case side e true none t u d =
          let l : ltb v (length ns.ranges) ≡ true = lt-ltb v (length ns.ranges) (omega arith) in
          exec_append (code_e e) (pick side v ∷ []) _ ∙ rw (exec_E e false [] t u (omega arith)) (simp (bind_assoc, l))

      -- gate, expression and pick are one case, its condition on the stack
      exec_case : (side : Side) (e : Expression) (b : Bool) (f : Option ℤ) (t : State) → UsableE ids e → depth_e e ≤ 40
          → exec ns s (gate ∷ code_e e ++ pick side v ∷ []) (machine false (held f) (bit b ∷ []) (values t v f)) ≡ (try_case ns.ranges s t v f side e b >>= λ q. ok (machine false (held q) [] (values t v q)))
      exec_case side e b f t u d = rw yes_bit (gated_case side e b f t u d)

      exec_code_case : (k : Case) (f : Option ℤ) (t : State) → UsableC ids k.condition → UsableE ids k.value → depth_c k.condition ≤ 40 → depth_e k.value ≤ 40
          → exec ns s (code_case v k) (machine false (held f) [] (values t v f)) ≡ (eval_c s t k.condition >>= λ b. try_case ns.ranges s t v f k.side k.value b >>= λ q. ok (machine false (held q) [] (values t v q)))
      exec_code_case k f t uc ue dc de =
          exec_append (code_c k.condition) _ _
          ∙ rw (exec_C k.condition (held f) [] (values t v f) uc (omega arith), eval_c_agree ids s (values t v f) t (picked_agrees t f) k.condition uc, bind_assoc)
          (bind_cong {m = eval_c s t k.condition} refl λ b. exec_case k.side k.value b f t ue de)

      exec_K : (ks : List Case) (f : Option ℤ) (t : State) → UsableK ids ks → ShallowK ks
          → exec ns s (code_k v ks) (machine false (held f) [] (values t v f)) ≡ (try_cases ns.ranges s t v f ks >>= λ q. ok (machine false (held q) [] (values t v q)))
      exec_K [] f t u d = refl
      exec_K (k ∷ ks) f t u d =
          let u₁ : UsableK ids ks = u.2 in
          let d₁ : ShallowK ks = d.2 in
          exec_append (code_case v k) _ _ ∙ rw (exec_code_case k f t u.0 u.1 d.0 d.1) (simp (bind_assoc, exec_K ks))

      settled_is : (f : Option ℤ) (t : State) → settled v (at s v) (held f) [] (values t v f) ≡ machine false false [] (set t v (or_previous s v f))
      settled_is none t = refl
      settled_is (some z) t = refl

    exec_R : (r : Rule) (t : State) → UsableR ids r → ShallowR r → target r < length ids → get_or ids (target r) false ≡ false
        → exec ns s (code_r r) (machine false false [] t) ≡ (new_value ns.ranges s t r >>= λ z. ok (machine false false [] (set t (target r) z)))
    unfolding new_value
    exec_R (function v e) t u d i f =
        let l : ltb v (length ns.ranges) ≡ true = lt-ltb v (length ns.ranges) (omega arith) in
        simp (exec_append, exec_E e false [] t u (omega arith), bind_assoc, l)
    exec_R (change v ks cs) t u d i f =
        let l : ltb v (length ns.ranges) ≡ true = lt-ltb v (length ns.ranges) (omega arith) in
        exec_append (code_k v ks) _ _ ∙ rw (exec_K v i f ks none t u d.1) (simp (bind_assoc, l, settled_is v i f))

  -- room for a timer's cells, and its limit
  abbrev pub Room : Timer → Type 0
  Room x = (x.id < length ns.ranges) × (time_cell ns x < length ns.ranges) × (x.limit ≤ time_limit)

  -- the timers of v
  exec_T : (v : ℕ) → v < length ns.ranges → (ts : List Timer) → EachTimer Room ts → (t : State) → exec ns s (code_t v ts) (machine false false [] t) ≡ ok (machine false false [] (run_timers ns s v ts t))
  exec_T v h [] r t = refl
  exec_T v h (x ∷ xs) r t = go (eqb x.watched v) (eqb-true x.watched v) (λ t₁. exec_T v h xs r.1 t₁)
    where
      go : (b : Bool) → (b ≡ true → x.watched ≡ v) → ((t₁ : State) → exec ns s (code_t v xs) (machine false false [] t₁) ≡ ok (machine false false [] (run_timers ns s v xs t₁)))
          → exec ns s (cond b (timer x.id v x.limit ∷ code_t v xs) (code_t v xs)) (machine false false [] t) ≡ ok (machine false false [] (run_timers ns s v xs (cond b (timed ns s x t) t)))
      go false f ih = ih t
      go true f ih =
          let q : timed ns s (record { id = x.id; watched = v; limit = x.limit }) t ≡ timed ns s x t = ap {A = ℕ} {B = State} (λ w. timed ns s (record { id = x.id; watched = w; limit = x.limit }) t) (sym (f refl)) in
          rw (lt-ltb x.id (length ns.ranges) r.0.0, lt-ltb v (length ns.ranges) h, lt-ltb (time_cell ns x) (length ns.ranges) r.0.1, le-leb x.limit time_limit r.0.2, q) (ih (timed ns s x t))

  pub exec_rules : (ts : List Timer) → EachTimer Room ts → (rs : List Rule) (ids : List Bool) (t : State) → length ids ≤ length ns.ranges → OrderedRules ts ids rs → Shallow rs
      → exec ns s (code_rules ts rs) (machine false false [] t) ≡ (scan_rules ns ts s t rs >>= λ u. ok (machine false false [] u))
  exec_rules ts room [] ids t l o d = refl
  exec_rules ts room (r ∷ rs) ids t l o d =
      let v = target r in
      let inside : v < length ids = ltb→lt v (length ids) o.1 in
      let m : length (timers_known v ts (set ids v true)) ≡ length ids = known_length v ts (set ids v true) ∙ length-set ids v true in
      let l₁ : length (timers_known v ts (set ids v true)) ≤ length ns.ranges = omega arith in
      exec_append (code_r r) (code_t v ts ++ code_rules ts rs) _
      ∙ rw (exec_R ids l r t o.0 d.0 inside (not_taken ts ids v o.2).1, bind_assoc)
      (bind_cong {m = new_value ns.ranges s t r} refl λ z.
      exec_append (code_t v ts) (code_rules ts rs) _ ∙ rw (exec_T v (omega arith) ts room (set t v z)) (exec_rules ts room rs (timers_known v ts (set ids v true)) (run_timers ns s v ts (set t v z)) l₁ o.3 d.1))
      ∙ sym (bind_assoc (new_value ns.ranges s t r) (λ z. scan_rules ns ts s (run_timers ns s v ts (set t v z)) rs) _)

  -- the bytes of instructions run as the instructions
  pub run_exec : (code : List ℕ) (is : List Instruction) (budget at n : ℕ) (m : Machine) → drop at code ≡ encode_all is → AllSmall is → length (encode_all is) ≤ budget
      → (run ns s code budget at n m).last ≡ exec ns s is m
  run_exec code [] zero at n m h a l = refl
  run_exec code [] (suc budget) at n m h a l =
      let k : length (drop at code) ≡ 0 = ap length h in
      let j : length code - at ≡ 0 = rw length-drop at k in
      rw (le-ltb at (length code) (omega arith))
  run_exec code (i ∷ is) zero at n m h a l = let b : ⊥ = omega (arith, length_encode i, simp length-append at l) in absurd b
  run_exec code (i ∷ is) (suc budget) at n m h a l =
      rw (lt-ltb at (length code) (encoded_inside code at i (encode_all is) h), fetch_encoded code at i (encode_all is) a.0 h)
      (go (step ns s i m) λ m₁. run_exec code is budget (at + length (encode i)) (n + 1) m₁ (drop_behind code at (encode i) (encode_all is) h) a.1 (omega (arith, length_encode i, simp length-append at l)))
    where
      go : (o : Outcome Machine) → ((m₁ : Machine) → (run ns s code budget (at + length (encode i)) (n + 1) m₁).last ≡ exec ns s is m₁)
          → (after_step o (n + 1) at (λ m₁. run ns s code budget (at + length (encode i)) (n + 1) m₁)).last ≡ (o >>= λ m₁. exec ns s is m₁)
      go (ok m₁) ih = ih m₁
      go (refusal k) ih = refl
