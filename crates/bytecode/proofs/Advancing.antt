-- The code of a program's rules and timers keeps soundness, and its timers suit the ranges. Assumes nothing.
use Prim.Native.Nat.{ℕ, suc, ◌+◌, ◌≤◌, ◌<◌}
use native.Mathlib.Omega.{arith}
use mathlib.Core.Path.{◌≡◌, refl, subst, sym, ◌∙◌}
use mathlib.Core.Bool.{Bool, true, false, cond, ◌&&◌}
use mathlib.Core.List.{List, [], ◌∷◌, ◌++◌}
use mathlib.Core.Option.{Option, none, some}
use lib.Dec.{T, eqb, leb, ltb, lt→ltb, ltb→lt, le→leb, eqb_refl}
use lib.ListN.{length, get_or, set, length-set}
use borrow.Author.Tests.{eqb-true, lt-ltb, eq-eqb}
use Rattle.limits.specs.Limits.{time_limit}
use Rattle.arith.specs.Values.{is_int32}
use Rattle.arith.proofs.Basics.{T_true, true_T, and_T}
use Rattle.semantics.specs.Program.{Range, range_at, Expression, Condition, Side, Case, Rule, function, change, target, sides, SidedR, SidedAll, UsableE, UsableC, UsableK, UsableR, Timer, timers_known, OrderedRules, all_true, is_binary, Numbered, EachTimer, TimerFits}
use Rattle.semantics.specs.Program as P
use Rattle.semantics.specs.Shape.{Setting}
use Rattle.semantics.proofs.Timers.{Placed, numbered_length}
use Rattle.semantics.proofs.Cells.{Unknown, Waiting, unknown_kept, before_timers, not_taken, known_length, first_unknown, still_waiting}
use Rattle.bytecode.specs.Instructions.{Instruction, assign, settle, timer}
use Rattle.bytecode.specs.Translation.{code_e, code_c, code_case, code_k, code_r, code_t, code_rules, depth_e, depth_c, ShallowK, ShallowR, Shallow}
use Rattle.bytecode.specs.Signature.{Sort, truth, times, signature}
use Rattle.bytecode.specs.Check.{Picks, Known, known, may_begin, may_follow, may_end, fresh, advance, follows, is_timer_range, suits_in, suits}
use Rattle.bytecode.proofs.Sides.{Follows, sided_walks}
use Rattle.bytecode.proofs.Timeless.{Timeless, suits_timeless, timeless_R}
use Rattle.bytecode.proofs.TimerPlaces.{last_of, last_append, bit_timer}

-- ---- the code keeps soundness

infixl 20 ◌continue◌
abbrev pub ◌continue◌ : Option Known → (Known → Option Known) → Option Known
none continue f = none
some c continue f = f c

abbrev pub advances : List Instruction → Known → Option Known
advances [] c = some c
advances (i ∷ is) c = advance i c continue λ c₁. advances is c₁

pub advances_append : (is js : List Instruction) (c : Known) → advances (is ++ js) c ≡ (advances is c continue λ c₁. advances js c₁)
advances_append [] js c = refl
advances_append (i ∷ is) js c = go (advance i c) (λ c₁. advances_append is js c₁)
  where
    go : (o : Option Known) → ((c₁ : Known) → advances (is ++ js) c₁ ≡ (advances is c₁ continue λ c₂. advances js c₂))
        → (o continue λ c₁. advances (is ++ js) c₁) ≡ (o continue (λ c₁. advances is c₁) continue λ c₂. advances js c₂)
    go none ih = refl
    go (some c₁) ih = ih c₁

module _ (ids : List Bool) where
  adv_E : (e : Expression) (vs : List Sort) (g : Bool) (o : Option Picks) → UsableE ids e → depth_e e + length vs ≤ 40
      → advances (code_e e) (known vs g o ids) ≡ some (known (Sort.number ∷ vs) g o ids)
  adv_E (P.constant z) vs g o u d = rw (T_true (is_int32 z) u, lt-ltb (length vs) 40 (omega arith))
  adv_E (P.current i) vs g o u d = rw (u, lt-ltb (length vs) 40 (omega arith))
  adv_E (P.previous i) vs g o u d = rw (T_true (ltb i (length ids)) u, lt-ltb (length vs) 40 (omega arith))
  adv_E (P.operation x a b) vs g o u d =
      let ha = adv_E a vs g o u.0 (omega arith) in
      let hb = adv_E b (Sort.number ∷ vs) g o u.1 (omega arith) in
      simp (advances_append, ha, hb)
  adv_E (P.negate a) vs g o u d = simp (advances_append, adv_E a vs g o u d)

  adv_C : (c : Condition) (vs : List Sort) (o : Option Picks) → UsableC ids c → depth_c c + length vs ≤ 40
      → advances (code_c c) (known vs false o ids) ≡ some (known (truth ∷ vs) false o ids)
  adv_C (P.comparison x a b) vs o u d =
      let ha = adv_E a vs false o u.0 (omega arith) in
      let hb = adv_E b (Sort.number ∷ vs) false o u.1 (omega arith) in
      simp (advances_append, ha, hb)
  adv_C (P.negated a) vs o u d = simp (advances_append, adv_C a vs o u d)
  adv_C (P.both a b) vs o u d =
      let ha = adv_C a vs o u.0 (omega arith) in
      let hb = adv_C b (truth ∷ vs) o u.1 (omega arith) in
      simp (advances_append, ha, hb)
  adv_C (P.either a b) vs o u d =
      let ha = adv_C a vs o u.0 (omega arith) in
      let hb = adv_C b (truth ∷ vs) o u.1 (omega arith) in
      simp (advances_append, ha, hb)

  module _ (v : ℕ) (declared : v < length ids) (first : get_or ids v false ≡ false) where
    abbrev picks_on : Side → Picks
    picks_on side = record { side = side; id = v }

    adv_case : (k : Case) (o : Option Picks) → fresh o k.side v ≡ true → UsableC ids k.condition → UsableE ids k.value
        → depth_c k.condition ≤ 40 → depth_e k.value ≤ 40
        → advances (code_case v k) (known [] false o ids) ≡ some (known [] false (some (picks_on k.side)) ids)
    adv_case k o h uc ue dc de =
        let hc = adv_C k.condition [] o uc (omega arith) in
        let he = adv_E k.value [] true o ue (omega arith) in
        simp (advances_append, hc, he, lt-ltb v (length ids) declared, first, h)

    adv_K : (side : Side) (ks : List Case) → Follows side (sides ks) → UsableK ids ks → ShallowK ks
        → (last : Side) × (advances (code_k v ks) (known [] false (some (picks_on side)) ids) ≡ some (known [] false (some (picks_on last)) ids)) × (may_end last ≡ true)
    adv_K side [] f u d = (side, refl, T_true (may_end side) f)
    adv_K side (k ∷ ks) f u d =
        let h = adv_case k (some (picks_on side)) (rw (eq-eqb v v refl) (T_true (may_follow side k.side) f.0)) u.0 u.1 d.0 d.1 in
        let ih = adv_K k.side ks f.1 u.2 d.2 in
        (ih.0, rw (advances_append (code_case v k) (code_k v ks), h) ih.1, ih.2)

  adv_R : (r : Rule) → SidedR r → UsableR ids r → ShallowR r → target r < length ids → get_or ids (target r) false ≡ false
      → advances (code_r r) (known [] false none ids) ≡ some (known [] false none (set ids (target r) true))
  adv_R (function v e) sided u d l f =
      let he = adv_E e [] false none u (omega arith) in
      simp (advances_append, he, lt-ltb v (length ids) l, f)
  adv_R (change v [] cs) sided u d l f = absurd (sided_walks [] sided)
  adv_R (change v (k ∷ ks) cs) sided u d l f =
      let w = sided_walks (sides (k ∷ ks)) sided in
      let h = adv_case v l f k none (T_true (may_begin k.side) w.0) u.0 u.1 d.1.0 d.1.1 in
      let hs = adv_K v l f k.side ks w.1 u.2 d.1.2 in
      rw (advances_append (code_case v k ++ code_k v ks) (settle v ∷ []), advances_append (code_case v k) (code_k v ks), h, hs.1, lt-ltb v (length ids) l, f, eq-eqb v v refl, hs.2)

adv_T : (v i n : ℕ) (ts : List Timer) → Numbered i n ts → (ids : List Bool) → length ids ≡ n → EachTimer (Unknown v ids) ts
    → advances (code_t v ts) (known [] false none ids) ≡ some (known [] false none (timers_known v ts ids))
adv_T v i n [] num ids l un = refl
adv_T v i n (x ∷ xs) num ids l un = go (eqb x.watched v) (eqb-true x.watched v) (λ ids₁ l₁ un₁. adv_T v (suc i) n xs num.1 ids₁ l₁ un₁)
  where
    go : (b : Bool) → (b ≡ true → x.watched ≡ v)
        → ((ids₁ : List Bool) → length ids₁ ≡ n → EachTimer (Unknown v ids₁) xs → advances (code_t v xs) (known [] false none ids₁) ≡ some (known [] false none (timers_known v xs ids₁)))
        → advances (cond b (timer x.id v x.limit ∷ code_t v xs) (code_t v xs)) (known [] false none ids) ≡ some (known [] false none (timers_known v xs (cond b (set ids x.id true) ids)))
    go false f ih = ih ids l un.1
    go true f ih =
        let c : x.id ≡ i = num.0 in
        let e : suc i + length xs ≡ n = numbered_length (suc i) n xs num.1 in
        rw (lt-ltb x.id (length ids) (omega arith), un.0 (f refl)) (ih (set ids x.id true) (length-set ids x.id true ∙ l) (unknown_kept v i n xs ids x.id num.1 c un.1))

-- the walk over the rules ends with every id known
module _ (k : Setting) (n first : ℕ) (owner : ℕ → ℕ) (ts : List Timer) (numbered : Numbered first n ts) (places : EachTimer (Placed k n first owner) ts) where
  pub adv_rules : (rs : List Rule) (ids : List Bool) → length ids ≡ n → EachTimer (Waiting ids) ts → SidedAll rs → OrderedRules ts ids rs → Shallow rs
      → (end : List Bool) × (advances (code_rules ts rs) (known [] false none ids) ≡ some (known [] false none end)) × (all_true end ≡ true)
  adv_rules [] ids l w sided o d = (ids, refl, T_true (all_true ids) o)
  adv_rules (r ∷ rs) ids l w sided o d =
      let v = target r in
      let inside : v < length ids = ltb→lt v (length ids) o.1 in
      let free = not_taken ts ids v o.2 in
      let below : v < first = before_timers first n ts v numbered free.0 (omega arith) in
      let h = adv_R ids r sided.0 o.0 d.0 inside free.1 in
      let a = adv_T v first n ts numbered (set ids v true) (length-set ids v true ∙ l) (first_unknown k [] n first owner ts places v below ids inside free.1 w) in
      let m : length (timers_known v ts (set ids v true)) ≡ n = known_length v ts (set ids v true) ∙ length-set ids v true ∙ l in
      let ih = adv_rules rs (timers_known v ts (set ids v true)) m (still_waiting k [] n first owner ts places v below ids inside w) sided.1 o.3 d.1 in
      (ih.0, rw (advances_append (code_r r) (code_t v ts ++ code_rules ts rs), h, advances_append (code_t v ts) (code_rules ts rs), a) ih.1, ih.2)

-- ---- the timers suit the ranges

-- what is asked of timers, of each with the instruction before it
abbrev pub Suited : List Range → Option Instruction → List Instruction → Type 0
Suited ns last [] = Unit {0}
Suited ns last (i ∷ is) = T (suits ns last i) × Suited ns (some i) is

suited_append : (ns : List Range) (last : Option Instruction) (is js : List Instruction) → Suited ns last is → Suited ns (last_of last is) js → Suited ns last (is ++ js)
suited_append ns last [] js g h = h
suited_append ns last (i ∷ is) js g h = (g.0, suited_append ns (some i) is js g.1 h)

suited_timeless : (ns : List Range) (last : Option Instruction) (is : List Instruction) → Timeless is → Suited ns last is
suited_timeless ns last [] h = tt
suited_timeless ns last (i ∷ is) h = (true_T _ (suits_timeless ns last (signature i).role h.0), suited_timeless ns (some i) is h.1)

-- directly after the rule of v, or after a timer of v
abbrev After : Option Instruction → ℕ → ℕ → Type 0
After last v i = (t : ℕ) → i ≤ t → T (follows last t v)

after_rule : (r : Rule) (last : Option Instruction) → After (last_of last (code_r r)) (target r) 0
after_rule (function v e) last t l = rw (last_append last (code_e e) (assign v)) (eqb_refl v)
after_rule (change v ks cs) last t l = rw (last_append last (code_k v ks) (settle v)) (eqb_refl v)

module _ (ns : List Range) (inputs first : ℕ) where
  suited_timer : (last : Option Instruction) (x : Timer) → TimerFits ns inputs first x → T (follows last x.id x.watched) → T (suits_in ns last (times x.id x.watched x.limit))
  suited_timer last x f h =
      let a : T (is_timer_range (range_at ns x.id)) = subst (λ (r : Range). T (is_timer_range r)) (sym f.own) bit_timer in
      and_T (is_timer_range (range_at ns x.id) && is_binary (range_at ns x.watched) && (leb 1 x.limit && leb x.limit time_limit)) (follows last x.id x.watched)
      (and_T (is_timer_range (range_at ns x.id) && is_binary (range_at ns x.watched)) (leb 1 x.limit && leb x.limit time_limit) (and_T (is_timer_range (range_at ns x.id)) (is_binary (range_at ns x.watched)) a f.binary)
      (and_T (leb 1 x.limit) (leb x.limit time_limit) (le→leb 1 x.limit f.least) (le→leb x.limit time_limit f.most))) h

  suited_T : (v i end : ℕ) (ts : List Timer) → Numbered i end ts → EachTimer (TimerFits ns inputs first) ts → (last : Option Instruction) → After last v i → Suited ns last (code_t v ts)
  suited_T v i end [] num f last h = tt
  suited_T v i end (x ∷ xs) num f last h = go (eqb x.watched v) (eqb-true x.watched v) (λ last₁ h₁. suited_T v (suc i) end xs num.1 f.1 last₁ h₁)
    where
      go : (b : Bool) → (b ≡ true → x.watched ≡ v) → ((last₁ : Option Instruction) → After last₁ v (suc i) → Suited ns last₁ (code_t v xs))
          → Suited ns last (cond b (timer x.id v x.limit ∷ code_t v xs) (code_t v xs))
      go false e ih = ih last λ t l. h t (omega arith)
      go true e ih =
          let c : x.id ≡ i = num.0 in
          let w = e refl in
          let a = subst (λ (y : ℕ). T (suits_in ns last (times x.id y x.limit))) w (suited_timer last x f.0 (subst (λ (y : ℕ). T (follows last x.id y)) (sym w) (h x.id (omega arith)))) in
          (a, ih (some (timer x.id v x.limit)) λ t l. and_T (eqb v v) (ltb x.id t) (eqb_refl v) (lt→ltb x.id t (omega arith)))

  pub suited_rules : (end : ℕ) (ts : List Timer) → Numbered first end ts → EachTimer (TimerFits ns inputs first) ts → (last : Option Instruction) (rs : List Rule) → Suited ns last (code_rules ts rs)
  suited_rules end ts num f last [] = tt
  suited_rules end ts num f last (r ∷ rs) =
      suited_append ns last (code_r r) (code_t (target r) ts ++ code_rules ts rs) (suited_timeless ns last (code_r r) (timeless_R r))
      (suited_append ns (last_of last (code_r r)) (code_t (target r) ts) (code_rules ts rs) (suited_T (target r) first end ts num f (last_of last (code_r r)) (λ t l. after_rule r last t (omega arith))) (suited_rules end ts num f (last_of (last_of last (code_r r)) (code_t (target r) ts)) rs))
