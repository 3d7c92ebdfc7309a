-- The shape read from a program's image is the program's. Assumes nothing.
use Prim.Native.Nat.{ℕ, zero, suc, ◌+◌, ◌-◌, ◌≤◌, ◌<◌}
use native.Mathlib.Omega.{arith}
use native.Mathlib.Decide.{ℕ_discrete}
use mathlib.Core.Path.{◌≡◌, refl, sym, ap, ◌∙◌}
use mathlib.Core.Logic.{◌≢◌}
use mathlib.Core.Bool.{Bool, true, false, cond, false≢true}
use mathlib.Core.List.{List, [], ◌∷◌, ◌++◌, map}
use lib.Dec.{eqb, ltb, ltb→lt}
use lib.ListN.{length, get_or, set, drop, replicate, length-set, length-append, length-map, length-replicate, get_or-replicate, get_or-append}
use lib.Seq.{get_or-append-add, get_or-set_same, get_or-set_other, ext_get_or}
use borrow.Author.Tests.{ltb-true, ltb-false, eqb-true, eq-eqb}
use Rattle.semantics.specs.Program.{Rule, target, Timer, timers_known, OrderedRules, Program, ranges_of, known_first, first_timer, Numbered, EachTimer, TimerFits}
use Rattle.semantics.specs.Shape.{shape_of, Setting, setting_of}
use Rattle.semantics.proofs.Timers.{each_map, each_both, numbered_length, numbered_from, at_own, Placed, owner_of, timer_count, placed}
use Rattle.semantics.proofs.Cells.{all_true_lem, before_timers, not_taken, known_length, names_kept}
use Rattle.semantics.proofs.Reference.{length_known, variable_unknown}
use Rattle.leb128.proofs.RoundTrip.{drop_behind}
use Rattle.bytecode.specs.Instructions.{Instruction, encode, encode_all}
use Rattle.bytecode.specs.Signature.{signature}
use Rattle.bytecode.specs.Translation.{code_r, code_t, code_rules, image_of, Translatable}
use Rattle.bytecode.specs.Parts.{limit_in, limits_from, limits_of, shape_in}
use Rattle.bytecode.proofs.Fetching.{fetch-end}
use Rattle.bytecode.proofs.RoundTrip.{AllSmall, fetch_encoded, length_encode}
use Rattle.bytecode.proofs.Soundness.{past_end, header_of_lem, code_of_lem, translated_small}
use Rattle.bytecode.proofs.Timeless.{Timeless, timeless_R}
use Rattle.bytecode.proofs.Limits.{limit_timeless}

-- ---- the limits that a list of instructions gives

abbrev pub limits_by : List Instruction → List ℕ → List ℕ
limits_by [] ls = ls
limits_by (i ∷ is) ls = limits_by is (limit_in (signature i).role ls)

limits_append : (is js : List Instruction) (ls : List ℕ) → limits_by (is ++ js) ls ≡ limits_by js (limits_by is ls)
limits_append [] js ls = refl
limits_append (i ∷ is) js ls = limits_append is js (limit_in (signature i).role ls)

-- the walk over the bytes gives those of the instructions
pub limits_read : (code : List ℕ) (f at : ℕ) (is : List Instruction) (ls : List ℕ) → AllSmall is → drop at code ≡ encode_all is → length (encode_all is) ≤ f
    → limits_from code f at ls ≡ limits_by is ls
limits_read code zero at [] ls s h l = refl
limits_read code (suc f) at [] ls s h l = rw (fetch-end code at (past_end code at h))
limits_read code zero at (i ∷ is) ls s h l = let b : ⊥ = omega (arith, length_encode i, simp length-append at l) in absurd b
limits_read code (suc f) at (i ∷ is) ls s h l =
    rw (fetch_encoded code at i (encode_all is) s.0 h)
    (limits_read code f (at + length (encode i)) is (limit_in (signature i).role ls) s.1 (drop_behind code at (encode i) (encode_all is) h) (omega (arith, length_encode i, simp length-append at l)))

-- rules give none
limits_timeless : (is : List Instruction) (ls : List ℕ) → Timeless is → limits_by is ls ≡ ls
limits_timeless [] ls h = refl
limits_timeless (i ∷ is) ls h = rw (limit_timeless (signature i).role ls h.0) (limits_timeless is ls h.1)

-- ---- the timers of a variable

timers_size : (v : ℕ) (ts : List Timer) (ls : List ℕ) → length (limits_by (code_t v ts) ls) ≡ length ls
timers_size v [] ls = refl
timers_size v (x ∷ xs) ls = go (eqb x.watched v) (λ ls₁. timers_size v xs ls₁)
  where
    go : (b : Bool) → ((ls₁ : List ℕ) → length (limits_by (code_t v xs) ls₁) ≡ length ls₁)
        → length (limits_by (cond b (Instruction.timer x.id v x.limit ∷ code_t v xs) (code_t v xs)) ls) ≡ length ls
    go true ih = ih (set ls x.id x.limit) ∙ length-set ls x.id x.limit
    go false ih = ih ls

timers_other : (v i : ℕ) (ts : List Timer) (ls : List ℕ) → EachTimer (λ x. x.watched ≡ v → i ≢ x.id) ts → get_or (limits_by (code_t v ts) ls) i 0 ≡ get_or ls i 0
timers_other v i [] ls h = refl
timers_other v i (x ∷ xs) ls h = go (eqb x.watched v) (eqb-true x.watched v) (λ ls₁. timers_other v i xs ls₁ h.1)
  where
    go : (b : Bool) → (b ≡ true → x.watched ≡ v) → ((ls₁ : List ℕ) → get_or (limits_by (code_t v xs) ls₁) i 0 ≡ get_or ls₁ i 0)
        → get_or (limits_by (cond b (Instruction.timer x.id v x.limit ∷ code_t v xs) (code_t v xs)) ls) i 0 ≡ get_or ls i 0
    go true f ih = ih (set ls x.id x.limit) ∙ get_or-set_other ls x.id i x.limit 0 (h.0 (f refl))
    go false f ih = ih ls

timers_own : (v i end : ℕ) (ts : List Timer) (ls : List ℕ) → Numbered i end ts → end ≤ length ls → EachTimer (λ x. x.watched ≡ v → get_or (limits_by (code_t v ts) ls) x.id 0 ≡ x.limit) ts
timers_own v i end [] ls h l = tt
timers_own v i end (x ∷ xs) ls h l = go (eqb x.watched v) (eq-eqb x.watched v) (λ ls₁ l₁. timers_own v (suc i) end xs ls₁ h.1 l₁)
  where
    go : (b : Bool) → (x.watched ≡ v → b ≡ true)
        → ((ls₁ : List ℕ) → end ≤ length ls₁ → EachTimer (λ y. y.watched ≡ v → get_or (limits_by (code_t v xs) ls₁) y.id 0 ≡ y.limit) xs)
        → EachTimer (λ y. y.watched ≡ v → get_or (limits_by (cond b (Instruction.timer x.id v x.limit ∷ code_t v xs) (code_t v xs)) ls) y.id 0 ≡ y.limit) (x ∷ xs)
    go false f ih = ((λ e. absurd (false≢true (f e))), ih ls l)
    go true f ih =
        let c : x.id ≡ i = h.0 in
        let m : suc i + length xs ≡ end = numbered_length (suc i) end xs h.1 in
        let n : length (set ls x.id x.limit) ≡ length ls = length-set ls x.id x.limit in
        let later : EachTimer (λ y. y.watched ≡ v → x.id ≢ y.id) xs =
        each_map (λ y. (suc i ≤ y.id) × (y.id < end)) (λ y. y.watched ≡ v → x.id ≢ y.id) (λ y q e d. let a = q.0 in let b : ⊥ = omega arith in b) xs (numbered_from (suc i) (suc i) end xs (omega arith) h.1) in
        ((λ e. timers_other v x.id xs (set ls x.id x.limit) later ∙ get_or-set_same ls x.id x.limit 0 (omega arith)), ih (set ls x.id x.limit) (omega arith))

-- ---- the rules in order

module _ (k : Setting) (n first : ℕ) (owner : ℕ → ℕ) (ts : List Timer) (numbered : Numbered first n ts) (placed : EachTimer (Placed k n first owner) ts) where
  -- the limits so far: those of the timers whose w is known
  record Told (known : List Bool) (ls : List ℕ) : Type 0 where
    size : length ls ≡ n
    names : (i : ℕ) → i < first → get_or ls i 0 ≡ 0
    timers : EachTimer (λ x. get_or ls x.id 0 ≡ cond (get_or known x.watched false) x.limit 0) ts

  told_step : (v : ℕ) → v < first → (known : List Bool) → v < length known → (ls : List ℕ) → Told known ls → Told (timers_known v ts (set known v true)) (limits_by (code_t v ts) ls)
  told_step v below known inside ls h = record {
    size = timers_size v ts ls ∙ h.size;
    names = λ i l.
        timers_other v i ts ls (each_map (Placed k n first owner) (λ y. y.watched ≡ v → i ≢ y.id) (λ y p e d. let a = p.after in let b : ⊥ = omega arith in b) ts placed) ∙ h.names i l;
    timers =
        each_map (λ x. Placed k n first owner x × ((x.watched ≡ v → get_or new x.id 0 ≡ x.limit) × (get_or ls x.id 0 ≡ cond (get_or known x.watched false) x.limit 0))) After
        (λ x q. one x q.0 q.1.0 q.1.1) ts
        (each_both (Placed k n first owner) (λ x. (x.watched ≡ v → get_or new x.id 0 ≡ x.limit) × (get_or ls x.id 0 ≡ cond (get_or known x.watched false) x.limit 0)) ts placed
        (each_both (λ x. x.watched ≡ v → get_or new x.id 0 ≡ x.limit) (λ x. get_or ls x.id 0 ≡ cond (get_or known x.watched false) x.limit 0) ts (timers_own v first n ts ls numbered (let s = h.size in omega arith)) h.timers));
  }
    where
      new : List ℕ
      new = limits_by (code_t v ts) ls

      After : Timer → Type 0
      After x = get_or (limits_by (code_t v ts) ls) x.id 0 ≡ cond (get_or (timers_known v ts (set known v true)) x.watched false) x.limit 0

      one : (x : Timer) → Placed k n first owner x → (x.watched ≡ v → get_or (limits_by (code_t v ts) ls) x.id 0 ≡ x.limit)
          → get_or ls x.id 0 ≡ cond (get_or known x.watched false) x.limit 0
          → get_or (limits_by (code_t v ts) ls) x.id 0 ≡ cond (get_or (timers_known v ts (set known v true)) x.watched false) x.limit 0
      one x p here old = rw (names_kept k [] n first owner ts placed v below known inside x.watched p.watches) (go (ℕ_discrete x.watched v))
        where
          go : Dec (x.watched ≡ v) → get_or (limits_by (code_t v ts) ls) x.id 0 ≡ cond (get_or (set known v true) x.watched false) x.limit 0
          go (yes e) = let a : get_or (set known v true) x.watched false ≡ true = rw e (get_or-set_same known v true false inside) in rw a (here e)
          go (no d) =
              let other : EachTimer (λ y. y.watched ≡ v → x.id ≢ y.id) ts =
              each_map (Placed k n first owner) (λ y. y.watched ≡ v → x.id ≢ y.id) (λ y q f g. d (sym p.owned ∙ ap owner g ∙ q.owned ∙ f)) ts placed in
              rw (get_or-set_other known v x.watched true false d) (timers_other v x.id ts ls other ∙ old)

  told_rules : (known : List Bool) (rs : List Rule) (ls : List ℕ) → length known ≡ n → OrderedRules ts known rs → Told known ls
      → (length (limits_by (code_rules ts rs) ls) ≡ n) × ((i : ℕ) → i < first → get_or (limits_by (code_rules ts rs) ls) i 0 ≡ 0) × EachTimer (λ x. get_or (limits_by (code_rules ts rs) ls) x.id 0 ≡ x.limit) ts
  told_rules known [] ls l o h = (
    h.size,
    h.names,
    each_map (λ x. Placed k n first owner x × (get_or ls x.id 0 ≡ cond (get_or known x.watched false) x.limit 0)) (λ x. get_or ls x.id 0 ≡ x.limit) (λ x q.
        let e : get_or known x.watched false ≡ true = all_true_lem known o x.watched (omega arith) in
        rw e at q.1) ts (each_both (Placed k n first owner) (λ x. get_or ls x.id 0 ≡ cond (get_or known x.watched false) x.limit 0) ts placed h.timers),
  )
  told_rules known (r ∷ rs) ls l o h =
      let v = target r in
      let inside : v < length known = ltb→lt v (length known) o.1 in
      let below : v < first = before_timers first n ts v numbered (not_taken ts known v o.2).0 (omega arith) in
      let m : length (timers_known v ts (set known v true)) ≡ n = known_length v ts (set known v true) ∙ length-set known v true ∙ l in
      let e : limits_by (code_rules ts (r ∷ rs)) ls ≡ limits_by (code_rules ts rs) (limits_by (code_t v ts) ls) =
      limits_append (code_r r) (code_t v ts ++ code_rules ts rs) ls ∙ ap (limits_by (code_t v ts ++ code_rules ts rs)) (limits_timeless (code_r r) ls (timeless_R r)) ∙ limits_append (code_t v ts) (code_rules ts rs) ls in
      rw e (told_rules (timers_known v ts (set known v true)) rs (limits_by (code_t v ts) ls) m o.3 (told_step v below known inside ls h))

-- ---- the image of a program

each_at : (P : ℕ → Type 0) (i end : ℕ) (ts : List Timer) → Numbered i end ts → EachTimer (λ x. P x.id) ts → (j : ℕ) → i ≤ j → j < end → P j
each_at P i end [] h e j g l = let b : ⊥ = omega arith in absurd b
each_at P i end (x ∷ xs) h e j g l = go (ℕ_discrete j i) (λ q. each_at P (suc i) end xs h.1 e.1 j q l)
  where
    go : Dec (j ≡ i) → (suc i ≤ j → P j) → P j
    go (yes q) ih = rw (q, ← h.0) e.0
    go (no q) ih = ih (omega arith)

-- a table that has 0 at the names before the timers, and at each timer its limit
module _ (n first : ℕ) (ts : List Timer) (numbered : Numbered first n ts) (found : List ℕ) where
  abbrev told_table : List ℕ
  told_table = replicate first 0 ++ map (λ x. x.limit) ts

  at_timer : (x : Timer) → first ≤ x.id → get_or (map (λ y. y.limit) ts) (x.id - first) 0 ≡ x.limit → get_or told_table x.id 0 ≡ x.limit
  at_timer x l e =
      let zeros : length (replicate {A = ℕ} first 0) ≡ first = length-replicate first 0 in
      let c : length (replicate {A = ℕ} first 0) + (x.id - first) ≡ x.id = omega arith in
      ap (λ (i : ℕ). get_or told_table i 0) (sym c) ∙ get_or-append-add (replicate first 0) (map (λ y. y.limit) ts) (x.id - first) 0 ∙ e

  at_timers : EachTimer (λ x. get_or found x.id 0 ≡ x.limit) ts → EachTimer (λ x. get_or found x.id 0 ≡ get_or told_table x.id 0) ts
  at_timers h =
      each_map (λ x. ((first ≤ x.id) × (x.id < n)) × ((get_or found x.id 0 ≡ x.limit) × (get_or (map (λ y. y.limit) ts) (x.id - first) 0 ≡ x.limit))) (λ x. get_or found x.id 0 ≡ get_or told_table x.id 0)
      (λ x q. q.1.0 ∙ sym (at_timer x q.0.0 q.1.1)) ts
      (each_both (λ x. (first ≤ x.id) × (x.id < n)) (λ x. (get_or found x.id 0 ≡ x.limit) × (get_or (map (λ y. y.limit) ts) (x.id - first) 0 ≡ x.limit)) ts (numbered_from first first n ts (omega arith) numbered)
      (each_both (λ x. get_or found x.id 0 ≡ x.limit) (λ x. get_or (map (λ y. y.limit) ts) (x.id - first) 0 ≡ x.limit) ts h
      (at_own (λ y. y.limit) 0 first n (map (λ y. y.limit) ts) [] first ts numbered (omega arith) refl)))

  table_is : length found ≡ n → ((i : ℕ) → i < first → get_or found i 0 ≡ 0) → EachTimer (λ x. get_or found x.id 0 ≡ x.limit) ts → found ≡ told_table
  table_is size names timers =
      let count = numbered_length first n ts numbered in
      let whole : length told_table ≡ n = omega (arith, length-append (replicate first 0) (map (λ x. x.limit) ts), length-map ts (λ x. x.limit), length-replicate {A = ℕ} first 0) in
      ext_get_or 0 found told_table (size ∙ sym whole) (λ i h. cell i h (at_timers timers))
    where
      cell : (i : ℕ) → i < length found → EachTimer (λ x. get_or found x.id 0 ≡ get_or told_table x.id 0) ts → get_or found i 0 ≡ get_or told_table i 0
      cell i h behind = go (ltb i first) (ltb-true i first) (ltb-false i first)
        where
          go : (b : Bool) → (b ≡ true → i < first) → (b ≡ false → first ≤ i) → get_or found i 0 ≡ get_or told_table i 0
          go true y f =
              let l : length (replicate {A = ℕ} first 0) ≡ first = length-replicate first 0 in
              let c : i < first = y refl in
              names i c ∙ sym (get_or-append (replicate first 0) (map (λ x. x.limit) ts) 0 i (omega arith) ∙ get_or-replicate first i 0 0 c)
          go false y f = each_at (λ j. get_or found j 0 ≡ get_or told_table j 0) first n ts numbered behind i (f refl) (omega arith)

module _ (p : Program) (t : Translatable p) where
  abbrev TimerPlaced : Timer → Type 0
  TimerPlaced = Placed (setting_of (shape_of p) []) (length (ranges_of p)) (first_timer p) (owner_of p)

  first_told : Told (setting_of (shape_of p) []) (length (ranges_of p)) (first_timer p) (owner_of p) p.timers t.well_formed.timed.numbered (placed p t.well_formed.timed [])
      (known_first p.inputs (length (ranges_of p))) (replicate (length (ranges_of p)) 0)
  first_told =
      let n = length (ranges_of p) in
      let fit = t.well_formed.timed in
      let count = timer_count p fit in
      record {
        size = length-replicate n 0;
        names = λ i h. get_or-replicate n i 0 0 (omega arith);
        timers =
            each_map (λ x. TimerPlaced x × TimerFits (ranges_of p) p.inputs (first_timer p) x) (λ x. get_or (replicate n 0) x.id 0 ≡ cond (get_or (known_first p.inputs n) x.watched false) x.limit 0)
            (λ x q. rw (variable_unknown p.inputs n x.watched q.1.a_variable) (get_or-replicate n x.id 0 0 q.0.below)) p.timers
            (each_both TimerPlaced (TimerFits (ranges_of p) p.inputs (first_timer p)) p.timers (placed p fit []) fit.each);
      }

  limits_given : limits_by (code_rules p.timers p.rules) (replicate (length (ranges_of p)) 0) ≡ (shape_of p).limits
  limits_given =
      let n = length (ranges_of p) in
      let fit = t.well_formed.timed in
      let a = told_rules (setting_of (shape_of p) []) n (first_timer p) (owner_of p) p.timers fit.numbered (placed p fit []) (known_first p.inputs n) p.rules (replicate n 0) (length_known p.inputs n) t.well_formed.ordered first_told in
      table_is n (first_timer p) p.timers fit.numbered (limits_by (code_rules p.timers p.rules) (replicate n 0)) a.0 a.1 a.2

  pub limits_of_lem : limits_of (image_of p) ≡ (shape_of p).limits
  unfolding limits_of
  limits_of_lem =
      let code = encode_all (code_rules p.timers p.rules) in
      rw (header_of_lem p t, code_of_lem p t) (limits_read code (length code) 0 (code_rules p.timers p.rules) (replicate (length (ranges_of p)) 0) (translated_small p t) refl (omega arith) ∙ limits_given)

  pub shape_translated : shape_in (image_of p) ≡ shape_of p
  shape_translated = rw (header_of_lem p t, limits_of_lem)
