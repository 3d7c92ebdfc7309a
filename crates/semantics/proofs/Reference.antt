-- The trace that the reference scan finds satisfies every formula, and no other does: one place, then a whole list of rows.
-- Assumes nothing.
use Prim.Native.Nat.{ℕ, zero, suc, ◌+◌, ◌-◌, ◌<◌, ◌≤◌}
use native.Mathlib.Omega.{arith}
use mathlib.Core.Path.{◌≡◌, refl, sym, ap, ap₂, ◌∙◌}
use mathlib.Core.Bool.{Bool, true, false, ◌&&◌, cond, false≢true}
use mathlib.Core.List.{List, [], ◌∷◌, ◌++◌, map}
use lib.Dec.{T, eqb, ltb, eqb→eq, le→leb}
use lib.IntN.{ℤ, pos}
use lib.ListN.{length, get_or, take, drop, length-append, length-drop, get_or-append, length-map}
use lib.Seq.{take_all, get_or-take, get_or-drop, get_or-append-add, ext_get_or, length-take-le}
use lib.Signed.{non_neg}
use borrow.Author.Tests.{ltb-true, ltb-false}
use Rattle.arith.specs.Values.{Outcome, ok, refusal, check}
use Rattle.semantics.specs.Program.{Program, Range, Rule, Condition, both, either, ranges_of, WellFormed, StartsWithin, known_first, within, Timer, EachTimer, first_timer, TimerFits}
use Rattle.semantics.specs.Formula.{State, at, eval_c, Formula, formulas_of_rule, formulas_of_rules, formulas_of, Holds, GX, All, Satisfies}
use Rattle.semantics.specs.Shape.{Shape, shape_of, has_timer, time_range, cells, state_length, all_within, row_length, row_in_range, setting_of}
use Rattle.semantics.specs.ReferenceScan.{scan_rules, with_inputs, reference_scan}
use Rattle.semantics.specs.Rows.{Reply, reply, reference_replies, starts_of, accepted_states, accepted_rows, trace_of, Fits, Equations, Timed, InRanges, AllInRanges, OnlyTrace}
use Rattle.arith.proofs.Basics.{and_left, and_right, and_T, ok≢refusal}
use Rattle.semantics.proofs.Timers.{each_map, each_both, Placed, owner_of, timer_count, cells_last, cells_length, placed}
use Rattle.semantics.proofs.Cells.{Agree, marks, marks_length, Waiting, ToCome}
use Rattle.semantics.proofs.Unique.{HoldsRule, HoldsAll, NewAll, scan_new, new_holds, scan_value, scan_within, all_within_inputs}

-- ---- every formula at a place, and along a trace

-- Both operands of `&` and `|` are worked out: a refusal of the second counts, whatever the first is.
module _ (s t : State) (a b : Condition) (x : Bool) (k : ℕ) (e : eval_c s t a ≡ ok x) (f : eval_c s t b ≡ refusal k) where
  pub both_worked_out : eval_c s t (both a b) ≡ refusal k
  both_worked_out = rw (e, f)

  pub either_worked_out : eval_c s t (either a b) ≡ refusal k
  either_worked_out = rw (e, f)

-- A formula that needs a value refused by 14 isn't satisfied.
pub refused_unsatisfied : (f : Formula) (s t : State) (k : ℕ) → f s t ≡ refusal k → Holds f s t → ⊥
refused_unsatisfied f s t k e h = ok≢refusal true k (sym h ∙ e)

pub all_append : (P : Formula → Type 0) (fs gs : List Formula) → All P fs → All P gs → All P (fs ++ gs)
all_append P [] gs a b = b
all_append P (f ∷ fs) gs a b = (a.0, all_append P fs gs a.1 b)

all_first : (P : Formula → Type 0) (fs gs : List Formula) → All P (fs ++ gs) → All P fs
all_first P [] gs a = tt
all_first P (f ∷ fs) gs a = (a.0, all_first P fs gs a.1)

all_second : (P : Formula → Type 0) (fs gs : List Formula) → All P (fs ++ gs) → All P gs
all_second P [] gs a = a
all_second P (f ∷ fs) gs a = all_second P fs gs a.1

rules_hold : (s t : State) (rs : List Rule) → HoldsAll s t rs → All (λ f. Holds f s t) (formulas_of_rules rs)
unfolding HoldsRule
rules_hold s t [] h = tt
rules_hold s t (r ∷ rs) h = all_append (λ f. Holds f s t) (formulas_of_rule r) (formulas_of_rules rs) h.0 (rules_hold s t rs h.1)

hold_rules : (s t : State) (rs : List Rule) → All (λ f. Holds f s t) (formulas_of_rules rs) → HoldsAll s t rs
unfolding HoldsRule
hold_rules s t [] h = tt
hold_rules s t (r ∷ rs) h =
    (all_first (λ f. Holds f s t) (formulas_of_rule r) (formulas_of_rules rs) h, hold_rules s t rs (all_second (λ f. Holds f s t) (formulas_of_rule r) (formulas_of_rules rs) h))

pub all_start : (s : State) (fs : List Formula) → All (λ f. GX f (s ∷ [])) fs
all_start s [] = tt
all_start s (f ∷ fs) = (tt, all_start s fs)

pub all_cons : (s t : State) (ts : List State) (fs : List Formula) → All (λ f. Holds f s t) fs → All (λ f. GX f (t ∷ ts)) fs → All (λ f. GX f (s ∷ t ∷ ts)) fs
all_cons s t ts [] a b = tt
all_cons s t ts (f ∷ fs) a b = ((a.0, b.0), all_cons s t ts fs a.1 b.1)

all_head : (s t : State) (ts : List State) (fs : List Formula) → All (λ f. GX f (s ∷ t ∷ ts)) fs → All (λ f. Holds f s t) fs
all_head s t ts [] a = tt
all_head s t ts (f ∷ fs) a = (a.0.0, all_head s t ts fs a.1)

all_tail : (s t : State) (ts : List State) (fs : List Formula) → All (λ f. GX f (s ∷ t ∷ ts)) fs → All (λ f. GX f (t ∷ ts)) fs
all_tail s t ts [] a = tt
all_tail s t ts (f ∷ fs) a = (a.0.1, all_tail s t ts fs a.1)

-- ---- one place

-- What an accepted scan of a row on s leaves.
pub record Next (p : Program) (s : State) (row : List ℤ) (u : State) : Type 0 where
  pub kept : InRanges p u
  pub inputs : take p.inputs u ≡ take p.inputs row
  pub new : NewAll (cells (shape_of p)) s u p.rules
  pub holds : HoldsAll s u p.rules
  pub times : EachTimer (Equations (setting_of (shape_of p) row) s u) p.timers
  pub only : (w : State) → length w ≡ state_length (shape_of p) → take p.inputs w ≡ take p.inputs row → HoldsAll s w p.rules
      → EachTimer (Equations (setting_of (shape_of p) row) s w) p.timers → w ≡ u

pub length_known : (k m : ℕ) → length (known_first k m) ≡ m
length_known zero zero = refl
length_known (suc k) zero = refl
length_known zero (suc m) = ap suc (length_known zero m)
length_known (suc k) (suc m) = ap suc (length_known k m)

-- exactly the inputs are known first
known_input : (k m : ℕ) (i : ℕ) → get_or (known_first k m) i false ≡ true → i < k
known_input zero zero i e = absurd (false≢true e)
known_input (suc k) zero i e = absurd (false≢true e)
known_input zero (suc m) zero e = absurd (false≢true e)
known_input zero (suc m) (suc i) e = let h : i < 0 = known_input zero m i e in omega arith
known_input (suc k) (suc m) zero e = omega arith
known_input (suc k) (suc m) (suc i) e = let h : i < k = known_input k m i e in omega arith

input_known : (k m : ℕ) (i : ℕ) → k ≤ m → i < k → get_or (known_first k m) i false ≡ true
input_known zero m i f h = let b : ⊥ = omega arith in absurd b
input_known (suc k) zero i f h = let b : ⊥ = omega arith in absurd b
input_known (suc k) (suc m) zero f h = refl
input_known (suc k) (suc m) (suc i) f h = input_known k m i (omega arith) (omega arith)

pub variable_unknown : (k m : ℕ) (i : ℕ) → k ≤ i → get_or (known_first k m) i false ≡ false
variable_unknown zero zero i f = refl
variable_unknown (suc k) zero i f = refl
variable_unknown zero (suc m) zero f = refl
variable_unknown zero (suc m) (suc i) f = variable_unknown zero m i (omega arith)
variable_unknown (suc k) (suc m) zero f = let b : ⊥ = omega arith in absurd b
variable_unknown (suc k) (suc m) (suc i) f = variable_unknown k m i (omega arith)

-- no elapsed time is known first
marked_input : (first k m : ℕ) (i : ℕ) → k ≤ first → get_or (marks first (known_first k m)) i false ≡ true → i < k
marked_input first k m i f e = go (ltb i (length (known_first k m))) (ltb-true i (length (known_first k m))) (ltb-false i (length (known_first k m)))
  where
    go : (b : Bool) → (b ≡ true → i < length (known_first k m)) → (b ≡ false → length (known_first k m) ≤ i) → i < k
    go true y n = known_input k m i (sym (get_or-append (known_first k m) (drop first (known_first k m)) false i (y refl)) ∙ e)
    go false y n =
        let a : length (known_first k m) ≤ i = n refl in
        let j = i - length (known_first k m) in
        let c : length (known_first k m) + j ≡ i = omega arith in
        let d : get_or (known_first k m) (first + j) false ≡ true =
        sym (get_or-append-add (known_first k m) (drop first (known_first k m)) j false ∙ get_or-drop first (known_first k m) j false) ∙ rw c e in
        let h : first + j < k = known_input k m (first + j) d in
        omega arith

-- the timers stand behind the inputs
inputs_first : (ns : List Range) (inputs first : ℕ) (ts : List Timer) → inputs ≤ length ns → first + length ts ≡ length ns → EachTimer (TimerFits ns inputs first) ts → inputs ≤ first
inputs_first ns inputs first [] f c h = omega arith
inputs_first ns inputs first (x ∷ xs) f c h =
    omega arith

pub inputs_before : (p : Program) → WellFormed p → p.inputs ≤ first_timer p
inputs_before p wf = inputs_first (ranges_of p) p.inputs (first_timer p) p.timers wf.inputs_fit (timer_count p wf.timed) wf.timed.each

-- so no timer is known first
pub first_waiting : (p : Program) → WellFormed p → EachTimer (Waiting (known_first p.inputs (length (ranges_of p)))) p.timers
first_waiting p wf =
    each_map (Placed (setting_of (shape_of p) []) (length (ranges_of p)) (first_timer p) (owner_of p)) (Waiting (known_first p.inputs (length (ranges_of p)))) (λ x h e.
    let a = inputs_before p wf in
    variable_unknown p.inputs (length (ranges_of p)) x.id (omega arith)) p.timers (placed p wf.timed [])

pub all_within_append : (ns ms : List Range) (zs : List ℤ) → length zs ≤ length ns → T (all_within ns zs) → T (all_within (ns ++ ms) zs)
all_within_append [] [] [] h t = tt
all_within_append [] (m ∷ ms) [] h t = tt
all_within_append [] ms (z ∷ zs) h t = let b : ⊥ = omega arith in absurd b
all_within_append (n ∷ ns) ms [] h t = tt
all_within_append (n ∷ ns) ms (z ∷ zs) h t =
    and_T (within n z) (all_within (ns ++ ms) zs) (and_left (within n z) (all_within ns zs) t) (all_within_append ns ms zs (omega arith) (and_right (within n z) (all_within ns zs) t))

module _ (p : Program) (wf : WellFormed p) (s : State) (g : InRanges p s) (row : List ℤ) (long : p.inputs ≤ length row) (inside : T (all_within (ranges_of p) (take p.inputs row))) where
  abbrev inputs₀ : List ℤ
  inputs₀ = take p.inputs row

  abbrev known₀ : List Bool
  known₀ = known_first p.inputs (length (ranges_of p))

  fits : length inputs₀ ≡ p.inputs
  fits = length-take-le p.inputs row long

  size₀ : length (with_inputs s inputs₀) ≡ state_length (shape_of p)
  size₀ =
      let a : length s ≡ state_length (shape_of p) = g.size in
      let b : p.inputs ≤ length (ranges_of p) = wf.inputs_fit in
      let c = cells_length p wf.timed in
      let d = fits in
      rw (length-append inputs₀ (drop (length inputs₀) s), length-drop (length inputs₀) s) (omega arith)

  marked₀ : length (with_inputs s inputs₀) ≡ length (marks (first_timer p) known₀)
  marked₀ =
      let a = size₀ in
      let b = cells_length p wf.timed in
      let c = length_known p.inputs (length (ranges_of p)) in
      let d = timer_count p wf.timed in
      omega (arith, marks_length (first_timer p) known₀)

  within₀ : T (all_within (cells (shape_of p)) (with_inputs s inputs₀))
  within₀ =
      let a = fits in
      let c : T (all_within (cells (shape_of p)) inputs₀) = rw (cells_last p wf.timed) (all_within_append (ranges_of p) (map (λ x. time_range x.limit) p.timers) inputs₀ (omega arith) inside) in
      all_within_inputs (cells (shape_of p)) inputs₀ s c g.ranges

  row_at : (w : State) → take p.inputs w ≡ inputs₀ → (i : ℕ) → i < p.inputs → at w i ≡ at inputs₀ i
  row_at w e i h = sym (get_or-take p.inputs w i (pos 0) h) ∙ ap (λ (l : State). at l i) e

  agree₀ : (w : State) → take p.inputs w ≡ inputs₀ → Agree (marks (first_timer p) known₀) (with_inputs s inputs₀) w
  agree₀ w e i k =
      let h : i < p.inputs = marked_input (first_timer p) p.inputs (length (ranges_of p)) i (inputs_before p wf) k in
      let f = fits in
      get_or-append inputs₀ (drop (length inputs₀) s) (pos 0) i (omega arith) ∙ sym (row_at w e i h)

  take_inputs : (u : State) → length u ≡ state_length (shape_of p) → Agree (marks (first_timer p) known₀) (with_inputs s inputs₀) u → take p.inputs u ≡ inputs₀
  take_inputs u m agree =
      let b : p.inputs ≤ length (ranges_of p) = wf.inputs_fit in
      let c = cells_length p wf.timed in
      let fit : p.inputs ≤ length u = omega arith in
      let l : length (take p.inputs u) ≡ p.inputs = length-take-le p.inputs u fit in
      let f = fits in
      ext_get_or (pos 0) (take p.inputs u) inputs₀ (l ∙ sym f) λ i h.
      let k : i < p.inputs = omega arith in
      let n = length_known p.inputs (length (ranges_of p)) in
      let known = get_or-append known₀ (drop (first_timer p) known₀) false i (omega arith) ∙ input_known p.inputs (length (ranges_of p)) i wf.inputs_fit k in
      get_or-take p.inputs u i (pos 0) k ∙ sym (agree i known) ∙ get_or-append inputs₀ (drop (length inputs₀) s) (pos 0) i (omega arith)

  next : (u : State) → scan_rules (setting_of (shape_of p) row) p.timers s (with_inputs s inputs₀) p.rules ≡ ok u → Next p s row u
  next u e =
      let k = setting_of (shape_of p) row in
      let n = length (ranges_of p) in
      let first = first_timer p in
      let ts = p.timers in
      let at_place = placed p wf.timed row in
      let l = length_known p.inputs n in
      let h = scan_new k s n first (owner_of p) ts wf.timed.numbered at_place p.rules known₀ (with_inputs s inputs₀) u l marked₀ (first_waiting p wf) wf.ordered e in
      let w = scan_within k s n first (owner_of p) g.size g.ranges ts at_place p.rules (with_inputs s inputs₀) u e within₀ in
      let size : length u ≡ state_length (shape_of p) = w.1 ∙ size₀ in
      record {
        kept = record { size = size; ranges = w.0 };
        inputs = take_inputs u size h.0;
        new = h.1;
        holds = new_holds (cells (shape_of p)) s p.rules u wf.agrees h.1;
        times =
            each_map (λ x. TimerFits (ranges_of p) p.inputs first x × ToCome k s u known₀ x) (Equations k s u) (λ x q. q.1 (variable_unknown p.inputs n x.watched q.0.a_variable)) ts
            (each_both (TimerFits (ranges_of p) p.inputs first) (ToCome k s u known₀) ts wf.timed.each h.2);
        only = λ w₁ m i hs eqs. scan_value k s n first (owner_of p) ts wf.timed.numbered at_place p.rules known₀ (with_inputs s inputs₀) u w₁ l marked₀ (m ∙ sym size₀) wf.ordered wf.agrees e (agree₀ w₁ i) hs eqs;
      }

checked : {A : Type 0} (b : Bool) (k : ℕ) (o : Outcome A) (u : A) → check b k o ≡ ok u → T b × (o ≡ ok u)
checked true k o u e = (tt, e)
checked false k o u e = ok≢refusal u k (sym e)

-- the inputs of a row, with and without milliseconds behind them
pub row_inputs : (k : Shape) (row : List ℤ) → length row ≡ row_length k → T (row_in_range k row) → (k.inputs ≤ length row) × T (all_within k.ranges (take k.inputs row))
row_inputs k row = go (has_timer k.limits)
  where
    go : (b : Bool) → length row ≡ cond b (k.inputs + 1) k.inputs
        → T (cond b (all_within k.ranges (take k.inputs row) && non_neg (at row k.inputs)) (all_within k.ranges row))
        → (k.inputs ≤ length row) × T (all_within k.ranges (take k.inputs row))
    go true l h = (omega arith, and_left (all_within k.ranges (take k.inputs row)) (non_neg (at row k.inputs)) h)
    go false l h = (omega arith, rw (take_all k.inputs row (omega arith)) h)

-- an accepted scan
pub reference_next : (p : Program) → WellFormed p → (s : State) → InRanges p s → (row : List ℤ) (u : State) → reference_scan p s row ≡ ok u → Next p s row u
unfolding reference_scan
reference_next p wf s g row u e =
    let a = checked (eqb (length row) (row_length (shape_of p))) 12 _ u e in
    let b = checked (row_in_range (shape_of p) row) 13 _ u a.1 in
    let r = row_inputs (shape_of p) row (eqb→eq (length row) (row_length (shape_of p)) a.0) b.0 in
    next p wf s g row r.0 r.1 u b.1

-- ---- the list of rows

module _ (p : Program) (s : State) (r : List ℤ) (rs : List (List ℤ)) where
  others_are : (t : State) (fs : List Reply) → Next p s r t → OnlyTrace p t rs fs
      → (others : List State) → Fits p (r ∷ accepted_rows rs fs) others → Satisfies p (s ∷ others) → Timed p (r ∷ accepted_rows rs fs) s others
      → others ≡ t ∷ accepted_states fs
  others_are t fs x c [] f h q = absurd f
  others_are t fs x c (w ∷ ws) f h q =
      let e : w ≡ t = x.only w f.0 f.1 (hold_rules s w p.rules (all_head s w ws (formulas_of p) h)) q.0 in
      let k : Satisfies p (t ∷ ws) = rw e at (all_tail s w ws (formulas_of p) h) in
      let j : Timed p (accepted_rows rs fs) t ws = rw e at q.1 in
      ap₂ ◌∷◌ e (c.unique ws f.2 k j)

  accepted_row : (t : State) (fs : List Reply) → Next p s r t → OnlyTrace p t rs fs → OnlyTrace p s (r ∷ rs) (reply s (ok t) ∷ fs)
  accepted_row t fs x c = record {
    satisfies = all_cons s t (accepted_states fs) (formulas_of p) (rules_hold s t p.rules x.holds) c.satisfies;
    fits = (x.kept.size, x.inputs, c.fits);
    timed = (x.times, c.timed);
    unique = others_are t fs x c;
    last = c.last;
  }

  refused_row : (k : ℕ) (fs : List Reply) → OnlyTrace p s rs fs → OnlyTrace p s (r ∷ rs) (reply s (refusal k) ∷ fs)
  refused_row k fs c = record { satisfies = c.satisfies; fits = c.fits; timed = c.timed; unique = c.unique; last = c.last }

-- The trace that the reference scan finds from s on, for every list of rows.
pub reference_trace : (p : Program) → WellFormed p → (rows : List (List ℤ)) (s : State) → InRanges p s → OnlyTrace p s rows (reference_replies p s rows)
reference_trace p wf [] s g = record {
  satisfies = all_start s (formulas_of p);
  fits = tt;
  timed = tt;
  unique = none_else;
  last = refl;
}
  where
    none_else : (others : List State) → Fits p [] others → Satisfies p (s ∷ others) → Timed p [] s others → others ≡ []
    none_else [] f h q = refl
    none_else (w ∷ ws) f h q = absurd f
reference_trace p wf (r ∷ rs) s g = go (reference_scan p s r) refl (λ t h. reference_trace p wf rs t h) (reference_trace p wf rs s g)
  where
    go : (o : Outcome State) → reference_scan p s r ≡ o → ((t : State) → InRanges p t → OnlyTrace p t rs (reference_replies p t rs)) → OnlyTrace p s rs (reference_replies p s rs)
        → OnlyTrace p s (r ∷ rs) (reply s o ∷ reference_replies p (reply s o).state rs)
    go (ok t) e ih c = let x = reference_next p wf s g r t e in accepted_row p s r rs t _ x (ih t x.kept)
    go (refusal k) e ih c = refused_row p s r rs k _ c

starts_within : (ns : List Range) → StartsWithin ns → T (all_within ns (map (λ n. n.start) ns))
starts_within [] h = tt
starts_within (n ∷ ns) h = and_T (within n n.start) (all_within ns (map (λ m. m.start) ns)) h.0 (starts_within ns h.1)

starts_append : (ns ms : List Range) → StartsWithin ns → StartsWithin ms → StartsWithin (ns ++ ms)
starts_append [] ms g h = h
starts_append (n ∷ ns) ms g h = (g.0, starts_append ns ms g.1 h)

times_start : (ts : List Timer) → StartsWithin (map (λ x. time_range x.limit) ts)
unfolding within
times_start [] = tt
times_start (x ∷ xs) = (le→leb 0 x.limit (omega arith), times_start xs)

-- the declared starts are in range
pub starts_in_range : (p : Program) → WellFormed p → InRanges p (starts_of p)
starts_in_range p wf =
    let c : StartsWithin (cells (shape_of p)) = rw (cells_last p wf.timed) (starts_append (ranges_of p) _ wf.starts (times_start p.timers)) in
    record { size = length-map (cells (shape_of p)) (λ n. n.start); ranges = starts_within (cells (shape_of p)) c }

-- the states of the trace stay in range
pub trace_in_range : (p : Program) → WellFormed p → (rows : List (List ℤ)) (s : State) → InRanges p s → AllInRanges p (trace_of s (reference_replies p s rows))
trace_in_range p wf [] s g = (g, tt)
trace_in_range p wf (r ∷ rs) s g = go (reference_scan p s r) refl (λ t h. trace_in_range p wf rs t h) (trace_in_range p wf rs s g)
  where
    go : (o : Outcome State) → reference_scan p s r ≡ o → ((t : State) → InRanges p t → AllInRanges p (trace_of t (reference_replies p t rs))) → AllInRanges p (trace_of s (reference_replies p s rs))
        → AllInRanges p (trace_of s (reply s o ∷ reference_replies p (reply s o).state rs))
    go (ok t) e ih c = (g, ih t (reference_next p wf s g r t e).kept)
    go (refusal k) e ih c = c
