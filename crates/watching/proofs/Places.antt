-- The yes and no of each place, and the places where a watch fails: the same. Assumes nothing.
use Prim.Native.Nat.{ℕ, zero, suc}
use mathlib.Core.Path.{◌≡◌, refl}
use mathlib.Core.Bool.{Bool, true, false, true≢false}
use mathlib.Core.List.{List, [], ◌∷◌}
use mathlib.Core.Option.{Option, none, some}
use native.Mathlib.Omega.{arith}
use lib.ListN.{get_elem?}
use Rattle.arith.specs.Values.{Outcome, ok, refusal}
use Rattle.semantics.specs.Program.{Condition}
use Rattle.semantics.specs.Formula.{State, Trace, eval_c}
use Rattle.watching.specs.Watching.{TracePlace, places_from, places_of, is_yes, implied, over_places, over_pairs, first_no, failure}
use Rattle.watching.specs.Failing.{PreviousAt, Unheld, false_there, refused_there, Unkept, first_refused, second_refused, not_kept, FailsBy}

-- ---- one condition, and a pair of them

pub none_some : {X A : Type 0} {a : A} → ◌≡◌ {A = Option A} none (some a) → X
none_some e = let z : ◌≡◌ {A = ℕ} 0 1 = cc in let f : ⊥ = omega arith in absurd f

pub some_inj : {A : Type 0} {a b : A} → some a ≡ some b → a ≡ b
some_inj e = cc

no_unheld : (o : Outcome Bool) → is_yes o ≡ false → Unheld o
no_unheld (ok true) h = absurd (true≢false h)
no_unheld (ok false) h = false_there refl
no_unheld (refusal k) h = refused_there k refl

unheld_no : (o : Outcome Bool) → Unheld o → is_yes o ≡ false
unheld_no o (false_there e) = rw e
unheld_no o (refused_there k e) = rw e

no_broken : (o p : Outcome Bool) → is_yes (implied o p) ≡ false → Unkept o p
no_broken (refusal k) p h = first_refused k refl
no_broken (ok true) (ok true) h = absurd (true≢false h)
no_broken (ok true) (ok false) h = not_kept refl refl
no_broken (ok true) (refusal k) h = second_refused k refl
no_broken (ok false) (ok b) h = absurd (true≢false h)
no_broken (ok false) (refusal k) h = second_refused k refl

second_no : (o : Outcome Bool) (k : ℕ) → is_yes (implied o (refusal k)) ≡ false
second_no (ok a) k = refl
second_no (refusal j) k = refl

broken_no : (o p : Outcome Bool) → Unkept o p → is_yes (implied o p) ≡ false
broken_no o p (first_refused k e) = rw e
broken_no o p (second_refused k e) = rw e (second_no o k)
broken_no o p (not_kept e f) = rw (e, f)

-- ---- the places after a state

pub record AloneNo (c : Condition) (r : State) (ts : List State) (m : ℕ) : Type 0 where
  pub previous : State
  pub current : State
  pub is_previous : get_elem? (r ∷ ts) m ≡ some previous
  pub is_current : get_elem? ts m ≡ some current
  pub unheld : Unheld (eval_c previous current c)

pub record PairedNo (c d : Condition) (r s : State) (ts : List State) (m : ℕ) : Type 0 where
  pub previous : State
  pub current : State
  pub next : State
  pub is_previous : get_elem? (r ∷ s ∷ ts) m ≡ some previous
  pub is_current : get_elem? (s ∷ ts) m ≡ some current
  pub is_next : get_elem? ts m ≡ some next
  pub broken : Unkept (eval_c previous current c) (eval_c current next d)

abbrev at : State → State → TracePlace
at s t = record { before = s; here = t }

no_alone : (c : Condition) (r : State) (ts : List State) (m : ℕ) → get_elem? (over_places c (places_from r ts)) m ≡ some false → AloneNo c r ts m
no_alone c r [] m h = none_some h
no_alone c r (t ∷ ts) zero h = record { previous = r; current = t; is_previous = refl; is_current = refl; unheld = no_unheld (eval_c r t c) (some_inj h) }
no_alone c r (t ∷ ts) (suc m) h =
    let q = no_alone c t ts m h in
    record { previous = q.previous; current = q.current; is_previous = q.is_previous; is_current = q.is_current; unheld = q.unheld }

alone_no : (c : Condition) (r : State) (ts : List State) (m : ℕ) → AloneNo c r ts m → get_elem? (over_places c (places_from r ts)) m ≡ some false
alone_no c r [] m q = none_some q.is_current
alone_no c r (t ∷ ts) zero q =
    let e : r ≡ q.previous = some_inj q.is_previous in
    let f : t ≡ q.current = some_inj q.is_current in
    let g : is_yes (eval_c q.previous q.current c) ≡ false = unheld_no _ q.unheld in
    rw (e, f, g)
alone_no c r (t ∷ ts) (suc m) q =
    alone_no c t ts m (record { previous = q.previous; current = q.current; is_previous = q.is_previous; is_current = q.is_current; unheld = q.unheld })

no_over : (c d : Condition) (r s : State) (ts : List State) (m : ℕ) → get_elem? (over_pairs c d (at r s) (places_from s ts)) m ≡ some false → PairedNo c d r s ts m
no_over c d r s [] m h = none_some h
no_over c d r s (t ∷ ts) zero h =
    record { previous = r; current = s; next = t; is_previous = refl; is_current = refl; is_next = refl; broken = no_broken (eval_c r s c) (eval_c s t d) (some_inj h) }
no_over c d r s (t ∷ ts) (suc m) h =
    let q = no_over c d s t ts m h in
    record { previous = q.previous; current = q.current; next = q.next; is_previous = q.is_previous; is_current = q.is_current; is_next = q.is_next; broken = q.broken }

over_no : (c d : Condition) (r s : State) (ts : List State) (m : ℕ) → PairedNo c d r s ts m → get_elem? (over_pairs c d (at r s) (places_from s ts)) m ≡ some false
over_no c d r s [] m q = none_some q.is_next
over_no c d r s (t ∷ ts) zero q =
    let e : r ≡ q.previous = some_inj q.is_previous in
    let f : s ≡ q.current = some_inj q.is_current in
    let g : t ≡ q.next = some_inj q.is_next in
    let h : is_yes (implied (eval_c q.previous q.current c) (eval_c q.current q.next d)) ≡ false = broken_no _ _ q.broken in
    rw (e, f, g, h)
over_no c d r s (t ∷ ts) (suc m) q =
    over_no c d s t ts m (record { previous = q.previous; current = q.current; next = q.next; is_previous = q.is_previous; is_current = q.is_current; is_next = q.is_next; broken = q.broken })

-- ---- the places of a trace

-- of each place, whether the watch holds there; a pair holds at the start, where none ends
abbrev pub holds : Condition → Option Condition → Trace → List Bool
holds c later [] = []
holds c none (s ∷ ts) = over_places c (places_from s (s ∷ ts))
holds c (some d) (s ∷ ts) = true ∷ over_pairs c d (at s s) (places_from s ts)

pub failure_is : (c : Condition) (later : Option Condition) (trace : Trace) → failure c later (places_of trace) ≡ first_no 0 (holds c later trace)
failure_is c none [] = refl
failure_is c (some d) [] = refl
failure_is c none (s ∷ ts) = refl
failure_is c (some d) (s ∷ ts) = refl

-- the previous values at a place stand there in the states with the start put before them
previous_in : (s : State) (ts : List State) (m : ℕ) (q : State) → get_elem? (s ∷ s ∷ ts) m ≡ some q → PreviousAt (s ∷ ts) m q
previous_in s ts zero q e = e
previous_in s ts (suc m) q e = e

previous_out : (s : State) (ts : List State) (m : ℕ) (q : State) → PreviousAt (s ∷ ts) m q → get_elem? (s ∷ s ∷ ts) m ≡ some q
previous_out s ts zero q e = e
previous_out s ts (suc m) q e = e

pub no_fails : (c : Condition) (later : Option Condition) (trace : Trace) (m : ℕ) → get_elem? (holds c later trace) m ≡ some false → FailsBy c later trace m
no_fails c none [] m h = none_some h
no_fails c (some d) [] m h = none_some h
no_fails c none (s ∷ ts) m h =
    let q = no_alone c s (s ∷ ts) m h in
    record { previous = q.previous; current = q.current; is_previous = previous_in s ts m _ q.is_previous; is_current = q.is_current; unheld = q.unheld }
no_fails c (some d) (s ∷ ts) zero h = absurd (true≢false (some_inj h))
no_fails c (some d) (s ∷ ts) (suc m) h =
    let q = no_over c d s s ts m h in
    record { previous = q.previous; current = q.current; next = q.next; is_previous = previous_in s ts m _ q.is_previous; is_current = q.is_current; is_next = q.is_next; broken = q.broken }

pub fails_no : (c : Condition) (later : Option Condition) (trace : Trace) (m : ℕ) → FailsBy c later trace m → get_elem? (holds c later trace) m ≡ some false
fails_no c none [] m q = none_some q.is_current
fails_no c (some d) [] zero q = absurd q
fails_no c (some d) [] (suc m) q = none_some q.is_next
fails_no c none (s ∷ ts) m q =
    alone_no c s (s ∷ ts) m (record { previous = q.previous; current = q.current; is_previous = previous_out s ts m _ q.is_previous; is_current = q.is_current; unheld = q.unheld })
fails_no c (some d) (s ∷ ts) zero q = absurd q
fails_no c (some d) (s ∷ ts) (suc m) q =
    over_no c d s s ts m (record { previous = q.previous; current = q.current; next = q.next; is_previous = previous_out s ts m _ q.is_previous; is_current = q.is_current; is_next = q.is_next; broken = q.broken })
