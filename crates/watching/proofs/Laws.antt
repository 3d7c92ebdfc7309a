-- What is reported of a watch is the first place where it fails, or that it fails nowhere; and the other way round. Assumes nothing.
use Prim.Native.Nat.{ℕ, zero, suc, ◌+◌, ◌<◌}
use native.Mathlib.Omega.{arith}
use mathlib.Core.Path.{◌≡◌, refl, sym, ap, subst, ◌∙◌}
use mathlib.Core.Bool.{Bool, true, false, true≢false}
use mathlib.Core.List.{List, [], ◌∷◌}
use mathlib.Core.Option.{Option, none, some}
use lib.ListN.{get_elem?}
use Rattle.semantics.specs.Formula.{Trace}
use Rattle.semantics.specs.Program.{Watch}
use Rattle.watching.specs.Watching.{places_of, first_no, first_failure}
use Rattle.watching.specs.Failing.{FailsAt}
use Rattle.watching.proofs.Places.{none_some, some_inj, holds, failure_is, no_fails, fails_no}

-- ---- the first no of a list

pub record FirstNo (bs : List Bool) (i : ℕ) : Type 0 where
  pub here : get_elem? bs i ≡ some false
  pub not_before : (j : ℕ) → j < i → get_elem? bs j ≡ some false → ⊥

first_no_lem : (n : ℕ) (bs : List Bool) (k : ℕ) → first_no n bs ≡ some k → (i : ℕ) × (k ≡ n + i) × FirstNo bs i
first_no_lem n [] k h = none_some h
first_no_lem n (false ∷ bs) k h = let e : n ≡ k = some_inj h in (0, omega arith, record { here = refl; not_before = λ j l x. omega arith })
first_no_lem n (true ∷ bs) k h =
    let q = first_no_lem (n + 1) bs k h in
    (suc q.0, omega (arith, q.1), record { here = q.2.here; not_before = before q.2.not_before })
  where
    before : {i : ℕ} → ((j : ℕ) → j < i → get_elem? bs j ≡ some false → ⊥) → (j : ℕ) → j < suc i → get_elem? (true ∷ bs) j ≡ some false → ⊥
    before f zero l x = absurd (true≢false (some_inj x))
    before f (suc j) l x = f j (omega arith) x

none_no : (n : ℕ) (bs : List Bool) → first_no n bs ≡ none → (j : ℕ) → get_elem? bs j ≡ some false → ⊥
none_no n [] h j x = none_some x
none_no n (false ∷ bs) h j x = none_some (sym h)
none_no n (true ∷ bs) h zero x = absurd (true≢false (some_inj x))
none_no n (true ∷ bs) h (suc j) x = none_no (n + 1) bs h j x

-- ---- what is reported

-- the first place where a watch fails
pub record FirstFailure (w : Watch) (trace : Trace) (n : ℕ) : Type 0 where
  pub fails : FailsAt w trace n
  pub not_before : (m : ℕ) → m < n → FailsAt w trace m → ⊥

failure_of : (w : Watch) (trace : Trace) → first_failure w (places_of trace) ≡ first_no 0 (holds w.first w.later trace)
unfolding first_failure
failure_of w trace = failure_is w.first w.later trace

pub reported_first : (w : Watch) (trace : Trace) (n : ℕ) → first_failure w (places_of trace) ≡ some n → FirstFailure w trace n
reported_first w trace n h =
    let q = first_no_lem 0 (holds w.first w.later trace) n (sym (failure_of w trace) ∙ h) in
    let e : q.0 ≡ n = omega (arith, q.1) in
    subst (FirstFailure w trace) e (record {
      fails = no_fails w.first w.later trace q.0 q.2.here;
      not_before = λ m l x. q.2.not_before m l (fails_no w.first w.later trace m x);
    })

pub reported_none : (w : Watch) (trace : Trace) → first_failure w (places_of trace) ≡ none → (m : ℕ) → FailsAt w trace m → ⊥
reported_none w trace h m x = none_no 0 (holds w.first w.later trace) (sym (failure_of w trace) ∙ h) m (fails_no w.first w.later trace m x)

-- ---- the other way round

same_first : (w : Watch) (trace : Trace) (n k : ℕ) → FirstFailure w trace n → FirstFailure w trace k → n ≡ k
same_first w trace n k a b =
    let x : n < k → ⊥ = λ l. b.not_before n l a.fails in
    let y : k < n → ⊥ = λ l. a.not_before k l b.fails in
    omega (arith, x, y)

pub first_reported : (w : Watch) (trace : Trace) (n : ℕ) → FirstFailure w trace n → first_failure w (places_of trace) ≡ some n
first_reported w trace n f = go (first_failure w (places_of trace)) refl
  where
    go : (o : Option ℕ) → first_failure w (places_of trace) ≡ o → first_failure w (places_of trace) ≡ some n
    go none e = absurd (reported_none w trace e n f.fails)
    go (some k) e = e ∙ ap some (same_first w trace k n (reported_first w trace k e) f)

pub none_reported : (w : Watch) (trace : Trace) → ((m : ℕ) → FailsAt w trace m → ⊥) → first_failure w (places_of trace) ≡ none
none_reported w trace f = go (first_failure w (places_of trace)) refl
  where
    go : (o : Option ℕ) → first_failure w (places_of trace) ≡ o → first_failure w (places_of trace) ≡ none
    go none e = e
    go (some k) e = absurd (f k (reported_first w trace k e).fails)
