-- Where a watch fails, in the document's words, on the trace's own states. Document 02, A.13. Assumes nothing.
use Rattle.std.specs.Prelude.{ℕ, zero, suc, ◌≡◌, Bool, true, false}
use Rattle.std.proofs.Math.Option.{Option, none, some}
use Rattle.std.proofs.Math.ListN.{get_elem?}
use Rattle.arith.specs.Values.{Outcome, ok, refusal}
use Rattle.semantics.specs.Program.{Condition, Watch}
use Rattle.semantics.specs.Formula.{State, Trace, eval_c}

-- t is the state at place m, 0 the start
abbrev pub IsState : Trace → ℕ → State → Type 0
IsState trace m t = get_elem? trace m ≡ some t

-- s are the previous values at place m: those of the place before; at the start every previous value equals the current one
abbrev pub PreviousAt : Trace → ℕ → State → Type 0
PreviousAt trace zero s = IsState trace zero s
PreviousAt trace (suc m) s = IsState trace m s

-- a condition that does not hold: it is false, or it meets 14
pub data Unheld (a : Outcome Bool) : Type 0 where
  false_there : a ≡ ok false → Unheld a
  refused_there : (k : ℕ) → a ≡ refusal k → Unheld a

-- a pair that does not hold: one of its conditions meets 14, or the first is true and the second false
pub data Unkept (a b : Outcome Bool) : Type 0 where
  first_refused : (k : ℕ) → a ≡ refusal k → Unkept a b
  second_refused : (k : ℕ) → b ≡ refusal k → Unkept a b
  not_kept : a ≡ ok true → b ≡ ok false → Unkept a b

-- `G([c])` must hold at the start and after each accepted scan.
pub record FailsAlone (c : Condition) (trace : Trace) (m : ℕ) : Type 0 where
  pub previous : State
  pub current : State
  pub is_previous : PreviousAt trace m previous
  pub is_current : IsState trace m current
  pub unheld : Unheld (eval_c previous current c)

-- `G([c] -> X([d]))` must hold over each neighbouring pair: the places m and m + 1.
pub record FailsOver (c d : Condition) (trace : Trace) (m : ℕ) : Type 0 where
  pub previous : State
  pub current : State
  pub next : State
  pub is_previous : PreviousAt trace m previous
  pub is_current : IsState trace m current
  pub is_next : IsState trace (suc m) next
  pub broken : Unkept (eval_c previous current c) (eval_c current next d)

-- for a pair the later one: no pair ends at the start
abbrev pub FailsPaired : Condition → Condition → Trace → ℕ → Type 0
FailsPaired c d trace zero = ⊥
FailsPaired c d trace (suc m) = FailsOver c d trace m

abbrev pub FailsBy : Condition → Option Condition → Trace → ℕ → Type 0
FailsBy c none trace m = FailsAlone c trace m
FailsBy c (some d) trace m = FailsPaired c d trace m

-- the watch fails at place m
abbrev pub FailsAt : Watch → Trace → ℕ → Type 0
FailsAt w trace m = FailsBy w.first w.later trace m
