-- Watch formulas, and the place of a trace where one first fails, as it is worked out. Document 02, A.13. Assumes nothing.
use Rattle.std.specs.Prelude.{ℕ, ◌+◌, Bool, false, not, ◌||◌, cond, List, [], ◌∷◌}
use Rattle.std.proofs.Math.Option.{Option, none, some}
use Rattle.arith.specs.Values.{Outcome, ok, refusal, ◌>>=◌}
use Rattle.semantics.specs.Program.{Condition, Watch}
use Rattle.semantics.specs.Formula.{State, Trace, eval_c}

-- a place of a trace: the previous values there, and the current ones
pub record TracePlace : Type 0 where
  pub before : State
  pub here : State

-- the places after a state
abbrev pub places_from : State → List State → List TracePlace
places_from s [] = []
places_from s (t ∷ ts) = record { before = s; here = t } ∷ places_from t ts

-- At the start every previous value equals the current one.
abbrev pub places_of : Trace → List TracePlace
places_of [] = []
places_of (s ∷ ts) = record { before = s; here = s } ∷ places_from s ts

-- what a condition is at a place
abbrev pub worth : Condition → TracePlace → Outcome Bool
worth c x = eval_c x.before x.here c

-- a watch fails where a condition meets 14
abbrev pub is_yes : Outcome Bool → Bool
is_yes (ok b) = b
is_yes (refusal k) = false

-- A pair's two conditions are both worked out.
abbrev pub implied : Outcome Bool → Outcome Bool → Outcome Bool
implied o p = o >>= λ a. p >>= λ b. ok (not a || b)

-- of each place, whether `[c]` holds there
abbrev pub over_places : Condition → List TracePlace → List Bool
over_places c [] = []
over_places c (x ∷ xs) = is_yes (worth c x) ∷ over_places c xs

-- of each neighbouring pair of places, x the first, whether `[c] -> X([d])` holds over it
abbrev pub over_pairs : Condition → Condition → TracePlace → List TracePlace → List Bool
over_pairs c d x [] = []
over_pairs c d x (y ∷ ys) = is_yes (implied (worth c x) (worth d y)) ∷ over_pairs c d y ys

-- the number of the first no, the first being number n
abbrev pub first_no : ℕ → List Bool → Option ℕ
first_no n [] = none
first_no n (b ∷ bs) = let r = first_no (n + 1) bs in cond b r (some n)

-- The place, 0 the start, where a watch first failed, or none; for a pair the later one.
abbrev pub failure : Condition → Option Condition → List TracePlace → Option ℕ
failure c later [] = none
failure c none (x ∷ xs) = first_no 0 (over_places c (x ∷ xs))
failure c (some d) (x ∷ xs) = first_no 1 (over_pairs c d x xs)

unfoldable pub first_failure : Watch → List TracePlace → Option ℕ
first_failure w xs = failure w.first w.later xs
