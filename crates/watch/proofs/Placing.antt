-- A place where a watch fails is a place of the trace, and so a number that a report has room for. Assumes nothing.
use Rattle.std.specs.Prelude as O
use Rattle.std.specs.Prelude.{Some, None}
use mathlib.Core.Path.{◌≡◌, refl, ap, sym}
use mathlib.Core.Bool.{true}
use mathlib.Core.List.{List, [], ◌∷◌}
use mathlib.Core.Option.{Option, none, some}
use Prim.Native.Nat.{ℕ, zero, suc, ◌+◌, ◌*◌, ◌^◌, ◌≤◌, ◌<◌}
use native.Mathlib.Nat.{suc-mul}
use native.Mathlib.Omega.{arith}
use borrow.Author.Tests.{eq-eqb}
use lib.IntN.{ℤ}
use lib.ListN.{length, get_elem?, drop}
use Rattle.bytecode.proofs.Soundness.{none≢some}
use Rattle.semantics.specs.Program.{Condition, Watch}
use Rattle.semantics.specs.Formula.{Trace}
use Rattle.semantics.specs.Shape.{states_of, places_in, is_trace}
use Rattle.watching.specs.Watching.{places_of, first_failure}
use Rattle.watching.specs.Failing.{FailsBy}
use Rattle.watching.proofs.Laws.{reported_first}
use Rattle.lent.proofs.Laws.{trace_whole}
use Rattle.evaluation.specs.Walks.{failed_at}
use Rattle.watch.specs.Inner.Reports.{FailedWithin}

place_of : {A : Type 0} (l : List A) (n : ℕ) (a : A) → get_elem? l n ≡ some a → n < length l
place_of [] n a e = none≢some a e
place_of (x ∷ l) zero a e = omega arith
place_of (x ∷ l) (suc n) a e = omega (arith, place_of l n a e)

fails_in : (c : Condition) (o : Option Condition) (trace : Trace) (n : ℕ) → FailsBy c o trace n → n < length trace
fails_in c none trace n f = place_of trace n f.current f.is_current
fails_in c (some d) trace zero f = absurd f
fails_in c (some d) trace (suc n) f = place_of trace (suc n) f.next f.is_next

states_counted : (places size : ℕ) (cells : List ℤ) → length (states_of places size cells) ≡ places
states_counted zero size cells = refl
states_counted (suc n) size cells = ap suc (states_counted n size (drop size cells))

le_mul : (p n : ℕ) → p ≤ p * suc n
le_mul zero n = omega arith
le_mul (suc p) n = omega (arith, le_mul p n, suc-mul p (suc n))

-- as many places as numbers are lent, or one
places_few : (size places lent : ℕ) → places * size ≡ lent → (size ≡ 0 → places ≤ 1) → places ≤ lent + 1
places_few zero places lent e h = omega (arith, h refl)
places_few (suc size) places lent e h = omega (arith, e, le_mul places size)

one_place : (size : ℕ) (cells : List ℤ) → size ≡ 0 → places_in size cells ≤ 1
unfolding places_in
one_place size cells z = rw (eq-eqb size 0 z) (omega arith)

pub places_small : (size : ℕ) (cells : List ℤ) → is_trace size cells ≡ true → places_in size cells ≤ length cells + 1
places_small size cells e = places_few size (places_in size cells) (length cells) (trace_whole size cells e).all (one_place size cells)

pub failed_within : (w : Watch) (places size : ℕ) (cells : List ℤ) (r : O.Option ℕ) → places < 2 ^ 63 → failed_at r ≡ first_failure w (places_of (states_of places size cells)) → FailedWithin r
failed_within w places size cells (Some n) h e =
    let f = (reported_first w (states_of places size cells) n (sym e)).fails in
    omega (arith, h, fails_in w.first w.later (states_of places size cells) n f, states_counted places size cells)
failed_within w places size cells None h e = tt
