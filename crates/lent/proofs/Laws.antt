-- A trace that is lent has its start, and its states are all that is lent. Assumes nothing.
use Prim.Native.Nat.{ℕ, zero, suc, ◌*◌, ◌/◌, ◌%◌, ◌<◌}
use native.Mathlib.Nat.{zero-mul, div-add-mod'}
use native.Mathlib.Omega.{arith}
use mathlib.Core.Path.{◌≡◌, refl, ap}
use mathlib.Core.Bool.{Bool, true, false, ◌&&◌, cond}
use mathlib.Core.List.{List, []}
use borrow.Author.Tests.{ltb-true, eqb-true, ne_eqb}
use lib.Dec.{eqb, ltb}
use lib.IntN.{ℤ}
use lib.ListN.{length}
use Rattle.arith.proofs.Basics.{and_both}
use Rattle.semantics.specs.Shape.{states_of, is_trace, places_in, traced_states}

-- all that is lent, and at least one state
pub record Whole (names places size : ℕ) : Type 0 where
  pub all : places * names ≡ size
  pub start : 0 < places

some_places : (names places size : ℕ) → places * names ≡ size → 0 < size → 0 < places
some_places names zero size e h = let b : ⊥ = omega (arith, zero-mul names) in absurd b
some_places names (suc m) size e h = omega arith

divides : (names size : ℕ) → size % names ≡ 0 → size / names * names ≡ size
divides names size e = omega (arith, div-add-mod' size names)

whole_by : (t : Bool) (names size : ℕ) → (t ≡ true → names ≡ 0) → cond t (eqb size 0) (ltb 0 size && eqb (size % names) 0) ≡ true → Whole names (cond t 1 (size / names)) size
whole_by true names size z e =
    let n : names ≡ 0 = z refl in
    let s : size ≡ 0 = eqb-true size 0 e in
    record { all = omega arith; start = omega arith }
whole_by false names size z e =
    let p = and_both (ltb 0 size) (eqb (size % names) 0) e in
    let d = divides names size (eqb-true (size % names) 0 p.1) in
    record { all = d; start = some_places names (size / names) size d (ltb-true 0 size p.0) }

pub trace_whole : (names : ℕ) (cells : List ℤ) → is_trace names cells ≡ true → Whole names (places_in names cells) (length cells)
unfolding is_trace places_in
trace_whole names cells e = whole_by (eqb names 0) names (length cells) (eqb-true names 0) e

pub places_named : (names : ℕ) (cells : List ℤ) → 0 < names → places_in names cells ≡ length cells / names
unfolding places_in
places_named names cells h = rw (ne_eqb names 0 (λ z. omega arith))

-- the start is always there
pub traced_start : (names : ℕ) (cells : List ℤ) → is_trace names cells ≡ true → traced_states names cells ≡ [] → ⊥
traced_start names cells e = go (places_in names cells) (trace_whole names cells e).start
  where
    go : (n : ℕ) → 0 < n → states_of n names cells ≡ [] → ⊥
    go zero h q = omega arith
    go (suc n) h q = let l : suc (length (states_of n names _)) ≡ 0 = ap length q in omega arith
