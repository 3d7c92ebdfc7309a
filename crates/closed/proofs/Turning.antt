-- The odometer, from the right: what the loop of `next` keeps. Assumes nothing.
use mathlib.Core.Path.{◌≡◌, refl, sym, ap, ◌∙◌}
use mathlib.Core.Bool.{true, false}
use mathlib.Core.List.{List, [], ◌∷◌, ◌++◌, append_assoc}
use Prim.Native.Nat.{ℕ, zero, suc, ◌<◌}
use native.Mathlib.Omega.{arith}
use lib.IntN.{ℤ, pos, ◌+ℤ◌}
use lib.ListN.{length, take, drop, set, get_or, get_or-map}
use lib.Seq.{drop-cons, take-suc, set_at, get_or_at, length-take-le}
use lib.Signed.{lt_z}
use Rattle.semantics.specs.Program.{Range, no_range}
use Rattle.machine.specs.Inner.Memory.{RangesIn}
use Rattle.machine.proofs.Changes.{names_length}
use Rattle.closed.specs.Inner.Parts.{Turned, turned_to, turn, turned, next_of}

-- the first k values are as found, and the others turned over
pub record Turning (ns : List Range) (found values : List ℤ) (k : ℕ) : Type 0 where
  pub back : List ℤ
  pub over : turned (drop k ns) (drop k found) ≡ turned_to true back
  pub so : values ≡ take k found ++ back

turned_none : (ns : List Range) → turned ns [] ≡ turned_to true []
turned_none [] = refl
turned_none (n ∷ ns) = refl

-- values before one that moves stay
stays : (ns : List Range) (found back : List ℤ) (k : ℕ) → k < length ns → k < length found → turned (drop k ns) (drop k found) ≡ turned_to false back
    → turned ns found ≡ turned_to false (take k found ++ back)
stays [] found back k h j e = let b : ⊥ = omega arith in absurd b
stays (n ∷ ns) [] back k h j e = let b : ⊥ = omega arith in absurd b
stays (n ∷ ns) (z ∷ found) back zero h j e = e
stays (n ∷ ns) (z ∷ found) back (suc k) h j e = rw (stays ns found back k (omega arith) (omega arith) e)

module _ (ns : List Range) (low high found values : List ℤ) (k : ℕ) (r : RangesIn ns low high) (t : Turning ns found values (suc k)) (h : k < length low) (j : k < length found) where
  low_at : (get_or ns k no_range).low ≡ get_or low k (pos 0)
  low_at = sym (get_or-map (λ n. n.low) ns k no_range) ∙ ap (λ (l : List ℤ). get_or l k (pos 0)) r.lows

  high_at : (get_or ns k no_range).high ≡ get_or high k (pos 0)
  high_at = sym (get_or-map (λ n. n.high) ns k no_range) ∙ ap (λ (l : List ℤ). get_or l k (pos 0)) r.highs

  named : k < length ns
  named = rw (names_length ns low high r) h

  front : length (take k found) ≡ k
  front = length-take-le k found (omega arith)

  values_are : values ≡ take k found ++ (get_or found k (pos 0) ∷ t.back)
  values_are = t.so ∙ rw (take-suc found k (pos 0) j, append_assoc)

  -- the value at hand is as found
  pub value_at : get_or values k (pos 0) ≡ get_or found k (pos 0)
  value_at = rw (values_are, get_or_at (take k found) (get_or found k (pos 0)) t.back (pos 0) k front)

  turn_at : turned (drop k ns) (drop k found) ≡ turn (get_or ns k no_range) (get_or found k (pos 0)) (turned_to true t.back)
  turn_at = rw (drop-cons ns k no_range named, drop-cons found k (pos 0) j, t.over)

  stored : (z : ℤ) → set values k z ≡ take k found ++ (z ∷ t.back)
  stored z = rw (values_are, set_at (take k found) (get_or found k (pos 0)) t.back z k front)

  pub turning_stops : (z : ℤ) → lt_z (get_or values k (pos 0)) (get_or high k (pos 0)) ≡ true → z ≡ get_or values k (pos 0) +ℤ pos 1 → set values k z ≡ next_of ns found
  turning_stops z e q =
      let b : turned (drop k ns) (drop k found) ≡ turned_to false ((get_or found k (pos 0) +ℤ pos 1) ∷ t.back) = turn_at ∙ rw (high_at, ← value_at, e) in
      stored z ∙ rw (q, value_at) (sym (ap (λ (x : Turned). x.values) (stays ns found ((get_or found k (pos 0) +ℤ pos 1) ∷ t.back) k named j b)))

  pub turning_goes : (z : ℤ) → lt_z (get_or values k (pos 0)) (get_or high k (pos 0)) ≡ false → z ≡ get_or low k (pos 0) → Turning ns found (set values k z) k
  turning_goes z e q = record {
    back = z ∷ t.back;
    over = turn_at ∙ rw (high_at, ← value_at, e, low_at, q);
    so = stored z;
  }
