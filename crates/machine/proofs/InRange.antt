-- Values tested against their ranges one by one. Assumes nothing.
use mathlib.Core.Path.{◌≡◌, sym, ◌∙◌}
use mathlib.Core.Bool.{true, false, ◌&&◌}
use mathlib.Core.List.{List, []}
use Prim.Native.Nat.{ℕ, ◌+◌, ◌≤◌, ◌<◌}
use native.Mathlib.Omega.{arith}
use native.Mathlib.Numerals.{add-one}
use lib.IntN.{ℤ, pos}
use lib.ListN.{length, drop}
use lib.Seq.{drop-cons, drop-length}
use lib.Signed.{le_z}
use Rattle.semantics.specs.Program.{Range, no_range}
use Rattle.semantics.specs.Formula.{at}
use Rattle.semantics.specs.Shape.{all_within}
use Rattle.semantics.proofs.Counted.{within_nil}
use Rattle.machine.specs.Inner.Memory.{RangesIn}
use Rattle.machine.proofs.Changes.{names_length, range_at_lem}

-- the first i values lie in their ranges
pub record Testing (low high values : List ℤ) (i : ℕ) : Type 0 where
  pub among : i ≤ length values
  pub goes : (ns : List Range) → RangesIn ns low high → all_within ns values ≡ all_within (drop i ns) (drop i values)

module _ {low high values : List ℤ} {i : ℕ} (t : Testing low high values i) where
  pub testing_ends : length values ≤ i → (ns : List Range) → RangesIn ns low high → true ≡ all_within ns values
  testing_ends h ns r =
      let e : i ≡ length values = omega (arith, t.among) in
      let q : drop i values ≡ [] = rw e (drop-length values) in
      sym (t.goes ns r ∙ rw q (within_nil (drop i ns)))

  module _ (h : i < length values) (k : length values ≤ length low) where
    -- the value at hand decides
    decides : (ns : List Range) → RangesIn ns low high
        → all_within ns values ≡ ((le_z (at low i) (at values i) && le_z (at values i) (at high i)) && all_within (drop (i + 1) ns) (drop (i + 1) values))
    decides ns r =
        let q : i < length ns = rw (names_length ns low high r) (omega arith) in
        t.goes ns r ∙ rw (drop-cons ns i no_range q, drop-cons values i (pos 0) h, range_at_lem ns low high r i (at values i), add-one i)

    pub testing_fails : (le_z (at low i) (at values i) && le_z (at values i) (at high i)) ≡ false → (ns : List Range) → RangesIn ns low high → false ≡ all_within ns values
    testing_fails e ns r = sym (decides ns r ∙ rw e)

    pub testing_goes : (le_z (at low i) (at values i) && le_z (at values i) (at high i)) ≡ true → Testing low high values (i + 1)
    testing_goes e = record { among = omega arith; goes = λ ns r. decides ns r ∙ rw e }
