-- The product of the sizes, one by one. Assumes nothing.
use mathlib.Core.Path.{◌≡◌, sym, ap, ◌∙◌}
use mathlib.Core.List.{List}
use Prim.Native.Nat.{ℕ, ◌+◌, ◌*◌, ◌≤◌, ◌<◌, min}
use native.Mathlib.Nat.{mul-le-mul, mul_assoc}
use native.Mathlib.Omega.{arith}
use native.Mathlib.Numerals.{add-one}
use lib.IntN.{ℤ, pos}
use lib.ListN.{length, drop, get_or, get_or-map}
use lib.Seq.{drop-cons}
use Rattle.semantics.specs.Program.{Range, no_range}
use Rattle.machine.specs.Inner.Memory.{RangesIn}
use Rattle.machine.proofs.Changes.{names_length}
use Rattle.closed.specs.Closed.{size_between, product_of_sizes}
use Rattle.closed.proofs.Combining.{product_one}

module _ (ns : List Range) (low high : List ℤ) (r : RangesIn ns low high) where
  size_at : (i : ℕ) → i < length low → product_of_sizes (drop i ns) ≡ size_between (get_or low i (pos 0)) (get_or high i (pos 0)) * product_of_sizes (drop (i + 1) ns)
  size_at i h =
      let l : (get_or ns i no_range).low ≡ get_or low i (pos 0) = sym (get_or-map (λ n. n.low) ns i no_range) ∙ ap (λ (l : List ℤ). get_or l i (pos 0)) r.lows in
      let m : (get_or ns i no_range).high ≡ get_or high i (pos 0) = sym (get_or-map (λ n. n.high) ns i no_range) ∙ ap (λ (l : List ℤ). get_or l i (pos 0)) r.highs in
      rw (drop-cons ns i no_range (rw (names_length ns low high r) h), l, m, add-one i)

  module _ (p i : ℕ) (e : product_of_sizes ns ≡ p * product_of_sizes (drop i ns)) where
    pub product_goes : i < length low → (q : ℕ) → q ≡ size_between (get_or low i (pos 0)) (get_or high i (pos 0)) → product_of_sizes ns ≡ p * q * product_of_sizes (drop (i + 1) ns)
    product_goes h q f = e ∙ rw (size_at i h, ← f) (sym (mul_assoc p q (product_of_sizes (drop (i + 1) ns))))

pub capped_over : (ns ms : List Range) (p : ℕ) → product_of_sizes ns ≡ p * product_of_sizes ms → 65536 < p → 65537 ≡ min (product_of_sizes ns) 65537
capped_over ns ms p e h =
    let k : p * 1 ≤ p * product_of_sizes ms = mul-le-mul (le p) (product_one ms) in
    omega arith
  where
    le : (n : ℕ) → n ≤ n
    le n = omega arith

pub size_least : (low high : ℤ) (q : ℕ) → q ≡ size_between low high → 1 ≤ q
unfolding size_between
size_least low high q e = omega arith

pub product-least : (p q : ℕ) → 1 ≤ p → 1 ≤ q → 1 ≤ p * q
product-least p q h k = let m : 1 * 1 ≤ p * q = mul-le-mul h k in omega arith
