-- The loop that places the elapsed times: what is left to place makes the whole. Assumes nothing.
use Prim.Native.Nat.{ℕ, zero, suc, ◌+◌, ◌/◌, ◌^◌, ◌≤◌, ◌<◌}
use mathlib.Core.Path.{◌≡◌, refl, sym, ap, ◌∙◌}
use mathlib.Core.Bool.{true, false}
use mathlib.Core.List.{List, [], ◌∷◌, map, append-nil}
use native.Mathlib.Omega.{arith}
use native.Mathlib.Numerals.{add-one}
use native.Mathlib.Nat.{div-eq_of_lt}
use lib.Bits.{bit_or}
use lib.IntN.{ℤ, pos}
use lib.ListN.{length, get_or, set, drop, length-map, length-set}
use lib.Pow.{pow_mono}
use lib.Seq.{sets, drop-cons, drop-length, set-get_or}
use Rattle.arith.specs.Inner.Flags.{flags_of}
use Rattle.arith.proofs.Flags.{length_flags, flag_at, flag_set, set_low}
use Rattle.leb128.proofs.Stores.{sets_front}
use Rattle.semantics.specs.Shape.{is_limit, time_ranges}
use Rattle.bytecode.specs.Parts.{lows, highs}
use Rattle.shapes.specs.declared.Times.{Times}
use Rattle.shapes.specs.Inner.Times.{PlacedOne, TimesStand}

pub record Placing (ls : List ℕ) (low₀ high₀ : List ℤ) (i : ℕ) (low high : List ℤ) (size timers : ℕ) : Type 0 where
  pub counted : size + length (time_ranges (drop i ls)) ≡ length ls + length (time_ranges ls)
  pub lower : sets low size (lows (time_ranges (drop i ls))) ≡ sets low₀ (length ls) (lows (time_ranges ls))
  pub upper : sets high size (highs (time_ranges (drop i ls))) ≡ sets high₀ (length ls) (highs (time_ranges ls))
  pub bits_low : timers < 2 ^ i
  pub flags : sets (flags_of (length ls) timers) i (map is_limit (drop i ls)) ≡ map is_limit ls
  pub long_low : length low ≡ length low₀
  pub long_high : length high ≡ length high₀
  pub few : i ≤ length ls

times_few : (ls : List ℕ) → length (time_ranges ls) ≤ length ls
times_few [] = omega arith
times_few (zero ∷ ls) = let h = times_few ls in omega arith
times_few (suc n ∷ ls) = let h = times_few ls in omega arith

pub placing_begins : (ls : List ℕ) (low₀ high₀ : List ℤ) → Placing ls low₀ high₀ 0 low₀ high₀ (length ls) 0
placing_begins ls low₀ high₀ =
    let n : length (flags_of (length ls) 0) ≡ length (map is_limit ls) = length_flags (length ls) 0 ∙ sym (length-map ls is_limit) in
    record {
      counted = refl;
      lower = refl;
      upper = refl;
      bits_low = omega arith;
      flags = sets_front (flags_of (length ls) 0) (map is_limit ls) (omega arith) ∙ rw (← n, drop-length) (append-nil (map is_limit ls));
      long_low = refl;
      long_high = refl;
      few = omega arith;
    }

module _ {ls : List ℕ} {low₀ high₀ : List ℤ} {i : ℕ} {low high : List ℤ} {size timers : ℕ} (x : Placing ls low₀ high₀ i low high size timers) where
  module _ (l : i < length ls) where
    -- what stands at i, and what is left behind it
    left : (n : ℕ) → get_or ls i 0 ≡ n → drop i ls ≡ n ∷ drop (i + 1) ls
    left n e = drop-cons ls i 0 l ∙ rw (e, add-one i)

    unmarked : get_or (flags_of (length ls) timers) i false ≡ false
    unmarked =
        let q : timers / 2 ^ i ≡ 0 = div-eq_of_lt x.bits_low in
        flag_at (length ls) timers i l ∙ rw q

    -- a name that is no timer
    pub placing_passes : get_or ls i 0 ≡ 0 → Placing ls low₀ high₀ (i + 1) low high size timers
    placing_passes e =
        let d = left 0 e in
        let same : set (flags_of (length ls) timers) i false ≡ flags_of (length ls) timers = ap (set (flags_of (length ls) timers) i) (sym unmarked) ∙ set-get_or (flags_of (length ls) timers) i false in
        let f : sets (set (flags_of (length ls) timers) i false) (suc i) (map is_limit (drop (i + 1) ls)) ≡ map is_limit ls = rw d at x.flags in
        record {
          counted = rw d at x.counted;
          lower = rw d at x.lower;
          upper = rw d at x.upper;
          bits_low = omega (arith, x.bits_low, pow_mono {i = i} {j = i + 1} (omega arith));
          flags = rw (add-one i) (rw (same, add-one i) at f);
          long_low = x.long_low;
          long_high = x.long_high;
          few = omega arith;
        }

    -- a timer
    pub placing_stores : (n : ℕ) → get_or ls i 0 ≡ n → (n ≡ 0 → ⊥) → (low₁ high₁ : List ℤ) → low₁ ≡ set low size (pos 0) → high₁ ≡ set high size (pos n)
        → Placing ls low₀ high₀ (i + 1) low₁ high₁ (size + 1) (bit_or timers (2 ^ i))
    placing_stores zero e some low₁ high₁ a b = absurd (some refl)
    placing_stores (suc n) e some low₁ high₁ a b =
        let d = left (suc n) e in
        let f : sets (set (flags_of (length ls) timers) i true) (suc i) (map is_limit (drop (i + 1) ls)) ≡ map is_limit ls = rw d at x.flags in
        record {
          counted = let c : size + suc (length (time_ranges (drop (i + 1) ls))) ≡ length ls + length (time_ranges ls) = rw d at x.counted in omega arith;
          lower = rw (a, add-one size) (rw d at x.lower);
          upper = rw (b, add-one size) (rw d at x.upper);
          bits_low = set_low (i + 1) timers i (omega arith) (omega (arith, x.bits_low, pow_mono {i = i} {j = i + 1} (omega arith)));
          flags = rw (flag_set (length ls) timers i, add-one i) (rw (add-one i) at f);
          long_low = rw (a, length-set) x.long_low;
          long_high = rw (b, length-set) x.long_high;
          few = omega arith;
        }

  pub placing_small : length ls ≤ 64 → size ≤ 128
  placing_small h = omega (arith, x.counted, times_few ls)

  pub placing_ends : length ls ≤ i → TimesStand ls low₀ high₀ low high (record { size = size; timers = timers })
  placing_ends h =
      let e : i ≡ length ls = omega (arith, x.few) in
      let d : drop i ls ≡ [] = rw e (drop-length ls) in
      record {
        size_is = let c : size + 0 ≡ length ls + length (time_ranges ls) = rw d at x.counted in omega arith;
        timers_are = rw d at x.flags;
        timers_low = rw e at x.bits_low;
        lower = rw d at x.lower;
        upper = rw d at x.upper;
      }

-- one name more
pub placing_goes : {ls : List ℕ} {low₀ high₀ : List ℤ} {i : ℕ} {low high : List ℤ} {t : Times} → Placing ls low₀ high₀ i low high t.size t.timers → i < length ls
    → (r : Times) (low₁ high₁ : List ℤ) → PlacedOne (get_or ls i 0) i t low high low₁ high₁ r → Placing ls low₀ high₀ (i + 1) low₁ high₁ r.size r.timers
placing_goes {ls} {low₀} {high₀} {i} {low} {high} {t} x l r low₁ high₁ p = go (get_or ls i 0) refl p
  where
    go : (n : ℕ) → get_or ls i 0 ≡ n → PlacedOne n i t low high low₁ high₁ r → Placing ls low₀ high₀ (i + 1) low₁ high₁ r.size r.timers
    go zero h q = let z = q.passed refl in rw (z.0, z.1, z.2) (placing_passes x l h)
    go (suc n) h q =
        let some : suc n ≡ 0 → ⊥ = λ o. omega arith in
        let z = q.placed some in
        rw z.0 (placing_stores x l (suc n) h some low₁ high₁ z.1 z.2)
