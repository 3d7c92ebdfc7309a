-- The measures of a sound image, with timers and without. Assumes nothing.
use Prim.Native.Nat.{ℕ, zero, suc, ◌+◌, ◌≤◌}
use mathlib.Core.Path.{◌≡◌, refl, sym, ap, subst, ◌∙◌}
use mathlib.Core.Bool.{false}
use mathlib.Core.List.{List, [], ◌∷◌, ◌++◌, map, map-append}
use native.Mathlib.Omega.{arith}
use lib.Dec.{ltb}
use lib.IntN.{ℤ}
use lib.ListN.{length, get_or, take, drop, replicate, length-map, length-append, length-replicate}
use lib.Pow.{pow_pos}
use lib.Seq.{sets}
use borrow.Author.Tests.{lt-ltb, le-ltb}
use Rattle.limits.specs.Limits.{time_limit}
use Rattle.limits.specs.Answer.{accepted}
use Rattle.arith.specs.Inner.Flags.{flags_of}
use Rattle.leb128.proofs.Stores.{sets_append}
use Rattle.semantics.specs.Program.{Range}
use Rattle.semantics.specs.Shape.{has_timer, time_ranges, cells, state_length}
use Rattle.semantics.proofs.Timers.{times_append}
use Rattle.bytecode.specs.Check.{Header, check_header, check_of}
use Rattle.bytecode.specs.Parts.{header_of, lows, highs, code_of, limits_from, limits_of, shape_in}
use Rattle.bytecode.specs.Results.{HeaderStands}
use Rattle.bytecode.proofs.SoundHeader.{header_found, header_counts, header_place, lows_stored, highs_stored}
use Rattle.bytecode.proofs.Limits.{limits_length, cells_untimed, state_length_untimed, timers_untimed}
use Rattle.bytecode.proofs.ImageLimits.{limits_most, state_most}
use Rattle.shapes.specs.declared.Times.{Times}
use Rattle.shapes.specs.Inner.Times.{TimesStand}
use Rattle.shapes.specs.Results.{Measures}

-- ---- any timer

timed_is : (ls : List ℕ) (n : ℕ) → has_timer ls ≡ ltb n (n + length (time_ranges ls))
timed_is [] n = sym (le-ltb n (n + 0) (omega arith))
timed_is (zero ∷ ls) n = timed_is ls n
timed_is (suc m ∷ ls) n = sym (lt-ltb n (n + suc (length (time_ranges ls))) (omega arith))

-- the front of an empty table
zeros_front : (n m : ℕ) → n ≤ m → take {A = ℕ} n (replicate m 0) ≡ replicate n 0
zeros_front zero m h = refl
zeros_front (suc n) zero h = let f : ⊥ = omega arith in absurd f
zeros_front (suc n) (suc m) h = ap (λ (l : List ℕ). 0 ∷ l) (zeros_front n m (omega arith))

pub table_long : (n : ℕ) (table : List ℕ) → table ≡ replicate n 0 → length table ≡ n
table_long n table e = ap length e ∙ length-replicate n 0

pub table_zeros : (n : ℕ) (table : List ℕ) → n ≤ 64 → table ≡ replicate 64 0 → take n table ≡ replicate n 0
table_zeros n table h e = ap (take n) e ∙ zeros_front n 64 h

-- by the same limits
pub same_times : {ls ms : List ℕ} {low₀ high₀ low high : List ℤ} {t : Times} → ls ≡ ms → TimesStand ls low₀ high₀ low high t → TimesStand ms low₀ high₀ low high t
same_times {ls} {ms} {low₀} {high₀} {low} {high} {t} e x = subst (λ (l : List ℕ). TimesStand l low₀ high₀ low high t) e x

-- ---- a header that was read

module _ (image : List ℕ) {low₀ high₀ start₀ low high start : List ℤ} {inputs names place : ℕ} (x : HeaderStands (check_header image) (length image) low₀ high₀ start₀ low high start inputs names place)
    (sound : check_of image ≡ accepted tt) where
  -- without timers
  pub plain_measures : has_timer (limits_of image) ≡ false → Measures image low₀ high₀ low high (record { inputs = inputs; names = names; size = names; timers = 0; place = place })
  plain_measures none =
      let n = header_counts image x in
      let s : names ≡ state_length (shape_in image) = sym (state_length_untimed image none ∙ n.names_are) in
      record {
        sound = sound;
        inputs_are = n.inputs_are;
        names_are = n.names_are;
        among = n.among;
        few = n.few;
        size_is = s;
        size_most = omega (arith, n.few);
        timers_are = sym (timers_untimed image none ∙ ap (λ (k : ℕ). flags_of k 0) n.names_are);
        timers_low = pow_pos names;
        timed = none ∙ sym (le-ltb names names (omega arith));
        place_is = header_place image x;
        inside = x.extends.inside;
        lower = lows_stored image x ∙ ap (λ (ns : List Range). sets low₀ 0 (lows ns)) (sym (cells_untimed image none));
        upper = highs_stored image x ∙ ap (λ (ns : List Range). sets high₀ 0 (highs ns)) (sym (cells_untimed image none));
      }

  -- with timers
  code_is : code_of image ≡ drop place image
  unfolding code_of
  code_is = ap (λ (h : Header). drop h.place image) (header_found image _ x.read)

  -- the table that the code is walked with, and what it becomes
  pub limits_are : (table : List ℕ) → table ≡ replicate names 0 → limits_from (drop place image) (length (drop place image)) 0 table ≡ limits_of image
  unfolding limits_of
  limits_are table e =
      sym (ap (λ (code : List ℕ). limits_from code (length code) 0 (replicate (length (header_of image).ranges) 0)) code_is ∙ rw ((header_counts image x).names_are, e))

  pub limits_fit : (table : List ℕ) → table ≡ replicate names 0 → (t : ℕ) → get_or (limits_from (drop place image) (length (drop place image)) 0 table) t 0 ≤ time_limit
  limits_fit table e t = rw (limits_are table e) (limits_most image sound t)

  -- the ranges of the names, then those of the elapsed times
  cells_stored : (f : Range → ℤ) (l l₁ l₂ : List ℤ) → l₁ ≡ sets l 0 (map f (header_of image).ranges) → l₂ ≡ sets l₁ (length (limits_of image)) (map f (time_ranges (limits_of image)))
      → l₂ ≡ sets l 0 (map f (cells (shape_in image)))
  cells_stored f l l₁ l₂ a b =
      let ns = (header_of image).ranges in
      let ms = time_ranges (limits_of image) in
      let n : length (limits_of image) ≡ 0 + length (map f ns) = limits_length image ∙ (sym (length-map ns f) ∙ omega arith) in
      let c : map f (cells (shape_in image)) ≡ map f ns ++ map f ms = ap (map f) (times_append ns ms) ∙ map-append f ns ms in
      b ∙ (rw (a, n) (sym (sets_append l 0 (map f ns) (map f ms))) ∙ ap (sets l 0) (sym c))

  pub timed_measures : {low₁ high₁ : List ℤ} {t : Times} → TimesStand (limits_of image) low high low₁ high₁ t
      → Measures image low₀ high₀ low₁ high₁ (record { inputs = inputs; names = names; size = t.size; timers = t.timers; place = place })
  timed_measures {low₁} {high₁} {t} y =
      let n = header_counts image x in
      let l : length (limits_of image) ≡ names = limits_length image ∙ n.names_are in
      let c = ap length (times_append (header_of image).ranges (time_ranges (limits_of image))) ∙ length-append (header_of image).ranges (time_ranges (limits_of image)) in
      let s : t.size ≡ state_length (shape_in image) = omega (arith, y.size_is, l, n.names_are, c) in
      record {
        sound = sound;
        inputs_are = n.inputs_are;
        names_are = n.names_are;
        among = n.among;
        few = n.few;
        size_is = s;
        size_most = omega (arith, state_most image sound);
        timers_are = rw l at y.timers_are;
        timers_low = rw l at y.timers_low;
        timed = timed_is (limits_of image) names ∙ rw (y.size_is, l);
        place_is = header_place image x;
        inside = x.extends.inside;
        lower = cells_stored (λ n. n.low) low₀ low low₁ (lows_stored image x) y.lower;
        upper = cells_stored (λ n. n.high) high₀ high high₁ (highs_stored image x) y.upper;
      }
