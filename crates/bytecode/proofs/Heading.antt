-- Headers: the ways in which counts and ranges are read, and what a header that is accepted has. Assumes nothing.
use Prim.Native.Nat.{ℕ, suc, ◌+◌, ◌-◌, ◌^◌, ◌≤◌, ◌<◌}
use native.Mathlib.Omega.{arith}
use mathlib.Core.Path.{◌≡◌, refl, sym, ap, subst, ◌∙◌}
use mathlib.Core.Bool.{Bool, true, false, not, ◌&&◌}
use mathlib.Core.List.{List, [], ◌∷◌, ◌++◌, map, append_assoc, append-nil, map-append}
use lib.Dec.{T, leb, ltb}
use lib.IntN.{ℤ, pos, negsuc}
use lib.ListN.{length, set, length-map, length-append}
use lib.Seq.{sets, length-sets}
use lib.Signed.{le_z, lt_z}
use borrow.Author.Tests.{le-leb, lt-leb, ltb-true, ltb-false}
use mir.Syntax.{w32}
use mir.Val.{SFits}
use Rattle.std.specs.Prelude.{Option, None, Result, Err}
use Rattle.std.specs.Option.{ok_or}
use Rattle.limits.specs.Answer.{Answer, accepted, refused}
use Rattle.arith.specs.Values.{is_int32}
use Rattle.arith.proofs.Basics.{T_true}
use Rattle.arith.proofs.Laws.{fits_int32, int32_fits}
use Rattle.semantics.specs.Program.{Range}
use Rattle.leb128.specs.Numbers.{Read, got, nothing, ◌then◌, number_at, signed_at, unzigzag}
use Rattle.leb128.proofs.Signs.{zigzag_unzigzag, zigzag_fits}
use Rattle.leb128.proofs.Stores.{sets_append}
use Rattle.bytecode.specs.Check.{item, Placed, check_range, check_ranges, check_counts, Header, header_with}
use Rattle.bytecode.specs.Parts.{lows, highs, starts}
use Rattle.bytecode.specs.Results.{HeaderStands}
use Rattle.bytecode.proofs.Fetching.{number_within}
use Rattle.bytecode.specs.Sound.{RangesAt}

-- ---- a `?` behind `ok_or`, where there is nothing: what it answers is the error
pub nothing_gives : {T U : Type 0} (r : Result U ℕ) (o : Option T) (e y : ℕ) → (z : ℕ) × (r ≡ Err z) × (z ≡ y) → ◌≡◌ {A = Result T ℕ} (Err y) (ok_or o e)
    → o ≡ None → r ≡ Err e
nothing_gives {T} r o e y p v n = let w : ◌≡◌ {A = Result T ℕ} (ok_or o e) (Err e) = rw n in cc

-- ---- a signed number

-- in 32-bit range, and it ends inside the bytes
pub record SignedWithin (length at : ℕ) (z : ℤ) (next : ℕ) : Type 0 where
  pub int32 : T (is_int32 z)
  pub behind : at < next
  pub inside : next ≤ length

pub unzigzag_int32 : (u : ℕ) → u < 2 ^ 32 → T (is_int32 (unzigzag u))
unzigzag_int32 u h = fits_int32 (zigzag_fits (unzigzag u) (rw zigzag_unzigzag h))

pub signed_within : (bytes : List ℕ) (at : ℕ) (z : ℤ) (next : ℕ) → signed_at bytes at ≡ got z next → SignedWithin (length bytes) at z next
unfolding signed_at
signed_within bytes at z next e = go (number_at bytes at) refl e
  where
    go : (r : Read ℕ) → number_at bytes at ≡ r → (r then λ u to. got (unzigzag u) to) ≡ got z next → SignedWithin (length bytes) at z next
    go nothing h q = let f : ◌≡◌ {A = ℕ} 0 1 = cc in let b : ⊥ = omega arith in absurd b
    go (got u to) h q =
        let w = number_within bytes at u to h in
        let a : unzigzag u ≡ z = cc in
        let b : to ≡ next = cc in
        record { int32 = subst (λ (y : ℤ). T (is_int32 y)) a (unzigzag_int32 u w.operand); behind = omega (arith, w.behind); inside = omega (arith, w.inside) }

-- ranges end inside the bytes that they begin in
pub ranges_inside : (bytes : List ℕ) (ns : List Range) (at end : ℕ) → RangesAt bytes at ns end → at ≤ length bytes → end ≤ length bytes
ranges_inside bytes [] at end r h = omega arith
ranges_inside bytes (n ∷ ns) at end r h = ranges_inside bytes ns r.2 end r.6 (signed_within bytes r.1 n.start r.2 r.5).inside

-- what a signed local holds
pub signed_fits : (bytes : List ℕ) (at : ℕ) (z : ℤ) (next : ℕ) → signed_at bytes at ≡ got z next → SFits w32 z
signed_fits bytes at z next e = int32_fits (signed_within bytes at z next e).int32

-- ---- the order of two whole numbers

leb_not : (a b : ℕ) → leb a b ≡ not (ltb b a)
leb_not a b = by (ltb b a) (ltb-true b a) (ltb-false b a) where
  by : (t : Bool) → (t ≡ true → b < a) → (t ≡ false → a ≤ b) → leb a b ≡ not t
  by true y n = lt-leb a b (y refl)
  by false y n = le-leb a b (n refl)

pub order : (a b : ℤ) → le_z a b ≡ not (lt_z b a)
order (pos a) (pos b) = leb_not a b
order (pos a) (negsuc b) = refl
order (negsuc a) (pos b) = refl
order (negsuc a) (negsuc b) = leb_not b a

-- ---- the ways in which a range is read

signed_int32 : (bytes : List ℕ) (at : ℕ) (z : ℤ) (next : ℕ) → signed_at bytes at ≡ got z next → is_int32 z ≡ true
signed_int32 bytes at z next e = T_true (is_int32 z) (signed_within bytes at z next e).int32

-- what is left of the reading, behind low and behind high
abbrev start_part : List ℕ → ℤ → ℤ → ℕ → Answer Placed
start_part bytes l h at =
    item (signed_at bytes at) at (λ z. is_int32 z && le_z l z && le_z z h) λ z next. accepted (record { range = record { low = l; high = h; start = z }; next = next })

abbrev high_part : List ℕ → ℤ → ℕ → Answer Placed
high_part bytes l at = item (signed_at bytes at) at (λ h. is_int32 h && le_z l h) λ h next. start_part bytes l h next

pub no_low : (bytes : List ℕ) (at : ℕ) → signed_at bytes at ≡ nothing → check_range bytes at ≡ refused 11 at
unfolding check_range
no_low bytes at e = rw e

module _ (bytes : List ℕ) (at at₁ : ℕ) (l : ℤ) (e₁ : signed_at bytes at ≡ got l at₁) where
  low_read : check_range bytes at ≡ high_part bytes l at₁
  unfolding check_range
  low_read = rw (e₁, signed_int32 bytes at l at₁ e₁)

  pub no_high : signed_at bytes at₁ ≡ nothing → check_range bytes at ≡ refused 11 at₁
  no_high e = low_read ∙ rw e

  module _ (at₂ : ℕ) (h : ℤ) (e₂ : signed_at bytes at₁ ≡ got h at₂) where
    pub low_over : lt_z h l ≡ true → check_range bytes at ≡ refused 11 at₁
    low_over q = low_read ∙ rw (e₂, signed_int32 bytes at₁ h at₂ e₂, order l h, q)

    module _ (o : lt_z h l ≡ false) where
      high_read : check_range bytes at ≡ start_part bytes l h at₂
      high_read = low_read ∙ rw (e₂, signed_int32 bytes at₁ h at₂ e₂, order l h, o)

      pub no_start : signed_at bytes at₂ ≡ nothing → check_range bytes at ≡ refused 11 at₂
      no_start e = high_read ∙ rw e

      module _ (at₃ : ℕ) (z : ℤ) (e₃ : signed_at bytes at₂ ≡ got z at₃) where
        pub start_below : lt_z z l ≡ true → check_range bytes at ≡ refused 11 at₂
        start_below q = high_read ∙ rw (e₃, signed_int32 bytes at₂ z at₃ e₃, order l z, q)

        pub start_over : lt_z z l ≡ false → lt_z h z ≡ true → check_range bytes at ≡ refused 11 at₂
        start_over p q = high_read ∙ rw (e₃, signed_int32 bytes at₂ z at₃ e₃, order l z, p, order z h, q)

        pub range_fits : lt_z z l ≡ false → lt_z h z ≡ false → check_range bytes at ≡ accepted (record { range = record { low = l; high = h; start = z }; next = at₃ })
        range_fits p q = high_read ∙ rw (e₃, signed_int32 bytes at₂ z at₃ e₃, order l z, p, order z h, q)

-- ---- the ways in which the counts are read

pub no_inputs : (bytes : List ℕ) → number_at bytes 0 ≡ nothing → check_counts bytes ≡ refused 11 0
unfolding check_counts
no_inputs bytes e = rw e

module _ (bytes : List ℕ) (k at₁ : ℕ) (e₁ : number_at bytes 0 ≡ got k at₁) where
  pub many_inputs : 64 < k → check_counts bytes ≡ refused 11 0
  unfolding check_counts
  many_inputs q = rw (e₁, lt-leb k 64 q)

  module _ (few : k ≤ 64) where
    pub no_variables : number_at bytes at₁ ≡ nothing → check_counts bytes ≡ refused 11 at₁
    unfolding check_counts
    no_variables e = rw (e₁, le-leb k 64 few, e)

    pub many_names_lem : (m at₂ : ℕ) → number_at bytes at₁ ≡ got m at₂ → 64 < k + m → check_counts bytes ≡ refused 11 at₁
    unfolding check_counts
    many_names_lem m at₂ e₂ q = rw (e₁, le-leb k 64 few, e₂, lt-leb (k + m) 64 q)

    pub counts_read : (m at₂ : ℕ) → number_at bytes at₁ ≡ got m at₂ → k + m ≤ 64 → check_counts bytes ≡ accepted (record { inputs = k; names = k + m; place = at₂ })
    unfolding check_counts
    counts_read m at₂ e₂ q = rw (e₁, le-leb k 64 few, e₂, le-leb (k + m) 64 q)

-- ---- the ranges of all names

-- one more number of a range, behind those of the ranges before it
module _ (f : Range → ℤ) where
  pub stored_next : (ns : List Range) (n : Range) (i : ℕ) (whole part more : List ℤ) → length ns ≡ i → part ≡ sets whole 0 (map f ns) → more ≡ set part i (f n) → more ≡ sets whole 0 (map f (ns ++ n ∷ []))
  stored_next ns n i whole part more e p q =
      let k : 0 + length (map f ns) ≡ i = omega (arith, length-map ns f) in
      q ∙ ap (λ (l : List ℤ). set l i (f n)) p
      ∙ sym (rw (map-append f ns (n ∷ []), sets_append whole 0 (map f ns) (f n ∷ []), k))

-- Of the ranges of a header, i are read and stored: what is left of them, and what then follows.
pub record Heading (bytes : List ℕ) (inputs names first i place : ℕ) (low₀ high₀ start₀ low high start : List ℤ) : Type 0 where
  pub among : i ≤ names
  pub inside : place ≤ length bytes
  pub ranges : List Range
  pub many : length ranges ≡ i
  pub rest : List Range → ℕ → Answer Header
  pub goes : check_ranges bytes names first (header_with inputs) ≡ check_ranges bytes (names - i) place rest
  pub ends : (ns : List Range) (next : ℕ) → rest ns next ≡ header_with inputs (ranges ++ ns) next
  pub lower : low ≡ sets low₀ 0 (lows ranges)
  pub upper : high ≡ sets high₀ 0 (highs ranges)
  pub starting : start ≡ sets start₀ 0 (starts ranges)

module _ {bytes : List ℕ} {inputs names first i place : ℕ} {low₀ high₀ start₀ low high start : List ℤ} (h : Heading bytes inputs names first i place low₀ high₀ start₀ low high start) where
  -- a range that breaks
  pub heading_breaks : (at : ℕ) → i < names → check_range bytes place ≡ refused 11 at → check_ranges bytes names first (header_with inputs) ≡ refused 11 at
  heading_breaks at l e = let m : names - i ≡ suc (names - (i + 1)) = omega arith in h.goes ∙ rw (m, e)

  -- a range that fits
  pub heading_goes : (n : Range) (next : ℕ) (low₁ high₁ start₁ : List ℤ) → i < names → check_range bytes place ≡ accepted (record { range = n; next = next }) → next ≤ length bytes
      → low₁ ≡ set low i n.low → high₁ ≡ set high i n.high → start₁ ≡ set start i n.start → Heading bytes inputs names first (i + 1) next low₀ high₀ start₀ low₁ high₁ start₁
  heading_goes n next low₁ high₁ start₁ l e k a b c =
      let m : names - i ≡ suc (names - (i + 1)) = omega arith in
      record {
        among = omega arith;
        inside = k;
        ranges = h.ranges ++ n ∷ [];
        many = length-append h.ranges (n ∷ []) ∙ omega (arith, h.many);
        rest = λ ns to. h.rest (n ∷ ns) to;
        goes = h.goes ∙ rw (m, e);
        ends = λ ns to. h.ends (n ∷ ns) to ∙ ap (λ (x : List Range). header_with inputs x to) (sym (append_assoc h.ranges (n ∷ []) ns));
        lower = stored_next (λ r. r.low) h.ranges n i low₀ low low₁ h.many h.lower a;
        upper = stored_next (λ r. r.high) h.ranges n i high₀ high high₁ h.many h.upper b;
        starting = stored_next (λ r. r.start) h.ranges n i start₀ start start₁ h.many h.starting c;
      }

  -- the memory keeps its length
  pub low_length : length low ≡ length low₀
  low_length = rw h.lower (length-sets low₀ 0 (lows h.ranges))

  pub high_length : length high ≡ length high₀
  high_length = rw h.upper (length-sets high₀ 0 (highs h.ranges))

  pub start_length : length start ≡ length start₀
  start_length = rw h.starting (length-sets start₀ 0 (starts h.ranges))

  -- all ranges are read
  pub heading_ends : names ≤ i → inputs ≤ names → names ≤ 64 → HeaderStands (check_ranges bytes names first (header_with inputs)) (length bytes) low₀ high₀ start₀ low high start inputs names place
  heading_ends l k few =
      let n : names - i ≡ 0 = omega arith in
      record {
        ranges = h.ranges;
        read = h.goes ∙ rw (n, h.ends [] place, append-nil h.ranges);
        many = omega (arith, h.many, h.among);
        extends = record { inputs_named = k; few = few; inside = h.inside };
        lower = h.lower;
        upper = h.upper;
        starting = h.starting;
      }

pub heading_begins : (bytes : List ℕ) (inputs names first : ℕ) (low high start : List ℤ) → first ≤ length bytes → Heading bytes inputs names first 0 first low high start low high start
heading_begins bytes inputs names first low high start l =
    let n : names - 0 ≡ names = omega arith in
    record { among = omega arith; inside = l; ranges = []; many = refl; rest = header_with inputs; goes = rw n; ends = λ ns next. refl; lower = refl; upper = refl; starting = refl }
