-- Check answers 11 exactly at the place of the first header number or instruction that breaks soundness, or at the image length: the
-- record `BrokenImages`. Assumes nothing.
use Prim.Native.Nat.{ℕ, zero, suc, ◌+◌, ◌≤◌, ◌<◌}
use native.Mathlib.Omega.{arith}
use mathlib.Core.Path.{◌≡◌, refl, ap, sym, ◌∙◌, subst}
use mathlib.Core.Bool.{Bool, true, false, ◌&&◌, cond, false≢true}
use mathlib.Core.List.{List, [], ◌∷◌}
use mathlib.Core.Option.{Option, none, some}
use lib.Dec.{T, leb, leb→le, le→leb, ltb}
use lib.IntN.{ℤ}
use lib.ListN.{length, drop, length-drop}
use lib.Signed.{le_z}
use borrow.Author.Tests.{lt-ltb, le-ltb, ltb-true, ltb-false}
use Rattle.limits.specs.Limits.{image_limit}
use Rattle.limits.specs.Answer.{Answer, accepted, refused, ◌and_then◌}
use Rattle.arith.specs.Values.{is_int32}
use Rattle.arith.proofs.Basics.{T_true, true_T}
use Rattle.semantics.specs.Program.{Range}
use Rattle.leb128.specs.Numbers.{Read, got, nothing, number_at, signed_at}
use Rattle.bytecode.specs.Instructions.{Instruction, fetch}
use Rattle.bytecode.specs.Translation.{RangesFit}
use Rattle.bytecode.specs.Check.{Known, advance, suits, complete, tested, item, Placed, check_range, check_ranges, Counts, check_counts, Header, header_with, check_header, ends, if_some, check_code, at_start, check_body, check_of}
use Rattle.bytecode.specs.Sound.{RangesAt, Sound}
use Rattle.bytecode.specs.Allowed.{left_by, Allowed, Finished}
use Rattle.bytecode.proofs.Fetching.{number_within}
use Rattle.bytecode.proofs.Heading.{ranges_inside}
use Rattle.bytecode.proofs.RoundTrip.{fetch_next}
use Rattle.bytecode.proofs.Soundness.{none≢some}
use Rattle.bytecode.proofs.Exactly.{kept_by, allowed_advances, finished_by, complete_if, item_passes, range_passes, ranges_pass, counts_pass}
use Rattle.bytecode.proofs.CheckNumbers.{image_numbers}
use Rattle.bytecode.proofs.Paragraph.{check_if_sound, sound_if_checked}
use Rattle.bytecode.proofs.Walk.{refused≢accepted, range_read, counts_fit, header_fits}
use Rattle.faults.specs.Images as I
use Rattle.faults.specs.Images.{Keeps, RangeBreaks, low, high, start, HeaderKept, CodeKept, Breaks, BrokenImages}

-- ---- one number

nothing≢got : {A X : Type 0} (a : A) (n : ℕ) → nothing ≡ got a n → X
nothing≢got a n e = let z : ◌≡◌ {A = ℕ} 0 1 = cc in absurd (omega arith)

item_broken : {A B : Type 0} (o : Read A) (at : ℕ) (test : A → Bool) (k : A → ℕ → Answer B) (P : A → Type 0) → ((a : A) → T (test a) → P a) → (Keeps o P → ⊥) → item o at test k ≡ refused 11 at
item_broken nothing at test k P f g = refl
item_broken {A} {B} (got a next) at test k P f g = go (test a) refl
  where
    go : (t : Bool) → test a ≡ t → tested t at (k a next) ≡ refused 11 at
    go true e = absurd (g (record { what = a; next = next; read = refl; kept = f a (true_T (test a) e) }))
    go false e = refl

data Fails {A B : Type 0} (o : Read A) (at : ℕ) (test : A → Bool) (k : A → ℕ → Answer B) (P : A → Type 0) (place : ℕ) : Type 0 where
  here : at ≡ place → (Keeps o P → ⊥) → Fails o at test k P place
  later : (a : A) (next : ℕ) → o ≡ got a next → T (test a) → k a next ≡ refused 11 place → Fails o at test k P place

item_fails : {A B : Type 0} (o : Read A) (at : ℕ) (test : A → Bool) (k : A → ℕ → Answer B) (P : A → Type 0) (place : ℕ) → ((a : A) → P a → T (test a)) → item o at test k ≡ refused 11 place → Fails o at test k P place
item_fails nothing at test k P place f e = here (cc) (λ x. nothing≢got x.what x.next x.read)
item_fails {A} {B} (got a next) at test k P place f e = go (test a) refl e
  where
    go : (t : Bool) → test a ≡ t → tested t at (k a next) ≡ refused 11 place → Fails (got a next) at test k P place
    go true h q = later a next refl (true_T (test a) h) q
    go false h q = here (cc) (λ x.
        let i : x.what ≡ a = cc in
        let j : T (test a) = subst (λ (y : A). T (test y)) i (f x.what x.kept) in
        subst T h j)

-- ---- the header

range_broken : (bytes : List ℕ) (at place : ℕ) → RangeBreaks bytes at place → check_range bytes at ≡ refused 11 place
unfolding check_range
range_broken bytes at place (low f) = item_broken (signed_at bytes at) at is_int32 _ (λ l. T (is_int32 l)) (λ a t. t) f
range_broken bytes at place (high l at₁ e₁ t₁ f) =
    item_passes (signed_at bytes at) at is_int32 _ l at₁ e₁ t₁
    ∙ item_broken (signed_at bytes at₁) at₁ (λ h. is_int32 h && le_z l h) _ (λ h. T (is_int32 h && le_z l h)) (λ a t. t) f
range_broken bytes at place (start l h at₁ at₂ e₁ t₁ e₂ t₂ f) =
    item_passes (signed_at bytes at) at is_int32 _ l at₁ e₁ t₁
    ∙ item_passes (signed_at bytes at₁) at₁ (λ h. is_int32 h && le_z l h) _ h at₂ e₂ t₂
    ∙ item_broken (signed_at bytes at₂) at₂ (λ z. is_int32 z && le_z l z && le_z z h) _ (λ z. T (is_int32 z && le_z l z && le_z z h)) (λ a t. t) f

range_fails : (bytes : List ℕ) (at place : ℕ) → check_range bytes at ≡ refused 11 place → RangeBreaks bytes at place
unfolding check_range
range_fails bytes at place e = first (item_fails (signed_at bytes at) at is_int32 _ (λ l. T (is_int32 l)) place (λ a t. t) e)
  where
    third : (l h : ℤ) (at₁ at₂ : ℕ) → signed_at bytes at ≡ got l at₁ → T (is_int32 l) → signed_at bytes at₁ ≡ got h at₂ → T (is_int32 h && le_z l h)
        → Fails {B = Placed} (signed_at bytes at₂) at₂ (λ z. is_int32 z && le_z l z && le_z z h) (λ z at₃. accepted (record { range = record { low = l; high = h; start = z }; next = at₃ })) (λ z. T (is_int32 z && le_z l z && le_z z h)) place → RangeBreaks bytes at place
    third l h at₁ at₂ e₁ t₁ e₂ t₂ (here q f) = subst (RangeBreaks bytes at) q (start l h at₁ at₂ e₁ t₁ e₂ t₂ f)
    third l h at₁ at₂ e₁ t₁ e₂ t₂ (later z at₃ e₃ t₃ q) = refused≢accepted (record { range = record { low = l; high = h; start = z }; next = at₃ }) 11 place (sym q)

    second : (l : ℤ) (at₁ : ℕ) → signed_at bytes at ≡ got l at₁ → T (is_int32 l)
        → Fails {B = Placed} (signed_at bytes at₁) at₁ (λ h. is_int32 h && le_z l h) (λ h at₂. item (signed_at bytes at₂) at₂ (λ z. is_int32 z && le_z l z && le_z z h) λ z at₃. accepted (record { range = record { low = l; high = h; start = z }; next = at₃ })) (λ h. T (is_int32 h && le_z l h)) place → RangeBreaks bytes at place
    second l at₁ e₁ t₁ (here q f) = subst (RangeBreaks bytes at) q (high l at₁ e₁ t₁ f)
    second l at₁ e₁ t₁ (later h at₂ e₂ t₂ q) = third l h at₁ at₂ e₁ t₁ e₂ t₂ (item_fails (signed_at bytes at₂) at₂ _ _ (λ z. T (is_int32 z && le_z l z && le_z z h)) place (λ a t. t) q)

    first : Fails {B = Placed} (signed_at bytes at) at is_int32 (λ l at₁. item (signed_at bytes at₁) at₁ (λ h. is_int32 h && le_z l h) λ h at₂. item (signed_at bytes at₂) at₂ (λ z. is_int32 z && le_z l z && le_z z h) λ z at₃. accepted (record { range = record { low = l; high = h; start = z }; next = at₃ })) (λ l. T (is_int32 l)) place → RangeBreaks bytes at place
    first (here q f) = subst (RangeBreaks bytes at) q (low f)
    first (later l at₁ e₁ t₁ q) = second l at₁ e₁ t₁ (item_fails (signed_at bytes at₁) at₁ _ _ (λ h. T (is_int32 h && le_z l h)) place (λ a t. t) q)

ranges_broken : {B : Type 0} (bytes : List ℕ) (m at : ℕ) (ns : List Range) (to place : ℕ) (k : List Range → ℕ → Answer B) → RangesAt bytes at ns to → RangesFit ns → length ns < m → RangeBreaks bytes to place → check_ranges bytes m at k ≡ refused 11 place
ranges_broken bytes zero at ns to place k r f l b = absurd (omega arith)
ranges_broken bytes (suc m) at [] to place k r f l b = rw (r, range_broken bytes to place b)
ranges_broken bytes (suc m) at (n ∷ ns) to place k r f l b =
    rw (range_passes bytes at r.0 r.1 r.2 n r.3 r.4 r.5 f.0) (ranges_broken bytes m r.2 ns to place (λ ms next. k (n ∷ ms) next) r.6 f.1 (omega arith) b)

-- the ranges that fit, up to one that breaks
record RangesFail (bytes : List ℕ) (m at place : ℕ) : Type 0 where
  ranges : List Range
  to : ℕ
  stands : RangesAt bytes at ranges to
  fit : RangesFit ranges
  short : length ranges < m
  breaks : RangeBreaks bytes to place

ranges_fail : {B : Type 0} (bytes : List ℕ) (m at place : ℕ) (k : List Range → ℕ → Answer B) → ((ns : List Range) (next : ℕ) → k ns next ≡ refused 11 place → ⊥) → check_ranges bytes m at k ≡ refused 11 place → RangesFail bytes m at place
ranges_fail bytes zero at place k un e = absurd (un [] at e)
ranges_fail {B} bytes (suc m) at place k un e = go (check_range bytes at) refl e (λ r q. ranges_fail bytes m r.next place (λ ns next. k (r.range ∷ ns) next) (λ ns next. un (r.range ∷ ns) next) q)
  where
    go : (a : Answer Placed) → check_range bytes at ≡ a → (a and_then λ r. check_ranges bytes m r.next λ ns next. k (r.range ∷ ns) next) ≡ refused 11 place
        → ((r : Placed) → (check_ranges bytes m r.next λ ns next. k (r.range ∷ ns) next) ≡ refused 11 place → RangesFail bytes m r.next place) → RangesFail bytes (suc m) at place
    go (refused n q) h f ih = let i : n ≡ 11 = cc in let j : q ≡ place = cc in record { ranges = []; to = at; stands = refl; fit = tt; short = omega arith; breaks = range_fails bytes at place (h ∙ rw (i, j)) }
    go (accepted r) h f ih =
        let x = ih r f in
        let o = range_read bytes at r h in
        record { ranges = r.range ∷ x.ranges; to = x.to; stands = (o.at₁, o.at₂, r.next, o.low_read, o.high_read, o.start_read, x.stands); fit = (o.fits, x.fit); short = omega (arith, x.short); breaks = x.breaks }

abbrev counts_of : ℕ → ℕ → ℕ → Counts
counts_of k m at = record { inputs = k; names = k + m; place = at }

inputs_broken : (bytes : List ℕ) → (Keeps (number_at bytes 0) (λ k. k ≤ 64) → ⊥) → check_counts bytes ≡ refused 11 0
unfolding check_counts
inputs_broken bytes f = item_broken (number_at bytes 0) 0 (λ k. leb k 64) _ (λ k. k ≤ 64) (λ k t. leb→le k 64 t) f

variables_broken : (bytes : List ℕ) (k at : ℕ) → number_at bytes 0 ≡ got k at → k ≤ 64 → (Keeps (number_at bytes at) (λ m. k + m ≤ 64) → ⊥) → check_counts bytes ≡ refused 11 at
unfolding check_counts
variables_broken bytes k at e l f =
    item_passes (number_at bytes 0) 0 (λ k. leb k 64) _ k at e (le→leb k 64 l)
    ∙ item_broken (number_at bytes at) at (λ m. leb (k + m) 64) _ (λ m. k + m ≤ 64) (λ m t. leb→le (k + m) 64 t) f

counts_fail : (bytes : List ℕ) (place : ℕ) → check_counts bytes ≡ refused 11 place → Breaks bytes place
unfolding check_counts
counts_fail bytes place e = first (item_fails (number_at bytes 0) 0 (λ k. leb k 64) _ (λ k. k ≤ 64) place (λ k l. le→leb k 64 l) e)
  where
    second : (k at : ℕ) → number_at bytes 0 ≡ got k at → k ≤ 64 → Fails {B = Counts} (number_at bytes at) at (λ m. leb (k + m) 64) (λ m at₂. accepted (counts_of k m at₂)) (λ m. k + m ≤ 64) place → Breaks bytes place
    second k at e₁ l (here q f) = subst (Breaks bytes) q (I.variables k at e₁ l f)
    second k at e₁ l (later m at₂ e₂ t q) = refused≢accepted (counts_of k m at₂) 11 place (sym q)

    first : Fails {B = Counts} (number_at bytes 0) 0 (λ k. leb k 64) (λ k at₁. item (number_at bytes at₁) at₁ (λ m. leb (k + m) 64) λ m at₂. accepted (counts_of k m at₂)) (λ k. k ≤ 64) place → Breaks bytes place
    first (here q f) = subst (Breaks bytes) q (I.inputs f)
    first (later k at e₁ t q) = second k at e₁ (leb→le k 64 t) (item_fails (number_at bytes at) at _ _ (λ m. k + m ≤ 64) place (λ m l. le→leb (k + m) 64 l) q)

header_fails : (bytes : List ℕ) (place : ℕ) → check_header bytes ≡ refused 11 place → Breaks bytes place
unfolding check_header
header_fails bytes place e = go (check_counts bytes) refl e
  where
    go : (a : Answer Counts) → check_counts bytes ≡ a → (a and_then λ c. check_ranges bytes c.names c.place (header_with c.inputs)) ≡ refused 11 place → Breaks bytes place
    go (refused n q) h f = let i : n ≡ 11 = cc in let j : q ≡ place = cc in counts_fail bytes place (h ∙ rw (i, j))
    go (accepted c) h f =
        let x = counts_fit bytes c h in
        let y = ranges_fail bytes c.names c.place place (header_with c.inputs) (λ ns next q. refused≢accepted (record { inputs = c.inputs; ranges = ns; place = next }) 11 place (sym q)) f in
        I.range c.inputs x.variables y.ranges y.to
        (record { at₁ = x.at₁; at₂ = c.place; inputs_read = x.inputs_read; variables_read = x.variables_read; few = omega arith; ranges_read = y.stands; fit = y.fit }) (omega (arith, y.short)) y.breaks

header_of_lem : (bytes : List ℕ) (h : Header) → HeaderKept bytes h → check_header bytes ≡ accepted h
unfolding check_header
header_of_lem bytes h x =
    let r = x.ranges in
    rw (counts_pass bytes h.inputs x.variables r.at₁ r.at₂ r.inputs_read r.variables_read r.few)
    (rw (← x.size) (ranges_pass bytes r.at₂ h.ranges h.place (header_with h.inputs) r.ranges_read r.fit))

kept_header : (bytes : List ℕ) (h : Header) → check_header bytes ≡ accepted h → HeaderKept bytes h
kept_header bytes h e =
    let x = header_fits bytes h e in
    record { variables = x.variables; ranges = record { at₁ = x.at₁; at₂ = x.at₂; inputs_read = x.inputs_read; variables_read = x.variables_read; few = x.total; ranges_read = x.stands; fit = x.fit }; size = x.size }

-- ---- the code

module _ (ns : List Range) (base : ℕ) (code : List ℕ) where
  abbrev goes_on : ℕ → ℕ → Known → Instruction → ℕ → Answer (Unit {0})
  goes_on f at c i next = if_some (advance i c) (base + at) λ c₁. check_code ns base code f next (some i) c₁

  step_of : (f at : ℕ) (last : Option Instruction) (c : Known) → at < length code → check_code ns base code (suc f) at last c ≡ item (fetch code at) (base + at) (suits ns last) (goes_on f at c)
  step_of f at last c l = rw (lt-ltb at (length code) l)

  code_kept : (f : ℕ) {at to : ℕ} {last end : Option Instruction} {c d : Known} → CodeKept ns code at last c to end d → length code ≤ at + f
      → (g : ℕ) × (length code ≤ to + g) × (check_code ns base code f at last c ≡ check_code ns base code g to end d)
  code_kept f I.none l = (f, l, refl)
  code_kept zero {at} (I.more i next e a s r) l = absurd (omega (arith, (fetch_next code at i next e).0))
  code_kept (suc f) {at} {to} {last} {end} {c} {d} (I.more i next e a s r) l =
      let n = fetch_next code at i next e in
      let x = code_kept f {to = to} {end = end} {d = d} r (omega (arith, n.1)) in
      (x.0, x.1, step_of f at last c n.0 ∙ rw (e, T_true (suits ns last i) s, allowed_advances i c a) x.2)

  ends_broken : (f at : ℕ) (last : Option Instruction) (c : Known) → length code ≤ at → (Finished c → ⊥) → check_code ns base code f at last c ≡ refused 11 (base + length code)
  ends_broken f at last c l n = go (complete c) refl f
    where
      go : (t : Bool) → complete c ≡ t → (f : ℕ) → check_code ns base code f at last c ≡ refused 11 (base + length code)
      go true e f = absurd (n (finished_by c e))
      go false e zero = rw e
      go false e (suc f) = rw (le-ltb at (length code) l, e)

  one_broken : (f at : ℕ) (last : Option Instruction) (c : Known) → length code ≤ at + f → at < length code → (Keeps (fetch code at) (λ i. Allowed i c × T (suits ns last i)) → ⊥)
      → check_code ns base code f at last c ≡ refused 11 (base + at)
  one_broken zero at last c l h n = absurd (omega arith)
  one_broken (suc f) at last c l h n = step_of f at last c h ∙ go (fetch code at) refl
    where
      inner : (i : Instruction) (next : ℕ) → fetch code at ≡ got i next → T (suits ns last i) → (o : Option Known) → advance i c ≡ o → if_some o (base + at) (λ c₁. check_code ns base code f next (some i) c₁) ≡ refused 11 (base + at)
      inner i next e s none q = refl
      inner i next e s (some d) q = absurd (n (record { what = i; next = next; read = e; kept = ((kept_by i c d q).allowed, s) }))

      suited : (i : Instruction) (next : ℕ) → fetch code at ≡ got i next → (t : Bool) → suits ns last i ≡ t → tested t (base + at) (goes_on f at c i next) ≡ refused 11 (base + at)
      suited i next e true s = inner i next e (true_T _ s) (advance i c) refl
      suited i next e false s = refl

      go : (o : Read Instruction) → fetch code at ≡ o → item o (base + at) (suits ns last) (goes_on f at c) ≡ refused 11 (base + at)
      go nothing e = refl
      go (got i next) e = suited i next e (suits ns last i) refl

  -- what the walk met
  data Met (at : ℕ) (last : Option Instruction) (c : Known) (place : ℕ) : Type 0 where
    one : (to : ℕ) (end : Option Instruction) (d : Known) → CodeKept ns code at last c to end d → to < length code → (Keeps (fetch code to) (λ i. Allowed i d × T (suits ns end i)) → ⊥) → base + to ≡ place → Met at last c place
    end : (to : ℕ) (end : Option Instruction) (d : Known) → CodeKept ns code at last c to end d → length code ≤ to → (Finished d → ⊥) → base + length code ≡ place → Met at last c place

  met_more : (at place : ℕ) (last : Option Instruction) (c : Known) (i : Instruction) (next : ℕ) → fetch code at ≡ got i next → Allowed i c → T (suits ns last i) → Met next (some i) (left_by i c) place → Met at last c place
  met_more at place last c i next e a s (one to far d r l n q) = one to far d (I.more i next e a s r) l n q
  met_more at place last c i next e a s (end to far d r l n q) = end to far d (I.more i next e a s r) l n q

  ends_met : (at place : ℕ) (last : Option Instruction) (c : Known) → length code ≤ at → ends (complete c) (base + length code) ≡ refused 11 place → Met at last c place
  ends_met at place last c l e = go (complete c) refl e
    where
      go : (t : Bool) → complete c ≡ t → ends t (base + length code) ≡ refused 11 place → Met at last c place
      go true h q = refused≢accepted tt 11 place (sym q)
      go false h q = end at last c I.none l (λ x. let z : true ≡ false = sym (complete_if c x) ∙ h in let y : ◌≡◌ {A = ℕ} 0 1 = cc in omega arith) (cc)

  stuck : (at : ℕ) (last : Option Instruction) (c : Known) (i : Instruction) (next : ℕ) → fetch code at ≡ got i next → advance i c ≡ none → Keeps (fetch code at) (λ i. Allowed i c × T (suits ns last i)) → ⊥
  stuck at last c i next r a x =
      let w : i ≡ x.what = cc in
      none≢some (left_by x.what c) (sym a ∙ (ap (λ (y : Instruction). advance y c) w ∙ allowed_advances x.what c x.kept.0))

  unsuited : (at : ℕ) (last : Option Instruction) (c : Known) (i : Instruction) (next : ℕ) → fetch code at ≡ got i next → suits ns last i ≡ false → Keeps (fetch code at) (λ i. Allowed i c × T (suits ns last i)) → ⊥
  unsuited at last c i next r s x =
      let w : i ≡ x.what = cc in
      false≢true (sym s ∙ (ap (λ (y : Instruction). suits ns last y) w ∙ T_true (suits ns last x.what) x.kept.1))

  module _ (f at place : ℕ) (last : Option Instruction) (c : Known) (l : length code ≤ at + suc f) (h : at < length code)
      (ih : (next : ℕ) (i : Instruction) (d : Known) → length code ≤ next + f → check_code ns base code f next (some i) d ≡ refused 11 place → Met next (some i) d place) where
    advanced : (i : Instruction) (next : ℕ) → fetch code at ≡ got i next → T (suits ns last i) → (o : Option Known) → advance i c ≡ o → if_some o (base + at) (λ c₁. check_code ns base code f next (some i) c₁) ≡ refused 11 place → Met at last c place
    advanced i next r s none a q = one at last c I.none h (stuck at last c i next r a) (cc)
    advanced i next r s (some d) a q =
        let k = kept_by i c d a in
        met_more at place last c i next r k.allowed s (subst (λ (y : Known). Met next (some i) y place) (sym k.left) (ih next i d (omega (arith, (fetch_next code at i next r).1)) q))

    suited : (i : Instruction) (next : ℕ) → fetch code at ≡ got i next → (t : Bool) → suits ns last i ≡ t → tested t (base + at) (goes_on f at c i next) ≡ refused 11 place → Met at last c place
    suited i next r true s q = advanced i next r (true_T _ s) (advance i c) refl q
    suited i next r false s q = one at last c I.none h (unsuited at last c i next r s) (cc)

    fetched : (o : Read Instruction) → fetch code at ≡ o → item o (base + at) (suits ns last) (goes_on f at c) ≡ refused 11 place → Met at last c place
    fetched nothing r q = one at last c I.none h (λ x. nothing≢got x.what x.next (sym r ∙ x.read)) (cc)
    fetched (got i next) r q = suited i next r (suits ns last i) refl q

  code_fails : (f at place : ℕ) (last : Option Instruction) (c : Known) → length code ≤ at + f → check_code ns base code f at last c ≡ refused 11 place → Met at last c place
  code_fails zero at place last c l e = ends_met at place last c (omega arith) e
  code_fails (suc f) at place last c l e = inside (ltb at (length code)) refl (λ next i d m q. code_fails f next place (some i) d m q)
    where
      inside : (b : Bool) → ltb at (length code) ≡ b
          → ((next : ℕ) (i : Instruction) (d : Known) → length code ≤ next + f → check_code ns base code f next (some i) d ≡ refused 11 place → Met next (some i) d place) → Met at last c place
      inside true b ih = let h = ltb-true at (length code) b in fetched f at place last c l h ih (fetch code at) refl (sym (step_of f at last c h) ∙ e)
      inside false b ih = let k = ltb-false at (length code) b in ends_met at place last c k (rw (le-ltb at (length code) k) at e)

-- ---- the image

ends_at : (bytes : List ℕ) (h : Header) → HeaderKept bytes h → h.place + length (drop h.place bytes) ≡ length bytes
ends_at bytes h x =
    let r = x.ranges in
    let w = ranges_inside bytes h.ranges r.at₂ h.place r.ranges_read (number_within bytes r.at₁ x.variables r.at₂ r.variables_read).inside in
    omega (arith, length-drop h.place bytes)

body_fails : (bytes : List ℕ) (place : ℕ) (h : Header) → HeaderKept bytes h → check_body bytes h ≡ refused 11 place → Breaks bytes place
unfolding check_body
body_fails bytes place h x e = go (code_fails h.ranges h.place (drop h.place bytes) (length (drop h.place bytes)) 0 place none (at_start h) (omega arith) e)
  where
    go : Met h.ranges h.place (drop h.place bytes) 0 none (at_start h) place → Breaks bytes place
    go (one to last d r l n q) = subst (Breaks bytes) q (I.instruction h to last d x r l n)
    go (end to last d r l n q) = subst (Breaks bytes) (sym (ends_at bytes h x) ∙ q) (I.end h to last d x r l n)

fails : (bytes : List ℕ) (place : ℕ) → (check_header bytes and_then λ h. check_body bytes h) ≡ refused 11 place → Breaks bytes place
fails bytes place e = go (check_header bytes) refl e
  where
    go : (a : Answer Header) → check_header bytes ≡ a → (a and_then λ h. check_body bytes h) ≡ refused 11 place → Breaks bytes place
    go (refused n q) h f = header_fails bytes place (h ∙ (let i : n ≡ 11 = cc in let j : q ≡ place = cc in rw (i, j)))
    go (accepted h) q f = body_fails bytes place h (kept_header bytes h q) f

-- what is broken is answered so
counts_stop : (bytes : List ℕ) (place : ℕ) → check_counts bytes ≡ refused 11 place → (check_header bytes and_then λ h. check_body bytes h) ≡ refused 11 place
unfolding check_header
counts_stop bytes place e = rw e

body_is : (bytes : List ℕ) (h : Header) → HeaderKept bytes h → (check_header bytes and_then λ h. check_body bytes h) ≡ check_code h.ranges h.place (drop h.place bytes) (length (drop h.place bytes)) 0 none (at_start h)
unfolding check_body
body_is bytes h x = rw (header_of_lem bytes h x)

broken_answer : (bytes : List ℕ) (place : ℕ) → Breaks bytes place → (check_header bytes and_then λ h. check_body bytes h) ≡ refused 11 place
unfolding check_header
broken_answer bytes place (I.inputs f) = counts_stop bytes 0 (inputs_broken bytes f)
broken_answer bytes place (I.variables k at e l f) = counts_stop bytes at (variables_broken bytes k at e l f)
broken_answer bytes place (I.range k m ns at x l b) =
    rw (counts_pass bytes k m x.at₁ x.at₂ x.inputs_read x.variables_read x.few) (rw (ranges_broken bytes (k + m) x.at₂ ns at place (header_with k) x.ranges_read x.fit l b))
broken_answer bytes place (I.instruction h at last c x r l n) =
    let code = drop h.place bytes in
    let g = code_kept h.ranges h.place code (length code) r (omega arith) in
    body_is bytes h x ∙ g.2 ∙ one_broken h.ranges h.place code g.0 at last c g.1 l n
broken_answer bytes place (I.end h at last c x r l n) =
    let code = drop h.place bytes in
    let g = code_kept h.ranges h.place code (length code) r (omega arith) in
    body_is bytes h x ∙ g.2 ∙ ends_broken h.ranges h.place code g.0 at last c l n ∙ ap (refused 11) (ends_at bytes h x)

pub broken_images : BrokenImages
unfolding check_of
broken_images = record {
  too_long_lem = λ bytes h. rw (over bytes (leb (length bytes) image_limit) refl h);
  broken = answer;
  breaks = λ bytes place e. short bytes place (leb (length bytes) image_limit) refl e;
  one_place = λ bytes p q x y. same p q (sym (broken_answer bytes p x) ∙ broken_answer bytes q y);
  unbroken = λ bytes place s b. refused≢accepted tt 11 place (sym (answer bytes place s.short b) ∙ check_if_sound bytes s);
  unsound = λ bytes h n. found bytes h n (check_header bytes and_then λ h. check_body bytes h) refl;
}
  where
    found : (bytes : List ℕ) → length bytes ≤ image_limit → (Sound bytes → ⊥) → (a : Answer (Unit {0})) → (check_header bytes and_then λ h. check_body bytes h) ≡ a → (place : ℕ) × Breaks bytes place
    found bytes h n (accepted u) e = absurd (n (sound_if_checked bytes (rw (T_true (leb (length bytes) image_limit) (le→leb (length bytes) image_limit h)) e)))
    found bytes h n (refused k p) e =
        let i = image_numbers bytes k p e in
        (p, fails bytes p (e ∙ ap (λ (y : ℕ). refused y p) i))

    same : (p q : ℕ) → ◌≡◌ {A = Answer (Unit {0})} (refused 11 p) (refused 11 q) → p ≡ q
    same p q e = cc

    answer : (bytes : List ℕ) (place : ℕ) → length bytes ≤ image_limit → Breaks bytes place → check_of bytes ≡ refused 11 place
    answer bytes place h b = rw (T_true (leb (length bytes) image_limit) (le→leb (length bytes) image_limit h)) (broken_answer bytes place b)

    over : (bytes : List ℕ) (b : Bool) → leb (length bytes) image_limit ≡ b → image_limit < length bytes → leb (length bytes) image_limit ≡ false
    over bytes true e h = let l = leb→le (length bytes) image_limit (true_T _ e) in absurd (omega arith)
    over bytes false e h = e

    short : (bytes : List ℕ) (place : ℕ) (b : Bool) → leb (length bytes) image_limit ≡ b → cond b (check_header bytes and_then λ h. check_body bytes h) (refused 9 0) ≡ refused 11 place → (length bytes ≤ image_limit) × Breaks bytes place
    short bytes place true l q = (leb→le (length bytes) image_limit (true_T _ l), fails bytes place q)
    short bytes place false l q = let z : ◌≡◌ {A = ℕ} 9 11 = cc in absurd (omega arith)
