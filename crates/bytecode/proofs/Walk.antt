-- What the walk's answer sound says, number by number and instruction by instruction. Assumes nothing.
use Prim.Native.Nat.{ℕ, zero, suc, ◌+◌, ◌≤◌, ◌<◌}
use native.Mathlib.Omega.{arith}
use mathlib.Core.Path.{◌≡◌, refl, sym, ap, ◌∙◌, subst}
use mathlib.Core.Bool.{Bool, true, false, ◌&&◌, cond}
use mathlib.Core.List.{List, [], ◌∷◌}
use mathlib.Core.Option.{Option, none, some}
use lib.Dec.{T, leb, leb→le}
use lib.IntN.{ℤ}
use lib.ListN.{length}
use lib.Signed.{le_z}
use borrow.Author.Tests.{lt-ltb, le-ltb}
use Rattle.limits.specs.Answer.{Answer, accepted, refused, ◌and_then◌}
use Rattle.arith.specs.Values.{is_int32}
use Rattle.semantics.specs.Program.{Range, RangeFits}
use Rattle.arith.proofs.Basics.{true_T}
use Rattle.leb128.specs.Numbers.{Read, got, nothing, number_at, signed_at}
use Rattle.bytecode.specs.Instructions.{Instruction, fetch}
use Rattle.bytecode.specs.Translation.{RangesFit}
use Rattle.bytecode.specs.Check.{Known, advance, complete, suits, tested, item, Placed, check_range, check_ranges, Counts, check_counts, Header, check_header, ends, if_some, check_code, check_body, check_of}
use Rattle.bytecode.specs.Sound.{RangesAt}

pub refused≢accepted : {A X : Type 0} (a : A) (n k : ℕ) → refused n k ≡ accepted a → X
refused≢accepted a n k e = let z : ◌≡◌ {A = ℕ} 0 1 = cc in let f : ⊥ = omega arith in absurd f

-- an item was read and passed its test
pub data Item {A B : Type 0} (o : Read A) (test : A → Bool) (k : A → ℕ → Answer B) (b : B) : Type 0 where
  passes : (a : A) (next : ℕ) → o ≡ got a next → T (test a) → k a next ≡ accepted b → Item o test k b

pub item_accepted : {A B : Type 0} (o : Read A) (at : ℕ) (test : A → Bool) (k : A → ℕ → Answer B) (b : B) → item o at test k ≡ accepted b → Item o test k b
item_accepted nothing at test k b e = refused≢accepted b 11 at e
item_accepted {B = B} (got a next) at test k b e = go (test a) refl e
  where
    go : (x : Bool) → test a ≡ x → tested x at (k a next) ≡ accepted b → Item (got a next) test k b
    go true h q = passes a next refl (true_T (test a) h) q
    go false h q = refused≢accepted b 11 at q

ends_accepted : (b : Bool) (at : ℕ) → ends b at ≡ accepted tt → b ≡ true
ends_accepted true at e = refl
ends_accepted false at e = refused≢accepted tt 11 at e

if_accepted_lem : (o : Option Known) (at : ℕ) (k : Known → Answer (Unit {0})) → if_some o at k ≡ accepted tt → (c : Known) × (o ≡ some c) × (k c ≡ accepted tt)
if_accepted_lem none at k e = refused≢accepted tt 11 at e
if_accepted_lem (some c) at k e = (c, refl, e)

-- ---- the code

-- an instruction stands at the place, keeps soundness, and the walk goes on behind it
pub record Stepped (ns : List Range) (base : ℕ) (code : List ℕ) (f at : ℕ) (last : Option Instruction) (c : Known) : Type 0 where
  pub instruction : Instruction
  pub next : ℕ
  pub after : Known
  pub fetched : fetch code at ≡ got instruction next
  pub suited : T (suits ns last instruction)
  pub advanced : advance instruction c ≡ some after
  pub goes : check_code ns base code f next (some instruction) after ≡ accepted tt

pub check_stepped : (ns : List Range) (base : ℕ) (code : List ℕ) (f at : ℕ) (last : Option Instruction) (c : Known) → at < length code → check_code ns base code (suc f) at last c ≡ accepted tt → Stepped ns base code f at last c
check_stepped ns base code f at last c l e = go (item_accepted (fetch code at) (base + at) (suits ns last) (λ i next. if_some (advance i c) (base + at) λ c₁. check_code ns base code f next (some i) c₁) tt (rw (lt-ltb at (length code) l) at e))
  where
    go : Item (fetch code at) (suits ns last) (λ i next. if_some (advance i c) (base + at) λ c₁. check_code ns base code f next (some i) c₁) tt → Stepped ns base code f at last c
    go (passes i next h t q) =
        let a = if_accepted_lem (advance i c) (base + at) _ q in
        record { instruction = i; next = next; after = a.0; fetched = h; suited = t; advanced = a.1; goes = a.2 }

pub check_ended : (ns : List Range) (base : ℕ) (code : List ℕ) (f at : ℕ) (last : Option Instruction) (c : Known) → length code ≤ at → check_code ns base code f at last c ≡ accepted tt → complete c ≡ true
check_ended ns base code zero at last c l e = ends_accepted (complete c) (base + length code) e
check_ended ns base code (suc f) at last c l e = ends_accepted (complete c) (base + length code) (rw (le-ltb at (length code) l) at e)

-- ---- the header

pub then_accepted : {A B : Type 0} (a : Answer A) (f : A → Answer B) (b : B) → (a and_then f) ≡ accepted b → (x : A) × (a ≡ accepted x) × (f x ≡ accepted b)
then_accepted (accepted x) f b e = (x, refl, e)
then_accepted (refused n k) f b e = refused≢accepted b n k e

-- low, high, start stand from a place on, and fit
pub record RangeRead (bytes : List ℕ) (at : ℕ) (r : Placed) : Type 0 where
  pub at₁ : ℕ
  pub at₂ : ℕ
  pub low_read : signed_at bytes at ≡ got r.range.low at₁
  pub high_read : signed_at bytes at₁ ≡ got r.range.high at₂
  pub start_read : signed_at bytes at₂ ≡ got r.range.start r.next
  pub fits : RangeFits r.range

pub range_read : (bytes : List ℕ) (at : ℕ) (r : Placed) → check_range bytes at ≡ accepted r → RangeRead bytes at r
unfolding check_range
range_read bytes at r e = low (item_accepted _ at is_int32 _ r e)
  where
    start : (l h : ℤ) (at₁ at₂ : ℕ) → signed_at bytes at ≡ got l at₁ → signed_at bytes at₁ ≡ got h at₂ → T (is_int32 l) → T (is_int32 h && le_z l h)
        → Item (signed_at bytes at₂) (λ z. is_int32 z && le_z l z && le_z z h) (λ z at₃. accepted (record { range = record { low = l; high = h; start = z }; next = at₃ })) r → RangeRead bytes at r
    start l h at₁ at₂ e₁ e₂ t₁ t₂ (passes z at₃ e₃ t₃ q) =
        let p : record { range = record { low = l; high = h; start = z }; next = at₃ } ≡ r = cc in
        let x : RangeRead bytes at (record { range = record { low = l; high = h; start = z }; next = at₃ })
        = record { at₁ = at₁; at₂ = at₂; low_read = e₁; high_read = e₂; start_read = e₃; fits = (t₁, t₂, t₃) } in
        subst (λ (y : Placed). RangeRead bytes at y) p x

    high : (l : ℤ) (at₁ : ℕ) → signed_at bytes at ≡ got l at₁ → T (is_int32 l)
        → Item (signed_at bytes at₁) (λ h. is_int32 h && le_z l h) (λ h at₂. item (signed_at bytes at₂) at₂ (λ z. is_int32 z && le_z l z && le_z z h) λ z at₃. accepted (record { range = record { low = l; high = h; start = z }; next = at₃ })) r
        → RangeRead bytes at r
    high l at₁ e₁ t₁ (passes h at₂ e₂ t₂ q) = start l h at₁ at₂ e₁ e₂ t₁ t₂ (item_accepted _ at₂ _ _ r q)

    low : Item (signed_at bytes at) is_int32 (λ l at₁. item (signed_at bytes at₁) at₁ (λ h. is_int32 h && le_z l h) λ h at₂. item (signed_at bytes at₂) at₂ (λ z. is_int32 z && le_z l z && le_z z h) λ z at₃. accepted (record { range = record { low = l; high = h; start = z }; next = at₃ })) r
        → RangeRead bytes at r
    low (passes l at₁ e₁ t₁ q) = high l at₁ e₁ t₁ (item_accepted _ at₁ _ _ r q)

pub record RangesRead {B : Type 0} (bytes : List ℕ) (m at : ℕ) (k : List Range → ℕ → Answer B) (b : B) : Type 0 where
  pub ranges : List Range
  pub next : ℕ
  pub size : length ranges ≡ m
  pub fit : RangesFit ranges
  pub stands : RangesAt bytes at ranges next
  pub follows : k ranges next ≡ accepted b

ranges_cons : {B : Type 0} (bytes : List ℕ) (m at : ℕ) (r : Placed) (k : List Range → ℕ → Answer B) (b : B) → RangeRead bytes at r
    → RangesRead bytes m r.next (λ ns next. k (r.range ∷ ns) next) b → RangesRead bytes (suc m) at k b
ranges_cons bytes m at r k b o x =
    record {
      ranges = r.range ∷ x.ranges;
      next = x.next;
      size = ap suc x.size;
      fit = (o.fits, x.fit);
      stands = (o.at₁, o.at₂, r.next, o.low_read, o.high_read, o.start_read, x.stands);
      follows = x.follows;
    }

pub ranges_read : {B : Type 0} (bytes : List ℕ) (m at : ℕ) (k : List Range → ℕ → Answer B) (b : B) → check_ranges bytes m at k ≡ accepted b → RangesRead bytes m at k b
ranges_read bytes zero at k b e = record { ranges = []; next = at; size = refl; fit = tt; stands = refl; follows = e }
ranges_read bytes (suc m) at k b e =
    let x = then_accepted (check_range bytes at) _ b e in
    ranges_cons bytes m at x.0 k b (range_read bytes at x.0 x.1) (ranges_read bytes m x.0.next _ b x.2)

-- what holds of counts that were read
pub record CountsFit (bytes : List ℕ) (c : Counts) : Type 0 where
  pub variables : ℕ
  pub at₁ : ℕ
  pub inputs_read : number_at bytes 0 ≡ got c.inputs at₁
  pub variables_read : number_at bytes at₁ ≡ got variables c.place
  pub size : c.names ≡ c.inputs + variables
  pub few : c.names ≤ 64

pub counts_fit : (bytes : List ℕ) (c : Counts) → check_counts bytes ≡ accepted c → CountsFit bytes c
unfolding check_counts
counts_fit bytes c e = inputs (item_accepted _ 0 _ _ c e)
  where
    variables : (k at₁ : ℕ) → number_at bytes 0 ≡ got k at₁
        → Item (number_at bytes at₁) (λ m. leb (k + m) 64) (λ m at₂. accepted (record { inputs = k; names = k + m; place = at₂ })) c → CountsFit bytes c
    variables k at₁ e₁ (passes m at₂ e₂ t₂ q) =
        let p : record { inputs = k; names = k + m; place = at₂ } ≡ c = cc in
        let x : CountsFit bytes (record { inputs = k; names = k + m; place = at₂ })
        = record { variables = m; at₁ = at₁; inputs_read = e₁; variables_read = e₂; size = refl; few = leb→le (k + m) 64 t₂ } in
        subst (λ (y : Counts). CountsFit bytes y) p x

    inputs : Item (number_at bytes 0) (λ k. leb k 64)
        (λ k at₁. item (number_at bytes at₁) at₁ (λ m. leb (k + m) 64) λ m at₂. accepted (record { inputs = k; names = k + m; place = at₂ })) c
        → CountsFit bytes c
    inputs (passes k at₁ e₁ t₁ q) = variables k at₁ e₁ (item_accepted _ at₁ _ _ c q)

-- what holds of a header that was read
pub record HeaderFits (bytes : List ℕ) (h : Header) : Type 0 where
  pub variables : ℕ
  pub at₁ : ℕ
  pub at₂ : ℕ
  pub inputs_read : number_at bytes 0 ≡ got h.inputs at₁
  pub variables_read : number_at bytes at₁ ≡ got variables at₂
  pub stands : RangesAt bytes at₂ h.ranges h.place
  pub size : length h.ranges ≡ h.inputs + variables
  pub total : h.inputs + variables ≤ 64
  pub few : length h.ranges ≤ 64
  pub fit : RangesFit h.ranges

-- the parts of a header that was read
pub record HeaderRead (bytes : List ℕ) (h : Header) : Type 0 where
  pub counts : Counts
  pub counted : check_counts bytes ≡ accepted counts
  pub inputs : h.inputs ≡ counts.inputs
  pub size : length h.ranges ≡ counts.names
  pub fit : RangesFit h.ranges
  pub stands : RangesAt bytes counts.place h.ranges h.place

pub header_read : (bytes : List ℕ) (h : Header) → check_header bytes ≡ accepted h → HeaderRead bytes h
unfolding check_header
header_read bytes h e =
    let a = then_accepted (check_counts bytes) _ h e in
    let c = a.0 in
    let x = ranges_read bytes c.names c.place _ h a.2 in
    let p : record { inputs = c.inputs; ranges = x.ranges; place = x.next } ≡ h = cc x.follows in
    let y : HeaderRead bytes (record { inputs = c.inputs; ranges = x.ranges; place = x.next })
    = record { counts = c; counted = a.1; inputs = refl; size = x.size; fit = x.fit; stands = x.stands } in
    subst (λ (z : Header). HeaderRead bytes z) p y

pub header_fits : (bytes : List ℕ) (h : Header) → check_header bytes ≡ accepted h → HeaderFits bytes h
header_fits bytes h e =
    let x = header_read bytes h e in
    let c = counts_fit bytes x.counts x.counted in
    let s : length h.ranges ≡ x.counts.names = x.size in
    let i : h.inputs ≡ x.counts.inputs = x.inputs in
    record {
      variables = c.variables;
      at₁ = c.at₁;
      at₂ = x.counts.place;
      inputs_read = c.inputs_read ∙ ap (λ (n : ℕ). got n c.at₁) (sym i);
      variables_read = c.variables_read;
      stands = x.stands;
      size = omega (arith, c.size);
      total = omega (arith, c.size, c.few);
      few = omega (arith, c.few);
      fit = x.fit;
    }

-- what the answer sound says of an image
pub record SoundImage (bytes : List ℕ) : Type 0 where
  pub short : length bytes ≤ 65536
  pub header : Header
  pub read : check_header bytes ≡ accepted header
  pub fits : HeaderFits bytes header
  pub body : check_body bytes header ≡ accepted tt

pub check_sound : (bytes : List ℕ) → check_of bytes ≡ accepted tt → SoundImage bytes
unfolding check_of
check_sound bytes e = short (leb (length bytes) 65536) refl e
  where
    read : length bytes ≤ 65536 → (a : Answer Header) → check_header bytes ≡ a → (a and_then λ h. check_body bytes h) ≡ accepted tt → SoundImage bytes
    read l (accepted h) r q = record { short = l; header = h; read = r; fits = header_fits bytes h r; body = q }
    read l (refused n k) r q = refused≢accepted tt n k q

    short : (b : Bool) → leb (length bytes) 65536 ≡ b → cond b (check_header bytes and_then λ h. check_body bytes h) (refused 9 0) ≡ accepted tt → SoundImage bytes
    short true l q = read (leb→le (length bytes) 65536 (true_T _ l)) (check_header bytes) refl q
    short false l q = refused≢accepted tt 9 0 q
