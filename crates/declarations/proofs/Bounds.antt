-- Laws of signed numbers in a text: the digits' value capped at 2 ^ 32, and the tests that bounds and starts pass. Assumes nothing.
use mathlib.Core.Path.{◌≡◌, refl, sym, ap, ◌∙◌}
use mathlib.Core.Bool.{Bool, true, false, ◌&&◌, false≢true, cond, and-false}
use mathlib.Core.List.{List}
use mathlib.Core.Option.{none, some}
use Prim.Native.Nat.{ℕ, zero, suc, ◌^◌, ◌≤◌, ◌<◌, min}
use native.Mathlib.Nat.{min-eq_left, min-eq_right}
use native.Mathlib.Omega.{arith}
use lib.Dec.{leb}
use lib.IntN.{ℤ, pos}
use lib.Signed.{mag, le_z}
use borrow.Author.Tests.{leb-true, leb-false}
use mir.Syntax.{w32}
use mir.Val.{SFits}
use Rattle.limits.specs.Limits.{no_token, not_allowed, out_of_limit}
use Rattle.arith.specs.Values.{is_int32}
use Rattle.arith.proofs.Basics.{and_both, T_true}
use Rattle.arith.proofs.Laws.{fits_int32, same32}
use Rattle.lexer.specs.Bytes.{part}
use Rattle.lexer.specs.Token.{Kind, digits, init_word, semicolon, minus, is, token, fault}
use Rattle.lexer.specs.Lexer.{token_at, value_of}
use Rattle.lexer.proofs.Laws.{cond_prop}
use Rattle.grammar.specs.Parsed.{Parsed, accepted, refused, sign, expected, phrase, followed}
use Rattle.grammar.specs.Declarations.{in_range, signed_digits, bound_at, start_at}
use Rattle.lexer.specs.Results.{Step}
use Rattle.std.specs.Prelude.{Err}
use Rattle.limits.specs.declared.Refusal.{Refusal}
use Rattle.limits.specs.declared.Refusal.TheVariants.{NoToken}
use Rattle.limits.specs.Refusals.{refusal_number, refusal_place}
use Rattle.phrases.specs.Inner.Steps.{parsed_of, nothing, value_told}
use Rattle.declarations.specs.Inner.Ranges.{signed_by}
use Rattle.declarations.specs.Inner.Bounds.{bounded_number}
use Rattle.std.specs.Prelude.{Option, Some, None}
use Rattle.declarations.proofs.Numbers.{kept, between}

-- ---- tests

-- a test that follows from another adds nothing to it
absorbed : (a b : Bool) → (b ≡ true → a ≡ true) → (a && b) ≡ b
absorbed a true h = rw (h refl)
absorbed a false h = and-false a

-- what an answer by a test tells of it
some_cond : {A : Type 0} (t : Bool) (a z : A) → some z ≡ cond t (some a) none → (t ≡ true) × (z ≡ a)
some_cond true a z e = (refl, cc)
some_cond false a z e = let y : ◌≡◌ {A = ℕ} 0 1 = cc in absurd (omega arith)

none_cond : {A : Type 0} (t : Bool) (a : A) → none ≡ cond t (some a) none → t ≡ false
none_cond true a e = let y : ◌≡◌ {A = ℕ} 0 1 = cc in absurd (omega arith)
none_cond false a e = refl

-- ---- a range of 32-bit numbers

module _ (low high : ℤ) (fl : SFits w32 low) (fh : SFits w32 high) where
  in_range_fits : (z : ℤ) → in_range low high z ≡ true → SFits w32 z
  unfolding in_range
  in_range_fits z e = let b = and_both (le_z low z) (le_z z high) e in between low z high b.0 b.1 fl fh

  in_limit : (z : ℤ) → (is_int32 z && in_range low high z) ≡ in_range low high z
  in_limit z = absorbed (is_int32 z) (in_range low high z) (λ e. T_true (is_int32 z) (fits_int32 (in_range_fits z e)))

  far_mag : (neg : Bool) (m : ℕ) → 2 ^ 32 ≤ m → mag (signed_by neg (pos m)) < 2 ^ 31 → ⊥
  far_mag true zero h l = omega arith
  far_mag true (suc m) h l = omega arith
  far_mag false m h l = omega arith

  far : (neg : Bool) (m : ℕ) → 2 ^ 32 ≤ m → in_range low high (signed_by neg (pos m)) ≡ false
  far neg m h = by (in_range low high (signed_by neg (pos m))) (in_range_fits (signed_by neg (pos m)))
    where
      by : (t : Bool) → (t ≡ true → SFits w32 (signed_by neg (pos m))) → t ≡ false
      by true f = absurd (far_mag neg m h (f refl).sfits)
      by false f = refl

  module _ (neg : Bool) (x : ℕ) where
    abbrev whole : ℤ
    whole = signed_by neg (pos x)

    abbrev capped : ℤ
    capped = signed_by neg (pos (min x (2 ^ 32)))

    -- the capped number passes the test exactly if the number does, and then it is the number
    capped_same : ((is_int32 whole && in_range low high whole) ≡ in_range low high capped) × (in_range low high capped ≡ true → capped ≡ whole)
    capped_same = cond_prop (λ (u : ℕ). ((is_int32 whole && in_range low high whole) ≡ in_range low high capped) × (in_range low high capped ≡ true → capped ≡ whole)) (leb x (2 ^ 32)) 0 0
        (λ t. let e : min x (2 ^ 32) ≡ x = min-eq_left (leb-true _ _ t) in (rw e (in_limit whole), λ p. ap (λ (n : ℕ). signed_by neg (pos n)) e))
        (λ t.
        let l : 2 ^ 32 < x = leb-false _ _ t in
        let e : min x (2 ^ 32) ≡ 2 ^ 32 = min-eq_right (omega arith) in
        let f : in_range low high capped ≡ false = rw e (far neg (2 ^ 32) (omega arith)) in
        (in_limit whole ∙ far neg x (omega arith) ∙ sym f, λ p. absurd (false≢true (sym f ∙ p))))

  -- ---- the digits of a number

  module _ (text : List ℕ) (neg : Bool) (k : Kind) (s n : ℕ) where
    pub no_digits : is k digits ≡ false → refused not_allowed s ≡ signed_digits (in_range low high) (signed_by neg) text k s n
    unfolding signed_digits
    no_digits d = rw d

    module _ (v : ℕ) (d : is k digits ≡ true) (hv : v ≡ min (value_of (part text s n)) (2 ^ 32)) {num : Option ℤ} (hn : bounded_number num ≡ cond (in_range low high (signed_by neg (pos v))) (some (signed_by neg (pos v))) none) where
      pub digits_in : {z : ℤ} → num ≡ Some z → accepted z n ≡ signed_digits (in_range low high) (signed_by neg) text k s n
      unfolding signed_digits
      digits_in {z} g =
          let p = some_cond (in_range low high (signed_by neg (pos v))) (signed_by neg (pos v)) z (sym (ap bounded_number g) ∙ hn) in
          let c = capped_same neg (value_of (part text s n)) in
          let i : in_range low high (capped neg (value_of (part text s n))) ≡ true = rw hv at p.0 in
          let w : z ≡ whole neg (value_of (part text s n)) = p.1 ∙ ap (λ (m : ℕ). signed_by neg (pos m)) hv ∙ c.1 i in
          rw (d, c.0 ∙ i, w)

      pub digits_out : num ≡ None → refused out_of_limit s ≡ signed_digits (in_range low high) (signed_by neg) text k s n
      unfolding signed_digits
      digits_out g =
          let p = none_cond (in_range low high (signed_by neg (pos v))) (signed_by neg (pos v)) (sym (ap bounded_number g) ∙ hn) in
          let c = capped_same neg (value_of (part text s n)) in
          let i : in_range low high (capped neg (value_of (part text s n))) ≡ false = rw hv at p in
          rw (d, c.0 ∙ i)

-- ---- refusals passed on

pub no_token_lem : {r : Step} {e : Refusal} → r ≡ Err e → e ≡ NoToken (refusal_place e) → parsed_of value_told r ≡ refused no_token (refusal_place e)
no_token_lem g f = ap (parsed_of value_told) (g ∙ ap Err f)

pub no_sign : {r : Step} {e : Refusal} (p : Parsed (Unit {0})) → parsed_of nothing r ≡ p → r ≡ Err e → (p ≡ refused (refusal_number e) (refusal_place e)) × (parsed_of value_told r ≡ refused (refusal_number e) (refusal_place e))
no_sign p h g = (sym h ∙ ap (parsed_of nothing) g, rw g)

-- ---- bounds that were held in locals

module _ (low high : ℤ) (fl : SFits w32 low) (fh : SFits w32 high) (text : List ℕ) (at : ℕ) {p : Parsed ℤ} where
  pub bound_kept : p ≡ bound_at (in_range (kept low) (kept high)) text at → p ≡ bound_at (in_range low high) text at
  bound_kept h = rw (same32 fl, same32 fh) at h

  pub start_kept : p ≡ start_at text (kept low) (kept high) at → p ≡ start_at text low high at
  start_kept h = rw (same32 fl, same32 fh) at h

-- ---- a signed number

module _ (test : ℤ → Bool) (text : List ℕ) (at : ℕ) where
  pub bound_fault : (p : ℕ) → token_at text at ≡ fault p → bound_at test text at ≡ refused no_token p
  unfolding bound_at
  bound_fault p e = rw e

  module _ (k : Kind) (s n : ℕ) (e : token_at text at ≡ token k s n) where
    pub bound_plain : is k minus ≡ false → bound_at test text at ≡ signed_digits test (signed_by false) text k s n
    unfolding bound_at
    bound_plain m = rw (e, m)

    module _ (m : is k minus ≡ true) where
      pub bound_minus : (k2 : Kind) (s2 n2 : ℕ) → token_at text n ≡ token k2 s2 n2 → bound_at test text at ≡ signed_digits test (signed_by true) text k2 s2 n2
      unfolding bound_at
      bound_minus k2 s2 n2 f = rw (e, m, f)

      pub bound_minus_fault : (p : ℕ) → token_at text n ≡ fault p → bound_at test text at ≡ refused no_token p
      unfolding bound_at
      bound_minus_fault p f = rw (e, m, f)

-- ---- the start and the `;`

module _ (low high : ℤ) (s : ℕ) {num : Option ℤ} (hn : bounded_number num ≡ cond (in_range low high (pos 0)) (some (pos 0)) none) where
  pub absent_out : (n : ℕ) → num ≡ None → refused out_of_limit s ≡ cond (in_range low high (pos 0)) (accepted (pos 0) n) (refused out_of_limit s)
  absent_out n g = rw (none_cond (in_range low high (pos 0)) (pos 0) (sym (ap bounded_number g) ∙ hn))

  pub absent_in : {z : ℤ} (n : ℕ) → SFits w32 z → num ≡ Some z → accepted (kept z) n ≡ cond (in_range low high (pos 0)) (accepted (pos 0) n) (refused out_of_limit s)
  absent_in {z} n f g = let p = some_cond (in_range low high (pos 0)) (pos 0) z (sym (ap bounded_number g) ∙ hn) in rw (p.0, same32 f, p.1)

module _ (text : List ℕ) (low high : ℤ) (at : ℕ) where
  pub start_fault : (p : ℕ) → token_at text at ≡ fault p → start_at text low high at ≡ refused no_token p
  unfolding start_at
  start_fault p e = rw e

  module _ (k : Kind) (s n : ℕ) (e : token_at text at ≡ token k s n) where
    module _ (i : is k init_word ≡ true) where
      pub start_refused : (r p : ℕ) → bound_at (in_range low high) text n ≡ refused r p → start_at text low high at ≡ refused r p
      unfolding start_at
      start_refused r p f = rw (e, i, f)

      module _ (z : ℤ) (m : ℕ) (f : bound_at (in_range low high) text n ≡ accepted z m) where
        pub start_open : (r p : ℕ) → expected text (sign semicolon) m ≡ refused r p → start_at text low high at ≡ refused r p
        unfolding start_at followed phrase
        start_open r p g = rw (e, i, f, g)

        pub start_closed : (q : ℕ) → expected text (sign semicolon) m ≡ accepted tt q → start_at text low high at ≡ accepted z q
        unfolding start_at followed phrase
        start_closed q g = rw (e, i, f, g)

    module _ (i : is k init_word ≡ false) where
      pub start_absent : is k semicolon ≡ true → start_at text low high at ≡ cond (in_range low high (pos 0)) (accepted (pos 0) n) (refused out_of_limit s)
      unfolding start_at
      start_absent m = rw (e, i, m)

      pub start_other : is k semicolon ≡ false → start_at text low high at ≡ refused not_allowed s
      unfolding start_at
      start_other m = rw (e, i, m)
