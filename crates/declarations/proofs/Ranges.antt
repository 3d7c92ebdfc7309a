-- Laws of a declaration's range: the three tests of bounds as one, and the ways through low, `..`, high and start. Assumes nothing.
use mathlib.Core.Path.{◌≡◌, refl, ap₂}
use mathlib.Core.Bool.{Bool, true, false, ◌&&◌, cond}
use mathlib.Core.List.{List}
use Prim.Native.Nat.{ℕ}
use lib.IntN.{ℤ, pos, neg_ℤ}
use lib.Signed.{le_z}
use Rattle.arith.specs.Values.{is_int32, lowest, highest}
use Rattle.lexer.specs.Bytes.{part}
use Rattle.lexer.specs.Token.{Kind, minus, dots, is, TokenRead, token, fault}
use Rattle.lexer.specs.Lexer.{token_at, value_of}
use Rattle.grammar.specs.Parsed.{Parsed, accepted, refused, on_token, sign, expected, phrase}
use Rattle.grammar.specs.Declarations.{in_range, signed_digits, bound_at, start_at}
use Rattle.declarations.specs.Inner.Ranges.{declared_range}

-- ---- a bound by one test or another

module _ (t u : ℤ → Bool) (same : (z : ℤ) → (is_int32 z && t z) ≡ (is_int32 z && u z)) (text : List ℕ) where
  signed_same : (sg : ℤ → ℤ) (k : Kind) (s n : ℕ) → signed_digits t sg text k s n ≡ signed_digits u sg text k s n
  unfolding signed_digits
  signed_same sg k s n = rw (same (sg (pos (value_of (part text s n)))))

  read_same : (r : TokenRead) (f g : Kind → ℕ → ℕ → Parsed ℤ) → ((k : Kind) (s n : ℕ) → f k s n ≡ g k s n) → on_token r f ≡ on_token r g
  read_same (token k s n) f g h = h k s n
  read_same (fault p) f g h = refl

  bound_same : (at : ℕ) → bound_at t text at ≡ bound_at u text at
  unfolding bound_at
  bound_same at =
      read_same (token_at text at) _ _
      (λ k s n. ap₂ (λ (a b : Parsed ℤ). cond (is k minus) a b) (read_same (token_at text n) _ _ (λ k s n. signed_same neg_ℤ k s n)) (signed_same (λ z. z) k s n))

any_test : (a : Bool) → (a && true) ≡ (a && a)
any_test true = refl
any_test false = refl

above_test : (p q l : Bool) → ((p && q) && l) ≡ ((p && q) && (l && q))
above_test true true true = refl
above_test true true false = refl
above_test true false l = refl
above_test false q l = refl

-- low may be any number in limit
pub bound_any : (text : List ℕ) (at : ℕ) → bound_at (λ z. true) text at ≡ bound_at (in_range lowest highest) text at
unfolding in_range
bound_any text at = bound_same (λ z. true) (in_range lowest highest) (λ z. any_test (is_int32 z)) text at

-- high may be any number in limit that is not below low
pub bound_above : (low : ℤ) (text : List ℕ) (at : ℕ) → bound_at (le_z low) text at ≡ bound_at (in_range low highest) text at
unfolding in_range
bound_above low text at = bound_same (le_z low) (in_range low highest) (λ z. above_test (le_z lowest z) (le_z z highest) (le_z low z)) text at

-- ---- low, `..`, high, start

module _ (text : List ℕ) (at : ℕ) where
  pub no_low : (k p : ℕ) → bound_at (in_range lowest highest) text at ≡ refused k p → declared_range text at ≡ refused k p
  unfolding declared_range
  no_low k p e = rw (bound_any text at, e)

  module _ (low : ℤ) (a : ℕ) (el : bound_at (in_range lowest highest) text at ≡ accepted low a) where
    pub no_dots : (k p : ℕ) → expected text (sign dots) a ≡ refused k p → declared_range text at ≡ refused k p
    unfolding declared_range phrase
    no_dots k p e = rw (bound_any text at, el, e)

    module _ (b : ℕ) (ed : expected text (sign dots) a ≡ accepted tt b) where
      pub no_high : (k p : ℕ) → bound_at (in_range low highest) text b ≡ refused k p → declared_range text at ≡ refused k p
      unfolding declared_range phrase
      no_high k p e = rw (bound_any text at, el, ed, bound_above low text b, e)

      module _ (high : ℤ) (c : ℕ) (eh : bound_at (in_range low highest) text b ≡ accepted high c) where
        pub no_start : (k p : ℕ) → start_at text low high c ≡ refused k p → declared_range text at ≡ refused k p
        unfolding declared_range phrase
        no_start k p e = rw (bound_any text at, el, ed, bound_above low text b, eh, e)

        pub whole_range : (start : ℤ) (n : ℕ) → start_at text low high c ≡ accepted start n → declared_range text at ≡ accepted (record { low = low; high = high; start = start }) n
        unfolding declared_range phrase
        whole_range start n e = rw (bound_any text at, el, ed, bound_above low text b, eh, e)
