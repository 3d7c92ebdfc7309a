-- Parts of a text and values of runs of digits. Assumes nothing.
use mathlib.Core.Path.{◌≡◌, refl, sym, ◌∙◌}
use mathlib.Core.Bool.{Bool, true, false, ◌&&◌}
use mathlib.Core.List.{List, [], ◌∷◌}
use Prim.Native.Nat.{ℕ, suc, ◌+◌, ◌-◌, ◌*◌, ◌%◌, ◌≤◌, ◌<◌, min}
use native.Mathlib.Nat.{le_refl, min-eq_left, min-eq_right}
use native.Mathlib.Numerals.{add-one}
use native.Mathlib.Omega.{arith}
use lib.ListN.{length, get_or, drop, drop_of_length-le, length-drop, length-take}
use lib.Seq.{drop-cons, take_all, take-nil}
use lib.Dec.{leb, ltb}
use borrow.Author.Tests.{leb-true, ltb-true}
use Rattle.lexer.specs.Bytes.{part}
use Rattle.lexer.specs.Lexer.{is_digit, digit_value, value_on, value_of}

module _ (text : List ℕ) (start end : ℕ) where
  pub part_none : end ≤ start → part text start end ≡ []
  part_none h = let z : end - start ≡ 0 = omega arith in rw z

  pub part_out : length text ≤ start → part text start end ≡ []
  part_out h = rw (drop_of_length-le text h, take-nil {A = ℕ} (end - start))

  -- a part that ends past the text's end ends there
  pub part_over : length text ≤ end → part text start end ≡ part text start (length text)
  part_over h =
      take_all (end - start) (drop start text) (omega (arith, length-drop start text)) ∙ sym (take_all (length text - start) (drop start text) (omega (arith, length-drop start text)))

pub part_length : (text : List ℕ) (s n : ℕ) → s ≤ n → n ≤ length text → length (part text s n) ≡ n - s
part_length text s n h l = simp (length-take, length-drop) (omega arith)

-- a part that has a byte is that byte and the rest
pub part_cons : (text : List ℕ) (s n : ℕ) → s < n → n ≤ length text → part text s n ≡ get_or text s 0 ∷ part text (s + 1) n
part_cons text s n h l =
    let e : n - s ≡ suc (n - (s + 1)) = omega arith in
    let f : suc s ≡ s + 1 = omega arith in
    rw (e, drop-cons text s 0 (omega arith), f)

module _ (l : List ℕ) (i v : ℕ) where
  pub value_step : i < length l → value_on (drop i l) v ≡ value_on (drop (i + 1) l) (10 * v + get_or l i 0 % 16)
  unfolding value_on
  value_step h = rw (drop-cons l i 0 h, add-one i)

  pub value_end : length l ≤ i → value_on (drop i l) v ≡ v
  unfolding value_on
  value_end h = rw (drop_of_length-le l h)

-- ---- values

-- a digit's value is b − 48
pub digit_value_lem : (b : ℕ) → is_digit b ≡ true → digit_value b ≡ b - 48
unfolding is_digit
digit_value_lem b e = go (leb 48 b) refl (ltb b 58) refl e
  where
    go : (t : Bool) → leb 48 b ≡ t → (u : Bool) → ltb b 58 ≡ u → t && u ≡ true → digit_value b ≡ b - 48
    go true l true m h = omega (arith, leb-true 48 b l, ltb-true b 58 m)
    go true l false m h = let z : ◌≡◌ {A = ℕ} 0 1 = cc in absurd (omega arith)
    go false l u m h = let z : ◌≡◌ {A = ℕ} 0 1 = cc in absurd (omega arith)

-- a value does not fall as digits follow
pub value_grows : (l : List ℕ) (v : ℕ) → v ≤ value_on l v
unfolding value_on
value_grows [] v = le_refl v
value_grows (b ∷ l) v = omega (arith, value_grows l (10 * v + b % 16))

-- the loop's invariant, from turn to turn and to its ends
module _ (l : List ℕ) (i v : ℕ) (inv : value_on (drop i l) v ≡ value_of l) where
  module _ (x : ℕ) (h : i < length l) (hx : x ≡ get_or l i 0) where
    pub value_next : value_on (drop (i + 1) l) (10 * v + x % 16) ≡ value_of l
    value_next = rw hx (sym (value_step l i v h) ∙ inv)

    pub value_over : 4294967296 ≤ 10 * v + x % 16 → 4294967296 ≡ min (value_of l) 4294967296
    value_over over =
        let grown = value_grows (drop (i + 1) l) (10 * v + x % 16) in
        let whole : 4294967296 ≤ value_of l = omega (arith, value_next) in
        sym (min-eq_right whole)

  pub value_whole : length l ≤ i → v < 4294967296 → v ≡ min (value_of l) 4294967296
  value_whole h small =
      let whole : v ≡ value_of l = sym (value_end l i v h) ∙ inv in
      let below : value_of l ≤ 4294967296 = omega arith in
      whole ∙ sym (min-eq_left below)
