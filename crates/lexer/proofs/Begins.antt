-- What spells a token, by its first byte, and how far it goes in a text. Assumes nothing.
use mathlib.Core.Path.{◌≡◌, refl, ap, sym, ◌∙◌, subst}
use mathlib.Core.List.{List, [], ◌∷◌}
use mathlib.Core.Bool.{Bool, true, false, false≢true}
use Prim.Native.Nat.{ℕ, zero, suc, ◌+◌, ◌-◌, ◌≤◌, ◌<◌}
use native.Mathlib.Omega.{arith}
use lib.ListN.{length, get_or}
use lib.Dec.{eqb, ltb}
use borrow.Author.Tests.{eq-eqb, ltb-true, ltb-false}
use Rattle.lexer.specs.Bytes.{part, same_bytes}
use Rattle.lexer.specs.Token.{Kind, kind_number, unknown, ending, name, previous, digits, input_word, var_word, init_word, mod_word, next_word, dots, arrow, less_equal, greater_equal, not_equal, semicolon, colon, open_round, close_round, open_square, close_square, tilde, ampersand, bar, equals, less, greater, plus, minus, star, slash, other_case, watch_word, always_word, after_word, timer_word, of_word, limit_word, is}
use Rattle.lexer.specs.Lexer.{is_digit, is_letter, is_alphanumeric, run_end, pair_of, sign_of}
use Rattle.lexer.specs.Spelling.{AllBytes, IsWord, IsDigits, SpellsName, IsPrevious, Spelling}
use Rattle.lexer.proofs.Laws.{letter_in_run, run_stop, run_step, run_from}
use Rattle.lexer.proofs.Values.{part_length, part_cons}

pub clash : {t : Bool} → t ≡ true → t ≡ false → ⊥
clash e f = false≢true (sym f ∙ e)

-- ---- what spells a token, by its first byte

pub data Class (w : List ℕ) : Type 0 where
  lettered : IsWord w → Class w
  numbered : IsDigits w → Class w
  underscored : IsPrevious w → Class w
  single : (b : ℕ) → w ≡ b ∷ [] → is_letter b ≡ false → is_digit b ≡ false → eqb b 95 ≡ false → is (sign_of b) unknown ≡ false → Class w
  double : (a b : ℕ) → w ≡ a ∷ b ∷ [] → is_letter a ≡ false → is_digit a ≡ false → eqb a 95 ≡ false → is (pair_of a b) unknown ≡ false → Class w

pub class_of : (j : Kind) (w : List ℕ) → Spelling j w → Class w
unfolding is_letter is_digit is_alphanumeric sign_of pair_of same_bytes is kind_number
class_of unknown w h = absurd h
class_of ending w h = absurd h
class_of name w h = lettered h.is_word
class_of previous w h = underscored h
class_of digits w h = numbered h
class_of input_word w h = rw h (lettered (refl, (refl, (refl, (refl, (refl, tt))))))
class_of var_word w h = rw h (lettered (refl, (refl, (refl, tt))))
class_of init_word w h = rw h (lettered (refl, (refl, (refl, (refl, tt)))))
class_of mod_word w h = rw h (lettered (refl, (refl, (refl, tt))))
class_of next_word w h = rw h (lettered (refl, (refl, tt)))
class_of dots w h = double 46 46 h refl refl refl refl
class_of arrow w h = double 45 62 h refl refl refl refl
class_of less_equal w h = double 60 61 h refl refl refl refl
class_of greater_equal w h = double 62 61 h refl refl refl refl
class_of not_equal w h = double 60 62 h refl refl refl refl
class_of semicolon w h = single 59 h refl refl refl refl
class_of colon w h = single 58 h refl refl refl refl
class_of open_round w h = single 40 h refl refl refl refl
class_of close_round w h = single 41 h refl refl refl refl
class_of open_square w h = single 91 h refl refl refl refl
class_of close_square w h = single 93 h refl refl refl refl
class_of tilde w h = single 126 h refl refl refl refl
class_of ampersand w h = single 38 h refl refl refl refl
class_of bar w h = single 124 h refl refl refl refl
class_of equals w h = single 61 h refl refl refl refl
class_of less w h = single 60 h refl refl refl refl
class_of greater w h = single 62 h refl refl refl refl
class_of plus w h = single 43 h refl refl refl refl
class_of minus w h = single 45 h refl refl refl refl
class_of star w h = single 42 h refl refl refl refl
class_of slash w h = single 47 h refl refl refl refl
class_of other_case w h = lettered h.is_word
class_of watch_word w h = rw h (lettered (refl, (refl, (refl, (refl, (refl, tt))))))
class_of always_word w h = rw h (lettered (refl, tt))
class_of after_word w h = rw h (lettered (refl, tt))
class_of timer_word w h = rw h (lettered (refl, (refl, (refl, (refl, (refl, tt))))))
class_of of_word w h = rw h (lettered (refl, (refl, tt)))
class_of limit_word w h = rw h (lettered (refl, (refl, (refl, (refl, (refl, tt))))))

-- ---- runs

-- bytes that all pass a test are within one run
through : (p : ℕ → Bool) (text : List ℕ) (left s m : ℕ) → m ≡ s + left → m ≤ length text → AllBytes p (part text s m) → run_end p text s ≡ run_end p text m
through p text zero s m e l h = let q : s ≡ m = omega arith in ap (run_end p text) q
through p text (suc left) s m e l h =
    let h2 : (p (get_or text s 0) ≡ true) × AllBytes p (part text (s + 1) m) = subst (AllBytes p) (part_cons text s m (omega arith) l) h in
    run_step p text s (omega arith) h2.0 ∙ through p text left (s + 1) m (omega arith) l h2.1

pub run_through : (p : ℕ → Bool) (text : List ℕ) (s m : ℕ) → s ≤ m → m ≤ length text → AllBytes p (part text s m) → run_end p text s ≡ run_end p text m
run_through p text s m h l a = through p text (m - s) s m (omega arith) l a

pub in_run : (p : ℕ → Bool) (text : List ℕ) (s m : ℕ) → s ≤ m → m ≤ length text → AllBytes p (part text s m) → m ≤ run_end p text s
in_run p text s m h l a = rw (run_through p text s m h l a) (run_from p text m)

-- behind a run stands no byte of it
pub run_over : (p : ℕ → Bool) (text : List ℕ) (left a : ℕ) → length text ≤ a + left → run_end p text a < length text → p (get_or text (run_end p text a) 0) ≡ false
run_over p text zero a h l = absurd (omega (arith, run_from p text a))
run_over p text (suc left) a h l = go (ltb a (length text)) refl (p (get_or text a 0)) refl (run_over p text left (a + 1) (omega arith))
  where
    go : (t : Bool) → ltb a (length text) ≡ t → (u : Bool) → p (get_or text a 0) ≡ u → (run_end p text (a + 1) < length text → p (get_or text (run_end p text (a + 1)) 0) ≡ false) → p (get_or text (run_end p text a) 0) ≡ false
    go true e true f r =
        let q = run_step p text a (ltb-true a (length text) e) f in
        rw q (r (rw (← q) l))
    go true e false f r = rw (run_stop p text a (ltb-true a (length text) e) f) f
    go false e u f r = absurd (omega (arith, run_from p text a, ltb-false a (length text) e))

-- ---- what spells a token from s on

module _ (text : List ℕ) (s : ℕ) where
  abbrev b : ℕ
  b = get_or text s 0

  abbrev c : ℕ
  c = get_or text (s + 1) 0

  -- by its first byte, a part from s to m that spells a token
  pub data Begins (m : ℕ) : Type 0 where
    letters : is_letter b ≡ true → m ≤ run_end is_alphanumeric text s → Begins m
    numerals : is_digit b ≡ true → m ≤ run_end is_digit text s → Begins m
    underscore : b ≡ 95 → SpellsName (part text (s + 1) m) → Begins m
    one_byte : is_letter b ≡ false → is_digit b ≡ false → eqb b 95 ≡ false → m ≡ s + 1 → is (sign_of b) unknown ≡ false → Begins m
    two_bytes : is_letter b ≡ false → is_digit b ≡ false → eqb b 95 ≡ false → m ≡ s + 2 → is (pair_of b c) unknown ≡ false → Begins m

  module _ (m : ℕ) (h : s < m) (l : m ≤ length text) where
    first : part text s m ≡ b ∷ part text (s + 1) m
    first = part_cons text s m h l

    pub begins : (j : Kind) → Spelling j (part text s m) → Begins m
    begins j sp = by (class_of j (part text s m) sp)
      where
        by : Class (part text s m) → Begins m
        by (lettered w) =
            let v : (is_letter b ≡ true) × AllBytes is_alphanumeric (part text (s + 1) m) = subst IsWord first w in
            let all : AllBytes is_alphanumeric (part text s m) = rw first (letter_in_run b v.0, v.1) in
            letters v.0 (in_run is_alphanumeric text s m (omega arith) l all)
        by (numbered w) =
            let v : (is_digit b ≡ true) × AllBytes is_digit (part text (s + 1) m) = subst IsDigits first w in
            let all : AllBytes is_digit (part text s m) = rw first v in
            numerals v.0 (in_run is_digit text s m (omega arith) l all)
        by (underscored w) =
            let e : b ∷ part text (s + 1) m ≡ 95 ∷ w.rest = sym first ∙ w.is_cons in
            let i : b ≡ 95 = cc in
            let t : w.rest ≡ part text (s + 1) m = cc in
            underscore i (subst SpellsName t w.is_name)
        by (single d q f g u k) =
            let e : b ∷ part text (s + 1) m ≡ d ∷ [] = sym first ∙ q in
            let i : d ≡ b = cc in
            let z : part text (s + 1) m ≡ [] = cc in
            let n : 0 ≡ m - (s + 1) = sym (ap (λ (x : List ℕ). length x) z) ∙ part_length text (s + 1) m (omega arith) l in
            one_byte (rw (← i) f) (rw (← i) g) (rw (← i) u) (omega arith) (rw (← i) k)
        by (double d d2 q f g u k) =
            let e : b ∷ part text (s + 1) m ≡ d ∷ d2 ∷ [] = sym first ∙ q in
            let i : d ≡ b = cc in
            let z : part text (s + 1) m ≡ d2 ∷ [] = cc in
            let n : 1 ≡ m - (s + 1) = sym (ap (λ (x : List ℕ). length x) z) ∙ part_length text (s + 1) m (omega arith) l in
            let y : c ∷ part text (s + 1 + 1) m ≡ d2 ∷ [] = sym (part_cons text (s + 1) m (omega arith) l) ∙ z in
            let i2 : d2 ≡ c = cc in
            two_bytes (rw (← i) f) (rw (← i) g) (rw (← i) u) (omega arith) (rw (← i, ← i2) k)

    -- only `_` begins a previous value
    pub no_previous : (k : Kind) → Spelling k (part text s m) → eqb b 95 ≡ false → k ≡ previous → ⊥
    no_previous k sp f q =
        let w : IsPrevious (part text s m) = subst (λ (x : Kind). Spelling x (part text s m)) q sp in
        let e : b ∷ part text (s + 1) m ≡ 95 ∷ w.rest = sym first ∙ w.is_cons in
        let i : b ≡ 95 = cc in
        clash (eq-eqb b 95 i) f
