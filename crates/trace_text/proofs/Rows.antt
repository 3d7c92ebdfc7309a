-- A line that is read byte by byte comes to the row that Row says. Assumes nothing.
use mathlib.Core.Path.{◌≡◌, refl, sym, ap, ◌∙◌}
use mathlib.Core.Bool.{Bool, true, false, false≢true, cond}
use mathlib.Core.List.{List, [], ◌∷◌, ◌++◌, append-nil}
use mathlib.Core.Option.{Option, none, some}
use Prim.Native.Nat.{ℕ, suc, ◌+◌, ◌*◌, ◌%◌, ◌≤◌, ◌<◌}
use native.Mathlib.Omega.{arith}
use lib.Dec.{leb, ltb, eqb}
use lib.IntN.{ℤ}
use lib.ListN.{length, set, length-append}
use lib.Seq.{sets, set-set, append_snoc}
use borrow.Author.Tests.{le-leb, lt-leb, leb-true, leb-false, ltb-true, ltb-false, eq-eqb, ne_eqb, eqb-true, eqb-false}
use Rattle.lexer.specs.Lexer.{is_digit, value_of, value_on}
use Rattle.trace_text.specs.declared.Line.{Line}
use Rattle.trace_text.specs.declared.Line.TheVariants.{Start, Wanted, Minus, Number, NoRow}
use Rattle.trace_text.specs.Input.{before}
use Rattle.trace_text.specs.Row.{◌and_if◌, all_digits, number_of, fields_of, numbers_of, row_of, long_row, handed, handed_of}
use Rattle.trace_text.specs.Inner.Stages.{longer_by, digit_after, number_begins, signed, in_word32, cells_end, line_after, cells_after, count_of, cells_of}
use Rattle.leb128.proofs.Stores.{sets_append, set_before}
use Rattle.trace_text.proofs.Lines.{line_over, cells_over, over_cons, cells-cons, over-nil, cells-nil}
use Rattle.trace_text.proofs.Decimals.{all_append, value_append, signs, signs_append, number_in, number_out, none_first, none_minus, none-empty, none-lone, none_large, none_byte}

-- ---- stores over earlier ones

stored_over : (l : List ℤ) (i : ℕ) (vs ws : List ℤ) → length vs ≤ length ws → sets (sets l i vs) i ws ≡ sets l i ws
stored_over l i [] ws h = refl
stored_over l i (v ∷ vs) [] h = absurd (omega arith)
stored_over l i (v ∷ vs) (w ∷ ws) h =
    ap (λ (m : List ℤ). sets m (suc i) ws) (set_before (set l i v) (suc i) i w vs (omega arith) ∙ ap (λ (m : List ℤ). sets m (suc i) vs) (set-set l i v w))
    ∙ stored_over (set l i w) (suc i) vs ws (omega arith)

-- ---- fields, the first of which has begun

abbrev begun : List ℕ → List (List ℕ) → List (List ℕ)
begun p [] = p ∷ []
begun p (field ∷ fields) = (p ++ field) ∷ fields

-- the numbers of a field that has begun as p and of the rest of the line
numbers_after : List ℕ → List ℕ → Option (List ℤ)
numbers_after p l = numbers_of (begun p (fields_of l))

none_begun : (p : List ℕ) (fields : List (List ℕ)) → ((field : List ℕ) → number_of (p ++ field) ≡ none) → numbers_of (begun p fields) ≡ none
unfolding numbers_of
none_begun p [] h = rw (sym (ap number_of (append-nil p)) ∙ h [])
none_begun p (field ∷ fields) h = rw (h field)

begun_byte : (p : List ℕ) (b : ℕ) (fields : List (List ℕ)) → begun p (before b fields) ≡ begun (p ++ (b ∷ [])) fields
begun_byte p b [] = refl
begun_byte p b (field ∷ fields) = ap (λ (x : List ℕ). x ∷ fields) (sym (append_snoc p b field))

begun_nothing : (l : List ℕ) → begun [] (fields_of l) ≡ fields_of l
unfolding fields_of
begun_nothing [] = refl
begun_nothing (b ∷ l) = by (eqb b 32) (fields_of l) where
  by : (t : Bool) (fields : List (List ℕ)) → begun [] (cond t ([] ∷ fields) (before b fields)) ≡ cond t ([] ∷ fields) (before b fields)
  by true fields = refl
  by false [] = refl
  by false (field ∷ fields) = refl

module _ (p : List ℕ) (b : ℕ) (l : List ℕ) where
  numbers_byte : (b ≡ 32 → ⊥) → numbers_after p (b ∷ l) ≡ numbers_after (p ++ (b ∷ [])) l
  unfolding numbers_after fields_of
  numbers_byte n = rw (ne_eqb b 32 n) (ap numbers_of (begun_byte p b (fields_of l)))

  numbers_space : b ≡ 32 → numbers_after p (b ∷ l) ≡ (number_of p and_if λ z. numbers_after [] l and_if λ zs. some (z ∷ zs))
  unfolding numbers_after fields_of numbers_of
  numbers_space e = rw (eq-eqb b 32 e, append-nil p, begun_nothing l)

  -- no number whatever follows
  numbers_none : (b ≡ 32 → ⊥) → ((field : List ℕ) → number_of (p ++ b ∷ field) ≡ none) → numbers_after p (b ∷ l) ≡ none
  unfolding numbers_after
  numbers_none n h = numbers_byte n ∙ none_begun (p ++ (b ∷ [])) (fields_of l) (λ field. ap number_of (append_snoc p b field) ∙ h field)

numbers_end : (p : List ℕ) → numbers_after p [] ≡ (number_of p and_if λ z. some (z ∷ []))
unfolding numbers_after fields_of numbers_of
numbers_end p = rw (append-nil p)

-- ---- numbers found so far, and those to come

abbrev joined : List ℤ → Option (List ℤ) → Option (List ℤ)
joined zs none = none
joined zs (some ys) = some (zs ++ ys)

joined_next : (zs : List ℤ) (z : ℤ) (o : Option (List ℤ)) → joined zs (o and_if λ ys. some (z ∷ ys)) ≡ joined (zs ++ (z ∷ [])) o
joined_next zs z none = refl
joined_next zs z (some ys) = ap some (sym (append_snoc zs z ys))

handed_few : (zs : List ℤ) → length zs ≤ 64 → handed (some zs) ≡ zs
handed_few zs h = rw (le-leb (length zs) 64 h)

handed_many : (zs : List ℤ) → 64 < length zs → handed (some zs) ≡ long_row
handed_many zs h = rw (lt-leb (length zs) 64 h)

-- over 64 numbers, or none
many : (zs : List ℤ) (z : ℤ) (o : Option (List ℤ)) → 64 ≤ length zs → handed (joined zs (o and_if λ ys. some (z ∷ ys))) ≡ long_row
many zs z none h = refl
many zs z (some ys) h = handed_many (zs ++ z ∷ ys) (rw length-append (omega arith))

-- ---- the state of a line: the field that has begun, and the numbers found

data At : Line → List ℕ → List ℤ → Type 0 where
  wanted : (zs : List ℤ) → length zs ≤ 64 → At (Wanted (length zs)) [] zs
  minus : (zs : List ℤ) → length zs ≤ 64 → At (Minus (length zs)) (45 ∷ []) zs
  number : (zs : List ℤ) (negative : Bool) (d : ℕ) (ds : List ℕ) → all_digits (d ∷ ds) ≡ true → length zs ≤ 64
      → At (Number (length zs) negative (value_of (d ∷ ds))) (signs negative (d ∷ ds)) zs

-- what a line that ends in state s with cells c hands over is o
abbrev Ends : List ℤ → Line → List ℤ → Option (List ℤ) → Type 0
Ends cells s c o = (count_of s ≡ length (handed o)) × (cells_of s c ≡ sets cells 0 (handed o))

-- the rest l of a line comes to what it says from state s, where the field p has begun and the numbers zs are found
record Comes (cells : List ℤ) (l : List ℕ) (s : Line) (p : List ℕ) (zs : List ℤ) : Type 0 where
  ends : Ends cells (line_over s l) (cells_over s (sets cells 0 zs) l) (joined zs (numbers_after p l))

-- no row
stays : (l : List ℕ) (c : List ℤ) → (line_over NoRow l ≡ NoRow) × (cells_over NoRow c l ≡ c)
unfolding line_over cells_over line_after cells_after
stays [] c = (refl, refl)
stays (b ∷ l) c = stays l c

pub long_length : length long_row ≡ 65
unfolding long_row
long_length = refl

no_row : (cells zs : List ℤ) (o : Option (List ℤ)) → length zs ≤ 64 → handed o ≡ long_row → Ends cells NoRow (sets cells 0 zs) o
unfolding count_of cells_of
no_row cells zs o h e = rw e (sym long_length, stored_over cells 0 zs long_row (rw long_length (omega arith)))

module _ (cells : List ℤ) (b : ℕ) (l : List ℕ) {s : Line} {p : List ℕ} {zs : List ℤ} where
  -- a byte leads to another state
  moves : {t : Line} {q : List ℕ} {ws : List ℤ} → line_after s b ≡ t → cells_after s (sets cells 0 zs) b ≡ sets cells 0 ws
      → joined zs (numbers_after p (b ∷ l)) ≡ joined ws (numbers_after q l) → Comes cells l t q ws → Comes cells (b ∷ l) s p zs
  moves e f g h = record { ends = rw (over_cons s b l, cells-cons s (sets cells 0 zs) b l, e, f, g) h.ends }

  -- a byte makes the line no row
  fails : line_after s b ≡ NoRow → cells_after s (sets cells 0 zs) b ≡ sets cells 0 zs → length zs ≤ 64
      → handed (joined zs (numbers_after p (b ∷ l))) ≡ long_row → Comes cells (b ∷ l) s p zs
  fails e f n h =
      let r = stays l (sets cells 0 zs) in
      record { ends = rw (over_cons s b l, cells-cons s (sets cells 0 zs) b l, e, f, r.0, r.1) (no_row cells zs (joined zs (numbers_after p (b ∷ l))) n h) }

  fails_none : line_after s b ≡ NoRow → cells_after s (sets cells 0 zs) b ≡ sets cells 0 zs → length zs ≤ 64
      → numbers_after p (b ∷ l) ≡ none → Comes cells (b ∷ l) s p zs
  fails_none e f n h = fails e f n (ap (λ (o : Option (List ℤ)). handed (joined zs o)) h)

-- ---- the next byte

digit_goes : (n : ℕ) (negative : Bool) (v b : ℕ) → is_digit b ≡ true → v ≤ 214748364 → digit_after n negative v b ≡ Number n negative (10 * v + b % 16)
unfolding digit_after longer_by
digit_goes n negative v b e h = rw (e, le-leb v 214748364 h)

digit_first : (n : ℕ) (negative : Bool) (b : ℕ) → is_digit b ≡ true → digit_after n negative 0 b ≡ Number n negative (value_of (b ∷ []))
unfolding value_of value_on
digit_first n negative b e = digit_goes n negative 0 b e (omega arith)

digit_next : (n : ℕ) (negative : Bool) (d : ℕ) (ds : List ℕ) (b : ℕ) → is_digit b ≡ true → value_of (d ∷ ds) ≤ 214748364
    → digit_after n negative (value_of (d ∷ ds)) b ≡ Number n negative (value_of (d ∷ (ds ++ (b ∷ []))))
unfolding value_of value_on
digit_next n negative d ds b e h = digit_goes n negative (value_of (d ∷ ds)) b e h ∙ ap (Number n negative) (sym (value_append ds (b ∷ []) (10 * 0 + d % 16)))

digit_large : (n : ℕ) (negative : Bool) (v b : ℕ) → is_digit b ≡ true → 214748364 < v → digit_after n negative v b ≡ NoRow
unfolding digit_after longer_by
digit_large n negative v b e h = rw (e, lt-leb v 214748364 h)

digit_none : (n : ℕ) (negative : Bool) (v b : ℕ) → is_digit b ≡ false → digit_after n negative v b ≡ NoRow
unfolding digit_after
digit_none n negative v b e = rw e

-- a digit is no space, and a space no digit
digit-no-space : (b : ℕ) → is_digit b ≡ true → b ≡ 32 → ⊥
unfolding is_digit
digit-no-space b e s = false≢true (rw s at e)

-- what is to come after the byte
abbrev Goes : List ℤ → List ℕ → Type 0
Goes cells l = (s : Line) (p : List ℕ) (zs : List ℤ) → At s p zs → Comes cells l s p zs

module _ (cells : List ℤ) (b : ℕ) (l : List ℕ) (go : Goes cells l) (zs : List ℤ) (few : length zs ≤ 64) where
  after_wanted : Comes cells (b ∷ l) (Wanted (length zs)) [] zs
  unfolding line_after cells_after number_begins
  after_wanted = by (eqb b 45) (is_digit b) refl refl where
    by : (s t : Bool) → eqb b 45 ≡ s → is_digit b ≡ t → Comes cells (b ∷ l) (Wanted (length zs)) [] zs
    by true t e f =
        let m = eqb-true b 45 e in
        moves cells b l (rw e) refl (ap (joined zs) (numbers_byte [] b l (λ (s : b ≡ 32). omega arith) ∙ ap (λ (x : ℕ). numbers_after (x ∷ []) l) m)) (go _ _ _ (minus zs few))
    by false true e f =
        moves cells b l (rw e (digit_first (length zs) false b f)) refl (ap (joined zs) (numbers_byte [] b l (digit-no-space b f)))
        (go _ _ _ (number zs false b [] (rw f) few))
    by false false e f = fails_none cells b l (rw e (digit_none (length zs) false 0 b f)) refl few (nothing (eqb b 32) refl) where
      nothing : (u : Bool) → eqb b 32 ≡ u → numbers_after [] (b ∷ l) ≡ none
      nothing true g = numbers_space [] b l (eqb-true b 32 g) ∙ (rw none-empty)
      nothing false g = numbers_none [] b l (eqb-false b 32 g) (λ field. none_first b field (eqb-false b 45 e) f)

  after_minus : Comes cells (b ∷ l) (Minus (length zs)) (45 ∷ []) zs
  unfolding line_after cells_after
  after_minus = by (is_digit b) refl where
    by : (t : Bool) → is_digit b ≡ t → Comes cells (b ∷ l) (Minus (length zs)) (45 ∷ []) zs
    by true f =
        moves cells b l (digit_first (length zs) true b f) refl (ap (joined zs) (numbers_byte (45 ∷ []) b l (digit-no-space b f)))
        (go _ _ _ (number zs true b [] (rw f) few))
    by false f = fails_none cells b l (digit_none (length zs) true 0 b f) refl few (nothing (eqb b 32) refl) where
      nothing : (u : Bool) → eqb b 32 ≡ u → numbers_after (45 ∷ []) (b ∷ l) ≡ none
      nothing true g = numbers_space (45 ∷ []) b l (eqb-true b 32 g) ∙ (rw none-lone)
      nothing false g = numbers_none (45 ∷ []) b l (eqb-false b 32 g) (λ field. none_minus b field f)

  module _ (negative : Bool) (d : ℕ) (ds : List ℕ) (all : all_digits (d ∷ ds) ≡ true) where
    -- a space ends the number
    after_space : b ≡ 32 → Comes cells (b ∷ l) (Number (length zs) negative (value_of (d ∷ ds))) (signs negative (d ∷ ds)) zs
    unfolding line_after cells_after cells_end
    after_space e = by (in_word32 negative (value_of (d ∷ ds))) (ltb (length zs) 64) refl refl where
      sp : eqb b 32 ≡ true
      sp = eq-eqb b 32 e

      z : ℤ
      z = signed negative (value_of (d ∷ ds))

      found : in_word32 negative (value_of (d ∷ ds)) ≡ true → numbers_after (signs negative (d ∷ ds)) (b ∷ l) ≡ (numbers_after [] l and_if λ ys. some (z ∷ ys))
      found r = numbers_space (signs negative (d ∷ ds)) b l e ∙ (rw (number_in negative d ds all r))

      by : (s t : Bool) → in_word32 negative (value_of (d ∷ ds)) ≡ s → ltb (length zs) 64 ≡ t
          → Comes cells (b ∷ l) (Number (length zs) negative (value_of (d ∷ ds))) (signs negative (d ∷ ds)) zs
      by true true r m =
          let h = ltb-true (length zs) 64 m in
          let n : length (zs ++ (z ∷ [])) ≡ length zs + 1 = length-append zs (z ∷ []) in
          moves cells b l (rw (sp, r, m, n)) (rw (sp, r, m) (sym (sets_append cells 0 zs (z ∷ []) ∙ ap (λ (k : ℕ). sets (sets cells 0 zs) k (z ∷ [])) (omega arith))))
          (ap (joined zs) (found r) ∙ joined_next zs z (numbers_after [] l)) (go _ _ _ (wanted (zs ++ (z ∷ [])) (omega arith)))
      by true false r m =
          fails cells b l (rw (sp, r, m)) (rw (sp, r, m)) few
          (ap (λ (o : Option (List ℤ)). handed (joined zs o)) (found r) ∙ many zs z (numbers_after [] l) (ltb-false (length zs) 64 m))
      by false t r m =
          fails_none cells b l (rw (sp, r)) (rw (sp, r)) few (numbers_space (signs negative (d ∷ ds)) b l e ∙ (rw (number_out negative d ds all r)))

    -- another digit
    after_digit : is_digit b ≡ true → Comes cells (b ∷ l) (Number (length zs) negative (value_of (d ∷ ds))) (signs negative (d ∷ ds)) zs
    unfolding line_after cells_after
    after_digit f = by (leb (value_of (d ∷ ds)) 214748364) refl where
      sp : eqb b 32 ≡ false
      sp = ne_eqb b 32 (digit-no-space b f)

      by : (t : Bool) → leb (value_of (d ∷ ds)) 214748364 ≡ t → Comes cells (b ∷ l) (Number (length zs) negative (value_of (d ∷ ds))) (signs negative (d ∷ ds)) zs
      by true g =
          moves cells b l (rw sp (digit_next (length zs) negative d ds b f (leb-true _ _ g))) (rw sp)
          (ap (joined zs) (numbers_byte (signs negative (d ∷ ds)) b l (digit-no-space b f) ∙ ap (λ (p : List ℕ). numbers_after p l) (signs_append negative (d ∷ ds) (b ∷ []))))
          (go _ _ _ (number zs negative d (ds ++ (b ∷ [])) (all_append (d ∷ ds) (b ∷ []) ∙ (rw (all, f))) few))
      by false g =
          fails_none cells b l (rw sp (digit_large (length zs) negative (value_of (d ∷ ds)) b f (leb-false _ _ g))) (rw sp) few
          (numbers_none (signs negative (d ∷ ds)) b l (digit-no-space b f) (λ field. none_large negative d ds b field all (leb-false _ _ g)))

    after_other : (b ≡ 32 → ⊥) → is_digit b ≡ false → Comes cells (b ∷ l) (Number (length zs) negative (value_of (d ∷ ds))) (signs negative (d ∷ ds)) zs
    unfolding line_after cells_after
    after_other n f =
        fails_none cells b l (rw (ne_eqb b 32 n) (digit_none (length zs) negative (value_of (d ∷ ds)) b f)) (rw (ne_eqb b 32 n)) few
        (numbers_none (signs negative (d ∷ ds)) b l n (λ field. none_byte negative d ds b field all f))

    after_number : Comes cells (b ∷ l) (Number (length zs) negative (value_of (d ∷ ds))) (signs negative (d ∷ ds)) zs
    after_number = by (eqb b 32) (is_digit b) refl refl where
      by : (s t : Bool) → eqb b 32 ≡ s → is_digit b ≡ t → Comes cells (b ∷ l) (Number (length zs) negative (value_of (d ∷ ds))) (signs negative (d ∷ ds)) zs
      by true t e f = after_space (eqb-true b 32 e)
      by false true e f = after_digit f
      by false false e f = after_other (eqb-false b 32 e) f

after : (cells : List ℤ) (b : ℕ) (l : List ℕ) (go : Goes cells l) {s : Line} {p : List ℕ} {zs : List ℤ} → At s p zs → Comes cells (b ∷ l) s p zs
after cells b l go (wanted zs few) = after_wanted cells b l go zs few
after cells b l go (minus zs few) = after_minus cells b l go zs few
after cells b l go (number zs negative d ds all few) = after_number cells b l go zs few negative d ds all

-- ---- the line's end

module _ (cells zs : List ℤ) (few : length zs ≤ 64) where
  -- a number has begun and is none
  end_none : {s : Line} {p : List ℕ} → count_of s ≡ 65 → cells_of s (sets cells 0 zs) ≡ sets (sets cells 0 zs) 0 long_row → number_of p ≡ none → Comes cells [] s p zs
  end_none {s} {p} e f h =
      let o : numbers_after p [] ≡ none = numbers_end p ∙ (rw h) in
      record { ends = rw (over-nil s, cells-nil s (sets cells 0 zs), o) (e ∙ sym long_length, f ∙ stored_over cells 0 zs long_row (rw long_length (omega arith))) }

  end_number : (negative : Bool) (d : ℕ) (ds : List ℕ) → all_digits (d ∷ ds) ≡ true → Comes cells [] (Number (length zs) negative (value_of (d ∷ ds))) (signs negative (d ∷ ds)) zs
  unfolding count_of cells_of cells_end
  end_number negative d ds all = by (in_word32 negative (value_of (d ∷ ds))) (ltb (length zs) 64) refl refl where
    z : ℤ
    z = signed negative (value_of (d ∷ ds))

    found : in_word32 negative (value_of (d ∷ ds)) ≡ true → numbers_after (signs negative (d ∷ ds)) [] ≡ some (z ∷ [])
    found r = numbers_end (signs negative (d ∷ ds)) ∙ (rw (number_in negative d ds all r))

    grows : length (zs ++ (z ∷ [])) ≡ length zs + 1
    grows = length-append zs (z ∷ [])

    by : (s t : Bool) → in_word32 negative (value_of (d ∷ ds)) ≡ s → ltb (length zs) 64 ≡ t
        → Comes cells [] (Number (length zs) negative (value_of (d ∷ ds))) (signs negative (d ∷ ds)) zs
    by true true r m =
        let h = ltb-true (length zs) 64 m in
        let few' = handed_few (zs ++ (z ∷ [])) (rw grows (omega arith)) in
        record {
          ends = rw (over-nil _, cells-nil _ (sets cells 0 zs), found r, few', r, m)
              (sym grows, sym (sets_append cells 0 zs (z ∷ []) ∙ ap (λ (k : ℕ). sets (sets cells 0 zs) k (z ∷ [])) (omega arith)));
        }
    by true false r m =
        let h = ltb-false (length zs) 64 m in
        let many' = handed_many (zs ++ (z ∷ [])) (rw grows (omega arith)) in
        record {
          ends = rw (over-nil _, cells-nil _ (sets cells 0 zs), found r, many', r, m)
              (sym long_length, stored_over cells 0 zs long_row (rw long_length (omega arith)));
        }
    by false t r m = end_none (rw r) (rw r) (number_out negative d ds all r)

at_end_lem : (cells : List ℤ) {s : Line} {p : List ℕ} {zs : List ℤ} → At s p zs → Comes cells [] s p zs
unfolding count_of cells_of
at_end_lem cells (wanted zs few) = end_none cells zs few refl refl none-empty
at_end_lem cells (minus zs few) = end_none cells zs few refl refl none-lone
at_end_lem cells (number zs negative d ds all few) = end_number cells zs few negative d ds all

-- ---- whole lines

comes : (cells : List ℤ) (l : List ℕ) {s : Line} {p : List ℕ} {zs : List ℤ} → At s p zs → Comes cells l s p zs
comes cells [] a = at_end_lem cells a
comes cells (b ∷ l) a = after cells b l (λ s p zs h. comes cells l h) a

joined_nothing : (o : Option (List ℤ)) → joined [] o ≡ o
joined_nothing none = refl
joined_nothing (some ys) = refl

numbers_all : (l : List ℕ) → joined [] (numbers_after [] l) ≡ numbers_of (fields_of l)
unfolding numbers_after
numbers_all l = joined_nothing _ ∙ ap numbers_of (begun_nothing l)

-- what a line hands over: its numbers stand from the first cell on
pub row_ends : (cells : List ℤ) (l : List ℕ)
    → (count_of (line_over Start l) ≡ length (handed_of l)) × (cells_of (line_over Start l) (cells_over Start cells l) ≡ sets cells 0 (handed_of l))
unfolding handed_of row_of line_over cells_over line_after cells_after count_of cells_of
row_ends cells [] = (refl, refl)
row_ends cells (b ∷ l) = rw (numbers_all (b ∷ l)) at (comes cells (b ∷ l) (wanted [] (omega arith))).ends

-- a row that has as many numbers as an image may have inputs is handed over as it is, and nothing else of such a length is
pub handed_row_lem : (l : List ℕ) (row : List ℤ) → row_of l ≡ some row → length row ≤ 64 → handed_of l ≡ row
unfolding handed_of
handed_row_lem l row e h = rw e (handed_few row h)

pub row_handed : (l : List ℕ) → length (handed_of l) ≤ 64 → row_of l ≡ some (handed_of l)
unfolding handed_of
row_handed l h = by (row_of l) h where
  long : {A : Type 0} → length long_row ≤ 64 → A
  long g = absurd (omega (arith, long_length))

  chosen : (row : List ℤ) (t : Bool) → length (cond t row long_row) ≤ 64 → some row ≡ some (cond t row long_row)
  chosen row true g = refl
  chosen row false g = long g

  by : (o : Option (List ℤ)) → length (handed o) ≤ 64 → o ≡ some (handed o)
  by none g = long g
  by (some row) g = chosen row (leb (length row) 64) g
