-- A token's kind tells its spelling, and its spelling its kind. Assumes nothing.
use mathlib.Core.Path.{◌≡◌, refl, ap, sym, ◌∙◌, subst}
use mathlib.Core.List.{List, [], ◌∷◌}
use mathlib.Core.Bool.{Bool, true, false, false≢true, ◌&&◌, cond}
use mathlib.Core.Logic.{inl, inr}
use Prim.Native.Nat.{ℕ, zero, suc, ◌+◌, ◌-◌, ◌≤◌, ◌<◌}
use native.Mathlib.Omega.{arith}
use lib.ListN.{length, get_or, take, drop, get_or-eq_default}
use lib.Dec.{eqb, ltb, leb}
use borrow.Author.Tests.{eqb-true, ltb-true, ltb-false, lt-leb}
use Rattle.lexer.specs.Bytes.{part, same_bytes, capital, capitals}
use Rattle.lexer.specs.Token.{Kind, kind_number, unknown, ending, name, previous, digits, input_word, var_word, init_word, mod_word, next_word, dots, arrow, less_equal, greater_equal, not_equal, semicolon, colon, open_round, close_round, open_square, close_square, tilde, ampersand, bar, equals, less, greater, plus, minus, star, slash, other_case, watch_word, always_word, after_word, timer_word, of_word, limit_word, spelling_of, word_kinds, pair_kinds, sign_kinds, is, TokenRead, token, fault}
use Rattle.lexer.specs.Lexer.{is_space, is_digit, is_letter, is_alphanumeric, run_on, run_end, same_name, same_in, grammar_word, exact_word, kind_in, word_of, pair_of, sign_of, read_of, sign_at, word_at, digits_at, previous_at, token_of, token_past, token_at}
use Rattle.lexer.specs.Spelling.{AllBytes, IsWord, IsDigits, NoneOf, NoneAgree, OneAgrees, Spelling}
use Rattle.lexer.proofs.Laws.{cond_prop, run_on_ge, run_from, run_within, run_some, token_at_moved}
use Rattle.lexer.proofs.Same.{same_bytes_lem, same_kind, bytes_differ, same_name_lem, names_same}
use Rattle.lexer.proofs.Values.{part_cons}

-- the kinds with one spelling are those from number 5 on, but for a word in another case
unfoldable pub is_fixed : Kind → Bool
is_fixed k = cond (eqb (kind_number k) 31) false (ltb 4 (kind_number k))

pub fixed_spelling : (k : Kind) → is_fixed k ≡ true → (w : List ℕ) → (Spelling k w → w ≡ spelling_of k) × (w ≡ spelling_of k → Spelling k w)
unfolding is_fixed kind_number
fixed_spelling unknown e w = let z : ◌≡◌ {A = ℕ} 0 1 = cc in absurd (omega arith)
fixed_spelling ending e w = let z : ◌≡◌ {A = ℕ} 0 1 = cc in absurd (omega arith)
fixed_spelling name e w = let z : ◌≡◌ {A = ℕ} 0 1 = cc in absurd (omega arith)
fixed_spelling previous e w = let z : ◌≡◌ {A = ℕ} 0 1 = cc in absurd (omega arith)
fixed_spelling digits e w = let z : ◌≡◌ {A = ℕ} 0 1 = cc in absurd (omega arith)
fixed_spelling input_word e w = (λ h. h, λ h. h)
fixed_spelling var_word e w = (λ h. h, λ h. h)
fixed_spelling init_word e w = (λ h. h, λ h. h)
fixed_spelling mod_word e w = (λ h. h, λ h. h)
fixed_spelling next_word e w = (λ h. h, λ h. h)
fixed_spelling dots e w = (λ h. h, λ h. h)
fixed_spelling arrow e w = (λ h. h, λ h. h)
fixed_spelling less_equal e w = (λ h. h, λ h. h)
fixed_spelling greater_equal e w = (λ h. h, λ h. h)
fixed_spelling not_equal e w = (λ h. h, λ h. h)
fixed_spelling semicolon e w = (λ h. h, λ h. h)
fixed_spelling colon e w = (λ h. h, λ h. h)
fixed_spelling open_round e w = (λ h. h, λ h. h)
fixed_spelling close_round e w = (λ h. h, λ h. h)
fixed_spelling open_square e w = (λ h. h, λ h. h)
fixed_spelling close_square e w = (λ h. h, λ h. h)
fixed_spelling tilde e w = (λ h. h, λ h. h)
fixed_spelling ampersand e w = (λ h. h, λ h. h)
fixed_spelling bar e w = (λ h. h, λ h. h)
fixed_spelling equals e w = (λ h. h, λ h. h)
fixed_spelling less e w = (λ h. h, λ h. h)
fixed_spelling greater e w = (λ h. h, λ h. h)
fixed_spelling plus e w = (λ h. h, λ h. h)
fixed_spelling minus e w = (λ h. h, λ h. h)
fixed_spelling star e w = (λ h. h, λ h. h)
fixed_spelling slash e w = (λ h. h, λ h. h)
fixed_spelling other_case e w = let z : ◌≡◌ {A = ℕ} 0 1 = cc in absurd (omega arith)
fixed_spelling watch_word e w = (λ h. h, λ h. h)
fixed_spelling always_word e w = (λ h. h, λ h. h)
fixed_spelling after_word e w = (λ h. h, λ h. h)
fixed_spelling timer_word e w = (λ h. h, λ h. h)
fixed_spelling of_word e w = (λ h. h, λ h. h)
fixed_spelling limit_word e w = (λ h. h, λ h. h)

-- ---- words of the grammar are no names

none_in : (ks : List Kind) (w : List ℕ) (other : Kind) → NoneOf ks w → kind_in ks w other ≡ other
none_in [] w other h = refl
none_in (k ∷ ks) w other h = cond_prop (λ (x : Kind). x ≡ other) (same_bytes w (spelling_of k)) _ _ (λ e. absurd (h.0 (same_bytes_lem w (spelling_of k) e))) (λ e. none_in ks w other h.1)

none_same : (ks : List Kind) (w : List ℕ) → NoneAgree ks w → same_in ks w ≡ false
none_same [] w h = refl
none_same (k ∷ ks) w h = cond_prop (λ (x : Bool). x ≡ false) (same_name w (spelling_of k)) _ _ (λ e. absurd (h.0 (same_name_lem w (spelling_of k) e))) (λ e. none_same ks w h.1)

same_none : (ks : List Kind) (w : List ℕ) → same_in ks w ≡ false → NoneAgree ks w
same_none [] w e = tt
same_none (k ∷ ks) w e = go (same_name w (spelling_of k)) refl (λ q. same_none ks w q) e
  where
    go : (t : Bool) → same_name w (spelling_of k) ≡ t → (same_in ks w ≡ false → NoneAgree ks w) → cond t true (same_in ks w) ≡ false → NoneAgree (k ∷ ks) w
    go true t f q = absurd (false≢true (sym q))
    go false t f q = (λ z. false≢true (sym t ∙ names_same w (spelling_of k) z), f q)

one_same : (ks : List Kind) (w : List ℕ) → OneAgrees ks w → same_in ks w ≡ true
one_same [] w h = absurd h
one_same (k ∷ ks) w (inl e) = rw (names_same w (spelling_of k) e)
one_same (k ∷ ks) w (inr h) = cond_prop (λ (x : Bool). x ≡ true) (same_name w (spelling_of k)) _ _ (λ e. refl) (λ e. one_same ks w h)

same_one : (ks : List Kind) (w : List ℕ) → same_in ks w ≡ true → OneAgrees ks w
same_one [] w e = absurd (false≢true e)
same_one (k ∷ ks) w e = go (same_name w (spelling_of k)) refl (λ q. same_one ks w q) e
  where
    go : (t : Bool) → same_name w (spelling_of k) ≡ t → (same_in ks w ≡ true → OneAgrees ks w) → cond t true (same_in ks w) ≡ true → OneAgrees (k ∷ ks) w
    go true t f q = inl (same_name_lem w (spelling_of k) t)
    go false t f q = inr (f q)

-- no name is a word of the grammar, in any case
pub word_not : (w : List ℕ) → NoneAgree word_kinds w → grammar_word w ≡ false
unfolding grammar_word
word_not w h = none_same word_kinds w h

pub word_some : (w : List ℕ) → OneAgrees word_kinds w → grammar_word w ≡ true
unfolding grammar_word
word_some w h = one_same word_kinds w h

pub not_word : (w : List ℕ) → grammar_word w ≡ false → NoneAgree word_kinds w
unfolding grammar_word
not_word w e = same_none word_kinds w e

pub word-name : (w : List ℕ) → NoneAgree word_kinds w → word_of w ≡ name
unfolding word_of
word-name w h = rw (word_not w h)

-- which word it is
abbrev AllFixed : List Kind → Type 0
AllFixed [] = Unit {0}
AllFixed (k ∷ ks) = (is_fixed k ≡ true) × AllFixed ks

word_in : (ks : List Kind) (w : List ℕ) → AllFixed ks → (NoneOf ks w → Spelling other_case w) → Spelling (kind_in ks w other_case) w
word_in [] w f g = g tt
word_in (k ∷ ks) w f g =
    cond_prop (λ (x : Kind). Spelling x w) (same_bytes w (spelling_of k)) _ _ (λ e. (fixed_spelling k f.0 w).1 (same_bytes_lem w (spelling_of k) e))
    (λ e. word_in ks w f.1 (λ h. g (bytes_differ w (spelling_of k) e, h)))

exact_spelled : (w : List ℕ) → IsWord w → grammar_word w ≡ true → Spelling (exact_word w) w
unfolding exact_word grammar_word is_fixed kind_number
exact_spelled w h e = word_in word_kinds w (refl, (refl, (refl, (refl, (refl, (refl, (refl, (refl, (refl, (refl, (refl, tt))))))))))) (λ n. record { is_word = h; some_word = same_one word_kinds w e; other_bytes = n })

no_name_in : (ks : List Kind) (w : List ℕ) → AllFixed ks → kind_in ks w other_case ≡ name → ⊥
unfolding is_fixed kind_number
no_name_in [] w f e = let z : kind_number other_case ≡ kind_number name = ap kind_number e in omega arith
no_name_in (k ∷ ks) w f e = go (same_bytes w (spelling_of k)) (λ q. no_name_in ks w f.1 q) e
  where
    go : (t : Bool) → (kind_in ks w other_case ≡ name → ⊥) → cond t k (kind_in ks w other_case) ≡ name → ⊥
    go true g q = let z : false ≡ true = subst (λ (x : Kind). is_fixed x ≡ true) q f.0 in false≢true z
    go false g q = g q

pub name_word : (w : List ℕ) → word_of w ≡ name → NoneAgree word_kinds w
unfolding word_of exact_word is_fixed kind_number
name_word w e = go (grammar_word w) refl e
  where
    go : (t : Bool) → grammar_word w ≡ t → cond t (kind_in word_kinds w other_case) name ≡ name → NoneAgree word_kinds w
    go true t q = absurd (no_name_in word_kinds w (refl, (refl, (refl, (refl, (refl, (refl, (refl, (refl, (refl, (refl, (refl, tt))))))))))) q)
    go false t q = not_word w t

-- ---- from kind to spelling

none_run : (p : ℕ → Bool) (n : ℕ) → AllBytes p (take n [])
none_run p zero = tt
none_run p (suc n) = tt

-- a run's bytes all pass its test
all_run : (p : ℕ → Bool) (l : List ℕ) (i : ℕ) → AllBytes p (take (run_on p l i - i) l)
unfolding run_on
all_run p [] i = none_run p (run_on p [] i - i)
all_run p (b ∷ l) i =
    cond_prop (λ (x : ℕ). AllBytes p (take (x - i) (b ∷ l))) (p b) _ _
    (λ e. let h : run_on p l (i + 1) - i ≡ suc (run_on p l (i + 1) - (i + 1)) = omega (arith, run_on_ge p l (i + 1)) in rw h (e, all_run p l (i + 1)))
    (λ e. let h : i - i ≡ 0 = omega arith in rw h tt)

pub part_all : (p : ℕ → Bool) (text : List ℕ) (s : ℕ) → AllBytes p (part text s (run_end p text s))
unfolding run_end
part_all p text s = all_run p (drop s text) s

pub part_one : (text : List ℕ) (s : ℕ) → s + 1 ≤ length text → part text s (s + 1) ≡ get_or text s 0 ∷ []
part_one text s h = let e : s + 1 - (s + 1) ≡ 0 = omega arith in part_cons text s (s + 1) (omega arith) h ∙ rw e

pub part_two : (text : List ℕ) (s : ℕ) → s + 2 ≤ length text → part text s (s + 2) ≡ get_or text s 0 ∷ get_or text (s + 1) 0 ∷ []
part_two text s h =
    let e : s + 1 + 1 ≡ s + 2 = omega arith in
    part_cons text s (s + 2) (omega arith) h ∙ ap (λ (l : List ℕ). get_or text s 0 ∷ l) (subst (λ (n : ℕ). part text (s + 1) n ≡ get_or text (s + 1) 0 ∷ []) e (part_one text (s + 1) (omega arith)))

-- the part of a text that a run of letters and digits after a letter makes
pub run_word : (text : List ℕ) (s : ℕ) → s < length text → is_letter (get_or text s 0) ≡ true → IsWord (part text s (run_end is_alphanumeric text s))
unfolding is_alphanumeric
run_word text s h e =
    let lt = run_some is_alphanumeric text s h (rw e) in
    let w : AllBytes is_alphanumeric (part text s (run_end is_alphanumeric text s)) = part_all is_alphanumeric text s in
    let q = part_cons text s (run_end is_alphanumeric text s) lt (run_within is_alphanumeric text s (omega arith)) in
    rw q (e, (subst (AllBytes is_alphanumeric) q w).1)

pub run_digits : (text : List ℕ) (s : ℕ) → s < length text → is_digit (get_or text s 0) ≡ true → IsDigits (part text s (run_end is_digit text s))
run_digits text s h e =
    let lt = run_some is_digit text s h e in
    let w : AllBytes is_digit (part text s (run_end is_digit text s)) = part_all is_digit text s in
    let q = part_cons text s (run_end is_digit text s) lt (run_within is_digit text s (omega arith)) in
    rw q (subst (AllBytes is_digit) q w)

-- a word of the grammar is spelled as its kind says, and any other is a name
pub word_spelled : (w : List ℕ) → IsWord w → Spelling (word_of w) w
unfolding word_of
word_spelled w h = cond_prop (λ (x : Kind). Spelling x w) (grammar_word w) _ _ (λ e. exact_spelled w h e) (λ e. record { is_word = h; no_word = not_word w e })

-- bytes that a table lookup finds are spelled as the kind found says
in_spelled : (ks : List Kind) (w : List ℕ) → AllFixed ks → is (kind_in ks w unknown) unknown ≡ false → Spelling (kind_in ks w unknown) w
unfolding is kind_number
in_spelled [] w f h = let z : ◌≡◌ {A = ℕ} 0 1 = cc in absurd (omega arith)
in_spelled (k ∷ ks) w f h =
    cond_prop (λ (x : Kind). is x unknown ≡ false → Spelling x w) (same_bytes w (spelling_of k)) _ _
    (λ e i. (fixed_spelling k f.0 w).1 (same_bytes_lem w (spelling_of k) e)) (λ e i. in_spelled ks w f.1 i) h

-- a sign of one byte
pub sign_spelled : (b : ℕ) → is (sign_of b) unknown ≡ false → Spelling (sign_of b) (b ∷ [])
unfolding sign_of is_fixed kind_number
sign_spelled b = in_spelled sign_kinds (b ∷ []) (refl, (refl, (refl, (refl, (refl, (refl, (refl, (refl, (refl, (refl, (refl, (refl, (refl, (refl, (refl, (refl, tt))))))))))))))))

-- a sign of two bytes
pub pair_spelled : (a b : ℕ) → is (pair_of a b) unknown ≡ false → Spelling (pair_of a b) (a ∷ b ∷ [])
unfolding pair_of is_fixed kind_number
pair_spelled a b = in_spelled pair_kinds (a ∷ b ∷ []) (refl, (refl, (refl, (refl, (refl, tt)))))

-- what is read within the text is spelled as its kind says
abbrev Told : List ℕ → TokenRead → Type 0
Told text (token k s n) = n ≤ length text → Spelling k (part text s n)
Told text (fault p) = Unit {0}

pub sign_told : (text : List ℕ) (s : ℕ) → Told text (sign_at (get_or text s 0) (get_or text (s + 1) 0) s)
unfolding sign_at read_of
sign_told text s =
    let a = get_or text s 0 in
    let b = get_or text (s + 1) 0 in
    cond_prop (Told text) (is (pair_of a b) unknown) _ _
    (λ e. cond_prop (Told text) (is (sign_of a) unknown) _ _ (λ e2. tt) (λ e2 h. rw (part_one text s h) (sign_spelled a e2)))
    (λ e h. rw (part_two text s h) (pair_spelled a b e))

pub in_text_lem : (text : List ℕ) (i : ℕ) → is_letter (get_or text i 0) ≡ true → i < length text
unfolding is_letter
in_text_lem text i e = go (ltb i (length text)) refl
  where
    go : (t : Bool) → ltb i (length text) ≡ t → i < length text
    go true t = ltb-true i (length text) t
    go false t =
        let z : get_or text i 0 ≡ 0 = get_or-eq_default text 0 (ltb-false i (length text) t) in
        let y : false ≡ true = subst (λ (b : ℕ). cond (leb 65 b && ltb b 91) true (leb 97 b && ltb b 123) ≡ true) z e in
        let x : ◌≡◌ {A = ℕ} 0 1 = cc in
        absurd (omega arith)

previous_told : (text : List ℕ) (s : ℕ) → get_or text s 0 ≡ 95 → Told text (previous_at text s)
unfolding previous_at
previous_told text s e =
    let n = run_end is_alphanumeric text (s + 1) in
    cond_prop (Told text) (is_letter (get_or text (s + 1) 0)) _ _
    (λ e1. cond_prop (Told text) (is (word_of (part text (s + 1) n)) name) _ _
    (λ e2 h.
    let lt : s + 1 ≤ n = run_from is_alphanumeric text (s + 1) in
    let l2 : s + 1 < length text = in_text_lem text (s + 1) e1 in
    record {
      rest = part text (s + 1) n;
      is_cons = part_cons text s n (omega arith) h ∙ ap (λ (x : ℕ). x ∷ part text (s + 1) n) e;
      is_name = record { is_word = run_word text (s + 1) l2 e1; no_word = name_word (part text (s + 1) n) (same_kind (word_of (part text (s + 1) n)) name e2) };
    })
    (λ e2. tt))
    (λ e1. tt)

of_told : (text : List ℕ) (s : ℕ) → s < length text → Told text (token_of text s (get_or text s 0))
unfolding token_of word_at digits_at
of_told text s h =
    let b = get_or text s 0 in
    cond_prop (Told text) (is_letter b) _ _ (λ e l. word_spelled (part text s (run_end is_alphanumeric text s)) (run_word text s h e))
    (λ n1. cond_prop (Told text) (is_digit b) _ _ (λ e l. run_digits text s h e)
    (λ n2. cond_prop (Told text) (eqb b 95) _ _ (λ e. previous_told text s (eqb-true b 95 e)) (λ n3. sign_told text s)))

-- a token that has a byte is spelled as its kind says
pub token_spelled : (text : List ℕ) (a : ℕ) (k : Kind) (s n : ℕ) → a ≤ length text → s < n → token_at text a ≡ token k s n → Spelling k (part text s n)
unfolding token_at token_past
token_spelled text a k s n h l e = go (ltb (run_end is_space text a) (length text)) refl e
  where
    go : (t : Bool) → ltb (run_end is_space text a) (length text) ≡ t → cond t (token_of text (run_end is_space text a) (get_or text (run_end is_space text a) 0)) (token ending (run_end is_space text a) (run_end is_space text a)) ≡ token k s n → Spelling k (part text s n)
    go true t q = subst (Told text) q (of_told text (run_end is_space text a) (ltb-true _ _ t)) (token_at_moved text a k s n h e).2
    go false t q = let i : run_end is_space text a ≡ s = cc in let j : run_end is_space text a ≡ n = cc in absurd (omega arith)

-- the end of the text is at its length
pub end_place : (text : List ℕ) (a s n : ℕ) → a ≤ length text → token_at text a ≡ token ending s n → (s ≡ length text) × (n ≡ length text)
unfolding token_at token_past
end_place text a s n h e = go (ltb (run_end is_space text a) (length text)) refl e
  where
    go : (t : Bool) → ltb (run_end is_space text a) (length text) ≡ t → cond t (token_of text (run_end is_space text a) (get_or text (run_end is_space text a) 0)) (token ending (run_end is_space text a) (run_end is_space text a)) ≡ token ending s n → (s ≡ length text) × (n ≡ length text)
    go true t q = absurd (subst (Told text) q (of_told text (run_end is_space text a) (ltb-true _ _ t)) (token_at_moved text a ending s n h e).2)
    go false t q =
        let i : run_end is_space text a ≡ s = cc in
        let j : run_end is_space text a ≡ n = cc in
        let l = ltb-false (run_end is_space text a) (length text) t in
        let m = run_within is_space text a h in
        (omega arith, omega arith)

-- ---- from spelling to kind

sign_kind : ℕ → List ℕ → Kind
sign_kind b [] = sign_of b
sign_kind b (c ∷ []) = pair_of b c
sign_kind b (c ∷ d ∷ l) = unknown

-- the kind of the token that a spelling is
pub kind_spelled : List ℕ → Kind
kind_spelled [] = unknown
kind_spelled (b ∷ l) = cond (is_letter b) (word_of (b ∷ l)) (cond (is_digit b) digits (cond (eqb b 95) previous (sign_kind b l)))

pub digit_letter : (b : ℕ) → is_digit b ≡ true → is_letter b ≡ false
unfolding is_digit is_letter
digit_letter b e = go (leb 48 b) refl (ltb b 58) refl e
  where
    go : (t : Bool) → leb 48 b ≡ t → (u : Bool) → ltb b 58 ≡ u → t && u ≡ true → cond (leb 65 b && ltb b 91) true (leb 97 b && ltb b 123) ≡ false
    go true t true u h = let l = ltb-true b 58 u in rw (lt-leb 65 b (omega arith), lt-leb 97 b (omega arith))
    go true t false u h = let z : ◌≡◌ {A = ℕ} 0 1 = cc in absurd (omega arith)
    go false t v u h = let z : ◌≡◌ {A = ℕ} 0 1 = cc in absurd (omega arith)

name_kind : (w : List ℕ) → IsWord w → word_of w ≡ name → kind_spelled w ≡ name
unfolding kind_spelled
name_kind [] h e = absurd h
name_kind (b ∷ l) h e = rw (h.0, e)

other_kind : (w : List ℕ) → IsWord w → OneAgrees word_kinds w → NoneOf word_kinds w → kind_spelled w ≡ other_case
unfolding kind_spelled word_of grammar_word exact_word
other_kind [] h a n = absurd h
other_kind (b ∷ l) h a n = rw (h.0, one_same word_kinds (b ∷ l) a) (none_in word_kinds (b ∷ l) other_case n)

digits_kind : (w : List ℕ) → IsDigits w → kind_spelled w ≡ digits
unfolding kind_spelled
digits_kind [] h = absurd h
digits_kind (b ∷ l) h = rw (digit_letter b h.0, h.0)

kind_of_lem : (k : Kind) (w : List ℕ) → Spelling k w → kind_spelled w ≡ k
unfolding kind_spelled sign_kind is_letter is_digit word_of grammar_word exact_word same_name capitals capital same_bytes sign_of pair_of
kind_of_lem unknown w h = absurd h
kind_of_lem ending w h = absurd h
kind_of_lem name w h = name_kind w h.is_word (word-name w h.no_word)
kind_of_lem previous w h = rw h.is_cons
kind_of_lem digits w h = digits_kind w h
kind_of_lem input_word w h = rw h
kind_of_lem var_word w h = rw h
kind_of_lem init_word w h = rw h
kind_of_lem mod_word w h = rw h
kind_of_lem next_word w h = rw h
kind_of_lem dots w h = rw h
kind_of_lem arrow w h = rw h
kind_of_lem less_equal w h = rw h
kind_of_lem greater_equal w h = rw h
kind_of_lem not_equal w h = rw h
kind_of_lem semicolon w h = rw h
kind_of_lem colon w h = rw h
kind_of_lem open_round w h = rw h
kind_of_lem close_round w h = rw h
kind_of_lem open_square w h = rw h
kind_of_lem close_square w h = rw h
kind_of_lem tilde w h = rw h
kind_of_lem ampersand w h = rw h
kind_of_lem bar w h = rw h
kind_of_lem equals w h = rw h
kind_of_lem less w h = rw h
kind_of_lem greater w h = rw h
kind_of_lem plus w h = rw h
kind_of_lem minus w h = rw h
kind_of_lem star w h = rw h
kind_of_lem slash w h = rw h
kind_of_lem other_case w h = other_kind w h.is_word h.some_word h.other_bytes
kind_of_lem watch_word w h = rw h
kind_of_lem always_word w h = rw h
kind_of_lem after_word w h = rw h
kind_of_lem timer_word w h = rw h
kind_of_lem of_word w h = rw h
kind_of_lem limit_word w h = rw h

-- one spelling is of one kind
pub one_kind : (k m : Kind) (w : List ℕ) → Spelling k w → Spelling m w → k ≡ m
one_kind k m w h g = sym (kind_of_lem k w h) ∙ kind_of_lem m w g
