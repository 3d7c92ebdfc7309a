-- Reading tokens. Document 01, "The text", first paragraph: each comment is a sentence of it, or says how one is read. Assumes nothing.
use Rattle.std.specs.Prelude.{ℕ, ◌+◌, ◌-◌, ◌*◌, ◌%◌, Bool, true, false, ◌&&◌, cond, List, [], ◌∷◌, length, get_or, drop, ltb, leb, eqb}
use Rattle.limits.specs.Limits.{spelling_limit}
use Rattle.lexer.specs.Bytes.{part, same_bytes, capitals}
use Rattle.lexer.specs.Token.{Kind, unknown, ending, name, previous, digits, other_case, spelling_of, word_kinds, pair_kinds, sign_kinds, is, TokenRead, token, fault}

-- ---- bytes

-- Space, tab, CR and LF separate.
unfoldable pub is_space : ℕ → Bool
is_space b = cond (eqb b 32) true (cond (eqb b 9) true (cond (eqb b 10) true (eqb b 13)))

-- Letters and digits are those of ASCII.
unfoldable pub is_digit : ℕ → Bool
is_digit b = leb 48 b && ltb b 58

unfoldable pub is_letter : ℕ → Bool
is_letter b = cond (leb 65 b && ltb b 91) true (leb 97 b && ltb b 123)

unfoldable pub is_alphanumeric : ℕ → Bool
is_alphanumeric b = cond (is_letter b) true (is_digit b)

-- ---- runs: longest match

-- the end of a run of such bytes that has come to i, with l the rest of the text from there
unfoldable pub run_on : (ℕ → Bool) → List ℕ → ℕ → ℕ
run_on p [] i = i
run_on p (b ∷ l) i = let r = run_on p l (i + 1) in cond (p b) r i

unfoldable pub run_end : (ℕ → Bool) → List ℕ → ℕ → ℕ
run_end p text at = run_on p (drop at text) at

-- ---- names

-- Names are the same when they agree with a to z read as A to Z (document 02, A.2); a name is the part of the text itself that spells it
-- (`part`).
unfoldable pub same_name : List ℕ → List ℕ → Bool
same_name a b = same_bytes (capitals a) (capitals b)

-- the kind among those listed that the bytes spell, by the table, or else another
abbrev pub kind_in : List Kind → List ℕ → Kind → Kind
kind_in [] w other = other
kind_in (k ∷ ks) w other = let r = kind_in ks w other in cond (same_bytes w (spelling_of k)) k r

-- whether the bytes are the same as the spelling of one of the kinds listed
abbrev pub same_in : List Kind → List ℕ → Bool
same_in [] w = false
same_in (k ∷ ks) w = let r = same_in ks w in cond (same_name w (spelling_of k)) true r

-- a word of the grammar, in its own case or another
unfoldable pub grammar_word : List ℕ → Bool
grammar_word run = same_in word_kinds run

-- which one; in another case it is none of them
unfoldable pub exact_word : List ℕ → Kind
exact_word run = kind_in word_kinds run other_case

-- A name is a letter, then letters or digits: such a run is a word of the grammar, else a name.
unfoldable pub word_of : List ℕ → Kind
word_of run = let word = exact_word run in cond (grammar_word run) word name

-- 1 to 16 bytes (a longer run is a name too, but is refused 8): the name that begins at s and ends before n is over-long.
unfoldable pub over_long : ℕ → ℕ → Bool
over_long s n = ltb spelling_limit (n - s)

-- ---- signs

-- of two bytes, a and b
unfoldable pub pair_of : ℕ → ℕ → Kind
pair_of a b = kind_in pair_kinds (a ∷ b ∷ []) unknown

-- of one byte
unfoldable pub sign_of : ℕ → Kind
sign_of b = kind_in sign_kinds (b ∷ []) unknown

-- a token, unless it is of no kind
unfoldable pub read_of : Kind → ℕ → ℕ → TokenRead
read_of k s n = cond (is k unknown) (fault s) (token k s n)

-- Tokens are read by longest match: a sign of two bytes before one of one byte. At s stands a, then b.
unfoldable pub sign_at : ℕ → ℕ → ℕ → TokenRead
sign_at a b s =
    let one = read_of (sign_of a) s (s + 1) in
    let two = token (pair_of a b) s (s + 2) in
    cond (is (pair_of a b) unknown) one two

-- ---- tokens

-- a run of letters and digits at s, which begins with a letter
unfoldable pub word_at : List ℕ → ℕ → TokenRead
word_at text s = let e = run_end is_alphanumeric text s in token (word_of (part text s e)) s e

-- runs of digits
unfoldable pub digits_at : List ℕ → ℕ → TokenRead
digits_at text s = token digits s (run_end is_digit text s)

-- `_` directly before a name makes a previous-value token; before anything else, a word of the grammar included, it is lone.
unfoldable pub previous_at : List ℕ → ℕ → TokenRead
previous_at text s =
    let e = run_end is_alphanumeric text (s + 1) in
    let named = cond (is (word_of (part text (s + 1) e)) name) (token previous s e) (fault s) in
    cond (is_letter (get_or text (s + 1) 0)) named (fault s)

-- the token whose first byte, b, is at s
unfoldable pub token_of : List ℕ → ℕ → ℕ → TokenRead
token_of text s b =
    let word = word_at text s in
    let number = digits_at text s in
    let underscore = previous_at text s in
    let sign = sign_at b (get_or text (s + 1) 0) s in
    cond (is_letter b) word (cond (is_digit b) number (cond (eqb b 95) underscore sign))

-- the token at s, past the space
unfoldable pub token_past : List ℕ → ℕ → TokenRead
token_past text s =
    let t = token_of text s (get_or text s 0) in
    cond (ltb s (length text)) t (token ending s s)

-- the first token at or after `at`
unfoldable pub token_at : List ℕ → ℕ → TokenRead
token_at text at = token_past text (run_end is_space text at)

-- ---- equality of tokens: the same kind and spelling; names, behind a `_` too, are the same as said above

unfoldable pub same_spelling : Kind → List ℕ → List ℕ → Bool
same_spelling k a b = let names = same_name a b in let others = same_bytes a b in cond (is k name) names (cond (is k previous) names others)

unfoldable pub same_token : List ℕ → Kind → ℕ → ℕ → Kind → ℕ → ℕ → Bool
same_token text k s n k2 s2 n2 = let r = same_spelling k (part text s n) (part text s2 n2) in cond (is k k2) r false

-- ---- the value of a run of digits

-- A digit's byte is 48 (three times 16) and its value: b − 48 of a digit is the remainder by 16 (law `digit_value`), which the code works
-- out of any byte.
abbrev pub digit_value : ℕ → ℕ
digit_value b = b % 16

-- after the value v
unfoldable pub value_on : List ℕ → ℕ → ℕ
value_on [] v = v
value_on (b ∷ l) v = value_on l (10 * v + digit_value b)

unfoldable pub value_of : List ℕ → ℕ
value_of l = value_on l 0
