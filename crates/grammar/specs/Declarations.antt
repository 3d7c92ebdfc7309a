-- Declarations of names. Document 01, "The text". Assumes nothing.
use Rattle.std.specs.Prelude.{ℕ, zero, suc, Bool, true, ◌&&◌, cond, List, [], ◌∷◌, ◌++◌, map, length, ltb, ℤ, pos, neg_ℤ}
use Rattle.std.specs.Int.Signed.{le_z}
use Rattle.limits.specs.Limits.{name_limit, not_allowed, out_of_limit, wrong_name, too_many}
use Rattle.arith.specs.Values.{is_int32}
use Rattle.lexer.specs.Bytes.{part}
use Rattle.lexer.specs.Token.{Kind, name, digits, init_word, dots, semicolon, minus, is}
use Rattle.lexer.specs.Lexer.{token_at, over_long, value_of}
use Rattle.lexer.specs.Names.{id_of}
use Rattle.semantics.specs.Program.{Name}
use Rattle.grammar.specs.Parsed.{Parsed, accepted, refused, and_then, on_token, on_option, sign, followed, phrase, item_bound}

unfoldable pub in_range : ℤ → ℤ → ℤ → Bool
in_range low high z = le_z low z && le_z z high

-- ---- signed numbers, refused by 3 at their digits unless they are in limit and pass a test

-- the digits' token of kind k from s to n; `signed` puts the sign to their value
unfoldable pub signed_digits : (ℤ → Bool) → (ℤ → ℤ) → List ℕ → Kind → ℕ → ℕ → Parsed ℤ
signed_digits test signed text k s n =
    let z = signed (pos (value_of (part text s n))) in
    let tested = cond (is_int32 z && test z) (accepted z n) (refused out_of_limit s) in
    cond (is k digits) tested (refused not_allowed s)

unfoldable pub bound_at : (ℤ → Bool) → List ℕ → ℕ → Parsed ℤ
bound_at test text at =
    on_token (token_at text at)
    (λ k s n.
    let below = on_token (token_at text n) (λ k s n. signed_digits test neg_ℤ text k s n) in
    let above = signed_digits test (λ z. z) text k s n in
    cond (is k minus) below above)

-- ---- a declaration, after its word

-- the names by their spellings, in the order of their ids
abbrev pub spellings : List Name → List (List ℕ)
spellings names = map (λ x. x.spelling) names

-- a new name's part of the text: 4 if it is declared already, 8 if it is over-long or the 65th. (An over-long name is never 4 here:
-- no name declared is over-long.)
unfoldable pub new_name : List ℕ → List Name → ℕ → Parsed (List ℕ)
new_name text names at =
    on_token (token_at text at)
    (λ k s n.
    let w = part text s n in
    let fresh = cond (over_long s n) (refused too_many s) (cond (ltb (length names) name_limit) (accepted w n) (refused too_many s)) in
    let checked = on_option (id_of (spellings names) w) fresh (λ i. refused wrong_name s) in
    cond (is k name) checked (refused not_allowed s))

-- the start and the `;`: an absent start is 0
unfoldable pub start_at : List ℕ → ℤ → ℤ → ℕ → Parsed ℤ
start_at text low high at =
    on_token (token_at text at)
    (λ k s n.
    let given = and_then (bound_at (in_range low high) text n) (λ z m. followed text (sign semicolon ∷ []) z m) in
    let absent = cond (in_range low high (pos 0)) (accepted (pos 0) n) (refused out_of_limit s) in
    cond (is k init_word) given (cond (is k semicolon) absent (refused not_allowed s)))

-- `go 0..1 init 0;` after `input` or `var`
unfoldable pub declaration : List ℕ → List Name → ℕ → Parsed Name
declaration text names at =
    and_then (new_name text names at) (λ w n1.
    and_then (bound_at (λ z. true) text n1) (λ low n2.
    and_then (phrase text (sign dots ∷ []) n2) (λ u n3.
    and_then (bound_at (le_z low) text n3) (λ high n4.
    and_then (start_at text low high n4) (λ start n5.
    accepted (record { spelling = w; range = record { low = low; high = high; start = start } }) n5)))))

-- declarations that begin with the word, after the names declared so far. The 65th name is refused, so
-- `item_bound` of them are enough
unfoldable pub declarations_from : ℕ → Kind → List ℕ → List Name → ℕ → Parsed (List Name)
declarations_from zero word text names at = accepted names at
declarations_from (suc f) word text names at =
    on_token (token_at text at)
    (λ k s n.
    let more = and_then (declaration text names n) (λ x m. declarations_from f word text (names ++ (x ∷ [])) m) in
    cond (is k word) more (accepted names at))

unfoldable pub declarations : Kind → List ℕ → List Name → ℕ → Parsed (List Name)
declarations word text names at = declarations_from item_bound word text names at
