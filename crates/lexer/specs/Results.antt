-- What the answers of this crate's functions stand for. Assumes nothing.
use Rattle.std.specs.Prelude.{ℕ, ◌≤◌, ◌<◌, ◌≡◌, List, [], ◌∷◌, get_or, pos, Option, Some, None, Result, Ok, Err}
use Rattle.std.proofs.Math.Option as O
use Rattle.lexer.specs.Token.{Kind, kind_number, unknown, ending, name, previous, digits, input_word, var_word, init_word, mod_word, next_word, dots, arrow, less_equal, greater_equal, not_equal, semicolon, colon, open_round, close_round, open_square, close_square, tilde, ampersand, bar, equals, less, greater, plus, minus, star, slash, other_case, watch_word, always_word, after_word, timer_word, of_word, limit_word, last_kind, TokenRead, token, fault}
use Rattle.limits.specs.declared.Refusal.{Refusal}
use Rattle.limits.specs.declared.Refusal.TheVariants.{NoToken}
use Rattle.lexer.specs.declared.Place.{Place}

-- the kinds in the order of their numbers
abbrev pub kinds : List Kind
kinds = unknown ∷ ending ∷ name ∷ previous ∷ digits ∷ input_word ∷ var_word ∷ init_word ∷ mod_word ∷ next_word ∷ dots ∷ arrow ∷ less_equal ∷ greater_equal ∷ not_equal ∷ semicolon ∷ colon ∷ open_round ∷ close_round ∷ open_square ∷ close_square ∷ tilde ∷ ampersand ∷ bar ∷ equals ∷ less ∷ greater ∷ plus ∷ minus ∷ star ∷ slash ∷ other_case ∷ watch_word ∷ always_word ∷ after_word ∷ timer_word ∷ of_word ∷ limit_word ∷ []

-- the kind that a number tells
unfoldable pub kind_of : ℕ → Kind
kind_of k = get_or kinds k unknown

-- what a reader answers: a place, or a refusal
abbrev pub Step : Type 0
Step = Result Place Refusal

-- the place after a part, the end of the bytes written and the number told; the token there is not read
abbrev pub reached_at : ℕ → ℕ → ℕ → Step
reached_at n t x = Ok (record { at = n; kind = 0; start = n; end = n; to = t; number = x; value = pos 0 })

-- the token of a kind from s to n
abbrev pub token_is : ℕ → ℕ → ℕ → Step
token_is k s n = Ok (record { at = s; kind = k; start = s; end = n; to = 0; number = 0; value = pos 0 })

-- what stands at a place: a token, or what is none, which is refused 1
abbrev pub token_step : TokenRead → Step
token_step (token k s n) = token_is (kind_number k) s n
token_step (fault q) = Err (NoToken q)

-- the id of a name, if it has one
abbrev pub found_id : Option ℕ → O.Option ℕ
found_id (Some i) = O.some i
found_id None = O.none

-- where a token read at `at` in a text of `len` bytes stands, and that its kind is known
pub record Lies (len at k s n : ℕ) : Type 0 where
  pub some_kind : 1 ≤ k
  pub known_kind : k ≤ last_kind
  pub after : at ≤ s
  pub ordered : s ≤ n
  pub within : at ≤ len → n ≤ len
  -- all but the end have a byte
  pub moved : (k ≡ 1 → ⊥) → s < n

abbrev pub PlacedIn : ℕ → ℕ → Step → Type 0
PlacedIn len at (Ok p) = Lies len at p.kind p.start p.end
PlacedIn len at (Err e) = Unit {0}
