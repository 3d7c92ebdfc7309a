-- What the functions of expressions and conditions answer, and what they write. Assumes nothing.
use Rattle.std.specs.Prelude.{ℕ, ◌+◌, ◌*◌, ◌≤◌, List, pos, length}
use Rattle.limits.specs.Limits.{text_limit, no_token}
use Rattle.lexer.specs.Token.{Kind, kind_number, TokenRead, token, fault}
use Rattle.lexer.specs.Lexer.{token_at}
use Rattle.lexer.specs.declared.Place.{Place}
use Rattle.lexer.specs.Results.{Step}
use Rattle.std.specs.Prelude.{Ok, Err}
use Rattle.limits.specs.declared.Refusal.TheVariants.{NoToken}
use Rattle.grammar.specs.Parsed.{Parsed, accepted, and_then, on_token}
use Rattle.phrases.specs.Inner.Steps.{Writes}

-- the token read from the place n, with the bytes written up to t; what is no token is refused 1
abbrev pub step_at : TokenRead → ℕ → ℕ → Step
step_at (token k s m) n t = Ok (record { at = n; kind = kind_number k; start = s; end = m; to = t; number = 0; value = pos 0 })
step_at (fault q) n t = Err (NoToken q)

-- a part and the token behind it
pub record Followed (A : Type 0) : Type 0 where
  pub part : A
  pub kind : Kind
  pub start : ℕ
  pub end : ℕ

-- what reads as p, if there is a token behind it
unfoldable pub looked_ahead : {A : Type 0} → List ℕ → Parsed A → Parsed (Followed A)
looked_ahead text p = and_then p (λ a n. on_token (token_at text n) (λ k s m. accepted (record { part = a; kind = k; start = s; end = m }) n))

-- told is the token
abbrev pub token_told : Place → ℕ × ℕ × ℕ
token_told x = (x.kind, x.start, x.end)

abbrev pub token_behind : {A : Type 0} → Followed A → ℕ × ℕ × ℕ
token_behind x = (kind_number x.kind, x.start, x.end)

abbrev pub code_of_part : {A : Type 0} → (A → List ℕ) → Followed A → List ℕ
code_of_part code x = code x.part

-- a function answers the place after a part that reads as p, the token there and the end of the part's code, which it has written
pub record Parses {A : Type 0} (text : List ℕ) (code : A → List ℕ) (p : Parsed A) (to : ℕ) (before after : List ℕ) (r : Step) : Type 0 where
  pub writes : Writes (code_of_part code) token_told token_behind (looked_ahead text p) to before after r

-- a text within its limit, a place in it, and no more bytes written than 512 for each byte read, and the header's two counts: two for each byte, and
-- after a rule the instructions of its timers, at most 63 of eight bytes
pub record Room (text : List ℕ) (at to : ℕ) : Type 0 where
  pub short : length text ≤ text_limit
  pub within : at ≤ length text
  pub room : to ≤ 512 * at + 2
