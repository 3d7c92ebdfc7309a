-- Where a refusal of a text stands. Document 01, "Who can cause which refusal". Assumes nothing.
use Rattle.std.specs.Prelude.{ℕ, suc, ◌≤◌, ◌<◌, ◌≡◌, List, length, take}
use Rattle.limits.specs.Limits.{text_limit, no_token, too_long}
use Rattle.limits.specs.Answer.{refused}
use Rattle.lexer.specs.Token.{Kind, ending, TokenRead, token, fault}
use Rattle.lexer.specs.Lexer.{token_at}
use Rattle.grammar.specs.Parse.{program_of}
use Rattle.grammar.specs.Derivation.{Tokens, as_written, Spells}

-- from the beginning of the text up to `end` stand just the tokens `before`; the next, `found`, is a token or none
pub record Behind (text : List ℕ) (found : TokenRead) : Type 0 where
  pub before : Tokens
  pub end : ℕ
  pub spells : Spells as_written text 0 end before
  pub next : token_at text end ≡ found

-- a token of the text, or its end, begins at the place
pub record TokenBegins (text : List ℕ) (place : ℕ) : Type 0 where
  pub kind : Kind
  pub end : ℕ
  pub stands : token_at text place ≡ token kind place end
  -- end of text: its length
  pub at_end_lem : kind ≡ ending → place ≡ length text
  pub behind : Behind text (token kind place end)

pub record FaultPlaces : Type 0 where
  -- 9 text over its limit (place 0, before all else)
  pub too_long_lem : (text : List ℕ) → text_limit < length text → program_of text ≡ refused too_long 0
  pub only_too_long : (text : List ℕ) (place : ℕ) → program_of text ≡ refused too_long place → (text_limit < length text) × (place ≡ 0)
  -- 1 byte of no token, lone `_` or `.`: just where no token stands, behind tokens
  pub no_token_lem : (text : List ℕ) (place : ℕ) → program_of text ≡ refused no_token place → (token_at text place ≡ fault place) × Behind text (fault place)
  pub only_no_token : (text : List ℕ) (number place : ℕ) → program_of text ≡ refused number place → (number ≡ too_long → ⊥) → token_at text place ≡ fault place → number ≡ no_token
  -- every other is answered with the place of a token, or of the end of the text
  pub at_token : (text : List ℕ) (number place : ℕ) → program_of text ≡ refused number place → (number ≡ no_token → ⊥) → (number ≡ too_long → ⊥) → TokenBegins text place

-- ---- the first found is answered

-- the end of a token; of what is no token, the end of its first byte
abbrev pub read_end : TokenRead → ℕ
read_end (token k s n) = n
read_end (fault p) = suc p

-- Two texts are the same up to and including what stands at a place. (Tokens are read by longest match, so it must end there in both.)
pub record SameThrough (text other : List ℕ) (place : ℕ) : Type 0 where
  pub found : TokenRead
  pub stands : token_at text place ≡ found
  pub stands_there : token_at other place ≡ found
  pub same : take (read_end found) text ≡ take (read_end found) other

-- Checks of a text go token by token; the first found is answered: nothing behind the token refused counts, as long as the text has no more
-- than 32,768 bytes. (At the end of the text nothing is claimed: more may follow there.)
pub record FirstFound : Type 0 where
  pub first_found : (text other : List ℕ) (number place : ℕ) → program_of text ≡ refused number place → place < length text → SameThrough text other place
      → length text ≤ text_limit → length other ≤ text_limit → program_of other ≡ refused number place
