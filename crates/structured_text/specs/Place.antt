-- The claim on 21's place. Document 02, A.4 and A.7. Assumes nothing.
use Rattle.std.specs.Prelude.{ℕ, ◌≡◌, true, List, [], ◌∷◌, ◌++◌, ◌⊎◌}
use Rattle.lexer.specs.Bytes.{bytes, part}
use Rattle.lexer.specs.Token.{name, timer_word}
use Rattle.lexer.specs.Spelling.{Separated, TokenFrom}
use Rattle.grammar.specs.Derivation.{Tokens, as_written, Spells}
use Rattle.st_program.specs.Written.{is_st_word, none_st_word}

-- the names that the tokens declare, in order: `input` or `var` stands directly before each
pub data DeclaredIn : Tokens → List (List ℕ) → Type 0 where
  none : DeclaredIn [] []
  a_declared : (k w : List ℕ) (ts : Tokens) (names : List (List ℕ)) → (k ≡ bytes "input") ⊎ (k ≡ bytes "var") → DeclaredIn ts names → DeclaredIn (k ∷ w ∷ ts) (w ∷ names)
  another : (t : List ℕ) (ts : Tokens) (names : List (List ℕ)) → (t ≡ bytes "input" → ⊥) → (t ≡ bytes "var" → ⊥) → DeclaredIn ts names → DeclaredIn (t ∷ ts) names

-- of the names declared, in order: the first that is a word of Structured Text stands at the place, in its declaration
pub record FirstReserved (text : List ℕ) (names : List (List ℕ)) (place : ℕ) : Type 0 where
  pub earlier : List (List ℕ)
  pub word : List ℕ
  pub later : List (List ℕ)
  pub in_order : names ≡ earlier ++ word ∷ later
  pub none_earlier : none_st_word earlier ≡ true
  pub reserved : is_st_word word ≡ true
  -- before it stand tokens that declare just the earlier names, then `input` or `var`
  pub tokens : Tokens
  pub declare_earlier : DeclaredIn tokens earlier
  pub declares : List ℕ
  pub is_declaring : (declares ≡ bytes "input") ⊎ (declares ≡ bytes "var")
  pub behind : ℕ
  pub spells_tokens : Spells as_written text 0 behind (tokens ++ declares ∷ [])
  pub separated : Separated text behind place
  pub end : ℕ
  pub stands : TokenFrom text place end name
  pub spells : part text place end ≡ word

abbrev pub NoneTimer : Tokens → Type 0
NoneTimer [] = Unit {0}
NoneTimer (w ∷ ws) = (w ≡ bytes "timer" → ⊥) × NoneTimer ws

-- no name declared before the timers is such a word; `timer` stands at the place, and is none of the tokens before it
pub record FirstTimer (text : List ℕ) (names : List (List ℕ)) (place : ℕ) : Type 0 where
  pub none_reserved : none_st_word names ≡ true
  pub tokens : Tokens
  pub behind : ℕ
  pub spells_tokens : Spells as_written text 0 behind tokens
  pub none_timer : NoneTimer tokens
  pub separated : Separated text behind place
  pub end : ℕ
  pub stands : TokenFrom text place end timer_word

-- the first of both; the names are those declared before the timers
pub data FirstOutside (text : List ℕ) (names : List (List ℕ)) (place : ℕ) : Type 0 where
  a_name : FirstReserved text names place → FirstOutside text names place
  a_timer : FirstTimer text names place → FirstOutside text names place

-- the claim: the place is such, and no other is
pub record OutsideAt (text : List ℕ) (names : List (List ℕ)) (place : ℕ) : Type 0 where
  pub first : FirstOutside text names place
  pub only : (other : ℕ) → FirstOutside text names other → other ≡ place
