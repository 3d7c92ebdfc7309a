-- Tokens a second time, apart from any way of reading them: which bytes spell a token, and which token stands in a text. Document 01,
-- "The text", first paragraph. Assumes nothing.
use Rattle.std.specs.Prelude.{ℕ, ◌+◌, ◌≤◌, ◌<◌, ◌≡◌, Bool, true, false, List, [], ◌∷◌, ◌++◌, ◌⊎◌, length, get_or}
use Rattle.lexer.specs.Bytes.{bytes, part, capitals}
use Rattle.lexer.specs.Token.{Kind, unknown, ending, name, previous, digits, input_word, var_word, init_word, mod_word, next_word, dots, arrow, less_equal, greater_equal, not_equal, semicolon, colon, open_round, close_round, open_square, close_square, tilde, ampersand, bar, equals, less, greater, plus, minus, star, slash, other_case, watch_word, always_word, after_word, timer_word, of_word, limit_word, spelling_of, word_kinds, TokenRead, token, fault}
use Rattle.lexer.specs.Lexer.{is_space, is_digit, is_letter, is_alphanumeric, token_at}

-- ---- spellings

abbrev pub AllBytes : (ℕ → Bool) → List ℕ → Type 0
AllBytes test [] = Unit {0}
AllBytes test (b ∷ l) = (test b ≡ true) × AllBytes test l

-- a letter, then letters or digits
abbrev pub IsWord : List ℕ → Type 0
IsWord [] = ⊥
IsWord (b ∷ l) = (is_letter b ≡ true) × AllBytes is_alphanumeric l

-- a run of digits
abbrev pub IsDigits : List ℕ → Type 0
IsDigits [] = ⊥
IsDigits (b ∷ l) = (is_digit b ≡ true) × AllBytes is_digit l

-- the bytes spell none of the kinds listed
abbrev pub NoneOf : List Kind → List ℕ → Type 0
NoneOf [] w = Unit {0}
NoneOf (k ∷ ks) w = (w ≡ spelling_of k → ⊥) × NoneOf ks w

-- they agree, with a to z read as A to Z, with none of these; with one of these (document 02, A.2)
abbrev pub NoneAgree : List Kind → List ℕ → Type 0
NoneAgree [] w = Unit {0}
NoneAgree (k ∷ ks) w = (capitals w ≡ capitals (spelling_of k) → ⊥) × NoneAgree ks w

abbrev pub OneAgrees : List Kind → List ℕ → Type 0
OneAgrees [] w = ⊥
OneAgrees (k ∷ ks) w = (capitals w ≡ capitals (spelling_of k)) ⊎ OneAgrees ks w

-- A name is a letter, then letters or digits (ASCII), 1 to 16 bytes (a longer run is a name too). Words of the grammar are no names, in any
-- case.
pub record SpellsName (w : List ℕ) : Type 0 where
  pub is_word : IsWord w
  pub no_word : NoneAgree word_kinds w

-- a word of the grammar in another case
pub record IsOtherCase (w : List ℕ) : Type 0 where
  pub is_word : IsWord w
  pub some_word : OneAgrees word_kinds w
  pub other_bytes : NoneOf word_kinds w

-- `_` directly before a name
pub record IsPrevious (w : List ℕ) : Type 0 where
  pub rest : List ℕ
  pub is_cons : w ≡ bytes "_" ++ rest
  pub is_name : SpellsName rest

-- the bytes spell a token of the kind: words of the grammar and signs as the table says
abbrev pub Spelling : Kind → List ℕ → Type 0
Spelling unknown w = ⊥
Spelling ending w = ⊥
Spelling name w = SpellsName w
Spelling previous w = IsPrevious w
Spelling digits w = IsDigits w
Spelling input_word w = w ≡ spelling_of input_word
Spelling var_word w = w ≡ spelling_of var_word
Spelling init_word w = w ≡ spelling_of init_word
Spelling mod_word w = w ≡ spelling_of mod_word
Spelling next_word w = w ≡ spelling_of next_word
Spelling dots w = w ≡ spelling_of dots
Spelling arrow w = w ≡ spelling_of arrow
Spelling less_equal w = w ≡ spelling_of less_equal
Spelling greater_equal w = w ≡ spelling_of greater_equal
Spelling not_equal w = w ≡ spelling_of not_equal
Spelling semicolon w = w ≡ spelling_of semicolon
Spelling colon w = w ≡ spelling_of colon
Spelling open_round w = w ≡ spelling_of open_round
Spelling close_round w = w ≡ spelling_of close_round
Spelling open_square w = w ≡ spelling_of open_square
Spelling close_square w = w ≡ spelling_of close_square
Spelling tilde w = w ≡ spelling_of tilde
Spelling ampersand w = w ≡ spelling_of ampersand
Spelling bar w = w ≡ spelling_of bar
Spelling equals w = w ≡ spelling_of equals
Spelling less w = w ≡ spelling_of less
Spelling greater w = w ≡ spelling_of greater
Spelling plus w = w ≡ spelling_of plus
Spelling minus w = w ≡ spelling_of minus
Spelling star w = w ≡ spelling_of star
Spelling slash w = w ≡ spelling_of slash
Spelling other_case w = IsOtherCase w
Spelling watch_word w = w ≡ spelling_of watch_word
Spelling always_word w = w ≡ spelling_of always_word
Spelling after_word w = w ≡ spelling_of after_word
Spelling timer_word w = w ≡ spelling_of timer_word
Spelling of_word w = w ≡ spelling_of of_word
Spelling limit_word w = w ≡ spelling_of limit_word

-- ---- tokens in a text

-- A token of the kind k stands from s to n.
pub record TokenFrom (text : List ℕ) (s n : ℕ) (k : Kind) : Type 0 where
  pub some_bytes : s < n
  pub within : n ≤ length text
  -- its part of the text spells it
  pub spells : Spelling k (part text s n)
  -- Tokens are read by longest match: no longer part from there spells a token.
  pub longest : (m : ℕ) (j : Kind) → n < m → m ≤ length text → Spelling j (part text s m) → ⊥
  -- The name behind a `_` is read by longest match too, so that before a word of the grammar, in any case, `_` is lone.
  pub longest_name : k ≡ previous → (m : ℕ) (j : Kind) → n < m → m ≤ length text → Spelling j (part text (s + 1) m) → ⊥

-- Space, tab, CR and LF separate: nothing else stands from a up to s.
pub record Separated (text : List ℕ) (a s : ℕ) : Type 0 where
  pub ordered : a ≤ s
  pub within : s ≤ length text
  pub spaces : AllBytes is_space (part text a s)

-- What is first at or after a: a token, the end of the text, or a byte of no token.
pub data FirstRead (text : List ℕ) (a : ℕ) : TokenRead → Type 0 where
  a_token : (k : Kind) (s n : ℕ) → Separated text a s → TokenFrom text s n k → FirstRead text a (token k s n)
  the_end : Separated text a (length text) → FirstRead text a (token ending (length text) (length text))
  no_token_lem : (s : ℕ) → Separated text a s → s < length text → is_space (get_or text s 0) ≡ false → ((k : Kind) (n : ℕ) → TokenFrom text s n k → ⊥) → FirstRead text a (fault s)

-- The claim on tokens: `token_at` answers what is first, and nothing else is.
pub record ReadsTokens : Type 0 where
  pub reads : (text : List ℕ) (a : ℕ) → a ≤ length text → FirstRead text a (token_at text a)
  pub only : (text : List ℕ) (a : ℕ) (r : TokenRead) → FirstRead text a r → token_at text a ≡ r
