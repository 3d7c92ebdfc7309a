-- The tokens of a text. Document 01, "The text", first paragraph. Assumes nothing.
use Rattle.std.specs.Prelude.{ℕ, Bool, List, [], ◌∷◌, eqb}
use Rattle.lexer.specs.Bytes.{bytes}

pub data Kind : Type 0 where
  unknown : Kind  -- a byte that starts no token, a lone `_` or `.`
  ending : Kind  -- the end of the text
  name previous digits : Kind  -- a, _a, 7
  input_word var_word init_word mod_word next_word : Kind  -- words of the grammar
  dots arrow less_equal greater_equal not_equal : Kind
  semicolon colon : Kind
  open_round close_round open_square close_square : Kind
  tilde ampersand bar : Kind
  equals less greater : Kind
  plus minus star slash : Kind
  other_case : Kind  -- a word of the grammar in another case (document 02, A.2)
  watch_word always_word after_word : Kind  -- words of the grammar (document 02, A.13)
  timer_word of_word limit_word : Kind  -- words of the grammar (document 02, A.7)

-- The table of spellings: words of the grammar, `input var init mod GX`, `watch`, `G` and `X` (document 02, A.13), and `timer`, `of` and `limit` (A.7); `..` `->` `<=` `>=` `<>`, and `; : ( ) [ ] ~ & | = < > + - * /`.
-- A kind that has more than one spelling, or none, has no bytes here.
abbrev pub spelling_of : Kind → List ℕ
spelling_of unknown = []
spelling_of ending = []
spelling_of name = []
spelling_of previous = []
spelling_of digits = []
spelling_of input_word = bytes "input"
spelling_of var_word = bytes "var"
spelling_of init_word = bytes "init"
spelling_of mod_word = bytes "mod"
spelling_of next_word = bytes "GX"
spelling_of dots = bytes ".."
spelling_of arrow = bytes "->"
spelling_of less_equal = bytes "<="
spelling_of greater_equal = bytes ">="
spelling_of not_equal = bytes "<>"
spelling_of semicolon = bytes ";"
spelling_of colon = bytes ":"
spelling_of open_round = bytes "("
spelling_of close_round = bytes ")"
spelling_of open_square = bytes "["
spelling_of close_square = bytes "]"
spelling_of tilde = bytes "~"
spelling_of ampersand = bytes "&"
spelling_of bar = bytes "|"
spelling_of equals = bytes "="
spelling_of less = bytes "<"
spelling_of greater = bytes ">"
spelling_of plus = bytes "+"
spelling_of minus = bytes "-"
spelling_of star = bytes "*"
spelling_of slash = bytes "/"
spelling_of other_case = []
spelling_of watch_word = bytes "watch"
spelling_of always_word = bytes "G"
spelling_of after_word = bytes "X"
spelling_of timer_word = bytes "timer"
spelling_of of_word = bytes "of"
spelling_of limit_word = bytes "limit"

-- the kinds in it: words of the grammar, signs of two bytes, signs of one byte
abbrev pub word_kinds : List Kind
word_kinds = input_word ∷ var_word ∷ init_word ∷ mod_word ∷ next_word ∷ watch_word ∷ always_word ∷ after_word ∷ timer_word ∷ of_word ∷ limit_word ∷ []

abbrev pub pair_kinds : List Kind
pair_kinds = dots ∷ arrow ∷ less_equal ∷ greater_equal ∷ not_equal ∷ []

abbrev pub sign_kinds : List Kind
sign_kinds =
    semicolon ∷ colon ∷ open_round ∷ close_round ∷ open_square ∷ close_square ∷ tilde ∷ ampersand ∷ bar ∷ equals ∷ less ∷ greater ∷ plus ∷ minus ∷ star ∷ slash ∷ []

-- the number by which a program tells kinds apart
unfoldable pub kind_number : Kind → ℕ
kind_number unknown = 0
kind_number ending = 1
kind_number name = 2
kind_number previous = 3
kind_number digits = 4
kind_number input_word = 5
kind_number var_word = 6
kind_number init_word = 7
kind_number mod_word = 8
kind_number next_word = 9
kind_number dots = 10
kind_number arrow = 11
kind_number less_equal = 12
kind_number greater_equal = 13
kind_number not_equal = 14
kind_number semicolon = 15
kind_number colon = 16
kind_number open_round = 17
kind_number close_round = 18
kind_number open_square = 19
kind_number close_square = 20
kind_number tilde = 21
kind_number ampersand = 22
kind_number bar = 23
kind_number equals = 24
kind_number less = 25
kind_number greater = 26
kind_number plus = 27
kind_number minus = 28
kind_number star = 29
kind_number slash = 30
kind_number other_case = 31
kind_number watch_word = 32
kind_number always_word = 33
kind_number after_word = 34
kind_number timer_word = 35
kind_number of_word = 36
kind_number limit_word = 37

-- the greatest of them
abbrev pub last_kind : ℕ
last_kind = 37

-- the same kind
unfoldable pub is : Kind → Kind → Bool
is a b = eqb (kind_number a) (kind_number b)

-- what stands at a place: a token with its first byte's place and the place after it, or what is no token
pub data TokenRead : Type 0 where
  token : Kind → ℕ → ℕ → TokenRead
  fault : ℕ → TokenRead
