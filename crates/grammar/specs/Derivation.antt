-- Which token lists spell an expression or a condition, apart from any way of reading them. Document 01, "The text". Assumes nothing.
use Rattle.std.specs.Prelude.{ℕ, suc, ◌≤◌, ◌≡◌, cond, List, [], ◌∷◌, ◌++◌, map, length, pos}
use Rattle.std.proofs.Math.Option.{some}
use Rattle.std.proofs.Math.ListN.{get_elem?}
use Rattle.limits.specs.Limits.{spelling_limit, number_limit}
use Rattle.arith.specs.Values.{Operation, add, subtract, multiply, divide, modulo, Comparison, equal, not_equal, less, less_equal, greater, greater_equal}
use Rattle.semantics.specs.Program.{Expression, constant, current, previous, operation, negate, Condition, comparison, negated, both, either}
use Rattle.lexer.specs.Bytes.{bytes, part, capitals}
use Rattle.lexer.specs.Token.{Kind, word_kinds}
use Rattle.lexer.specs.Lexer.{grammar_word, value_of}
use Rattle.lexer.specs.Spelling.{IsWord, IsDigits, NoneAgree, TokenFrom, Separated}

-- ---- tokens

-- a token is the part of the text that spells it
abbrev pub Tokens : Type 0
Tokens = List (List ℕ)

-- ... as it stands there
abbrev pub as_written : List ℕ → List ℕ
as_written w = w

-- ... or as the rule forms know it (document 02, A.2): a name, behind `_` too, with a to z read as A to Z; a word of the grammar, in its
-- own case or another, as it stands. (Numbers and signs have no letters.)
unfoldable pub normal : List ℕ → List ℕ
normal w = let c = capitals w in cond (grammar_word w) w c

abbrev pub normals : List (List ℕ) → List (List ℕ)
normals names = map normal names

-- The first token from a on is w, seen in one of these ways, and ends at n.
pub record Stands (see : List ℕ → List ℕ) (text : List ℕ) (a n : ℕ) (w : List ℕ) : Type 0 where
  pub kind : Kind
  pub start : ℕ
  pub separated : Separated text a start
  pub is_token : TokenFrom text start n kind
  pub spelled : see (part text start n) ≡ w

-- from a up to b stand just the tokens listed
abbrev pub Spells : (List ℕ → List ℕ) → List ℕ → ℕ → ℕ → Tokens → Type 0
Spells see text a b [] = a ≡ b
Spells see text a b (w ∷ ws) = (n : ℕ) × Stands see text a n w × Spells see text n b ws

-- A name is a letter, then letters or digits (ASCII), 1 to 16 bytes. Words of the grammar are no names, in any case.
pub record IsName (w : List ℕ) : Type 0 where
  pub is_word : IsWord w
  pub short : length w ≤ spelling_limit
  pub no_word : NoneAgree word_kinds w

-- ---- expressions

-- `+ -`
pub data SumSign : List ℕ → Operation → Type 0 where
  plus : SumSign (bytes "+") add
  minus : SumSign (bytes "-") subtract

-- `* / mod`
pub data ProductSign : List ℕ → Operation → Type 0 where
  times : ProductSign (bytes "*") multiply
  over : ProductSign (bytes "/") divide
  modulus : ProductSign (bytes "mod") modulo

-- An expression is `+ -` over `* / mod` over factors, left to right; a factor is at most one `-`, then a primary.
pub data Level : Type 0 where
  primary factor term expression : Level

-- Of the names declared, in the order of their ids: the tokens listed spell e, with at most l brackets open at the same time.
pub data SpellsE (names : List (List ℕ)) : Level → ℕ → Tokens → Expression → Type 0 where
  -- a number up to 2,147,483,647
  a_number : {l : ℕ} (w : List ℕ) → IsDigits w → value_of w ≤ number_limit → SpellsE names primary l (w ∷ []) (constant (pos (value_of w)))
  -- a name
  a_current : {l : ℕ} (w : List ℕ) (i : ℕ) → get_elem? names i ≡ some w → SpellsE names primary l (w ∷ []) (current i)
  -- `_`name
  a_previous : {l : ℕ} (w : List ℕ) (i : ℕ) → get_elem? names i ≡ some w → SpellsE names primary l ((bytes "_" ++ w) ∷ []) (previous i)
  -- `(e)`
  brackets : {l : ℕ} (ts : Tokens) (e : Expression) → SpellsE names expression l ts e → SpellsE names primary (suc l) (bytes "(" ∷ ts ++ bytes ")" ∷ []) e
  -- at most one `-`
  plain : {l : ℕ} (ts : Tokens) (e : Expression) → SpellsE names primary l ts e → SpellsE names factor l ts e
  opposite : {l : ℕ} (ts : Tokens) (e : Expression) → SpellsE names primary l ts e → SpellsE names factor l (bytes "-" ∷ ts) (negate e)
  -- `* / mod` over factors, left to right
  one_factor : {l : ℕ} (ts : Tokens) (e : Expression) → SpellsE names factor l ts e → SpellsE names term l ts e
  product : {l : ℕ} (w : List ℕ) (o : Operation) (ts us : Tokens) (a b : Expression) → ProductSign w o → SpellsE names term l ts a → SpellsE names factor l us b → SpellsE names term l (ts ++ w ∷ us) (operation o a b)
  -- `+ -` over these, left to right
  one_term : {l : ℕ} (ts : Tokens) (e : Expression) → SpellsE names term l ts e → SpellsE names expression l ts e
  sum : {l : ℕ} (w : List ℕ) (o : Operation) (ts us : Tokens) (a b : Expression) → SumSign w o → SpellsE names expression l ts a → SpellsE names term l us b → SpellsE names expression l (ts ++ w ∷ us) (operation o a b)

-- ---- conditions

-- `=` `<>` `<` `<=` `>` `>=`
pub data ComparisonSign : List ℕ → Comparison → Type 0 where
  equals : ComparisonSign (bytes "=") equal
  differs : ComparisonSign (bytes "<>") not_equal
  below : ComparisonSign (bytes "<") less
  at_most : ComparisonSign (bytes "<=") less_equal
  above : ComparisonSign (bytes ">") greater
  at_least : ComparisonSign (bytes ">=") greater_equal

-- A condition is `|` over `&` over atoms.
pub data LevelC : Type 0 where
  atom conjunction condition : LevelC

pub data SpellsC (names : List (List ℕ)) : LevelC → ℕ → Tokens → Condition → Type 0 where
  -- an atom is a comparison of two expressions
  compared : {l : ℕ} (w : List ℕ) (o : Comparison) (ts us : Tokens) (a b : Expression) → ComparisonSign w o → SpellsE names expression l ts a → SpellsE names expression l us b → SpellsC names atom l (ts ++ w ∷ us) (comparison o a b)
  -- or `[c]`, the latter with at most one `~` before it
  square : {l : ℕ} (ts : Tokens) (c : Condition) → SpellsC names condition l ts c → SpellsC names atom (suc l) (bytes "[" ∷ ts ++ bytes "]" ∷ []) c
  not_square : {l : ℕ} (ts : Tokens) (c : Condition) → SpellsC names condition l ts c → SpellsC names atom (suc l) (bytes "~" ∷ bytes "[" ∷ ts ++ bytes "]" ∷ []) (negated c)
  -- `&` over atoms
  one_atom : {l : ℕ} (ts : Tokens) (c : Condition) → SpellsC names atom l ts c → SpellsC names conjunction l ts c
  conjoined : {l : ℕ} (ts us : Tokens) (a b : Condition) → SpellsC names conjunction l ts a → SpellsC names atom l us b → SpellsC names conjunction l (ts ++ bytes "&" ∷ us) (both a b)
  -- `|` over these
  one_conjunction : {l : ℕ} (ts : Tokens) (c : Condition) → SpellsC names conjunction l ts c → SpellsC names condition l ts c
  disjoined : {l : ℕ} (ts us : Tokens) (a b : Condition) → SpellsC names condition l ts a → SpellsC names conjunction l us b → SpellsC names condition l (ts ++ bytes "|" ∷ us) (either a b)
