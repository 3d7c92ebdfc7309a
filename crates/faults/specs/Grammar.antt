-- Refusal 2: what stands before the token refused is allowed, and with it nothing begins. Document 01, "Who can cause which refusal": 2 token
-- that the grammar doesn't allow there, a wrong repeated name and an early end included; document 02, A.7, A.13. Assumes nothing.
use Rattle.std.specs.Prelude.{ℕ, ◌≤◌, ◌<◌, ◌≡◌, List, [], ◌∷◌, ◌++◌, length, ℤ}
use Rattle.std.proofs.Math.Option.{some}
use Rattle.std.proofs.Math.ListN.{get_elem?}
use Rattle.limits.specs.Limits.{text_limit, bracket_limit, not_allowed}
use Rattle.limits.specs.Answer as A
use Rattle.semantics.specs.Program.{Expression, Condition, Program, UsableE, UsableC}
use Rattle.lexer.specs.Bytes.{bytes, part}
use Rattle.lexer.specs.Token.{Kind, ending, token}
use Rattle.lexer.specs.Lexer.{token_at}
use Rattle.grammar.specs.Parsed.{refused}
use Rattle.grammar.specs.Expressions.{Scope, whole_expression}
use Rattle.grammar.specs.Conditions.{whole_condition, listed}
use Rattle.grammar.specs.Parse.{program_of}
use Rattle.lexer.specs.Spelling.{SpellsName, IsDigits}
use Rattle.grammar.specs.Derivation.{Tokens, normal, normals, Spells, IsName, Level, SpellsE, expression, LevelC, SpellsC, condition}
use Rattle.grammar.specs.Spelled.{SpellsZ, SpellsStart, declaration_form, timer_form, squared, cased, Distinct, change_form, function_form, pair_form, alone_form, paired_form, Spelled}
use Rattle.faults.specs.Texts.{SameThrough}

-- the tokens spell an expression of the names, however many brackets are open at the same time (8, not 2, limits these)
pub record IsExpression (names : List (List ℕ)) (level : Level) (ts : Tokens) : Type 0 where
  pub open_brackets : ℕ
  pub value : Expression
  pub spelled : SpellsE names level open_brackets ts value

pub record IsCondition (names : List (List ℕ)) (level : LevelC) (ts : Tokens) : Type 0 where
  pub open_brackets : ℕ
  pub value : Condition
  pub spelled : SpellsC names level open_brackets ts value

-- ---- whole texts: the grammar alone, without the limits, names and order that 3 to 8 are about (only a number of an expression keeps
-- its limit, as SpellsE has it)

-- names are of any length
abbrev pub AreNames : List (List ℕ) → Type 0
AreNames names = (i : ℕ) (w : List ℕ) → get_elem? names i ≡ some w → SpellsName w

-- `input go 0..1 init 0;` `var run 0..1;`
pub data IsDeclaration (word : List ℕ) : Tokens → Type 0 where
  declares : (w : List ℕ) (low high start : Tokens) (l h s : ℤ) → SpellsName w → SpellsZ low l → SpellsZ high h → SpellsStart start s → IsDeclaration word (declaration_form word w low high start)

pub data AreDeclarations (word : List ℕ) : Tokens → Type 0 where
  none : AreDeclarations word []
  more : (ts us : Tokens) → IsDeclaration word ts → AreDeclarations word us → AreDeclarations word (ts ++ us)

-- `timer t of w limit N;`
pub data IsTimer : Tokens → Type 0 where
  declares_timer : (t w n : List ℕ) → SpellsName t → SpellsName w → IsDigits n → IsTimer (timer_form t w n)

pub data AreTimers : Tokens → Type 0 where
  none : AreTimers []
  more : (ts us : Tokens) → IsTimer ts → AreTimers us → AreTimers (ts ++ us)

-- `[c] & v = (e) | [c] & v = (e)`
pub data AreCases (names : List (List ℕ)) (v : List ℕ) : Tokens → Type 0 where
  one : (ts us : Tokens) → IsCondition names condition ts → IsExpression names expression us → AreCases names v (cased v ts us)
  more : (ts us cs : Tokens) → IsCondition names condition ts → IsExpression names expression us → AreCases names v cs → AreCases names v (cased v ts us ++ bytes "|" ∷ cs)

-- `[c] | [c]`
pub data AreConditions (names : List (List ℕ)) : Tokens → Type 0 where
  one : (ts : Tokens) → IsCondition names condition ts → AreConditions names (squared ts)
  more : (ts cs : Tokens) → IsCondition names condition ts → AreConditions names cs → AreConditions names (squared ts ++ bytes "|" ∷ cs)

pub data IsRule (names : List (List ℕ)) : Tokens → Type 0 where
  a_change : (v : List ℕ) (cs ls : Tokens) → SpellsName v → AreCases names v cs → AreConditions names ls → IsRule names (change_form v cs ls)
  a_function : (v : List ℕ) (ts : Tokens) → SpellsName v → IsExpression names expression ts → IsRule names (function_form v ts)
  a_pair : (v : List ℕ) (cs ds : Tokens) → SpellsName v → AreCases names v cs → AreCases names v ds → IsRule names (pair_form v cs ds)

pub data AreRules (names : List (List ℕ)) : Tokens → Type 0 where
  none : AreRules names []
  more : (ts us : Tokens) → IsRule names ts → AreRules names us → AreRules names (ts ++ us)

-- `watch: G([c]);` `watch: G([c] -> X([c]));`
pub data IsWatch (names : List (List ℕ)) : Tokens → Type 0 where
  alone : (ts : Tokens) → IsCondition names condition ts → IsWatch names (alone_form ts)
  paired : (ts us : Tokens) → IsCondition names condition ts → IsCondition names condition us → IsWatch names (paired_form ts us)

pub data AreWatches (names : List (List ℕ)) : Tokens → Type 0 where
  none : AreWatches names []
  more : (ts us : Tokens) → IsWatch names ts → AreWatches names us → AreWatches names (ts ++ us)

-- All inputs, then all variables, then all timers. Then the rules, then the watches, with values of any names.
pub record IsText (ts : Tokens) : Type 0 where
  pub names : List (List ℕ)
  pub are_names : AreNames names
  pub inputs : Tokens
  pub variables : Tokens
  pub timers : Tokens
  pub rules : Tokens
  pub watches : Tokens
  pub are_inputs : AreDeclarations (bytes "input") inputs
  pub are_variables : AreDeclarations (bytes "var") variables
  pub are_timers : AreTimers timers
  pub are_rules : AreRules names rules
  pub are_watches : AreWatches names watches
  pub in_order : ts ≡ inputs ++ variables ++ timers ++ rules ++ watches

-- from `at` on stand the tokens `before`, as the rule forms know them, then the token at the place; those before it begin a token list of
-- the language. (A word of the grammar in another case is a token that is in no such list: 2.)
pub record BegunBefore (Language : Tokens → Type 0) (text : List ℕ) (at place : ℕ) : Type 0 where
  pub before : Tokens
  pub end : ℕ
  pub spells : Spells normal text at end before
  pub kind : Kind
  pub next : ℕ
  pub stands : token_at text end ≡ token kind place next
  pub more : Tokens
  pub begun : Language (before ++ more)

-- What stands before a token refused by 2 is allowed: it begins an expression, a condition, a text.
pub record AllowedBefore : Type 0 where
  pub expressions : (sc : Scope) (at place : ℕ) → at ≤ length sc.text → whole_expression sc at ≡ refused not_allowed place → BegunBefore (IsExpression (normals sc.names) expression) sc.text at place
  pub conditions : (sc : Scope) (at place : ℕ) → at ≤ length sc.text → whole_condition sc at ≡ refused not_allowed place → BegunBefore (IsCondition (normals sc.names) condition) sc.text at place
  pub texts : (text : List ℕ) (place : ℕ) → program_of text ≡ A.refused not_allowed place → BegunBefore IsText text 0 place

-- from `at` on stand the tokens `before`, then the token at the place; no token list of the language goes on from them with that token. At the
-- end of the text: they are none of the language
pub record BeginsNone (Language : Tokens → Type 0) (text : List ℕ) (at place : ℕ) : Type 0 where
  pub before : Tokens
  pub end : ℕ
  pub spells : Spells normal text at end before
  pub kind : Kind
  pub next : ℕ
  pub stands : token_at text end ≡ token kind place next
  pub none_begun : (kind ≡ ending → ⊥) → (more : Tokens) → Language (before ++ normal (part text place next) ∷ more) → ⊥
  pub none_ended : kind ≡ ending → Language before → ⊥

-- With a token refused by 2 no expression, no condition and no text goes on, whatever names there are.
pub record NoneGoOn : Type 0 where
  pub expressions : (sc : Scope) (names : List (List ℕ)) (at place : ℕ) → AreNames names → at ≤ length sc.text → whole_expression sc at ≡ refused not_allowed place → BeginsNone (IsExpression names expression) sc.text at place
  pub conditions : (sc : Scope) (names : List (List ℕ)) (at place : ℕ) → AreNames names → at ≤ length sc.text → whole_condition sc at ≡ refused not_allowed place → BeginsNone (IsCondition names condition) sc.text at place
  pub texts : (text : List ℕ) (place : ℕ) → program_of text ≡ A.refused not_allowed place → BeginsNone IsText text 0 place

-- the names of a text: no two the same, each of them a name
abbrev pub GoodNames : List (List ℕ) → Type 0
GoodNames names = Distinct names × ((i : ℕ) (w : List ℕ) → get_elem? names i ≡ some w → IsName w)

-- What ends with a refused token begins nothing: in no text that is the same up to and including that token (and that ends it there) stands an
-- expression before a `)`, or a condition before a `]`, or a program. (Whatever the number of the refusal is.)
pub record NoneBegun : Type 0 where
  pub expressions : (sc : Scope) (other : List ℕ) (at number place : ℕ) → GoodNames sc.names → whole_expression sc at ≡ refused number place → place < length sc.text → SameThrough sc.text other place
      → (ts : Tokens) (e : Expression) (n : ℕ) → SpellsE (normals sc.names) expression bracket_limit ts e → UsableE sc.known e → Spells normal other at n (ts ++ bytes ")" ∷ []) → ⊥
  pub conditions : (sc : Scope) (other : List ℕ) (at number place : ℕ) → GoodNames sc.names → listed sc at ≡ refused number place → place < length sc.text → SameThrough sc.text other place
      → (ts : Tokens) (c : Condition) (n : ℕ) → SpellsC (normals sc.names) condition bracket_limit ts c → UsableC sc.known c → Spells normal other at n (ts ++ bytes "]" ∷ []) → ⊥
  pub texts : (text other : List ℕ) (number place : ℕ) → program_of text ≡ A.refused number place → place < length text → length text ≤ text_limit → SameThrough text other place → (p : Program) → Spelled other p → ⊥
