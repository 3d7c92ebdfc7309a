-- The languages of the parts of a text, each made of smaller ones that stand one behind another. Assumes nothing.
use mathlib.Core.Path.{◌≡◌}
use mathlib.Core.List.{List, [], ◌∷◌, ◌++◌}
use Prim.Native.Nat.{ℕ}
use lib.IntN.{ℤ}
use Rattle.lexer.specs.Bytes.{bytes}
use Rattle.lexer.specs.Token.{greater}
use Rattle.lexer.specs.Spelling.{SpellsName, IsDigits}
use Rattle.grammar.specs.Forms.{change_opening, no_change_opening, value_opening, function_closing, formula_closing, case_value_opening, turned_opening, falling_opening, watch_opening, later_opening}
use Rattle.grammar.specs.Derivation as D
use Rattle.grammar.specs.Derivation.{Tokens}
use Rattle.grammar.specs.Spelled.{SpellsZ, SpellsStart}
use Rattle.grammar.proofs.Phrases.{wanted_tokens}
use Rattle.faults.specs.Grammar.{IsExpression, IsCondition, AreCases, AreConditions}

-- one language behind another
abbrev pub Joins : (Tokens → Type 0) → (Tokens → Type 0) → Tokens → Type 0
Joins L M zs = (xs : Tokens) × (ys : Tokens) × (zs ≡ xs ++ ys) × L xs × M ys

-- just these tokens
abbrev pub These : Tokens → Tokens → Type 0
These vs us = us ≡ vs

-- one token
abbrev pub OneOf : (List ℕ → Type 0) → Tokens → Type 0
OneOf P us = (w : List ℕ) × (us ≡ w ∷ []) × P w

-- ---- what follows `input` or `var`

abbrev pub Bound : Tokens → Type 0
Bound us = (z : ℤ) × SpellsZ us z

-- the start and the `;`
abbrev pub Start : Tokens → Type 0
Start us = (ss : Tokens) × (z : ℤ) × (us ≡ ss ++ bytes ";" ∷ []) × SpellsStart ss z

abbrev pub High : Tokens → Type 0
High = Joins Bound Start

abbrev pub Dots : Tokens → Type 0
Dots = Joins (These (bytes ".." ∷ [])) High

abbrev pub Low : Tokens → Type 0
Low = Joins Bound Dots

abbrev pub Declared : Tokens → Type 0
Declared = Joins (OneOf SpellsName) Low

-- ---- what follows `timer`

abbrev pub LimitEnd : Tokens → Type 0
LimitEnd = Joins (OneOf IsDigits) (These (bytes ";" ∷ []))

abbrev pub LimitRest : Tokens → Type 0
LimitRest = Joins (These (bytes "limit" ∷ [])) LimitEnd

abbrev pub WatchedRest : Tokens → Type 0
WatchedRest = Joins (OneOf SpellsName) LimitRest

abbrev pub OfRest : Tokens → Type 0
OfRest = Joins (These (bytes "of" ∷ [])) WatchedRest

abbrev pub TimerRest : Tokens → Type 0
TimerRest = Joins (OneOf SpellsName) OfRest

-- ---- rules

module _ (names : List (List ℕ)) where
  -- what follows `(` and `[`
  abbrev pub InRound : Tokens → Type 0
  InRound = Joins (IsExpression names D.expression) (These (bytes ")" ∷ []))

  abbrev pub InSquare : Tokens → Type 0
  InSquare = Joins (IsCondition names D.condition) (These (bytes "]" ∷ []))

  -- what follows the `[` of a case
  abbrev pub AndValue : List ℕ → Tokens → Type 0
  AndValue w = Joins (These (wanted_tokens (case_value_opening w))) InRound

  abbrev pub CaseRest : List ℕ → Tokens → Type 0
  CaseRest w = Joins InSquare (AndValue w)

  -- what follows `~(` of a no-change formula
  abbrev pub InList : Tokens → Type 0
  InList = Joins (AreConditions names) (These (bytes ")" ∷ []))

  abbrev pub NoChange : Tokens → Type 0
  NoChange = Joins InList (These (wanted_tokens formula_closing))

  abbrev pub ThenNoChange : List ℕ → Tokens → Type 0
  ThenNoChange w = Joins (These (wanted_tokens (no_change_opening w))) NoChange

  -- what follows `w: GX(~` and `w: GX(`
  abbrev pub Changes : List ℕ → Tokens → Type 0
  Changes w = Joins (These (wanted_tokens (change_opening w))) (Joins (AreCases names w) (ThenNoChange w))

  abbrev pub Computes : List ℕ → Tokens → Type 0
  Computes w = Joins (These (wanted_tokens (value_opening w))) (Joins (IsExpression names D.expression) (These (wanted_tokens function_closing)))

  -- what follows `w+`
  abbrev pub Falls : List ℕ → Tokens → Type 0
  Falls w = Joins (AreCases names w) (These (wanted_tokens formula_closing))

  abbrev pub ThenFalls : List ℕ → Tokens → Type 0
  ThenFalls w = Joins (These (wanted_tokens (falling_opening w))) (Falls w)

  abbrev pub Turns : List ℕ → Tokens → Type 0
  Turns w = Joins (These (wanted_tokens (turned_opening greater w))) (Joins (AreCases names w) (ThenFalls w))

  -- ---- watches

  -- what follows `watch: G([c] ->`
  abbrev pub Later : Tokens → Type 0
  Later = Joins (These (wanted_tokens later_opening)) (Joins InSquare (These (wanted_tokens function_closing)))

-- what follows `watch: G([c]`
pub data AfterFirst (names : List (List ℕ)) : Tokens → Type 0 where
  alone : AfterFirst names (wanted_tokens formula_closing)
  paired : (us : Tokens) → Later names us → AfterFirst names (bytes "->" ∷ us)

-- what follows `watch`
abbrev pub WatchRest : List (List ℕ) → Tokens → Type 0
WatchRest names = Joins (These (wanted_tokens watch_opening)) (Joins (InSquare names) (AfterFirst names))
