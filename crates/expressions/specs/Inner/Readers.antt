-- Shapes that the contracts of the functions inside need: the parts of an expression with so many brackets left to open, the code
-- byte of an operator, a token at hand. Assumes nothing.
use Rattle.std.specs.Prelude.{cond, ℕ, ◌≡◌, List, [], ◌∷◌, eqb}
use Rattle.std.proofs.Math.Option.{Option, none, some}
use Rattle.limits.specs.Limits.{not_allowed}
use Rattle.lexer.specs.Token.{Kind, kind_number, minus, token}
use Rattle.lexer.specs.Lexer.{token_at}
use Rattle.semantics.specs.Program.{Expression}
use Rattle.grammar.specs.Parsed.{Parsed}
use Rattle.grammar.specs.Expressions.{Scope, primary, factor, term, expression, bracket}
use Rattle.lexer.specs.declared.Place.{Place}
use Rattle.lexer.specs.Results.{Step}
use Rattle.std.specs.Prelude.{Ok, Err}
use Rattle.limits.specs.declared.Refusal.TheVariants.{NotAllowed}
use Rattle.expressions.specs.Inner.Steps.{step_at}

-- a text alone, without names
abbrev pub text_only : List ℕ → Scope
text_only text = record { text = text; names = []; known = [] }

abbrev pub primary_in : ℕ → Scope → ℕ → Parsed Expression
primary_in left sc at = primary (λ s n. bracket left sc s n) sc at

abbrev pub factor_in : ℕ → Scope → ℕ → Parsed Expression
factor_in left sc at = factor (λ s n. bracket left sc s n) sc at

abbrev pub term_in : ℕ → Scope → ℕ → Parsed Expression
term_in left sc at = term (λ s n. bracket left sc s n) sc at

abbrev pub expression_in : ℕ → Scope → ℕ → Parsed Expression
expression_in left sc at = expression (λ s n. bracket left sc s n) sc at

-- the code byte of an operator; 0 where there is none
abbrev pub code_or_none : {O : Type 0} → (O → ℕ) → Option O → ℕ
code_or_none code none = 0
code_or_none code (some o) = code o

-- c is the code byte of an operator of the kind with the number n, and 0 if there is none of that kind
abbrev pub Codes : {O : Type 0} → (O → ℕ) → (Kind → Option O) → ℕ → ℕ → Type 0
Codes code operator n c = (k : Kind) → n ≡ kind_number k → c ≡ code_or_none code (operator k)

-- the bytes of an operator whose code is c; none where c is 0
abbrev pub operator_bytes : ℕ → List ℕ
operator_bytes c = cond (eqb c 0) [] (c ∷ [])

-- the code of a `-` before a primary, by the number of the kind of the token at hand; 0 where there is none
abbrev pub minus_code : ℕ → ℕ
minus_code n = cond (eqb n (kind_number minus)) 9 0

-- the token h is the one read from its place
pub record StandsAt (text : List ℕ) (h : Place) : Type 0 where
  pub kind : Kind
  pub read : token_at text h.at ≡ token kind h.start h.end
  pub numbered : h.kind ≡ kind_number kind

-- a part with a token of the kind with the number w behind it, and the token behind that one; any other token there is refused 2
abbrev pub closed_step : List ℕ → ℕ → Step → Step
closed_step text w (Ok h) =
    let next = step_at (token_at text h.end) h.end h.to in
    cond (eqb h.kind w) next (Err (NotAllowed h.start))
closed_step text w (Err e) = Err e

-- the token behind a `-`; where h is none, h
abbrev pub behind_minus : List ℕ → ℕ → Place → Step
behind_minus text to h =
    let next = step_at (token_at text h.end) h.end to in
    cond (eqb h.kind (kind_number minus)) next (Ok h)
