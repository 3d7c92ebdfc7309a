-- What the contracts of this crate say of lent memory. Assumes nothing.
use Rattle.std.specs.Prelude.{ℕ, ◌≤◌, ◌≡◌, List, [], ◌∷◌, length}
use Rattle.grammar.specs.Parsed.{Parsed, accepted}
use Rattle.limits.specs.Limits.{case_limit}
use Rattle.grammar.specs.Expressions.{Scope}
use Rattle.grammar.specs.Rules.{Spanned, cases_of, cases_from}
use Rattle.grammar.specs.Inner.Bytes.{bytes_picked}
use Rattle.agreement.specs.Inner.Spans.{spans_in, spans_of, Spans}

-- the code of a case of the variable v, and of cases, with a code byte for their picks
abbrev pub code_of_case : ℕ → ℕ → Spanned → List ℕ
code_of_case pick v c = bytes_picked pick v (c.case ∷ [])

abbrev pub code_of_cases : ℕ → ℕ → List Spanned → List ℕ
code_of_cases pick v cs = bytes_picked pick v (cases_of cs)

-- where the condition of a case ends
abbrev pub end_of_condition : Spanned → ℕ
end_of_condition c = c.span.to

-- `from` and `upto` hold where the conditions of the cases stand
pub record Lists (p : Parsed (List Spanned)) (text from upto : List ℕ) : Type 0 where
  pub held : (cs : List Spanned) (n : ℕ) → p ≡ accepted cs n → Spans text from upto (length cs)
  pub listed : (cs : List Spanned) (n : ℕ) → p ≡ accepted cs n → spans_of cs ≡ spans_in from upto (length cs)

-- `from` and `upto` hold where the conditions of cases stand that were read in this scope
pub record ListKept (sc : Scope) (from upto : List ℕ) (count : ℕ) : Type 0 where
  pub variable : List ℕ
  pub place : ℕ
  pub end : ℕ
  pub cases : List Spanned
  pub within : place ≤ length sc.text
  pub read : cases_from case_limit sc variable [] place ≡ accepted cases end
  pub spans : spans_of cases ≡ spans_in from upto count
