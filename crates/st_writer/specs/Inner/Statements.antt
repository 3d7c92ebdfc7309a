-- Assignments, cases and rules, their mirrored code and their print, the last first. Assumes nothing.
use Rattle.std.specs.Prelude.{ℕ, ◌^◌, ◌≤◌, ◌<◌, ◌≡◌, Bool, true, false, ◌||◌, List, [], ◌∷◌, ◌++◌, eqb, length, drop}
use Prim.Native.String.{String}
use Rattle.semantics.specs.Program.{Case, Rule, function, change}
use Rattle.lexer.specs.Bytes.{bytes}
use Rattle.leb128.specs.Numbers.{number}
use Rattle.bytecode.specs.Instructions.{pick_code}
use Rattle.st.specs.Syntax.{Identifier, Assignment}
use Rattle.st.specs.Printed.{assignment_printed, branch_printed, statement_printed}
use Rattle.st_program.specs.Written.{name_at, branch_in_st, rule_in_st}
use Rattle.st_writer.specs.Inner.Fronts.{Fronts}
use Rattle.st_writer.specs.Inner.Operands.{Operand, operand_of, operand_of_c, operand_code, SmallOperand, operand_in_st}

-- ---- assignments

abbrev pub assignment_of : List Identifier → ℕ → Operand → Assignment
assignment_of names v t = record { target = name_at names v; value = operand_in_st names t }

-- the assignment whose target's id stands at a place of the code was printed so
pub record PrintsAssignment (names : List Identifier) (code : List ℕ) (at : ℕ) (before after : List ℕ) (to next first : ℕ) : Type 0 where
  pub same : length after ≡ length before
  pub found : (v : ℕ) (t : Operand) (c : List ℕ) → v < 2 ^ 32 → SmallOperand t → drop at code ≡ number v ++ operand_code t c
      → (drop next code ≡ c) × Fronts (assignment_printed (assignment_of names v t)) before after to first

-- ---- cases

-- a pick's code byte
abbrev pub is_pick_code : ℕ → Bool
is_pick_code b = eqb b 20 || (eqb b 24 || eqb b 25)

-- whether a case's code stands first
unfoldable pub pick_first : List ℕ → Bool
pick_first [] = false
pick_first (b ∷ l) = is_pick_code b

unfoldable pub case_code : ℕ → Case → List ℕ → List ℕ
case_code v k c = pick_code k.side ∷ (number v ++ operand_code (operand_of k.value) (19 ∷ operand_code (operand_of_c k.condition) c))

-- the last case first
unfoldable pub cases_code : ℕ → List Case → List ℕ → List ℕ
cases_code v [] c = c
cases_code v (k ∷ ks) c = case_code v k (cases_code v ks c)

abbrev pub SmallCase : Case → Type 0
SmallCase k = SmallOperand (operand_of_c k.condition) × SmallOperand (operand_of k.value)

abbrev pub SmallCases : List Case → Type 0
SmallCases [] = Unit {0}
SmallCases (k ∷ ks) = SmallCase k × SmallCases ks

-- a case without its first word
abbrev pub case_printed : List Identifier → ℕ → Case → List ℕ → List ℕ
case_printed names v k l = branch_printed "" (branch_in_st names v k) l

-- the first word of a case, by the cases before it
abbrev pub case_word : List Case → String
case_word [] = "IF "
case_word (k ∷ ks) = "ELSIF "

-- the same as bytes
abbrev pub word_before : Bool → List ℕ → List ℕ
word_before true l = bytes "ELSIF " ++ l
word_before false l = bytes "IF " ++ l

-- cases, the last first, before what follows
unfoldable pub cases_printed : List Identifier → ℕ → List Case → List ℕ → List ℕ
cases_printed names v [] l = l
cases_printed names v (k ∷ ks) l = cases_printed names v ks (bytes (case_word ks) ++ case_printed names v k l)

pub record PrintsCase (names : List Identifier) (code : List ℕ) (at : ℕ) (before after : List ℕ) (to next first : ℕ) : Type 0 where
  pub same : length after ≡ length before
  pub found : (v : ℕ) (k : Case) (c : List ℕ) → v < 2 ^ 32 → SmallCase k → drop at code ≡ case_code v k c
      → (drop next code ≡ c) × Fronts (case_printed names v k) before after to first

pub record PrintsCases (names : List Identifier) (code : List ℕ) (at : ℕ) (before after : List ℕ) (to next first : ℕ) : Type 0 where
  pub same : length after ≡ length before
  pub found : (v : ℕ) (ks : List Case) (c : List ℕ) → v < 2 ^ 32 → SmallCases ks → pick_first c ≡ false → drop at code ≡ cases_code v ks c
      → (drop next code ≡ c) × Fronts (cases_printed names v ks) before after to first

-- ---- rules

-- the cases of a rule in reverse order, before those of js
abbrev pub onto : {A : Type 0} → List A → List A → List A
onto [] js = js
onto (k ∷ ks) js = onto ks (k ∷ js)

unfoldable pub rule_code : Rule → List ℕ → List ℕ
rule_code (function v e) c = 21 ∷ (number v ++ operand_code (operand_of e) c)
rule_code (change v ks cs) c = 22 ∷ (number v ++ cases_code v (onto ks []) c)

-- the last rule first
unfoldable pub rules_code : List Rule → List ℕ
rules_code [] = []
rules_code (r ∷ rs) = rule_code r (rules_code rs)

-- a change rule has a case
abbrev pub SmallRule : Rule → Type 0
SmallRule (function v e) = (v < 2 ^ 32) × SmallOperand (operand_of e)
SmallRule (change v ks cs) = (v < 2 ^ 32) × SmallCases ks × (1 ≤ length ks)

abbrev pub SmallRules : List Rule → Type 0
SmallRules [] = Unit {0}
SmallRules (r ∷ rs) = SmallRule r × SmallRules rs

-- rules, the last first, before what follows
unfoldable pub rules_printed : List Identifier → List Rule → List ℕ → List ℕ
rules_printed names [] l = l
rules_printed names (r ∷ rs) l = rules_printed names rs (statement_printed (rule_in_st names r) l)

pub record PrintsRule (names : List Identifier) (code : List ℕ) (at : ℕ) (before after : List ℕ) (to next first : ℕ) : Type 0 where
  pub same : length after ≡ length before
  pub found : (r : Rule) (c : List ℕ) → SmallRule r → pick_first c ≡ false → drop at code ≡ rule_code r c
      → (drop next code ≡ c) × Fronts (statement_printed (rule_in_st names r)) before after to first
