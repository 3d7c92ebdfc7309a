-- A program of the text as one of Structured Text. Document 02, A.4 and A.7: each comment is a sentence of it, or says how one is read. Assumes nothing.
use Rattle.std.specs.Prelude.{ℕ, suc, Bool, true, false, not, ◌&&◌, List, [], ◌∷◌, ◌++◌, map, pos, negsuc, get_or, take, drop}
use Rattle.semantics.specs.Program.{Name, Expression, constant, current, previous, operation, negate, Condition, comparison, negated, both, either, Case, Rule, function, change, Timer, Program}
use Rattle.grammar.specs.Spelled.{names_of}
use Rattle.st.specs.Syntax.{Identifier, or, and, connects, relates, computes, StExpression, number, variable, negative, complement, binary, Branch, Statement, assign, choose, Declaration, StProgram}
use Rattle.lexer.specs.Bytes.{bytes}
use Rattle.st.specs.Reading.{is_any}
use Rattle.st.specs.Meaning.{previous_name}
use Rattle.st.specs.Printed.{program_printed}

-- ---- rules, of the names in the order of their ids

module _ (names : List Identifier) where
  -- Names print as declared.
  abbrev pub name_at : ℕ → Identifier
  name_at i = get_or names i []

  -- (Numbers of a text carry no sign.)
  unfoldable pub expression_in_st : Expression → StExpression
  expression_in_st (constant (pos n)) = number n
  expression_in_st (constant (negsuc n)) = negative (number (suc n))
  expression_in_st (current i) = variable (name_at i)
  expression_in_st (previous i) = variable (previous_name (name_at i))
  expression_in_st (operation o a b) = binary (computes o) (expression_in_st a) (expression_in_st b)
  expression_in_st (negate a) = negative (expression_in_st a)

  -- `&`, `|`, `~` as AND, OR, NOT
  unfoldable pub condition_in_st : Condition → StExpression
  condition_in_st (comparison o a b) = binary (relates o) (expression_in_st a) (expression_in_st b)
  condition_in_st (negated c) = complement (condition_in_st c)
  condition_in_st (both a b) = binary (connects and) (condition_in_st a) (condition_in_st b)
  condition_in_st (either a b) = binary (connects or) (condition_in_st a) (condition_in_st b)

  abbrev pub branch_in_st : ℕ → Case → Branch
  branch_in_st v k = record { condition = condition_in_st k.condition; body = record { target = name_at v; value = expression_in_st k.value } }

  -- one IF/ELSIF block or assignment a rule (a pair is one rule over both lists, rising first)
  unfoldable pub rule_in_st : Rule → Statement
  rule_in_st (function v e) = assign (record { target = name_at v; value = expression_in_st e })
  rule_in_st (change v ks cs) = choose (map (branch_in_st v) ks)

-- ---- the program

-- `v : DINT := 0;`
abbrev pub current_line : Name → Declaration
current_line n = record { name = n.spelling; start = n.range.start }

-- `_v : DINT := 0;`
abbrev pub previous_line : Name → Declaration
previous_line n = record { name = previous_name n.spelling; start = n.range.start }

-- the variables, each of which is followed by its own previous value
abbrev pub variable_lines : List Name → List Declaration
variable_lines [] = []
variable_lines (n ∷ ns) = current_line n ∷ previous_line n ∷ variable_lines ns

-- `_v := v;`
abbrev pub saving_line : Identifier → Statement
saving_line w = assign (record { target = previous_name w; value = variable w })

-- Inputs stand in VAR_INPUT; their previous values stand in VAR before the variables. One IF/ELSIF block or assignment a rule, then every
-- previous-value line, in declared order.
unfoldable pub program_in_st : Program → StProgram
program_in_st p = record {
  inputs = map current_line (take p.inputs p.names);
  variables = map previous_line (take p.inputs p.names) ++ variable_lines (drop p.inputs p.names);
  body = map (rule_in_st (names_of p)) p.rules ++ map saving_line (names_of p);
}

-- the bytes of the Structured Text of a program
unfoldable pub st_bytes : Program → List ℕ
st_bytes p = program_printed (program_in_st p)

-- ---- what has no Structured Text

-- 21 a declared name that is IF, THEN, ELSIF, DINT, AND, OR or NOT under A.2's sameness. (Of the other words used, VAR and MOD are words of the
-- grammar, and END_VAR, END_IF and VAR_INPUT hold a `_`.)
abbrev pub st_words : List (List ℕ)
st_words = bytes "IF" ∷ bytes "THEN" ∷ bytes "ELSIF" ∷ bytes "DINT" ∷ bytes "AND" ∷ bytes "OR" ∷ bytes "NOT" ∷ []

unfoldable pub is_st_word : List ℕ → Bool
is_st_word w = is_any st_words w

abbrev pub none_st_word : List (List ℕ) → Bool
none_st_word [] = true
none_st_word (w ∷ ws) = not (is_st_word w) && none_st_word ws

-- 21 a timer (document 02, A.7)
abbrev pub no_timer : List Timer → Bool
no_timer [] = true
no_timer (x ∷ xs) = false

unfoldable pub has_st : Program → Bool
has_st p = no_timer p.timers && none_st_word (names_of p)
