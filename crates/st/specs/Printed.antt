-- The layout of the statements. Document 02, A.4: each comment is a sentence of it. Assumes nothing.
use Rattle.std.specs.Prelude.{ℕ, List, [], ◌∷◌, ◌++◌}
use Prim.Native.String.{String}
use Rattle.arith.specs.Values.{equal, not_equal, less, less_equal, greater, greater_equal, add, subtract, multiply, divide, modulo}
use Rattle.lexer.specs.Bytes.{bytes}
use Rattle.trace_text.specs.Output.{unsigned_decimal, decimal_of}
use Rattle.st.specs.Syntax.{or, and, Operator, connects, relates, computes, StExpression, number, variable, negative, complement, binary, Assignment, Branch, Statement, assign, choose, Declaration, StProgram}

-- `&`, `|`, `~`, `mod` as AND, OR, NOT, MOD
abbrev pub spelling : Operator → List ℕ
spelling (connects or) = bytes "OR"
spelling (connects and) = bytes "AND"
spelling (relates equal) = bytes "="
spelling (relates not_equal) = bytes "<>"
spelling (relates less) = bytes "<"
spelling (relates greater) = bytes ">"
spelling (relates less_equal) = bytes "<="
spelling (relates greater_equal) = bytes ">="
spelling (computes add) = bytes "+"
spelling (computes subtract) = bytes "-"
spelling (computes multiply) = bytes "*"
spelling (computes divide) = bytes "/"
spelling (computes modulo) = bytes "MOD"

-- A print takes what follows it.
-- Each operation is in round brackets and nothing else is, with one space around a two-sided sign and after NOT, none after a minus.
unfoldable pub expression_printed : StExpression → List ℕ → List ℕ
expression_printed (number n) l = unsigned_decimal n ++ l
expression_printed (variable w) l = w ++ l
expression_printed (negative e) l = bytes "(-" ++ expression_printed e (bytes ")" ++ l)
expression_printed (complement e) l = bytes "(NOT " ++ expression_printed e (bytes ")" ++ l)
expression_printed (binary o a b) l = bytes "(" ++ expression_printed a (bytes " " ++ (spelling o ++ (bytes " " ++ expression_printed b (bytes ")" ++ l))))

-- `v := e;`
abbrev pub assignment_printed : Assignment → List ℕ → List ℕ
assignment_printed a l = a.target ++ (bytes " := " ++ expression_printed a.value (bytes ";\n" ++ l))

abbrev pub branch_printed : String → Branch → List ℕ → List ℕ
branch_printed word k l = bytes word ++ expression_printed k.condition (bytes " THEN\n  " ++ assignment_printed k.body l)

-- Later cases begin ELSIF.
unfoldable pub later_branches : List Branch → List ℕ → List ℕ
later_branches [] l = bytes "END_IF;\n" ++ l
later_branches (k ∷ ks) l = branch_printed "ELSIF " k (later_branches ks l)

-- one IF/ELSIF block or assignment a rule
unfoldable pub statement_printed : Statement → List ℕ → List ℕ
statement_printed (assign a) l = assignment_printed a l
statement_printed (choose []) l = l
statement_printed (choose (k ∷ ks)) l = branch_printed "IF " k (later_branches ks l)

unfoldable pub statements_printed : List Statement → List ℕ → List ℕ
statements_printed [] l = l
statements_printed (s ∷ ss) l = statement_printed s (statements_printed ss l)

-- two spaces of indent, lines ended by LF
unfoldable pub declarations_printed : List Declaration → List ℕ → List ℕ
declarations_printed [] l = bytes "END_VAR\n" ++ l
declarations_printed (d ∷ ds) l = bytes "  " ++ (d.name ++ (bytes " : DINT := " ++ (decimal_of d.start ++ (bytes ";\n" ++ declarations_printed ds l))))

-- each left out if empty
unfoldable pub section_printed : String → List Declaration → List ℕ → List ℕ
section_printed word [] l = l
section_printed word (d ∷ ds) l = bytes word ++ (10 ∷ declarations_printed (d ∷ ds) l)

unfoldable pub program_printed : StProgram → List ℕ
program_printed p = section_printed "VAR_INPUT" p.inputs (section_printed "VAR" p.variables (statements_printed p.body []))
