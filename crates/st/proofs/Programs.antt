-- A program that is printed is read back. Assumes nothing.
use Prim.Native.Nat.{ℕ, zero, suc, ◌+◌, ◌≤◌}
use Prim.Native.String.{String}
use native.Mathlib.Omega.{arith}
use native.Mathlib.Numerals.{add-one}
use mathlib.Core.Path.{◌≡◌, refl, ap, ◌∙◌}
use mathlib.Core.Bool.{true, false}
use mathlib.Core.List.{List, [], ◌∷◌, ◌++◌}
use mathlib.Core.Option.{some}
use lib.IntN.{ℤ, pos, negsuc}
use lib.ListN.{length}
use Rattle.arith.specs.Values.{is_int32}
use Rattle.lexer.specs.Bytes.{bytes, same_bytes, capital, capitals}
use Rattle.lexer.specs.Lexer.{is_space, same_name}
use Rattle.trace_text.specs.Output.{unsigned_decimal, decimal_of}
use Rattle.st.specs.Syntax.{StExpression, number, variable, negative, complement, binary, Assignment, Branch, Statement, assign, choose, Declaration}
use Rattle.st.specs.Reading.{lexemes_from, Lexemes, read, begins, levels, read_whole, read_assignment, read_branch, read_branches, read_statement, read_statements, read_start, read_declaration, read_declarations, read_section, is_empty, declared_once, program_read}
use Rattle.st.specs.Printed.{spelling, expression_printed, assignment_printed, later_branches, statement_printed, statements_printed, declarations_printed, section_printed, program_printed}
use Rattle.st.proofs.Words.{numeral}
use Rattle.st.proofs.Lexed.{word_read, NameWord}
use Rattle.st.proofs.Expressions.{Writable, tokens_e, lexed, Quiet, operations, expression_read, minus_token}

-- ---- assignments

abbrev pub WritableA : Assignment → Type 0
WritableA a = NameWord a.target × Writable a.value

abbrev pub tokens_a : Assignment → Lexemes → Lexemes
tokens_a a ts = a.target ∷ bytes ":=" ∷ tokens_e a.value (bytes ";" ∷ ts)

becomes_token : (l : List ℕ) → lexemes_from [] (bytes " := " ++ l) ≡ bytes ":=" ∷ lexemes_from [] l
unfolding lexemes_from is_space
becomes_token l = refl

end_token : (l : List ℕ) → lexemes_from [] (bytes ";\n" ++ l) ≡ bytes ";" ∷ lexemes_from [] l
unfolding lexemes_from is_space
end_token l = refl

lexed-assignment : (a : Assignment) → WritableA a → (l : List ℕ) → lexemes_from [] (assignment_printed a l) ≡ tokens_a a (lexemes_from [] l)
lexed-assignment a h l =
    rw (word_read a.target (bytes " := " ++ expression_printed a.value (bytes ";\n" ++ l)) h.0.plain.word refl, becomes_token (expression_printed a.value (bytes ";\n" ++ l)), lexed a.value h.1 (bytes ";\n" ++ l) refl, end_token l)

quiet_end : (ts : Lexemes) → Quiet levels (bytes ";" ∷ ts)
unfolding same_name same_bytes capitals capital
quiet_end ts = (refl, (refl, (refl, (refl, (refl, (refl, tt))))))

quiet_then : (ts : Lexemes) → Quiet levels (bytes "THEN" ∷ ts)
unfolding same_name same_bytes capitals capital
quiet_then ts = (refl, (refl, (refl, (refl, (refl, (refl, tt))))))

enough : (e : StExpression) (ts : Lexemes) → operations e + length ts ≤ length (tokens_e e ts)
enough (number n) ts = omega arith
enough (variable w) ts = omega arith
enough (negative e) ts = let i = enough e (bytes ")" ∷ ts) in omega arith
enough (complement e) ts = let i = enough e (bytes ")" ∷ ts) in omega arith
enough (binary o a b) ts = let i = enough b (bytes ")" ∷ ts) in let j = enough a (spelling o ∷ tokens_e b (bytes ")" ∷ ts)) in omega arith

whole_read : (e : StExpression) → Writable e → (ts : Lexemes) → Quiet levels ts → read_whole (tokens_e e ts) ≡ read e ts
whole_read e h ts q = let i = enough e ts in expression_read e (length (tokens_e e ts)) (omega arith) h ts q

assignment_read : (a : Assignment) → WritableA a → (ts : Lexemes) → read_assignment (tokens_a a ts) ≡ read a ts
unfolding same_name same_bytes capitals capital
assignment_read a h ts = rw (h.0.name, whole_read a.value h.1 (bytes ";" ∷ ts) (quiet_end ts))

-- ---- branches and statements

abbrev pub WritableK : Branch → Type 0
WritableK k = Writable k.condition × WritableA k.body

abbrev pub AllWritable : List Branch → Type 0
AllWritable [] = Unit {0}
AllWritable (k ∷ ks) = WritableK k × AllWritable ks

abbrev pub tokens_k : Branch → Lexemes → Lexemes
tokens_k k ts = tokens_e k.condition (bytes "THEN" ∷ tokens_a k.body ts)

abbrev pub tokens_later : List Branch → Lexemes → Lexemes
tokens_later [] ts = bytes "END_IF" ∷ bytes ";" ∷ ts
tokens_later (k ∷ ks) ts = bytes "ELSIF" ∷ tokens_k k (tokens_later ks ts)

then_token : (l : List ℕ) → lexemes_from [] (bytes " THEN\n  " ++ l) ≡ bytes "THEN" ∷ lexemes_from [] l
unfolding lexemes_from is_space
then_token l = refl

if-token : (l : List ℕ) → lexemes_from [] (bytes "IF " ++ l) ≡ bytes "IF" ∷ lexemes_from [] l
unfolding lexemes_from is_space
if-token l = refl

elsif-token : (l : List ℕ) → lexemes_from [] (bytes "ELSIF " ++ l) ≡ bytes "ELSIF" ∷ lexemes_from [] l
unfolding lexemes_from is_space
elsif-token l = refl

end-if-token : (l : List ℕ) → lexemes_from [] (bytes "END_IF;\n" ++ l) ≡ bytes "END_IF" ∷ bytes ";" ∷ lexemes_from [] l
unfolding lexemes_from is_space
end-if-token l = refl

lexed-branch : (k : Branch) → WritableK k → (l : List ℕ) → lexemes_from [] (expression_printed k.condition (bytes " THEN\n  " ++ assignment_printed k.body l)) ≡ tokens_k k (lexemes_from [] l)
lexed-branch k h l = rw (lexed k.condition h.0 (bytes " THEN\n  " ++ assignment_printed k.body l) refl, then_token (assignment_printed k.body l), lexed-assignment k.body h.1 l)

lexed_later : (ks : List Branch) → AllWritable ks → (l : List ℕ) → lexemes_from [] (later_branches ks l) ≡ tokens_later ks (lexemes_from [] l)
unfolding later_branches
lexed_later [] h l = end-if-token l
lexed_later (k ∷ ks) h l =
    rw (elsif-token (expression_printed k.condition (bytes " THEN\n  " ++ assignment_printed k.body (later_branches ks l))), lexed-branch k h.0 (later_branches ks l), lexed_later ks h.1 l)

branch_read : (k : Branch) → WritableK k → (ts : Lexemes) → read_branch (tokens_k k ts) ≡ read k ts
unfolding same_name same_bytes capitals capital
branch_read k h ts = rw (whole_read k.condition h.0 (bytes "THEN" ∷ tokens_a k.body ts) (quiet_then (tokens_a k.body ts)), assignment_read k.body h.1 ts)

branches_read : (ks : List Branch) (f : ℕ) → length ks ≤ f → AllWritable ks → (ts : Lexemes) → read_branches (suc f) (tokens_later ks ts) ≡ read ks ts
unfolding read_branches same_name same_bytes capitals capital
branches_read [] f i h ts = refl
branches_read (k ∷ ks) zero i h ts = absurd (omega arith)
branches_read (k ∷ ks) (suc f) i h ts = rw (branch_read k h.0 (tokens_later ks ts), branches_read ks f (omega arith) h.1 ts)

abbrev pub WritableS : Statement → Type 0
WritableS (assign a) = WritableA a
WritableS (choose []) = ⊥
WritableS (choose (k ∷ ks)) = WritableK k × AllWritable ks

abbrev pub tokens_s : Statement → Lexemes → Lexemes
tokens_s (assign a) ts = tokens_a a ts
tokens_s (choose []) ts = ts
tokens_s (choose (k ∷ ks)) ts = bytes "IF" ∷ tokens_k k (tokens_later ks ts)

pub lexed_statement : (s : Statement) → WritableS s → (l : List ℕ) → lexemes_from [] (statement_printed s l) ≡ tokens_s s (lexemes_from [] l)
unfolding statement_printed
lexed_statement (assign a) h l = lexed-assignment a h l
lexed_statement (choose []) h l = absurd h
lexed_statement (choose (k ∷ ks)) h l =
    rw (if-token (expression_printed k.condition (bytes " THEN\n  " ++ assignment_printed k.body (later_branches ks l))), lexed-branch k h.0 (later_branches ks l), lexed_later ks h.1 l)

later_length : (ks : List Branch) (ts : Lexemes) → length ks + length ts ≤ length (tokens_later ks ts)
later_length [] ts = omega arith
later_length (k ∷ ks) ts =
    let i = later_length ks ts in
    let j = enough k.body.value (bytes ";" ∷ tokens_later ks ts) in
    let g = enough k.condition (bytes "THEN" ∷ tokens_a k.body (tokens_later ks ts)) in
    omega arith

later_some : (ks : List Branch) (ts : Lexemes) → suc (length ks) ≤ length (tokens_later ks ts)
later_some [] ts = omega arith
later_some (k ∷ ks) ts =
    let i = later_some ks ts in
    let j = enough k.body.value (bytes ";" ∷ tokens_later ks ts) in
    let g = enough k.condition (bytes "THEN" ∷ tokens_a k.body (tokens_later ks ts)) in
    omega arith

at_length : (n : ℕ) (ks : List Branch) (ts : Lexemes) → suc (length ks) ≤ n → AllWritable ks → read_branches n (tokens_later ks ts) ≡ read ks ts
at_length zero ks ts i h = absurd (omega arith)
at_length (suc n) ks ts i h = branches_read ks n (omega arith) h ts

same_if : same_name (bytes "IF") (bytes "IF") ≡ true
unfolding same_name same_bytes capitals capital
same_if = refl

statement-read : (s : Statement) → WritableS s → (ts : Lexemes) → read_statement (tokens_s s ts) ≡ read s ts
unfolding read_statement
statement-read (assign a) h ts = rw (h.0.no_if, assignment_read a h ts)
statement-read (choose []) h ts = absurd h
statement-read (choose (k ∷ ks)) h ts =
    rw (same_if, branch_read k h.0 (tokens_later ks ts), at_length (length (tokens_later ks ts)) ks ts (later_some ks ts) h.1)

abbrev pub AllWritableS : List Statement → Type 0
AllWritableS [] = Unit {0}
AllWritableS (s ∷ ss) = WritableS s × AllWritableS ss

abbrev pub tokens_all : List Statement → Lexemes
tokens_all [] = []
tokens_all (s ∷ ss) = tokens_s s (tokens_all ss)

lexed_statements : (ss : List Statement) → AllWritableS ss → lexemes_from [] (statements_printed ss []) ≡ tokens_all ss
unfolding statements_printed lexemes_from
lexed_statements [] h = refl
lexed_statements (s ∷ ss) h = lexed_statement s h.0 (statements_printed ss []) ∙ ap (tokens_s s) (lexed_statements ss h.1)

some_token : (s : Statement) → WritableS s → (ts : Lexemes) → (is_empty (tokens_s s ts) ≡ false) × (suc (length ts) ≤ length (tokens_s s ts))
some_token (assign a) h ts = let j = enough a.value (bytes ";" ∷ ts) in (refl, omega arith)
some_token (choose []) h ts = absurd h
some_token (choose (k ∷ ks)) h ts =
    let i = later_length ks ts in
    let j = enough k.body.value (bytes ";" ∷ tokens_later ks ts) in
    let g = enough k.condition (bytes "THEN" ∷ tokens_a k.body (tokens_later ks ts)) in
    (refl, omega arith)

all_long : (ss : List Statement) → AllWritableS ss → length ss ≤ length (tokens_all ss)
all_long [] h = omega arith
all_long (s ∷ ss) h = let i = all_long ss h.1 in let j = (some_token s h.0 (tokens_all ss)).1 in omega arith

statements_read : (ss : List Statement) (f : ℕ) → length ss ≤ f → AllWritableS ss → read_statements f (tokens_all ss) ≡ read ss []
unfolding read_statements
statements_read [] zero i h = refl
statements_read [] (suc f) i h = refl
statements_read (s ∷ ss) zero i h = absurd (omega arith)
statements_read (s ∷ ss) (suc f) i h = rw ((some_token s h.0 (tokens_all ss)).0, statement-read s h.0 (tokens_all ss), statements_read ss f (omega arith) h.1)

-- ---- declarations

abbrev pub WritableD : List Declaration → Type 0
WritableD [] = Unit {0}
WritableD (d ∷ ds) = NameWord d.name × (is_int32 d.start ≡ true) × WritableD ds

abbrev pub tokens_z : ℤ → Lexemes → Lexemes
tokens_z (pos n) ts = unsigned_decimal n ∷ ts
tokens_z (negsuc n) ts = bytes "-" ∷ unsigned_decimal (n + 1) ∷ ts

abbrev pub tokens_d : List Declaration → Lexemes → Lexemes
tokens_d [] ts = bytes "END_VAR" ∷ ts
tokens_d (d ∷ ds) ts = d.name ∷ bytes ":" ∷ bytes "DINT" ∷ bytes ":=" ∷ tokens_z d.start (bytes ";" ∷ tokens_d ds ts)

lexed_start : (z : ℤ) (l : List ℕ) → lexemes_from [] (decimal_of z ++ (bytes ";\n" ++ l)) ≡ tokens_z z (bytes ";" ∷ lexemes_from [] l)
unfolding decimal_of
lexed_start (pos n) l = rw (word_read (unsigned_decimal n) (bytes ";\n" ++ l) (numeral n).plain.word refl, end_token l)
lexed_start (negsuc n) l =
    rw (minus_token (unsigned_decimal (n + 1) ++ (bytes ";\n" ++ l)), word_read (unsigned_decimal (n + 1)) (bytes ";\n" ++ l) (numeral (n + 1)).plain.word refl, end_token l)

colon_token : (l : List ℕ) → lexemes_from [] (bytes " : DINT := " ++ l) ≡ bytes ":" ∷ bytes "DINT" ∷ bytes ":=" ∷ lexemes_from [] l
unfolding lexemes_from is_space
colon_token l = refl

indented : (l : List ℕ) → lexemes_from [] (bytes "  " ++ l) ≡ lexemes_from [] l
unfolding lexemes_from is_space
indented l = refl

end-var-token : (l : List ℕ) → lexemes_from [] (bytes "END_VAR\n" ++ l) ≡ bytes "END_VAR" ∷ lexemes_from [] l
unfolding lexemes_from is_space
end-var-token l = refl

lexed-declarations : (ds : List Declaration) → WritableD ds → (l : List ℕ) → lexemes_from [] (declarations_printed ds l) ≡ tokens_d ds (lexemes_from [] l)
unfolding declarations_printed
lexed-declarations [] h l = end-var-token l
lexed-declarations (d ∷ ds) h l =
    let more = declarations_printed ds l in
    let start = decimal_of d.start ++ (bytes ";\n" ++ more) in
    rw (indented (d.name ++ (bytes " : DINT := " ++ start)), word_read d.name (bytes " : DINT := " ++ start) h.0.plain.word refl, colon_token start, lexed_start d.start more, lexed-declarations ds h.2 l)

start_read : (z : ℤ) (ts : Lexemes) → read_start (tokens_z z ts) ≡ read z ts
unfolding same_name same_bytes capitals capital
start_read (pos n) ts = rw ((numeral n).plain.no_minus, (numeral n).digits, (numeral n).value)
start_read (negsuc n) ts = rw ((numeral (n + 1)).digits, (numeral (n + 1)).value, add-one n)

declaration_read : (d : Declaration) → NameWord d.name → is_int32 d.start ≡ true → (ts : Lexemes)
    → read_declaration (d.name ∷ bytes ":" ∷ bytes "DINT" ∷ bytes ":=" ∷ tokens_z d.start (bytes ";" ∷ ts)) ≡ read d ts
unfolding same_name same_bytes capitals capital
declaration_read d h i ts = rw (h.name, start_read d.start (bytes ";" ∷ ts), i)

declarations_read : (ds : List Declaration) (f : ℕ) → length ds ≤ f → WritableD ds → (ts : Lexemes) → read_declarations (suc f) (tokens_d ds ts) ≡ read ds ts
unfolding read_declarations same_name same_bytes capitals capital
declarations_read [] f i h ts = refl
declarations_read (d ∷ ds) zero i h ts = absurd (omega arith)
declarations_read (d ∷ ds) (suc f) i h ts = rw (h.0.no_end, declaration_read d h.0 h.1 (tokens_d ds ts), declarations_read ds f (omega arith) h.2 ts)

-- ---- sections and programs

start_length : (z : ℤ) (ts : Lexemes) → length ts ≤ length (tokens_z z ts)
start_length (pos n) ts = omega arith
start_length (negsuc n) ts = omega arith

declared_length : (ds : List Declaration) (ts : Lexemes) → suc (length ds) ≤ length (tokens_d ds ts)
declared_length [] ts = omega arith
declared_length (d ∷ ds) ts = let i = declared_length ds ts in let j = start_length d.start (bytes ";" ∷ tokens_d ds ts) in omega arith

at_most : (n : ℕ) (ds : List Declaration) (ts : Lexemes) → suc (length ds) ≤ n → WritableD ds → read_declarations n (tokens_d ds ts) ≡ read ds ts
at_most zero ds ts i h = absurd (omega arith)
at_most (suc n) ds ts i h = declarations_read ds n (omega arith) h ts

abbrev pub tokens_section : String → List Declaration → Lexemes → Lexemes
tokens_section word [] ts = ts
tokens_section word (d ∷ ds) ts = bytes word ∷ tokens_d (d ∷ ds) ts

input_token : (l : List ℕ) → lexemes_from [] (bytes "VAR_INPUT" ++ (10 ∷ l)) ≡ bytes "VAR_INPUT" ∷ lexemes_from [] l
unfolding lexemes_from is_space
input_token l = refl

var-token : (l : List ℕ) → lexemes_from [] (bytes "VAR" ++ (10 ∷ l)) ≡ bytes "VAR" ∷ lexemes_from [] l
unfolding lexemes_from is_space
var-token l = refl

lexed-section : (word : String) → ((l : List ℕ) → lexemes_from [] (bytes word ++ (10 ∷ l)) ≡ bytes word ∷ lexemes_from [] l) → (ds : List Declaration) → WritableD ds → (l : List ℕ)
    → lexemes_from [] (section_printed word ds l) ≡ tokens_section word ds (lexemes_from [] l)
unfolding section_printed
lexed-section word w [] h l = refl
lexed-section word w (d ∷ ds) h l = w (declarations_printed (d ∷ ds) l) ∙ ap (λ (x : Lexemes). bytes word ∷ x) (lexed-declarations (d ∷ ds) h l)

section_read : (word : String) → same_name (bytes word) (bytes word) ≡ true → (d : Declaration) (ds : List Declaration) → WritableD (d ∷ ds) → (ts : Lexemes)
    → read_section word (tokens_section word (d ∷ ds) ts) ≡ read (d ∷ ds) ts
unfolding read_section
section_read word w d ds h ts = rw w (at_most (suc (length (tokens_d (d ∷ ds) ts))) (d ∷ ds) ts (let i = declared_length (d ∷ ds) ts in omega arith) h)

-- each left out if empty
section_absent : (word : String) (ts : Lexemes) → begins word ts ≡ false → read_section word ts ≡ read [] ts
unfolding read_section
section_absent word ts e = rw e

same-input : same_name (bytes "VAR_INPUT") (bytes "VAR_INPUT") ≡ true
unfolding same_name same_bytes capitals capital
same-input = refl

same-var : same_name (bytes "VAR") (bytes "VAR") ≡ true
unfolding same_name same_bytes capitals capital
same-var = refl

var-no-input : same_name (bytes "VAR") (bytes "VAR_INPUT") ≡ false
unfolding same_name same_bytes capitals capital
var-no-input = refl

inputs_read : (is : List Declaration) → WritableD is → (ts : Lexemes) → read_section "VAR_INPUT" (tokens_section "VAR_INPUT" is (bytes "VAR" ∷ ts)) ≡ read is (bytes "VAR" ∷ ts)
inputs_read [] h ts = section_absent "VAR_INPUT" (bytes "VAR" ∷ ts) var-no-input
inputs_read (d ∷ ds) h ts = section_read "VAR_INPUT" same-input d ds h (bytes "VAR" ∷ ts)

pub program_read_lem : (is vs : List Declaration) (v : Declaration) (b : List Statement) → WritableD is → WritableD (v ∷ vs) → AllWritableS b → declared_once (is ++ v ∷ vs) ≡ true
    → program_read (program_printed (record { inputs = is; variables = v ∷ vs; body = b })) ≡ some (record { inputs = is; variables = v ∷ vs; body = b })
unfolding program_read program_printed
program_read_lem is vs v b hi hv hb o =
    let body = statements_printed b [] in
    rw (
      lexed-section "VAR_INPUT" input_token is hi (section_printed "VAR" (v ∷ vs) body),
      lexed-section "VAR" var-token (v ∷ vs) hv body,
      lexed_statements b hb,
      inputs_read is hi (tokens_d (v ∷ vs) (tokens_all b)),
      section_read "VAR" same-var v vs hv (tokens_all b),
      statements_read b (length (tokens_all b)) (all_long b hb) hb,
      o,
    )

pub nothing_read : program_read (program_printed (record { inputs = []; variables = []; body = [] })) ≡ some (record { inputs = []; variables = []; body = [] })
unfolding program_read program_printed section_printed statements_printed lexemes_from read_statements read_section same_name same_bytes capitals capital
nothing_read = refl
