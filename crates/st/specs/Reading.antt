-- What bytes read as, by the standard's lexemes, keywords and operator precedence. Assumes nothing.
use Rattle.std.specs.Prelude.{ℕ, zero, suc, ◌+◌, Bool, true, false, not, ◌&&◌, ◌||◌, cond, List, [], ◌∷◌, ◌++◌, leb, ltb, eqb, ℤ, pos, neg_ℤ, length}
use Prim.Native.String.{String}
use Rattle.std.proofs.Math.Option.{Option, none, some}
use Rattle.arith.specs.Values.{equal, not_equal, less, less_equal, greater, greater_equal, add, subtract, multiply, divide, modulo, is_int32}
use Rattle.lexer.specs.Bytes.{bytes}
use Rattle.lexer.specs.Lexer.{is_space, is_letter, is_alphanumeric, same_name, value_of}
use Rattle.trace_text.specs.Row.{all_digits}
use Rattle.st.specs.Syntax.{Identifier, or, and, Operator, connects, relates, computes, StExpression, number, variable, negative, complement, binary, Assignment, Branch, Statement, assign, choose, Declaration, StProgram}

-- ---- lexemes, by longest match

-- letters, digits and `_` make keywords, identifiers and numbers
abbrev pub is_part : ℕ → Bool
is_part b = (leb 97 b && ltb b 123) || ((leb 65 b && ltb b 91) || ((leb 48 b && ltb b 58) || eqb b 95))

-- `:=` `<=` `>=` `<>`
abbrev pub is_pair : ℕ → ℕ → Bool
is_pair a b = cond (eqb a 60) (eqb b 61 || eqb b 62) (cond (eqb a 58 || eqb a 62) (eqb b 61) false)

-- whether the byte b goes on the lexeme that stands left
abbrev pub joins : List ℕ → ℕ → Bool
joins [] b = false
joins (a ∷ []) b = cond (is_part a) (is_part b) (is_pair a b)
joins (a ∷ c ∷ l) b = is_part a && is_part b

abbrev pub Lexemes : Type 0
Lexemes = List (List ℕ)

abbrev pub ended : List ℕ → Lexemes → Lexemes
ended [] ts = ts
ended (a ∷ l) ts = (a ∷ l) ∷ ts

unfoldable pub lexemes_from : List ℕ → List ℕ → Lexemes
lexemes_from left [] = ended left []
lexemes_from left (b ∷ l) =
    let more = lexemes_from (left ++ b ∷ []) l in
    let next = ended left (lexemes_from (cond (is_space b) [] (b ∷ [])) l) in
    cond (joins left b) more next

-- ---- keywords and identifiers, without letter case (`same_name`)

abbrev pub is_any : List (List ℕ) → List ℕ → Bool
is_any [] t = false
is_any (w ∷ ws) t = same_name t w || is_any ws t

-- the words used here
abbrev pub keywords : List (List ℕ)
keywords = bytes "VAR" ∷ bytes "VAR_INPUT" ∷ bytes "END_VAR" ∷ bytes "DINT" ∷ bytes "IF" ∷ bytes "THEN" ∷ bytes "ELSIF" ∷ bytes "END_IF" ∷ bytes "AND" ∷ bytes "OR" ∷ bytes "NOT" ∷ bytes "MOD" ∷ []

-- {['_'] (letter | digit)}
abbrev pub is_repetition : List ℕ → Bool
is_repetition [] = true
is_repetition (a ∷ []) = is_alphanumeric a
is_repetition (a ∷ b ∷ l) = (is_alphanumeric a && is_repetition (b ∷ l)) || (eqb a 95 && (is_alphanumeric b && is_repetition l))

-- the standard's production: identifier ::= (letter | ('_' (letter | digit))) {['_'] (letter | digit)}
abbrev pub is_produced : List ℕ → Bool
is_produced [] = false
is_produced (a ∷ []) = is_letter a
is_produced (a ∷ b ∷ l) = (is_letter a && is_repetition (b ∷ l)) || (eqb a 95 && (is_alphanumeric b && is_repetition l))

-- a word of that production which is no keyword
unfoldable pub is_identifier : List ℕ → Bool
is_identifier w = is_produced w && not (is_any keywords w)

abbrev pub is_number : List ℕ → Bool
is_number [] = false
is_number (b ∷ l) = all_digits (b ∷ l)

-- ---- readers

-- what was read and the lexemes behind it; or nothing
pub data Reading (A : Type 0) : Type 0 where
  read : A → Lexemes → Reading A
  unread : Reading A

infixl 20 ◌followed_by◌
abbrev pub ◌followed_by◌ : {A B : Type 0} → Reading A → (A → Lexemes → Reading B) → Reading B
read a ts followed_by f = f a ts
unread followed_by f = unread

abbrev pub first : Lexemes → List ℕ
first [] = []
first (t ∷ ts) = t

-- the first lexeme is the word or sign given
abbrev pub begins : String → Lexemes → Bool
begins w ts = same_name (first ts) (bytes w)

abbrev pub behind : Lexemes → Lexemes
behind [] = []
behind (t ∷ ts) = ts

abbrev pub want : String → Lexemes → Reading (Unit {0})
want w ts = cond (begins w ts) (read tt (behind ts)) unread

abbrev pub read_identifier : Lexemes → Reading Identifier
read_identifier ts = cond (is_identifier (first ts)) (read (first ts) (behind ts)) unread

abbrev pub read_number : Lexemes → Reading ℕ
read_number ts = cond (is_number (first ts)) (read (value_of (first ts)) (behind ts)) unread

-- ---- expressions

pub record Sign : Type 0 where
  pub spelling : String
  pub operator : Operator

abbrev pub sign : String → Operator → Sign
sign w o = record { spelling = w; operator = o }

-- the precedence of the standard, the lowest first
abbrev pub levels : List (List Sign)
levels =
    (sign "OR" (connects or) ∷ [])
    ∷ (sign "AND" (connects and) ∷ [])
    ∷ (sign "=" (relates equal) ∷ sign "<>" (relates not_equal) ∷ [])
    ∷ (sign "<" (relates less) ∷ sign ">" (relates greater) ∷ sign "<=" (relates less_equal) ∷ sign ">=" (relates greater_equal) ∷ [])
    ∷ (sign "+" (computes add) ∷ sign "-" (computes subtract) ∷ [])
    ∷ (sign "*" (computes multiply) ∷ sign "/" (computes divide) ∷ sign "MOD" (computes modulo) ∷ [])
    ∷ []

abbrev pub operator_in : List Sign → Lexemes → Option Operator
operator_in [] ts = none
operator_in (g ∷ gs) ts = cond (begins g.spelling ts) (some g.operator) (operator_in gs ts)

abbrev pub if_found : {A B : Type 0} → Option A → B → (A → B) → B
if_found none b f = b
if_found (some a) b f = f a

-- operators of one level and operands behind the operand a, left to right
unfoldable pub onward : ℕ → List Sign → (Lexemes → Reading StExpression) → StExpression → Lexemes → Reading StExpression
onward zero signs operand a ts = read a ts
onward (suc f) signs operand a ts =
    if_found (operator_in signs ts) (read a ts) (λ o. operand (behind ts) followed_by λ b us. onward f signs operand (binary o a b) us)

unfoldable pub leveled : List (List Sign) → (Lexemes → Reading StExpression) → Lexemes → Reading StExpression
leveled [] operand ts = operand ts
leveled (signs ∷ more) operand ts = leveled more operand ts followed_by λ a us. onward (length us) signs (λ vs. leveled more operand vs) a us

-- a number, a variable, or an expression in round brackets
unfoldable pub read_primary : (Lexemes → Reading StExpression) → Lexemes → Reading StExpression
read_primary inner ts =
    let bracket = inner (behind ts) followed_by λ e us. want ")" us followed_by λ u vs. read e vs in
    let constant = read_number ts followed_by λ n us. read (number n) us in
    let is_declared = read_identifier ts followed_by λ w us. read (variable w) us in
    cond (begins "(" ts) bracket (cond (is_number (first ts)) constant is_declared)

-- at most one `-` or NOT before it
unfoldable pub read_unary : (Lexemes → Reading StExpression) → Lexemes → Reading StExpression
read_unary inner ts =
    let subtract = read_primary inner (behind ts) followed_by λ e us. read (negative e) us in
    let not = read_primary inner (behind ts) followed_by λ e us. read (complement e) us in
    let plain = read_primary inner ts in
    cond (begins "-" ts) subtract (cond (begins "NOT" ts) not plain)

-- at most f brackets deep
unfoldable pub read_expression : ℕ → Lexemes → Reading StExpression
read_expression zero ts = unread
read_expression (suc f) ts = leveled levels (read_unary (λ us. read_expression f us)) ts

-- no more brackets than lexemes
abbrev pub read_whole : Lexemes → Reading StExpression
read_whole ts = read_expression (suc (length ts)) ts

-- ---- statements

abbrev pub read_assignment : Lexemes → Reading Assignment
read_assignment ts =
    read_identifier ts followed_by λ w us. want ":=" us followed_by λ u vs. read_whole vs followed_by λ e ws. want ";" ws followed_by λ u xs. read (record { target = w; value = e }) xs

-- behind IF or ELSIF
abbrev pub read_branch : Lexemes → Reading Branch
read_branch ts = read_whole ts followed_by λ c us. want "THEN" us followed_by λ u vs. read_assignment vs followed_by λ a ws. read (record { condition = c; body = a }) ws

-- ELSIF branches up to `END_IF;`
unfoldable pub read_branches : ℕ → Lexemes → Reading (List Branch)
read_branches zero ts = unread
read_branches (suc f) ts =
    let more = read_branch (behind ts) followed_by λ b us. read_branches f us followed_by λ bs vs. read (b ∷ bs) vs in
    let end = want "END_IF" ts followed_by λ u us. want ";" us followed_by λ u vs. read [] vs in
    cond (begins "ELSIF" ts) more end

unfoldable pub read_statement : Lexemes → Reading Statement
read_statement ts =
    let choice = read_branch (behind ts) followed_by λ b us. read_branches (length us) us followed_by λ bs vs. read (choose (b ∷ bs)) vs in
    let single = read_assignment ts followed_by λ a us. read (assign a) us in
    cond (begins "IF" ts) choice single

abbrev pub is_empty : Lexemes → Bool
is_empty [] = true
is_empty (t ∷ ts) = false

-- up to the end; each has a lexeme
unfoldable pub read_statements : ℕ → Lexemes → Reading (List Statement)
read_statements zero ts = read [] ts
read_statements (suc f) ts =
    let more = read_statement ts followed_by λ s us. read_statements f us followed_by λ ss vs. read (s ∷ ss) vs in
    cond (is_empty ts) (read [] ts) more

-- ---- declarations

abbrev pub read_start : Lexemes → Reading ℤ
read_start ts =
    let below = read_number (behind ts) followed_by λ n us. read (neg_ℤ (pos n)) us in
    let above = read_number ts followed_by λ n us. read (pos n) us in
    cond (begins "-" ts) below above

abbrev pub read_declaration : Lexemes → Reading Declaration
read_declaration ts =
    read_identifier ts followed_by λ w us. want ":" us followed_by λ u us. want "DINT" us followed_by λ u us. want ":=" us followed_by λ u us. read_start us followed_by λ z us. want ";" us followed_by λ u us.
    cond (is_int32 z) (read (record { name = w; start = z }) us) unread

unfoldable pub read_declarations : ℕ → Lexemes → Reading (List Declaration)
read_declarations zero ts = unread
read_declarations (suc f) ts =
    let more = read_declaration ts followed_by λ d us. read_declarations f us followed_by λ ds vs. read (d ∷ ds) vs in
    cond (begins "END_VAR" ts) (read [] (behind ts)) more

-- a section is left out if it is empty
unfoldable pub read_section : String → Lexemes → Reading (List Declaration)
read_section w ts = let ds = read_declarations (length ts) (behind ts) in cond (begins w ts) ds (read [] ts)

abbrev pub is_declared : List Declaration → Identifier → Bool
is_declared [] w = false
is_declared (d ∷ ds) w = same_name w d.name || is_declared ds w

-- no identifier is declared twice
abbrev pub declared_once : List Declaration → Bool
declared_once [] = true
declared_once (d ∷ ds) = not (is_declared ds d.name) && declared_once ds

abbrev pub program_from : Reading StProgram → Option StProgram
program_from (read p []) = cond (declared_once (p.inputs ++ p.variables)) (some p) none
program_from (read p (t ∷ ts)) = none
program_from unread = none

-- the program that bytes are, if they are one
unfoldable pub program_read : List ℕ → Option StProgram
program_read text =
    program_from (read_section "VAR_INPUT" (lexemes_from [] text) followed_by λ is us. read_section "VAR" us followed_by λ vs ws. read_statements (length ws) ws followed_by λ b xs.
    read (record { inputs = is; variables = vs; body = b }) xs)
