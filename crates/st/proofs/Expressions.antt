-- An expression that is printed is read back. Assumes nothing.
use Prim.Native.Nat.{ℕ, zero, suc, ◌+◌, ◌≤◌}
use native.Mathlib.Omega.{arith}
use mathlib.Core.Path.{◌≡◌, refl, ◌∙◌}
use mathlib.Core.List.{List, [], ◌∷◌, ◌++◌}
use mathlib.Core.Option.{none, some}
use lib.ListN.{length}
use Rattle.arith.specs.Values.{equal, not_equal, less, less_equal, greater, greater_equal, add, subtract, multiply, divide, modulo}
use Rattle.lexer.specs.Bytes.{bytes, same_bytes, capital, capitals}
use Rattle.lexer.specs.Lexer.{is_space, same_name}
use Rattle.trace_text.specs.Output.{unsigned_decimal}
use Rattle.st.specs.Syntax.{or, and, Operator, connects, relates, computes, StExpression, number, variable, negative, complement, binary}
use Rattle.st.specs.Reading.{lexemes_from, Lexemes, Reading, read, Sign, levels, operator_in, onward, leveled, read_primary, read_unary, read_expression}
use Rattle.st.specs.Printed.{spelling, expression_printed}
use Rattle.st.proofs.Lexed.{Clear, word_read, NameWord}
use Rattle.st.proofs.Words.{numeral}

-- what is asked of an expression: its variables are names
abbrev pub Writable : StExpression → Type 0
Writable (number n) = Unit {0}
Writable (variable w) = NameWord w
Writable (negative e) = Writable e
Writable (complement e) = Writable e
Writable (binary o a b) = Writable a × Writable b

-- ---- tokens

abbrev pub tokens_e : StExpression → Lexemes → Lexemes
tokens_e (number n) ts = unsigned_decimal n ∷ ts
tokens_e (variable w) ts = w ∷ ts
tokens_e (negative e) ts = bytes "(" ∷ bytes "-" ∷ tokens_e e (bytes ")" ∷ ts)
tokens_e (complement e) ts = bytes "(" ∷ bytes "NOT" ∷ tokens_e e (bytes ")" ∷ ts)
tokens_e (binary o a b) ts = bytes "(" ∷ tokens_e a (spelling o ∷ tokens_e b (bytes ")" ∷ ts))

-- an operator between spaces is one token
operator_token : (o : Operator) (l : List ℕ) → lexemes_from [] (bytes " " ++ (spelling o ++ (bytes " " ++ l))) ≡ spelling o ∷ lexemes_from [] l
unfolding lexemes_from is_space
operator_token (connects or) l = refl
operator_token (connects and) l = refl
operator_token (relates equal) l = refl
operator_token (relates not_equal) l = refl
operator_token (relates less) l = refl
operator_token (relates greater) l = refl
operator_token (relates less_equal) l = refl
operator_token (relates greater_equal) l = refl
operator_token (computes add) l = refl
operator_token (computes subtract) l = refl
operator_token (computes multiply) l = refl
operator_token (computes divide) l = refl
operator_token (computes modulo) l = refl

-- a single byte that no byte behind it joins
pub open_token : (l : List ℕ) → lexemes_from [] (40 ∷ l) ≡ bytes "(" ∷ lexemes_from [] l
unfolding lexemes_from is_space
open_token [] = refl
open_token (b ∷ l) = refl

pub minus_token : (l : List ℕ) → lexemes_from [] (45 ∷ l) ≡ bytes "-" ∷ lexemes_from [] l
unfolding lexemes_from is_space
minus_token [] = refl
minus_token (b ∷ l) = refl

pub close_token : (l : List ℕ) → lexemes_from [] (41 ∷ l) ≡ bytes ")" ∷ lexemes_from [] l
unfolding lexemes_from is_space
close_token [] = refl
close_token (b ∷ l) = refl

not_token : (l : List ℕ) → lexemes_from [] (bytes "NOT " ++ l) ≡ bytes "NOT" ∷ lexemes_from [] l
unfolding lexemes_from is_space
not_token l = refl

pub lexed : (e : StExpression) → Writable e → (l : List ℕ) → Clear l → lexemes_from [] (expression_printed e l) ≡ tokens_e e (lexemes_from [] l)
unfolding expression_printed
lexed (number n) h l c = word_read (unsigned_decimal n) l (numeral n).plain.word c
lexed (variable w) h l c = word_read w l h.plain.word c
lexed (negative e) h l c =
    rw (open_token (45 ∷ expression_printed e (41 ∷ l)), minus_token (expression_printed e (41 ∷ l)), lexed e h (41 ∷ l) refl, close_token l)
lexed (complement e) h l c =
    rw (open_token (bytes "NOT " ++ expression_printed e (41 ∷ l)), not_token (expression_printed e (41 ∷ l)), lexed e h (41 ∷ l) refl, close_token l)
lexed (binary o a b) h l c =
    let more = bytes " " ++ (spelling o ++ (bytes " " ++ expression_printed b (41 ∷ l))) in
    rw (open_token (expression_printed a more), lexed a h.0 more refl, operator_token o (expression_printed b (41 ∷ l)), lexed b h.1 (41 ∷ l) refl, close_token l)

-- ---- levels

abbrev pub Reader : Type 0
Reader = Lexemes → Reading StExpression

-- no level has the first token as an operator
abbrev pub Quiet : List (List Sign) → Lexemes → Type 0
Quiet [] ts = Unit {0}
Quiet (signs ∷ more) ts = (operator_in signs ts ≡ none) × Quiet more ts

onward_quiet : (f : ℕ) (signs : List Sign) (u : Reader) (a : StExpression) (r : Lexemes) → operator_in signs r ≡ none → onward f signs u a r ≡ read a r
unfolding onward
onward_quiet zero signs u a r q = refl
onward_quiet (suc f) signs u a r q = rw q

pub passed : (ls : List (List Sign)) (u : Reader) (x : Lexemes) (a : StExpression) (r : Lexemes) → u x ≡ read a r → Quiet ls r → leveled ls u x ≡ read a r
unfolding leveled
passed [] u x a r e q = e
passed (signs ∷ more) u x a r e q = rw (passed more u x a r e q.1) (onward_quiet (length r) signs (λ vs. leveled more u vs) a r q.0)

-- the token t is the operator o of the level k, and of none below it
abbrev pub At : List ℕ → Operator → ℕ → List (List Sign) → Type 0
At t o k [] = ⊥
At t o zero (signs ∷ more) = ((ts : Lexemes) → operator_in signs (t ∷ ts) ≡ some o) × ((ts : Lexemes) → Quiet more (t ∷ ts))
At t o (suc k) (signs ∷ more) = At t o k more

declared_once : (ls : List (List Sign)) (k : ℕ) (u : Reader) (t : List ℕ) (o : Operator) (x y : Lexemes) (a b : StExpression) (r : Lexemes) → At t o k ls
    → u x ≡ read a (t ∷ y) → u y ≡ read b r → Quiet ls r → leveled ls u x ≡ read (binary o a b) r
unfolding leveled onward
declared_once [] k u t o x y a b r h ea eb z = absurd h
declared_once (signs ∷ more) zero u t o x y a b r h ea eb z =
    rw (passed more u x a (t ∷ y) ea (h.1 y), h.0 y, passed more u y b r eb z.1)
    (onward_quiet (length y) signs (λ vs. leveled more u vs) (binary o a b) r z.0)
declared_once (signs ∷ more) (suc k) u t o x y a b r h ea eb z =
    rw (declared_once more k u t o x y a b r h ea eb z.1)
    (onward_quiet (length r) signs (λ vs. leveled more u vs) (binary o a b) r z.0)

silent : (ts : Lexemes) → Quiet levels (bytes ")" ∷ ts)
unfolding same_name same_bytes capitals capital
silent ts = (refl, (refl, (refl, (refl, (refl, (refl, tt))))))

abbrev level_of : Operator → ℕ
level_of (connects or) = 0
level_of (connects and) = 1
level_of (relates equal) = 2
level_of (relates not_equal) = 2
level_of (relates less) = 3
level_of (relates greater) = 3
level_of (relates less_equal) = 3
level_of (relates greater_equal) = 3
level_of (computes add) = 4
level_of (computes subtract) = 4
level_of (computes multiply) = 5
level_of (computes divide) = 5
level_of (computes modulo) = 5

found : (o : Operator) → At (spelling o) o (level_of o) levels
unfolding same_name same_bytes capitals capital
found (connects or) = ((λ ts. refl), (λ ts. (refl, (refl, (refl, (refl, (refl, tt)))))))
found (connects and) = ((λ ts. refl), (λ ts. (refl, (refl, (refl, (refl, tt))))))
found (relates equal) = ((λ ts. refl), (λ ts. (refl, (refl, (refl, tt)))))
found (relates not_equal) = ((λ ts. refl), (λ ts. (refl, (refl, (refl, tt)))))
found (relates less) = ((λ ts. refl), (λ ts. (refl, (refl, tt))))
found (relates greater) = ((λ ts. refl), (λ ts. (refl, (refl, tt))))
found (relates less_equal) = ((λ ts. refl), (λ ts. (refl, (refl, tt))))
found (relates greater_equal) = ((λ ts. refl), (λ ts. (refl, (refl, tt))))
found (computes add) = ((λ ts. refl), (λ ts. (refl, tt)))
found (computes subtract) = ((λ ts. refl), (λ ts. (refl, tt)))
found (computes multiply) = ((λ ts. refl), (λ ts. tt))
found (computes divide) = ((λ ts. refl), (λ ts. tt))
found (computes modulo) = ((λ ts. refl), (λ ts. tt))

-- ---- an expression

-- the operations of an expression: no fewer than its brackets are deep
abbrev pub operations : StExpression → ℕ
operations (number n) = 0
operations (variable w) = 0
operations (negative e) = suc (operations e)
operations (complement e) = suc (operations e)
operations (binary o a b) = suc (operations a + operations b)

-- the first token is no sign
unary_plain : (u : Reader) (e : StExpression) → Writable e → (ts : Lexemes) → read_unary u (tokens_e e ts) ≡ read_primary u (tokens_e e ts)
unfolding read_unary same_name same_bytes capitals capital
unary_plain u (number n) h ts = rw ((numeral n).plain.no_minus, (numeral n).plain.no_not)
unary_plain u (variable w) h ts = rw (h.plain.no_minus, h.plain.no_not)
unary_plain u (negative e) h ts = refl
unary_plain u (complement e) h ts = refl
unary_plain u (binary o a b) h ts = refl

-- brackets: what stands between them is read as e
bracketed : (f : ℕ) (x ts : Lexemes) (e : StExpression) → leveled levels (read_unary (λ us. read_expression f us)) x ≡ read e (bytes ")" ∷ ts) → read_primary (λ us. read_expression (suc f) us) (bytes "(" ∷ x) ≡ read e ts
unfolding read_primary read_expression same_name same_bytes capitals capital
bracketed f x ts e h = rw h

unary-minus : (u : Reader) (e : StExpression) (x ts : Lexemes) → read_primary u x ≡ read e ts → read_unary u (bytes "-" ∷ x) ≡ read (negative e) ts
unfolding read_unary same_name same_bytes capitals capital
unary-minus u e x ts h = rw h

unary-not : (u : Reader) (e : StExpression) (x ts : Lexemes) → read_primary u x ≡ read e ts → read_unary u (bytes "NOT" ∷ x) ≡ read (complement e) ts
unfolding read_unary same_name same_bytes capitals capital
unary-not u e x ts h = rw h

pub primary-read : (e : StExpression) (f : ℕ) → operations e ≤ f → Writable e → (ts : Lexemes) → read_primary (λ us. read_expression f us) (tokens_e e ts) ≡ read e ts
unfolding read_primary
primary-read (number n) f i h ts = rw ((numeral n).plain.no_bracket, (numeral n).digits, (numeral n).value)
primary-read (variable w) f i h ts = rw (h.plain.no_bracket, h.no_number, h.name)
primary-read (negative e) zero i h ts = absurd (omega arith)
primary-read (negative e) (suc f) i h ts =
    let u : Reader = λ us. read_expression f us in
    let close = bytes ")" ∷ ts in
    bracketed f (bytes "-" ∷ tokens_e e close) ts (negative e)
    (passed levels (read_unary u) (bytes "-" ∷ tokens_e e close) (negative e) close (unary-minus u e (tokens_e e close) close (primary-read e f (omega arith) h close)) (silent ts))
primary-read (complement e) zero i h ts = absurd (omega arith)
primary-read (complement e) (suc f) i h ts =
    let u : Reader = λ us. read_expression f us in
    let close = bytes ")" ∷ ts in
    bracketed f (bytes "NOT" ∷ tokens_e e close) ts (complement e)
    (passed levels (read_unary u) (bytes "NOT" ∷ tokens_e e close) (complement e) close (unary-not u e (tokens_e e close) close (primary-read e f (omega arith) h close)) (silent ts))
primary-read (binary o a b) zero i h ts = absurd (omega arith)
primary-read (binary o a b) (suc f) i h ts =
    let u : Reader = λ us. read_expression f us in
    let close = bytes ")" ∷ ts in
    let right = tokens_e b close in
    bracketed f (tokens_e a (spelling o ∷ right)) ts (binary o a b)
    (declared_once levels (level_of o) (read_unary u) (spelling o) o (tokens_e a (spelling o ∷ right)) right a b close (found o)
    (unary_plain u a h.0 (spelling o ∷ right) ∙ primary-read a f (omega arith) h.0 (spelling o ∷ right))
    (unary_plain u b h.1 close ∙ primary-read b f (omega arith) h.1 close)
    (silent ts))

-- an expression with no operator behind it is read
pub expression_read : (e : StExpression) (f : ℕ) → operations e ≤ f → Writable e → (ts : Lexemes) → Quiet levels ts → read_expression (suc f) (tokens_e e ts) ≡ read e ts
unfolding read_expression
expression_read e f i h ts q =
    passed levels (read_unary (λ us. read_expression f us)) (tokens_e e ts) e ts (unary_plain (λ us. read_expression f us) e h ts ∙ primary-read e f i h ts) q
