-- Names in use and expressions. Document 01, "The text". Assumes nothing.
use Rattle.std.specs.Prelude.{ℕ, zero, suc, ◌+◌, Bool, false, cond, List, [], ◌∷◌, get_or, ltb, pos}
use Rattle.std.proofs.Math.Option.{Option, none, some}
use Rattle.limits.specs.Limits.{bracket_limit, not_allowed, out_of_limit, wrong_name, too_early, too_many, number_limit}
use Rattle.lexer.specs.Bytes.{part}
use Rattle.lexer.specs.Token.{Kind, name, digits, mod_word, open_round, close_round, plus, minus, star, slash, is}
use Rattle.lexer.specs.Token as T
use Rattle.lexer.specs.Lexer.{token_at, over_long, value_of}
use Rattle.lexer.specs.Names.{id_of}
use Rattle.arith.specs.Values.{Operation, add, subtract, multiply, divide, modulo}
use Rattle.semantics.specs.Program.{Expression, constant, current, previous, operation, negate}
use Rattle.grammar.specs.Parsed.{Parsed, accepted, refused, and_then, on_token, on_option, sign, followed, chain}

-- the text, the names declared, and which of them may be used with their current value: the inputs, the variables whose
-- rule stands earlier and the timers of these; in a watch all
pub record Scope : Type 0 where
  pub text : List ℕ
  pub names : List (List ℕ)
  pub known : List Bool

-- a name from s to n, found or not, whose token is at p: 4 if it is unknown. An over-long one is 8, never 4: it is in no list of names,
-- so 8 is tested first
unfoldable pub with_id : {A : Type 0} → Scope → ℕ → ℕ → ℕ → (ℕ → Parsed A) → Parsed A
with_id sc p s n then =
    let found = on_option (id_of sc.names (part sc.text s n)) (refused wrong_name p) then in
    cond (over_long s n) (refused too_many p) found

-- a current value
unfoldable pub current_at : Scope → ℕ → ℕ → Parsed Expression
current_at sc s n = with_id sc s s n (λ i. cond (get_or sc.known i false) (accepted (current i) n) (refused too_early s))

-- a previous value; its name stands after the `_`
unfoldable pub previous_value_at : Scope → ℕ → ℕ → Parsed Expression
previous_value_at sc s n = with_id sc s (s + 1) n (λ i. accepted (previous i) n)

-- a number up to 2,147,483,647
unfoldable pub constant_at : Scope → ℕ → ℕ → Parsed Expression
constant_at sc s n =
    let v = value_of (part sc.text s n) in
    cond (ltb number_limit v) (refused out_of_limit s) (accepted (constant (pos v)) n)

-- a number, a name, a previous value, or an expression in brackets, which `inner` reads from the bracket at s, that ends at n
unfoldable pub primary : (ℕ → ℕ → Parsed Expression) → Scope → ℕ → Parsed Expression
primary inner sc at =
    on_token (token_at sc.text at)
    (λ k s n.
    let number = constant_at sc s n in
    let now = current_at sc s n in
    let before = previous_value_at sc s n in
    let brackets = inner s n in
    cond (is k digits) number (cond (is k name) now (cond (is k T.previous) before (cond (is k open_round) brackets (refused not_allowed s)))))

unfoldable pub negative : Parsed Expression → Parsed Expression
negative p = and_then p (λ e n. accepted (negate e) n)

-- at most one `-` before
unfoldable pub factor : (ℕ → ℕ → Parsed Expression) → Scope → ℕ → Parsed Expression
factor inner sc at =
    on_token (token_at sc.text at)
    (λ k s n.
    let opposite = negative (primary inner sc n) in
    let plain = primary inner sc at in
    cond (is k minus) opposite plain)

-- An expression is `+ -` over `* / mod` over factors, left to right (`chain`).
unfoldable pub product_of : Kind → Option Operation
product_of k = cond (is k star) (some multiply) (cond (is k slash) (some divide) (cond (is k mod_word) (some modulo) none))

unfoldable pub sum_of : Kind → Option Operation
sum_of k = cond (is k plus) (some add) (cond (is k minus) (some subtract) none)

unfoldable pub term : (ℕ → ℕ → Parsed Expression) → Scope → ℕ → Parsed Expression
term inner sc at = chain operation product_of (factor inner sc) sc.text at

unfoldable pub expression : (ℕ → ℕ → Parsed Expression) → Scope → ℕ → Parsed Expression
expression inner sc at = chain operation sum_of (term inner sc) sc.text at

-- the expression in the bracket at s, which ends at n, with `left` brackets left to open
unfoldable pub bracket : ℕ → Scope → ℕ → ℕ → Parsed Expression
bracket zero sc s n = refused too_many s
bracket (suc left) sc s n = and_then (expression (λ s n. bracket left sc s n) sc n) (λ e m. followed sc.text (sign close_round ∷ []) e m)

-- a whole expression: no bracket is open before it
unfoldable pub whole_expression : Scope → ℕ → Parsed Expression
whole_expression sc at = expression (λ s n. bracket bracket_limit sc s n) sc at
