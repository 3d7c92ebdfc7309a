-- Conditions. Document 01, "The text". Assumes nothing.
use Rattle.std.specs.Prelude.{cond, ℕ, zero, suc, [], ◌∷◌}
use Rattle.std.proofs.Math.Option.{Option, none, some}
use Rattle.limits.specs.Limits.{bracket_limit, not_allowed, too_many}
use Rattle.lexer.specs.Token.{Kind, open_square, close_square, tilde, ampersand, bar, is}
use Rattle.lexer.specs.Token as T
use Rattle.lexer.specs.Lexer.{token_at}
use Rattle.arith.specs.Values.{Comparison, equal, not_equal, less, less_equal, greater, greater_equal}
use Rattle.semantics.specs.Program.{Expression, Condition, comparison, negated, both, either}
use Rattle.grammar.specs.Parsed.{Parsed, accepted, refused, and_then, on_token, on_option, sign, followed, chain}
use Rattle.grammar.specs.Expressions.{Scope, expression, bracket}

-- `=` `<>` `<` `<=` `>` `>=`
unfoldable pub comparison_by : Kind → Option Comparison
comparison_by k =
    cond (is k T.equals) (some equal)
    (cond (is k T.not_equal) (some not_equal)
    (cond (is k T.less) (some less)
    (cond (is k T.less_equal) (some less_equal)
    (cond (is k T.greater) (some greater)
    (cond (is k T.greater_equal) (some greater_equal) none)))))

-- a comparison sign and an expression after the expression a, which ends at n
unfoldable pub compared : (ℕ → ℕ → Parsed Expression) → Scope → Expression → ℕ → Parsed Condition
compared inner sc a n =
    on_token (token_at sc.text n)
    (λ k s m. on_option (comparison_by k) (refused not_allowed s) (λ o. and_then (expression inner sc m) (λ b l. accepted (comparison o a b) l)))

unfoldable pub comparison_at : (ℕ → ℕ → Parsed Expression) → Scope → ℕ → Parsed Condition
comparison_at inner sc at = and_then (expression inner sc at) (λ a n. compared inner sc a n)

unfoldable pub opposite : Parsed Condition → Parsed Condition
opposite p = and_then p (λ c n. accepted (negated c) n)

-- `[c]` after a `~`
unfoldable pub inverted : (ℕ → ℕ → Parsed Condition) → Scope → ℕ → Parsed Condition
inverted inside sc at =
    on_token (token_at sc.text at) (λ k s n. let more = opposite (inside s n) in cond (is k open_square) more (refused not_allowed s))

-- An atom is a comparison of two expressions or `[c]`, the latter with at most one `~` before it. `inside` reads the rest of `[c]`,
-- from the bracket at s, that ends at n
unfoldable pub atom : (ℕ → ℕ → Parsed Expression) → (ℕ → ℕ → Parsed Condition) → Scope → ℕ → Parsed Condition
atom inner inside sc at =
    on_token (token_at sc.text at)
    (λ k s n.
    let not = inverted inside sc n in
    let square = inside s n in
    let compare = comparison_at inner sc at in
    cond (is k tilde) not (cond (is k open_square) square compare))

-- the sign between two conditions
pub data Connective : Type 0 where
  and_also or_else : Connective

unfoldable pub connect : Connective → Condition → Condition → Condition
connect and_also a b = both a b
connect or_else a b = either a b

-- its code byte: 17 and, 18 or
abbrev pub connective_code : Connective → ℕ
connective_code and_also = 17
connective_code or_else = 18

unfoldable pub and_of : Kind → Option Connective
and_of k = cond (is k ampersand) (some and_also) none

unfoldable pub or_of : Kind → Option Connective
or_of k = cond (is k bar) (some or_else) none

-- A condition is `|` over `&` over atoms.
unfoldable pub conjunction : (ℕ → ℕ → Parsed Expression) → (ℕ → ℕ → Parsed Condition) → Scope → ℕ → Parsed Condition
conjunction inner inside sc at = chain connect and_of (atom inner inside sc) sc.text at

unfoldable pub condition : (ℕ → ℕ → Parsed Expression) → (ℕ → ℕ → Parsed Condition) → Scope → ℕ → Parsed Condition
condition inner inside sc at = chain connect or_of (conjunction inner inside sc) sc.text at

-- the condition in the bracket at s, which ends at n, with `left` brackets left to open
unfoldable pub square : ℕ → Scope → ℕ → ℕ → Parsed Condition
square zero sc s n = refused too_many s
square (suc left) sc s n =
    and_then (condition (λ s n. bracket left sc s n) (λ s n. square left sc s n) sc n)
    (λ c m. followed sc.text (sign close_square ∷ []) c m)

-- a whole condition: no bracket is open before it
unfoldable pub whole_condition : Scope → ℕ → Parsed Condition
whole_condition sc at = condition (λ s n. bracket bracket_limit sc s n) (λ s n. square bracket_limit sc s n) sc at

-- `[c]` as the rule forms show it, from its bracket, that ends at n
unfoldable pub listed : Scope → ℕ → Parsed Condition
listed sc n = and_then (whole_condition sc n) (λ c m. followed sc.text (sign close_square ∷ []) c m)
