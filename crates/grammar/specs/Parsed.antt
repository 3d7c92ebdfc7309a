-- Parsers: what a part of a text reads as, token by token. Assumes nothing.
use Rattle.std.specs.Prelude.{ℕ, zero, suc, ◌+◌, Bool, false, cond, List, [], ◌∷◌, length}
use Rattle.std.proofs.Math.Option.{Option, none, some}
use Rattle.limits.specs.Limits.{name_limit, no_token, not_allowed}
use Rattle.lexer.specs.Bytes.{part}
use Rattle.lexer.specs.Token.{Kind, name, previous, is, TokenRead, token, fault}
use Rattle.lexer.specs.Lexer.{token_at, same_name}

-- what was read and the place after it, or a refusal's number and place
pub data Parsed (A : Type 0) : Type 0 where
  accepted : A → ℕ → Parsed A
  refused : ℕ → ℕ → Parsed A

abbrev pub and_then : {A B : Type 0} → Parsed A → (A → ℕ → Parsed B) → Parsed B
and_then (accepted a n) f = f a n
and_then (refused k p) f = refused k p

-- refusal 1 comes before any other of a token
abbrev pub on_token : {A : Type 0} → TokenRead → (Kind → ℕ → ℕ → Parsed A) → Parsed A
on_token (token k s n) f = f k s n
on_token (fault p) f = refused no_token p

abbrev pub on_option : {A B : Type 0} → Option A → B → (A → B) → B
on_option none b f = b
on_option (some a) b f = f a

-- ---- fixed tokens

-- a token of a kind; the name w, or its previous value
pub data Wanted : Type 0 where
  sign : Kind → Wanted
  own : List ℕ → Wanted
  own_previous : List ℕ → Wanted

abbrev pub is_wanted : List ℕ → Wanted → Kind → ℕ → ℕ → Bool
is_wanted text (sign w) k s n = is k w
is_wanted text (own w) k s n = let r = same_name w (part text s n) in cond (is k name) r false
is_wanted text (own_previous w) k s n = let r = same_name w (part text (s + 1) n) in cond (is k previous) r false

unfoldable pub expected : List ℕ → Wanted → ℕ → Parsed (Unit {0})
expected text w at = on_token (token_at text at) (λ k s n. cond (is_wanted text w k s n) (accepted tt n) (refused not_allowed s))

-- each of the tokens wanted, in order
unfoldable pub phrase : List ℕ → List Wanted → ℕ → Parsed (Unit {0})
phrase text [] at = accepted tt at
phrase text (w ∷ ws) at = and_then (expected text w at) (λ u n. phrase text ws n)

-- x, then the tokens wanted
unfoldable pub followed : {A : Type 0} → List ℕ → List Wanted → A → ℕ → Parsed A
followed text ws x at = and_then (phrase text ws at) (λ u n. accepted x n)

-- the bound on the recursion over declarations, and over rules: one more than the names that a text may have, so it is never reached
abbrev pub item_bound : ℕ
item_bound = name_limit + 1

-- ---- operators between operands, left to right

-- operators and operands after the operand a, which ends at n
unfoldable pub rest : {O A : Type 0} → (O → A → A → A) → (Kind → Option O) → (ℕ → Parsed A) → List ℕ → ℕ → A → ℕ → Parsed A
rest join operator operand text zero a n = accepted a n
rest join operator operand text (suc f) a n =
    on_token (token_at text n)
    (λ k s m. on_option (operator k) (accepted a n) (λ o. and_then (operand m) (λ b l. rest join operator operand text f (join o a b) l)))

-- an operand, then operators and operands. The bound on the recursion, one more than the bytes of the text, is never reached: each
-- operator has a byte
unfoldable pub chain : {O A : Type 0} → (O → A → A → A) → (Kind → Option O) → (ℕ → Parsed A) → List ℕ → ℕ → Parsed A
chain join operator operand text at = and_then (operand at) (λ a n. rest join operator operand text (suc (length text)) a n)
