-- Where a refusal stands: its place is within the text, and its number is one of 1 to 9. One law a combinator; none needs to know
-- more than that it begins within the text. Assumes nothing.
use mathlib.Core.List.{List, [], ◌∷◌}
use mathlib.Core.Bool.{Bool, true, false, cond}
use mathlib.Core.Option.{Option, none, some}
use Prim.Native.Nat.{ℕ, zero, suc, ◌+◌, ◌≤◌}
use native.Mathlib.Omega.{arith}
use lib.ListN.{length, get_or}
use lib.Dec.{ltb}
use Rattle.limits.specs.Limits.{bracket_limit, number_limit}
use Rattle.lexer.specs.Bytes.{part}
use Rattle.lexer.specs.Token.{Kind, name, digits, open_round, open_square, tilde, minus, is, TokenRead, token, fault}
use Rattle.lexer.specs.Token as T
use Rattle.lexer.specs.Lexer.{token_at, over_long, value_of}
use Rattle.lexer.specs.Names.{id_of}
use Rattle.lexer.proofs.Laws.{Moved, token_moved, Faulted, token_faulted}
use Rattle.semantics.specs.Program.{Expression, Condition, operation}
use Rattle.grammar.specs.Parsed.{Parsed, accepted, refused, and_then, on_token, on_option, Wanted, is_wanted, expected, phrase, followed, rest, chain}
use Rattle.grammar.specs.Expressions.{Scope, with_id, current_at, previous_value_at, constant_at, primary, negative, factor, product_of, sum_of, term, expression, bracket, whole_expression}
use Rattle.grammar.specs.Conditions.{comparison_by, compared, comparison_at, opposite, inverted, atom, connect, and_of, or_of, conjunction, condition, square, whole_condition, listed}

-- what is accepted ends within len bytes; a refusal has a number of 1 to 9 and its place is within them, or at their end
abbrev pub Within : {A : Type 0} → ℕ → Parsed A → Type 0
Within len (accepted a n) = n ≤ len
Within len (refused k q) = (1 ≤ k) × (k ≤ 9) × (q ≤ len)

-- ---- combinators

pub then_within : {A B : Type 0} (len : ℕ) (p : Parsed A) (f : A → ℕ → Parsed B) → Within len p → ((a : A) (n : ℕ) → n ≤ len → Within len (f a n)) → Within len (and_then p f)
then_within len (accepted a n) f h g = g a n h
then_within len (refused k q) f h g = h

pub cond_within : {A : Type 0} (len : ℕ) (t : Bool) (a b : Parsed A) → Within len a → Within len b → Within len (cond t a b)
cond_within len true a b f g = f
cond_within len false a b f g = g

pub option_within : {A B : Type 0} (len : ℕ) (o : Option A) (b : Parsed B) (f : A → Parsed B) → Within len b → ((a : A) → Within len (f a)) → Within len (on_option o b f)
option_within len none b f g h = g
option_within len (some a) b f g h = h a

module _ (text : List ℕ) where
  pub token_within : {A : Type 0} (at : ℕ) (f : Kind → ℕ → ℕ → Parsed A) → at ≤ length text → ((k : Kind) (s n : ℕ) → s ≤ length text → n ≤ length text → Within (length text) (f k s n)) → Within (length text) (on_token (token_at text at) f)
  token_within at f h g = go (token_at text at) (token_moved text at h) (token_faulted text at)
    where
      go : (r : TokenRead) → Moved at (length text) r → Faulted (length text) r → Within (length text) (on_token r f)
      go (token k s n) m e = g k s n (omega (arith, m.1, m.2)) m.2
      go (fault p) m e = (omega arith, omega arith, omega arith)

  expected_within : (w : Wanted) (at : ℕ) → at ≤ length text → Within (length text) (expected text w at)
  unfolding expected
  expected_within w at h = token_within at _ h (λ k s n l m. cond_within (length text) (is_wanted text w k s n) _ _ m (omega arith, omega arith, l))

  pub phrase_within : (ws : List Wanted) (at : ℕ) → at ≤ length text → Within (length text) (phrase text ws at)
  unfolding phrase
  phrase_within [] at h = h
  phrase_within (w ∷ ws) at h = then_within (length text) (expected text w at) _ (expected_within w at h) (λ u n m. phrase_within ws n m)

  pub followed_within : {A : Type 0} (ws : List Wanted) (x : A) (at : ℕ) → at ≤ length text → Within (length text) (followed text ws x at)
  unfolding followed
  followed_within ws x at h = then_within (length text) (phrase text ws at) _ (phrase_within ws at h) (λ u n m. m)

  module _ {O A : Type 0} (join : O → A → A → A) (operator : Kind → Option O) (operand : ℕ → Parsed A) (ho : (at : ℕ) → at ≤ length text → Within (length text) (operand at)) where
    rest_within : (f : ℕ) (a : A) (n : ℕ) → n ≤ length text → Within (length text) (rest join operator operand text f a n)
    unfolding rest
    rest_within zero a n h = h
    rest_within (suc f) a n h =
        token_within n _ h
        (λ k s m l i. option_within (length text) (operator k) _ _ h (λ o. then_within (length text) (operand m) _ (ho m i) (λ b e j. rest_within f (join o a b) e j)))

    chain_within : (at : ℕ) → at ≤ length text → Within (length text) (chain join operator operand text at)
    unfolding chain
    chain_within at h = then_within (length text) (operand at) _ (ho at h) (λ a n m. rest_within (suc (length text)) a n m)

-- ---- expressions and conditions

module _ (sc : Scope) where
  pub id_within : {A : Type 0} (p s n : ℕ) (f : ℕ → Parsed A) → p ≤ length sc.text → ((i : ℕ) → Within (length sc.text) (f i)) → Within (length sc.text) (with_id sc p s n f)
  unfolding with_id
  id_within p s n f h g =
      cond_within (length sc.text) (over_long s n) _ _ (omega arith, omega arith, h)
      (option_within (length sc.text) (id_of sc.names (part sc.text s n)) _ _ (omega arith, omega arith, h) g)

  current_within : (s n : ℕ) → s ≤ length sc.text → n ≤ length sc.text → Within (length sc.text) (current_at sc s n)
  unfolding current_at
  current_within s n l m = id_within s s n _ l (λ i. cond_within (length sc.text) (get_or sc.known i false) _ _ m (omega arith, omega arith, l))

  previous_within : (s n : ℕ) → s ≤ length sc.text → n ≤ length sc.text → Within (length sc.text) (previous_value_at sc s n)
  unfolding previous_value_at
  previous_within s n l m = id_within s (s + 1) n _ l (λ i. m)

  number_within : (s n : ℕ) → s ≤ length sc.text → n ≤ length sc.text → Within (length sc.text) (constant_at sc s n)
  unfolding constant_at
  number_within s n l m = cond_within (length sc.text) (ltb number_limit (value_of (part sc.text s n))) _ _ (omega arith, omega arith, l) m

  -- a parser of what stands from s on, and of the rest of a bracket from s to n
  abbrev Reads : {A : Type 0} → (ℕ → Parsed A) → Type 0
  Reads p = (at : ℕ) → at ≤ length sc.text → Within (length sc.text) (p at)

  abbrev Inside : {A : Type 0} → (ℕ → ℕ → Parsed A) → Type 0
  Inside q = (s n : ℕ) → s ≤ length sc.text → n ≤ length sc.text → Within (length sc.text) (q s n)

  module _ (inner : ℕ → ℕ → Parsed Expression) (hi : Inside inner) where
    primary_within : Reads (λ at. primary inner sc at)
    unfolding primary
    primary_within at h =
        token_within sc.text at _ h
        (λ k s n l m.
        cond_within (length sc.text) (is k digits) _ _ (number_within s n l m)
        (cond_within (length sc.text) (is k name) _ _ (current_within s n l m)
        (cond_within (length sc.text) (is k T.previous) _ _ (previous_within s n l m)
        (cond_within (length sc.text) (is k open_round) _ _ (hi s n l m) (omega arith, omega arith, l)))))

    factor_within : Reads (λ at. factor inner sc at)
    unfolding factor negative
    factor_within at h =
        token_within sc.text at _ h
        (λ k s n l m.
        cond_within (length sc.text) (is k minus) _ _ (then_within (length sc.text) (primary inner sc n) _ (primary_within n m) (λ e j i. i)) (primary_within at h))

    term_within : Reads (λ at. term inner sc at)
    unfolding term
    term_within at h = chain_within sc.text operation product_of (factor inner sc) factor_within at h

    expression_within : Reads (λ at. expression inner sc at)
    unfolding expression
    expression_within at h = chain_within sc.text operation sum_of (term inner sc) term_within at h

  bracket_within : (left : ℕ) → Inside (λ s n. bracket left sc s n)
  unfolding bracket
  bracket_within zero s n l m = (omega arith, omega arith, l)
  bracket_within (suc left) s n l m =
      then_within (length sc.text) (expression (λ s n. bracket left sc s n) sc n) _ (expression_within (λ s n. bracket left sc s n) (bracket_within left) n m)
      (λ e j i. followed_within sc.text _ e j i)

  pub whole_expression_within : Reads (λ at. whole_expression sc at)
  unfolding whole_expression
  whole_expression_within at h = expression_within (λ s n. bracket bracket_limit sc s n) (bracket_within bracket_limit) at h

  module _ (inner : ℕ → ℕ → Parsed Expression) (hi : Inside inner) (inside : ℕ → ℕ → Parsed Condition) (hc : Inside inside) where
    compared_within : (a : Expression) (n : ℕ) → n ≤ length sc.text → Within (length sc.text) (compared inner sc a n)
    unfolding compared
    compared_within a n h =
        token_within sc.text n _ h
        (λ k s m l i. option_within (length sc.text) (comparison_by k) _ _ (omega arith, omega arith, l)
        (λ o. then_within (length sc.text) (expression inner sc m) _ (expression_within inner hi m i) (λ b e j. j)))

    comparison_within : Reads (λ at. comparison_at inner sc at)
    unfolding comparison_at
    comparison_within at h = then_within (length sc.text) (expression inner sc at) _ (expression_within inner hi at h) (λ a n m. compared_within a n m)

    inverted_within : Reads (λ at. inverted inside sc at)
    unfolding inverted opposite
    inverted_within at h =
        token_within sc.text at _ h
        (λ k s n l m. cond_within (length sc.text) (is k open_square) _ _ (then_within (length sc.text) (inside s n) _ (hc s n l m) (λ c e j. j)) (omega arith, omega arith, l))

    atom_within : Reads (λ at. atom inner inside sc at)
    unfolding atom
    atom_within at h =
        token_within sc.text at _ h
        (λ k s n l m. cond_within (length sc.text) (is k tilde) _ _ (inverted_within n m) (cond_within (length sc.text) (is k open_square) _ _ (hc s n l m) (comparison_within at h)))

    conjunction_within : Reads (λ at. conjunction inner inside sc at)
    unfolding conjunction
    conjunction_within at h = chain_within sc.text connect and_of (atom inner inside sc) atom_within at h

    condition_within : Reads (λ at. condition inner inside sc at)
    unfolding condition
    condition_within at h = chain_within sc.text connect or_of (conjunction inner inside sc) conjunction_within at h

  square_within : (left : ℕ) → Inside (λ s n. square left sc s n)
  unfolding square
  square_within zero s n l m = (omega arith, omega arith, l)
  square_within (suc left) s n l m =
      then_within (length sc.text) (condition (λ s n. bracket left sc s n) (λ s n. square left sc s n) sc n) _
      (condition_within (λ s n. bracket left sc s n) (bracket_within left) (λ s n. square left sc s n) (square_within left) n m)
      (λ c j i. followed_within sc.text _ c j i)

  pub listed_within : Reads (λ at. listed sc at)
  unfolding listed whole_condition square
  listed_within at h = square_within (suc bracket_limit) 0 at (omega arith) h
