-- Expressions and conditions of two texts that are the same up to what the one is refused for. Assumes nothing.
use mathlib.Core.List.{List, [], ◌∷◌}
use mathlib.Core.Bool.{Bool, false, cond}
use mathlib.Core.Logic.{inl, inr}
use mathlib.Core.Option.{Option}
use Prim.Native.Nat.{ℕ, zero, suc, ◌+◌, ◌≤◌, ◌<◌}
use native.Mathlib.Omega.{arith}
use lib.ListN.{length, get_or}
use lib.Dec.{ltb}
use lib.IntN.{pos}
use Rattle.limits.specs.Limits.{bracket_limit, number_limit}
use Rattle.lexer.specs.Token.{Kind, name, digits, open_round, open_square, tilde, minus, is}
use Rattle.lexer.specs.Token as T
use Rattle.lexer.specs.Lexer.{same_name, over_long, value_of}
use Rattle.lexer.specs.Names.{id_of}
use Rattle.semantics.specs.Program.{Expression, Condition, operation, constant}
use Rattle.grammar.specs.Parsed.{Parsed, accepted, refused, on_option, Wanted, sign, own, own_previous, expected, phrase, followed, rest, chain}
use Rattle.grammar.specs.Expressions.{Scope, with_id, current_at, previous_value_at, constant_at, primary, negative, factor, product_of, sum_of, term, expression, bracket, whole_expression}
use Rattle.grammar.specs.Conditions.{comparison_by, compared, comparison_at, opposite, inverted, atom, connect, and_of, or_of, conjunction, condition, square, whole_condition, listed}
use Rattle.faults.proofs.Reaching.{reaches_le}
use Rattle.faults.proofs.Readings.{rest_reads, chain_reads}
use Rattle.faults.proofs.Alike.{Setting, OnOrBeyond, place_of, Same, yields, beyond, Alike, Any, TokenIn, reads_after, b_within, on_way, run, plain, done_alike, past_alike, here_alike, not_allowed_lem, step_alike, cond_alike, option_same, option_alike, then_same, then_alike, word_alike, token_same, token_alike}

-- the scope of the names in a text
abbrev pub scope : List (List ℕ) → List Bool → List ℕ → Scope
scope names known t = record { text = t; names = names; known = known }

module _ (S : Setting) where
  expected_alike : (w : Wanted) (at : ℕ) → Alike S Any at (λ t. expected t w at)
  unfolding expected
  expected_alike (sign v) at = token_alike at (λ k s n. cond_alike (is k v) (past_alike tt) not_allowed_lem)
  expected_alike (own v) at =
      token_alike at (λ k s n. word_alike {G = λ x t. cond (cond (is k name) (same_name v x) false) (accepted tt n) (refused 2 s)} s (λ x. cond_alike (cond (is k name) (same_name v x) false) (past_alike tt) not_allowed_lem))
  expected_alike (own_previous v) at =
      token_alike at (λ k s n. word_alike {G = λ x t. cond (cond (is k T.previous) (same_name v x) false) (accepted tt n) (refused 2 s)} (s + 1) (λ x. cond_alike (cond (is k T.previous) (same_name v x) false) (past_alike tt) not_allowed_lem))

  pub phrase_alike : (ws : List Wanted) (at : ℕ) → Alike S Any at (λ t. phrase t ws at)
  unfolding phrase
  phrase_alike [] at = done_alike tt
  phrase_alike (w ∷ ws) at = then_alike (expected_alike w at) (λ u n. phrase_alike ws n)

  pub followed_alike : {A : Type 0} (ws : List Wanted) (x : A) (at : ℕ) → Alike S Any at (λ t. followed t ws x at)
  unfolding followed
  followed_alike ws x at = then_alike (phrase_alike ws at) (λ u n. done_alike x)

  module _ {O A : Type 0} (join : O → A → A → A) (operator : Kind → Option O) (operand : List ℕ → ℕ → Parsed A) (ho : (at : ℕ) → Alike S Any at (λ t. operand t at)) where
    -- the bounds on the two recursions differ; neither is reached
    rest_after : (t : List ℕ) (f : ℕ) (a : A) (n : ℕ) → n ≤ place_of (rest join operator (operand t) t f a n)
    rest_after t f a n = reads_after (rest_reads t join operator (operand t) (λ at. (ho at).reads t tt) f a n)

    abbrev RestSame : ℕ → Type 0
    RestSame f = (f' : ℕ) (a : A) (n : ℕ) → length S.text < n + f → length S.twin < n + f' → OnOrBeyond S n → Same S (rest join operator (operand S.text) S.text f a n) (rest join operator (operand S.twin) S.twin f' a n)

    rest_beyond : (f f' : ℕ) (a : A) (n : ℕ) → S.place < n → Same S (rest join operator (operand S.text) S.text f a n) (rest join operator (operand S.twin) S.twin f' a n)
    rest_beyond f f' a n l =
        let x : S.place < place_of (rest join operator (operand S.text) S.text f a n) = omega (arith, rest_after S.text f a n) in
        let y : S.place < place_of (rest join operator (operand S.twin) S.twin f' a n) = omega (arith, rest_after S.twin f' a n) in
        beyond x y

    rest_step : (f : ℕ) → RestSame f → RestSame (suc f)
    unfolding rest
    rest_step f ih f' a n h h' (inr l) = rest_beyond (suc f) f' a n l
    rest_step f ih zero a n h h' (inl c) = absurd (omega (arith, reaches_le S.text c, b_within S, S.some_bytes, S.in_twin))
    rest_step f ih (suc f') a n h h' (inl c) =
        token_same S n _ _ c
        (λ k s m e e'.
        let x = (on_way S c).next k s m e in
        option_same (operator k) (yields a n (inl c))
        (λ o. then_same (run (ho m) tt tt x.0)
        (λ b l q q' i.
        let j : m ≤ l = rw q at (reads_after ((ho m).reads S.text tt)) in
        ih f' (join o a b) l (omega (arith, x.2)) (omega (arith, x.2)) i)
        (λ b l q. rest_after S.text f (join o a b) l) (λ b l q. rest_after S.twin f' (join o a b) l)))

    rest_zero : RestSame zero
    rest_zero f' a n h h' (inr l) = rest_beyond zero f' a n l
    rest_zero f' a n h h' (inl c) = absurd (omega (arith, reaches_le S.text c, b_within S, S.some_bytes, S.in_text_lem))

    rest_same : (f : ℕ) → RestSame f
    rest_same zero = rest_zero
    rest_same (suc f) = rest_step f (rest_same f)

    pub chain_alike : (at : ℕ) → Alike S Any at (λ t. chain join operator (operand t) t at)
    unfolding chain
    chain_alike at =
        record {
          reads = λ t h. chain_reads t join operator (operand t) (λ at. (ho at).reads t tt) at;
          alike = λ h h' c. then_same ((ho at).alike tt tt c) (λ a n q q' i. rest_same (suc (length S.text)) (suc (length S.twin)) a n (omega arith) (omega arith) i) (λ a n q. rest_after S.text (suc (length S.text)) a n) (λ a n q. rest_after S.twin (suc (length S.twin)) a n);
        }

-- ---- expressions and conditions

module _ (S : Setting) (names : List (List ℕ)) (known : List Bool) where
  abbrev Anywhere : {A : Type 0} → (List ℕ → ℕ → Parsed A) → Type 0
  Anywhere p = (at : ℕ) → Alike S Any at (λ t. p t at)

  abbrev Inside : {A : Type 0} → (List ℕ → ℕ → ℕ → Parsed A) → Type 0
  Inside q = (at : ℕ) (k : Kind) (s n : ℕ) → Alike S (TokenIn at k s n) at (λ t. q t s n)

  module _ (at : ℕ) (k : Kind) (s n : ℕ) where
    pub id_alike : {A : Type 0} (s2 : ℕ) (f : ℕ → List ℕ → Parsed A) → ((i : ℕ) → Alike S (TokenIn at k s n) at (f i)) → Alike S (TokenIn at k s n) at (λ t. with_id (scope names known t) s s2 n (λ i. f i t))
    unfolding with_id
    id_alike s2 f g =
        cond_alike (over_long s2 n) (here_alike 8 (omega arith) (omega arith))
        (word_alike {G = λ w t. on_option (id_of names w) (refused 4 s) (λ i. f i t)} s2 (λ w. option_alike (id_of names w) (here_alike 4 (omega arith) (omega arith)) g))

    current_alike : Alike S (TokenIn at k s n) at (λ t. current_at (scope names known t) s n)
    unfolding current_at
    current_alike = id_alike s _ (λ i. cond_alike (get_or known i false) (past_alike _) (here_alike 5 (omega arith) (omega arith)))

    previous_alike : Alike S (TokenIn at k s n) at (λ t. previous_value_at (scope names known t) s n)
    unfolding previous_value_at
    previous_alike = id_alike (s + 1) _ (λ i. past_alike _)

    number_alike : Alike S (TokenIn at k s n) at (λ t. constant_at (scope names known t) s n)
    unfolding constant_at
    number_alike =
        word_alike {G = λ w t. cond (ltb number_limit (value_of w)) (refused 3 s) (accepted (constant (pos (value_of w))) n)} s
        (λ w. cond_alike (ltb number_limit (value_of w)) (here_alike 3 (omega arith) (omega arith)) (past_alike _))

  module _ (inner : List ℕ → ℕ → ℕ → Parsed Expression) (hi : Inside inner) where
    primary_alike : Anywhere (λ t at. primary (inner t) (scope names known t) at)
    unfolding primary
    primary_alike at =
        token_alike at
        (λ k s n.
        cond_alike (is k digits) (number_alike at k s n)
        (cond_alike (is k name) (current_alike at k s n)
        (cond_alike (is k T.previous) (previous_alike at k s n)
        (cond_alike (is k open_round) (hi at k s n) not_allowed_lem))))

    factor_alike : Anywhere (λ t at. factor (inner t) (scope names known t) at)
    unfolding factor negative
    factor_alike at = token_alike at (λ k s n. cond_alike (is k minus) (step_alike (then_alike (primary_alike n) (λ x j. done_alike _))) (plain (primary_alike at)))

    term_alike : Anywhere (λ t at. term (inner t) (scope names known t) at)
    unfolding term
    term_alike at = chain_alike S operation product_of (λ t. factor (inner t) (scope names known t)) factor_alike at

    expression_alike : Anywhere (λ t at. expression (inner t) (scope names known t) at)
    unfolding expression
    expression_alike at = chain_alike S operation sum_of (λ t. term (inner t) (scope names known t)) term_alike at

  bracket_alike : (left : ℕ) → Inside (λ t s n. bracket left (scope names known t) s n)
  unfolding bracket
  bracket_alike zero at k s n = here_alike 8 (omega arith) (omega arith)
  bracket_alike (suc left) at k s n = step_alike (then_alike (expression_alike (λ t s n. bracket left (scope names known t) s n) (bracket_alike left) n) (λ x j. followed_alike S _ x j))

  pub whole_expression_alike : Anywhere (λ t at. whole_expression (scope names known t) at)
  unfolding whole_expression
  whole_expression_alike at = expression_alike (λ t s n. bracket bracket_limit (scope names known t) s n) (bracket_alike bracket_limit) at

  module _ (inner : List ℕ → ℕ → ℕ → Parsed Expression) (hi : Inside inner) (inside : List ℕ → ℕ → ℕ → Parsed Condition) (hc : Inside inside) where
    compared_alike : (a : Expression) → Anywhere (λ t at. compared (inner t) (scope names known t) a at)
    unfolding compared
    compared_alike a n = token_alike n (λ k s m. option_alike (comparison_by k) not_allowed_lem (λ o. step_alike (then_alike (expression_alike inner hi m) (λ b j. done_alike _))))

    comparison_alike : Anywhere (λ t at. comparison_at (inner t) (scope names known t) at)
    unfolding comparison_at
    comparison_alike at = then_alike (expression_alike inner hi at) (λ a n. compared_alike a n)

    inverted_alike : Anywhere (λ t at. inverted (inside t) (scope names known t) at)
    unfolding inverted opposite
    inverted_alike at = token_alike at (λ k s n. cond_alike (is k open_square) (then_alike (hc at k s n) (λ c j. done_alike _)) not_allowed_lem)

    atom_alike : Anywhere (λ t at. atom (inner t) (inside t) (scope names known t) at)
    unfolding atom
    atom_alike at = token_alike at (λ k s n. cond_alike (is k tilde) (step_alike (inverted_alike n)) (cond_alike (is k open_square) (hc at k s n) (plain (comparison_alike at))))

    conjunction_alike : Anywhere (λ t at. conjunction (inner t) (inside t) (scope names known t) at)
    unfolding conjunction
    conjunction_alike at = chain_alike S connect and_of (λ t. atom (inner t) (inside t) (scope names known t)) atom_alike at

    condition_alike : Anywhere (λ t at. condition (inner t) (inside t) (scope names known t) at)
    unfolding condition
    condition_alike at = chain_alike S connect or_of (λ t. conjunction (inner t) (inside t) (scope names known t)) conjunction_alike at

  square_alike : (left : ℕ) → Inside (λ t s n. square left (scope names known t) s n)
  unfolding square
  square_alike zero at k s n = here_alike 8 (omega arith) (omega arith)
  square_alike (suc left) at k s n =
      step_alike
      (then_alike (condition_alike (λ t s n. bracket left (scope names known t) s n) (bracket_alike left) (λ t s n. square left (scope names known t) s n) (square_alike left) n) (λ c j. followed_alike S _ c j))

  pub listed_alike : Anywhere (λ t at. listed (scope names known t) at)
  unfolding listed whole_condition
  listed_alike at =
      then_alike (condition_alike (λ t s n. bracket bracket_limit (scope names known t) s n) (bracket_alike bracket_limit) (λ t s n. square bracket_limit (scope names known t) s n) (square_alike bracket_limit) at)
      (λ c j. followed_alike S _ c j)
