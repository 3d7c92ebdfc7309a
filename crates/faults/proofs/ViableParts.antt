-- What stands before a token refused by 2 begins an expression or a condition. Assumes nothing.
use mathlib.Core.Path.{◌≡◌, refl, ap, sym, ◌∙◌, subst}
use mathlib.Core.List.{List, [], ◌∷◌, ◌++◌}
use mathlib.Core.Bool.{false}
use mathlib.Core.Option.{some}
use Prim.Native.Nat.{ℕ, zero, suc, ◌+◌, ◌≤◌}
use native.Mathlib.Omega.{arith}
use lib.ListN.{length, get_or, get_elem?}
use lib.Dec.{ltb}
use lib.IntN.{pos}
use borrow.Author.Tests.{ltb-false}
use Rattle.limits.specs.Limits.{bracket_limit, number_limit}
use Rattle.lexer.specs.Bytes.{bytes, part}
use Rattle.lexer.specs.Token.{Kind, kind_number, name, digits, open_round, close_round, open_square, close_square, tilde, ampersand, bar, minus, is}
use Rattle.lexer.specs.Token as T
use Rattle.lexer.specs.Lexer.{is_digit, over_long, value_of, value_on}
use Rattle.lexer.specs.Names.{id_of}
use Rattle.lexer.proofs.Laws.{token_at_moved}
use Rattle.arith.specs.Values.{Operation, Comparison, equal}
use Rattle.semantics.specs.Program.{Expression, constant, current, previous, operation, negate, Condition, comparison, negated, both, either}
use Rattle.grammar.specs.Parsed.{Parsed}
use Rattle.grammar.specs.Expressions.{Scope, with_id, current_at, previous_value_at, constant_at, primary, negative, factor, product_of, sum_of, term, expression, bracket, whole_expression}
use Rattle.grammar.specs.Conditions.{comparison_by, compared, comparison_at, opposite as opposed, inverted, atom, Connective, and_also, or_else, connect, and_of, or_of, conjunction, condition, square, whole_condition}
use Rattle.grammar.specs.Derivation as D
use Rattle.grammar.specs.Derivation.{Tokens, Stands, ComparisonSign, Level, LevelC, SpellsE, a_number, a_current, a_previous, brackets, plain, opposite, one_factor, product, one_term, sum, SpellsC, not_square, one_atom, conjoined, one_conjunction, disjoined, normal, normals}
use Rattle.lexer.proofs.Same.{same_kind}
use Rattle.lexer.proofs.Spellings.{word_not}
use Rattle.grammar.proofs.Normal.{other_seen, previous-seen, id_names}
use Rattle.grammar.proofs.Phrases.{previous_name_lem}
use Rattle.grammar.proofs.Growth.{not_end, operator_end, products_end, sums-end, comparisons-end, ands-end, ors-end}
use Rattle.lexer.specs.Spelling.{Spelling, SpellsName}
use Rattle.grammar.proofs.Standing.{stands, stands_spelled, product_sign, sum_sign, comparison_sign, only_sign, written, normally}
use Rattle.grammar.proofs.Derived.{sign_stands, sign_is}
use Rattle.faults.specs.Grammar.{IsExpression, IsCondition}
use Rattle.faults.proofs.Viable.{Viable, by_other, refused_here, one_token, wider, with_value, behind, then_viable, cond_viable, option_viable, token_viable, followed_viable, chain_viable}

-- ---- more brackets may be open

module _ (names : List (List ℕ)) where
  raise : (v : Level) (l m : ℕ) (ts : Tokens) (e : Expression) → l ≤ m → SpellsE names v l ts e → SpellsE names v m ts e
  raise v l m ts e h (a_number w d g) = a_number w d g
  raise v l m ts e h (a_current w i g) = a_current w i g
  raise v l m ts e h (a_previous w i g) = a_previous w i g
  raise v l zero ts e h (brackets us x d) = absurd (omega arith)
  raise v l (suc m) ts e h (brackets us x d) = brackets us x (raise D.expression _ m us x (omega arith) d)
  raise v l m ts e h (plain us x d) = plain us x (raise D.primary l m us x h d)
  raise v l m ts e h (opposite us x d) = opposite us x (raise D.primary l m us x h d)
  raise v l m ts e h (one_factor us x d) = one_factor us x (raise D.factor l m us x h d)
  raise v l m ts e h (product w o us vs a b g c d) = product w o us vs a b g (raise D.term l m us a h c) (raise D.factor l m vs b h d)
  raise v l m ts e h (one_term us x d) = one_term us x (raise D.term l m us x h d)
  raise v l m ts e h (sum w o us vs a b g c d) = sum w o us vs a b g (raise D.expression l m us a h c) (raise D.term l m vs b h d)

  raise_c : (v : LevelC) (l m : ℕ) (ts : Tokens) (c : Condition) → l ≤ m → SpellsC names v l ts c → SpellsC names v m ts c
  raise_c v l m ts e h (D.SpellsC.compared w o us vs a b g c d) = D.SpellsC.compared w o us vs a b g (raise D.expression l m us a h c) (raise D.expression l m vs b h d)
  raise_c v l zero ts e h (D.SpellsC.square us x d) = absurd (omega arith)
  raise_c v l (suc m) ts e h (D.SpellsC.square us x d) = D.SpellsC.square us x (raise_c D.condition _ m us x (omega arith) d)
  raise_c v l zero ts e h (not_square us x d) = absurd (omega arith)
  raise_c v l (suc m) ts e h (not_square us x d) = not_square us x (raise_c D.condition _ m us x (omega arith) d)
  raise_c v l m ts e h (one_atom us x d) = one_atom us x (raise_c D.atom l m us x h d)
  raise_c v l m ts e h (conjoined us vs a b c d) = conjoined us vs a b (raise_c D.conjunction l m us a h c) (raise_c D.atom l m vs b h d)
  raise_c v l m ts e h (one_conjunction us x d) = one_conjunction us x (raise_c D.conjunction l m us x h d)
  raise_c v l m ts e h (disjoined us vs a b c d) = disjoined us vs a b (raise_c D.condition l m us a h c) (raise_c D.conjunction l m vs b h d)

  -- ---- the languages

  abbrev pub E : Level → Tokens → Type 0
  E v ts = IsExpression names v ts

  abbrev pub K : LevelC → Tokens → Type 0
  K v ts = IsCondition names v ts

  -- what follows `(` and `[`
  abbrev Closing : (Tokens → Type 0) → List ℕ → Tokens → Type 0
  Closing L v us = (ts : Tokens) × (us ≡ ts ++ v ∷ []) × L ts

  in_brackets : (us : Tokens) → Closing (E D.expression) (bytes ")") us → E D.primary (bytes "(" ∷ us)
  in_brackets us (ts, q, x) = rw q (record { open_brackets = suc x.open_brackets; value = x.value; spelled = brackets ts x.value x.spelled })

  in_squares : (us : Tokens) → Closing (K D.condition) (bytes "]") us → K D.atom (bytes "[" ∷ us)
  in_squares us (ts, q, x) = rw q (record { open_brackets = suc x.open_brackets; value = x.value; spelled = D.SpellsC.square ts x.value x.spelled })

  not_squares : (us : Tokens) → Closing (K D.condition) (bytes "]") us → K D.atom (bytes "~" ∷ bytes "[" ∷ us)
  not_squares us (ts, q, x) = rw q (record { open_brackets = suc x.open_brackets; value = negated x.value; spelled = not_square ts x.value x.spelled })

  -- the number 0 is an expression at each level; `0 = 0` is a condition
  abbrev pub zeros : Tokens
  zeros = bytes "0" ∷ []

  abbrev pub equal_zeros : Tokens
  equal_zeros = bytes "0" ∷ bytes "=" ∷ bytes "0" ∷ []

  zero_primary : SpellsE names D.primary 0 zeros (constant (pos (value_of (bytes "0"))))
  unfolding is_digit value_of value_on
  zero_primary = a_number (bytes "0") (refl, tt) (omega arith)

  zero_expression : SpellsE names D.expression 0 zeros (constant (pos (value_of (bytes "0"))))
  zero_expression = one_term zeros _ (one_factor zeros _ (plain zeros _ zero_primary))

  zero_in_primary : E D.primary zeros
  zero_in_primary = record { open_brackets = 0; value = constant (pos (value_of (bytes "0"))); spelled = zero_primary }

  pub zero_in_expression : E D.expression zeros
  zero_in_expression = record { open_brackets = 0; value = constant (pos (value_of (bytes "0"))); spelled = zero_expression }

  pub zero_in_condition : K D.condition equal_zeros
  zero_in_condition =
      let a = constant (pos (value_of (bytes "0"))) in
      let c = D.SpellsC.compared {l = 0} (bytes "=") equal zeros zeros a a D.equals zero_expression zero_expression in
      record { open_brackets = 0; value = comparison equal a a; spelled = one_conjunction equal_zeros _ (one_atom equal_zeros _ c) }

  -- operators
  product_in : (k : Kind) (w : List ℕ) (o : Operation) → product_of k ≡ some o → Spelling k w → (ts us : Tokens) → E D.term ts → E D.factor us → E D.term (ts ++ w ∷ us)
  product_in k w o e sp ts us x y =
      let l = x.open_brackets + y.open_brackets in
      record { open_brackets = l; value = operation o x.value y.value; spelled = product w o ts us x.value y.value (product_sign k w sp o e) (raise D.term x.open_brackets l ts x.value (omega arith) x.spelled) (raise D.factor y.open_brackets l us y.value (omega arith) y.spelled) }

  sum_in : (k : Kind) (w : List ℕ) (o : Operation) → sum_of k ≡ some o → Spelling k w → (ts us : Tokens) → E D.expression ts → E D.term us → E D.expression (ts ++ w ∷ us)
  sum_in k w o e sp ts us x y =
      let l = x.open_brackets + y.open_brackets in
      record { open_brackets = l; value = operation o x.value y.value; spelled = sum w o ts us x.value y.value (sum_sign k w sp o e) (raise D.expression x.open_brackets l ts x.value (omega arith) x.spelled) (raise D.term y.open_brackets l us y.value (omega arith) y.spelled) }

  and_in : (k : Kind) (w : List ℕ) (o : Connective) → and_of k ≡ some o → Spelling k w → (ts us : Tokens) → K D.conjunction ts → K D.atom us → K D.conjunction (ts ++ w ∷ us)
  unfolding and_of
  and_in k w o e sp ts us x y =
      let l = x.open_brackets + y.open_brackets in
      rw (only_sign k w sp ampersand and_also o e).0
      (record { open_brackets = l; value = both x.value y.value; spelled = conjoined ts us x.value y.value (raise_c D.conjunction x.open_brackets l ts x.value (omega arith) x.spelled) (raise_c D.atom y.open_brackets l us y.value (omega arith) y.spelled) })

  or_in : (k : Kind) (w : List ℕ) (o : Connective) → or_of k ≡ some o → Spelling k w → (ts us : Tokens) → K D.condition ts → K D.conjunction us → K D.condition (ts ++ w ∷ us)
  unfolding or_of
  or_in k w o e sp ts us x y =
      let l = x.open_brackets + y.open_brackets in
      rw (only_sign k w sp bar or_else o e).0
      (record { open_brackets = l; value = either x.value y.value; spelled = disjoined ts us x.value y.value (raise_c D.condition x.open_brackets l ts x.value (omega arith) x.spelled) (raise_c D.conjunction y.open_brackets l us y.value (omega arith) y.spelled) })

  -- a comparison sign and an expression
  abbrev Compares : Tokens → Type 0
  Compares us = (w : List ℕ) × (o : Comparison) × (vs : Tokens) × (us ≡ w ∷ vs) × ComparisonSign w o × E D.expression vs

  compares_in : (ts us : Tokens) → E D.expression ts → Compares us → K D.atom (ts ++ us)
  compares_in ts us x (w, o, vs, q, g, y) =
      let l = x.open_brackets + y.open_brackets in
      rw q
      (record { open_brackets = l; value = comparison o x.value y.value; spelled = D.SpellsC.compared w o ts vs x.value y.value g (raise D.expression x.open_brackets l ts x.value (omega arith) x.spelled) (raise D.expression y.open_brackets l vs y.value (omega arith) y.spelled) })

-- ---- expressions and conditions

module _ (sc : Scope) where
  abbrev pub Anywhere : {A : Type 0} → (Tokens → Type 0) → (ℕ → Parsed A) → Type 0
  Anywhere L p = (at : ℕ) → at ≤ length sc.text → Viable L sc.text at (p at)

  -- what stands behind the `(` or `[` that ends at n
  abbrev Inside : {A : Type 0} → (Tokens → Type 0) → (ℕ → ℕ → Parsed A) → Type 0
  Inside L q = (s n : ℕ) → n ≤ length sc.text → Viable L sc.text n (q s n)

  abbrev InRound : Tokens → Type 0
  InRound = Closing (normals sc.names) (E (normals sc.names) D.expression) (bytes ")")

  abbrev InSquare : Tokens → Type 0
  InSquare = Closing (normals sc.names) (K (normals sc.names) D.condition) (bytes "]")

  pub id_viable : {A : Type 0} {L : Tokens → Type 0} (at p s n : ℕ) (f : ℕ → Parsed A) → SpellsName (part sc.text s n) → ((i : ℕ) → get_elem? (normals sc.names) i ≡ some (normal (part sc.text s n)) → Viable L sc.text at (f i)) → Viable L sc.text at (with_id sc p s n f)
  unfolding with_id
  id_viable at p s n f nm h =
      cond_viable (over_long s n) (λ t. by_other 8 (λ q. omega (arith, q)))
      (λ t. option_viable (id_of sc.names (part sc.text s n)) (λ z. by_other 4 (λ q. omega (arith, q))) (λ i ei. h i (id_names sc.names (part sc.text s n) i (word_not (part sc.text s n) nm.no_word) ei)))

  module _ (inner : ℕ → ℕ → Parsed Expression) (hi : Inside InRound inner) where
    primary_viable : Anywhere (E (normals sc.names) D.primary) (λ at. primary inner sc at)
    unfolding primary constant_at current_at previous_value_at is kind_number
    primary_viable at h =
        token_viable sc.text at
        (λ k s n e.
        let w = part sc.text s n in
        cond_viable (is k digits)
        (λ t.
        let d = (sign_stands written sc.text digits refl at k s n h e t).1 in
        let st = subst (Stands normal sc.text at n) (other_seen digits w refl refl d) (sign_stands normally sc.text digits refl at k s n h e t).0 in
        cond_viable (ltb number_limit (value_of w)) (λ x. by_other 3 (λ q. omega (arith, q)))
        (λ x. one_token _ st (record { open_brackets = 0; value = constant (pos (value_of w)); spelled = a_number w d (ltb-false number_limit (value_of w) x) })))
        (λ t1. cond_viable (is k name)
        (λ t. id_viable at s s n _ (sign_stands written sc.text name refl at k s n h e t).1
        (λ i ei. cond_viable (get_or sc.known i false) (λ x. one_token _ (sign_stands normally sc.text name refl at k s n h e t).0 (record { open_brackets = 0; value = current i; spelled = a_current (normal w) i ei })) (λ x. by_other 5 (λ q. omega (arith, q)))))
        (λ t2. cond_viable (is k T.previous)
        (λ t.
        let x = part sc.text (s + 1) n in
        let r = previous_name_lem sc.text at k s n h (not_end k T.previous refl t) e (same_kind k T.previous t) in
        id_viable at s (s + 1) n _ r.1
        (λ i ei. one_token _ (subst (Stands normal sc.text at n) (ap normal r.0 ∙ previous-seen x r.1) (sign_stands normally sc.text T.previous refl at k s n h e t).0) (record { open_brackets = 0; value = previous i; spelled = a_previous (normal x) i ei })))
        (λ t3. cond_viable (is k open_round)
        (λ t. behind (bytes "(" ∷ []) (n, sign_is normally sc.text open_round (bytes "(") (λ x q. q) refl at k s n h e t, refl) (λ us g. in_brackets (normals sc.names) us g) (hi s n (token_at_moved sc.text at k s n h e).2))
        (λ t4. refused_here (zeros (normals sc.names)) (zero_in_primary (normals sc.names)) e)))))

    factor_viable : Anywhere (E (normals sc.names) D.factor) (λ at. factor inner sc at)
    unfolding factor negative is kind_number
    factor_viable at h =
        token_viable sc.text at
        (λ k s n e. cond_viable (is k minus)
        (λ t. behind (bytes "-" ∷ []) (n, sign_is normally sc.text minus (bytes "-") (λ x q. q) refl at k s n h e t, refl)
        (λ us g. record { open_brackets = g.open_brackets; value = negate g.value; spelled = opposite us g.value g.spelled })
        (with_value (λ x. negate x) (primary_viable n (token_at_moved sc.text at k s n h e).2)))
        (λ t. wider (λ ts g. record { open_brackets = g.open_brackets; value = g.value; spelled = plain ts g.value g.spelled }) (primary_viable at h)))

    term_viable : Anywhere (E (normals sc.names) D.term) (λ at. term inner sc at)
    unfolding term
    term_viable at h =
        chain_viable sc.text (E (normals sc.names) D.factor) (E (normals sc.names) D.term) operation product_of products_end (λ ts g. record { open_brackets = g.open_brackets; value = g.value; spelled = one_factor ts g.value g.spelled })
        (product_in (normals sc.names)) (factor inner sc) factor_viable at h

    expression_viable : Anywhere (E (normals sc.names) D.expression) (λ at. expression inner sc at)
    unfolding expression
    expression_viable at h =
        chain_viable sc.text (E (normals sc.names) D.term) (E (normals sc.names) D.expression) operation sum_of sums-end (λ ts g. record { open_brackets = g.open_brackets; value = g.value; spelled = one_term ts g.value g.spelled })
        (sum_in (normals sc.names)) (term inner sc) term_viable at h

  bracket_viable : (left : ℕ) → Inside InRound (λ s n. bracket left sc s n)
  unfolding bracket is kind_number
  bracket_viable zero s n h = by_other 8 (λ q. omega (arith, q))
  bracket_viable (suc left) s n h =
      then_viable h (λ ts us x q. (ts, ap (λ (y : Tokens). ts ++ y) q, x)) (bytes ")" ∷ []) refl (expression_viable (λ s n. bracket left sc s n) (bracket_viable left) n h)
      (λ x m i. followed_viable sc.text close_round (bytes ")") (λ y q. q) refl x m i)

  module _ (inner : ℕ → ℕ → Parsed Expression) (hi : Inside InRound inner) (inside : ℕ → ℕ → Parsed Condition) (hc : Inside InSquare inside) where
    compared_viable : (a : Expression) → Anywhere (Compares (normals sc.names)) (λ at. compared inner sc a at)
    unfolding compared
    compared_viable a n h =
        token_viable sc.text n
        (λ k s m e. option_viable (comparison_by k) (λ z. refused_here (bytes "=" ∷ zeros (normals sc.names)) (bytes "=", equal, zeros (normals sc.names), refl, D.equals, zero_in_expression (normals sc.names)) e)
        (λ o eo.
        let ne = operator_end comparison_by comparisons-end k o eo in
        let w = normal (part sc.text s m) in
        behind (w ∷ []) (m, stands normally sc.text n k s m h ne e, refl) (λ us g. (w, o, us, refl, comparison_sign k w (stands_spelled normally sc.text n k s m h ne e) o eo, g))
        (with_value (λ b. comparison o a b) (expression_viable inner hi m (token_at_moved sc.text n k s m h e).2))))

    comparison_viable : Anywhere (K (normals sc.names) D.atom) (λ at. comparison_at inner sc at)
    unfolding comparison_at
    comparison_viable at h =
        then_viable h (λ ts us x y. compares_in (normals sc.names) ts us x y) (bytes "=" ∷ zeros (normals sc.names)) (bytes "=", equal, zeros (normals sc.names), refl, D.equals, zero_in_expression (normals sc.names)) (expression_viable inner hi at h)
        (λ a n i. compared_viable a n i)

    -- `[` and what follows it
    abbrev Squared : Tokens → Type 0
    Squared us = (vs : Tokens) × (us ≡ bytes "[" ∷ vs) × InSquare vs

    inverted_viable : Anywhere Squared (λ at. inverted inside sc at)
    unfolding inverted opposed is kind_number
    inverted_viable at h =
        token_viable sc.text at
        (λ k s n e. cond_viable (is k open_square)
        (λ t. behind (bytes "[" ∷ []) (n, sign_is normally sc.text open_square (bytes "[") (λ x q. q) refl at k s n h e t, refl) (λ us g. (us, refl, g)) (with_value (λ c. negated c) (hc s n (token_at_moved sc.text at k s n h e).2)))
        (λ t. refused_here (bytes "[" ∷ equal_zeros (normals sc.names) ++ bytes "]" ∷ []) (equal_zeros (normals sc.names) ++ bytes "]" ∷ [], refl, (equal_zeros (normals sc.names), refl, zero_in_condition (normals sc.names))) e))

    atom_viable : Anywhere (K (normals sc.names) D.atom) (λ at. atom inner inside sc at)
    unfolding atom is kind_number
    atom_viable at h =
        token_viable sc.text at
        (λ k s n e. cond_viable (is k tilde)
        (λ t. behind (bytes "~" ∷ []) (n, sign_is normally sc.text tilde (bytes "~") (λ x q. q) refl at k s n h e t, refl) (λ us g. subst (λ (x : Tokens). K (normals sc.names) D.atom (bytes "~" ∷ x)) (sym g.1) (not_squares (normals sc.names) g.0 g.2)) (inverted_viable n (token_at_moved sc.text at k s n h e).2))
        (λ t1. cond_viable (is k open_square)
        (λ t. behind (bytes "[" ∷ []) (n, sign_is normally sc.text open_square (bytes "[") (λ x q. q) refl at k s n h e t, refl) (λ us g. in_squares (normals sc.names) us g) (hc s n (token_at_moved sc.text at k s n h e).2))
        (λ t2. comparison_viable at h)))

    conjunction_viable : Anywhere (K (normals sc.names) D.conjunction) (λ at. conjunction inner inside sc at)
    unfolding conjunction
    conjunction_viable at h =
        chain_viable sc.text (K (normals sc.names) D.atom) (K (normals sc.names) D.conjunction) connect and_of ands-end (λ ts g. record { open_brackets = g.open_brackets; value = g.value; spelled = one_atom ts g.value g.spelled })
        (and_in (normals sc.names)) (atom inner inside sc) atom_viable at h

    condition_viable : Anywhere (K (normals sc.names) D.condition) (λ at. condition inner inside sc at)
    unfolding condition
    condition_viable at h =
        chain_viable sc.text (K (normals sc.names) D.conjunction) (K (normals sc.names) D.condition) connect or_of ors-end (λ ts g. record { open_brackets = g.open_brackets; value = g.value; spelled = one_conjunction ts g.value g.spelled })
        (or_in (normals sc.names)) (conjunction inner inside sc) conjunction_viable at h

  square_viable : (left : ℕ) → Inside InSquare (λ s n. square left sc s n)
  unfolding square is kind_number
  square_viable zero s n h = by_other 8 (λ q. omega (arith, q))
  square_viable (suc left) s n h =
      then_viable h (λ ts us x q. (ts, ap (λ (y : Tokens). ts ++ y) q, x)) (bytes "]" ∷ []) refl
      (condition_viable (λ s n. bracket left sc s n) (bracket_viable left) (λ s n. square left sc s n) (square_viable left) n h)
      (λ c m i. followed_viable sc.text close_square (bytes "]") (λ y q. q) refl c m i)

  pub whole_expression_viable : Anywhere (E (normals sc.names) D.expression) (λ at. whole_expression sc at)
  unfolding whole_expression
  whole_expression_viable at h = expression_viable (λ s n. bracket bracket_limit sc s n) (bracket_viable bracket_limit) at h

  pub whole_condition_viable : Anywhere (K (normals sc.names) D.condition) (λ at. whole_condition sc at)
  unfolding whole_condition
  whole_condition_viable at h = condition_viable (λ s n. bracket bracket_limit sc s n) (bracket_viable bracket_limit) (λ s n. square bracket_limit sc s n) (square_viable bracket_limit) at h
