-- A token refused by 2 in a condition begins none of the bare grammar. Assumes nothing.
use mathlib.Core.Path.{◌≡◌, refl, ap, sym, ◌∙◌, subst}
use mathlib.Core.List.{List, [], ◌∷◌, ◌++◌}
use mathlib.Core.Bool.{true, false}
use mathlib.Core.Option.{none}
use Prim.Native.Nat.{ℕ, zero, suc}
use native.Mathlib.Omega.{arith}
use Rattle.limits.specs.Limits.{bracket_limit}
use Rattle.lexer.specs.Bytes.{bytes, part}
use Rattle.lexer.specs.Token.{Kind, kind_number, open_square, close_square, tilde, ampersand, bar, is, token}
use Rattle.lexer.specs.Lexer.{token_at}
use Rattle.lexer.proofs.Laws.{token_at_moved}
use Rattle.semantics.specs.Program.{Expression, Condition, comparison, negated}
use Rattle.bytecode.proofs.Soundness.{none≢some}
use Rattle.grammar.specs.Parsed.{Parsed}
use Rattle.grammar.specs.Expressions.{Scope, product_of, sum_of, expression, bracket}
use Rattle.grammar.specs.Conditions.{comparison_by, compared, comparison_at, opposite as opposed, inverted, atom, and_also, or_else, connect, and_of, or_of, conjunction, condition, square, whole_condition}
use Rattle.grammar.specs.Derivation as D
use Rattle.grammar.specs.Derivation.{Tokens, LevelC, SpellsC, not_square, one_atom, conjoined, one_conjunction, disjoined, normal}
use Rattle.grammar.proofs.Bytes.{heads}
use Rattle.grammar.proofs.Growth.{operator_end, comparisons-end, ands-end, ors-end}
use Rattle.lexer.specs.Spelling.{Spelling}
use Rattle.grammar.proofs.Standing.{stands, only_sign, normally}
use Rattle.grammar.proofs.Derived.{sign_is}
use Rattle.faults.specs.Grammar.{IsCondition, AreNames}
use Rattle.faults.proofs.Languages.{Joins, These, InRound, InSquare}
use Rattle.faults.proofs.Sole.{Ahead, by_other, refused_sole, with_value, behind, narrow, closer, then_sole, cond_sole, option_sole, token_sole, NoSign, Tails, not_sign, first_ahead, chain_sole, one_tail, more_tails}
use Rattle.faults.proofs.SoleParts.{Anything, Compares, compares_of, apart, followed_sole, E, is_begin, begins_expression, AfterExpression, ends_expression, compares_end, Anywhere, Inside, expression_sole, bracket_sole}

abbrev And : List ℕ → Type 0
And w = w ≡ bytes "&"

abbrev pub Or : List ℕ → Type 0
Or w = w ≡ bytes "|"

module _ (names : List (List ℕ)) (good : AreNames names) where
  abbrev pub K : LevelC → Tokens → Type 0
  K v ts = IsCondition names v ts

  -- a comparison sign and an expression
  abbrev Comparing : Tokens → Type 0
  Comparing us = (w : List ℕ) × (vs : Tokens) × (us ≡ w ∷ vs) × Compares w × E names good D.expression vs

  abbrev Compared : Tokens → Type 0
  Compared = Joins (E names good D.expression) Comparing

  abbrev Squared : Tokens → Type 0
  Squared us = (vs : Tokens) × (us ≡ bytes "[" ∷ vs) × InSquare names vs

  data Atom : Tokens → Type 0 where
    compares : (ts : Tokens) → Compared ts → Atom ts
    in_square : (ts : Tokens) → InSquare names ts → Atom (bytes "[" ∷ ts)
    inverts : (ts : Tokens) → Squared ts → Atom (bytes "~" ∷ ts)

  atom_of : (l : ℕ) (ts : Tokens) (c : Condition) → SpellsC names D.atom l ts c → Atom ts
  atom_of l ts c (D.SpellsC.compared w o us vs a b g d f) = compares (us ++ w ∷ vs) (us, w ∷ vs, refl, record { open_brackets = l; value = a; spelled = d }, (w, vs, refl, (o, g), record { open_brackets = l; value = b; spelled = f }))
  atom_of l ts c (D.SpellsC.square us x d) = in_square (us ++ bytes "]" ∷ []) (us, bytes "]" ∷ [], refl, record { open_brackets = _; value = x; spelled = d }, refl)
  atom_of l ts c (not_square us x d) = inverts (bytes "[" ∷ us ++ bytes "]" ∷ []) (us ++ bytes "]" ∷ [], refl, (us, bytes "]" ∷ [], refl, record { open_brackets = _; value = x; spelled = d }, refl))

  atom_form : (ts : Tokens) → K D.atom ts → Atom ts
  atom_form ts x = atom_of x.open_brackets ts x.value x.spelled

  conjunction_of : (l : ℕ) (ts : Tokens) (c : Condition) → SpellsC names D.conjunction l ts c → Joins (K D.atom) (Tails And (K D.atom)) ts
  conjunction_of l ts c (one_atom us x d) = one_tail And (K D.atom) us (record { open_brackets = l; value = x; spelled = d })
  conjunction_of l ts c (conjoined us vs a b d f) = more_tails And (K D.atom) (bytes "&") us vs (conjunction_of l us a d) refl (record { open_brackets = l; value = b; spelled = f })

  condition_of : (l : ℕ) (ts : Tokens) (c : Condition) → SpellsC names D.condition l ts c → Joins (K D.conjunction) (Tails Or (K D.conjunction)) ts
  condition_of l ts c (one_conjunction us x d) = one_tail Or (K D.conjunction) us (record { open_brackets = l; value = x; spelled = d })
  condition_of l ts c (disjoined us vs a b d f) = more_tails Or (K D.conjunction) (bytes "|") us vs (condition_of l us a d) refl (record { open_brackets = l; value = b; spelled = f })

  -- a comparison begins with neither `~` nor `[`
  compared_first : (k : Kind) (w : List ℕ) → Spelling k w → (is_begin k ≡ false) → (us xs ys : Tokens) → w ∷ us ≡ xs ++ ys → Compared xs → ⊥
  compared_first k w sp un us xs ys e (ts, vs, q, x, y) =
      let b = begins_expression names good ts x in
      let e2 : w ∷ us ≡ b.1 ∷ ((b.2 ++ vs) ++ ys) = e ∙ (ap (λ (z : Tokens). z ++ ys) (q ∙ ap (λ (z : Tokens). z ++ vs) b.3)) in
      not_sign k b.0 w b.1 sp b.4 (λ z. let y : false ≡ true = sym un ∙ (ap is_begin z ∙ b.5) in let r : ◌≡◌ {A = ℕ} 0 1 = cc in omega arith) (heads e2)

  tilde_goes : (us xs ys : Tokens) → bytes "~" ∷ us ≡ xs ++ ys → Atom xs → (zs : Tokens) × (xs ≡ bytes "~" ∷ zs) × Squared zs
  unfolding is kind_number
  tilde_goes us xs ys e (inverts ts x) = (ts, refl, x)
  tilde_goes us xs ys e (in_square ts x) = absurd (not_sign tilde open_square (bytes "~") (bytes "[") refl refl (apart tilde open_square refl refl) (heads e))
  tilde_goes us xs ys e (compares ts x) = absurd (compared_first tilde (bytes "~") refl refl us ts ys e x)

  square_goes : (us xs ys : Tokens) → bytes "[" ∷ us ≡ xs ++ ys → Atom xs → (zs : Tokens) × (xs ≡ bytes "[" ∷ zs) × InSquare names zs
  unfolding is kind_number
  square_goes us xs ys e (in_square ts x) = (ts, refl, x)
  square_goes us xs ys e (inverts ts x) = absurd (not_sign open_square tilde (bytes "[") (bytes "~") refl refl (apart open_square tilde refl refl) (heads e))
  square_goes us xs ys e (compares ts x) = absurd (compared_first open_square (bytes "[") refl refl us ts ys e x)

  -- what may follow
  abbrev AfterConjunction : Tokens → Type 0
  AfterConjunction ys = AfterExpression names good ys × NoSign And ys

  abbrev pub AfterCondition : Tokens → Type 0
  AfterCondition ys = AfterConjunction ys × NoSign Or ys

  ends_condition : (k : Kind) (w : List ℕ) → Spelling k w → product_of k ≡ none → sum_of k ≡ none → (k ≡ ampersand → ⊥) → (k ≡ bar → ⊥) → (us : Tokens) → AfterCondition (w ∷ us)
  ends_condition k w sp f g a b us = ((ends_expression names good k w sp f g us, λ e. not_sign k ampersand w (bytes "&") sp refl a e), λ e. not_sign k bar w (bytes "|") sp refl b e)

  pub square_ends : (xs ys : Tokens) → These (bytes "]" ∷ []) xs → Anything ys → AfterCondition (xs ++ ys)
  unfolding is kind_number product_of sum_of
  square_ends xs ys l z =
      subst (λ (x : Tokens). AfterCondition (x ++ ys)) (sym l) (ends_condition close_square (bytes "]") refl refl refl (apart close_square ampersand refl refl) (apart close_square bar refl refl) ys)

  and_ends : (w : List ℕ) (us : Tokens) → And w → AfterExpression names good (w ∷ us)
  unfolding product_of sum_of is kind_number
  and_ends w us e = ends_expression names good ampersand w e refl refl us

  or-ends : (w : List ℕ) (us : Tokens) → Or w → AfterConjunction (w ∷ us)
  unfolding product_of sum_of is kind_number
  or-ends w us e = (ends_expression names good bar w e refl refl us, λ q. not_sign bar ampersand w (bytes "&") e refl (apart bar ampersand refl refl) q)

  module _ (sc : Scope) (inner : ℕ → ℕ → Parsed Expression) (hi : Inside names good sc (InRound names) inner) (inside : ℕ → ℕ → Parsed Condition) (hc : Inside names good sc (InSquare names) inside) where
    compared_sole : (a : Expression) → Anywhere names good sc Comparing (AfterExpression names good) (λ at. compared inner sc a at)
    unfolding compared
    compared_sole a n h =
        token_sole sc.text n
        (λ k s m e. option_sole (comparison_by k)
        (λ z. refused_sole e (λ us xs ys ah q l t.
        let c = compares_of l.0 l.3 in
        first_ahead sc.text n k s m h e us (l.1 ++ ys) l.0 ah (q ∙ ap (λ (y : Tokens). y ++ ys) l.2) c.0 c.2 (λ i. none≢some c.1 (sym z ∙ (ap comparison_by i ∙ c.3)))))
        (λ o eo.
        let ne = operator_end comparison_by comparisons-end k o eo in
        behind (normal (part sc.text s m)) (stands normally sc.text n k s m h ne e) (λ us xs ys q l t. (l.1, l.2 ∙ ap (λ (y : List ℕ). y ∷ l.1) (heads (sym (q ∙ ap (λ (y : Tokens). y ++ ys) l.2))), l.4))
        (with_value (λ b. comparison o a b) (expression_sole names good sc inner hi m (token_at_moved sc.text n k s m h e).2))))

    comparison_sole : Anywhere names good sc Compared (AfterExpression names good) (λ at. comparison_at inner sc at)
    unfolding comparison_at
    comparison_sole at h =
        then_sole {L = E names good D.expression} {M = Comparing} {N = Compared} {S = AfterExpression names good} {S2 = AfterExpression names good} h (λ zs j. j)
        (λ xs ys l t. subst (λ (x : Tokens). AfterExpression names good (x ++ ys)) (sym l.2) (compares_end names good l.0 (l.1 ++ ys) l.3))
        (expression_sole names good sc inner hi at h) (λ a n i j eq. compared_sole a n j)

    inverted_sole : Anywhere names good sc Squared (AfterExpression names good) (λ at. inverted inside sc at)
    unfolding inverted opposed is kind_number
    inverted_sole at h =
        token_sole sc.text at
        (λ k s n e. cond_sole (is k open_square)
        (λ t. behind (bytes "[") (sign_is normally sc.text open_square (bytes "[") (λ x q. q) refl at k s n h e t) (λ us xs ys q l z. (l.0, l.1, l.2)) (closer (λ ts z. tt) (with_value (λ c. negated c) (hc s n (token_at_moved sc.text at k s n h e).2))))
        (λ t. refused_sole e (λ us xs ys ah q l z. first_ahead sc.text at k s n h e us (l.0 ++ ys) (bytes "[") ah (q ∙ ap (λ (y : Tokens). y ++ ys) l.1) open_square refl (apart k open_square refl t))))

    atom_sole : Anywhere names good sc (K D.atom) (AfterExpression names good) (λ at. atom inner inside sc at)
    unfolding atom is kind_number
    atom_sole at h =
        token_sole sc.text at
        (λ k s n e. cond_sole (is k tilde)
        (λ t. behind (bytes "~") (sign_is normally sc.text tilde (bytes "~") (λ x q. q) refl at k s n h e t) (λ us xs ys q l z. tilde_goes us xs ys q (atom_form xs l)) (inverted_sole n (token_at_moved sc.text at k s n h e).2))
        (λ t1. cond_sole (is k open_square)
        (λ t. behind (bytes "[") (sign_is normally sc.text open_square (bytes "[") (λ x q. q) refl at k s n h e t) (λ us xs ys q l z. square_goes us xs ys q (atom_form xs l)) (closer (λ ts z. tt) (hc s n (token_at_moved sc.text at k s n h e).2)))
        (λ t2. narrow h (λ us xs ys ah q l z. compares-only k s n e t1 t2 us xs ys (ah k s n e) q (atom_form xs l)) (comparison_sole at h))))
      where
        compares-only : (k : Kind) (s n : ℕ) → token_at sc.text at ≡ token k s n → is k tilde ≡ false → is k open_square ≡ false → (us xs ys : Tokens) → Ahead k (normal (part sc.text s n)) us → us ≡ xs ++ ys → Atom xs → Compared xs
        compares-only k s n e t1 t2 us xs ys ah q (compares ts x) = x
        compares-only k s n e t1 t2 us xs ys ah q (in_square ts x) = absurd (first_ahead sc.text at k s n h e us (ts ++ ys) (bytes "[") ah q open_square refl (apart k open_square refl t2))
        compares-only k s n e t1 t2 us xs ys ah q (inverts ts x) = absurd (first_ahead sc.text at k s n h e us (ts ++ ys) (bytes "~") ah q tilde refl (apart k tilde refl t1))

    conjunction_sole : Anywhere names good sc (K D.conjunction) AfterConjunction (λ at. conjunction inner inside sc at)
    unfolding conjunction and_of is kind_number
    conjunction_sole at h =
        chain_sole sc.text And (K D.atom) (K D.conjunction) (AfterExpression names good) connect and_of ands-end (λ w e. (ampersand, and_also, e, refl)) (λ k w o e sp. (only_sign k w sp ampersand and_also o e).0) and_ends (λ xs x. conjunction_of x.open_brackets xs x.value x.spelled) (atom inner inside sc) atom_sole at h

    pub condition_sole : Anywhere names good sc (K D.condition) AfterCondition (λ at. condition inner inside sc at)
    unfolding condition or_of is kind_number
    condition_sole at h =
        chain_sole sc.text Or (K D.conjunction) (K D.condition) AfterConjunction connect or_of ors-end (λ w e. (bar, or_else, e, refl)) (λ k w o e sp. (only_sign k w sp bar or_else o e).0) or-ends (λ xs x. condition_of x.open_brackets xs x.value x.spelled) (conjunction inner inside sc) conjunction_sole at h

  module _ (sc : Scope) where
    pub square_sole : (left : ℕ) → Inside names good sc (InSquare names) (λ s n. square left sc s n)
    unfolding square is kind_number product_of sum_of
    square_sole zero s n h = by_other 8 (λ q. omega (arith, q))
    square_sole (suc left) s n h =
        then_sole {L = K D.condition} {M = These (bytes "]" ∷ [])} {N = InSquare names} {S = AfterCondition} {S2 = Anything} h (λ zs j. j)
        square_ends (condition_sole sc (λ s n. bracket left sc s n) (bracket_sole names good sc left) (λ s n. square left sc s n) (square_sole left) n h)
        (λ x m i j eq. followed_sole sc.text close_square (bytes "]") refl (λ y q. q) refl refl x m j)

    pub whole_condition_sole : Anywhere names good sc (K D.condition) AfterCondition (λ at. whole_condition sc at)
    unfolding whole_condition
    whole_condition_sole at h = condition_sole sc (λ s n. bracket bracket_limit sc s n) (bracket_sole names good sc bracket_limit) (λ s n. square bracket_limit sc s n) (square_sole bracket_limit) at h
