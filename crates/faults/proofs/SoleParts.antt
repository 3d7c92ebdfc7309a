-- A token refused by 2 in an expression or a condition begins none of the bare grammar. Assumes nothing.
use mathlib.Core.Path.{◌≡◌, refl, ap, sym, ◌∙◌, subst}
use mathlib.Core.List.{List, [], ◌∷◌, ◌++◌}
use mathlib.Core.Bool.{Bool, true, false, cond}
use mathlib.Core.Option.{Option, none, some}
use Prim.Native.Nat.{ℕ, zero, suc, ◌+◌, ◌≤◌}
use native.Mathlib.Omega.{arith}
use lib.ListN.{length, get_or}
use lib.Dec.{ltb}
use Rattle.limits.specs.Limits.{bracket_limit, number_limit}
use Rattle.lexer.specs.Bytes.{bytes, part}
use Rattle.lexer.specs.Token.{Kind, kind_number, ending, name, digits, open_round, close_round, minus, is, token}
use Rattle.lexer.specs.Token as T
use Rattle.lexer.specs.Lexer.{token_at, over_long, value_of}
use Rattle.lexer.specs.Names.{id_of}
use Rattle.lexer.proofs.Laws.{token_at_moved}
use Rattle.arith.specs.Values.{Operation, Comparison}
use Rattle.semantics.specs.Program.{Expression, operation, negate}
use Rattle.bytecode.proofs.Soundness.{none≢some}
use Rattle.grammar.specs.Parsed.{Parsed, sign, expected, followed}
use Rattle.grammar.specs.Expressions.{Scope, with_id, current_at, previous_value_at, constant_at, primary, negative, factor, product_of, sum_of, term, expression, bracket, whole_expression}
use Rattle.grammar.specs.Conditions.{comparison_by}
use Rattle.grammar.specs.Derivation as D
use Rattle.grammar.specs.Derivation.{Tokens, ProductSign, SumSign, ComparisonSign, Level, SpellsE, a_number, a_current, a_previous, brackets, plain, opposite, one_factor, product, one_term, sum, normal}
use Rattle.grammar.proofs.Combine.{one_sign}
use Rattle.grammar.proofs.Bytes.{heads}
use Rattle.grammar.proofs.Growth.{products_end, sums-end}
use Rattle.lexer.specs.Spelling.{Spelling}
use Rattle.lexer.proofs.Spellings.{one_kind}
use Rattle.grammar.proofs.Standing.{stands_spelled, product_sign, sum_sign, normally}
use Rattle.grammar.proofs.Derived.{sign_stands, sign_is}
use Rattle.grammar.proofs.Converse.{product_kind, sum_kind, comparison_kind}
use Rattle.faults.specs.Grammar.{IsExpression, AreNames}
use Rattle.faults.proofs.Languages.{Joins, These, InRound}
use Rattle.faults.proofs.Sole.{Ahead, Sole, by_other, refused_sole, one_sole, with_value, behind, narrow, then_sole, cond_sole, option_sole, token_sole, NoSign, Tails, one_tail, more_tails, not_sign, first_ahead, chain_sole}

-- ---- signs

abbrev pub Anything : Tokens → Type 0
Anything ts = Unit {0}

abbrev Product : List ℕ → Type 0
Product w = (o : Operation) × ProductSign w o

abbrev Sum : List ℕ → Type 0
Sum w = (o : Operation) × SumSign w o

abbrev pub Compares : List ℕ → Type 0
Compares w = (o : Comparison) × ComparisonSign w o

abbrev Of : {O : Type 0} → (Kind → Option O) → List ℕ → Type 0
Of {O} operator w = (k : Kind) × (o : O) × Spelling k w × (operator k ≡ some o)

product_of_lem : (w : List ℕ) → Product w → Of product_of w
product_of_lem w (o, p) = let c = product_kind w o p in (c.kind, o, c.spelling, c.is_operator)

sum_of_lem : (w : List ℕ) → Sum w → Of sum_of w
sum_of_lem w (o, p) = let c = (sum_kind w o p).0 in (c.kind, o, c.spelling, c.is_operator)

pub compares_of : (w : List ℕ) → Compares w → Of comparison_by w
compares_of w (o, p) = let c = (comparison_kind w o p).0 in (c.kind, o, c.spelling, c.is_operator)

-- a token of another kind than an operator's
not_of_lem : {O : Type 0} (operator : Kind → Option O) (k : Kind) (w : List ℕ) → Spelling k w → operator k ≡ none → Of operator w → ⊥
not_of_lem operator k w sp z (m, o, sq, e) = none≢some o (sym z ∙ (ap operator (one_kind k m w sp sq) ∙ e))

pub apart : (k m : Kind) → is m m ≡ true → is k m ≡ false → k ≡ m → ⊥
apart k m t f e = let z : true ≡ false = sym t ∙ (ap (λ (x : Kind). is x m) (sym e) ∙ f) in let y : ◌≡◌ {A = ℕ} 0 1 = cc in omega arith

-- a token that begins an expression
abbrev pub is_begin : Kind → Bool
is_begin k = cond (is k digits) true (cond (is k name) true (cond (is k T.previous) true (cond (is k open_round) true (is k minus))))

-- one fixed token behind what is read
pub followed_sole : {A : Type 0} (text : List ℕ) (w : Kind) (v : List ℕ) → Spelling w v → ((x : List ℕ) → Spelling w x → x ≡ v) → is ending w ≡ false → is w w ≡ true → (x : A) (at : ℕ) → at ≤ length text → Sole (These (v ∷ [])) Anything text at (followed text (sign w ∷ []) x at)
unfolding expected
followed_sole text w v sp f ne t x at h =
    rw (one_sign text w x at)
    (with_value (λ u. x)
    (token_sole text at
    (λ k s n e. cond_sole (is k w) (λ q. one_sole tt (sign_is normally text w v f ne at k s n h e q) (λ us xs ys e2 l z. l))
    (λ q. refused_sole e (λ us xs ys ah e2 l z. first_ahead text at k s n h e us ys v ah (e2 ∙ ap (λ (y : Tokens). y ++ ys) l) w sp (apart k w t q))))))

-- ---- the forms of the languages

module _ (names : List (List ℕ)) (good : AreNames names) where
  abbrev pub E : Level → Tokens → Type 0
  E v ts = IsExpression names v ts

  -- kinds of a primary that is one token
  data Plain : Kind → Type 0 where
    a_digit : Plain digits
    a_name : Plain name
    before : Plain T.previous

  data Primary : Tokens → Type 0 where
    one : (k : Kind) (w : List ℕ) → Spelling k w → Plain k → Primary (w ∷ [])
    round : (ts : Tokens) → E D.expression ts → Primary (bytes "(" ∷ ts ++ bytes ")" ∷ [])

  primary_of : (l : ℕ) (ts : Tokens) (e : Expression) → SpellsE names D.primary l ts e → Primary ts
  primary_of l ts e (a_number w h g) = one digits w h a_digit
  primary_of l ts e (a_current w i h) = one name w (good i w h) a_name
  primary_of l ts e (a_previous w i h) = one T.previous (95 ∷ w) (record { rest = w; is_cons = refl; is_name = good i w h }) before
  primary_of l ts e (brackets us x d) = round us (record { open_brackets = _; value = x; spelled = d })

  primary_form : (ts : Tokens) → E D.primary ts → Primary ts
  primary_form ts x = primary_of x.open_brackets ts x.value x.spelled

  -- a token that begins a primary
  primary_first : (k : Kind) (w : List ℕ) → Spelling k w → is k digits ≡ false → is k name ≡ false → is k T.previous ≡ false → is k open_round ≡ false → (us xs ys : Tokens) → w ∷ us ≡ xs ++ ys → Primary xs → ⊥
  unfolding is kind_number
  primary_first k w sp f g h i us xs ys e (one m v sq a_digit) = not_sign k digits w v sp sq (apart k digits refl f) (heads e)
  primary_first k w sp f g h i us xs ys e (one m v sq a_name) = not_sign k name w v sp sq (apart k name refl g) (heads e)
  primary_first k w sp f g h i us xs ys e (one m v sq before) = not_sign k T.previous w v sp sq (apart k T.previous refl h) (heads e)
  primary_first k w sp f g h i us xs ys e (round ts x) = not_sign k open_round w (bytes "(") sp refl (apart k open_round refl i) (heads e)

  primary_some : (ys : Tokens) (xs : Tokens) → Primary xs → [] ≡ xs ++ ys → ⊥
  primary_some ys xs (one m v sq p) e = let z : ◌≡◌ {A = ℕ} 0 1 = cc in omega arith
  primary_some ys xs (round ts x) e = let z : ◌≡◌ {A = ℕ} 0 1 = cc in omega arith

  -- a primary of one token
  plain_sole : (k : Kind) (w : List ℕ) → Spelling k w → Plain k → (us xs ys : Tokens) → w ∷ us ≡ xs ++ ys → Primary xs → xs ≡ w ∷ []
  unfolding is kind_number
  plain_sole k w sp p us xs ys e (one m v sq q) = ap (λ (x : List ℕ). x ∷ []) (sym (heads e))
  plain_sole k w sp a_digit us xs ys e (round ts x) = absurd (not_sign digits open_round w (bytes "(") sp refl (apart digits open_round refl refl) (heads e))
  plain_sole k w sp a_name us xs ys e (round ts x) = absurd (not_sign name open_round w (bytes "(") sp refl (apart name open_round refl refl) (heads e))
  plain_sole k w sp before us xs ys e (round ts x) = absurd (not_sign T.previous open_round w (bytes "(") sp refl (apart T.previous open_round refl refl) (heads e))

  round_goes : (us xs ys : Tokens) → bytes "(" ∷ us ≡ xs ++ ys → Primary xs → (zs : Tokens) × (xs ≡ bytes "(" ∷ zs) × InRound names zs
  unfolding is kind_number
  round_goes us xs ys e (one m v sq a_digit) = absurd (not_sign open_round digits (bytes "(") v refl sq (apart open_round digits refl refl) (heads e))
  round_goes us xs ys e (one m v sq a_name) = absurd (not_sign open_round name (bytes "(") v refl sq (apart open_round name refl refl) (heads e))
  round_goes us xs ys e (one m v sq before) = absurd (not_sign open_round T.previous (bytes "(") v refl sq (apart open_round T.previous refl refl) (heads e))
  round_goes us xs ys e (round ts x) = (ts ++ bytes ")" ∷ [], refl, (ts, bytes ")" ∷ [], refl, x, refl))

  -- at most one `-`
  data Factor : Tokens → Type 0 where
    bare : (ts : Tokens) → E D.primary ts → Factor ts
    negative_of : (ts : Tokens) → E D.primary ts → Factor (bytes "-" ∷ ts)

  factor_of : (l : ℕ) (ts : Tokens) (e : Expression) → SpellsE names D.factor l ts e → Factor ts
  factor_of l ts e (plain us x d) = bare us (record { open_brackets = l; value = x; spelled = d })
  factor_of l ts e (opposite us x d) = negative_of us (record { open_brackets = l; value = x; spelled = d })

  factor_form : (ts : Tokens) → E D.factor ts → Factor ts
  factor_form ts x = factor_of x.open_brackets ts x.value x.spelled

  minus_goes : (us xs ys : Tokens) → bytes "-" ∷ us ≡ xs ++ ys → Factor xs → (zs : Tokens) × (xs ≡ bytes "-" ∷ zs) × E D.primary zs
  unfolding is kind_number
  minus_goes us xs ys e (negative_of ts x) = (ts, refl, x)
  minus_goes us xs ys e (bare ts x) = absurd (primary_first minus (bytes "-") refl refl refl refl refl us ts ys e (primary_form ts x))

  -- `* / mod` over factors
  term_of : (l : ℕ) (ts : Tokens) (e : Expression) → SpellsE names D.term l ts e → Joins (E D.factor) (Tails Product (E D.factor)) ts
  term_of l ts e (one_factor us x d) = one_tail Product (E D.factor) us (record { open_brackets = l; value = x; spelled = d })
  term_of l ts e (product w o us vs a b g c d) = more_tails Product (E D.factor) w us vs (term_of l us a c) (o, g) (record { open_brackets = l; value = b; spelled = d })

  expression_of : (l : ℕ) (ts : Tokens) (e : Expression) → SpellsE names D.expression l ts e → Joins (E D.term) (Tails Sum (E D.term)) ts
  expression_of l ts e (one_term us x d) = one_tail Sum (E D.term) us (record { open_brackets = l; value = x; spelled = d })
  expression_of l ts e (sum w o us vs a b g c d) = more_tails Sum (E D.term) w us vs (expression_of l us a c) (o, g) (record { open_brackets = l; value = b; spelled = d })

  abbrev pub Begins : Tokens → Type 0
  Begins ts = (k : Kind) × (w : List ℕ) × (vs : Tokens) × (ts ≡ w ∷ vs) × Spelling k w × (is_begin k ≡ true)

  begins_primary : (ts : Tokens) → Primary ts → Begins ts
  unfolding is kind_number
  begins_primary ts (one k w sp a_digit) = (digits, w, [], refl, sp, refl)
  begins_primary ts (one k w sp a_name) = (name, w, [], refl, sp, refl)
  begins_primary ts (one k w sp before) = (T.previous, w, [], refl, sp, refl)
  begins_primary ts (round us x) = (open_round, bytes "(", us ++ bytes ")" ∷ [], refl, refl, refl)

  begins_factor : (ts : Tokens) → Factor ts → Begins ts
  unfolding is kind_number
  begins_factor ts (bare us x) = begins_primary us (primary_form us x)
  begins_factor ts (negative_of us x) = (minus, bytes "-", us, refl, refl, refl)

  begins_joined : (ts xs ys : Tokens) → ts ≡ xs ++ ys → Begins xs → Begins ts
  begins_joined ts xs ys q (k, w, vs, e, sp, t) = (k, w, vs ++ ys, q ∙ ap (λ (z : Tokens). z ++ ys) e, sp, t)

  begins_term : (ts : Tokens) → E D.term ts → Begins ts
  begins_term ts x = let j = term_of x.open_brackets ts x.value x.spelled in begins_joined ts j.0 j.1 j.2 (begins_factor j.0 (factor_form j.0 j.3))

  pub begins_expression : (ts : Tokens) → E D.expression ts → Begins ts
  begins_expression ts x = let j = expression_of x.open_brackets ts x.value x.spelled in begins_joined ts j.0 j.1 j.2 (begins_term j.0 j.3)

  -- what may follow a term, an expression
  abbrev AfterTerm : Tokens → Type 0
  AfterTerm ys = Unit {0} × NoSign Product ys

  abbrev pub AfterExpression : Tokens → Type 0
  AfterExpression ys = AfterTerm ys × NoSign Sum ys

  -- a token that is no sign of them
  pub ends_expression : (k : Kind) (w : List ℕ) → Spelling k w → product_of k ≡ none → sum_of k ≡ none → (us : Tokens) → AfterExpression (w ∷ us)
  ends_expression k w sp f g us = ((tt, λ p. not_of_lem product_of k w sp f (product_of_lem w p)), λ p. not_of_lem sum_of k w sp g (sum_of_lem w p))

  pub round_ends : (xs ys : Tokens) → These (bytes ")" ∷ []) xs → Anything ys → AfterExpression (xs ++ ys)
  unfolding is kind_number product_of sum_of
  round_ends xs ys l z = subst (λ (x : Tokens). AfterExpression (x ++ ys)) (sym l) (ends_expression close_round (bytes ")") refl refl refl ys)

  sum_ends : (w : List ℕ) (us : Tokens) → Sum w → AfterTerm (w ∷ us)
  sum_ends w us (o, p) = let c = sum_kind w o p in (tt, λ q. not_of_lem product_of c.0.kind w c.0.spelling c.1 (product_of_lem w q))

  pub compares_end : (w : List ℕ) (us : Tokens) → Compares w → AfterExpression (w ∷ us)
  compares_end w us (o, p) = let c = comparison_kind w o p in ends_expression c.0.kind w c.0.spelling c.1.0 c.1.1 us

  -- ---- the parsers

  module _ (sc : Scope) where
    abbrev pub Anywhere : {A : Type 0} → (Tokens → Type 0) → (Tokens → Type 0) → (ℕ → Parsed A) → Type 0
    Anywhere L F p = (at : ℕ) → at ≤ length sc.text → Sole L F sc.text at (p at)

    abbrev pub Inside : {A : Type 0} → (Tokens → Type 0) → (ℕ → ℕ → Parsed A) → Type 0
    Inside L q = (s n : ℕ) → n ≤ length sc.text → Sole L Anything sc.text n (q s n)

    pub id_sole : {A : Type 0} {L F : Tokens → Type 0} (at p s n : ℕ) (f : ℕ → Parsed A) → ((i : ℕ) → over_long s n ≡ false → Sole L F sc.text at (f i)) → Sole L F sc.text at (with_id sc p s n f)
    unfolding with_id
    id_sole at p s n f h =
        cond_sole (over_long s n) (λ t. by_other 8 (λ q. omega (arith, q))) (λ t. option_sole (id_of sc.names (part sc.text s n)) (λ z. by_other 4 (λ q. omega (arith, q))) (λ i e. h i t))

    module _ (inner : ℕ → ℕ → Parsed Expression) (hi : Inside (InRound names) inner) where
      primary_sole : Anywhere (E D.primary) Anything (λ at. primary inner sc at)
      unfolding primary constant_at current_at previous_value_at is kind_number
      primary_sole at h =
          token_sole sc.text at
          (λ k s n e.
          let u = part sc.text s n in
          let w = normal u in
          cond_sole (is k digits)
          (λ t.
          let r = sign_stands normally sc.text digits refl at k s n h e t in
          cond_sole (ltb number_limit (value_of u)) (λ x. by_other 3 (λ q. omega (arith, q))) (λ x. one_sole _ r.0 (λ us xs ys q l z. plain_sole digits w r.1 a_digit us xs ys q (primary_form xs l))))
          (λ t1. cond_sole (is k name)
          (λ t.
          let r = sign_stands normally sc.text name refl at k s n h e t in
          id_sole at s s n _ (λ i o. cond_sole (get_or sc.known i false) (λ x. one_sole _ r.0 (λ us xs ys q l z. plain_sole name w r.1 a_name us xs ys q (primary_form xs l))) (λ x. by_other 5 (λ q. omega (arith, q)))))
          (λ t2. cond_sole (is k T.previous)
          (λ t.
          let r = sign_stands normally sc.text T.previous refl at k s n h e t in
          id_sole at s (s + 1) n _ (λ i o. one_sole _ r.0 (λ us xs ys q l z. plain_sole T.previous w r.1 before us xs ys q (primary_form xs l))))
          (λ t3. cond_sole (is k open_round)
          (λ t. behind (bytes "(") (sign_is normally sc.text open_round (bytes "(") (λ x q. q) refl at k s n h e t) (λ us xs ys q l z. round_goes us xs ys q (primary_form xs l)) (hi s n (token_at_moved sc.text at k s n h e).2))
          (λ t4. refused_sole e (λ us xs ys ah q l z. none_first at k s n h e t1 t2 t3 t4 us xs ys ah q (primary_form xs l)))))))
        where
          none_first : (at : ℕ) (k : Kind) (s n : ℕ) → at ≤ length sc.text → token_at sc.text at ≡ token k s n → is k digits ≡ false → is k name ≡ false → is k T.previous ≡ false → is k open_round ≡ false → (us xs ys : Tokens) → Ahead k (normal (part sc.text s n)) us → us ≡ xs ++ ys → Primary xs → ⊥
          none_first at k s n h e f g i j us xs ys ah q x = some (λ z. primary_some ys xs x (sym (ah.0 z) ∙ q))
            where
              some : (k ≡ ending → ⊥) → ⊥
              some ne = let y = ah.1 ne in primary_first k (normal (part sc.text s n)) (stands_spelled normally sc.text at k s n h ne e) f g i j y.0 xs ys (sym y.1 ∙ q) x

      factor_sole : Anywhere (E D.factor) Anything (λ at. factor inner sc at)
      unfolding factor negative is kind_number
      factor_sole at h =
          token_sole sc.text at
          (λ k s n e. cond_sole (is k minus)
          (λ t. behind (bytes "-") (sign_is normally sc.text minus (bytes "-") (λ x q. q) refl at k s n h e t) (λ us xs ys q l z. minus_goes us xs ys q (factor_form xs l)) (with_value (λ x. negate x) (primary_sole n (token_at_moved sc.text at k s n h e).2)))
          (λ t. narrow h (λ us xs ys ah q l z. no_minus k s n e t us xs ys (ah k s n e) q (factor_form xs l)) (primary_sole at h)))
        where
          no_minus : (k : Kind) (s n : ℕ) → token_at sc.text at ≡ token k s n → is k minus ≡ false → (us xs ys : Tokens) → Ahead k (normal (part sc.text s n)) us → us ≡ xs ++ ys → Factor xs → E D.primary xs
          no_minus k s n e t us xs ys ah q (bare ts x) = x
          no_minus k s n e t us xs ys ah q (negative_of ts x) = absurd (first_ahead sc.text at k s n h e us (ts ++ ys) (bytes "-") ah q minus refl (apart k minus refl t))

      term_sole : Anywhere (E D.term) AfterTerm (λ at. term inner sc at)
      unfolding term
      term_sole at h =
          chain_sole sc.text Product (E D.factor) (E D.term) Anything operation product_of products_end product_of_lem (λ k w o e sp. (o, product_sign k w sp o e)) (λ w us p. tt) (λ xs x. term_of x.open_brackets xs x.value x.spelled) (factor inner sc) factor_sole at h

      pub expression_sole : Anywhere (E D.expression) AfterExpression (λ at. expression inner sc at)
      unfolding expression
      expression_sole at h =
          chain_sole sc.text Sum (E D.term) (E D.expression) AfterTerm operation sum_of sums-end sum_of_lem (λ k w o e sp. (o, sum_sign k w sp o e)) sum_ends (λ xs x. expression_of x.open_brackets xs x.value x.spelled) (term inner sc) term_sole at h

    pub bracket_sole : (left : ℕ) → Inside (InRound names) (λ s n. bracket left sc s n)
    unfolding bracket is kind_number product_of sum_of
    bracket_sole zero s n h = by_other 8 (λ q. omega (arith, q))
    bracket_sole (suc left) s n h =
        then_sole {L = E D.expression} {M = These (bytes ")" ∷ [])} {N = InRound names} {S = AfterExpression} {S2 = Anything} h (λ zs j. j)
        round_ends (expression_sole (λ s n. bracket left sc s n) (bracket_sole left) n h)
        (λ x m i j eq. followed_sole sc.text close_round (bytes ")") refl (λ y q. q) refl refl x m j)

    pub whole_expression_sole : Anywhere (E D.expression) AfterExpression (λ at. whole_expression sc at)
    unfolding whole_expression
    whole_expression_sole at h = expression_sole (λ s n. bracket bracket_limit sc s n) (bracket_sole bracket_limit) at h
