-- A token refused by 2 begins no rule of the bare grammar. Assumes nothing.
use mathlib.Core.Path.{◌≡◌, refl, ap, sym, ◌∙◌, subst}
use mathlib.Core.List.{List, [], ◌∷◌, ◌++◌, append_assoc, append-nil}
use mathlib.Core.Bool.{false}
use mathlib.Core.Logic.{◌⊎◌, inl, inr}
use Prim.Native.Nat.{ℕ, zero, suc, ◌-◌, ◌≤◌}
use native.Mathlib.Omega.{arith}
use lib.ListN.{length}
use lib.Dec.{ltb, leb, eqb}
use Rattle.limits.specs.Limits.{case_limit}
use Rattle.lexer.specs.Bytes.{bytes, part}
use Rattle.lexer.specs.Token.{Kind, kind_number, name, colon, close_round, close_square, open_square, bar, tilde, greater, plus, is, token}
use Rattle.lexer.specs.Lexer.{token_at}
use Rattle.lexer.proofs.Laws.{token_at_moved}
use Rattle.semantics.specs.Program.{Condition}
use Rattle.lexer.specs.Spelling.{SpellsName}
use Rattle.grammar.specs.Parsed.{Parsed, accepted, refused}
use Rattle.grammar.specs.Expressions.{Scope, product_of, sum_of}
use Rattle.grammar.specs.Conditions.{listed}
use Rattle.grammar.specs.Forms.{change_opening, no_change_opening, rule_opening, value_opening, function_closing, formula_closing, case_value_opening, turned_opening, falling_opening}
use Rattle.grammar.specs.Rules.{Spanned, case_at, cases_from, list_from, plain_list, Compared, agrees, differs, parts_from, first_found, agreeing_list, function_at, change_at, pair_at, formula_at, formulas}
use Rattle.grammar.specs.Derivation as D
use Rattle.grammar.specs.Derivation.{Tokens, IsName, normal}
use Rattle.grammar.proofs.Bytes.{heads}
use Rattle.lexer.proofs.Spellings.{is_fixed}
use Rattle.grammar.proofs.Phrases.{fixed_stands, wanted_tokens, signs}
use Rattle.grammar.proofs.Standing.{Seen, normally}
use Rattle.faults.specs.Grammar as G
use Rattle.faults.specs.Grammar.{AreNames, AreCases, AreConditions, IsRule}
use Rattle.faults.proofs.Languages.{Joins, These, InRound, InSquare, AndValue, CaseRest, InList, NoChange, ThenNoChange, Changes, Computes, Falls, ThenFalls, Turns}
use Rattle.faults.proofs.Sole.{Ahead, Sole, by_other, refused_sole, nothing_sole, behind, narrow, then_sole, cond_sole, token_sole, NoSign, not_sign, first_ahead}
use Rattle.faults.proofs.SoleParts.{Anything, apart, followed_sole, E, AfterExpression, round_ends, ends_expression, whole_expression_sole}
use Rattle.faults.proofs.SoleConditions.{Or, K, AfterCondition, square_ends, whole_condition_sole}
use Rattle.faults.proofs.SoleForms.{phrase_sole, followed_by_sole}

-- no `|` goes on
no_bar : Or (bytes ")") → ⊥
unfolding is kind_number
no_bar e = not_sign close_round bar (bytes ")") (bytes "|") refl refl (apart close_round bar refl refl) e

module _ (names : List (List ℕ)) (good : AreNames names) where
  -- what follows a part of a list: nothing, or `|` and the others
  abbrev Others : (Tokens → Type 0) → Tokens → Type 0
  Others L us = (us ≡ []) ⊎ ((vs : Tokens) × (us ≡ bytes "|" ∷ vs) × L vs)

  cases_of : (w : List ℕ) (xs : Tokens) → AreCases names w xs → (zs : Tokens) × (xs ≡ bytes "[" ∷ zs) × Joins (CaseRest names w) (Others (AreCases names w)) zs
  cases_of w xs (G.AreCases.one ts us x y) =
      let v = us ++ bytes ")" ∷ [] in
      let o = wanted_tokens (case_value_opening w) ++ v in
      let c = (ts ++ bytes "]" ∷ []) ++ o in
      (c, simp append_assoc, (c, [], sym (append-nil c), (ts ++ bytes "]" ∷ [], o, refl, (ts, bytes "]" ∷ [], refl, x, refl), (wanted_tokens (case_value_opening w), v, refl, refl, (us, bytes ")" ∷ [], refl, y, refl))), inl refl))
  cases_of w xs (G.AreCases.more ts us cs x y r) =
      let v = us ++ bytes ")" ∷ [] in
      let o = wanted_tokens (case_value_opening w) ++ v in
      let c = (ts ++ bytes "]" ∷ []) ++ o in
      (c ++ bytes "|" ∷ cs, simp append_assoc, (c, bytes "|" ∷ cs, refl, (ts ++ bytes "]" ∷ [], o, refl, (ts, bytes "]" ∷ [], refl, x, refl), (wanted_tokens (case_value_opening w), v, refl, refl, (us, bytes ")" ∷ [], refl, y, refl))), inr (cs, refl, r)))

  conditions_of_lem : (xs : Tokens) → AreConditions names xs → (zs : Tokens) × (xs ≡ bytes "[" ∷ zs) × Joins (InSquare names) (Others (AreConditions names)) zs
  conditions_of_lem xs (G.AreConditions.one ts x) = let c = ts ++ bytes "]" ∷ [] in (c, refl, (c, [], sym (append-nil c), (ts, bytes "]" ∷ [], refl, x, refl), inl refl))
  conditions_of_lem xs (G.AreConditions.more ts cs x r) = let c = ts ++ bytes "]" ∷ [] in (c ++ bytes "|" ∷ cs, refl, (c, bytes "|" ∷ cs, refl, (ts, bytes "]" ∷ [], refl, x, refl), inr (cs, refl, r)))

  bar_goes : {L : Tokens → Type 0} (us xs ys : Tokens) → bytes "|" ∷ us ≡ xs ++ ys → Others L xs → NoSign Or ys → (zs : Tokens) × (xs ≡ bytes "|" ∷ zs) × L zs
  bar_goes us xs ys q (inl e) z = absurd (subst (NoSign Or) (sym (q ∙ ap (λ (x : Tokens). x ++ ys) e)) z refl)
  bar_goes us xs ys q (inr (vs, e, r)) z = (vs, e, r)

  module _ (sc : Scope) where
    no_others : {A : Type 0} {L : Tokens → Type 0} (a : A) (at : ℕ) (k : Kind) (s n : ℕ) → at ≤ length sc.text → token_at sc.text at ≡ token k s n → is k bar ≡ false → Sole (Others L) (NoSign Or) sc.text at (accepted a at)
    unfolding is kind_number
    no_others {A} {L} a at k s n h e t = nothing_sole a (λ us xs ys ah q l z. go us xs ys (ah k s n e) q l)
      where
        go : (us xs ys : Tokens) → Ahead k (normal (part sc.text s n)) us → us ≡ xs ++ ys → Others L xs → xs ≡ []
        go us xs ys ah q (inl r) = r
        go us xs ys ah q (inr (vs, r, l)) = absurd (first_ahead sc.text at k s n h e us (vs ++ ys) (bytes "|") ah (q ∙ ap (λ (x : Tokens). x ++ ys) r) bar refl (apart k bar refl t))

    -- a list begins with `[`
    no_square : {A : Type 0} {L M : Tokens → Type 0} (at : ℕ) (k : Kind) (s n : ℕ) → at ≤ length sc.text → token_at sc.text at ≡ token k s n → is k open_square ≡ false → ((xs : Tokens) → L xs → (zs : Tokens) × (xs ≡ bytes "[" ∷ zs) × M zs) → Sole {A = A} L (NoSign Or) sc.text at (refused 2 s)
    unfolding is kind_number
    no_square at k s n h e t f =
        refused_sole e (λ us xs ys ah q l z. let x = f xs l in first_ahead sc.text at k s n h e us (x.0 ++ ys) (bytes "[") ah (q ∙ ap (λ (y : Tokens). y ++ ys) x.1) open_square refl (apart k open_square refl t))

    pub listed_sole : (at : ℕ) → at ≤ length sc.text → Sole (InSquare names) Anything sc.text at (listed sc at)
    unfolding listed is kind_number
    listed_sole at h =
        then_sole {L = K names good D.condition} {M = These (bytes "]" ∷ [])} {N = InSquare names} {S = AfterCondition names good} {S2 = Anything} h (λ zs j. j) (square_ends names good) (whole_condition_sole names good sc at h)
        (λ c m i j e. followed_sole sc.text close_square (bytes "]") refl (λ y q. q) refl refl c m j)

    module _ (w : List ℕ) (is_name : IsName w) (seen : Seen normally w) where
      case_sole : (at n : ℕ) → n ≤ length sc.text → Sole (CaseRest names w) Anything sc.text n (case_at sc w at n)
      unfolding case_at signs is_fixed is kind_number
      case_sole at n h =
          then_sole {L = InSquare names} {M = AndValue names w} {N = CaseRest names w} {S = Anything} {S2 = Anything} h (λ zs j. j) (λ xs ys l z. tt) (listed_sole n h)
          (λ c n1 i1 h1 e1. then_sole {L = These (wanted_tokens (case_value_opening w))} {M = InRound names} {N = AndValue names w} {S = Anything} {S2 = Anything} h1 (λ zs j. j) (λ xs ys l z. tt) (phrase_sole sc.text (case_value_opening w) refl (is_name, tt) (seen, tt) n1 h1)
          (λ u n2 i2 h2 e2. then_sole {L = E names good D.expression} {M = These (bytes ")" ∷ [])} {N = InRound names} {S = AfterExpression names good} {S2 = Anything} h2 (λ zs j. j) (round_ends names good) (whole_expression_sole names good sc n2 h2)
          (λ x n3 i3 h3 e3. followed_sole sc.text close_round (bytes ")") refl (λ y q. q) refl refl _ n3 h3)))

      cases_sole : (left : ℕ) (done : List Spanned) (at : ℕ) → at ≤ length sc.text → Sole (AreCases names w) (NoSign Or) sc.text at (cases_from left sc w done at)
      unfolding cases_from is_fixed is kind_number
      cases_sole zero done at h = token_sole sc.text at (λ k s n e. cond_sole (is k open_square) (λ t. by_other 8 (λ q. omega (arith, q))) (λ t. no_square at k s n h e t (cases_of w)))
      cases_sole (suc left) done at h =
          token_sole sc.text at
          (λ k s n e. cond_sole (is k open_square)
          (λ t.
          let i = (token_at_moved sc.text at k s n h e).2 in
          behind (bytes "[") (fixed_stands normally sc.text open_square refl at k s n h e t) (λ us xs ys q l z. cases_of w xs l)
          (then_sole {L = CaseRest names w} {M = Others (AreCases names w)} {N = Joins (CaseRest names w) (Others (AreCases names w))} {S = Anything} {S2 = NoSign Or} i (λ zs j. j) (λ xs ys l z. tt) (case_sole at n i)
          (λ c n1 i1 h1 e1. token_sole sc.text n1
          (λ k2 s2 n2 e2. cond_sole (is k2 bar)
          (λ t2. behind (bytes "|") (fixed_stands normally sc.text bar refl n1 k2 s2 n2 h1 e2 t2) bar_goes (cases_sole left (done ++ (c ∷ [])) n2 (token_at_moved sc.text n1 k2 s2 n2 h1 e2).2))
          (λ t2. no_others _ n1 k2 s2 n2 h1 e2 t2)))))
          (λ t. no_square at k s n h e t (cases_of w)))

    list_sole : (left : ℕ) (done : List Condition) (at : ℕ) → at ≤ length sc.text → Sole (AreConditions names) (NoSign Or) sc.text at (list_from left sc done at)
    unfolding list_from is_fixed is kind_number
    list_sole zero done at h = token_sole sc.text at (λ k s n e. cond_sole (is k open_square) (λ t. by_other 8 (λ q. omega (arith, q))) (λ t. no_square at k s n h e t conditions_of_lem))
    list_sole (suc left) done at h =
        token_sole sc.text at
        (λ k s n e. cond_sole (is k open_square)
        (λ t.
        let i = (token_at_moved sc.text at k s n h e).2 in
        behind (bytes "[") (fixed_stands normally sc.text open_square refl at k s n h e t) (λ us xs ys q l z. conditions_of_lem xs l)
        (then_sole {L = InSquare names} {M = Others (AreConditions names)} {N = Joins (InSquare names) (Others (AreConditions names))} {S = Anything} {S2 = NoSign Or} i (λ zs j. j) (λ xs ys l z. tt) (listed_sole n i)
        (λ c n1 i1 h1 e1. token_sole sc.text n1
        (λ k2 s2 n2 e2. cond_sole (is k2 bar)
        (λ t2. behind (bytes "|") (fixed_stands normally sc.text bar refl n1 k2 s2 n2 h1 e2 t2) bar_goes (list_sole left (done ++ (c ∷ [])) n2 (token_at_moved sc.text n1 k2 s2 n2 h1 e2).2))
        (λ t2. no_others _ n1 k2 s2 n2 h1 e2 t2)))))
        (λ t. no_square at k s n h e t conditions_of_lem))

    plain_list_sole : (at : ℕ) → at ≤ length sc.text → Sole (InList names) Anything sc.text at (plain_list sc at)
    unfolding plain_list is kind_number
    plain_list_sole at h =
        then_sole {L = AreConditions names} {M = These (bytes ")" ∷ [])} {N = InList names} {S = NoSign Or} {S2 = Anything} h (λ zs j. j) (λ xs ys l z. subst (λ (x : Tokens). NoSign Or (x ++ ys)) (sym l) no_bar) (list_sole case_limit [] at h)
        (λ cs n i j e. followed_sole sc.text close_round (bytes ")") refl (λ y q. q) refl refl cs n j)

    first_sole : {L S : Tokens → Type 0} (at : ℕ) (r : Parsed (List Condition)) (d : Compared) → Sole L S sc.text at r → Sole L S sc.text at (first_found r d)
    unfolding first_found
    first_sole at r (agrees n) x = x
    first_sole at (accepted a n) (differs m) x = by_other 7 (λ q. omega (arith, q))
    first_sole at (refused k q) (differs m) x =
        cond_sole (ltb q m) (λ t. x) (λ t. cond_sole (eqb q m) (λ u. cond_sole (leb k 5) (λ v. x) (λ v. by_other 7 (λ q. omega (arith, q)))) (λ u. by_other 7 (λ q. omega (arith, q))))

    agreeing_sole : (cases : List Spanned) (at : ℕ) → at ≤ length sc.text → Sole (InList names) Anything sc.text at (agreeing_list sc cases at)
    unfolding agreeing_list
    agreeing_sole cases at h = first_sole at (plain_list sc at) (parts_from sc.text cases at) (plain_list_sole at h)

  -- ---- a rule, after its name

  pub data Formulas (w : List ℕ) : Tokens → Type 0 where
    changes : (us : Tokens) → Changes names w us → Formulas w (bytes "~" ∷ us)
    computes : (us : Tokens) → Computes names w us → Formulas w us

  abbrev FormulaRest : List ℕ → Tokens → Type 0
  FormulaRest w = Joins (These (wanted_tokens rule_opening)) (Formulas w)

  pub data RuleRest (w : List ℕ) : Tokens → Type 0 where
    formula : (us : Tokens) → FormulaRest w us → RuleRest w us
    pair : (us : Tokens) → Turns names w us → RuleRest w (bytes "+" ∷ us)

  pub rule_of : (ts : Tokens) → IsRule names ts → (v : List ℕ) × (zs : Tokens) × (ts ≡ v ∷ zs) × SpellsName v × RuleRest v zs
  rule_of ts (G.IsRule.a_function v us g x) =
      let c = us ++ wanted_tokens function_closing in
      let b = wanted_tokens (value_opening v) ++ c in
      (v, wanted_tokens rule_opening ++ b, refl, g, formula _ (wanted_tokens rule_opening, b, refl, refl, computes b (wanted_tokens (value_opening v), c, refl, refl, (us, wanted_tokens function_closing, refl, x, refl))))
  rule_of ts (G.IsRule.a_change v cs ls g x y) =
      let n = (ls ++ bytes ")" ∷ []) ++ wanted_tokens formula_closing in
      let t = wanted_tokens (no_change_opening v) ++ n in
      let b = wanted_tokens (change_opening v) ++ (cs ++ t) in (
        v,
        wanted_tokens rule_opening ++ (bytes "~" ∷ b),
        simp append_assoc,
        g,
        formula _ (wanted_tokens rule_opening, bytes "~" ∷ b, refl, refl, changes b (wanted_tokens (change_opening v), cs ++ t, refl, refl, (cs, t, refl, x, (wanted_tokens (no_change_opening v), n, refl, refl, (ls ++ bytes ")" ∷ [], wanted_tokens formula_closing, refl, (ls, bytes ")" ∷ [], refl, y, refl), refl))))),
      )
  rule_of ts (G.IsRule.a_pair v cs ds g x y) =
      let c = wanted_tokens formula_closing in
      let t = wanted_tokens (falling_opening v) ++ (ds ++ c) in
      let b = wanted_tokens (turned_opening greater v) ++ (cs ++ t) in
      (v, bytes "+" ∷ b, simp append_assoc, g, pair b (wanted_tokens (turned_opening greater v), cs ++ t, refl, refl, (cs, t, refl, x, (wanted_tokens (falling_opening v), ds ++ c, refl, refl, (ds, c, refl, y, refl)))))

  module _ (sc : Scope) (w : List ℕ) (is_name : IsName w) (seen : Seen normally w) where
    function_sole : (v at : ℕ) → at ≤ length sc.text → Sole (Computes names w) Anything sc.text at (function_at sc w v at)
    unfolding function_at signs is_fixed is kind_number product_of sum_of
    function_sole v at h =
        then_sole {L = These (wanted_tokens (value_opening w))} {M = Joins (E names good D.expression) (These (wanted_tokens function_closing))} {N = Computes names w} {S = Anything} {S2 = Anything} h (λ zs j. j) (λ xs ys l z. tt) (phrase_sole sc.text (value_opening w) refl (is_name, tt) (seen, tt) at h)
        (λ u n1 i1 h1 e1. then_sole {L = E names good D.expression} {M = These (wanted_tokens function_closing)} {N = Joins (E names good D.expression) (These (wanted_tokens function_closing))} {S = AfterExpression names good} {S2 = Anything} h1 (λ zs j. j)
        (λ xs ys l z. subst (λ (x : Tokens). AfterExpression names good (x ++ ys)) (sym l) (ends_expression names good close_round (bytes ")") refl refl refl (bytes ")" ∷ bytes ";" ∷ ys))) (whole_expression_sole names good sc n1 h1)
        (λ e n2 i2 h2 e2. followed_by_sole sc.text function_closing refl tt tt _ n2 h2))

    change_sole : (v at : ℕ) → at ≤ length sc.text → Sole (Changes names w) Anything sc.text at (change_at sc w v at)
    unfolding change_at signs is_fixed is kind_number
    change_sole v at h =
        then_sole {L = These (wanted_tokens (change_opening w))} {M = Joins (AreCases names w) (ThenNoChange names w)} {N = Changes names w} {S = Anything} {S2 = Anything} h (λ zs j. j) (λ xs ys l z. tt) (phrase_sole sc.text (change_opening w) refl (is_name, (is_name, tt)) (seen, (seen, tt)) at h)
        (λ u n1 i1 h1 e1. then_sole {L = AreCases names w} {M = ThenNoChange names w} {N = Joins (AreCases names w) (ThenNoChange names w)} {S = NoSign Or} {S2 = Anything} h1 (λ zs j. j) then-ends (cases_sole sc w is_name seen case_limit [] n1 h1)
        (λ cases n2 i2 h2 e2. then_sole {L = These (wanted_tokens (no_change_opening w))} {M = NoChange names} {N = ThenNoChange names w} {S = Anything} {S2 = Anything} h2 (λ zs j. j) (λ xs ys l z. tt) (phrase_sole sc.text (no_change_opening w) refl (is_name, (is_name, (is_name, tt))) (seen, (seen, (seen, tt))) n2 h2)
        (λ u n3 i3 h3 e3. then_sole {L = InList names} {M = These (wanted_tokens formula_closing)} {N = NoChange names} {S = Anything} {S2 = Anything} h3 (λ zs j. j) (λ xs ys l z. tt) (agreeing_sole sc cases n3 h3)
        (λ ds n4 i4 h4 e4. followed_by_sole sc.text formula_closing refl tt tt _ n4 h4))))
      where
        then-ends : (xs ys : Tokens) → ThenNoChange names w xs → Anything ys → NoSign Or (xs ++ ys)
        then-ends xs ys (ts, us, q, l, m) z = subst (λ (x : Tokens). NoSign Or (x ++ ys)) (sym (q ∙ ap (λ (x : Tokens). x ++ us) l)) no_bar

    formula_sole : (v at : ℕ) → at ≤ length sc.text → Sole (FormulaRest w) Anything sc.text at (formula_at sc w v at)
    unfolding formula_at signs is_fixed is kind_number
    formula_sole v at h =
        then_sole {L = These (wanted_tokens rule_opening)} {M = Formulas w} {N = FormulaRest w} {S = Anything} {S2 = Anything} h (λ zs j. j) (λ xs ys l z. tt) (phrase_sole sc.text rule_opening refl tt tt at h)
        (λ u n i j q. token_sole sc.text n
        (λ k s m e. cond_sole (is k tilde)
        (λ t. behind (bytes "~") (fixed_stands normally sc.text tilde refl n k s m j e t) tilde_goes (change_sole v m (token_at_moved sc.text n k s m j e).2))
        (λ t. narrow j (λ us xs ys ah q l z. no_tilde n k s m j e t us xs ys (ah k s m e) q l) (function_sole v n j))))
      where
        tilde_goes : (us xs ys : Tokens) → bytes "~" ∷ us ≡ xs ++ ys → Formulas w xs → Anything ys → (zs : Tokens) × (xs ≡ bytes "~" ∷ zs) × Changes names w zs
        tilde_goes us xs ys q (changes vs x) z = (vs, refl, x)
        tilde_goes us xs ys q (computes vs (cs, bs, r, l, m)) z = absurd (not_sign tilde name (bytes "~") w refl (record { is_word = is_name.is_word; no_word = is_name.no_word }) (apart tilde name refl refl) (heads (q ∙ ap (λ (x : Tokens). x ++ ys) (r ∙ ap (λ (x : Tokens). x ++ bs) l))))

        no_tilde : (n : ℕ) (k : Kind) (s m : ℕ) → n ≤ length sc.text → token_at sc.text n ≡ token k s m → is k tilde ≡ false → (us xs ys : Tokens) → Ahead k (normal (part sc.text s m)) us → us ≡ xs ++ ys → Formulas w xs → Computes names w xs
        no_tilde n k s m j e t us xs ys ah q (computes vs x) = x
        no_tilde n k s m j e t us xs ys ah q (changes vs x) = absurd (first_ahead sc.text n k s m j e us (vs ++ ys) (bytes "~") ah q tilde refl (apart k tilde refl t))

    pair_sole : (v at : ℕ) → at ≤ length sc.text → Sole (Turns names w) Anything sc.text at (pair_at sc w v at)
    unfolding pair_at signs is_fixed is kind_number
    pair_sole v at h =
        then_sole {L = These (wanted_tokens (turned_opening greater w))} {M = Joins (AreCases names w) (ThenFalls names w)} {N = Turns names w} {S = Anything} {S2 = Anything} h (λ zs j. j) (λ xs ys l z. tt) (phrase_sole sc.text (turned_opening greater w) refl (is_name, (is_name, tt)) (seen, (seen, tt)) at h)
        (λ u n1 i1 h1 e1. then_sole {L = AreCases names w} {M = ThenFalls names w} {N = Joins (AreCases names w) (ThenFalls names w)} {S = NoSign Or} {S2 = Anything} h1 (λ zs j. j) then-ends (cases_sole sc w is_name seen case_limit [] n1 h1)
        (λ ups n2 i2 h2 e2. then_sole {L = These (wanted_tokens (falling_opening w))} {M = Falls names w} {N = ThenFalls names w} {S = Anything} {S2 = Anything} h2 (λ zs j. j) (λ xs ys l z. tt) (phrase_sole sc.text (falling_opening w) refl (is_name, (is_name, (is_name, tt))) (seen, (seen, (seen, tt))) n2 h2)
        (λ u n3 i3 h3 e3. then_sole {L = AreCases names w} {M = These (wanted_tokens formula_closing)} {N = Falls names w} {S = NoSign Or} {S2 = Anything} h3 (λ zs j. j) (λ xs ys l z. subst (λ (x : Tokens). NoSign Or (x ++ ys)) (sym l) no_bar) (cases_sole sc w is_name seen (case_limit - length ups) [] n3 h3)
        (λ downs n4 i4 h4 e4. followed_by_sole sc.text formula_closing refl tt tt _ n4 h4))))
      where
        then-ends : (xs ys : Tokens) → ThenFalls names w xs → Anything ys → NoSign Or (xs ++ ys)
        then-ends xs ys (ts, us, q, l, m) z = subst (λ (x : Tokens). NoSign Or (x ++ ys)) (sym (q ∙ ap (λ (x : Tokens). x ++ us) l)) no_bar

    pub formulas_sole : (v at : ℕ) → at ≤ length sc.text → Sole (RuleRest w) Anything sc.text at (formulas sc w v at)
    unfolding formulas signs is_fixed is kind_number
    formulas_sole v at h =
        token_sole sc.text at
        (λ k s n e. cond_sole (is k plus)
        (λ t. behind (bytes "+") (fixed_stands normally sc.text plus refl at k s n h e t) plus-goes (pair_sole v n (token_at_moved sc.text at k s n h e).2))
        (λ t. narrow h (λ us xs ys ah q l z. no_plus k s n e t us xs ys (ah k s n e) q l) (formula_sole v at h)))
      where
        plus-goes : (us xs ys : Tokens) → bytes "+" ∷ us ≡ xs ++ ys → RuleRest w xs → Anything ys → (zs : Tokens) × (xs ≡ bytes "+" ∷ zs) × Turns names w zs
        plus-goes us xs ys q (pair vs x) z = (vs, refl, x)
        plus-goes us xs ys q (formula vs (cs, bs, r, l, m)) z = absurd (not_sign plus colon (bytes "+") (bytes ":") refl refl (apart plus colon refl refl) (heads (q ∙ ap (λ (x : Tokens). x ++ ys) (r ∙ ap (λ (x : Tokens). x ++ bs) l))))

        no_plus : (k : Kind) (s n : ℕ) → token_at sc.text at ≡ token k s n → is k plus ≡ false → (us xs ys : Tokens) → Ahead k (normal (part sc.text s n)) us → us ≡ xs ++ ys → RuleRest w xs → FormulaRest w xs
        no_plus k s n e t us xs ys ah q (formula vs x) = x
        no_plus k s n e t us xs ys ah q (pair vs x) = absurd (first_ahead sc.text at k s n h e us (vs ++ ys) (bytes "+") ah q plus refl (apart k plus refl t))
