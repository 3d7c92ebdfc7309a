-- What stands before a token refused by 2 begins a rule. Assumes nothing.
use mathlib.Core.Path.{◌≡◌, refl, ap, sym, subst}
use mathlib.Core.List.{List, [], ◌∷◌, ◌++◌, append_assoc, append-nil}
use mathlib.Core.Bool.{true}
use Prim.Native.Nat.{ℕ, zero, suc, ◌+◌, ◌-◌, ◌≤◌}
use native.Mathlib.Omega.{arith}
use lib.ListN.{length}
use lib.Dec.{ltb, leb, eqb}
use Rattle.limits.specs.Limits.{case_limit}
use Rattle.lexer.specs.Bytes.{bytes, part}
use Rattle.lexer.specs.Token.{Kind, kind_number, name, open_square, close_round, close_square, bar, tilde, greater, plus, is, token}
use Rattle.lexer.specs.Lexer.{token_at}
use Rattle.lexer.proofs.Laws.{token_at_moved}
use Rattle.semantics.specs.Program.{Condition, Timer, taken}
use Rattle.lexer.specs.Spelling.{SpellsName}
use Rattle.grammar.specs.Parsed.{Parsed, accepted, refused, sign}
use Rattle.grammar.specs.Expressions.{Scope}
use Rattle.grammar.specs.Conditions.{listed}
use Rattle.grammar.specs.Forms.{change_opening, no_change_opening, rule_opening, value_opening, function_closing, formula_closing, case_value_opening, turned_opening, falling_opening}
use Rattle.grammar.specs.Rules.{Spanned, case_at, cases_from, list_from, plain_list, Compared, agrees, differs, parts_from, first_found, agreeing_list, function_at, change_at, pair_at, formula_at, formulas, rule_at}
use Rattle.grammar.specs.Derivation as D
use Rattle.grammar.specs.Derivation.{Tokens, normal, normals}
use Rattle.grammar.specs.Spelled.{squared, cased}
use Rattle.lexer.proofs.Spellings.{is_fixed}
use Rattle.grammar.proofs.Phrases.{fixed_stands, wanted_tokens, signs}
use Rattle.grammar.proofs.Derived.{sign_stands}
use Rattle.grammar.proofs.Standing.{Seen, seen_capitals, written, normally}
use Rattle.grammar.proofs.Normal.{name-seen, normal_twice}
use Rattle.grammar.proofs.SameRule.{formulas_same}
use Rattle.faults.specs.Grammar as G
use Rattle.faults.specs.Grammar.{IsExpression, IsCondition, AreCases, AreConditions, IsRule}
use Rattle.faults.proofs.Languages.{These, InRound, InSquare, CaseRest, InList, NoChange, ThenNoChange, Changes, Computes, Falls, ThenFalls, Turns}
use Rattle.faults.proofs.Viable.{Viable, by_other, refused_here, wider, behind, then_viable, cond_viable, token_viable}
use Rattle.faults.proofs.ViableParts.{zeros, equal_zeros, zero_in_expression, zero_in_condition, id_viable, whole_expression_viable, whole_condition_viable}
use Rattle.faults.proofs.ViableDeclarations.{cat_viable, nothing_more, phrase_viable, followed_by_lem}

module _ (sc : Scope) where
  abbrev E : Tokens → Type 0
  E = IsExpression (normals sc.names) D.expression

  abbrev K : Tokens → Type 0
  K = IsCondition (normals sc.names) D.condition

  pub listed_viable : (at : ℕ) → at ≤ length sc.text → Viable (InSquare (normals sc.names)) sc.text at (listed sc at)
  unfolding listed signs is_fixed kind_number
  listed_viable at h = cat_viable h (bytes "]" ∷ []) refl (whole_condition_viable sc at h) (λ c m i. followed_by_lem sc.text (sign close_square ∷ []) refl tt c m i)

  module _ (w : List ℕ) (seen : Seen normally w) where
    some_value : InRound (normals sc.names) (zeros (normals sc.names) ++ bytes ")" ∷ [])
    some_value = (zeros (normals sc.names), bytes ")" ∷ [], refl, zero_in_expression (normals sc.names), refl)

    case_viable : (at n : ℕ) → n ≤ length sc.text → Viable (CaseRest (normals sc.names) w) sc.text n (case_at sc w at n)
    unfolding case_at signs is_fixed kind_number
    case_viable at n h =
        cat_viable h _ (wanted_tokens (case_value_opening w), zeros (normals sc.names) ++ bytes ")" ∷ [], refl, refl, some_value) (listed_viable n h)
        (λ c n1 h1. cat_viable h1 _ some_value (phrase_viable sc.text (case_value_opening w) refl (seen, tt) n1 h1)
        (λ u n2 h2. cat_viable h2 (bytes ")" ∷ []) refl (whole_expression_viable sc n2 h2) (λ e n3 h3. followed_by_lem sc.text (sign close_round ∷ []) refl tt _ n3 h3)))

    -- what follows a case
    abbrev MoreCases : Tokens → Type 0
    MoreCases us = (ts es : Tokens) → K ts → E es → AreCases (normals sc.names) w (cased w ts es ++ us)

    no_case : MoreCases []
    no_case ts es x y = rw (append-nil (cased w ts es)) (G.AreCases.one ts es x y)

    case_in : (vs us : Tokens) → (CaseRest (normals sc.names) w) vs → MoreCases us → AreCases (normals sc.names) w (bytes "[" ∷ vs ++ us)
    case_in vs us (ps, bs, q, (ts, cs, q1, x, q2), (ds, es, q3, q4, (fs, gs, q5, y, q6))) m =
        rw (q, q1, q2, q3, q4, q5, q6)
        (subst (AreCases (normals sc.names) w) (ap (λ (l : Tokens). bytes "[" ∷ (l ++ us)) (append_assoc (ts ++ bytes "]" ∷ []) (bytes "&" ∷ w ∷ bytes "=" ∷ bytes "(" ∷ fs) (bytes ")" ∷ []))) (m ts fs x y))

    some_cases : AreCases (normals sc.names) w (cased w (equal_zeros (normals sc.names)) (zeros (normals sc.names)))
    some_cases = G.AreCases.one (equal_zeros (normals sc.names)) (zeros (normals sc.names)) (zero_in_condition (normals sc.names)) (zero_in_expression (normals sc.names))

    cases_viable : (left : ℕ) (done : List Spanned) (at : ℕ) → at ≤ length sc.text → Viable (AreCases (normals sc.names) w) sc.text at (cases_from left sc w done at)
    unfolding cases_from is_fixed kind_number
    cases_viable zero done at h = token_viable sc.text at (λ k s n e. cond_viable (is k open_square) (λ t. by_other 8 (λ q. omega (arith, q))) (λ t. refused_here _ some_cases e))
    cases_viable (suc left) done at h =
        token_viable sc.text at
        (λ k s n e. cond_viable (is k open_square)
        (λ t.
        let i = (token_at_moved sc.text at k s n h e).2 in
        behind {M = λ us. AreCases (normals sc.names) w (bytes "[" ∷ us)} (bytes "[" ∷ []) (n, fixed_stands normally sc.text open_square refl at k s n h e t, refl) (λ us g. g)
        (then_viable {L = (CaseRest (normals sc.names) w)} {M = MoreCases} i case_in [] no_case (case_viable at n i)
        (λ c n1 h1. token_viable sc.text n1
        (λ k2 s2 n2 e2. cond_viable (is k2 bar)
        (λ t2. behind (bytes "|" ∷ []) (n2, fixed_stands normally sc.text bar refl n1 k2 s2 n2 h1 e2 t2, refl) (λ us g ts es x y. G.AreCases.more ts es us x y g) (cases_viable left (done ++ (c ∷ [])) n2 (token_at_moved sc.text n1 k2 s2 n2 h1 e2).2))
        (λ t2. nothing_more _ no_case)))))
        (λ t. refused_here _ some_cases e))

  -- what follows a condition of a list
  abbrev MoreConditions : Tokens → Type 0
  MoreConditions us = (ts : Tokens) → K ts → AreConditions (normals sc.names) (squared ts ++ us)

  no_condition : MoreConditions []
  no_condition ts x = rw (append-nil (squared ts)) (G.AreConditions.one ts x)

  condition_in_lem : (vs us : Tokens) → (InSquare (normals sc.names)) vs → MoreConditions us → AreConditions (normals sc.names) (bytes "[" ∷ vs ++ us)
  condition_in_lem vs us (ts, cs, q1, x, q2) m = rw (q1, q2) (m ts x)

  some_conditions : AreConditions (normals sc.names) (squared (equal_zeros (normals sc.names)))
  some_conditions = G.AreConditions.one (equal_zeros (normals sc.names)) (zero_in_condition (normals sc.names))

  list_viable : (left : ℕ) (done : List Condition) (at : ℕ) → at ≤ length sc.text → Viable (AreConditions (normals sc.names)) sc.text at (list_from left sc done at)
  unfolding list_from is_fixed kind_number
  list_viable zero done at h = token_viable sc.text at (λ k s n e. cond_viable (is k open_square) (λ t. by_other 8 (λ q. omega (arith, q))) (λ t. refused_here _ some_conditions e))
  list_viable (suc left) done at h =
      token_viable sc.text at
      (λ k s n e. cond_viable (is k open_square)
      (λ t.
      let i = (token_at_moved sc.text at k s n h e).2 in
      behind {M = λ us. AreConditions (normals sc.names) (bytes "[" ∷ us)} (bytes "[" ∷ []) (n, fixed_stands normally sc.text open_square refl at k s n h e t, refl) (λ us g. g)
      (then_viable {L = (InSquare (normals sc.names))} {M = MoreConditions} i condition_in_lem [] no_condition (listed_viable n i)
      (λ c n1 h1. token_viable sc.text n1
      (λ k2 s2 n2 e2. cond_viable (is k2 bar)
      (λ t2. behind (bytes "|" ∷ []) (n2, fixed_stands normally sc.text bar refl n1 k2 s2 n2 h1 e2 t2, refl) (λ us g ts x. G.AreConditions.more ts us x g) (list_viable left (done ++ (c ∷ [])) n2 (token_at_moved sc.text n1 k2 s2 n2 h1 e2).2))
      (λ t2. nothing_more _ no_condition)))))
      (λ t. refused_here _ some_conditions e))

  plain_viable : (at : ℕ) → at ≤ length sc.text → Viable (InList (normals sc.names)) sc.text at (plain_list sc at)
  unfolding plain_list signs is_fixed kind_number
  plain_viable at h = cat_viable h (bytes ")" ∷ []) refl (list_viable case_limit [] at h) (λ cs n i. followed_by_lem sc.text (sign close_round ∷ []) refl tt cs n i)

  first_viable : {L : Tokens → Type 0} (at : ℕ) (r : Parsed (List Condition)) (d : Compared) → Viable L sc.text at r → Viable L sc.text at (first_found r d)
  unfolding first_found
  first_viable at r (agrees n) x = x
  first_viable at (accepted a n) (differs m) x = by_other 7 (λ q. omega (arith, q))
  first_viable at (refused k q) (differs m) x =
      cond_viable (ltb q m) (λ t. x) (λ t. cond_viable (eqb q m) (λ u. cond_viable (leb k 5) (λ v. x) (λ v. by_other 7 (λ q. omega (arith, q)))) (λ u. by_other 7 (λ q. omega (arith, q))))

  agreeing_viable : (cases : List Spanned) (at : ℕ) → at ≤ length sc.text → Viable (InList (normals sc.names)) sc.text at (agreeing_list sc cases at)
  unfolding agreeing_list
  agreeing_viable cases at h = first_viable at (plain_list sc at) (parts_from sc.text cases at) (plain_viable at h)

  module _ (w : List ℕ) (is_name : SpellsName w) (seen : Seen normally w) where
    function_viable : (v at : ℕ) → at ≤ length sc.text → Viable (Computes (normals sc.names) w) sc.text at (function_at sc w v at)
    unfolding function_at signs is_fixed kind_number
    function_viable v at h =
        cat_viable h _ (zeros (normals sc.names), wanted_tokens function_closing, refl, zero_in_expression (normals sc.names), refl) (phrase_viable sc.text (value_opening w) refl (seen, tt) at h)
        (λ u n1 h1. cat_viable h1 (wanted_tokens function_closing) refl (whole_expression_viable sc n1 h1) (λ e n2 h2. followed_by_lem sc.text function_closing refl tt _ n2 h2))

    some_no_change : (NoChange (normals sc.names)) ((squared (equal_zeros (normals sc.names)) ++ bytes ")" ∷ []) ++ wanted_tokens formula_closing)
    some_no_change = (squared (equal_zeros (normals sc.names)) ++ bytes ")" ∷ [], wanted_tokens formula_closing, refl, (squared (equal_zeros (normals sc.names)), bytes ")" ∷ [], refl, some_conditions, refl), refl)

    some_then : (ThenNoChange (normals sc.names) w) (wanted_tokens (no_change_opening w) ++ (squared (equal_zeros (normals sc.names)) ++ bytes ")" ∷ []) ++ wanted_tokens formula_closing)
    some_then = (wanted_tokens (no_change_opening w), (squared (equal_zeros (normals sc.names)) ++ bytes ")" ∷ []) ++ wanted_tokens formula_closing, refl, refl, some_no_change)

    change_viable : (v at : ℕ) → at ≤ length sc.text → Viable (Changes (normals sc.names) w) sc.text at (change_at sc w v at)
    unfolding change_at signs is_fixed kind_number
    change_viable v at h =
        cat_viable h _ (cased w (equal_zeros (normals sc.names)) (zeros (normals sc.names)), _, refl, some_cases w seen, some_then) (phrase_viable sc.text (change_opening w) refl (seen, (seen, tt)) at h)
        (λ u n1 h1. cat_viable h1 _ some_then (cases_viable w seen case_limit [] n1 h1)
        (λ cases n2 h2. cat_viable h2 _ some_no_change (phrase_viable sc.text (no_change_opening w) refl (seen, (seen, (seen, tt))) n2 h2)
        (λ u n3 h3. cat_viable h3 (wanted_tokens formula_closing) refl (agreeing_viable cases n3 h3) (λ ds n4 h4. followed_by_lem sc.text formula_closing refl tt _ n4 h4))))

    -- what follows `w: GX(`
    abbrev Body : Tokens → Type 0
    Body us = IsRule (normals sc.names) (w ∷ wanted_tokens rule_opening ++ us)

    function_in : (us : Tokens) → (Computes (normals sc.names) w) us → Body us
    function_in us (a, b, q1, q2, (ts, c, q3, x, q4)) = rw (q1, q2, q3, q4) (G.IsRule.a_function w ts is_name x)

    change_in : (us : Tokens) → (Changes (normals sc.names) w) us → Body (bytes "~" ∷ us)
    change_in us (a, b, q1, q2, (cs, c, q3, x, (d, e, q4, q5, (f, g, q6, (ls, i, q7, y, q8), q9)))) =
        subst (IsRule (normals sc.names)) (rw (q1, q2, q3, q4, q5, q6, q7, q8, q9) (simp append_assoc)) (G.IsRule.a_change w cs ls is_name x y)

    formula_viable : (v at : ℕ) → at ≤ length sc.text → Viable (λ us. IsRule (normals sc.names) (w ∷ us)) sc.text at (formula_at sc w v at)
    unfolding formula_at signs is_fixed kind_number
    formula_viable v at h =
        then_viable {L = These (wanted_tokens rule_opening)} {M = Body} h (λ ts us q x. rw q x)
        (wanted_tokens (value_opening w) ++ zeros (normals sc.names) ++ wanted_tokens function_closing)
        (function_in _ (wanted_tokens (value_opening w), _, refl, refl, (zeros (normals sc.names), _, refl, zero_in_expression (normals sc.names), refl)))
        (phrase_viable sc.text rule_opening refl tt at h)
        (λ u n i. token_viable sc.text n
        (λ k s m e. cond_viable (is k tilde)
        (λ t. behind (bytes "~" ∷ []) (m, fixed_stands normally sc.text tilde refl n k s m i e t, refl) change_in (change_viable v m (token_at_moved sc.text n k s m i e).2))
        (λ t. wider function_in (function_viable v n i))))

    some_falls : (Falls (normals sc.names) w) (cased w (equal_zeros (normals sc.names)) (zeros (normals sc.names)) ++ wanted_tokens formula_closing)
    some_falls = (cased w (equal_zeros (normals sc.names)) (zeros (normals sc.names)), wanted_tokens formula_closing, refl, some_cases w seen, refl)

    some_then_falls : (ThenFalls (normals sc.names) w) (wanted_tokens (falling_opening w) ++ (cased w (equal_zeros (normals sc.names)) (zeros (normals sc.names)) ++ wanted_tokens formula_closing))
    some_then_falls = (wanted_tokens (falling_opening w), cased w (equal_zeros (normals sc.names)) (zeros (normals sc.names)) ++ wanted_tokens formula_closing, refl, refl, some_falls)

    pair_viable : (v at : ℕ) → at ≤ length sc.text → Viable (Turns (normals sc.names) w) sc.text at (pair_at sc w v at)
    unfolding pair_at signs is_fixed kind_number
    pair_viable v at h =
        cat_viable h _ (cased w (equal_zeros (normals sc.names)) (zeros (normals sc.names)), _, refl, some_cases w seen, some_then_falls) (phrase_viable sc.text (turned_opening greater w) refl (seen, (seen, tt)) at h)
        (λ u n1 h1. cat_viable h1 _ some_then_falls (cases_viable w seen case_limit [] n1 h1)
        (λ ups n2 h2. cat_viable h2 _ some_falls (phrase_viable sc.text (falling_opening w) refl (seen, (seen, (seen, tt))) n2 h2)
        (λ u n3 h3. cat_viable h3 (wanted_tokens formula_closing) refl (cases_viable w seen (case_limit - length ups) [] n3 h3) (λ downs n4 h4. followed_by_lem sc.text formula_closing refl tt _ n4 h4))))

    pair_in : (us : Tokens) → (Turns (normals sc.names) w) us → IsRule (normals sc.names) (w ∷ bytes "+" ∷ us)
    pair_in us (a, b, q1, q2, (cs, c, q3, x, (d, e, q4, q5, (ds, f, q6, y, q7)))) =
        subst (IsRule (normals sc.names)) (rw (q1, q2, q3, q4, q5, q6, q7) (simp append_assoc)) (G.IsRule.a_pair w cs ds is_name x y)

    formulas_viable : (v at : ℕ) → at ≤ length sc.text → Viable (λ us. IsRule (normals sc.names) (w ∷ us)) sc.text at (formulas sc w v at)
    unfolding formulas signs is_fixed kind_number
    formulas_viable v at h =
        token_viable sc.text at
        (λ k s n e. cond_viable (is k plus)
        (λ t. behind (bytes "+" ∷ []) (n, fixed_stands normally sc.text plus refl at k s n h e t, refl) pair_in (pair_viable v n (token_at_moved sc.text at k s n h e).2))
        (λ t. formula_viable v at h))

  pub rule_viable : (xs : List Timer) (at : ℕ) (k : Kind) (s n : ℕ) → at ≤ length sc.text → token_at sc.text at ≡ token k s n → is k name ≡ true → Viable (IsRule (normals sc.names)) sc.text at (rule_at xs sc s n)
  unfolding rule_at is kind_number
  rule_viable xs at k s n h e t =
      let u = part sc.text s n in
      let nm = (sign_stands written sc.text name refl at k s n h e t).1 in
      let r = sign_stands normally sc.text name refl at k s n h e t in
      let seen = subst (Seen normally) (sym (name-seen u nm)) (seen_capitals u) in
      id_viable sc at s s n _ nm
      (λ v ev. cond_viable (taken xs sc.known v) (λ x. by_other 6 (λ q. omega (arith, q)))
      (λ x. behind (normal u ∷ []) (n, r.0, refl) (λ us g. g) (rw (formulas_same sc u (normal u) (sym (normal_twice u nm)) v n) (formulas_viable (normal u) r.1 seen v n (token_at_moved sc.text at k s n h e).2))))
