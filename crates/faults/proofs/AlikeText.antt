-- Declarations, timers, rules and whole texts that are the same up to what the one is refused for. Assumes nothing.
use mathlib.Core.Path.{◌≡◌, sym, ◌∙◌, subst}
use mathlib.Core.List.{List, [], ◌∷◌, ◌++◌, append-nil}
use mathlib.Core.Bool.{Bool, true, cond, ◌&&◌}
use mathlib.Core.Logic.{inl}
use Prim.Native.Nat.{ℕ, zero, suc, ◌-◌, ◌≤◌, ◌<◌}
use native.Mathlib.Nat.{le_refl}
use native.Mathlib.Omega.{arith}
use lib.ListN.{length, set, length-set}
use lib.Dec.{ltb, leb}
use lib.IntN.{ℤ, pos, neg_ℤ}
use Rattle.limits.specs.Limits.{case_limit, name_limit, time_limit, watch_limit}
use Rattle.arith.specs.Values.{is_int32}
use Rattle.lexer.specs.Token.{Kind, name, ending, digits, open_square, bar, tilde, plus, minus, arrow, init_word, semicolon, input_word, var_word, timer_word, watch_word, is}
use Rattle.lexer.specs.Lexer.{token_at, over_long, value_of}
use Rattle.lexer.specs.Names.{id_of}
use Rattle.lexer.proofs.Laws.{cond_prop, token_at_moved}
use Rattle.semantics.specs.Program.{Name, Condition, Timer, Rule, Watch, target, all_true, taken, timers_known, known_first, free}
use Rattle.semantics.proofs.Cells.{known_length}
use Rattle.grammar.specs.Parsed.{Parsed, accepted, refused, on_option, phrase, followed}
use Rattle.grammar.specs.Expressions.{with_id, whole_expression}
use Rattle.grammar.specs.Conditions.{listed}
use Rattle.grammar.specs.Declarations.{in_range, signed_digits, bound_at, spellings, new_name, start_at, declaration, declarations_from, declarations}
use Rattle.grammar.specs.Timers.{WithTimers, is_watchable, watched_at, limit_at, timer_declaration, timers_from}
use Rattle.grammar.specs.Rules.{Spanned, case_at, cases_from, list_from, plain_list, parts_from, agreeing_list, function_at, change_at, pair_at, formula_at, formulas, rule_at, rules_from}
use Rattle.grammar.specs.Forms.{change_opening, no_change_opening, rule_opening}
use Rattle.grammar.specs.Inner.Names.{Named}
use Rattle.grammar.proofs.Combine.{token_prop, then_prop}
use Rattle.grammar.specs.Watches.{later_at, after_first, watch_at, watches_from}
use Rattle.grammar.specs.Parse.{end_at, program}
use Rattle.grammar.proofs.Lists.{CasesIn, cases_in}
use Rattle.grammar.proofs.Whole.{Ends, Names, First, rule_fits, declarations_fit, timers_named, spellings_length, named}
use Rattle.grammar.proofs.ConverseRules.{unruled, rule_leaves, few_unruled}
use Rattle.semantics.proofs.Reference.{length_known}
use Rattle.faults.proofs.Reaching.{reaches_le, token_after}
use Rattle.faults.proofs.Readings.{read_within, phrase_reads, whole_expression_reads}
use Rattle.faults.proofs.Closing.{plain_meets}
use Rattle.faults.proofs.ReadingsText.{case_reads, agreeing_reads}
use Rattle.faults.proofs.AlikeLists.{Before, parts_agree, first_same}
use Rattle.faults.proofs.Alike.{Setting, Alike, Any, TokenIn, read_after, b_within, plain, only, late, done_alike, past_alike, here_alike, above_alike, not_allowed_lem, step_alike, step_in, cond_alike, option_alike, then_alike, then_known, word_alike, word_in, token_alike, token_in}
use Rattle.faults.proofs.AlikeParts.{scope, phrase_alike, followed_alike, whole_expression_alike, listed_alike}

-- ---- declarations

module _ (S : Setting) where
  signed_alike : (test : ℤ → Bool) (signed : ℤ → ℤ) (at : ℕ) (k : Kind) (s n : ℕ) → Alike S (TokenIn at k s n) at (λ t. signed_digits test signed t k s n)
  unfolding signed_digits
  signed_alike test signed at k s n =
      cond_alike (is k digits)
      (word_alike {G = λ w t. cond (is_int32 (signed (pos (value_of w))) && test (signed (pos (value_of w)))) (accepted (signed (pos (value_of w))) n) (refused 3 s)} s
      (λ w. cond_alike (is_int32 (signed (pos (value_of w))) && test (signed (pos (value_of w)))) (past_alike _) (here_alike 3 (omega arith) (omega arith))))
      not_allowed_lem

  bound_alike : (test : ℤ → Bool) (at : ℕ) → Alike S Any at (λ t. bound_at test t at)
  unfolding bound_at
  bound_alike test at = token_alike at (λ k s n. cond_alike (is k minus) (step_alike (token_alike n (λ k2 s2 n2. signed_alike test neg_ℤ n k2 s2 n2))) (signed_alike test (λ z. z) at k s n))

  name_alike : (names : List Name) (at : ℕ) → Alike S Any at (λ t. new_name t names at)
  unfolding new_name
  name_alike names at =
      token_alike at
      (λ k s n.
      cond_alike (is k name)
      (word_alike {G = λ w t. on_option (id_of (spellings names) w) (cond (over_long s n) (refused 8 s) (cond (ltb (length names) name_limit) (accepted w n) (refused 8 s))) (λ i. refused 4 s)} s
      (λ w. option_alike (id_of (spellings names) w)
      (cond_alike (over_long s n) (here_alike 8 (omega arith) (omega arith)) (cond_alike (ltb (length names) name_limit) (past_alike _) (here_alike 8 (omega arith) (omega arith))))
      (λ i. here_alike 4 (omega arith) (omega arith))))
      not_allowed_lem)

  start_alike : (low high : ℤ) (at : ℕ) → Alike S Any at (λ t. start_at t low high at)
  unfolding start_at
  start_alike low high at =
      token_alike at
      (λ k s n.
      cond_alike (is k init_word) (step_alike (then_alike (bound_alike (in_range low high) n) (λ z m. followed_alike S _ z m)))
      (cond_alike (is k semicolon) (cond_alike (in_range low high (pos 0)) (past_alike _) (here_alike 3 (omega arith) (omega arith))) not_allowed_lem))

  declaration_alike : (names : List Name) (at : ℕ) → Alike S Any at (λ t. declaration t names at)
  unfolding declaration
  declaration_alike names at =
      then_alike (name_alike names at)
      (λ w n1. then_alike (bound_alike _ n1)
      (λ low n2. then_alike (phrase_alike S _ n2)
      (λ u n3. then_alike (bound_alike _ n3)
      (λ high n4. then_alike (start_alike low high n4) (λ start n5. done_alike _)))))

  declarations_alike : (f : ℕ) (word : Kind) (names : List Name) (at : ℕ) → Alike S Any at (λ t. declarations_from f word t names at)
  unfolding declarations_from
  declarations_alike zero word names at = done_alike names
  declarations_alike (suc f) word names at =
      token_alike at (λ k s n. cond_alike (is k word) (step_alike (then_alike (declaration_alike names n) (λ x m. declarations_alike f word (names ++ (x ∷ [])) m))) (done_alike names))

  -- ---- timers

  watched_alike : (inputs first : ℕ) (names : List Name) (at : ℕ) → Alike S Any at (λ t. watched_at t inputs first names at)
  unfolding watched_at with_id
  watched_alike inputs first names at =
      token_alike at
      (λ k s n.
      cond_alike (is k name)
      (cond_alike (over_long s n) (here_alike 8 (omega arith) (omega arith))
      (word_alike {G = λ w t. on_option (id_of (spellings names) w) (refused 4 s) (λ i. cond (is_watchable inputs first names i) (accepted i n) (refused 23 s))} s
      (λ w. option_alike (id_of (spellings names) w) (here_alike 4 (omega arith) (omega arith)) (λ i. cond_alike (is_watchable inputs first names i) (past_alike _) (above_alike 23 (omega arith))))))
      not_allowed_lem)

  limit_alike : (at : ℕ) → Alike S Any at (λ t. limit_at t at)
  unfolding limit_at
  limit_alike at =
      token_alike at
      (λ k s n.
      cond_alike (is k digits)
      (word_alike {G = λ w t. cond (leb 1 (value_of w) && leb (value_of w) time_limit) (accepted (value_of w) n) (refused 3 s)} s
      (λ w. cond_alike (leb 1 (value_of w) && leb (value_of w) time_limit) (past_alike _) (here_alike 3 (omega arith) (omega arith))))
      not_allowed_lem)

  timer_alike : (inputs first : ℕ) (x : WithTimers) (at : ℕ) → Alike S Any at (λ t. timer_declaration t inputs first x at)
  unfolding timer_declaration
  timer_alike inputs first x at =
      then_alike (name_alike x.names at)
      (λ t n1. then_alike (phrase_alike S _ n1)
      (λ u n2. then_alike (watched_alike inputs first _ n2)
      (λ w n3. then_alike (phrase_alike S _ n3)
      (λ u n4. then_alike (limit_alike n4) (λ n n5. followed_alike S _ _ n5)))))

  timers_alike : (f inputs first : ℕ) (x : WithTimers) (at : ℕ) → Alike S Any at (λ t. timers_from f t inputs first x at)
  unfolding timers_from
  timers_alike zero inputs first x at = done_alike x
  timers_alike (suc f) inputs first x at =
      token_alike at (λ k s n. cond_alike (is k timer_word) (step_alike (then_alike (timer_alike inputs first x n) (λ y m. timers_alike f inputs first y m))) (done_alike x))

-- ---- rules, up to the comparison

module _ (S : Setting) (names : List (List ℕ)) (known : List Bool) where
  case_alike : (w : List ℕ) (at n : ℕ) (k : Kind) (s : ℕ) → Alike S (TokenIn at k s n) at (λ t. case_at (scope names known t) w at n)
  unfolding case_at
  case_alike w at n k s =
      step_alike
      (then_alike (listed_alike S names known n)
      (λ c n1. then_alike (phrase_alike S _ n1)
      (λ u n2. then_alike (whole_expression_alike S names known n2) (λ x n3. followed_alike S _ _ n3))))

  cases_alike : (left : ℕ) (w : List ℕ) (done : List Spanned) (at : ℕ) → Alike S Any at (λ t. cases_from left (scope names known t) w done at)
  unfolding cases_from
  cases_alike zero w done at = token_alike at (λ k s n. cond_alike (is k open_square) (here_alike 8 (omega arith) (omega arith)) not_allowed_lem)
  cases_alike (suc left) w done at =
      token_alike at
      (λ k s n.
      cond_alike (is k open_square)
      (then_alike (case_alike w at n k s) (λ c n1. token_alike n1 (λ k2 s2 n2. cond_alike (is k2 bar) (step_alike (cases_alike left w (done ++ (c ∷ [])) n2)) (done_alike _))))
      not_allowed_lem)

  list_alike : (left : ℕ) (done : List Condition) (at : ℕ) → Alike S Any at (λ t. list_from left (scope names known t) done at)
  unfolding list_from
  list_alike zero done at = token_alike at (λ k s n. cond_alike (is k open_square) (here_alike 8 (omega arith) (omega arith)) not_allowed_lem)
  list_alike (suc left) done at =
      token_alike at
      (λ k s n.
      cond_alike (is k open_square)
      (step_alike (then_alike (listed_alike S names known n) (λ c n1. token_alike n1 (λ k2 s2 n2. cond_alike (is k2 bar) (step_alike (list_alike left (done ++ (c ∷ [])) n2)) (done_alike _)))))
      not_allowed_lem)

  plain_alike : (at : ℕ) → Alike S Any at (λ t. plain_list (scope names known t) at)
  unfolding plain_list
  plain_alike at = then_alike (list_alike case_limit [] at) (λ cs n. followed_alike S _ cs n)

  function_alike : (w : List ℕ) (v at : ℕ) → Alike S Any at (λ t. function_at (scope names known t) w v at)
  unfolding function_at
  function_alike w v at = then_alike (phrase_alike S _ at) (λ u n1. then_alike (whole_expression_alike S names known n1) (λ e n2. followed_alike S _ _ n2))

  pair_alike : (w : List ℕ) (v at : ℕ) → Alike S Any at (λ t. pair_at (scope names known t) w v at)
  unfolding pair_at
  pair_alike w v at =
      then_alike (phrase_alike S _ at)
      (λ u n1. then_alike (cases_alike case_limit w [] n1)
      (λ ups n2. then_alike (phrase_alike S _ n2)
      (λ u n3. then_alike (cases_alike (case_limit - length ups) w [] n3) (λ downs n4. followed_alike S _ _ n4))))

  -- ---- the comparison

  -- the condition of a case ends before the case does
  abbrev Spans : Parsed Spanned → Type 0
  Spans (accepted c n) = c.span.to ≤ n
  Spans (refused k q) = Unit {0}

  case_spans : (t : List ℕ) (w : List ℕ) (at n : ℕ) → Spans (case_at (scope names known t) w at n)
  unfolding case_at followed
  case_spans t w at n =
      let sc = scope names known t in
      then_prop Spans (listed sc n) _ (λ k q. tt)
      (λ c n1 q1. then_prop Spans (phrase t _ n1) _ (λ k q. tt)
      (λ u n2 q2. then_prop Spans (whole_expression sc n2) _ (λ k q. tt)
      (λ e n3 q3. then_prop Spans (phrase t _ n3) _ (λ k q. tt)
      (λ u n4 q4.
      let i1 = read_after (phrase_reads t _ n1) q2 in
      let i2 = read_after (whole_expression_reads sc n2) q3 in
      let i3 = read_after (phrase_reads t _ n3) q4 in
      omega arith))))

  abbrev Ended : Parsed (List Spanned) → Type 0
  Ended (accepted cs n) = Before n cs
  Ended (refused k q) = Unit {0}

  before_later : (n m : ℕ) (cs : List Spanned) → n ≤ m → Before n cs → Before m cs
  before_later n m [] h g = tt
  before_later n m (c ∷ cs) h g = (omega (arith, g.0), before_later n m cs h g.1)

  before_snoc : (n : ℕ) (cs : List Spanned) (c : Spanned) → Before n cs → c.span.to ≤ n → Before n (cs ++ (c ∷ []))
  before_snoc n [] c g h = (h, tt)
  before_snoc n (d ∷ cs) c g h = (g.0, before_snoc n cs c g.1 h)

  cases_ended : (t : List ℕ) (left : ℕ) (w : List ℕ) (done : List Spanned) (at : ℕ) → Before at done → Ended (cases_from left (scope names known t) w done at)
  unfolding cases_from
  cases_ended t zero w done at h = token_prop Ended (token_at t at) _ (λ k q. tt) (λ k s n e. cond_prop Ended (is k open_square) _ _ (λ x. tt) (λ x. tt))
  cases_ended t (suc left) w done at h =
      token_prop Ended (token_at t at) _ (λ k q. tt)
      (λ k s n e. cond_prop Ended (is k open_square) _ _
      (λ x. then_prop Ended (case_at (scope names known t) w at n) _ (λ k q. tt)
      (λ c n1 q1.
      let i = read_after (case_reads (scope names known t) w at n k s e) q1 in
      let j = rw q1 at (case_spans t w at n) in
      let b = before_snoc n1 done c (before_later at n1 done i h) j in
      token_prop Ended (token_at t n1) _ (λ k q. tt)
      (λ k2 s2 n2 e2. cond_prop Ended (is k2 bar) _ _
      (λ y. cases_ended t left w (done ++ (c ∷ [])) n2 (before_later n1 n2 (done ++ (c ∷ [])) (omega (arith, (token_after t n1 k2 s2 n2 e2).0, (token_after t n1 k2 s2 n2 e2).1)) b))
      (λ y. b))))
      (λ x. tt))

  module _ (few : length names ≤ 64) (lengths : length names ≡ length known) (good : Named names) where
    -- the cases were read, before the list
    record Ready (w : List ℕ) (from to : ℕ) (cases : List Spanned) (at : ℕ) (t : List ℕ) : Type 0 where
      cases_are : CasesIn (scope names known t) few lengths w from to cases
      spans : Before at cases
      within : at ≤ length t

    agreeing_alike : (w : List ℕ) (from to : ℕ) (cases : List Spanned) (at : ℕ) → Alike S (Ready w from to cases at) at (λ t. agreeing_list (scope names known t) cases at)
    unfolding agreeing_list
    agreeing_alike w from to cases at =
        record {
          reads = λ t r. agreeing_reads (scope names known t) few lengths good w from to cases r.cases_are at r.within;
          alike = λ r r' c. first_same S at (plain_list (scope names known S.text) at) (plain_list (scope names known S.twin) at) (parts_from S.text cases at) (parts_from S.twin cases at)
              ((plain_alike at).alike tt tt c)
              (parts_agree S cases r.cases_are.list r.cases_are.lists (before_later at S.place cases (omega (arith, reaches_le S.text c, b_within S)) r.spans) at (inl c))
              (λ ds n e. plain_meets (scope names known S.text) few good lengths w from to cases r.cases_are at n ds r.within e);
        }

    abbrev In : ℕ → List ℕ → Type 0
    In at t = at ≤ length t

    change_alike : (w : List ℕ) (v at : ℕ) → Alike S (In at) at (λ t. change_at (scope names known t) w v at)
    unfolding change_at
    change_alike w v at =
        then_known (plain (phrase_alike S _ at))
        (λ u n1. then_known (plain (cases_alike case_limit w [] n1))
        (λ cases n2. then_known (plain (phrase_alike S _ n2))
        (λ u n3. then_alike (only (λ t h. ready t n1 n2 n3 cases h) (agreeing_alike w n1 n2 cases n3)) (λ ds n4. followed_alike S _ _ n4))))
      where
        ready : (t : List ℕ) (n1 n2 n3 : ℕ) (cases : List Spanned) {u u' : Unit {0}} → ((In at t × (phrase t (change_opening w) at ≡ accepted u n1)) × (cases_from case_limit (scope names known t) w [] n1 ≡ accepted cases n2)) × (phrase t (no_change_opening w) n2 ≡ accepted u' n3) → Ready w n1 n2 cases n3 t
        ready t n1 n2 n3 cases h =
            let i1 = read_within (phrase_reads t (change_opening w) at) h.0.0.1 h.0.0.0 in
            let c = cases_in (scope names known t) few lengths w n1 n2 cases i1 h.0.1 in
            let b : Before n2 cases = rw h.0.1 at (cases_ended t case_limit w [] n1 tt) in
            let j = read_after (phrase_reads t (no_change_opening w) n2) h.1 in
            record { cases_are = c; spans = before_later n2 n3 cases j b; within = read_within (phrase_reads t (no_change_opening w) n2) h.1 c.within }

    formula_alike : (w : List ℕ) (v at : ℕ) → Alike S (In at) at (λ t. formula_at (scope names known t) w v at)
    unfolding formula_at
    formula_alike w v at =
        then_known (plain (phrase_alike S _ at))
        (λ u n. token_in n (λ k s m. cond_alike (is k tilde) (step_in (λ t h. h.1) (λ t h. (token_at_moved t n k s m (read_within (phrase_reads t rule_opening at) h.0.1 h.0.0) h.1).2) (change_alike w v m)) (plain (function_alike w v n))))

    formulas_alike : (w : List ℕ) (v at : ℕ) → Alike S (In at) at (λ t. formulas (scope names known t) w v at)
    unfolding formulas
    formulas_alike w v at = token_in at (λ k s n. cond_alike (is k plus) (step_in {K = Any} (λ t h. h.1) (λ t h. tt) (pair_alike w v n)) (only (λ t h. h.0) (formula_alike w v at)))

    rule_alike : (xs : List Timer) (at : ℕ) (k : Kind) (s n : ℕ) → Alike S (λ t. In at t × TokenIn at k s n t) at (λ t. rule_at xs (scope names known t) s n)
    unfolding rule_at with_id
    rule_alike xs at k s n =
        cond_alike (over_long s n) (only (λ t h. h.1) (here_alike 8 (omega arith) (omega arith)))
        (word_in {G = λ w t. on_option (id_of names w) (refused 4 s) (λ v. cond (taken xs known v) (refused 6 s) (formulas (scope names known t) w v n))} s (λ t h. h.1)
        (λ w. option_alike (id_of names w) (only (λ t h. h.1) (here_alike 4 (omega arith) (omega arith)))
        (λ v. cond_alike (taken xs known v) (only (λ t h. h.1) (here_alike 6 (omega arith) (omega arith))) (step_in (λ t h. h.1) (λ t h. (token_at_moved t at k s n h.0 h.1).2) (formulas_alike w v n)))))

-- ---- the whole text

rules_alike : (S : Setting) (f : ℕ) (xs : List Timer) (names : List (List ℕ)) (known : List Bool) → length names ≤ 64 → length names ≡ length known → Named names → unruled known < f → (done : List Rule) (at : ℕ)
    → Alike S (λ t. at ≤ length t) at (λ t. rules_from f xs (scope names known t) done at)
unfolding rules_from
rules_alike S zero xs names known few lengths good fuel done at = absurd (omega arith)
rules_alike S (suc f) xs names known few lengths good fuel done at =
    token_in at
    (λ k s n.
    let rule = rule_alike S names known few lengths good xs at k s n in
    cond_alike (is k name)
    (then_known rule
    (λ r m. late (λ t h.
    let g = subst (Ends (length t) (First (scope names known t) few lengths good xs)) h.1 (rule_fits (scope names known t) few lengths xs good s n (token_at_moved t at k s n h.0.0 h.0.1).2) in
    let c = rule_leaves xs known (target r) g.0.1 g.0.2 in
    let l : length names ≡ length (timers_known (target r) xs (set known (target r) true)) = lengths ∙ sym (known_length (target r) xs (set known (target r) true) ∙ length-set known (target r) true) in
    only (λ t h. read_within (rule.reads t h.0) h.1 h.0.0) (rules_alike S f xs names (timers_known (target r) xs (set known (target r) true)) few l good (omega arith) (done ++ (r ∷ [])) m))))
    (done_alike _))

module _ (S : Setting) (names : List (List ℕ)) (known : List Bool) where
  later_alike : (c : Condition) (at : ℕ) → Alike S Any at (λ t. later_at (scope names known t) c at)
  unfolding later_at
  later_alike c at = then_alike (phrase_alike S _ at) (λ u n1. then_alike (listed_alike S names known n1) (λ d n2. followed_alike S _ _ n2))

  one_alike : (at : ℕ) → Alike S Any at (λ t. watch_at (scope names known t) at)
  unfolding watch_at after_first
  one_alike at =
      then_alike (phrase_alike S _ at)
      (λ u n1. then_alike (listed_alike S names known n1) (λ c n2. token_alike n2 (λ k s n. cond_alike (is k arrow) (step_alike (later_alike c n)) (plain (followed_alike S _ _ n2)))))

  watches_alike : (left : ℕ) (done : List Watch) (at : ℕ) → Alike S Any at (λ t. watches_from left (scope names known t) done at)
  unfolding watches_from
  watches_alike zero done at = token_alike at (λ k s n. cond_alike (is k watch_word) (above_alike 30 (omega arith)) (done_alike _))
  watches_alike (suc left) done at =
      token_alike at (λ k s n. cond_alike (is k watch_word) (step_alike (then_alike (one_alike n) (λ w m. watches_alike left (done ++ (w ∷ [])) m))) (done_alike _))

end_alike : (S : Setting) (known : List Bool) (at : ℕ) → Alike S Any at (λ t. end_at t known at)
unfolding end_at
end_alike S known at = token_alike at (λ k s n. cond_alike (is k ending) (cond_alike (all_true known) (past_alike tt) (here_alike 6 (omega arith) (omega arith))) not_allowed_lem)

-- both texts are answered the same, or beyond
pub program_alike : (S : Setting) → Alike S Any 0 (λ t. program t)
unfolding program declarations
program_alike S =
    then_known (declarations_alike S 65 input_word [] 0)
    (λ inputs n1. then_known (plain (declarations_alike S 65 var_word inputs n1))
    (λ base n2.
    let x0 : WithTimers = record { names = base; timers = [] } in
    then_known (plain (timers_alike S 65 (length inputs) (length base) x0 n2))
    (λ x n3. late (λ t h.
    let names = x.names in
    let g1 = subst (Ends (length t) (Names t 0)) h.0.0.1 (declarations_fit t 65 input_word [] 0 0 (omega arith) (tt, omega arith, omega arith, tt)) in
    let g2 = subst (Ends (length t) (Names t (length inputs))) h.0.1 (declarations_fit t 65 var_word inputs n1 (length inputs) g1.1 (g1.0.0, g1.0.1, le_refl (length inputs), g1.0.3)) in
    let g3 = subst (Ends (length t) (λ (y : WithTimers). Names t (length inputs) y.names)) h.1 (timers_named t (length inputs) base 65 x0 [] (sym (append-nil base)) n2 (length inputs) g2.1 g2.0) in
    let l : length (spellings names) ≡ length (known_first (length inputs) (length names)) = spellings_length names ∙ sym (length_known (length inputs) (length names)) in
    let few : length (spellings names) ≤ 64 = omega (arith, spellings_length names, g3.0.1) in
    then_alike
    (only
    (λ t h. read_within ((timers_alike S 65 (length inputs) (length base) x0 n2).reads t tt) h.1 (read_within ((declarations_alike S 65 var_word inputs n1).reads t tt) h.0.1 (read_within ((declarations_alike S 65 input_word [] 0).reads t tt) h.0.0.1 (omega arith))))
    (rules_alike S 65 x.timers (spellings names) (known_first (length inputs) (length names)) few l (named names g3.0.0 g3.0.3) (few_unruled (known_first (length inputs) (length names)) (omega (arith, l))) [] n3))
    (λ ruled n4. then_alike (watches_alike S (spellings names) (free (length names)) watch_limit [] n4) (λ watches n5. then_alike (end_alike S ruled.known n5) (λ u n6. done_alike _)))))))
