-- What a parser accepts ends where reading token by token comes to, and what it refuses it refuses at what is read there: declarations, timers,
-- rules and a whole text. Assumes nothing.
use mathlib.Core.Path.{◌≡◌, refl, ap, sym, ◌∙◌, subst}
use mathlib.Core.List.{List, [], ◌∷◌, ◌++◌, append-nil}
use mathlib.Core.Bool.{Bool, true, false, ◌&&◌}
use mathlib.Core.Logic.{inl, inr}
use mathlib.Core.Option.{none}
use Prim.Native.Nat.{ℕ, zero, suc, ◌-◌, ◌≤◌, ◌<◌}
use native.Mathlib.Nat.{le_refl}
use native.Mathlib.Omega.{arith}
use lib.ListN.{length, set, length-set}
use lib.Dec.{ltb, leb, eqb}
use lib.IntN.{ℤ, pos, neg_ℤ}
use borrow.Author.Tests.{lt-ltb, le-ltb, ltb-false, eqb-false}
use Rattle.limits.specs.Limits.{case_limit, name_limit, time_limit, text_limit, watch_limit}
use Rattle.arith.specs.Values.{is_int32}
use Rattle.lexer.specs.Bytes.{part}
use Rattle.lexer.specs.Token.{Kind, name, ending, digits, open_square, close_round, bar, tilde, plus, minus, arrow, init_word, semicolon, input_word, var_word, timer_word, watch_word, is, TokenRead, token, fault}
use Rattle.lexer.specs.Lexer.{token_at, same_token, over_long, value_of}
use Rattle.lexer.specs.Names.{id_of}
use Rattle.lexer.proofs.Laws.{cond_prop, token_at_moved}
use Rattle.semantics.specs.Program.{Name, Condition, Timer, Rule, Watch, target, all_true, taken, timers_known, known_first, free}
use Rattle.semantics.proofs.Cells.{known_length}
use Rattle.semantics.proofs.Reference.{length_known}
use Rattle.grammar.specs.Parsed.{Parsed, accepted, refused}
use Rattle.grammar.specs.Expressions.{Scope}
use Rattle.grammar.specs.Declarations.{in_range, signed_digits, bound_at, spellings, new_name, start_at, declaration, declarations_from, declarations}
use Rattle.grammar.specs.Timers.{WithTimers, is_watchable, watched_at, limit_at, timer_declaration, timers_from}
use Rattle.grammar.specs.Rules.{Spanned, case_at, cases_from, list_from, plain_list, Compared, agrees, differs, on_compared, on_found, part_from, kind_at, parts_from, first_found, agreeing_list, function_at, change_at, pair_at, formula_at, formulas, rule_at, ruled, rules_from}
use Rattle.grammar.specs.Watches.{later_at, after_first, watch_at, watches_from}
use Rattle.grammar.specs.Parse.{end_at, program, parse}
use Rattle.grammar.specs.Derivation.{Tokens, Spells, normal}
use Rattle.grammar.specs.Inner.Names.{Named}
use Rattle.grammar.proofs.Standing.{stands_in, spells_in, is_read, normally}
use Rattle.grammar.proofs.Listed.{Listed, last, next, parts_next}
use Rattle.grammar.proofs.Lists.{CasesIn, cases_in}
use Rattle.grammar.proofs.Whole.{Ends, Names, First, rule_fits, declarations_fit, timers_named, spellings_length, named}
use Rattle.grammar.proofs.ConverseRules.{unruled, rule_leaves, few_unruled}
use Rattle.faults.proofs.Reaching as Reach
use Rattle.faults.proofs.Reaching.{Reaches, joined, reaches_le, ordered, read_start, starts_after, token_after, token_again}
use Rattle.faults.proofs.Readings.{RefusalOf, ReadsFrom, read_within, ends_at, past, step, here, above_nine, not_allowed_lem, then_reads, cond_reads, option_reads, token_reads, phrase_reads, followed_reads, id_reads, whole_expression_reads, listed_reads}
use Rattle.faults.proofs.Closing.{MeetsAt, plain_meets}

-- ---- declarations

module _ (text : List ℕ) where
  signed_reads : (test : ℤ → Bool) (signed : ℤ → ℤ) (at : ℕ) (k : Kind) (s n : ℕ) → token_at text at ≡ token k s n → ReadsFrom text at (signed_digits test signed text k s n)
  unfolding signed_digits
  signed_reads test signed at k s n e =
      let z = signed (pos (value_of (part text s n))) in
      cond_reads (is k digits) (cond_reads (is_int32 z && test z) (past _ e) (here 3 e (omega arith) (omega arith))) (not_allowed_lem e)

  bound_reads : (test : ℤ → Bool) (at : ℕ) → ReadsFrom text at (bound_at test text at)
  unfolding bound_at
  bound_reads test at =
      token_reads text at (λ k s n e. cond_reads (is k minus) (step e (token_reads text n (λ k2 s2 n2 e2. signed_reads test neg_ℤ n k2 s2 n2 e2))) (signed_reads test (λ z. z) at k s n e))

  name_reads : (names : List Name) (at : ℕ) → ReadsFrom text at (new_name text names at)
  unfolding new_name
  name_reads names at =
      token_reads text at
      (λ k s n e.
      cond_reads (is k name)
      (option_reads (id_of (spellings names) (part text s n))
      (cond_reads (over_long s n) (here 8 e (omega arith) (omega arith)) (cond_reads (ltb (length names) name_limit) (past _ e) (here 8 e (omega arith) (omega arith))))
      (λ i. here 4 e (omega arith) (omega arith)))
      (not_allowed_lem e))

  start_reads : (low high : ℤ) (at : ℕ) → ReadsFrom text at (start_at text low high at)
  unfolding start_at
  start_reads low high at =
      token_reads text at
      (λ k s n e.
      cond_reads (is k init_word) (step e (then_reads (bound_reads (in_range low high) n) (λ z m q. followed_reads text _ z m)))
      (cond_reads (is k semicolon) (cond_reads (in_range low high (pos 0)) (past _ e) (here 3 e (omega arith) (omega arith))) (not_allowed_lem e)))

  declaration_reads : (names : List Name) (at : ℕ) → ReadsFrom text at (declaration text names at)
  unfolding declaration
  declaration_reads names at =
      then_reads (name_reads names at)
      (λ w n1 q1. then_reads (bound_reads _ n1)
      (λ low n2 q2. then_reads (phrase_reads text _ n2)
      (λ u n3 q3. then_reads (bound_reads _ n3)
      (λ high n4 q4. then_reads (start_reads low high n4) (λ start n5 q5. ends_at _ Reach.none)))))

  declarations_reads : (f : ℕ) (word : Kind) (names : List Name) (at : ℕ) → ReadsFrom text at (declarations_from f word text names at)
  unfolding declarations_from
  declarations_reads zero word names at = ends_at names Reach.none
  declarations_reads (suc f) word names at =
      token_reads text at
      (λ k s n e. cond_reads (is k word) (step e (then_reads (declaration_reads names n) (λ x m q. declarations_reads f word (names ++ (x ∷ [])) m))) (ends_at names Reach.none))

  -- ---- timers

  watched_reads : (inputs first : ℕ) (names : List Name) (at : ℕ) → ReadsFrom text at (watched_at text inputs first names at)
  unfolding watched_at
  watched_reads inputs first names at =
      token_reads text at
      (λ k s n e.
      cond_reads (is k name)
      (id_reads (record { text = text; names = spellings names; known = [] }) at k s n e s (λ i. cond_reads (is_watchable inputs first names i) (past _ e) (above_nine 23 e (omega arith))))
      (not_allowed_lem e))

  limit_reads : (at : ℕ) → ReadsFrom text at (limit_at text at)
  unfolding limit_at
  limit_reads at =
      token_reads text at
      (λ k s n e.
      let v = value_of (part text s n) in
      cond_reads (is k digits) (cond_reads (leb 1 v && leb v time_limit) (past _ e) (here 3 e (omega arith) (omega arith))) (not_allowed_lem e))

  timer_reads : (inputs first : ℕ) (x : WithTimers) (at : ℕ) → ReadsFrom text at (timer_declaration text inputs first x at)
  unfolding timer_declaration
  timer_reads inputs first x at =
      then_reads (name_reads x.names at)
      (λ t n1 q1. then_reads (phrase_reads text _ n1)
      (λ u n2 q2. then_reads (watched_reads inputs first _ n2)
      (λ w n3 q3. then_reads (phrase_reads text _ n3)
      (λ u n4 q4. then_reads (limit_reads n4) (λ n n5 q5. followed_reads text _ _ n5)))))

  timers_reads : (f inputs first : ℕ) (x : WithTimers) (at : ℕ) → ReadsFrom text at (timers_from f text inputs first x at)
  unfolding timers_from
  timers_reads zero inputs first x at = ends_at x Reach.none
  timers_reads (suc f) inputs first x at =
      token_reads text at (λ k s n e. cond_reads (is k timer_word) (step e (then_reads (timer_reads inputs first x n) (λ y m q. timers_reads f inputs first y m))) (ends_at x Reach.none))

  -- ---- the comparison of the two lists

  abbrev pub ComesTo : ℕ → Compared → Type 0
  ComesTo at (agrees m) = Reaches text at m
  ComesTo at (differs m) = (b : ℕ) × Reaches text at b × (read_start (token_at text b) ≡ m)

  comes_behind : (at b : ℕ) → Reaches text at b → (x : Compared) → ComesTo b x → ComesTo at x
  comes_behind at b c (agrees m) g = joined text c g
  comes_behind at b c (differs m) g = (g.0, joined text c g.1, g.2)

  pub then_comes : (at : ℕ) (x : Compared) (f : ℕ → Compared) → ComesTo at x → ((m : ℕ) → ComesTo m (f m)) → ComesTo at (on_compared x f)
  then_comes at (agrees m) f g h = comes_behind at m g (f m) (h m)
  then_comes at (differs m) f g h = g

  found_comes : (at : ℕ) (test : Kind → ℕ → ℕ → Bool) (f : ℕ → Compared) → ((m : ℕ) → ComesTo m (f m)) → ComesTo at (on_found (token_at text at) test f)
  found_comes at test f g = go (token_at text at) refl
    where
      go : (r : TokenRead) → token_at text at ≡ r → ComesTo at (on_found r test f)
      go (token k s n) e = cond_prop (ComesTo at) (test k s n) _ _ (λ t. comes_behind at n (Reach.more k s n e Reach.none) (f n) (g n)) (λ t. (at, Reach.none, ap read_start e))
      go (fault p) e = (at, Reach.none, ap read_start e)

  pub part_comes : (ts : Tokens) (f from to at : ℕ) → from ≤ length text → Spells normal text from to ts → ComesTo at (part_from f text from to at)
  unfolding part_from
  part_comes ts zero from to at h g = Reach.none
  part_comes [] (suc f) from to at h g = rw (le-ltb from to (omega (arith, g))) Reach.none
  part_comes (t ∷ ts) (suc f) from to at h g =
      let st = g.1 in
      let i = stands_in normally text from g.0 t h st in
      let j = spells_in normally text g.0 to ts i.1 g.2 in
      rw (lt-ltb from to (omega (arith, i.0, j.0)), is_read st) (found_comes at (same_token text st.kind st.start g.0) _ (λ m. part_comes ts f g.0 to m i.1 g.2))

  pub kind_comes : (w : Kind) (at : ℕ) → ComesTo at (kind_at text w at)
  unfolding kind_at
  kind_comes w at = found_comes at _ _ (λ m. Reach.none)

  pub parts_comes : (cs : List Spanned) (ls : Tokens) → Listed text cs ls → (at : ℕ) → ComesTo at (parts_from text cs at)
  unfolding parts_from
  parts_comes cs ls (last c ts h g) at = then_comes at (part_from (length text) text c.span.from c.span.to at) _ (part_comes ts (length text) c.span.from c.span.to at h g) (λ m. kind_comes close_round m)
  parts_comes cs ls (next c ds ts us h g r) at =
      rw (parts_next text c ds us r at)
      (then_comes at (part_from (length text) text c.span.from c.span.to at) _ (part_comes ts (length text) c.span.from c.span.to at h g)
      (λ m. then_comes m (kind_at text bar m) _ (kind_comes bar m) (λ m2. parts_comes ds us r m2)))

  -- ---- 7: what is no token is refused by 1 before it differs

  no_fault : {A : Type 0} (k : Kind) (s n p : ℕ) → token k s n ≡ fault p → A
  no_fault k s n p e = let z : ◌≡◌ {A = ℕ} 0 1 = cc in absurd (omega arith)

  -- a refusal at or after what is no token is 1
  module _ (k q p : ℕ) (l : p ≤ q) where
    on_way : {b1 b2 : ℕ} → Reaches text b1 b2 → RefusalOf k q (token_at text b1) → token_at text b2 ≡ fault p → (k ≡ 1) × (q ≡ p)
    on_way Reach.none t e = let h : RefusalOf k q (fault p) = subst (RefusalOf k q) e t in (h.0, sym h.1)
    on_way {b1} {b2} (Reach.more k' s' n' e' r) t e =
        let h : RefusalOf k q (token k' s' n') = subst (RefusalOf k q) e' t in
        let a = token_after text b1 k' s' n' e' in
        let b = reaches_le text r in
        let c = subst (λ (x : TokenRead). b2 ≤ read_start x) e (starts_after text b2) in
        let d : s' ≡ p = omega (arith, h.2, a.1) in
        no_fault k' s' n' p (sym (token_again text b1 (token k' s' n') e') ∙ ap (token_at text) d ∙ token_again text b2 (fault p) e)

    off_way : {b1 b2 : ℕ} → Reaches text b2 b1 → RefusalOf k q (token_at text b1) → token_at text b2 ≡ fault p → (k ≡ 1) × (q ≡ p)
    off_way Reach.none t e = on_way Reach.none t e
    off_way (Reach.more k' s' n' e' r) t e = no_fault k' s' n' p (sym e' ∙ e)

    fault_first : {at b1 b2 : ℕ} → Reaches text at b1 → RefusalOf k q (token_at text b1) → Reaches text at b2 → token_at text b2 ≡ fault p → (k ≡ 1) × (q ≡ p)
    fault_first c1 t c2 e = elim (ordered text c1 c2) [ inl c ↦ on_way c t e | inr c ↦ off_way c t e ]

  -- of a list that reads as r and differs first at m: at m begins a token
  first_reads : (at : ℕ) (r : Parsed (List Condition)) (d : Compared) → ReadsFrom text at r → ComesTo at d → ((ds : List Condition) (n : ℕ) → r ≡ accepted ds n → MeetsAt text at n d) → ReadsFrom text at (first_found r d)
  unfolding first_found
  first_reads at r (agrees n) h g f = h
  first_reads at (accepted ds n) (differs m) h g f = let x = f ds n refl in record { found = (x.place, x.reached, rw x.is_token (omega arith, omega arith, refl)) }
  first_reads at (refused k q) (differs m) h g f =
      cond_prop (ReadsFrom text at) (ltb q m) _ _ (λ t. h)
      (λ t. cond_prop (ReadsFrom text at) (eqb q m) _ _
      (λ u. cond_prop (ReadsFrom text at) (leb k 5) _ _ (λ v. h) (λ v. differing (token_at text g.0) refl (ltb-false q m t) (λ e. over-five v e.0)))
      (λ u. differing (token_at text g.0) refl (ltb-false q m t) (λ e. eqb-false q m u e.1)))
    where
      over-five : leb k 5 ≡ false → k ≡ 1 → ⊥
      over-five v e = let z : true ≡ false = ap (λ (x : ℕ). leb x 5) (sym e) ∙ v in let y : ◌≡◌ {A = ℕ} 0 1 = cc in omega arith

      differing : (x : TokenRead) → token_at text g.0 ≡ x → m ≤ q → ((k ≡ 1) × (q ≡ m) → ⊥) → ReadsFrom {A = List Condition} text at (refused 7 m)
      differing (token k2 s2 n2) e l w = record { found = (g.0, g.1, rw e (omega arith, omega arith, ap read_start (sym e) ∙ g.2)) }
      differing (fault p) e l w =
          let i : p ≡ m = ap read_start (sym e) ∙ g.2 in
          let x = fault_first k q p (omega arith) h.found.1 h.found.2 g.1 e in
          absurd (w (x.0, x.1 ∙ i))

-- ---- rules

module _ (sc : Scope) where
  pub case_reads : (w : List ℕ) (at n : ℕ) (k : Kind) (s : ℕ) → token_at sc.text at ≡ token k s n → ReadsFrom sc.text at (case_at sc w at n)
  unfolding case_at
  case_reads w at n k s e =
      step e
      (then_reads (listed_reads sc n)
      (λ c n1 q1. then_reads (phrase_reads sc.text _ n1)
      (λ u n2 q2. then_reads (whole_expression_reads sc n2) (λ x n3 q3. followed_reads sc.text _ _ n3))))

  cases_reads : (left : ℕ) (w : List ℕ) (done : List Spanned) (at : ℕ) → ReadsFrom sc.text at (cases_from left sc w done at)
  unfolding cases_from
  cases_reads zero w done at = token_reads sc.text at (λ k s n e. cond_reads (is k open_square) (here 8 e (omega arith) (omega arith)) (not_allowed_lem e))
  cases_reads (suc left) w done at =
      token_reads sc.text at
      (λ k s n e.
      cond_reads (is k open_square)
      (then_reads (case_reads w at n k s e)
      (λ c n1 q1. token_reads sc.text n1 (λ k2 s2 n2 e2. cond_reads (is k2 bar) (step e2 (cases_reads left w (done ++ (c ∷ [])) n2)) (ends_at _ Reach.none))))
      (not_allowed_lem e))

  list_reads : (left : ℕ) (done : List Condition) (at : ℕ) → ReadsFrom sc.text at (list_from left sc done at)
  unfolding list_from
  list_reads zero done at = token_reads sc.text at (λ k s n e. cond_reads (is k open_square) (here 8 e (omega arith) (omega arith)) (not_allowed_lem e))
  list_reads (suc left) done at =
      token_reads sc.text at
      (λ k s n e.
      cond_reads (is k open_square)
      (step e (then_reads (listed_reads sc n)
      (λ c n1 q1. token_reads sc.text n1 (λ k2 s2 n2 e2. cond_reads (is k2 bar) (step e2 (list_reads left (done ++ (c ∷ [])) n2)) (ends_at _ Reach.none)))))
      (not_allowed_lem e))

  pub plain_reads : (at : ℕ) → ReadsFrom sc.text at (plain_list sc at)
  unfolding plain_list
  plain_reads at = then_reads (list_reads case_limit [] at) (λ cs n q. followed_reads sc.text _ cs n)

  function_reads : (w : List ℕ) (v at : ℕ) → ReadsFrom sc.text at (function_at sc w v at)
  unfolding function_at
  function_reads w v at = then_reads (phrase_reads sc.text _ at) (λ u n1 q1. then_reads (whole_expression_reads sc n1) (λ e n2 q2. followed_reads sc.text _ _ n2))

  module _ (few : length sc.names ≤ 64) (lengths : length sc.names ≡ length sc.known) (good : Named sc.names) where
    pub agreeing_reads : (w : List ℕ) (from to : ℕ) (cases : List Spanned) → CasesIn sc few lengths w from to cases → (at : ℕ) → at ≤ length sc.text → ReadsFrom sc.text at (agreeing_list sc cases at)
    unfolding agreeing_list
    agreeing_reads w from to cases c at h =
        first_reads sc.text at (plain_list sc at) (parts_from sc.text cases at) (plain_reads at) (parts_comes sc.text cases c.list c.lists at)
        (λ ds n e. plain_meets sc few good lengths w from to cases c at n ds h e)

    change_reads : (w : List ℕ) (v at : ℕ) → at ≤ length sc.text → ReadsFrom sc.text at (change_at sc w v at)
    unfolding change_at
    change_reads w v at h = then_reads (phrase_reads sc.text _ at)
        (λ u n1 q1.
        let i1 = read_within (phrase_reads sc.text _ at) q1 h in
        then_reads (cases_reads case_limit w [] n1)
        (λ cases n2 q2.
        let c = cases_in sc few lengths w n1 n2 cases i1 q2 in
        then_reads (phrase_reads sc.text _ n2)
        (λ u n3 q3. then_reads (agreeing_reads w n1 n2 cases c n3 (read_within (phrase_reads sc.text _ n2) q3 c.within)) (λ ds n4 q4. followed_reads sc.text _ _ n4))))

    formula_reads : (w : List ℕ) (v at : ℕ) → at ≤ length sc.text → ReadsFrom sc.text at (formula_at sc w v at)
    unfolding formula_at
    formula_reads w v at h = then_reads (phrase_reads sc.text _ at)
        (λ u n q. token_reads sc.text n (λ k s m e. cond_reads (is k tilde) (step e (change_reads w v m (token_at_moved sc.text n k s m (read_within (phrase_reads sc.text _ at) q h) e).2)) (function_reads w v n)))

    pair_reads : (w : List ℕ) (v at : ℕ) → ReadsFrom sc.text at (pair_at sc w v at)
    unfolding pair_at
    pair_reads w v at = then_reads (phrase_reads sc.text _ at)
        (λ u n1 q1. then_reads (cases_reads case_limit w [] n1)
        (λ ups n2 q2. then_reads (phrase_reads sc.text _ n2)
        (λ u n3 q3. then_reads (cases_reads (case_limit - length ups) w [] n3) (λ downs n4 q4. followed_reads sc.text _ _ n4))))

    formulas_reads : (w : List ℕ) (v at : ℕ) → at ≤ length sc.text → ReadsFrom sc.text at (formulas sc w v at)
    unfolding formulas
    formulas_reads w v at h = token_reads sc.text at (λ k s n e. cond_reads (is k plus) (step e (pair_reads w v n)) (formula_reads w v at h))

    rule_reads : (xs : List Timer) (at : ℕ) (k : Kind) (s n : ℕ) → at ≤ length sc.text → token_at sc.text at ≡ token k s n → ReadsFrom sc.text at (rule_at xs sc s n)
    unfolding rule_at
    rule_reads xs at k s n h e =
        id_reads sc at k s n e s
        (λ v. cond_reads (taken xs sc.known v) (here 6 e (omega arith) (omega arith)) (step e (formulas_reads (part sc.text s n) v n (token_at_moved sc.text at k s n h e).2)))

rules_reads : (f : ℕ) (xs : List Timer) (sc : Scope) → length sc.names ≤ 64 → length sc.names ≡ length sc.known → Named sc.names → unruled sc.known < f → (done : List Rule) (at : ℕ) → at ≤ length sc.text → ReadsFrom sc.text at (rules_from f xs sc done at)
unfolding rules_from
rules_reads zero xs sc few lengths good fuel done at h = absurd (omega arith)
rules_reads (suc f) xs sc few lengths good fuel done at h =
    token_reads sc.text at
    (λ k s n e.
    cond_reads (is k name)
    (then_reads (rule_reads sc few lengths good xs at k s n h e)
    (λ r m q.
    let g = subst (Ends (length sc.text) (First sc few lengths good xs)) q (rule_fits sc few lengths xs good s n (token_at_moved sc.text at k s n h e).2) in
    let c = rule_leaves xs sc.known (target r) g.0.1 g.0.2 in
    let l : length sc.names ≡ length (timers_known (target r) xs (set sc.known (target r) true)) = lengths ∙ sym (known_length (target r) xs (set sc.known (target r) true) ∙ length-set sc.known (target r) true) in
    rules_reads f xs (ruled xs sc (target r)) few l good (omega arith) (done ++ (r ∷ [])) m (read_within (rule_reads sc few lengths good xs at k s n h e) q h)))
    (ends_at _ Reach.none))

-- ---- watches

module _ (sc : Scope) where
  later_reads : (c : Condition) (at : ℕ) → ReadsFrom sc.text at (later_at sc c at)
  unfolding later_at
  later_reads c at = then_reads (phrase_reads sc.text _ at) (λ u n1 q1. then_reads (listed_reads sc n1) (λ d n2 q2. followed_reads sc.text _ _ n2))

  watch_reads : (at : ℕ) → ReadsFrom sc.text at (watch_at sc at)
  unfolding watch_at after_first
  watch_reads at =
      then_reads (phrase_reads sc.text _ at)
      (λ u n1 q1. then_reads (listed_reads sc n1) (λ c n2 q2. token_reads sc.text n2 (λ k s n e. cond_reads (is k arrow) (step e (later_reads c n)) (followed_reads sc.text _ _ n2))))

  watches_reads : (left : ℕ) (done : List Watch) (at : ℕ) → ReadsFrom sc.text at (watches_from left sc done at)
  unfolding watches_from
  watches_reads zero done at = token_reads sc.text at (λ k s n e. cond_reads (is k watch_word) (above_nine 30 e (omega arith)) (ends_at _ Reach.none))
  watches_reads (suc left) done at =
      token_reads sc.text at
      (λ k s n e. cond_reads (is k watch_word) (step e (then_reads (watch_reads n) (λ w m q. watches_reads left (done ++ (w ∷ [])) m))) (ends_at _ Reach.none))

-- ---- the whole text

end_reads : (text : List ℕ) (known : List Bool) (at : ℕ) → ReadsFrom text at (end_at text known at)
unfolding end_at
end_reads text known at = token_reads text at (λ k s n e. cond_reads (is k ending) (cond_reads (all_true known) (past tt e) (here 6 e (omega arith) (omega arith))) (not_allowed_lem e))

program_reads : (text : List ℕ) → ReadsFrom text 0 (program text)
unfolding program declarations
program_reads text =
    then_reads (declarations_reads text 65 input_word [] 0)
    (λ inputs n1 e1.
    let g1 = subst (Ends (length text) (Names text 0)) e1 (declarations_fit text 65 input_word [] 0 0 (omega arith) (tt, omega arith, omega arith, tt)) in
    then_reads (declarations_reads text 65 var_word inputs n1)
    (λ base n2 e2.
    let g2 = subst (Ends (length text) (Names text (length inputs))) e2 (declarations_fit text 65 var_word inputs n1 (length inputs) g1.1 (g1.0.0, g1.0.1, le_refl (length inputs), g1.0.3)) in
    let x0 : WithTimers = record { names = base; timers = [] } in
    then_reads (timers_reads text 65 (length inputs) (length base) x0 n2)
    (λ x n3 e3.
    let g3 = subst (Ends (length text) (λ (y : WithTimers). Names text (length inputs) y.names)) e3 (timers_named text (length inputs) base 65 x0 [] (sym (append-nil base)) n2 (length inputs) g2.1 g2.0) in
    let names = x.names in
    let sc : Scope = record { text = text; names = spellings names; known = known_first (length inputs) (length names) } in
    let l : length (spellings names) ≡ length (known_first (length inputs) (length names)) = spellings_length names ∙ sym (length_known (length inputs) (length names)) in
    let few : length (spellings names) ≤ 64 = omega (arith, spellings_length names, g3.0.1) in
    then_reads (rules_reads 65 x.timers sc few l (named names g3.0.0 g3.0.3) (few_unruled (known_first (length inputs) (length names)) (omega (arith, l))) [] n3 g3.1)
    (λ ruled n4 e4. then_reads (watches_reads (record { text = text; names = spellings names; known = free (length names) }) watch_limit [] n4)
    (λ watches n5 e5. then_reads (end_reads text ruled.known n5) (λ u n6 e6. ends_at _ Reach.none))))))

-- a text within the limit reads token by token
pub parse_reads : (text : List ℕ) → length text ≤ text_limit → ReadsFrom text 0 (parse text)
unfolding parse
parse_reads text h = rw (le-ltb text_limit (length text) h) (program_reads text)
