-- The Structured Text of the expressions, conditions and rules that tokens spell: twice its bytes are at most seven times theirs. Assumes nothing.
use Prim.Native.Nat.{ℕ, suc, ◌+◌, ◌*◌, ◌/◌, ◌%◌, ◌≤◌, ◌<◌}
use native.Mathlib.Omega.{arith}
use mathlib.Core.Path.{◌≡◌, refl, sym, ap, ap₂, ◌∙◌, subst}
use mathlib.Core.Bool.{Bool, true, false}
use mathlib.Core.List.{List, [], ◌∷◌, ◌++◌, map, append-nil, map-append}
use mathlib.Core.Option.{some}
use lib.Dec.{ltb, leb}
use lib.ListN.{length, get_elem?, length-append}
use borrow.Author.Tests.{ltb-true, ltb-false, leb-true}
use Rattle.arith.specs.Values.{Operation, Comparison}
use Rattle.arith.proofs.Basics.{and_both}
use Rattle.lexer.specs.Bytes.{bytes}
use Rattle.lexer.specs.Lexer.{is_digit, digit_value, value_on, value_of}
use Rattle.lexer.specs.Spelling.{AllBytes, IsDigits}
use Rattle.trace_text.specs.Output.{unsigned_decimal}
use Rattle.trace_text.proofs.Printing.{decimal_small, decimal_more}
use Rattle.semantics.specs.Program.{Expression, Condition, Side, rising, falling, Case, Rule}
use Rattle.grammar.specs.Derivation as D
use Rattle.grammar.specs.Derivation.{Level, LevelC, SpellsE, SpellsC, SumSign, ProductSign, ComparisonSign}
use Rattle.grammar.specs.Pairs.{on_side, pair_cases}
use Rattle.grammar.specs.Spelled as S
use Rattle.grammar.specs.Spelled.{squared, cased, change_form, pair_form, SpellsCases, SpellsR, SpellsRules}
use Rattle.grammar.proofs.Growth.{later_bytes, bytes_of, bytes_append, token_bytes, digits_some}
use Rattle.grammar.proofs.Phrases.{head_tokens, middle_tokens, rise_tokens, fall_tokens}
use Rattle.st.specs.Syntax.{Identifier, or, and, Operator, connects, relates, computes, StExpression, binary, Branch, Statement, choose}
use Rattle.st.specs.Printed.{spelling, expression_printed, branch_printed, later_branches, statement_printed, statements_printed}
use Rattle.st_program.specs.Written.{name_at, expression_in_st, condition_in_st, branch_in_st, rule_in_st}

-- ---- decimals: no longer than the digits of the text

one_longer : (v d : ℕ) → d < 10 → length (unsigned_decimal (10 * v + d)) ≤ length (unsigned_decimal v) + 1
one_longer v d h = by (ltb (10 * v + d) 10) (ltb-true (10 * v + d) 10) (ltb-false (10 * v + d) 10) where
  by : (t : Bool) → (t ≡ true → 10 * v + d < 10) → (t ≡ false → 10 ≤ 10 * v + d) → length (unsigned_decimal (10 * v + d)) ≤ length (unsigned_decimal v) + 1
  by true f g = let e = ap length (decimal_small (10 * v + d) (f refl)) in omega arith
  by false f g =
      let q : (10 * v + d) / 10 ≡ v = omega arith in
      let e = ap length (decimal_more (10 * v + d) (g refl)) in
      let a = length-append (unsigned_decimal ((10 * v + d) / 10)) ((48 + (10 * v + d) % 10) ∷ []) in
      let b = ap (λ (n : ℕ). length (unsigned_decimal n)) q in
      omega arith

digit_below : (b : ℕ) → is_digit b ≡ true → digit_value b < 10
unfolding is_digit
digit_below b e =
    let h = and_both (leb 48 b) (ltb b 58) e in
    let l = leb-true 48 b h.0 in
    let m = ltb-true b 58 h.1 in
    omega arith

value_short : (l : List ℕ) (v : ℕ) → AllBytes is_digit l → length (unsigned_decimal (value_on l v)) ≤ length l + length (unsigned_decimal v)
unfolding value_on
value_short [] v h = omega arith
value_short (b ∷ l) v h = let r = value_short l (10 * v + digit_value b) h.1 in let s = one_longer v (digit_value b) (digit_below b h.0) in omega arith

pub decimal_short : (w : List ℕ) → IsDigits w → length (unsigned_decimal (value_of w)) ≤ length w
unfolding value_of value_on
decimal_short [] d = absurd d
decimal_short (b ∷ l) d =
    let m = digit_below b d.0 in
    let r = value_short l (10 * 0 + digit_value b) d.1 in
    let e = ap length (decimal_small (10 * 0 + digit_value b) (omega arith)) in
    omega arith

-- ---- expressions

-- with what follows, and x to spare
abbrev pub Fits : ℕ → StExpression → List (List ℕ) → Type 0
Fits x e ts = (l : List ℕ) → 2 * length (expression_printed e l) + x ≤ 7 * bytes_of ts + 2 * length l

join_fits : (x y : ℕ) (o : Operator) (a b : StExpression) (ts us : List (List ℕ)) (w : List ℕ) → 2 * length (spelling o) + 8 + y ≤ 7 * suc (later_bytes w) + 2 * x → Fits x a ts → Fits x b us → Fits y (binary o a b) (ts ++ w ∷ us)
unfolding expression_printed
join_fits x y o a b ts us w h f g l =
    let more = spelling o ++ (32 ∷ expression_printed b (41 ∷ l)) in
    omega (arith, h, f (32 ∷ more), g (41 ∷ l), length-append (spelling o) (32 ∷ expression_printed b (41 ∷ l)), bytes_append ts (w ∷ us))

bracket_fits : (x : ℕ) (e : StExpression) (ts : List (List ℕ)) (v w : List ℕ) → Fits x e ts → Fits x e (v ∷ ts ++ w ∷ [])
bracket_fits x e ts v w f l = omega (arith, f l, bytes_append ts (w ∷ []))

sum_room : (w : List ℕ) (o : Operation) → SumSign w o → 2 * length (spelling (computes o)) + 8 + 5 ≤ 7 * suc (later_bytes w) + 2 * 5
sum_room w o D.SumSign.plus = omega arith
sum_room w o D.SumSign.minus = omega arith

product_room : (w : List ℕ) (o : Operation) → ProductSign w o → 2 * length (spelling (computes o)) + 8 + 5 ≤ 7 * suc (later_bytes w) + 2 * 5
unfolding later_bytes
product_room w o D.ProductSign.times = omega arith
product_room w o D.ProductSign.over = omega arith
product_room w o D.ProductSign.modulus = omega arith

comparison_room : (w : List ℕ) (o : Comparison) → ComparisonSign w o → 2 * length (spelling (relates o)) + 8 + 7 ≤ 7 * suc (later_bytes w) + 2 * 5
unfolding later_bytes
comparison_room w o D.ComparisonSign.equals = omega arith
comparison_room w o D.ComparisonSign.differs = omega arith
comparison_room w o D.ComparisonSign.below = omega arith
comparison_room w o D.ComparisonSign.at_most = omega arith
comparison_room w o D.ComparisonSign.above = omega arith
comparison_room w o D.ComparisonSign.at_least = omega arith

-- of names that are as long as the tokens that spell them
module _ (ws names : List Identifier) (sized : (i : ℕ) (w : List ℕ) → get_elem? names i ≡ some w → (length (name_at ws i) ≡ length w) × (1 ≤ length w)) where
  pub expression_fits : (v : Level) (l : ℕ) (ts : List (List ℕ)) (e : Expression) → SpellsE names v l ts e → Fits 5 (expression_in_st ws e) ts
  unfolding expression_in_st expression_printed later_bytes
  expression_fits v l ts e (D.SpellsE.a_number w d h) = λ k. omega (arith, decimal_short w d, digits_some w d, token_bytes w (digits_some w d), length-append (unsigned_decimal (value_of w)) k)
  expression_fits v l ts e (D.SpellsE.a_current w i ei) = λ k. omega (arith, (sized i w ei).0, (sized i w ei).1, token_bytes w (sized i w ei).1, length-append (name_at ws i) k)
  expression_fits v l ts e (D.SpellsE.a_previous w i ei) = λ k. omega (arith, (sized i w ei).0, (sized i w ei).1, length-append (name_at ws i) k)
  expression_fits v l ts e (D.SpellsE.brackets us x d) = bracket_fits 5 (expression_in_st ws x) us (bytes "(") (bytes ")") (expression_fits D.expression _ us x d)
  expression_fits v l ts e (D.SpellsE.plain us x d) = expression_fits D.primary _ us x d
  expression_fits v l ts e (D.SpellsE.opposite us x d) = λ k. let f = expression_fits D.primary _ us x d (41 ∷ k) in omega arith
  expression_fits v l ts e (D.SpellsE.one_factor us x d) = expression_fits D.factor _ us x d
  expression_fits v l ts e (D.SpellsE.product w o us vs x y ps d f) =
      join_fits 5 5 (computes o) (expression_in_st ws x) (expression_in_st ws y) us vs w (product_room w o ps) (expression_fits D.term _ us x d) (expression_fits D.factor _ vs y f)
  expression_fits v l ts e (D.SpellsE.one_term us x d) = expression_fits D.term _ us x d
  expression_fits v l ts e (D.SpellsE.sum w o us vs x y ps d f) =
      join_fits 5 5 (computes o) (expression_in_st ws x) (expression_in_st ws y) us vs w (sum_room w o ps) (expression_fits D.expression _ us x d) (expression_fits D.term _ vs y f)

  pub condition_fits : (v : LevelC) (l : ℕ) (ts : List (List ℕ)) (c : Condition) → SpellsC names v l ts c → Fits 7 (condition_in_st ws c) ts
  unfolding condition_in_st expression_printed later_bytes
  condition_fits v l ts c (D.SpellsC.compared w o us vs x y ps d f) =
      join_fits 5 7 (relates o) (expression_in_st ws x) (expression_in_st ws y) us vs w (comparison_room w o ps) (expression_fits D.expression _ us x d) (expression_fits D.expression _ vs y f)
  condition_fits v l ts c (D.SpellsC.square us x d) = bracket_fits 7 (condition_in_st ws x) us (bytes "[") (bytes "]") (condition_fits D.condition _ us x d)
  condition_fits v l ts c (D.SpellsC.not_square us x d) = λ k. let f = condition_fits D.condition _ us x d (41 ∷ k) in let b = bytes_append us (bytes "]" ∷ []) in omega arith
  condition_fits v l ts c (D.SpellsC.one_atom us x d) = condition_fits D.atom _ us x d
  condition_fits v l ts c (D.SpellsC.conjoined us vs x y d f) =
      join_fits 7 7 (connects and) (condition_in_st ws x) (condition_in_st ws y) us vs (bytes "&") (omega arith) (condition_fits D.conjunction _ us x d) (condition_fits D.atom _ vs y f)
  condition_fits v l ts c (D.SpellsC.one_conjunction us x d) = condition_fits D.conjunction _ us x d
  condition_fits v l ts c (D.SpellsC.disjoined us vs x y d f) =
      join_fits 7 7 (connects or) (condition_in_st ws x) (condition_in_st ws y) us vs (bytes "|") (omega arith) (condition_fits D.condition _ us x d) (condition_fits D.conjunction _ vs y f)

  -- ---- rules

  cased_bytes : (v : List ℕ) (ts us : List (List ℕ)) → bytes_of (cased v ts us) ≡ bytes_of ts + bytes_of us + suc (later_bytes v) + 6
  unfolding later_bytes
  cased_bytes v ts us =
      let back = bytes "&" ∷ v ∷ bytes "=" ∷ bytes "(" ∷ us in
      omega (arith, bytes_append (squared ts ++ back) (bytes ")" ∷ []), bytes_append (squared ts) back, bytes_append ts (bytes "]" ∷ []))

  -- a case begun with ELSIF
  case_fits : (i : ℕ) (v : List ℕ) → get_elem? names i ≡ some v → (ts us : List (List ℕ)) (k : Case) → SpellsC names D.condition 16 ts k.condition → SpellsE names D.expression 16 us k.value
      → (l : List ℕ) → 2 * length (branch_printed "ELSIF " (branch_in_st ws i k) l) + 16 ≤ 7 * bytes_of (cased v ts us) + 2 * length l
  case_fits i v ei ts us k c e l =
      let value = expression_printed (expression_in_st ws k.value) (bytes ";\n" ++ l) in
      let body = name_at ws i ++ (bytes " := " ++ value) in
      let f = condition_fits D.condition 16 ts k.condition c (bytes " THEN\n  " ++ body) in
      let g = expression_fits D.expression 16 us k.value e (bytes ";\n" ++ l) in
      let a = length-append (name_at ws i) (bytes " := " ++ value) in
      let s = sized i v ei in
      let t = token_bytes v s.1 in
      omega (arith, cased_bytes v ts us, f, g, a, s.0, s.1, t)

  -- cases with others behind them
  cases_fit : (i : ℕ) (v : List ℕ) → get_elem? names i ≡ some v → (ts ls : List (List ℕ)) (ks : List Case) → SpellsCases names v ts ls ks
      → (rest : List Branch) (l : List ℕ) → 2 * length (later_branches (map (branch_in_st ws i) ks ++ rest) l) + 16 ≤ 7 * bytes_of ts + 2 * length (later_branches rest l)
  unfolding later_branches
  cases_fit i v ei ts ls ks (S.SpellsCases.one_case us vs k s c e) rest l = case_fits i v ei us vs k c e (later_branches rest l)
  cases_fit i v ei ts ls ks (S.SpellsCases.more_cases us vs xs ys k js s c e q) rest l =
      let f = case_fits i v ei us vs k c e (later_branches (map (branch_in_st ws i) js ++ rest) l) in
      let g = cases_fit i v ei xs ys js q rest l in
      let b = bytes_append (cased v us vs) (bytes "|" ∷ xs) in
      omega arith

  list_fits : (i : ℕ) (v : List ℕ) → get_elem? names i ≡ some v → (ts ls : List (List ℕ)) (ks : List Case) → SpellsCases names v ts ls ks
      → (l : List ℕ) → 2 * length (later_branches (map (branch_in_st ws i) ks) l) ≤ 7 * bytes_of ts + 2 * length l
  unfolding later_branches
  list_fits i v ei ts ls ks d l =
      let f = subst (λ (bs : List Branch). 2 * length (later_branches bs l) + 16 ≤ 7 * bytes_of ts + 2 * length (later_branches [] l)) (append-nil (map (branch_in_st ws i) ks)) (cases_fit i v ei ts ls ks d [] l) in
      omega arith

  -- a side is not printed
  side_left_out : (i : ℕ) (side : Side) (ks : List Case) → map (branch_in_st ws i) (on_side side ks) ≡ map (branch_in_st ws i) ks
  side_left_out i side [] = refl
  side_left_out i side (k ∷ ks) = ap (λ (bs : List Branch). branch_in_st ws i k ∷ bs) (side_left_out i side ks)

  pair_branches : (i : ℕ) (ks js : List Case) → map (branch_in_st ws i) (pair_cases ks js) ≡ map (branch_in_st ws i) ks ++ map (branch_in_st ws i) js
  pair_branches i ks js = map-append (branch_in_st ws i) (on_side rising ks) (on_side falling js) ∙ ap₂ (λ (a b : List Branch). a ++ b) (side_left_out i rising ks) (side_left_out i falling js)

  -- IF is shorter
  choose_fits : (bs : List Branch) (l : List ℕ) → length (statement_printed (choose bs) l) ≤ length (later_branches bs l)
  unfolding statement_printed later_branches
  choose_fits [] l = omega arith
  choose_fits (b ∷ bs) l = omega arith

  change_bytes : (v : List ℕ) (ts ls : List (List ℕ)) → bytes_of ts ≤ bytes_of (change_form v ts ls)
  change_bytes v ts ls =
      let opening = v ∷ bytes ":" ∷ bytes "GX" ∷ bytes "(" ∷ bytes "~" ∷ head_tokens v in
      let closing = bytes ")" ∷ bytes ")" ∷ bytes ";" ∷ [] in
      omega (arith, bytes_append ((opening ++ ts) ++ (middle_tokens v ++ ls)) closing, bytes_append (opening ++ ts) (middle_tokens v ++ ls), bytes_append opening ts)

  pair_bytes : (v : List ℕ) (ts us : List (List ℕ)) → bytes_of ts + bytes_of us ≤ bytes_of (pair_form v ts us)
  pair_bytes v ts us =
      let opening = v ∷ bytes "+" ∷ rise_tokens v in
      let closing = bytes ")" ∷ bytes ";" ∷ [] in
      omega (arith, bytes_append ((opening ++ ts) ++ (fall_tokens v ++ us)) closing, bytes_append (opening ++ ts) (fall_tokens v ++ us), bytes_append opening ts, bytes_append (fall_tokens v) us)

  rule_fits : (ts : List (List ℕ)) (r : Rule) → SpellsR names ts r → (l : List ℕ) → 2 * length (statement_printed (rule_in_st ws r) l) ≤ 7 * bytes_of ts + 2 * length l
  unfolding statement_printed rule_in_st later_bytes
  rule_fits ts r (S.SpellsR.a_change v i us ls ks cs ei d room e) l =
      let f = list_fits i v ei us ls ks d l in
      let g = choose_fits (map (branch_in_st ws i) ks) l in
      omega (arith, f, g, change_bytes v us ls)
  rule_fits ts r (S.SpellsR.a_pair v i us ls vs ms ks js ei d f room) l =
      let falls = map (branch_in_st ws i) js in
      let a = subst (λ (bs : List Branch). 2 * length (later_branches bs l) + 16 ≤ 7 * bytes_of us + 2 * length (later_branches falls l)) (sym (pair_branches i ks js)) (cases_fit i v ei us ls ks d falls l) in
      let b = list_fits i v ei vs ms js f l in
      let g = choose_fits (map (branch_in_st ws i) (pair_cases ks js)) l in
      omega (arith, a, b, g, pair_bytes v us vs)
  rule_fits ts r (S.SpellsR.a_function v i us e ei d) l =
      let value = expression_printed (expression_in_st ws e) (bytes ";\n" ++ l) in
      let f = expression_fits D.expression 16 us e d (bytes ";\n" ++ l) in
      let a = length-append (name_at ws i) (bytes " := " ++ value) in
      let s = sized i v ei in
      let t = token_bytes v s.1 in
      let b = bytes_append (v ∷ bytes ":" ∷ bytes "GX" ∷ bytes "(" ∷ v ∷ bytes "=" ∷ bytes "(" ∷ us) (bytes ")" ∷ bytes ")" ∷ bytes ";" ∷ []) in
      omega (arith, f, a, s.0, s.1, b)

  pub rules_fit : (ts : List (List ℕ)) (rs : List Rule) → SpellsRules names ts rs → (rest : List Statement) → 2 * length (statements_printed (map (rule_in_st ws) rs ++ rest) []) ≤ 7 * bytes_of ts + 2 * length (statements_printed rest [])
  unfolding statements_printed
  rules_fit ts rs S.SpellsRules.none rest = omega arith
  rules_fit ts rs (S.SpellsRules.more us vs r qs d q) rest =
      let f = rule_fits us r d (statements_printed (map (rule_in_st ws) qs ++ rest) []) in
      let g = rules_fit vs qs q rest in
      omega (arith, f, g, bytes_append us vs)
