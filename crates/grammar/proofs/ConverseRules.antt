-- Tokens that spell rules in the order of work are read as them. Assumes nothing.
use mathlib.Core.Path.{◌≡◌, refl, ap, ap₂, sym, ◌∙◌, subst}
use mathlib.Core.List.{List, [], ◌∷◌, ◌++◌, append_assoc, append-nil}
use mathlib.Core.Bool.{Bool, true, false, cond}
use mathlib.Core.Option.{none, some}
use Prim.Native.Nat.{ℕ, zero, suc, ◌+◌, ◌-◌, ◌≤◌, ◌<◌}
use native.Mathlib.Omega.{arith}
use lib.ListN.{length, get_or, set, get_elem?}
use lib.Dec.{eqb, ltb→lt}
use Rattle.limits.specs.Limits.{case_limit, bracket_limit}
use Rattle.lexer.specs.Bytes.{bytes, part, capitals}
use Rattle.lexer.specs.Spelling.{SpellsName}
use Rattle.lexer.specs.Token.{Kind, kind_number, name, colon, close_round, tilde, greater, plus, is, token}
use Rattle.lexer.specs.Lexer.{token_at}
use Rattle.lexer.proofs.Laws.{token_at_moved}
use Rattle.semantics.specs.Program.{Expression, Condition, Case, Rule, Timer, function, change, target, taken, timers_known, UsableE, UsableK, UsableR, OrderedRules}
use Rattle.semantics.proofs.Cells.{not_taken}
use Rattle.grammar.specs.Parsed.{accepted, phrase, followed, item_bound}
use Rattle.grammar.specs.Expressions.{Scope, product_of, sum_of, whole_expression}
use Rattle.grammar.specs.Forms.{value_opening, function_closing, formula_closing, change_opening, no_change_opening, rule_opening, turned_opening, falling_opening}
use Rattle.grammar.specs.Pairs.{pair_cases, pair_rule}
use Rattle.grammar.specs.Rules.{Spanned, cases_from, plain_list, agrees, parts_from, first_found, agreeing_list, cases_of, function_at, change_at, pair_at, formula_at, formulas, rule_at, ruled, rules_from}
use Rattle.grammar.specs.Derivation.{Spells, IsName, SpellsE, normal, normals}
use Rattle.grammar.specs.Derivation as D
use Rattle.grammar.specs.Spelled.{SpellsCases, SpellsList, SpellsR, a_change, a_function, a_pair, SpellsRules}
use Rattle.grammar.specs.Spelled as S
use Rattle.grammar.specs.Inner.Names.{Named}
use Rattle.lexer.proofs.Spellings.{is_fixed}
use Rattle.grammar.proofs.Standing.{split, stands_in, spells_in, spells_append, is_read, normally, stands_raw}
use Rattle.grammar.proofs.Phrases.{signs, fixed_at, name_at_lem, phrase_reads, followed_reads, head_tokens, middle_tokens, rise_tokens, fall_tokens}
use Rattle.grammar.proofs.Normal.{normal_twice, each_normal}
use Rattle.grammar.proofs.Known.{known_after}
use Rattle.grammar.proofs.SameRule.{formulas_same}
use Rattle.grammar.proofs.Pairing.{counted_cases, ups_usable, downs_usable}
use Rattle.grammar.proofs.Listed.{spells_parts}
use Rattle.grammar.proofs.Converse.{named_id, spelled_expression, spells_normal}
use Rattle.grammar.proofs.ConverseCases.{cases_read, no_change_reads}

module _ (sc : Scope) (good : Named sc.names) (w : List ℕ) (nm : IsName w) (v : ℕ) where
  -- ---- a function, after `v: GX(`

  function_goes : (a n1 n2 n3 : ℕ) (e : Expression) → phrase sc.text (value_opening w) a ≡ accepted tt n1 → whole_expression sc n1 ≡ accepted e n2 → followed sc.text function_closing (function v e) n2 ≡ accepted (function v e) n3 → function_at sc w v a ≡ accepted (function v e) n3
  unfolding function_at
  function_goes a n1 n2 n3 e e1 e2 e3 = rw (e1, e2) e3

  function_reads : (ts : List (List ℕ)) (e : Expression) → SpellsE (normals sc.names) D.expression bracket_limit ts e → UsableE sc.known e → (a m : ℕ) → a ≤ length sc.text → Spells normal sc.text a m (w ∷ bytes "=" ∷ bytes "(" ∷ ts ++ bytes ")" ∷ bytes ")" ∷ bytes ";" ∷ []) → function_at sc w v a ≡ accepted (function v e) m
  unfolding signs is_fixed kind_number product_of sum_of is
  function_reads ts e d u a m h g =
      let text = sc.text in
      let p = split normally text a m (w ∷ bytes "=" ∷ bytes "(" ∷ ts) (bytes ")" ∷ bytes ")" ∷ bytes ";" ∷ []) g in
      let q = split normally text a p.place (w ∷ bytes "=" ∷ bytes "(" ∷ []) ts p.first in
      let i1 = (spells_in normally text a q.place (w ∷ bytes "=" ∷ bytes "(" ∷ []) h q.first).1 in
      let i2 = (spells_in normally text q.place p.place ts i1 q.second).1 in
      function_goes a q.place p.place m e
      (phrase_reads normally text (value_opening w) refl (nm, tt) a q.place h q.first)
      (spelled_expression sc good ts e d u q.place p.place i1 q.second close_round p.second.1.start p.second.0 (fixed_at normally text close_round refl p.place p.second.0 i2 p.second.1) (refl, refl))
      (followed_reads normally text function_closing refl tt (function v e) p.place m i2 p.second)

  -- ---- a change formula and its no-change formula, after `v: GX(~`

  agreeing_goes : (cases : List Spanned) (cs : List Condition) (a m : ℕ) → plain_list sc a ≡ accepted cs m → parts_from sc.text cases a ≡ agrees m → agreeing_list sc cases a ≡ accepted cs m
  unfolding agreeing_list first_found
  agreeing_goes cases cs a m e1 e2 = rw (e2, e1)

  change_goes : (cases : List Spanned) (cs : List Condition) (a n1 n2 n3 n4 n5 : ℕ) → phrase sc.text (change_opening w) a ≡ accepted tt n1 → cases_from case_limit sc w [] n1 ≡ accepted cases n2 → phrase sc.text (no_change_opening w) n2 ≡ accepted tt n3 → agreeing_list sc cases n3 ≡ accepted cs n4 → followed sc.text formula_closing (change v (cases_of cases) cs) n4 ≡ accepted (change v (cases_of cases) cs) n5 → change_at sc w v a ≡ accepted (change v (cases_of cases) cs) n5
  unfolding change_at
  change_goes cases cs a n1 n2 n3 n4 n5 e1 e2 e3 e4 e5 = rw (e1, e2, e3, e4) e5

  change_reads : (ts ls : List (List ℕ)) (ks : List Case) (cs : List Condition) → SpellsCases (normals sc.names) w ts ls ks → length ks ≤ case_limit → SpellsList (normals sc.names) ls cs → UsableK sc.known ks → (a m : ℕ) → a ≤ length sc.text → Spells normal sc.text a m ((head_tokens w ++ ts) ++ (middle_tokens w ++ ls) ++ bytes ")" ∷ bytes ")" ∷ bytes ";" ∷ []) → change_at sc w v a ≡ accepted (change v ks cs) m
  unfolding signs is_fixed kind_number is
  change_reads ts ls ks cs d room e u a m h g =
      let text = sc.text in
      let p = split normally text a m ((head_tokens w ++ ts) ++ (middle_tokens w ++ ls)) (bytes ")" ∷ bytes ")" ∷ bytes ";" ∷ []) g in
      let q = split normally text a p.place (head_tokens w ++ ts) (middle_tokens w ++ ls) p.first in
      let r = split normally text a q.place (head_tokens w) ts q.first in
      let t = split normally text q.place p.place (middle_tokens w) ls q.second in
      let i1 = (spells_in normally text a r.place (head_tokens w) h r.first).1 in
      let i2 = (spells_in normally text r.place q.place ts i1 r.second).1 in
      let i3 = (spells_in normally text q.place t.place (middle_tokens w) i2 t.first).1 in
      let i4 = (spells_in normally text t.place p.place ls i3 t.second).1 in
      let n4 = p.second.0 in
      let i5 = (stands_in normally text p.place n4 (bytes ")") i4 p.second.1).1 in
      let close = spells_append normally text t.place p.place n4 ls (bytes ")" ∷ []) t.second (n4, p.second.1, refl) in
      let x = cases_read sc good w nm case_limit [] ts ls ks d u room r.place q.place i1 r.second close_round t.first.1.start t.first.0 (fixed_at normally text close_round refl q.place t.first.0 i2 t.first.1) refl in
      subst (λ (l : List Case). change_at sc w v a ≡ accepted (change v l cs) m) x.are_cases
      (change_goes x.spans cs a r.place q.place t.place n4 m
      (phrase_reads normally text (change_opening w) refl (nm, (nm, tt)) a r.place h r.first) x.reads
      (phrase_reads normally text (no_change_opening w) refl (nm, (nm, (nm, tt))) q.place t.place i2 t.first)
      (agreeing_goes x.spans cs t.place n4 (no_change_reads sc good w ts ls ks cs d e u room t.place n4 i3 close) (spells_parts text x.spans ls x.lists t.place n4 i3 close))
      (followed_reads normally text formula_closing refl tt (change v (cases_of x.spans) cs) n4 m i5 p.second.2))

  -- ---- the formulas of w, after its name

  -- after a colon
  formulas_formula : (r : Rule) (a s m e : ℕ) → token_at sc.text a ≡ token colon s m → formula_at sc w v a ≡ accepted r e → formulas sc w v a ≡ accepted r e
  unfolding formulas is kind_number
  formulas_formula r a s m e e1 e2 = rw e1 e2

  formula_change : (r : Rule) (a n s m e : ℕ) → phrase sc.text rule_opening a ≡ accepted tt n → token_at sc.text n ≡ token tilde s m → change_at sc w v m ≡ accepted r e → formula_at sc w v a ≡ accepted r e
  unfolding formula_at is kind_number
  formula_change r a n s m e e1 e2 e3 = rw (e1, e2) e3

  formula_function : (r : Rule) (a n s m e : ℕ) → phrase sc.text rule_opening a ≡ accepted tt n → token_at sc.text n ≡ token name s m → function_at sc w v n ≡ accepted r e → formula_at sc w v a ≡ accepted r e
  unfolding formula_at is kind_number
  formula_function r a n s m e e1 e2 e3 = rw (e1, e2) e3

  -- ---- a pair, after `v+`

  formulas_pair : (r : Rule) (a s m e : ℕ) → token_at sc.text a ≡ token plus s m → pair_at sc w v m ≡ accepted r e → formulas sc w v a ≡ accepted r e
  unfolding formulas is kind_number
  formulas_pair r a s m e e1 e2 = rw e1 e2

  pair_goes : (ups downs : List Spanned) (ks js : List Case) → cases_of ups ≡ ks → cases_of downs ≡ js → (a n1 n2 n3 n4 n5 : ℕ) → phrase sc.text (turned_opening greater w) a ≡ accepted tt n1 → cases_from case_limit sc w [] n1 ≡ accepted ups n2 → phrase sc.text (falling_opening w) n2 ≡ accepted tt n3 → cases_from (case_limit - length ups) sc w [] n3 ≡ accepted downs n4 → followed sc.text formula_closing (pair_rule v ks js) n4 ≡ accepted (pair_rule v ks js) n5 → pair_at sc w v a ≡ accepted (pair_rule v ks js) n5
  unfolding pair_at
  pair_goes ups downs ks js eu ed a n1 n2 n3 n4 n5 e1 e2 e3 e4 e5 = rw (e1, e2, e3, e4, eu, ed) e5

  pair_reads : (ts ls us ms : List (List ℕ)) (ks js : List Case) → SpellsCases (normals sc.names) w ts ls ks → SpellsCases (normals sc.names) w us ms js → length ks + length js ≤ case_limit → UsableK sc.known (pair_cases ks js) → (a m : ℕ) → a ≤ length sc.text → Spells normal sc.text a m ((rise_tokens w ++ ts) ++ (fall_tokens w ++ us) ++ bytes ")" ∷ bytes ";" ∷ []) → pair_at sc w v a ≡ accepted (pair_rule v ks js) m
  unfolding signs is_fixed kind_number is
  pair_reads ts ls us ms ks js d f room u a m h g =
      let text = sc.text in
      let p = split normally text a m ((rise_tokens w ++ ts) ++ (fall_tokens w ++ us)) (bytes ")" ∷ bytes ";" ∷ []) g in
      let q = split normally text a p.place (rise_tokens w ++ ts) (fall_tokens w ++ us) p.first in
      let r = split normally text a q.place (rise_tokens w) ts q.first in
      let t = split normally text q.place p.place (fall_tokens w) us q.second in
      let i1 = (spells_in normally text a r.place (rise_tokens w) h r.first).1 in
      let i2 = (spells_in normally text r.place q.place ts i1 r.second).1 in
      let i3 = (spells_in normally text q.place t.place (fall_tokens w) i2 t.first).1 in
      let i4 = (spells_in normally text t.place p.place us i3 t.second).1 in
      let x = cases_read sc good w nm case_limit [] ts ls ks d (ups_usable sc.known ks js u) (omega (arith, room)) r.place q.place i1 r.second close_round t.first.1.start t.first.0 (fixed_at normally text close_round refl q.place t.first.0 i2 t.first.1) refl in
      let l = counted_cases x.spans ks x.are_cases in
      let y = cases_read sc good w nm (case_limit - length x.spans) [] us ms js f (downs_usable sc.known ks js u) (omega (arith, l, room)) t.place p.place i3 t.second close_round p.second.1.start p.second.0 (fixed_at normally text close_round refl p.place p.second.0 i4 p.second.1) refl in
      pair_goes x.spans y.spans ks js x.are_cases y.are_cases a r.place q.place t.place p.place m
      (phrase_reads normally text (turned_opening greater w) refl (nm, (nm, tt)) a r.place h r.first) x.reads
      (phrase_reads normally text (falling_opening w) refl (nm, (nm, (nm, tt))) q.place t.place i2 t.first) y.reads
      (followed_reads normally text formula_closing refl tt (pair_rule v ks js) p.place m i4 p.second)

-- ---- a rule

-- where a rule's name stands, and what is read after it
pub record RuleReads (xs : List Timer) (sc : Scope) (a m : ℕ) (r : Rule) : Type 0 where
  pub start : ℕ
  pub place : ℕ
  pub is_name : token_at sc.text a ≡ token name start place
  pub reads : rule_at xs sc start place ≡ accepted r m

module _ (xs : List Timer) (sc : Scope) (good : Named sc.names) where
  rule_goes : (w : List ℕ) (v s n m : ℕ) (r : Rule) → s ≤ n → n ≤ length sc.text → SpellsName (part sc.text s n) → normal (part sc.text s n) ≡ w → get_elem? (normals sc.names) v ≡ some w → taken xs sc.known v ≡ false → formulas sc w v n ≡ accepted r m → rule_at xs sc s n ≡ accepted r m
  unfolding rule_at
  rule_goes w v s n m r h i nm e ev new reads =
      let u = part sc.text s n in
      named_id sc good {A = Rule} s s n v w _ h i nm e ev ∙ rw (new, formulas_same sc u w (sym (normal_twice u nm) ∙ ap capitals e) v n) reads

  rule_reads : (ts : List (List ℕ)) (r : Rule) → SpellsR (normals sc.names) ts r → UsableR sc.known r → taken xs sc.known (target r) ≡ false → (a m : ℕ) → a ≤ length sc.text → Spells normal sc.text a m ts → RuleReads xs sc a m r
  unfolding signs is_fixed kind_number
  rule_reads ts r (a_function w v us e ev d) u new a m h g =
      let text = sc.text in
      let nm = each_normal sc.names good v w ev in
      let st = g.1 in
      let n = g.0 in
      let mv = token_at_moved text a st.kind st.start n h (is_read st) in
      let tail = w ∷ bytes "=" ∷ bytes "(" ∷ us ++ bytes ")" ∷ bytes ")" ∷ bytes ";" ∷ [] in
      let p = split normally text n m (bytes ":" ∷ bytes "GX" ∷ bytes "(" ∷ []) tail g.2 in
      let i = (spells_in normally text n p.place (bytes ":" ∷ bytes "GX" ∷ bytes "(" ∷ []) mv.2 p.first).1 in
      record {
        start = st.start;
        place = n;
        is_name = name_at_lem normally text w nm a n h st;
        reads = rule_goes w v st.start n m (function v e) mv.1 mv.2 (stands_raw normally text name w (spells_normal sc good v w ev) a n h st) st.spelled ev new
            (formulas_formula sc good w nm v (function v e) n g.2.1.start g.2.0 m (fixed_at normally text colon refl n g.2.0 mv.2 g.2.1)
            (formula_function sc good w nm v (function v e) n p.place p.second.1.start p.second.0 m
            (phrase_reads normally text rule_opening refl tt n p.place mv.2 p.first)
            (name_at_lem normally text w nm p.place p.second.0 i p.second.1)
            (function_reads sc good w nm v us e d u p.place m i p.second)));
      }
  rule_reads ts r (a_change w v us ls ks cs ev d room e) u new a m h g =
      let text = sc.text in
      let nm = each_normal sc.names good v w ev in
      let st = g.1 in
      let n = g.0 in
      let mv = token_at_moved text a st.kind st.start n h (is_read st) in
      let tail = (head_tokens w ++ us) ++ (middle_tokens w ++ ls) ++ bytes ")" ∷ bytes ")" ∷ bytes ";" ∷ [] in
      let p = split normally text n m (bytes ":" ∷ bytes "GX" ∷ bytes "(" ∷ []) (bytes "~" ∷ tail) g.2 in
      let i = (spells_in normally text n p.place (bytes ":" ∷ bytes "GX" ∷ bytes "(" ∷ []) mv.2 p.first).1 in
      let j = (stands_in normally text p.place p.second.0 (bytes "~") i p.second.1).1 in
      record {
        start = st.start;
        place = n;
        is_name = name_at_lem normally text w nm a n h st;
        reads = rule_goes w v st.start n m (change v ks cs) mv.1 mv.2 (stands_raw normally text name w (spells_normal sc good v w ev) a n h st) st.spelled ev new
            (formulas_formula sc good w nm v (change v ks cs) n g.2.1.start g.2.0 m (fixed_at normally text colon refl n g.2.0 mv.2 g.2.1)
            (formula_change sc good w nm v (change v ks cs) n p.place p.second.1.start p.second.0 m
            (phrase_reads normally text rule_opening refl tt n p.place mv.2 p.first)
            (fixed_at normally text tilde refl p.place p.second.0 i p.second.1)
            (change_reads sc good w nm v us ls ks cs d room e u p.second.0 m j p.second.2)));
      }
  rule_reads ts r (a_pair w v us ls ys ms ks js ev d f room) u new a m h g =
      let text = sc.text in
      let nm = each_normal sc.names good v w ev in
      let st = g.1 in
      let n = g.0 in
      let mv = token_at_moved text a st.kind st.start n h (is_read st) in
      let j = (stands_in normally text n g.2.0 (bytes "+") mv.2 g.2.1).1 in
      record {
        start = st.start;
        place = n;
        is_name = name_at_lem normally text w nm a n h st;
        reads = rule_goes w v st.start n m (pair_rule v ks js) mv.1 mv.2 (stands_raw normally text name w (spells_normal sc good v w ev) a n h st) st.spelled ev new
            (formulas_pair sc good w nm v (pair_rule v ks js) n g.2.1.start g.2.0 m
            (fixed_at normally text plus refl n g.2.0 mv.2 g.2.1)
            (pair_reads sc good w nm v us ls ys ms ks js d f room u g.2.0 m j g.2.2));
      }

-- ---- all rules

-- how many names have no rule yet
abbrev pub unruled : List Bool → ℕ
unruled [] = 0
unruled (true ∷ l) = unruled l
unruled (false ∷ l) = suc (unruled l)

rule_counts : (known : List Bool) (v : ℕ) → v < length known → get_or known v false ≡ false → unruled known ≡ suc (unruled (set known v true))
rule_counts [] v h e = absurd (omega arith)
rule_counts (true ∷ l) zero h e = let z : ◌≡◌ {A = ℕ} 0 1 = cc in absurd (omega arith)
rule_counts (false ∷ l) zero h e = refl
rule_counts (true ∷ l) (suc v) h e = rule_counts l v (omega arith) e
rule_counts (false ∷ l) (suc v) h e = ap suc (rule_counts l v (omega arith) e)

set_counts : (known : List Bool) (v : ℕ) → unruled (set known v true) ≤ unruled known
set_counts [] v = omega arith
set_counts (true ∷ l) zero = omega arith
set_counts (false ∷ l) zero = omega arith
set_counts (true ∷ l) (suc v) = set_counts l v
set_counts (false ∷ l) (suc v) = omega (arith, set_counts l v)

timers_count : (v : ℕ) (xs : List Timer) (known : List Bool) → unruled (timers_known v xs known) ≤ unruled known
timers_count v [] known = omega arith
timers_count v (x ∷ xs) known = go (eqb x.watched v) (timers_count v xs (set known x.id true)) (timers_count v xs known)
  where
    go : (b : Bool) → unruled (timers_known v xs (set known x.id true)) ≤ unruled (set known x.id true) → unruled (timers_known v xs known) ≤ unruled known → unruled (timers_known v xs (cond b (set known x.id true) known)) ≤ unruled known
    go true h g = omega (arith, h, set_counts known x.id)
    go false h g = g

-- after a rule one name less has none, or fewer
pub rule_leaves : (xs : List Timer) (known : List Bool) (v : ℕ) → v < length known → taken xs known v ≡ false → unruled (timers_known v xs (set known v true)) < unruled known
rule_leaves xs known v h e = omega (arith, timers_count v xs (set known v true), rule_counts known v h (not_taken xs known v e).1)

pub unruled_few : (known : List Bool) → unruled known ≤ length known
unruled_few [] = omega arith
unruled_few (true ∷ l) = omega (arith, unruled_few l)
unruled_few (false ∷ l) = omega (arith, unruled_few l)

rules_on : (xs : List Timer) (sc : Scope) (f a s n m : ℕ) (done : List Rule) (r : Rule) → token_at sc.text a ≡ token name s n → rule_at xs sc s n ≡ accepted r m → rules_from (suc f) xs sc done a ≡ rules_from f xs (ruled xs sc (target r)) (done ++ (r ∷ [])) m
unfolding rules_from is kind_number
rules_on xs sc f a s n m done r e1 e2 = rw (e1, e2)

-- up to a token that is no name
rules_end : (xs : List Timer) (sc : Scope) (f a : ℕ) (k : Kind) (s n : ℕ) (done : List Rule) → token_at sc.text a ≡ token k s n → is k name ≡ false → rules_from (suc f) xs sc done a ≡ accepted (record { rules = done; known = sc.known }) a
unfolding rules_from
rules_end xs sc f a k s n done e1 e2 = rw (e1, e2)

pub rules_read : (f : ℕ) (xs : List Timer) (sc : Scope) → Named sc.names → (done : List Rule) (ts : List (List ℕ)) (rs : List Rule) → SpellsRules (normals sc.names) ts rs → OrderedRules xs sc.known rs → unruled sc.known < f → (a n : ℕ) → a ≤ length sc.text → Spells normal sc.text a n ts → (k : Kind) (s m : ℕ) → token_at sc.text n ≡ token k s m → is k name ≡ false → rules_from f xs sc done a ≡ accepted (record { rules = done ++ rs; known = known_after xs sc.known rs }) n
rules_read zero xs sc good done ts rs d o fuel a n h g k s m et other = absurd (omega arith)
rules_read (suc f) xs sc good done ts rs S.SpellsRules.none o fuel a n h g k s m et other =
    rules_end xs sc f a k s m done (subst (λ (y : ℕ). token_at sc.text y ≡ token k s m) (sym g) et) other
    ∙ ap₂ (λ (y : List Rule) (z : ℕ). accepted (record { rules = y; known = sc.known }) z) (sym (append-nil done)) g
rules_read (suc f) xs sc good done ts rs (S.SpellsRules.more us vs r qs d e) o fuel a n h g k s m et other =
    let p = split normally sc.text a n us vs g in
    let i = (spells_in normally sc.text a p.place us h p.first).1 in
    let x = rule_reads xs sc good us r d o.0 o.2 a p.place h p.first in
    let c = rule_leaves xs sc.known (target r) (ltb→lt (target r) (length sc.known) o.1) o.2 in
    rules_on xs sc f a x.start x.place p.place done r x.is_name x.reads
    ∙ (rules_read f xs (ruled xs sc (target r)) good (done ++ (r ∷ [])) vs qs e o.3 (omega arith) p.place n i p.second k s m et other
    ∙ ap (λ (y : List Rule). accepted (record { rules = y; known = known_after xs sc.known (r ∷ qs) }) n) (append_assoc done (r ∷ []) qs))

-- `item_bound` rules are enough
pub few_unruled : (known : List Bool) → length known ≤ 64 → unruled known < item_bound
few_unruled known h = omega (arith, unruled_few known)
