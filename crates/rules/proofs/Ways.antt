-- The ways through a function, a change formula with its no-change formula, and a rule: what each comes to. Assumes nothing.
use mathlib.Core.Path.{◌≡◌, refl, sym, ap, ◌∙◌, subst}
use mathlib.Core.List.{List, [], ◌∷◌, ◌++◌, append_assoc, append-nil}
use mathlib.Core.Bool.{true, false}
use mathlib.Core.Option.{none, some}
use Prim.Native.Nat.{ℕ, ◌+◌, ◌-◌, ◌≤◌, ◌<◌}
use native.Mathlib.Omega.{arith}
use lib.ListN.{length, get_or, length-append}
use lib.Seq.{sets}
use Rattle.limits.specs.Limits.{case_limit, wrong_name, wrong_rule, too_many}
use Rattle.limits.specs.Refusals.{refusal_number, refusal_place}
use Rattle.limits.specs.declared.Refusal.{Refusal}
use Rattle.limits.specs.declared.Refusal.TheVariants.{NoToken}
use Rattle.leb128.specs.Numbers.{number}
use Rattle.lexer.specs.Bytes.{part, capitals}
use Rattle.lexer.specs.Token.{Kind, tilde, greater, plus, is, token, fault}
use Rattle.lexer.specs.Lexer.{token_at, over_long}
use Rattle.lexer.specs.Names.{id_of}
use Rattle.lexer.proofs.Laws.{cond_prop}
use Rattle.semantics.specs.Program.{Expression, Condition, changing, Rule, Timer, function, change, target, is_timer, taken}
use Rattle.grammar.specs.Parsed.{Parsed, accepted, refused, Wanted, phrase, followed}
use Rattle.grammar.specs.Expressions.{Scope, with_id, whole_expression}
use Rattle.grammar.specs.Rules.{Spanned, cases_from, agreeing_list, cases_of, function_at, change_at, pair_at, formula_at, formulas, rule_at}
use Rattle.grammar.specs.Pairs.{pair_rule}
use Rattle.grammar.specs.Inner.Bytes.{bytes_e, bytes_k, bytes_t, bytes_r}
use Rattle.grammar.proofs.Bytes.{id_of_lem}
use Rattle.grammar.proofs.Combine.{token_prop, then_prop, option_prop}
use Rattle.grammar.proofs.Growth.{Kept, phrase_kept}
use Rattle.grammar.specs.Derivation.{normals}
use Rattle.grammar.proofs.Lists.{cases_seen}
use Rattle.grammar.proofs.Pairing.{length_cases, cases_level, picked_side, picked_length, pair_bytes}
use Rattle.grammar.proofs.Size.{Pays, cases_pay}
use Rattle.expressions.specs.Inner.Steps.{Room}
use Rattle.expressions.proofs.Steps.{Refuses}
use Rattle.agreement.specs.Inner.Spans.{spans_in, spans_of, Spans}
use Rattle.grammar.specs.Forms.{rule_opening, formula_closing, function_closing, value_opening, change_opening, no_change_opening, turned_opening, falling_opening}
use Rattle.cases.specs.Inner.Kept.{code_of_cases, Lists, ListKept}
use Rattle.lexer.specs.declared.Place.{Place}
use Rattle.phrases.specs.Inner.Steps.{number_told}
use Rattle.phrases.proofs.Writing.{Got}
use Rattle.cases.proofs.Parts.{phrase_fault, behind_refused}
use Rattle.cases.proofs.Ways.{then_bytes}
use Rattle.rules.specs.Inner.Spans.{code_of_rule}

-- ---- a function

module _ (sc : Scope) (w : List ℕ) (v at : ℕ) where
  pub value_unopened : {k q : ℕ} → phrase sc.text (value_opening w) at ≡ refused k q → function_at sc w v at ≡ refused k q
  unfolding function_at
  value_unopened e = rw e

  module _ {n1 : ℕ} (e1 : phrase sc.text (value_opening w) at ≡ accepted tt n1) where
    pub value_refused : {k q : ℕ} → Refuses sc.text (whole_expression sc n1) k q → function_at sc w v at ≡ refused k q
    unfolding function_at followed
    value_refused r = rw e1 (behind_refused sc.text _ (λ e m q f. rw (phrase_fault sc.text _ _ m q f)) (whole_expression sc n1) r)

    module _ {e : Expression} {n2 : ℕ} (e2 : whole_expression sc n1 ≡ accepted e n2) where
      pub value_unclosed : {k q : ℕ} → phrase sc.text function_closing n2 ≡ refused k q → function_at sc w v at ≡ refused k q
      unfolding function_at followed
      value_unclosed e3 = rw (e1, e2, e3)

      pub function_accepted : {n3 : ℕ} → phrase sc.text function_closing n2 ≡ accepted tt n3 → function_at sc w v at ≡ accepted (function v e) n3
      unfolding function_at followed
      function_accepted e3 = rw (e1, e2, e3)

-- its bytes
pub function_bytes : (before : List ℕ) {mid after : List ℕ} (to : ℕ) {t : ℕ} (v : ℕ) (e : Expression) → t ≡ to + length (bytes_e e) → mid ≡ sets before to (bytes_e e) → after ≡ sets mid t (21 ∷ number v) → after ≡ sets before to (code_of_rule (function v e))
unfolding bytes_r bytes_t
function_bytes before to v e ht hm ha = rw (append-nil (number v)) (then_bytes before to (bytes_e e) (21 ∷ number v) ht hm ha)

pub function_length : (to : ℕ) {t u : ℕ} (v : ℕ) (e : Expression) → t ≡ to + length (bytes_e e) → u ≡ t + length (21 ∷ number v) → u ≡ to + length (code_of_rule (function v e))
unfolding bytes_r bytes_t
function_length to v e ht hu = simp length-append (omega arith)

-- ---- a change formula and its no-change formula

module _ (sc : Scope) (w : List ℕ) (v at : ℕ) where
  pub change_unopened : {k q : ℕ} → phrase sc.text (change_opening w) at ≡ refused k q → change_at sc w v at ≡ refused k q
  unfolding change_at
  change_unopened e = rw e

  module _ {n1 : ℕ} (e1 : phrase sc.text (change_opening w) at ≡ accepted tt n1) where
    pub cases_refused : {k q : ℕ} → cases_from case_limit sc w [] n1 ≡ refused k q → change_at sc w v at ≡ refused k q
    unfolding change_at
    cases_refused e2 = rw (e1, e2)

    module _ {cs : List Spanned} {n2 : ℕ} (e2 : cases_from case_limit sc w [] n1 ≡ accepted cs n2) where
      pub no_change_unopened : {k q : ℕ} → phrase sc.text (no_change_opening w) n2 ≡ refused k q → change_at sc w v at ≡ refused k q
      unfolding change_at
      no_change_unopened e3 = rw (e1, e2, e3)

      module _ {n3 : ℕ} (e3 : phrase sc.text (no_change_opening w) n2 ≡ accepted tt n3) where
        pub list_refused : {k q : ℕ} → agreeing_list sc cs n3 ≡ refused k q → change_at sc w v at ≡ refused k q
        unfolding change_at
        list_refused e4 = rw (e1, e2, e3, e4)

        module _ {ds : List Condition} {n4 : ℕ} (e4 : agreeing_list sc cs n3 ≡ accepted ds n4) where
          pub change_unclosed : {k q : ℕ} → phrase sc.text formula_closing n4 ≡ refused k q → change_at sc w v at ≡ refused k q
          unfolding change_at followed
          change_unclosed e5 = rw (e1, e2, e3, e4, e5)

          pub change_accepted : {n5 : ℕ} → phrase sc.text formula_closing n4 ≡ accepted tt n5 → change_at sc w v at ≡ accepted (change v (cases_of cs) ds) n5
          unfolding change_at followed
          change_accepted e5 = rw (e1, e2, e3, e4, e5)

-- the cases of a change formula are written with code 20
pub level_code : (sc : Scope) (w : List ℕ) (v n1 : ℕ) → n1 ≤ length sc.text → {cs : List Spanned} {n2 : ℕ} → cases_from case_limit sc w [] n1 ≡ accepted cs n2 → code_of_cases 20 v cs ≡ bytes_k v (cases_of cs)
level_code sc w v n1 h {cs} {n2} e =
    let r = cases_seen sc case_limit w n1 n2 cs h e in
    rw r.is_more (picked_side changing v (cases_of r.more) ∙ ap (bytes_k v) (cases_level (normals sc.names) (capitals w) r.tokens r.list (cases_of r.more) r.derives))

pub change_bytes : (before : List ℕ) {mid after : List ℕ} (to : ℕ) {t : ℕ} (v : ℕ) (cs : List Spanned) (ds : List Condition) → code_of_cases 20 v cs ≡ bytes_k v (cases_of cs) → t ≡ to + length (code_of_cases 20 v cs) → mid ≡ sets before to (code_of_cases 20 v cs) → after ≡ sets mid t (22 ∷ number v) → after ≡ sets before to (code_of_rule (change v (cases_of cs) ds))
unfolding bytes_r bytes_t
change_bytes before to v cs ds level ht hm ha =
    rw (append-nil (number v)) (then_bytes before to (bytes_k v (cases_of cs)) (22 ∷ number v) (ht ∙ ap (λ (l : List ℕ). to + length l) level) (hm ∙ ap (sets before to) level) ha)

pub change_length : (to : ℕ) {t u : ℕ} (v : ℕ) (cs : List Spanned) (ds : List Condition) → code_of_cases 20 v cs ≡ bytes_k v (cases_of cs) → t ≡ to + length (code_of_cases 20 v cs) → u ≡ t + length (22 ∷ number v) → u ≡ to + length (code_of_rule (change v (cases_of cs) ds))
unfolding bytes_r bytes_t
change_length to v cs ds level ht hu = simp length-append (omega (arith, ht ∙ ap (λ (l : List ℕ). to + length l) level))

-- ---- a pair

module _ (sc : Scope) (w : List ℕ) (v at : ℕ) where
  pub pair_unopened : {k q : ℕ} → phrase sc.text (turned_opening greater w) at ≡ refused k q → pair_at sc w v at ≡ refused k q
  unfolding pair_at
  pair_unopened e = rw e

  module _ {n1 : ℕ} (e1 : phrase sc.text (turned_opening greater w) at ≡ accepted tt n1) where
    pub ups_refused : {k q : ℕ} → cases_from case_limit sc w [] n1 ≡ refused k q → pair_at sc w v at ≡ refused k q
    unfolding pair_at
    ups_refused e2 = rw (e1, e2)

    module _ {ups : List Spanned} {n2 : ℕ} (e2 : cases_from case_limit sc w [] n1 ≡ accepted ups n2) where
      pub falling_unopened : {k q : ℕ} → phrase sc.text (falling_opening w) n2 ≡ refused k q → pair_at sc w v at ≡ refused k q
      unfolding pair_at
      falling_unopened e3 = rw (e1, e2, e3)

      module _ {n3 : ℕ} (e3 : phrase sc.text (falling_opening w) n2 ≡ accepted tt n3) where
        -- as many are left as the number told says
        pub downs_refused : {m : ℕ} → m ≡ length ups → {k q : ℕ} → cases_from (case_limit - m) sc w [] n3 ≡ refused k q → pair_at sc w v at ≡ refused k q
        unfolding pair_at
        downs_refused same e4 = rw (e1, e2, e3, ← same, e4)

        module _ {m : ℕ} (same : m ≡ length ups) {downs : List Spanned} {n4 : ℕ} (e4 : cases_from (case_limit - m) sc w [] n3 ≡ accepted downs n4) where
          pub pair_unclosed : {k q : ℕ} → phrase sc.text formula_closing n4 ≡ refused k q → pair_at sc w v at ≡ refused k q
          unfolding pair_at followed
          pair_unclosed e5 = rw (e1, e2, e3, ← same, e4, e5)

          pub pair_accepted : {n5 : ℕ} → phrase sc.text formula_closing n4 ≡ accepted tt n5 → pair_at sc w v at ≡ accepted (pair_rule v (cases_of ups) (cases_of downs)) n5
          unfolding pair_at followed
          pair_accepted e5 = rw (e1, e2, e3, ← same, e4, e5)

-- at most 32 rising cases
pub few_cases : (sc : Scope) (w : List ℕ) (n1 : ℕ) → n1 ≤ length sc.text → {cs : List Spanned} {n2 : ℕ} → cases_from case_limit sc w [] n1 ≡ accepted cs n2 → length cs ≤ case_limit
few_cases sc w n1 h {cs} {n2} e =
    let r = cases_seen sc case_limit w n1 n2 cs h e in
    rw r.is_more (omega (arith, length_cases r.more, r.counted))

pub pair_written : (before : List ℕ) {mid1 mid2 after : List ℕ} (to : ℕ) {t u : ℕ} (v : ℕ) (ups downs : List Spanned) → t ≡ to + length (code_of_cases 24 v ups) → mid1 ≡ sets before to (code_of_cases 24 v ups) → u ≡ t + length (code_of_cases 25 v downs) → mid2 ≡ sets mid1 t (code_of_cases 25 v downs) → after ≡ sets mid2 u (22 ∷ number v) → after ≡ sets before to (code_of_rule (pair_rule v (cases_of ups) (cases_of downs)))
unfolding bytes_r bytes_t
pair_written before {mid1} to {t} v ups downs ht h1 hu h2 h3 =
    rw (append-nil (number v), pair_bytes v (cases_of ups) (cases_of downs), append_assoc (code_of_cases 24 v ups) (code_of_cases 25 v downs) (22 ∷ number v))
    (then_bytes before to (code_of_cases 24 v ups) (code_of_cases 25 v downs ++ (22 ∷ number v)) ht h1 (then_bytes mid1 t (code_of_cases 25 v downs) (22 ∷ number v) hu h2 h3))

pub pair_ended : (to : ℕ) {t u x : ℕ} (v : ℕ) (ups downs : List Spanned) → t ≡ to + length (code_of_cases 24 v ups) → u ≡ t + length (code_of_cases 25 v downs) → x ≡ u + length (22 ∷ number v) → x ≡ to + length (code_of_rule (pair_rule v (cases_of ups) (cases_of downs)))
unfolding bytes_r bytes_t
pair_ended to v ups downs ht hu hx = rw (pair_bytes v (cases_of ups) (cases_of downs)) (simp length-append (omega arith))

module _ (sc : Scope) (w : List ℕ) (pick v n1 to : ℕ) {before after : List ℕ} {x : Place} where
  -- room behind the cases, and behind the tokens that follow them
  pub room_cases : (limit : ℕ) (few : length sc.names ≤ 64) → v < 64 → Room sc.text n1 to → Got (code_of_cases pick v) number_told length (cases_from limit sc w [] n1) to before after x → Room sc.text x.at x.to
  unfolding bytes_k
  room_cases limit few hv r g =
      let p = subst (Pays (λ (cs : List Spanned). length (bytes_k v (cases_of cs))) (length sc.text) n1) g.is (cases_pay sc few v hv w limit [] n1 n1 r.within (omega arith)) in
      record { short = r.short; within = p.1; room = omega (arith, picked_length pick v (cases_of g.tree), g.ended, p.0, r.room) }

  -- the spans that are told
  pub told_spans : {from upto : List ℕ} → Lists (cases_from case_limit sc w [] n1) sc.text from upto → Got (code_of_cases pick v) number_told length (cases_from case_limit sc w [] n1) to before after x → Spans sc.text from upto x.number
  told_spans l g = rw g.tells_it (l.held g.tree x.at g.is)

  pub told_listed : {from upto : List ℕ} → Lists (cases_from case_limit sc w [] n1) sc.text from upto → (g : Got (code_of_cases pick v) number_told length (cases_from case_limit sc w [] n1) to before after x) → spans_of g.tree ≡ spans_in from upto x.number
  told_listed l g = rw g.tells_it (l.listed g.tree x.at g.is)

  pub told_kept : {from upto : List ℕ} → n1 ≤ length sc.text → Lists (cases_from case_limit sc w [] n1) sc.text from upto → Got (code_of_cases pick v) number_told length (cases_from case_limit sc w [] n1) to before after x → ListKept sc from upto x.number
  told_kept h l g = record { variable = w; place = n1; end = x.at; cases = g.tree; within = h; read = g.is; spans = told_listed l g }

pub room_list : {text : List ℕ} (ws : List Wanted) {n m t : ℕ} → Room text n t → phrase text ws n ≡ accepted tt m → Room text m 0
room_list {text} ws {n} r e =
    let k = subst (Kept (length text) n) e (phrase_kept text ws n r.within) in
    record { short = r.short; within = k.1; room = omega arith }

-- ---- one or the other, after the variable's name

module _ (sc : Scope) (w : List ℕ) (v at : ℕ) where
  pub formula_unopened : {k q : ℕ} → phrase sc.text rule_opening at ≡ refused k q → formula_at sc w v at ≡ refused k q
  unfolding formula_at
  formula_unopened e = rw e

  module _ {n : ℕ} (e : phrase sc.text rule_opening at ≡ accepted tt n) where
    pub formula_fault : {e : Refusal} → (token_at sc.text n ≡ fault (refusal_place e)) × (e ≡ NoToken (refusal_place e)) → formula_at sc w v at ≡ refused (refusal_number e) (refusal_place e)
    unfolding formula_at
    formula_fault f = rw (e, f.0, f.1)

    module _ {k : Kind} {s m : ℕ} (f : token_at sc.text n ≡ token k s m) where
      pub formula_change : is k tilde ≡ true → formula_at sc w v at ≡ change_at sc w v m
      unfolding formula_at
      formula_change i = rw (e, f, i)

      pub formula_function : is k tilde ≡ false → formula_at sc w v at ≡ function_at sc w v n
      unfolding formula_at
      formula_function i = rw (e, f, i)

-- ---- a pair, or one of these

module _ (sc : Scope) (w : List ℕ) (v at : ℕ) where
  pub formulas_fault : {e : Refusal} → (token_at sc.text at ≡ fault (refusal_place e)) × (e ≡ NoToken (refusal_place e)) → formulas sc w v at ≡ refused (refusal_number e) (refusal_place e)
  unfolding formulas
  formulas_fault f = rw (f.0, f.1)

  module _ {k : Kind} {s m : ℕ} (f : token_at sc.text at ≡ token k s m) where
    pub formulas_pair : is k plus ≡ true → formulas sc w v at ≡ pair_at sc w v m
    unfolding formulas
    formulas_pair i = rw (f, i)

    pub formulas_formula : is k plus ≡ false → formulas sc w v at ≡ formula_at sc w v at
    unfolding formulas
    formulas_formula i = rw (f, i)

-- ---- a rule, from its name

module _ (ts : List Timer) (sc : Scope) (s n : ℕ) where
  pub rule_long : over_long s n ≡ true → rule_at ts sc s n ≡ refused too_many s
  unfolding rule_at with_id
  rule_long e = rw e

  module _ (short : over_long s n ≡ false) where
    pub rule_unknown : id_of sc.names (part sc.text s n) ≡ none → rule_at ts sc s n ≡ refused wrong_name s
    unfolding rule_at with_id
    rule_unknown e = rw (short, e)

    module _ {v : ℕ} (e : id_of sc.names (part sc.text s n) ≡ some v) where
      pub rule_timer : is_timer ts v ≡ true → rule_at ts sc s n ≡ refused wrong_rule s
      unfolding rule_at with_id
      rule_timer k = rw (short, e, k)

      module _ (o : is_timer ts v ≡ false) where
        pub rule_second : get_or sc.known v false ≡ true → rule_at ts sc s n ≡ refused wrong_rule s
        unfolding rule_at with_id
        rule_second k = rw (short, e, o, k)

        pub rule_formulas : get_or sc.known v false ≡ false → rule_at ts sc s n ≡ formulas sc (part sc.text s n) v n
        unfolding rule_at with_id
        rule_formulas k = rw (short, e, o, k)

-- ---- the variable of a rule has none before

abbrev Targets : ℕ → Parsed Rule → Type 0
Targets v (accepted r n) = target r ≡ v
Targets v (refused k q) = Unit {0}

formula_target : (sc : Scope) (w : List ℕ) (v at : ℕ) → Targets v (formula_at sc w v at)
unfolding formula_at function_at change_at followed
formula_target sc w v at =
    then_prop (Targets v) (phrase sc.text _ at) _ (λ k q. tt)
    (λ u n e. token_prop (Targets v) (token_at sc.text n) _ (λ k q. tt)
    (λ k s m f. cond_prop (Targets v) (is k tilde) _ _
    (λ i. then_prop (Targets v) (phrase sc.text _ m) _ (λ k q. tt)
    (λ u n1 e1. then_prop (Targets v) (cases_from case_limit sc w [] n1) _ (λ k q. tt)
    (λ cs n2 e2. then_prop (Targets v) (phrase sc.text _ n2) _ (λ k q. tt)
    (λ u n3 e3. then_prop (Targets v) (agreeing_list sc cs n3) _ (λ k q. tt)
    (λ ds n4 e4. then_prop (Targets v) (phrase sc.text _ n4) _ (λ k q. tt) (λ u n5 e5. refl))))))
    (λ i. then_prop (Targets v) (phrase sc.text _ n) _ (λ k q. tt)
    (λ u n1 e1. then_prop (Targets v) (whole_expression sc n1) _ (λ k q. tt)
    (λ e n2 e2. then_prop (Targets v) (phrase sc.text _ n2) _ (λ k q. tt) (λ u n3 e3. refl))))))

formulas_target : (sc : Scope) (w : List ℕ) (v at : ℕ) → Targets v (formulas sc w v at)
unfolding formulas pair_at followed
formulas_target sc w v at =
    token_prop (Targets v) (token_at sc.text at) _ (λ k q. tt)
    (λ k s m f. cond_prop (Targets v) (is k plus) _ _
    (λ i. then_prop (Targets v) (phrase sc.text _ m) _ (λ k q. tt)
    (λ u n1 e1. then_prop (Targets v) (cases_from case_limit sc w [] n1) _ (λ k q. tt)
    (λ ups n2 e2. then_prop (Targets v) (phrase sc.text _ n2) _ (λ k q. tt)
    (λ u n3 e3. then_prop (Targets v) (cases_from (case_limit - length ups) sc w [] n3) _ (λ k q. tt)
    (λ downs n4 e4. then_prop (Targets v) (phrase sc.text _ n4) _ (λ k q. tt) (λ u n5 e5. refl))))))
    (λ i. formula_target sc w v at))

-- a declared name that may have a rule
abbrev pub Fresh : List Timer → Scope → Parsed Rule → Type 0
Fresh ts sc (accepted r n) = (target r < length sc.names) × (taken ts sc.known (target r) ≡ false)
Fresh ts sc (refused k q) = Unit {0}

pub rule_fresh : (ts : List Timer) (sc : Scope) (s n : ℕ) → Fresh ts sc (rule_at ts sc s n)
unfolding rule_at with_id
rule_fresh ts sc s n =
    cond_prop (Fresh ts sc) (over_long s n) _ _ (λ e. tt)
    (λ e. option_prop (Fresh ts sc) (id_of sc.names (part sc.text s n)) _ _ (λ z. tt)
    (λ v ev. cond_prop (Fresh ts sc) (taken ts sc.known v) _ _ (λ t. tt)
    (λ t. fresh v (id_of_lem sc.names (part sc.text s n) v ev) t (formulas sc (part sc.text s n) v n) (formulas_target sc (part sc.text s n) v n))))
  where
    fresh : (v : ℕ) → v < length sc.names → taken ts sc.known v ≡ false → (p : Parsed Rule) → Targets v p → Fresh ts sc p
    fresh v l t (accepted r m) g = (subst (λ (x : ℕ). x < length sc.names) (sym g) l, subst (λ (x : ℕ). taken ts sc.known x ≡ false) (sym g) t)
    fresh v l t (refused k q) g = tt
