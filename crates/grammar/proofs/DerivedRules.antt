-- Rules that are accepted are spelled by the tokens that were read, and stand in the order of work. Assumes nothing.
use mathlib.Core.Path.{◌≡◌, refl, ap, sym, ◌∙◌, subst}
use mathlib.Core.List.{List, [], ◌∷◌, ◌++◌, map, append_assoc, append-nil}
use mathlib.Core.Bool.{Bool, true, false}
use mathlib.Core.Option.{none, some}
use Prim.Native.Nat.{ℕ, zero, suc, ◌+◌, ◌-◌, ◌≤◌, ◌<◌}
use native.Mathlib.Omega.{arith}
use lib.ListN.{length, set, get_elem?, length-set}
use lib.Dec.{T, lt→ltb}
use Rattle.limits.specs.Limits.{case_limit, bracket_limit}
use Rattle.lexer.specs.Bytes.{bytes, part, capitals}
use Rattle.lexer.specs.Token.{kind_number, name, tilde, greater, plus, is}
use Rattle.lexer.specs.Lexer.{token_at, over_long}
use Rattle.lexer.specs.Names.{id_of}
use Rattle.lexer.proofs.Laws.{cond_prop, token_at_moved}
use Rattle.semantics.specs.Program.{Condition, Case, Rule, Timer, change, target, all_true, taken, timers_known, UsableK, UsableR, AgreesR, AgreesAll, OrderedRules}
use Rattle.semantics.proofs.Cells.{known_length}
use Rattle.grammar.specs.Parsed.{Parsed, accepted, refused, phrase, followed}
use Rattle.grammar.specs.Expressions.{Scope, with_id, whole_expression}
use Rattle.grammar.specs.Forms.{value_opening, function_closing, formula_closing, change_opening, no_change_opening, rule_opening, turned_opening, falling_opening}
use Rattle.grammar.specs.Pairs.{pair_rule}
use Rattle.grammar.specs.Rules.{Spanned, cases_from, agreeing_list, cases_of, function_at, change_at, pair_at, formula_at, formulas, rule_at, ruled, Ruled, rules_from}
use Rattle.grammar.specs.Derivation.{Stands, Spells, normal, normals}
use Rattle.grammar.specs.Derivation as D
use Rattle.grammar.specs.Spelled.{SpellsCases, SpellsList, SpellsR, a_change, a_function, a_pair, SpellsRules}
use Rattle.grammar.specs.Spelled as S
use Rattle.grammar.specs.Inner.Names.{Named}
use Rattle.grammar.proofs.Combine.{token_prop, then_prop, option_prop}
use Rattle.grammar.proofs.Bytes.{id_of_lem}
use Rattle.lexer.proofs.Spellings.{is_fixed}
use Rattle.grammar.proofs.Standing.{spells_in, split, spells_append, Seen, normally, seen_capitals}
use Rattle.grammar.proofs.Phrases.{signs, fixed_stands, phrase_spells, head_tokens, middle_tokens, rise_tokens, fall_tokens}
use Rattle.lexer.proofs.Capitals.{capitals_twice}
use Rattle.grammar.proofs.Normal.{normal_capitals, id_word, id_names}
use Rattle.grammar.proofs.SameRule.{formulas_same}
use Rattle.grammar.proofs.DerivedCases.{cases_list}
use Rattle.grammar.proofs.Lists.{CasesUpTo, cases_up_to, cases_in, agreeing_same}
use Rattle.grammar.proofs.Pairing.{length_cases, pair_usable}
use Rattle.grammar.proofs.Derived.{Derived, Derives, before, weaker, sign_stands, ScopedE, whole_expression_derives}

module _ (sc : Scope) (few : length sc.names ≤ 64) (lengths : length sc.names ≡ length sc.known) (good : Named sc.names) where
  -- ---- a function, after `v: GX(`

  module _ (w : List ℕ) (big : capitals w ≡ w) (v : ℕ) (ev : get_elem? (normals sc.names) v ≡ some w) where
    seen : Seen normally w
    seen = subst (Seen normally) big (seen_capitals w)

    -- a rule of v whose values may be used here, and whose lists agree
    abbrev ScopedR : Rule → Type 0
    ScopedR r = UsableR sc.known r × AgreesR r × (target r ≡ v)

    abbrev Ruling : List (List ℕ) → Rule → Type 0
    Ruling ts r = SpellsR (normals sc.names) (w ∷ bytes ":" ∷ bytes "GX" ∷ bytes "(" ∷ ts) r × ScopedR r

    function_derives : (at : ℕ) → at ≤ length sc.text → Derives normally sc.text Ruling at (function_at sc w v at)
    unfolding function_at followed signs is_fixed kind_number
    function_derives at h =
        then_prop (Derives normally sc.text Ruling at) (phrase sc.text (value_opening w) at) _ (λ k q. tt)
        (λ u n1 e1.
        let s1 = phrase_spells normally sc.text (value_opening w) refl (seen, tt) at u n1 h e1 in
        let i1 = (spells_in normally sc.text at n1 (w ∷ bytes "=" ∷ bytes "(" ∷ []) h s1).1 in
        then_prop (Derives normally sc.text Ruling at) (whole_expression sc n1) _ (λ k q. tt)
        (λ e n2 e2.
        let d2 = subst (Derives normally sc.text (ScopedE sc D.expression bracket_limit) n1) e2 (whole_expression_derives sc n1 i1) in
        let i2 = (spells_in normally sc.text n1 n2 d2.tokens i1 d2.spells).1 in
        then_prop (Derives normally sc.text Ruling at) (phrase sc.text function_closing n2) _ (λ k q. tt)
        (λ u2 n3 e3.
        let s3 = phrase_spells normally sc.text function_closing refl tt n2 u2 n3 i2 e3 in
        let s12 = spells_append normally sc.text at n1 n2 (w ∷ bytes "=" ∷ bytes "(" ∷ []) d2.tokens s1 d2.spells in
        record {
          tokens = w ∷ bytes "=" ∷ bytes "(" ∷ d2.tokens ++ bytes ")" ∷ bytes ")" ∷ bytes ";" ∷ [];
          spells = spells_append normally sc.text at n2 n3 (w ∷ bytes "=" ∷ bytes "(" ∷ d2.tokens) (bytes ")" ∷ bytes ")" ∷ bytes ";" ∷ []) s12 s3;
          derives = (a_function w v d2.tokens e ev d2.derives.0, (d2.derives.1 lengths, tt, refl));
        })))

    -- ---- a change formula and its no-change formula, after `v: GX(~`

    abbrev Changing : List (List ℕ) → Rule → Type 0
    Changing ts r = SpellsR (normals sc.names) (w ∷ bytes ":" ∷ bytes "GX" ∷ bytes "(" ∷ bytes "~" ∷ ts) r × ScopedR r

    -- the tokens from after `v: GX(~` on
    change_spells : (a b c d e f : ℕ) (ts ls : List (List ℕ)) → Spells normal sc.text a b (head_tokens w) → Spells normal sc.text b c ts → Spells normal sc.text c d (middle_tokens w) → Spells normal sc.text d e (ls ++ bytes ")" ∷ []) → Spells normal sc.text e f (bytes ")" ∷ bytes ";" ∷ []) → Spells normal sc.text a f ((head_tokens w ++ ts) ++ (middle_tokens w ++ ls) ++ bytes ")" ∷ bytes ")" ∷ bytes ";" ∷ [])
    change_spells a b c d e f ts ls s1 s2 s3 s4 s5 =
        let p = split normally sc.text d e ls (bytes ")" ∷ []) s4 in
        let front = spells_append normally sc.text a b c (head_tokens w) ts s1 s2 in
        let back = spells_append normally sc.text c d p.place (middle_tokens w) ls s3 p.first in
        let tail = spells_append normally sc.text p.place e f (bytes ")" ∷ []) (bytes ")" ∷ bytes ";" ∷ []) p.second s5 in
        spells_append normally sc.text a p.place f ((head_tokens w ++ ts) ++ (middle_tokens w ++ ls)) (bytes ")" ∷ bytes ")" ∷ bytes ";" ∷ []) (spells_append normally sc.text a c p.place (head_tokens w ++ ts) (middle_tokens w ++ ls) front back) tail

    change_is : (ts ls : List (List ℕ)) (ks : List Case) (ds : List Condition) → SpellsCases (normals sc.names) w ts ls ks → length ks ≤ case_limit → ds ≡ map (λ k. k.condition) ks → UsableK sc.known ks → Changing ((head_tokens w ++ ts) ++ (middle_tokens w ++ ls) ++ bytes ")" ∷ bytes ")" ∷ bytes ";" ∷ []) (change v ks ds)
    change_is ts ls ks ds d l e u = (a_change w v ts ls ks ds ev d l (subst (SpellsList (normals sc.names) ls) (sym e) (cases_list (normals sc.names) w ts ls ks d)), (u, e, refl))

    change_derives : (at : ℕ) → at ≤ length sc.text → Derives normally sc.text Changing at (change_at sc w v at)
    unfolding change_at followed signs is_fixed kind_number
    change_derives at h =
        then_prop (Derives normally sc.text Changing at) (phrase sc.text (change_opening w) at) _ (λ k q. tt)
        (λ u n1 e1.
        let s1 = phrase_spells normally sc.text (change_opening w) refl (seen, (seen, tt)) at u n1 h e1 in
        let i1 = (spells_in normally sc.text at n1 (head_tokens w) h s1).1 in
        then_prop (Derives normally sc.text Changing at) (cases_from case_limit sc w [] n1) _ (λ k q. tt)
        (λ cases n2 e2.
        let r = cases_in sc few lengths w n1 n2 cases i1 e2 in
        then_prop (Derives normally sc.text Changing at) (phrase sc.text (no_change_opening w) n2) _ (λ k q. tt)
        (λ u2 n3 e3.
        let s3 = phrase_spells normally sc.text (no_change_opening w) refl (seen, (seen, (seen, tt))) n2 u2 n3 r.within e3 in
        let i3 = (spells_in normally sc.text n2 n3 (middle_tokens w) r.within s3).1 in
        then_prop (Derives normally sc.text Changing at) (agreeing_list sc cases n3) _ (λ k q. tt)
        (λ ds n4 e4.
        let ag = agreeing_same sc few lengths good w n1 n2 cases r n3 n4 ds i3 e4 in
        let i4 = (spells_in normally sc.text n3 n4 (r.list ++ bytes ")" ∷ []) i3 ag.spells).1 in
        then_prop (Derives normally sc.text Changing at) (phrase sc.text formula_closing n4) _ (λ k q. tt)
        (λ u3 n5 e5.
        let s5 = phrase_spells normally sc.text formula_closing refl tt n4 u3 n5 i4 e5 in
        record {
          tokens = (head_tokens w ++ r.tokens) ++ (middle_tokens w ++ r.list) ++ bytes ")" ∷ bytes ")" ∷ bytes ";" ∷ [];
          spells = change_spells at n1 n2 n3 n4 n5 r.tokens r.list s1 r.spells s3 ag.spells s5;
          derives = change_is r.tokens r.list (cases_of cases) ds (subst (λ (x : List ℕ). SpellsCases (normals sc.names) x r.tokens r.list (cases_of cases)) big r.derives) r.counted ag.same r.usable;
        })))))

    -- a function, or a change formula and its no-change formula, after its name
    formula_derive : (at : ℕ) → at ≤ length sc.text → Derives normally sc.text (λ ts r. SpellsR (normals sc.names) (w ∷ ts) r × ScopedR r) at (formula_at sc w v at)
    unfolding formula_at signs is_fixed kind_number
    formula_derive at h =
        then_prop R (phrase sc.text rule_opening at) _ (λ k q. tt)
        (λ u n e1.
        let s1 = phrase_spells normally sc.text rule_opening refl tt at u n h e1 in
        let i1 = (spells_in normally sc.text at n (bytes ":" ∷ bytes "GX" ∷ bytes "(" ∷ []) h s1).1 in
        token_prop R (token_at sc.text n) _ (λ k q. tt)
        (λ k s m et.
        let mv = token_at_moved sc.text n k s m i1 et in
        cond_prop R (is k tilde) _ _
        (λ e. after at n s1 (change_at sc w v m) (before normally sc.text Changing Ruling (bytes "~") (λ ts x d. d) n m (fixed_stands normally sc.text tilde refl n k s m i1 et e) (change_at sc w v m) (change_derives m mv.2)))
        (λ e. after at n s1 (function_at sc w v n) (function_derives n i1))))
      where
        R : Parsed Rule → Type 0
        R p = Derives normally sc.text (λ ts r. SpellsR (normals sc.names) (w ∷ ts) r × ScopedR r) at p

        after : (at n : ℕ) → Spells normal sc.text at n (bytes ":" ∷ bytes "GX" ∷ bytes "(" ∷ []) → (p : Parsed Rule) → Derives normally sc.text Ruling n p → Derives normally sc.text (λ ts r. SpellsR (normals sc.names) (w ∷ ts) r × ScopedR r) at p
        after at n sp (accepted r m) d =
            record {
              tokens = bytes ":" ∷ bytes "GX" ∷ bytes "(" ∷ d.tokens;
              spells = spells_append normally sc.text at n m (bytes ":" ∷ bytes "GX" ∷ bytes "(" ∷ []) d.tokens sp d.spells;
              derives = d.derives;
            }
        after at n sp (refused k q) d = tt

    -- ---- a pair, after `v+`

    abbrev Turning : List (List ℕ) → Rule → Type 0
    Turning ts r = SpellsR (normals sc.names) (w ∷ bytes "+" ∷ ts) r × ScopedR r

    pair_spells : (a b c d e f : ℕ) (ts us : List (List ℕ)) → Spells normal sc.text a b (rise_tokens w) → Spells normal sc.text b c ts → Spells normal sc.text c d (fall_tokens w) → Spells normal sc.text d e us → Spells normal sc.text e f (bytes ")" ∷ bytes ";" ∷ []) → Spells normal sc.text a f ((rise_tokens w ++ ts) ++ (fall_tokens w ++ us) ++ bytes ")" ∷ bytes ";" ∷ [])
    pair_spells a b c d e f ts us s1 s2 s3 s4 s5 =
        let front = spells_append normally sc.text a b c (rise_tokens w) ts s1 s2 in
        let back = spells_append normally sc.text c d e (fall_tokens w) us s3 s4 in
        spells_append normally sc.text a e f ((rise_tokens w ++ ts) ++ (fall_tokens w ++ us)) (bytes ")" ∷ bytes ";" ∷ []) (spells_append normally sc.text a c e (rise_tokens w ++ ts) (fall_tokens w ++ us) front back) s5

    named : (ts ls : List (List ℕ)) (ks : List Case) → SpellsCases (normals sc.names) (capitals w) ts ls ks → SpellsCases (normals sc.names) w ts ls ks
    named ts ls ks d = subst (λ (x : List ℕ). SpellsCases (normals sc.names) x ts ls ks) big d

    pair_is : (n1 n2 n3 n4 : ℕ) (ups downs : List Spanned) (r : CasesUpTo sc few lengths case_limit w n1 n2 ups) (q : CasesUpTo sc few lengths (case_limit - length ups) w n3 n4 downs) → Turning ((rise_tokens w ++ r.tokens) ++ (fall_tokens w ++ q.tokens) ++ bytes ")" ∷ bytes ";" ∷ []) (pair_rule v (cases_of ups) (cases_of downs))
    pair_is n1 n2 n3 n4 ups downs r q =
        let room : length (cases_of ups) + length (cases_of downs) ≤ case_limit = omega (arith, length_cases ups, r.counted, q.counted) in (
          a_pair w v r.tokens r.list q.tokens q.list (cases_of ups) (cases_of downs) ev (named r.tokens r.list (cases_of ups) r.derives) (named q.tokens q.list (cases_of downs) q.derives) room,
          (pair_usable sc.known (cases_of ups) (cases_of downs) r.usable q.usable, refl, refl),
        )

    pair_derives : (at : ℕ) → at ≤ length sc.text → Derives normally sc.text Turning at (pair_at sc w v at)
    unfolding pair_at followed signs is_fixed kind_number
    pair_derives at h =
        then_prop (Derives normally sc.text Turning at) (phrase sc.text (turned_opening greater w) at) _ (λ k q. tt)
        (λ u n1 e1.
        let s1 = phrase_spells normally sc.text (turned_opening greater w) refl (seen, (seen, tt)) at u n1 h e1 in
        let i1 = (spells_in normally sc.text at n1 (rise_tokens w) h s1).1 in
        then_prop (Derives normally sc.text Turning at) (cases_from case_limit sc w [] n1) _ (λ k q. tt)
        (λ ups n2 e2.
        let r = cases_up_to sc few lengths case_limit w n1 n2 ups i1 e2 in
        then_prop (Derives normally sc.text Turning at) (phrase sc.text (falling_opening w) n2) _ (λ k q. tt)
        (λ u2 n3 e3.
        let s3 = phrase_spells normally sc.text (falling_opening w) refl (seen, (seen, (seen, tt))) n2 u2 n3 r.within e3 in
        let i3 = (spells_in normally sc.text n2 n3 (fall_tokens w) r.within s3).1 in
        then_prop (Derives normally sc.text Turning at) (cases_from (case_limit - length ups) sc w [] n3) _ (λ k q. tt)
        (λ downs n4 e4.
        let q = cases_up_to sc few lengths (case_limit - length ups) w n3 n4 downs i3 e4 in
        then_prop (Derives normally sc.text Turning at) (phrase sc.text formula_closing n4) _ (λ k q. tt)
        (λ u3 n5 e5.
        let s5 = phrase_spells normally sc.text formula_closing refl tt n4 u3 n5 q.within e5 in
        record {
          tokens = (rise_tokens w ++ r.tokens) ++ (fall_tokens w ++ q.tokens) ++ bytes ")" ∷ bytes ";" ∷ [];
          spells = pair_spells at n1 n2 n3 n4 n5 r.tokens q.tokens s1 r.spells s3 q.spells s5;
          derives = pair_is n1 n2 n3 n4 ups downs r q;
        })))))

    -- the formulas of w, after its name
    formulas_derive : (at : ℕ) → at ≤ length sc.text → Derives normally sc.text (λ ts r. SpellsR (normals sc.names) (w ∷ ts) r × ScopedR r) at (formulas sc w v at)
    unfolding formulas signs is_fixed kind_number
    formulas_derive at h =
        token_prop R (token_at sc.text at) _ (λ k q. tt)
        (λ k s n et.
        let mv = token_at_moved sc.text at k s n h et in
        cond_prop R (is k plus) _ _
        (λ e. before normally sc.text Turning (λ ts r. SpellsR (normals sc.names) (w ∷ ts) r × ScopedR r) (bytes "+") (λ ts x d. d) at n (fixed_stands normally sc.text plus refl at k s n h et e) (pair_at sc w v n) (pair_derives n mv.2))
        (λ e. formula_derive at h))
      where
        R : Parsed Rule → Type 0
        R p = Derives normally sc.text (λ ts r. SpellsR (normals sc.names) (w ∷ ts) r × ScopedR r) at p

  -- ---- a rule, and all rules

  -- a rule that is the first of its variable, which is no timer
  abbrev pub First : List Timer → Rule → Type 0
  First ts r = (UsableR sc.known r × AgreesR r) × (target r < length sc.known) × (taken ts sc.known (target r) ≡ false)

  -- after its name, which stands from s up to n
  pub rule_derives : (xs : List Timer) (s n : ℕ) → n ≤ length sc.text → Derives normally sc.text (λ ts r. SpellsR (normals sc.names) (normal (part sc.text s n) ∷ ts) r × First xs r) n (rule_at xs sc s n)
  unfolding rule_at with_id
  rule_derives xs s n h =
      let u = part sc.text s n in
      let w = normal u in
      let R : Parsed Rule → Type 0 = Derives normally sc.text (λ ts r. SpellsR (normals sc.names) (w ∷ ts) r × First xs r) n in
      cond_prop R (over_long s n) _ _ (λ e. tt)
      (λ e. option_prop R (id_of sc.names u) _ _ (λ z. tt)
      (λ v ev. cond_prop R (taken xs sc.known v) _ _ (λ t. tt)
      (λ t.
      let l : v < length sc.known = omega (arith, lengths, id_of_lem sc.names u v ev) in
      let no = id_word sc.names good u v ev in
      let seen-u = normal_capitals u no in
      let big : capitals w ≡ w = ap capitals seen-u ∙ (capitals_twice u ∙ sym seen-u) in
      let at-v = id_names sc.names u v no ev in
      rw (formulas_same sc u w (sym (capitals_twice u) ∙ ap capitals (sym seen-u)) v n)
      (weaker normally sc.text (λ ts r. SpellsR (normals sc.names) (w ∷ ts) r × ScopedR w big v at-v r) (λ ts r. SpellsR (normals sc.names) (w ∷ ts) r × First xs r)
      (λ ts r d. (d.0, ((d.1.0, d.1.1), subst (λ (x : ℕ). x < length sc.known) (sym d.1.2) l, subst (λ (x : ℕ). taken xs sc.known x ≡ false) (sym d.1.2) t))) n (formulas sc w v n) (formulas_derive w big v at-v n h)))))

-- rules from a place to another, after those done: in the order of work, if every variable has its rule in the end
pub record RulesRead (xs : List Timer) (text : List ℕ) (names : List (List ℕ)) (known : List Bool) (done : List Rule) (at end : ℕ) (read : Ruled) : Type 0 where
  pub more : List Rule
  pub is_more : read.rules ≡ done ++ more
  pub tokens : List (List ℕ)
  pub spells : Spells normal text at end tokens
  pub derives : SpellsRules (normals names) tokens more
  pub ordered : T (all_true read.known) → OrderedRules xs known more
  pub agrees : AgreesAll more

abbrev pub RulesReads : List Timer → List ℕ → List (List ℕ) → List Bool → List Rule → ℕ → Parsed Ruled → Type 0
RulesReads xs text names known done at (accepted read n) = RulesRead xs text names known done at n read
RulesReads xs text names known done at (refused k q) = Unit {0}

pub rules_derive : (f : ℕ) (xs : List Timer) (sc : Scope) → length sc.names ≤ 64 → length sc.names ≡ length sc.known → Named sc.names → (done : List Rule) (at : ℕ) → at ≤ length sc.text → RulesReads xs sc.text sc.names sc.known done at (rules_from f xs sc done at)
unfolding rules_from is kind_number
rules_derive zero xs sc few lengths good done at h = tt
rules_derive (suc f) xs sc few lengths good done at h =
    token_prop R (token_at sc.text at) _ (λ k q. tt)
    (λ k s n et.
    let mv = token_at_moved sc.text at k s n h et in
    cond_prop R (is k name) _ _
    (λ e. then_prop R (rule_at xs sc s n) _ (λ k q. tt)
    (λ r m er.
    let d = subst (Derives normally sc.text (λ ts r. SpellsR (normals sc.names) (normal (part sc.text s n) ∷ ts) r × First sc few lengths good xs r) n) er (rule_derives sc few lengths good xs s n mv.2) in
    let i = (spells_in normally sc.text n m d.tokens mv.2 d.spells).1 in
    let l = lengths ∙ sym (known_length (target r) xs (set sc.known (target r) true) ∙ length-set sc.known (target r) true) in
    next (normal (part sc.text s n)) n m r (sign_stands normally sc.text name refl at k s n h et e).0 d
    (rules_from f xs (ruled xs sc (target r)) (done ++ (r ∷ [])) m) (rules_derive f xs (ruled xs sc (target r)) few l good (done ++ (r ∷ [])) m i)))
    (λ e. record { more = []; is_more = sym (append-nil done); tokens = []; spells = refl; derives = S.SpellsRules.none; ordered = λ t. t; agrees = tt }))
  where
    R : Parsed Ruled → Type 0
    R p = RulesReads xs sc.text sc.names sc.known done at p

    next : (w : List ℕ) (n m : ℕ) (r : Rule) → Stands normal sc.text at n w → Derived normally sc.text (λ ts r. SpellsR (normals sc.names) (w ∷ ts) r × First sc few lengths good xs r) n m r → (p : Parsed Ruled) → RulesReads xs sc.text sc.names (timers_known (target r) xs (set sc.known (target r) true)) (done ++ (r ∷ [])) m p → R p
    next w n m r st d (accepted read i) q =
        let f = d.derives.1 in
        record {
          more = r ∷ q.more;
          is_more = q.is_more ∙ append_assoc done (r ∷ []) q.more;
          tokens = (w ∷ d.tokens) ++ q.tokens;
          spells = spells_append normally sc.text at m i (w ∷ d.tokens) q.tokens (n, st, d.spells) q.spells;
          derives = S.SpellsRules.more (w ∷ d.tokens) q.tokens r q.more d.derives.0 q.derives;
          ordered = λ t. (f.0.0, lt→ltb (target r) (length sc.known) f.1, f.2, q.ordered t);
          agrees = (f.0.1, q.agrees);
        }
    next w n m r st d (refused k p) q = tt
