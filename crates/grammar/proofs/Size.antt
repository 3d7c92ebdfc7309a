-- The bytes of each part of an accepted text's image: twice these are at most three times the part's own; by the tokens that spell it. Assumes
-- nothing.
use mathlib.Core.Path.{◌≡◌, refl, subst, sym}
use mathlib.Core.List.{List, [], ◌∷◌, ◌++◌}
use mathlib.Core.Bool.{true, false}
use Prim.Native.Nat.{ℕ, zero, suc, ◌+◌, ◌-◌, ◌*◌, ◌≤◌, ◌<◌}
use native.Mathlib.Omega.{arith}
use lib.ListN.{length, length-append, length-map}
use lib.IntN.{ℤ, pos, neg_ℤ}
use Rattle.limits.specs.Limits.{case_limit, bracket_limit}
use Rattle.leb128.specs.Numbers.{number, zigzag}
use Rattle.lexer.specs.Bytes.{bytes, part, capitals}
use Rattle.lexer.specs.Token.{Kind, kind_number, name, previous, ending, tilde, plus, is}
use Rattle.lexer.specs.Lexer.{token_at, over_long, value_of, same_name}
use Rattle.lexer.specs.Names.{id_of}
use Rattle.lexer.proofs.Laws.{cond_prop, token_at_moved}
use Rattle.lexer.proofs.Same.{both_true}
use Rattle.semantics.specs.Program.{Name, Case, Rule, Timer, function, change, target, taken}
use Rattle.grammar.specs.Parsed.{Parsed, accepted, refused, Wanted, sign, own, own_previous, is_wanted, expected, phrase, followed}
use Rattle.grammar.specs.Expressions.{Scope, with_id, whole_expression}
use Rattle.grammar.specs.Declarations.{declaration, declarations_from}
use Rattle.grammar.specs.Rules.{Spanned, case_at, cases_from, agreeing_list, cases_of, function_at, change_at, pair_at, formula_at, formulas, rule_at}
use Rattle.grammar.specs.Derivation.{SpellsE, SpellsC, normal, normals}
use Rattle.grammar.specs.Derivation as D
use Rattle.grammar.specs.Spelled.{SpellsZ, positive, negative, SpellsStart, absent, given, Declares, declares, DeclareAll, cased, SpellsCases, one_case, more_cases, change_form, pair_form, SpellsR, a_change, a_function, a_pair, SpellsRules}
use Rattle.grammar.specs.Spelled as S
use Rattle.grammar.specs.Inner.Bytes.{bytes_e, bytes_k, bytes_picked, bytes_t, bytes_r, header}
use Rattle.grammar.proofs.Combine.{token_prop, then_prop, option_prop}
use Rattle.grammar.proofs.Bytes.{digits_bytes, value_bytes, id_bytes, id_of_lem, place_in}
use Rattle.grammar.proofs.Standing.{written, normally, seen_capitals, spells_in}
use Rattle.grammar.proofs.Phrases.{head_tokens, middle_tokens, rise_tokens, fall_tokens}
use Rattle.lexer.proofs.Capitals.{capitals_twice}
use Rattle.grammar.proofs.SameRule.{case_same, cases_same}
use Rattle.grammar.proofs.Derived.{Derives}
use Rattle.grammar.proofs.Growth.{Grown, Kept, phrase_kept, whole_expression_grown, not_end, later_bytes, bytes_of, bytes_append, token_bytes, spells_bytes, digits_some, expression_makes, condition_makes}
use Rattle.grammar.proofs.DerivedCases.{case_rest, CaseReads, case_derives, CasesReads, cases_derive}
use Rattle.grammar.proofs.Pairing.{picked_length, pair_length}
use Rattle.grammar.proofs.Whole.{agree_kept}
use Rattle.grammar.proofs.DerivedDeclarations.{AfterWord, declaration_derives}

-- what is accepted ends within the text, and twice its code's bytes are at most three times its own
abbrev pub Pays : {A : Type 0} → (A → ℕ) → ℕ → ℕ → Parsed A → Type 0
Pays bytes len at (accepted x n) = (2 * bytes x + 3 * at ≤ 3 * n) × (n ≤ len)
Pays bytes len at (refused k q) = Unit {0}

-- ---- fixed tokens have a byte each

abbrev pub Solid : List Wanted → Type 0
Solid [] = Unit {0}
Solid (sign w ∷ ws) = (is ending w ≡ false) × Solid ws
Solid (own w ∷ ws) = Solid ws
Solid (own_previous w ∷ ws) = Solid ws

-- an accepted phrase of c tokens ends within the text, c bytes on or more
abbrev pub Long : {A : Type 0} → ℕ → ℕ → ℕ → Parsed A → Type 0
Long c len at (accepted u n) = (at + c ≤ n) × (n ≤ len)
Long c len at (refused k q) = Unit {0}

module _ (text : List ℕ) where
  wanted_long : (w : Wanted) (at : ℕ) → at ≤ length text → ((k : Kind) (s n : ℕ) → is_wanted text w k s n ≡ true → k ≡ ending → ⊥) → Long 1 (length text) at (expected text w at)
  unfolding expected
  wanted_long w at h f =
      token_prop (Long 1 (length text) at) (token_at text at) _ (λ k q. tt)
      (λ k s n et.
      let mv = token_at_moved text at k s n h et in
      cond_prop (Long 1 (length text) at) (is_wanted text w k s n) _ _ (λ e. (omega (arith, mv.0, mv.3 (f k s n e)), mv.2)) (λ e. tt))

  phrase_more : (c at n : ℕ) (p : Parsed (Unit {0})) → at + 1 ≤ n → Long c (length text) n p → Long (suc c) (length text) at p
  phrase_more c at n (accepted u m) h g = (omega (arith, g.0), g.1)
  phrase_more c at n (refused k q) h g = tt

  pub phrase_long : (ws : List Wanted) → Solid ws → (at : ℕ) → at ≤ length text → Long (length ws) (length text) at (phrase text ws at)
  unfolding phrase is kind_number
  phrase_long [] sol at h = (omega arith, h)
  phrase_long (sign w ∷ ws) sol at h =
      then_prop (Long (suc (length ws)) (length text) at) (expected text (sign w) at) _ (λ k q. tt)
      (λ u n e. let g = subst (Long 1 (length text) at) e (wanted_long (sign w) at h (λ k s n t. not_end k w sol.0 t)) in
      phrase_more (length ws) at n (phrase text ws n) g.0 (phrase_long ws sol.1 n g.1))
  phrase_long (own w ∷ ws) sol at h =
      then_prop (Long (suc (length ws)) (length text) at) (expected text (own w) at) _ (λ k q. tt)
      (λ u n e. let g = subst (Long 1 (length text) at) e (wanted_long (own w) at h (λ k s n t. not_end k name refl (both_true (is k name) (same_name w (part text s n)) t).0)) in
      phrase_more (length ws) at n (phrase text ws n) g.0 (phrase_long ws sol n g.1))
  phrase_long (own_previous w ∷ ws) sol at h =
      then_prop (Long (suc (length ws)) (length text) at) (expected text (own_previous w) at) _ (λ k q. tt)
      (λ u n e. let g = subst (Long 1 (length text) at) e (wanted_long (own_previous w) at h (λ k s n t. not_end k previous refl (both_true (is k previous) (same_name w (part text (s + 1) n)) t).0)) in
      phrase_more (length ws) at n (phrase text ws n) g.0 (phrase_long ws sol n g.1))

-- ---- cases

case_bytes : (w : List ℕ) (ts us : List (List ℕ)) → bytes_of ts + bytes_of us + 6 ≤ bytes_of (case_rest w ts us)
case_bytes w ts us =
    let front = (ts ++ bytes "]" ∷ []) ++ bytes "&" ∷ w ∷ bytes "=" ∷ bytes "(" ∷ us in
    omega (arith, bytes_append front (bytes ")" ∷ []), bytes_append (ts ++ bytes "]" ∷ []) (bytes "&" ∷ w ∷ bytes "=" ∷ bytes "(" ∷ us), bytes_append ts (bytes "]" ∷ []))

cases_code_lem : (v : ℕ) (k : Case) (ks : List Case) → length (bytes_k v (k ∷ ks)) ≡ length (bytes_k v (k ∷ [])) + length (bytes_k v ks)
unfolding bytes_k
cases_code_lem v k ks = simp length-append (omega arith)

cases_append : (v : ℕ) (cs ds : List Spanned) → length (bytes_k v (cases_of (cs ++ ds))) ≡ length (bytes_k v (cases_of cs)) + length (bytes_k v (cases_of ds))
unfolding bytes_k
cases_append v [] ds = omega arith
cases_append v (c ∷ cs) ds = simp length-append (omega (arith, cases_append v cs ds))

module _ (names : List (List ℕ)) (few : length names ≤ 64) (v : ℕ) (hv : v < 64) where
  case_makes : (ts us : List (List ℕ)) (k : Case) → SpellsC names D.condition bracket_limit ts k.condition → SpellsE names D.expression bracket_limit us k.value → 2 * length (bytes_k v (k ∷ [])) ≤ 3 * (bytes_of ts + bytes_of us) + 8
  unfolding bytes_k
  case_makes ts us k c e =
      let g = condition_makes names few D.condition bracket_limit ts k.condition c in
      let f = expression_makes names few D.expression bracket_limit us k.value e in
      simp length-append (omega (arith, g.1, f.1, id_bytes v (omega arith)))

  cases_make : (w : List ℕ) (ts ls : List (List ℕ)) (ks : List Case) → SpellsCases names w ts ls ks → 2 * length (bytes_k v ks) ≤ 3 * bytes_of ts
  cases_make w ts ls ks (one_case us vs k s c e) = omega (arith, case_makes us vs k c e, case_bytes w us vs)
  cases_make w ts ls ks (more_cases us vs cs ms k js s c e r) =
      omega (arith, case_makes us vs k c e, case_bytes w us vs, cases_code_lem v k js, cases_make w cs ms js r, bytes_append (cased w us vs) (bytes "|" ∷ cs))

module _ (sc : Scope) (few : length sc.names ≤ 64) (v : ℕ) (hv : v < 64) where
  few2 : length (normals sc.names) ≤ 64
  few2 = omega (arith, few, length-map sc.names normal)

  pub case_pays : (pick : ℕ) (w : List ℕ) (at n : ℕ) → n ≤ length sc.text → Pays (λ c. length (bytes_picked pick v (cases_of (c ∷ [])))) (length sc.text) n (case_at sc w at n)
  case_pays pick w at n h = rw (case_same sc w (capitals w) (sym (capitals_twice w)) at n) (pays (capitals w) (case_at sc (capitals w) at n) (case_derives sc (capitals w) (seen_capitals w) at n h))
    where
      pays : (w : List ℕ) (p : Parsed Spanned) → CaseReads sc w at n p → Pays (λ c. length (bytes_picked pick v (cases_of (c ∷ [])))) (length sc.text) n p
      pays w (accepted c m) r =
          let ts = case_rest w r.conditions r.values in
          (omega (arith, picked_length pick v (cases_of (c ∷ [])), spells_bytes normally sc.text n m ts h r.spells, case_bytes w r.conditions r.values, case_makes (normals sc.names) few2 v hv r.conditions r.values c.case r.condition.0 r.value.0), (spells_in normally sc.text n m ts h r.spells).1)
      pays w (refused k q) r = tt

  pub cases_pay : (w : List ℕ) (left : ℕ) (done : List Spanned) (from at : ℕ) → at ≤ length sc.text → 2 * length (bytes_k v (cases_of done)) + 3 * from ≤ 3 * at → Pays (λ cs. length (bytes_k v (cases_of cs))) (length sc.text) from (cases_from left sc w done at)
  cases_pay w left done from at h g = rw (cases_same sc w (capitals w) (sym (capitals_twice w)) left done at) (pays (capitals w) (cases_from left sc (capitals w) done at) (cases_derive sc (capitals w) (seen_capitals w) left done at h))
    where
      pays : (w : List ℕ) (p : Parsed (List Spanned)) → CasesReads sc w left done at p → Pays (λ cs. length (bytes_k v (cases_of cs))) (length sc.text) from p
      pays w (accepted cs n) r =
          (rw r.is_more (omega (arith, cases_append v done r.more, cases_make (normals sc.names) few2 v hv w r.tokens r.list (cases_of r.more) r.derives, spells_bytes normally sc.text at n r.tokens h r.spells)), (spells_in normally sc.text at n r.tokens h r.spells).1)
      pays w (refused k q) r = tt

-- ---- declarations

abbrev pub name_bytes : Name → ℕ
name_bytes x = length (number (zigzag x.range.low)) + (length (number (zigzag x.range.high)) + length (number (zigzag x.range.start)))

pub header_append : (k l : List Name) → length (header (k ++ l)) ≡ length (header k) + length (header l)
unfolding header
header_append [] l = omega arith
header_append (x ∷ k) l = simp length-append (omega (arith, header_append k l))

pub header_code : (x : Name) (l : List Name) → length (header (x ∷ l)) ≡ name_bytes x + length (header l)
unfolding header
header_code x l = simp length-append (omega arith)

pub header_none : length (header []) ≡ 0
unfolding header
header_none = refl

signed-small : (v : ℕ) → zigzag (neg_ℤ (pos v)) ≤ 2 * v
unfolding zigzag
signed-small zero = omega arith
signed-small (suc v) = omega arith

number_makes : (ts : List (List ℕ)) (z : ℤ) → SpellsZ ts z → length (number (zigzag z)) ≤ bytes_of ts
number_makes ts z (positive w d) = omega (arith, digits_bytes w (digits_some w d), token_bytes w (digits_some w d))
number_makes ts z (negative w d) = omega (arith, value_bytes w (zigzag (neg_ℤ (pos (value_of w)))) (signed-small (value_of w)) (digits_some w d), token_bytes w (digits_some w d))

start_makes : (ts : List (List ℕ)) (z : ℤ) → SpellsStart ts z → length (number (zigzag z)) ≤ bytes_of ts + 1
unfolding zigzag
start_makes ts z absent = omega (arith, id_bytes 0 (omega arith))
start_makes ts z (given us x d) = omega (arith, number_makes us x d)

declares_make : (word : List ℕ) (ts : List (List ℕ)) (x : Name) → Declares word ts x → 2 * name_bytes x + 3 * suc (later_bytes word) ≤ 3 * bytes_of ts
declares_make word ts x (declares w ls hs ss r nm dl dh ds fits) =
    let bounds = (word ∷ w ∷ ls) ++ bytes ".." ∷ hs in
    omega (arith, number_makes ls r.low dl, number_makes hs r.high dh, start_makes ss r.start ds, bytes_append (bounds ++ ss) (bytes ";" ∷ []), bytes_append bounds ss, bytes_append (word ∷ w ∷ ls) (bytes ".." ∷ hs))

pub all_make : (word : List ℕ) (ts : List (List ℕ)) (l : List Name) → DeclareAll word ts l → 2 * length (header l) ≤ 3 * bytes_of ts
unfolding header
all_make word ts l S.DeclareAll.none = omega arith
all_make word ts l (S.DeclareAll.more us vs x k d r) = omega (arith, declares_make word us x d, all_make word vs k r, header_code x k, bytes_append us vs)

module _ (text : List ℕ) where
  declaration_pays : (names : List Name) (at : ℕ) → at ≤ length text → Pays name_bytes (length text) at (declaration text names at)
  declaration_pays names at h = pays (declaration text names at) (declaration_derives text [] names at h)
    where
      pays : (p : Parsed Name) → Derives written text (AfterWord text [] names) at p → Pays name_bytes (length text) at p
      pays (accepted x n) d = (omega (arith, declares_make [] ([] ∷ d.tokens) x d.derives.0, spells_bytes written text at n d.tokens h d.spells), (spells_in written text at n d.tokens h d.spells).1)
      pays (refused k q) d = tt

  pub declarations_pay : (f : ℕ) (word : Kind) (names : List Name) (at : ℕ) → at ≤ length text → 2 * length (header names) ≤ 3 * at → Pays (λ l. length (header l)) (length text) 0 (declarations_from f word text names at)
  unfolding declarations_from
  declarations_pay zero word names at h g = (omega arith, h)
  declarations_pay (suc f) word names at h g =
      token_prop (Pays (λ (l : List Name). length (header l)) (length text) 0) (token_at text at) _ (λ k q. tt)
      (λ k s n et.
      let mv = token_at_moved text at k s n h et in
      cond_prop (Pays (λ (l : List Name). length (header l)) (length text) 0) (is k word) _ _
      (λ e. then_prop (Pays (λ (l : List Name). length (header l)) (length text) 0) (declaration text names n) _ (λ k q. tt)
      (λ x m es.
      let d = subst (Pays name_bytes (length text) n) es (declaration_pays names n mv.2) in
      declarations_pay f word (names ++ (x ∷ [])) m d.1 (omega (arith, header_append names (x ∷ []), header_code x [], header_none, d.0, mv.0, mv.1))))
      (λ e. (omega arith, h)))

-- ---- rules, without their timers

abbrev pub rule_bytes : Rule → ℕ
rule_bytes r = length (bytes_r [] (r ∷ []))

-- behind a rule's bytes stand those of its timers
pub rules_code_lem : (ts : List Timer) (r : Rule) (rs : List Rule) → length (bytes_r ts (r ∷ rs)) ≡ rule_bytes r + (length (bytes_t (target r) ts) + length (bytes_r ts rs))
unfolding bytes_r bytes_t
rules_code_lem ts (function v e) rs = simp length-append (omega arith)
rules_code_lem ts (change v ks cs) rs = simp length-append (omega arith)

module _ (sc : Scope) (few : length sc.names ≤ 64) (lengths : length sc.names ≡ length sc.known) where
  module _ (v : ℕ) (hv : v < 64) where
    pub function_pays : (w : List ℕ) (at : ℕ) → at ≤ length sc.text → Pays rule_bytes (length sc.text) at (function_at sc w v at)
    unfolding function_at followed bytes_r bytes_t is kind_number
    function_pays w at h =
        then_prop (Pays rule_bytes (length sc.text) at) (phrase sc.text _ at) _ (λ k q. tt)
        (λ u n1 e1.
        let g1 = subst (Long 3 (length sc.text) at) e1 (phrase_long sc.text _ (refl, (refl, tt)) at h) in
        then_prop (Pays rule_bytes (length sc.text) at) (whole_expression sc n1) _ (λ k q. tt)
        (λ e n2 e2.
        let g2 = subst (Grown bytes_e (length sc.text) n1) e2 (whole_expression_grown sc few n1 g1.1) in
        then_prop (Pays rule_bytes (length sc.text) at) (phrase sc.text _ n2) _ (λ k q. tt)
        (λ u2 n3 e3.
        let g3 = subst (Long 3 (length sc.text) n2) e3 (phrase_long sc.text _ (refl, (refl, (refl, tt))) n2 g2.1) in
        (simp length-append (omega (arith, g1.0, g2.2, g3.0, id_bytes v (omega arith))), g3.1))))

    pub change_pays : (w : List ℕ) (at : ℕ) → at ≤ length sc.text → Pays rule_bytes (length sc.text) at (change_at sc w v at)
    unfolding change_at followed bytes_r bytes_t bytes_k is kind_number
    change_pays w at h =
        then_prop (Pays rule_bytes (length sc.text) at) (phrase sc.text _ at) _ (λ k q. tt)
        (λ u n1 e1.
        let g1 = subst (Kept (length sc.text) at) e1 (phrase_kept sc.text _ at h) in
        then_prop (Pays rule_bytes (length sc.text) at) (cases_from case_limit sc w [] n1) _ (λ k q. tt)
        (λ cases n2 e2.
        let g2 = subst (Pays (λ (cs : List Spanned). length (bytes_k v (cases_of cs))) (length sc.text) n1) e2 (cases_pay sc few v hv w case_limit [] n1 n1 g1.1 (omega arith)) in
        then_prop (Pays rule_bytes (length sc.text) at) (phrase sc.text _ n2) _ (λ k q. tt)
        (λ u2 n3 e3.
        let g3 = subst (Kept (length sc.text) n2) e3 (phrase_kept sc.text _ n2 g2.1) in
        then_prop (Pays rule_bytes (length sc.text) at) (agreeing_list sc cases n3) _ (λ k q. tt)
        (λ ds n4 e4.
        let g4 = subst (Kept (length sc.text) n3) e4 (agree_kept sc few lengths cases n3 g3.1) in
        then_prop (Pays rule_bytes (length sc.text) at) (phrase sc.text _ n4) _ (λ k q. tt)
        (λ u3 n5 e5.
        let g5 = subst (Long 2 (length sc.text) n4) e5 (phrase_long sc.text _ (refl, (refl, tt)) n4 g4.1) in
        (simp length-append (omega (arith, g1.0, g2.0, g3.0, g4.0, g5.0, id_bytes v (omega arith))), g5.1))))))

    later : (at n : ℕ) (p : Parsed Rule) → at ≤ n → Pays rule_bytes (length sc.text) n p → Pays rule_bytes (length sc.text) at p
    later at n (accepted r m) h g = (omega (arith, g.0), g.1)
    later at n (refused k q) h g = tt

    none_paid : (n : ℕ) → 2 * length (bytes_k v (cases_of [])) + 3 * n ≤ 3 * n
    unfolding bytes_k
    none_paid n = omega arith

    formula-pays : (w : List ℕ) (at : ℕ) → at ≤ length sc.text → Pays rule_bytes (length sc.text) at (formula_at sc w v at)
    unfolding formula_at
    formula-pays w at h =
        then_prop (Pays rule_bytes (length sc.text) at) (phrase sc.text _ at) _ (λ k q. tt)
        (λ u n e.
        let g = subst (Kept (length sc.text) at) e (phrase_kept sc.text _ at h) in
        token_prop (Pays rule_bytes (length sc.text) at) (token_at sc.text n) _ (λ k q. tt)
        (λ k s m et.
        let mv = token_at_moved sc.text n k s m g.1 et in
        cond_prop (Pays rule_bytes (length sc.text) at) (is k tilde) _ _
        (λ e. later at m (change_at sc w v m) (omega (arith, g.0, mv.0, mv.1)) (change_pays w m mv.2))
        (λ e. later at n (function_at sc w v n) g.0 (function_pays w n g.1))))

    pub pair_pays : (w : List ℕ) (at : ℕ) → at ≤ length sc.text → Pays rule_bytes (length sc.text) at (pair_at sc w v at)
    unfolding pair_at followed bytes_r bytes_t is kind_number
    pair_pays w at h =
        then_prop (Pays rule_bytes (length sc.text) at) (phrase sc.text _ at) _ (λ k q. tt)
        (λ u n1 e1.
        let g1 = subst (Kept (length sc.text) at) e1 (phrase_kept sc.text _ at h) in
        then_prop (Pays rule_bytes (length sc.text) at) (cases_from case_limit sc w [] n1) _ (λ k q. tt)
        (λ ups n2 e2.
        let g2 = subst (Pays (λ (cs : List Spanned). length (bytes_k v (cases_of cs))) (length sc.text) n1) e2 (cases_pay sc few v hv w case_limit [] n1 n1 g1.1 (none_paid n1)) in
        then_prop (Pays rule_bytes (length sc.text) at) (phrase sc.text _ n2) _ (λ k q. tt)
        (λ u2 n3 e3.
        let g3 = subst (Kept (length sc.text) n2) e3 (phrase_kept sc.text _ n2 g2.1) in
        then_prop (Pays rule_bytes (length sc.text) at) (cases_from (case_limit - length ups) sc w [] n3) _ (λ k q. tt)
        (λ downs n4 e4.
        let g4 = subst (Pays (λ (cs : List Spanned). length (bytes_k v (cases_of cs))) (length sc.text) n3) e4 (cases_pay sc few v hv w (case_limit - length ups) [] n3 n3 g3.1 (none_paid n3)) in
        then_prop (Pays rule_bytes (length sc.text) at) (phrase sc.text _ n4) _ (λ k q. tt)
        (λ u3 n5 e5.
        let g5 = subst (Long 2 (length sc.text) n4) e5 (phrase_long sc.text _ (refl, (refl, tt)) n4 g4.1) in
        (simp length-append (omega (arith, pair_length v (cases_of ups) (cases_of downs), g1.0, g2.0, g3.0, g4.0, g5.0, id_bytes v (omega arith))), g5.1))))))

    pub formulas_pay : (w : List ℕ) (at : ℕ) → at ≤ length sc.text → Pays rule_bytes (length sc.text) at (formulas sc w v at)
    unfolding formulas
    formulas_pay w at h =
        token_prop (Pays rule_bytes (length sc.text) at) (token_at sc.text at) _ (λ k q. tt)
        (λ k s n et.
        let mv = token_at_moved sc.text at k s n h et in
        cond_prop (Pays rule_bytes (length sc.text) at) (is k plus) _ _
        (λ e. later at n (pair_at sc w v n) (omega (arith, mv.0, mv.1)) (pair_pays w n mv.2))
        (λ e. formula-pays w at h))

  pub rule_pays : (xs : List Timer) (s n : ℕ) → n ≤ length sc.text → Pays rule_bytes (length sc.text) n (rule_at xs sc s n)
  unfolding rule_at with_id
  rule_pays xs s n h =
      cond_prop (Pays rule_bytes (length sc.text) n) (over_long s n) _ _ (λ e. tt)
      (λ e. option_prop (Pays rule_bytes (length sc.text) n) (id_of sc.names (part sc.text s n)) _ _ (λ z. tt)
      (λ v ev. cond_prop (Pays rule_bytes (length sc.text) n) (taken xs sc.known v) _ _ (λ t. tt)
      (λ t. formulas_pay v (omega (arith, id_of_lem sc.names (part sc.text s n) v ev)) (part sc.text s n) n h)))

-- the same of tokens that spell a rule, and rules
module _ (names : List (List ℕ)) (few : length names ≤ 64) where
  change_form_bytes : (v : List ℕ) (ts ls : List (List ℕ)) → bytes_of ts + 2 ≤ bytes_of (change_form v ts ls)
  change_form_bytes v ts ls =
      let opening = v ∷ bytes ":" ∷ bytes "GX" ∷ bytes "(" ∷ bytes "~" ∷ head_tokens v in
      let closing = bytes ")" ∷ bytes ")" ∷ bytes ";" ∷ [] in
      omega (arith, bytes_append ((opening ++ ts) ++ (middle_tokens v ++ ls)) closing, bytes_append (opening ++ ts) (middle_tokens v ++ ls), bytes_append opening ts)

  pair_form_bytes : (v : List ℕ) (ts us : List (List ℕ)) → bytes_of ts + bytes_of us + 2 ≤ bytes_of (pair_form v ts us)
  pair_form_bytes v ts us =
      let opening = v ∷ bytes "+" ∷ rise_tokens v in
      let closing = bytes ")" ∷ bytes ";" ∷ [] in
      omega (arith, bytes_append ((opening ++ ts) ++ (fall_tokens v ++ us)) closing, bytes_append (opening ++ ts) (fall_tokens v ++ us), bytes_append opening ts, bytes_append (fall_tokens v) us)

  rule_makes : (ts : List (List ℕ)) (r : Rule) → SpellsR names ts r → 2 * rule_bytes r ≤ 3 * bytes_of ts
  unfolding bytes_r bytes_t
  rule_makes ts r (a_change v i us ls ks cs ei d room e) =
      let hi : i < 64 = omega (arith, place_in names i v ei) in
      simp length-append (omega (arith, cases_make names few i hi v us ls ks d, change_form_bytes v us ls, id_bytes i (omega arith)))
  rule_makes ts r (a_pair v i us ls ws ms ks js ei d f room) =
      let hi : i < 64 = omega (arith, place_in names i v ei) in
      simp length-append (omega (arith, pair_length i ks js, cases_make names few i hi v us ls ks d, cases_make names few i hi v ws ms js f, pair_form_bytes v us ws, id_bytes i (omega arith)))
  rule_makes ts r (a_function v i us e ei d) =
      let hi : i < 64 = omega (arith, place_in names i v ei) in
      let g = expression_makes names few D.expression bracket_limit us e d in
      let b = bytes_append (v ∷ bytes ":" ∷ bytes "GX" ∷ bytes "(" ∷ v ∷ bytes "=" ∷ bytes "(" ∷ us) (bytes ")" ∷ bytes ")" ∷ bytes ";" ∷ []) in
      simp length-append (omega (arith, g.1, b, id_bytes i (omega arith)))

  pub rules_make : (ts : List (List ℕ)) (rs : List Rule) → SpellsRules names ts rs → 2 * length (bytes_r [] rs) ≤ 3 * bytes_of ts
  unfolding bytes_r bytes_t
  rules_make ts rs S.SpellsRules.none = omega arith
  rules_make ts rs (S.SpellsRules.more us vs r qs d q) = omega (arith, rule_makes us r d, rules_make vs qs q, rules_code_lem [] r qs, bytes_append us vs)
