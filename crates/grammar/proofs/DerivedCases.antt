-- Cases that are accepted are spelled by the tokens that were read. Assumes nothing.
use mathlib.Core.Path.{◌≡◌, refl, ◌∙◌, subst}
use mathlib.Core.List.{List, [], ◌∷◌, ◌++◌, map, append_assoc}
use Prim.Native.Nat.{ℕ, zero, suc, ◌≤◌}
use native.Mathlib.Omega.{arith}
use lib.ListN.{length}
use Rattle.limits.specs.Limits.{bracket_limit}
use Rattle.lexer.specs.Bytes.{bytes}
use Rattle.lexer.specs.Token.{kind_number, close_round, open_square, bar, is}
use Rattle.lexer.specs.Lexer.{token_at}
use Rattle.lexer.proofs.Laws.{cond_prop, token_at_moved}
use Rattle.semantics.specs.Program.{changing, Case, UsableK}
use Rattle.grammar.specs.Parsed.{Parsed, accepted, refused, sign, phrase, followed}
use Rattle.grammar.specs.Expressions.{Scope, whole_expression}
use Rattle.grammar.specs.Conditions.{listed}
use Rattle.grammar.specs.Forms.{case_value_opening}
use Rattle.grammar.specs.Rules.{Spanned, case_at, cases_from, cases_of}
use Rattle.grammar.specs.Derivation.{Stands, Spells, normal, normals}
use Rattle.grammar.specs.Derivation as D
use Rattle.grammar.specs.Spelled.{squared, cased, SpellsCases, one_case, more_cases, SpellsList, one_listed, more_listed}
use Rattle.grammar.proofs.Combine.{token_prop, then_prop}
use Rattle.lexer.proofs.Spellings.{is_fixed}
use Rattle.grammar.proofs.Standing.{stands_in, spells_in, spells_append, Seen, normally}
use Rattle.grammar.proofs.Phrases.{signs, fixed_stands, phrase_spells}
use Rattle.grammar.proofs.Listed.{Listed, last, next}
use Rattle.grammar.proofs.Derived.{Derives, ScopedE, ScopedC, Closed, whole_expression_derives, listed_scoped}

-- the tokens of a case after its `[`
abbrev pub case_rest : List ℕ → List (List ℕ) → List (List ℕ) → List (List ℕ)
case_rest w ts us = (ts ++ bytes "]" ∷ []) ++ bytes "&" ∷ w ∷ bytes "=" ∷ bytes "(" ∷ us ++ bytes ")" ∷ []

-- the list of the conditions of cases is one
pub cases_list : (names : List (List ℕ)) (v : List ℕ) (ts ls : List (List ℕ)) (ks : List Case) → SpellsCases names v ts ls ks → SpellsList names ls (map (λ k. k.condition) ks)
cases_list names v ts ls ks (one_case us vs k s c e) = one_listed us k.condition c
cases_list names v ts ls ks (more_cases us vs ws ms k js s c e r) = more_listed us ms k.condition (map (λ k. k.condition) js) c (cases_list names v ws ms js r)

module _ (sc : Scope) where
  -- a case after its `[`, which begins at `at` and ends at n
  pub record CaseRead (w : List ℕ) (at n m : ℕ) (c : Spanned) : Type 0 where
    pub conditions : List (List ℕ)
    pub values : List (List ℕ)
    pub lists : Spells normal sc.text n c.span.to (conditions ++ bytes "]" ∷ [])
    pub spells : Spells normal sc.text n m (case_rest w conditions values)
    pub begins : c.span.from ≡ at
    pub sided : c.case.side ≡ changing
    pub condition : ScopedC sc D.condition bracket_limit conditions c.case.condition
    pub value : ScopedE sc D.expression bracket_limit values c.case.value

  abbrev pub CaseReads : List ℕ → ℕ → ℕ → Parsed Spanned → Type 0
  CaseReads w at n (accepted c m) = CaseRead w at n m c
  CaseReads w at n (refused k q) = Unit {0}

  pub case_derives : (w : List ℕ) → Seen normally w → (at n : ℕ) → n ≤ length sc.text → CaseReads w at n (case_at sc w at n)
  unfolding case_at followed signs is_fixed kind_number
  case_derives w seen at n h =
      then_prop (CaseReads w at n) (listed sc n) _ (λ k q. tt)
      (λ c n1 e1.
      let d1 = subst (Derives normally sc.text (Closed normally sc.text (ScopedC sc D.condition bracket_limit) (bytes "]")) n) e1 (listed_scoped sc n h) in
      let ts = d1.derives.inner in
      let s1 : Spells normal sc.text n n1 (ts ++ bytes "]" ∷ []) = subst (Spells normal sc.text n n1) d1.derives.is_closed d1.spells in
      let i1 = (spells_in normally sc.text n n1 (ts ++ bytes "]" ∷ []) h s1).1 in
      then_prop (CaseReads w at n) (phrase sc.text (case_value_opening w) n1) _ (λ k q. tt)
      (λ u n2 e2.
      let s2 = phrase_spells normally sc.text (case_value_opening w) refl (seen, tt) n1 u n2 i1 e2 in
      let i2 = (spells_in normally sc.text n1 n2 (bytes "&" ∷ w ∷ bytes "=" ∷ bytes "(" ∷ []) i1 s2).1 in
      then_prop (CaseReads w at n) (whole_expression sc n2) _ (λ k q. tt)
      (λ e n3 e3.
      let d3 = subst (Derives normally sc.text (ScopedE sc D.expression bracket_limit) n2) e3 (whole_expression_derives sc n2 i2) in
      let i3 = (spells_in normally sc.text n2 n3 d3.tokens i2 d3.spells).1 in
      then_prop (CaseReads w at n) (phrase sc.text (sign close_round ∷ []) n3) _ (λ k q. tt)
      (λ u2 n4 e4.
      let s4 = phrase_spells normally sc.text (sign close_round ∷ []) refl tt n3 u2 n4 i3 e4 in
      let s23 = spells_append normally sc.text n1 n2 n3 (bytes "&" ∷ w ∷ bytes "=" ∷ bytes "(" ∷ []) d3.tokens s2 d3.spells in
      let s13 = spells_append normally sc.text n n1 n3 (ts ++ bytes "]" ∷ []) (bytes "&" ∷ w ∷ bytes "=" ∷ bytes "(" ∷ d3.tokens) s1 s23 in
      record {
        conditions = ts;
        values = d3.tokens;
        lists = s1;
        spells = spells_append normally sc.text n n3 n4 ((ts ++ bytes "]" ∷ []) ++ bytes "&" ∷ w ∷ bytes "=" ∷ bytes "(" ∷ d3.tokens) (bytes ")" ∷ []) s13 s4;
        begins = refl;
        sided = refl;
        condition = d1.derives.derives;
        value = d3.derives;
      }))))

  -- at most `left` cases, after those done
  pub record CasesRead (w : List ℕ) (left : ℕ) (done : List Spanned) (at n : ℕ) (cs : List Spanned) : Type 0 where
    pub more : List Spanned
    pub is_more : cs ≡ done ++ more
    pub tokens : List (List ℕ)
    pub list : List (List ℕ)
    pub spells : Spells normal sc.text at n tokens
    pub derives : SpellsCases (normals sc.names) w tokens list (cases_of more)
    pub lists : Listed sc.text more list
    pub counted : length (cases_of more) ≤ left
    pub usable : length sc.names ≡ length sc.known → UsableK sc.known (cases_of more)

  abbrev pub CasesReads : List ℕ → ℕ → List Spanned → ℕ → Parsed (List Spanned) → Type 0
  CasesReads w left done at (accepted cs n) = CasesRead w left done at n cs
  CasesReads w left done at (refused k q) = Unit {0}

  -- the last case, and one before others, with their `[`
  module _ (w : List ℕ) (left : ℕ) (done : List Spanned) (at n m : ℕ) (c : Spanned) (h : at ≤ length sc.text) (st : Stands normal sc.text at n (bytes "[")) (r : CaseRead w at n m c) where
    abbrev tokens : List (List ℕ)
    tokens = cased w r.conditions r.values

    span_within : c.span.from ≤ length sc.text
    span_within = rw r.begins h

    span_spells : Spells normal sc.text c.span.from c.span.to (squared r.conditions)
    span_spells = rw r.begins (n, st, r.lists)

    case_last : CasesRead w (suc left) done at m (done ++ (c ∷ []))
    case_last =
        record {
          more = c ∷ [];
          is_more = refl;
          tokens = tokens;
          list = squared r.conditions;
          spells = (n, st, r.spells);
          derives = one_case r.conditions r.values c.case r.sided r.condition.0 r.value.0;
          lists = last c (squared r.conditions) span_within span_spells;
          counted = omega arith;
          usable = λ g. (r.condition.1 g, r.value.1 g, tt);
        }

    case_next : (i : ℕ) → Stands normal sc.text m i (bytes "|") → (p : Parsed (List Spanned)) → CasesReads w left (done ++ (c ∷ [])) i p → CasesReads w (suc left) done at p
    case_next i su (accepted cs j) q =
        record {
          more = c ∷ q.more;
          is_more = q.is_more ∙ append_assoc done (c ∷ []) q.more;
          tokens = tokens ++ bytes "|" ∷ q.tokens;
          list = squared r.conditions ++ bytes "|" ∷ q.list;
          spells = spells_append normally sc.text at m j tokens (bytes "|" ∷ q.tokens) (n, st, r.spells) (i, su, q.spells);
          derives = more_cases r.conditions r.values q.tokens q.list c.case (cases_of q.more) r.sided r.condition.0 r.value.0 q.derives;
          lists = next c q.more (squared r.conditions) q.list span_within span_spells q.lists;
          counted = omega (arith, q.counted);
          usable = λ g. (r.condition.1 g, r.value.1 g, q.usable g);
        }
    case_next i su (refused k p) q = tt

  pub cases_derive : (w : List ℕ) → Seen normally w → (left : ℕ) (done : List Spanned) (at : ℕ) → at ≤ length sc.text → CasesReads w left done at (cases_from left sc w done at)
  unfolding cases_from is_fixed kind_number
  cases_derive w seen zero done at h =
      token_prop (CasesReads w zero done at) (token_at sc.text at) _ (λ k q. tt)
      (λ k s n et. cond_prop (CasesReads w zero done at) (is k open_square) _ _ (λ e. tt) (λ e. tt))
  cases_derive w seen (suc left) done at h =
      token_prop (CasesReads w (suc left) done at) (token_at sc.text at) _ (λ k q. tt)
      (λ k s n et. cond_prop (CasesReads w (suc left) done at) (is k open_square) _ _
      (λ eo. then_prop (CasesReads w (suc left) done at) (case_at sc w at n) _ (λ k q. tt)
      (λ c n1 e1.
      let st = fixed_stands normally sc.text open_square refl at k s n h et eo in
      let i0 = (stands_in normally sc.text at n (bytes "[") h st).1 in
      let r = subst (CaseReads w at n) e1 (case_derives w seen at n i0) in
      let i1 = (spells_in normally sc.text n n1 (case_rest w r.conditions r.values) i0 r.spells).1 in
      token_prop (CasesReads w (suc left) done at) (token_at sc.text n1) _ (λ k q. tt)
      (λ k2 s2 n2 et2.
      let mw = token_at_moved sc.text n1 k2 s2 n2 i1 et2 in
      cond_prop (CasesReads w (suc left) done at) (is k2 bar) _ _
      (λ e. case_next w left done at n n1 c h st r n2 (fixed_stands normally sc.text bar refl n1 k2 s2 n2 i1 et2 e) (cases_from left sc w (done ++ (c ∷ [])) n2) (cases_derive w seen left (done ++ (c ∷ [])) n2 mw.2))
      (λ e. case_last w left done at n n1 c h st r))))
      (λ e. tt))
