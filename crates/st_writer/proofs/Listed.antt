-- Assignments, cases and rules put before a place. Assumes nothing.
use Prim.Native.Nat.{ℕ, ◌+◌, ◌^◌, ◌≤◌, ◌<◌}
use native.Mathlib.Omega.{arith}
use mathlib.Core.Path.{◌≡◌, refl, sym, ap, subst, ◌∙◌}
use mathlib.Core.Bool.{Bool, true, false, true≢false}
use mathlib.Core.List.{List, [], ◌∷◌, ◌++◌, map}
use lib.Dec.{ltb}
use lib.ListN.{length, get_or, drop, drop_of_length-le}
use lib.Seq.{drop-cons}
use borrow.Author.Tests.{ltb-true, ltb-false}
use Rattle.semantics.specs.Program.{Expression, Condition, changing, rising, falling, Case, Rule, function, change, Program}
use Rattle.semantics.specs.Program as P
use Rattle.lexer.specs.Bytes.{bytes}
use Rattle.leb128.specs.Numbers.{got, nothing, number_at}
use Rattle.bytecode.specs.Instructions.{pick_code}
use Rattle.bytecode.specs.Translation.{code_rules, Translatable}
use Rattle.bytecode.proofs.RoundTrip.{begins}
use Rattle.bytecode.proofs.Soundness.{past_end}
use Rattle.st.specs.Syntax.{Identifier, Statement}
use Rattle.st.specs.Printed.{assignment_printed, later_branches, statement_printed, statements_printed}
use Rattle.st_program.specs.Written.{expression_in_st, condition_in_st, branch_in_st, rule_in_st}
use Rattle.st_writer.specs.Inner.Fronts.{Fronts}
use Rattle.st_writer.specs.Inner.Mirrored.{mirrored}
use Rattle.st_writer.specs.Inner.Operands.{operand_of, operand_of_c, operand_code, operand_in_st, PrintsOperand}
use Rattle.st_writer.specs.Inner.Statements.{assignment_of, PrintsAssignment, is_pick_code, pick_first, case_code, cases_code, SmallCases, case_printed, case_word, word_before, cases_printed, PrintsCase, PrintsCases, onto, rule_code, rules_code, SmallRule, SmallRules, rules_printed, PrintsRule}
use Rattle.st_writer.proofs.Laws.{fronts_nothing, fronts_then, as_front}
use Rattle.st_writer.proofs.Numbers.{number_read, number_unread}
use Rattle.st_writer.proofs.Mirrors.{mirrored_rules, program_small}

pub statements_joined : (ss ts : List Statement) (l : List ℕ) → statements_printed (ss ++ ts) l ≡ statements_printed ss (statements_printed ts l)
unfolding statements_printed
statements_joined [] ts l = refl
statements_joined (s ∷ ss) ts l = ap (statement_printed s) (statements_joined ss ts l)

-- ---- whether a pick stands at a place

pub pick_none : (code : List ℕ) (at : ℕ) → length code ≤ at → false ≡ pick_first (drop at code)
unfolding pick_first
pick_none code at h = rw (drop_of_length-le code h)

pub pick_is : (code : List ℕ) (at : ℕ) → at < length code → pick_first (drop at code) ≡ is_pick_code (get_or code at 0)
unfolding pick_first
pick_is code at h = ap pick_first (drop-cons code at 0 h)

pub pick_inside : (code : List ℕ) (at : ℕ) → pick_first (drop at code) ≡ true → at < length code
pick_inside code at y = go (ltb at (length code)) refl where
  go : (t : Bool) → ltb at (length code) ≡ t → at < length code
  go true e = ltb-true at (length code) e
  go false e = absurd (true≢false (sym y ∙ sym (pick_none code at (ltb-false at (length code) e))))

module _ (names : List Identifier) where
  -- ---- operands are the expressions and conditions

  operand_E : (e : Expression) → operand_in_st names (operand_of e) ≡ expression_in_st names e
  unfolding operand_in_st expression_in_st
  operand_E (P.constant z) = refl
  operand_E (P.current i) = refl
  operand_E (P.previous i) = refl
  operand_E (P.operation o a b) = rw (operand_E a, operand_E b)
  operand_E (P.negate a) = rw (operand_E a)

  operand_C : (c : Condition) → operand_in_st names (operand_of_c c) ≡ condition_in_st names c
  unfolding operand_in_st condition_in_st
  operand_C (P.comparison o a b) = rw (operand_E a, operand_E b)
  operand_C (P.negated c) = rw (operand_C c)
  operand_C (P.both a b) = rw (operand_C a, operand_C b)
  operand_C (P.either a b) = rw (operand_C a, operand_C b)

  -- ---- assignments

  pub assignment_none : (code : List ℕ) (at : ℕ) (m : List ℕ) (to : ℕ) → nothing ≡ number_at code at → PrintsAssignment names code at m m to at to
  assignment_none code at m to r = record { same = refl; found = λ v t c h s e. absurd (number_unread code at v (operand_code t c) r h e) }

  pub assignment_put : (code : List ℕ) (at v behind next : ℕ) (m₀ m₁ m₂ m₃ m₄ : List ℕ) (to p₁ p₂ p₃ p₄ : ℕ) → got v behind ≡ number_at code at
      → Fronts (λ l. bytes ";\n" ++ l) m₀ m₁ to p₁ → PrintsOperand names code behind m₁ m₂ p₁ next p₂
      → Fronts (λ l. bytes " := " ++ l) m₂ m₃ p₂ p₃ → Fronts (λ l. get_or names v [] ++ l) m₃ m₄ p₃ p₄ → PrintsAssignment names code at m₀ m₄ to next p₄
  assignment_put code at v behind next m₀ m₁ m₂ m₃ m₄ to p₁ p₂ p₃ p₄ r end value sign target =
      record {
        same = target.same ∙ sign.same ∙ value.same ∙ end.same;
        found = λ w t c h s e.
            let n = number_read code at v behind w (operand_code t c) r h e in
            let o = value.found t c s n.1 in
            (o.0, subst (λ (k : ℕ). Fronts (assignment_printed (assignment_of names k t)) m₀ m₄ to p₄) n.0 (fronts_then (fronts_then (fronts_then end o.1) sign) target));
      }

  -- ---- cases

  -- the code ends where the condition should stand: no case stood there
  pub case_short : (code : List ℕ) (at gate : ℕ) (m₀ m₁ m₂ : List ℕ) (to p₁ p₂ : ℕ) → length code ≤ gate → length m₂ ≡ length m₁ → PrintsAssignment names code (at + 1) m₀ m₁ to gate p₁
      → PrintsCase names code at m₀ m₂ to gate p₂
  unfolding case_code
  case_short code at gate m₀ m₁ m₂ to p₁ p₂ h k body =
      record {
        same = k ∙ body.same;
        found = λ v x c g s e.
            let b = begins code at (pick_code x.side) _ e in
            let o = body.found v (operand_of x.value) (19 ∷ operand_code (operand_of_c x.condition) c) g s.1 b.behind in
            let i = (begins code gate 19 _ o.0).inside in
            absurd (omega arith);
      }

  pub case_put : (code : List ℕ) (at gate next : ℕ) (m₀ m₁ m₂ m₃ : List ℕ) (to p₁ p₂ p₃ : ℕ) → PrintsAssignment names code (at + 1) m₀ m₁ to gate p₁
      → Fronts (λ l. bytes " THEN\n  " ++ l) m₁ m₂ p₁ p₂ → PrintsOperand names code (gate + 1) m₂ m₃ p₂ next p₃ → PrintsCase names code at m₀ m₃ to next p₃
  unfolding case_code
  case_put code at gate next m₀ m₁ m₂ m₃ to p₁ p₂ p₃ body word test =
      record {
        same = test.same ∙ word.same ∙ body.same;
        found = λ v x c g s e.
            let b = begins code at (pick_code x.side) _ e in
            let o = body.found v (operand_of x.value) (19 ∷ operand_code (operand_of_c x.condition) c) g s.1 b.behind in
            let d = begins code gate 19 _ o.0 in
            let q = test.found (operand_of_c x.condition) c s.0 d.behind in
            (q.0, as_front (λ l. rw (sym (operand_C x.condition), sym (operand_E x.value))) (fronts_then (fronts_then o.1 word) q.1));
      }

  pub record CasesLeft (v : ℕ) (ks : List Case) (c code : List ℕ) (a : ℕ) (before after : List ℕ) (to place : ℕ) : Type 0 where
    pub left : List Case
    pub front : List ℕ → List ℕ
    pub small : SmallCases left
    pub stands : drop a code ≡ cases_code v left c
    pub wrote : Fronts front before after to place
    pub whole : (l : List ℕ) → cases_printed names v ks l ≡ cases_printed names v left (front l)

  abbrev pub Cases : List ℕ → ℕ → ℕ → List ℕ → List ℕ → ℕ → ℕ → Type 0
  Cases code at a before after to place =
      (v : ℕ) (ks : List Case) (c : List ℕ) → v < 2 ^ 32 → SmallCases ks → pick_first c ≡ false → drop at code ≡ cases_code v ks c → CasesLeft v ks c code a before after to place

  pub cases_start : (code : List ℕ) (at : ℕ) (m : List ℕ) (to : ℕ) → Cases code at at m m to to
  cases_start code at m to v ks c h s n e = record { left = ks; front = λ l. l; small = s; stands = e; wrote = fronts_nothing m to; whole = λ l. refl }

  picked : (v : ℕ) (k : Case) (c : List ℕ) → pick_first (case_code v k c) ≡ true
  unfolding pick_first case_code
  picked v k c = go k.side where
    go : (s : P.Side) → pick_first (pick_code s ∷ []) ≡ true
    go changing = refl
    go rising = refl
    go falling = refl

  -- the first word, by what stands before the case
  worded : (v : ℕ) (ks : List Case) (c l : List ℕ) → pick_first c ≡ false → bytes (case_word ks) ++ l ≡ word_before (pick_first (cases_code v ks c)) l
  unfolding cases_code
  worded v [] c l n = rw n
  worded v (k ∷ ks) c l n = rw (picked v k (cases_code v ks c))

  pub cases_go : (code : List ℕ) (at a next : ℕ) (m₀ m₁ m₂ m₃ : List ℕ) (to p₁ p₂ p₃ : ℕ) → pick_first (drop a code) ≡ true → Cases code at a m₀ m₁ to p₁
      → PrintsCase names code a m₁ m₂ p₁ next p₂ → Fronts (word_before (pick_first (drop next code))) m₂ m₃ p₂ p₃ → Cases code at next m₀ m₃ to p₃
  unfolding cases_code cases_printed
  cases_go code at a next m₀ m₁ m₂ m₃ to p₁ p₂ p₃ y s one word v ks c h g n e = go (s v ks c h g n e).left refl where
    go : (js : List Case) → (s v ks c h g n e).left ≡ js → CasesLeft v ks c code next m₀ m₃ to p₃
    go [] q = absurd (true≢false (sym y ∙ ap pick_first ((s v ks c h g n e).stands ∙ ap (λ (x : List Case). cases_code v x c) q) ∙ n))
    go (j ∷ js) q =
        let f = (s v ks c h g n e).front in
        let small : SmallCases (j ∷ js) = subst SmallCases q (s v ks c h g n e).small in
        let o = one.found v j (cases_code v js c) h small.0 ((s v ks c h g n e).stands ∙ ap (λ (x : List Case). cases_code v x c) q) in
        record {
          left = js;
          front = λ l. word_before (pick_first (drop next code)) (case_printed names v j (f l));
          small = small.1;
          stands = o.0;
          wrote = fronts_then (fronts_then (s v ks c h g n e).wrote o.1) word;
          whole = λ l. (s v ks c h g n e).whole l ∙ ap (λ (x : List Case). cases_printed names v x (f l)) q
              ∙ ap (cases_printed names v js) (worded v js c (case_printed names v j (f l)) n ∙ ap (λ (x : List ℕ). word_before (pick_first x) (case_printed names v j (f l))) (sym o.0));
        }

  pub cases_end : (code : List ℕ) (at a : ℕ) (m₀ m₁ : List ℕ) (to p : ℕ) → pick_first (drop a code) ≡ false → length m₁ ≡ length m₀ → Cases code at a m₀ m₁ to p
      → PrintsCases names code at m₀ m₁ to a p
  unfolding cases_code cases_printed
  cases_end code at a m₀ m₁ to p y k s = record { same = k; found = λ v ks c h g n e. go v ks c (s v ks c h g n e) (s v ks c h g n e).left refl } where
    go : (v : ℕ) (ks : List Case) (c : List ℕ) (r : CasesLeft v ks c code a m₀ m₁ to p) (js : List Case) → r.left ≡ js → (drop a code ≡ c) × Fronts (cases_printed names v ks) m₀ m₁ to p
    go v ks c r [] q = (r.stands ∙ ap (λ (x : List Case). cases_code v x c) q, as_front (λ l. r.whole l ∙ ap (λ (x : List Case). cases_printed names v x (r.front l)) q) r.wrote)
    go v ks c r (j ∷ js) q = absurd (true≢false (sym (picked v j (cases_code v js c)) ∙ ap pick_first (sym (r.stands ∙ ap (λ (x : List Case). cases_code v x c) q)) ∙ y))

  -- ---- rules

  later_onto : (v : ℕ) (ks js : List Case) (j : Case) (l : List ℕ) → cases_printed names v (onto ks (j ∷ js)) (bytes "END_IF;\n" ++ l) ≡ cases_printed names v (j ∷ js) (later_branches (map (branch_in_st names v) ks) l)
  unfolding cases_printed later_branches
  later_onto v [] js j l = refl
  later_onto v (k ∷ ks) js j l = later_onto v ks (j ∷ js) k l

  -- a block, its last case first
  block_printed : (v : ℕ) (ks : List Case) (cs : List Condition) (l : List ℕ) → 1 ≤ length ks
      → statement_printed (rule_in_st names (change v ks cs)) l ≡ cases_printed names v (onto ks []) (bytes "END_IF;\n" ++ l)
  unfolding cases_printed statement_printed rule_in_st
  block_printed v [] cs l h = absurd (omega arith)
  block_printed v (k ∷ ks) cs l h = sym (later_onto v ks [] k l)

  small_onto : (ks js : List Case) → SmallCases ks → SmallCases js → SmallCases (onto ks js)
  small_onto [] js a b = b
  small_onto (k ∷ ks) js a b = small_onto ks (k ∷ js) a.1 (a.0, b)

  pub rule_let : (code : List ℕ) (at next : ℕ) (m₀ m₁ : List ℕ) (to p : ℕ) → get_or code at 0 ≡ 21 → PrintsAssignment names code (at + 1) m₀ m₁ to next p → PrintsRule names code at m₀ m₁ to next p
  unfolding rule_code statement_printed rule_in_st
  rule_let code at next m₀ m₁ to p h a = record { same = a.same; found = go } where
    go : (r : Rule) (c : List ℕ) → SmallRule r → pick_first c ≡ false → drop at code ≡ rule_code r c → (drop next code ≡ c) × Fronts (statement_printed (rule_in_st names r)) m₀ m₁ to p
    go (function v x) c s n e =
        let b = begins code at 21 _ e in
        let o = a.found v (operand_of x) c s.0 s.1 b.behind in
        (o.0, as_front (λ l. rw (sym (operand_E x))) o.1)
    go (change v ks cs) c s n e = let b = (begins code at 22 _ e).first in absurd (omega arith)

  pub rule_none : (code : List ℕ) (at : ℕ) (m : List ℕ) (to : ℕ) → (get_or code at 0 ≡ 21 → ⊥) → nothing ≡ number_at code (at + 1) → PrintsRule names code at m m to (at + 1) to
  unfolding rule_code
  rule_none code at m to h r = record { same = refl; found = go } where
    go : (x : Rule) (c : List ℕ) → SmallRule x → pick_first c ≡ false → drop at code ≡ rule_code x c → (drop (at + 1) code ≡ c) × Fronts (statement_printed (rule_in_st names x)) m m to to
    go (function v x) c s n e = absurd (h (begins code at 21 _ e).first)
    go (change v ks cs) c s n e = absurd (number_unread code (at + 1) v _ r s.0 (begins code at 22 _ e).behind)

  pub rule_block : (code : List ℕ) (at v first next : ℕ) (m₀ m₁ m₂ : List ℕ) (to p₁ p₂ : ℕ) → (get_or code at 0 ≡ 21 → ⊥) → got v first ≡ number_at code (at + 1)
      → Fronts (λ l. bytes "END_IF;\n" ++ l) m₀ m₁ to p₁ → PrintsCases names code first m₁ m₂ p₁ next p₂ → PrintsRule names code at m₀ m₂ to next p₂
  unfolding rule_code
  rule_block code at v first next m₀ m₁ m₂ to p₁ p₂ h r end cases = record { same = cases.same ∙ end.same; found = go } where
    go : (x : Rule) (c : List ℕ) → SmallRule x → pick_first c ≡ false → drop at code ≡ rule_code x c → (drop next code ≡ c) × Fronts (statement_printed (rule_in_st names x)) m₀ m₂ to p₂
    go (function w x) c s n e = absurd (h (begins code at 21 _ e).first)
    go (change w ks cs) c s n e =
        let b = begins code at 22 _ e in
        let m = number_read code (at + 1) v first w _ r s.0 b.behind in
        let o = cases.found w (onto ks []) c s.0 (small_onto ks [] s.1 tt) n m.1 in
        (o.0, as_front (λ l. block_printed w ks cs l s.2) (fronts_then end o.1))

  rules_onto : (rs qs : List Rule) (l : List ℕ) → rules_printed names (onto rs qs) l ≡ rules_printed names qs (statements_printed (map (rule_in_st names) rs) l)
  unfolding rules_printed statements_printed
  rules_onto [] qs l = refl
  rules_onto (r ∷ rs) qs l = rules_onto rs (r ∷ qs) l

  pub record RulesLeft (rs : List Rule) (code : List ℕ) (a : ℕ) (before after : List ℕ) (to place : ℕ) : Type 0 where
    pub left : List Rule
    pub front : List ℕ → List ℕ
    pub small : SmallRules left
    pub stands : drop a code ≡ rules_code left
    pub wrote : Fronts front before after to place
    pub whole : (l : List ℕ) → rules_printed names rs l ≡ rules_printed names left (front l)

  abbrev pub Rules : List ℕ → ℕ → List ℕ → List ℕ → ℕ → ℕ → Type 0
  Rules code a before after to place = (rs : List Rule) → SmallRules rs → code ≡ rules_code rs → RulesLeft rs code a before after to place

  pub rules_start : (code m : List ℕ) (to : ℕ) → Rules code 0 m m to to
  rules_start code m to rs s e = record { left = rs; front = λ l. l; small = s; stands = e; wrote = fronts_nothing m to; whole = λ l. refl }

  no_pick : (rs : List Rule) → pick_first (rules_code rs) ≡ false
  unfolding pick_first rules_code rule_code
  no_pick [] = refl
  no_pick (function v e ∷ rs) = refl
  no_pick (change v ks cs ∷ rs) = refl

  pub rules_go : (code : List ℕ) (a next : ℕ) (m₀ m₁ m₂ : List ℕ) (to p₁ p₂ : ℕ) → a < length code → Rules code a m₀ m₁ to p₁ → PrintsRule names code a m₁ m₂ p₁ next p₂
      → Rules code next m₀ m₂ to p₂
  unfolding rules_code rules_printed
  rules_go code a next m₀ m₁ m₂ to p₁ p₂ h s one rs g e = go (s rs g e).left refl where
    go : (qs : List Rule) → (s rs g e).left ≡ qs → RulesLeft rs code next m₀ m₂ to p₂
    go [] q = let x = past_end code a ((s rs g e).stands ∙ ap rules_code q) in absurd (omega arith)
    go (r ∷ qs) q =
        let f = (s rs g e).front in
        let small : SmallRules (r ∷ qs) = subst SmallRules q (s rs g e).small in
        let o = one.found r (rules_code qs) small.0 (no_pick qs) ((s rs g e).stands ∙ ap rules_code q) in
        record {
          left = qs;
          front = λ l. statement_printed (rule_in_st names r) (f l);
          small = small.1;
          stands = o.0;
          wrote = fronts_then (s rs g e).wrote o.1;
          whole = λ l. (s rs g e).whole l ∙ ap (λ (x : List Rule). rules_printed names x (f l)) q;
        }

  pub rules_end : (code : List ℕ) (a : ℕ) (m₀ m₁ : List ℕ) (to p : ℕ) → length code ≤ a → Rules code a m₀ m₁ to p → (x : Program) → Translatable x → x.timers ≡ [] → code ≡ mirrored (code_rules [] x.rules) []
      → Fronts (statements_printed (map (rule_in_st names) x.rules)) m₀ m₁ to p
  unfolding rules_code rules_printed rule_code
  rules_end code a m₀ m₁ to p h s x t z e =
      go (s (onto x.rules []) (program_small x t z) (e ∙ mirrored_rules x.rules)) _ refl where
        go : (r : RulesLeft (onto x.rules []) code a m₀ m₁ to p) (qs : List Rule) → r.left ≡ qs → Fronts (statements_printed (map (rule_in_st names) x.rules)) m₀ m₁ to p
        go r [] q = as_front (λ l. sym (rules_onto x.rules [] l) ∙ r.whole l ∙ ap (λ (k : List Rule). rules_printed names k (r.front l)) q) r.wrote
        go r (function v y ∷ qs) q = let i = (begins code a 21 _ (r.stands ∙ ap rules_code q)).inside in absurd (omega arith)
        go r (change v ks cs ∷ qs) q = let i = (begins code a 22 _ (r.stands ∙ ap rules_code q)).inside in absurd (omega arith)
