-- Mirrored code: what the mirror holds of each part of a program, and how it is made. Assumes nothing.
use Prim.Native.Nat.{ℕ}
use mathlib.Core.Path.{◌≡◌, refl, ap, subst, ◌∙◌}
use mathlib.Core.List.{List, [], ◌∷◌, ◌++◌}
use Rattle.semantics.specs.Program.{Expression, Condition, Case, Rule, function, change, Timer, Program}
use Rattle.semantics.specs.Program as P
use Rattle.leb128.proofs.RoundTrip.{zigzag_small}
use Rattle.bytecode.specs.Instructions.{Instruction, encode}
use Rattle.bytecode.specs.Translation.{code_e, code_c, code_case, code_k, code_r, code_rules, ShallowR, Shallow, Translatable}
use Rattle.bytecode.proofs.RoundTrip.{AllSmall}
use Rattle.bytecode.proofs.Soundness.{translated_small}
use Rattle.st_writer.specs.Inner.Mirrored.{mirrored}
use Rattle.st_writer.specs.Inner.Operands.{operand_of, operand_of_c, operand_code, SmallOperand}
use Rattle.st_writer.specs.Inner.Statements.{case_code, cases_code, SmallCases, onto, rule_code, rules_code, SmallRule, SmallRules}

-- ---- the mirror of each part

pub mirrored_joined : (is js : List Instruction) (l : List ℕ) → mirrored (is ++ js) l ≡ mirrored js (mirrored is l)
unfolding mirrored
mirrored_joined [] js l = refl
mirrored_joined (i ∷ is) js l = mirrored_joined is js (encode i ++ l)

-- two parts, then one instruction
mirrored_two : (is js : List Instruction) (i : Instruction) (l : List ℕ) → mirrored (is ++ js ++ i ∷ []) l ≡ encode i ++ mirrored js (mirrored is l)
unfolding mirrored
mirrored_two is js i l = mirrored_joined (is ++ js) (i ∷ []) l ∙ ap (λ (k : List ℕ). encode i ++ k) (mirrored_joined is js l)

mirrored_one : (is : List Instruction) (i : Instruction) (l : List ℕ) → mirrored (is ++ i ∷ []) l ≡ encode i ++ mirrored is l
unfolding mirrored
mirrored_one is i l = mirrored_joined is (i ∷ []) l

mirrored_E : (e : Expression) (l : List ℕ) → mirrored (code_e e) l ≡ operand_code (operand_of e) l
unfolding mirrored operand_code
mirrored_E (P.constant z) l = refl
mirrored_E (P.current i) l = refl
mirrored_E (P.previous i) l = refl
mirrored_E (P.operation o a b) l = mirrored_two (code_e a) (code_e b) _ l ∙ rw (mirrored_E a l, mirrored_E b (operand_code (operand_of a) l))
mirrored_E (P.negate a) l = mirrored_one (code_e a) _ l ∙ rw (mirrored_E a l)

mirrored_C : (c : Condition) (l : List ℕ) → mirrored (code_c c) l ≡ operand_code (operand_of_c c) l
unfolding mirrored operand_code
mirrored_C (P.comparison o a b) l = mirrored_two (code_e a) (code_e b) _ l ∙ rw (mirrored_E a l, mirrored_E b (operand_code (operand_of a) l))
mirrored_C (P.negated a) l = mirrored_one (code_c a) _ l ∙ rw (mirrored_C a l)
mirrored_C (P.both a b) l = mirrored_two (code_c a) (code_c b) _ l ∙ rw (mirrored_C a l, mirrored_C b (operand_code (operand_of_c a) l))
mirrored_C (P.either a b) l = mirrored_two (code_c a) (code_c b) _ l ∙ rw (mirrored_C a l, mirrored_C b (operand_code (operand_of_c a) l))

mirrored_case : (v : ℕ) (k : Case) (l : List ℕ) → mirrored (code_case v k) l ≡ case_code v k l
unfolding mirrored case_code
mirrored_case v k l =
    mirrored_joined (code_c k.condition) _ l ∙ mirrored_one (code_e k.value) _ (19 ∷ mirrored (code_c k.condition) l)
    ∙ rw (mirrored_C k.condition l, mirrored_E k.value (19 ∷ operand_code (operand_of_c k.condition) l))

mirrored_cases : (v : ℕ) (ks js : List Case) (l : List ℕ) → mirrored (code_k v ks) (cases_code v js l) ≡ cases_code v (onto ks js) l
unfolding mirrored cases_code
mirrored_cases v [] js l = refl
mirrored_cases v (k ∷ ks) js l = mirrored_joined (code_case v k) (code_k v ks) (cases_code v js l) ∙ rw (mirrored_case v k (cases_code v js l)) (mirrored_cases v ks (k ∷ js) l)

mirrored_rule : (r : Rule) (l : List ℕ) → mirrored (code_r r) l ≡ rule_code r l
unfolding mirrored rule_code cases_code
mirrored_rule (function v e) l = mirrored_one (code_e e) _ l ∙ rw (mirrored_E e l)
mirrored_rule (change v ks cs) l = mirrored_one (code_k v ks) _ l ∙ rw (mirrored_cases v ks [] l)

mirrored_onto : (rs qs : List Rule) → mirrored (code_rules [] rs) (rules_code qs) ≡ rules_code (onto rs qs)
unfolding mirrored rules_code
mirrored_onto [] qs = refl
mirrored_onto (r ∷ rs) qs = mirrored_joined (code_r r) (code_rules [] rs) (rules_code qs) ∙ rw (mirrored_rule r (rules_code qs)) (mirrored_onto rs (r ∷ qs))

pub mirrored_rules : (rs : List Rule) → mirrored (code_rules [] rs) [] ≡ rules_code (onto rs [])
unfolding rules_code
mirrored_rules rs = mirrored_onto rs []

-- ---- small numbers

small-joined : (is js : List Instruction) → AllSmall (is ++ js) → AllSmall is × AllSmall js
small-joined [] js h = (tt, h)
small-joined (i ∷ is) js h = let r = small-joined is js h.1 in ((h.0, r.0), r.1)

small_two : (is js : List Instruction) (i : Instruction) → AllSmall (is ++ js ++ i ∷ []) → AllSmall is × AllSmall js
small_two is js i h = small-joined is js (small-joined (is ++ js) (i ∷ []) h).0

small_E : (e : Expression) → AllSmall (code_e e) → SmallOperand (operand_of e)
small_E (P.constant z) h = zigzag_small z h.0
small_E (P.current i) h = h.0
small_E (P.previous i) h = h.0
small_E (P.operation o a b) h = let r = small_two (code_e a) (code_e b) _ h in (small_E a r.0, small_E b r.1)
small_E (P.negate a) h = small_E a (small-joined (code_e a) _ h).0

small_C : (c : Condition) → AllSmall (code_c c) → SmallOperand (operand_of_c c)
small_C (P.comparison o a b) h = let r = small_two (code_e a) (code_e b) _ h in (small_E a r.0, small_E b r.1)
small_C (P.negated a) h = small_C a (small-joined (code_c a) _ h).0
small_C (P.both a b) h = let r = small_two (code_c a) (code_c b) _ h in (small_C a r.0, small_C b r.1)
small_C (P.either a b) h = let r = small_two (code_c a) (code_c b) _ h in (small_C a r.0, small_C b r.1)

small_K : (v : ℕ) (ks : List Case) → AllSmall (code_k v ks) → SmallCases ks
small_K v [] h = tt
small_K v (k ∷ ks) h =
    let r = small-joined (code_case v k) (code_k v ks) h in
    let c = small-joined (code_c k.condition) _ r.0 in
    let e = small-joined (code_e k.value) _ c.1.1 in
    ((small_C k.condition c.0, small_E k.value e.0), small_K v ks r.1)

small_R : (r : Rule) → ShallowR r → AllSmall (code_r r) → SmallRule r
small_R (function v e) d h = let r = small-joined (code_e e) _ h in (r.1.0, small_E e r.0)
small_R (change v ks cs) d h = let r = small-joined (code_k v ks) _ h in (r.1.0, small_K v ks r.0, d.0)

small_rules : (rs qs : List Rule) → Shallow rs → AllSmall (code_rules [] rs) → SmallRules qs → SmallRules (onto rs qs)
small_rules [] qs d h g = g
small_rules (r ∷ rs) qs d h g = let x = small-joined (code_r r) (code_rules [] rs) h in small_rules rs (r ∷ qs) d.1 x.1 (small_R r d.0 x.0, g)

pub untimed_small : (p : Program) → Translatable p → p.timers ≡ [] → AllSmall (code_rules [] p.rules)
untimed_small p t z = subst (λ (ts : List Timer). AllSmall (code_rules ts p.rules)) z (translated_small p t)

pub program_small : (p : Program) → Translatable p → p.timers ≡ [] → SmallRules (onto p.rules [])
program_small p t z = small_rules p.rules [] t.shallow (untimed_small p t z) tt
