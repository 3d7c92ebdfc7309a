-- What stands before a token refused by 2 begins a text of the grammar: the record `AllowedBefore`. Assumes nothing.
use mathlib.Core.Path.{◌≡◌, refl, ap, sym, ◌∙◌, subst}
use mathlib.Core.List.{List, [], ◌∷◌, ◌++◌, append_assoc, append-nil}
use mathlib.Core.Bool.{Bool, cond}
use mathlib.Core.Option.{none}
use Prim.Native.Nat.{ℕ, zero, suc, ◌≤◌}
use native.Mathlib.Nat.{le_refl}
use native.Mathlib.Omega.{arith}
use lib.ListN.{length}
use lib.Dec.{ltb}
use Rattle.limits.specs.Limits.{text_limit, watch_limit}
use Rattle.lexer.specs.Bytes.{bytes}
use Rattle.lexer.specs.Token.{kind_number, ending, name, input_word, var_word, is, TokenRead, token, fault}
use Rattle.lexer.specs.Lexer.{token_at}
use Rattle.lexer.proofs.Laws.{cond_prop}
use Rattle.semantics.specs.Program.{Timer, Rule, target, all_true, known_first, free}
use Rattle.grammar.specs.Parsed.{Parsed, accepted, refused, and_then, on_token}
use Rattle.grammar.specs.Expressions.{Scope}
use Rattle.grammar.specs.Declarations.{spellings, declarations}
use Rattle.grammar.specs.Timers.{WithTimers, timers_from}
use Rattle.grammar.specs.Rules.{ruled, rules_from}
use Rattle.grammar.specs.Watches.{watches_from}
use Rattle.grammar.specs.Parse.{end_at, program, parse}
use Rattle.grammar.specs.Derivation.{Tokens, Spells, normal, normals}
use Rattle.lexer.proofs.Spellings.{is_fixed}
use Rattle.bytecode.proofs.Soundness.{none≢some}
use Rattle.grammar.proofs.Standing.{spells_in, normally}
use Rattle.grammar.proofs.Whole.{Ends, Names, declarations_fit, timers_named, named}
use Rattle.grammar.proofs.Normal.{each_normal}
use Rattle.faults.specs.Grammar as G
use Rattle.faults.specs.Grammar.{AreDeclarations, AreTimers, IsRule, AreNames, AreRules, AreWatches, IsText, AllowedBefore}
use Rattle.faults.proofs.Viable.{Viable, BegunIfTwo, by_other, behind, then_viable, cond_viable, token_viable}
use Rattle.faults.proofs.ViableParts.{whole_expression_viable, whole_condition_viable}
use Rattle.faults.proofs.TextPlaces.{refused_parse}
use Rattle.faults.proofs.ViableDeclarations.{declarations_viable}
use Rattle.faults.proofs.ViableTimers.{timers_viable}
use Rattle.faults.proofs.ViableRules.{rule_viable}
use Rattle.faults.proofs.ViableWatches.{watches_viable}

-- of what is accepted nothing is said

abbrev Failing : {A : Type 0} → (Tokens → Type 0) → List ℕ → ℕ → Parsed A → Type 0
Failing L text at (accepted a n) = Unit {0}
Failing L text at (refused number place) = BegunIfTwo L text at number place

module _ {A : Type 0} (L M : Tokens → Type 0) (text : List ℕ) (at n : ℕ) (ts : Tokens) (sp : Spells normal text at n ts) (j : (us : Tokens) → M us → L (ts ++ us)) where
  behind_failing : (r : Parsed A) → Failing M text n r → Failing L text at r
  behind_failing (accepted a m) x = tt
  behind_failing (refused k q) x = (behind {A = A} {L = L} {M = M} {r = refused k q} ts sp j (record { shown = x })).shown

module _ {A B : Type 0} (L M N : Tokens → Type 0) (text : List ℕ) (at : ℕ) (h : at ≤ length text) (j : (ts us : Tokens) → L ts → M us → N (ts ++ us)) (z : Tokens) (w : M z) where
  then_failing : (p : Parsed A) (f : A → ℕ → Parsed B) → Viable L text at p → ((a : A) (n : ℕ) → n ≤ length text → p ≡ accepted a n → Failing M text n (f a n)) → Failing N text at (and_then p f)
  then_failing (accepted a n) f x g =
      let s = x.shown in
      behind_failing N M text at n s.tokens s.spells (λ us m. j s.tokens us s.is_in m) (f a n) (g a n (spells_in normally text at n s.tokens h s.spells).1 refl)
  then_failing (refused k q) f x g = (then_viable {A = A} {B = B} {L = L} {M = M} {N = N} {p = refused k q} {f = λ a n. refused 0 0} h j z w x (λ a n i. by_other 0 (λ e. omega (arith, e)))).shown

rules_viable : (f : ℕ) (xs : List Timer) (sc : Scope) (done : List Rule) (at : ℕ) → at ≤ length sc.text → Viable (AreRules (normals sc.names)) sc.text at (rules_from f xs sc done at)
unfolding rules_from
rules_viable zero xs sc done at h = by_other 6 (λ e. omega (arith, e))
rules_viable (suc f) xs sc done at h =
    token_viable sc.text at
    (λ k s n e. cond_viable (is k name)
    (λ t. then_viable {L = IsRule (normals sc.names)} {M = AreRules (normals sc.names)} h (λ ts us x y. G.AreRules.more ts us x y) [] G.AreRules.none (rule_viable sc xs at k s n h e t) (λ r m i. rules_viable f xs (ruled xs sc (target r)) (done ++ (r ∷ [])) m i))
    (λ t. record { shown = record { tokens = []; spells = refl; is_in = G.AreRules.none } }))

-- nothing more
abbrev Empty : Tokens → Type 0
Empty ts = ts ≡ []

end_failing : (text : List ℕ) (known : List Bool) (at : ℕ) → Failing Empty text at (end_at text known at)
unfolding end_at
end_failing text known at = go (token_at text at) refl
  where
    P : Parsed (Unit {0}) → Type 0
    P r = Failing Empty text at r

    go : (x : TokenRead) → token_at text at ≡ x → P (on_token x (λ k s n. cond (is k ending) (cond (all_true known) (accepted tt n) (refused 6 s)) (refused 2 s)))
    go (fault p) e = λ q. absurd (omega (arith, q))
    go (token k s n) e =
        cond_prop P (is k ending) _ _ (λ t. cond_prop P (all_true known) _ _ (λ u. tt) (λ u q. absurd (omega (arith, q))))
        (λ t q. record { before = []; end = at; spells = refl; kind = k; next = n; stands = e; more = []; begun = refl })

-- rules, then watches
abbrev NamedRules : Tokens → Type 0
NamedRules us = (names : List (List ℕ)) × AreNames names × (rs : Tokens) × (ws : Tokens) × (us ≡ rs ++ ws) × AreRules names rs × AreWatches names ws

-- timers, then these; variables, then these
abbrev TimersRules : Tokens → Type 0
TimersRules us = (ts : Tokens) × (rs : Tokens) × (us ≡ ts ++ rs) × AreTimers ts × NamedRules rs

abbrev VariablesRules : Tokens → Type 0
VariablesRules us = (vs : Tokens) × (rs : Tokens) × (us ≡ vs ++ rs) × AreDeclarations (bytes "var") vs × TimersRules rs

text_in_lem : (ts us : Tokens) → AreDeclarations (bytes "input") ts → VariablesRules us → IsText (ts ++ us)
text_in_lem ts us x (vs, ns, q, y, (os, ms, o, t, (names, good, rs, ws, p, r, w))) =
    record { names = names; are_names = good; inputs = ts; variables = vs; timers = os; rules = rs; watches = ws; are_inputs = x; are_variables = y; are_timers = t; are_rules = r; are_watches = w; in_order = rw (q, o, p) (simp append_assoc) }

same_failing : {A B : Type 0} (L : Tokens → Type 0) (text : List ℕ) (at : ℕ) (r : Parsed A) (f : A → ℕ → B) → Failing L text at r → Failing L text at (and_then r (λ a n. accepted (f a n) n))
same_failing L text at (accepted a n) f x = tt
same_failing L text at (refused k q) f x = x

no_names : AreNames []
no_names i w e = none≢some w e

no_rules : NamedRules []
no_rules = ([], no_names, [], [], refl, G.AreRules.none, G.AreWatches.none)

no_timers : TimersRules []
no_timers = ([], [], refl, G.AreTimers.none, no_rules)

program_failing : (text : List ℕ) → Failing IsText text 0 (program text)
unfolding program declarations is_fixed kind_number
program_failing text =
    then_failing (AreDeclarations (bytes "input")) VariablesRules IsText text 0 (omega arith) text_in_lem [] ([], [], refl, G.AreDeclarations.none, no_timers) (declarations input_word text [] 0) _ (declarations_viable text 65 input_word refl [] 0 (omega arith))
    (λ inputs n1 h1 e1. then_failing (AreDeclarations (bytes "var")) TimersRules VariablesRules text n1 h1 (λ ts us x y. (ts, us, refl, x, y)) [] no_timers (declarations var_word text inputs n1) _ (declarations_viable text 65 var_word refl inputs n1 h1)
    (λ base n2 h2 e2.
    let x0 : WithTimers = record { names = base; timers = [] } in
    then_failing AreTimers NamedRules TimersRules text n2 h2 (λ ts us x y. (ts, us, refl, x, y)) [] no_rules (timers_from 65 text (length inputs) (length base) x0 n2) _ (timers_viable text (length inputs) (length base) 65 x0 n2 h2)
    (λ x n3 h3 e3.
    let names = x.names in
    let g1 = subst (Ends (length text) (Names text 0)) e1 (declarations_fit text 65 input_word [] 0 0 (omega arith) (tt, omega arith, omega arith, tt)) in
    let g2 = subst (Ends (length text) (Names text (length inputs))) e2 (declarations_fit text 65 var_word inputs n1 (length inputs) g1.1 (g1.0.0, g1.0.1, le_refl (length inputs), g1.0.3)) in
    let g3 = subst (Ends (length text) (λ (y : WithTimers). Names text (length inputs) y.names)) e3 (timers_named text (length inputs) base 65 x0 [] (sym (append-nil base)) n2 (length inputs) g2.1 g2.0) in
    let good = named names g3.0.0 g3.0.3 in
    let sc : Scope = record { text = text; names = spellings names; known = known_first (length inputs) (length names) } in
    let those : AreNames (normals (spellings names)) = λ i w q. let y = each_normal (spellings names) good i w q in record { is_word = y.is_word; no_word = y.no_word } in
    let sw : Scope = record { text = text; names = spellings names; known = free (length names) } in
    let Watches : Tokens → Type 0 = AreWatches (normals (spellings names)) in
    then_failing (AreRules (normals (spellings names))) Watches NamedRules text n3 h3 (λ ts us x y. (normals (spellings names), those, ts, us, refl, x, y)) [] G.AreWatches.none (rules_from 65 x.timers sc [] n3) _ (rules_viable 65 x.timers sc [] n3 h3)
    (λ ruled n4 h4 e4. then_failing Watches Empty Watches text n4 h4 (λ ts us x y. subst Watches (sym (append-nil ts) ∙ ap (λ (l : Tokens). ts ++ l) (sym y)) x) [] refl (watches_from watch_limit sw [] n4) _ (watches_viable sw watch_limit [] n4 h4)
    (λ watches n5 h5 e5. same_failing Empty text n5 (end_at text ruled.known n5) _ (end_failing text ruled.known n5))))))

parse_failing : (text : List ℕ) → Failing IsText text 0 (parse text)
unfolding parse
parse_failing text = cond_prop (Failing IsText text 0) (ltb text_limit (length text)) _ _ (λ t q. absurd (omega (arith, q))) (λ t. program_failing text)

pub allowed_before : AllowedBefore
allowed_before = record {
  expressions = λ sc at place h e. (rw e at (whole_expression_viable sc at h)).shown refl;
  conditions = λ sc at place h e. (rw e at (whole_condition_viable sc at h)).shown refl;
  texts = λ text place e. (rw (refused_parse text 2 place e) at (parse_failing text)) refl;
}
