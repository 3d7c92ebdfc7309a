-- A text that is accepted spells its program, and the two lists of each of its rules agree. Assumes nothing.
use mathlib.Core.Path.{◌≡◌, refl, ap, sym, ◌∙◌, subst}
use mathlib.Core.List.{List, [], ◌++◌, append-nil}
use mathlib.Core.Bool.{Bool, true, false, cond}
use Prim.Native.Nat.{ℕ, ◌≤◌}
use native.Mathlib.Nat.{le_refl}
use native.Mathlib.Omega.{arith}
use lib.ListN.{length, length-map}
use lib.Dec.{T, ltb}
use borrow.Author.Tests.{ltb-false}
use Rattle.limits.specs.Limits.{text_limit, watch_limit}
use Rattle.lexer.specs.Bytes.{bytes}
use Rattle.lexer.specs.Token.{Kind, kind_number, ending, input_word, var_word, is, token}
use Rattle.lexer.specs.Lexer.{token_at}
use Rattle.lexer.specs.Spelling.{Separated}
use Rattle.lexer.proofs.Laws.{cond_prop}
use Rattle.lexer.proofs.Same.{same_kind}
use Rattle.arith.proofs.Basics.{true_T}
use Rattle.semantics.specs.Program.{Name, Watch, Program, known_first, free, all_true, AgreesAll}
use Rattle.semantics.proofs.Reference.{length_known}
use Rattle.grammar.specs.Parsed.{Parsed, accepted, refused, item_bound}
use Rattle.grammar.specs.Expressions.{Scope}
use Rattle.grammar.specs.Declarations.{spellings, declarations}
use Rattle.grammar.specs.Timers.{WithTimers, timers_from}
use Rattle.grammar.specs.Rules.{Ruled, rules_from}
use Rattle.grammar.specs.Watches.{watches_from}
use Rattle.grammar.specs.Parse.{end_at, program, parse}
use Rattle.grammar.specs.Derivation.{normals}
use Rattle.grammar.specs.Spelled.{DeclareAll, DeclareTimers, Distinct, SpellsRules, SpellsWatches, Spelled}
use Rattle.grammar.proofs.Combine.{Holds, token_prop, then_prop, never}
use Rattle.lexer.proofs.Spellings.{is_fixed}
use Rattle.grammar.proofs.Standing.{written, normally, spells_in, spells_append, end_separated}
use Rattle.grammar.proofs.Whole.{Ends, Names, declarations_fit, timers_named, spellings_length, named}
use Rattle.grammar.proofs.DerivedDeclarations.{DeclaredFrom, DeclaresFrom, declarations_derive}
use Rattle.grammar.proofs.DerivedTimers.{TimersRead, TimersReads, timers_derive, timers_fit}
use Rattle.grammar.proofs.DerivedRules.{RulesRead, RulesReads, rules_derive}
use Rattle.grammar.proofs.DerivedWatches.{WatchesRead, WatchesReads, watches_derive}

-- what is read spells the program, if the text is within its limit
abbrev Reads : List ℕ → Parsed Program → Type 0
Reads text r = Holds (λ (p : Program). (length text ≤ text_limit → Spelled text p) × AgreesAll p.rules) r

-- the end of the text, where every variable has its rule
abbrev Ended : List ℕ → List Bool → ℕ → Parsed (Unit {0}) → Type 0
Ended text known at (accepted u n) = Separated text at (length text) × T (all_true known)
Ended text known at (refused k q) = Unit {0}

end_ends : (text : List ℕ) (known : List Bool) (at : ℕ) → at ≤ length text → Ended text known at (end_at text known at)
unfolding end_at
end_ends text known at h =
    token_prop (Ended text known at) (token_at text at) _ (λ k q. tt)
    (λ k s n et. cond_prop (Ended text known at) (is k ending) _ _
    (λ e. cond_prop (Ended text known at) (all_true known) _ _
    (λ t. (end_separated text at s n h (et ∙ ap (λ (x : Kind). token x s n) (same_kind k ending e)), true_T (all_true known) t))
    (λ t. tt))
    (λ e. tt))

module _ (text : List ℕ) (inputs base : List Name) (y : WithTimers) (ruled : Ruled) (watches : List Watch) (a b c d e : ℕ) where
  read : DeclaredFrom text (bytes "input") [] 0 a inputs → DeclaredFrom text (bytes "var") inputs a b base → TimersRead text (length inputs) base (record { names = base; timers = [] }) b c y → Distinct (spellings y.names) → length y.names ≤ 64 → RulesRead y.timers text (spellings y.names) (known_first (length inputs) (length y.names)) [] c d ruled → WatchesRead text (spellings y.names) watch_limit [] d e watches → Separated text e (length text) × T (all_true ruled.known) → length text ≤ text_limit → Spelled text (record { inputs = length inputs; names = y.names; timers = y.timers; rules = ruled.rules; watches = watches })
  read di dv dt distinct few r w x short =
      record {
        short = short;
        input_tokens = di.tokens;
        variable_tokens = dv.tokens;
        timer_tokens = dt.tokens;
        rule_tokens = r.tokens;
        watch_tokens = w.tokens;
        rules_from_lem = c;
        end = e;
        spells_declarations = spells_append written text 0 b c (di.tokens ++ dv.tokens) dt.tokens (spells_append written text 0 a b di.tokens dv.tokens di.spells dv.spells) dt.spells;
        spells_tokens = spells_append normally text c d e r.tokens w.tokens r.spells w.spells;
        ends = x.0;
        inputs = inputs;
        variables = dv.more;
        timer_names = dt.names;
        declares_inputs = subst (DeclareAll (bytes "input") di.tokens) (sym di.is_more) di.derives;
        declares_variables = dv.derives;
        declares_timers = subst (DeclareTimers (normals (spellings (inputs ++ dv.more))) dt.tokens dt.names) (sym dt.is_timers) (subst (λ (l : List Name). DeclareTimers (normals (spellings l)) dt.tokens dt.names dt.timers) dv.is_more dt.derives);
        names = dt.is_names ∙ ap (λ (l : List Name). l ++ dt.names) dv.is_more;
        input_count = refl;
        distinct = distinct;
        few = few;
        timers_fit = timers_fit text (length inputs) base b c y dt ruled.rules watches;
        spells_rules = subst (SpellsRules (normals (spellings y.names)) r.tokens) (sym r.is_more) r.derives;
        spells_watches = subst (SpellsWatches (normals (spellings y.names)) w.tokens) (sym w.is_more) w.derives;
        few_watches = subst (λ (l : List Watch). length l ≤ watch_limit) (sym w.is_more) w.counted;
        ordered = rw (length-map y.names (λ n. n.range), r.is_more) (r.ordered x.1);
      }

program_reads : (text : List ℕ) → Reads text (program text)
unfolding program declarations is_fixed kind_number
program_reads text =
    then_prop (Reads text) (declarations input_word text [] 0) _ (λ k q. tt)
    (λ inputs n1 e1.
    let g1 = subst (Ends (length text) (Names text 0)) e1 (declarations_fit text item_bound input_word [] 0 0 (omega arith) (tt, omega arith, omega arith, tt)) in
    let d1 = subst (DeclaresFrom text (bytes "input") [] 0) e1 (declarations_derive text item_bound input_word refl [] 0 (omega arith)) in
    then_prop (Reads text) (declarations var_word text inputs n1) _ (λ k q. tt)
    (λ base n2 e2.
    let g2 = subst (Ends (length text) (Names text (length inputs))) e2 (declarations_fit text item_bound var_word inputs n1 (length inputs) g1.1 (g1.0.0, g1.0.1, le_refl (length inputs), g1.0.3)) in
    let d2 = subst (DeclaresFrom text (bytes "var") inputs n1) e2 (declarations_derive text item_bound var_word refl inputs n1 g1.1) in
    let x0 : WithTimers = record { names = base; timers = [] } in
    then_prop (Reads text) (timers_from item_bound text (length inputs) (length base) x0 n2) _ (λ k q. tt)
    (λ y n3 e3.
    let g3 = subst (Ends (length text) (λ (y : WithTimers). Names text (length inputs) y.names)) e3 (timers_named text (length inputs) base item_bound x0 [] (sym (append-nil base)) n2 (length inputs) g2.1 g2.0) in
    let d3 : TimersRead text (length inputs) base x0 n2 n3 y = subst (TimersReads text (length inputs) base x0 n2) e3 (timers_derive text (length inputs) base item_bound x0 [] (sym (append-nil base)) n2 g2.1) in
    let names = y.names in
    let known = known_first (length inputs) (length names) in
    let sc : Scope = record { text = text; names = spellings names; known = known } in
    then_prop (Reads text) (rules_from item_bound y.timers sc [] n3) _ (λ k q. tt)
    (λ ruled n4 e4.
    let r : RulesRead y.timers text (spellings names) known [] n3 n4 ruled = subst (RulesReads y.timers text (spellings names) known [] n3) e4 (rules_derive item_bound y.timers sc (omega (arith, spellings_length names, g3.0.1)) (spellings_length names ∙ sym (length_known (length inputs) (length names))) (named names g3.0.0 g3.0.3) [] n3 g3.1) in
    let h4 = (spells_in normally text n3 n4 r.tokens g3.1 r.spells).1 in
    let sw : Scope = record { text = text; names = spellings names; known = free (length names) } in
    then_prop (Reads text) (watches_from watch_limit sw [] n4) _ (λ k q. tt)
    (λ watches n5 e5.
    let w : WatchesRead text (spellings names) watch_limit [] n4 n5 watches = subst (WatchesReads text (spellings names) watch_limit [] n4) e5 (watches_derive watch_limit sw [] n4 h4) in
    let h5 = (spells_in normally text n4 n5 w.tokens h4 w.spells).1 in
    then_prop (Reads text) (end_at text ruled.known n5) _ (λ k q. tt)
    (λ u n6 e6.
    let x = subst (Ended text ruled.known n5) e6 (end_ends text ruled.known n5 h5) in
    (read text inputs base y ruled watches n1 n2 n3 n4 n5 d1 d2 d3 g3.0.3 g3.0.1 r w x, subst AgreesAll (sym r.is_more) r.agrees)))))))

pub parse_reads : (text : List ℕ) (p : Program) (n : ℕ) → parse text ≡ accepted p n → Spelled text p × AgreesAll p.rules
unfolding parse
parse_reads text p n e = go (ltb text_limit (length text)) refl e
  where
    go : (t : Bool) → ltb text_limit (length text) ≡ t → cond t (refused 9 0) (program text) ≡ accepted p n → Spelled text p × AgreesAll p.rules
    go true t q = never 9 0 n p q
    go false t q = let r = subst (Reads text) q (program_reads text) in (r.0 (ltb-false text_limit (length text) t), r.1)
