-- A text whose names are in other letter cases spells the same program, but for its names' spelling. Assumes nothing.
use mathlib.Core.Path.{◌≡◌, refl, ap, ap₂, sym, ◌∙◌, subst}
use mathlib.Core.List.{List, [], ◌∷◌, ◌++◌, map}
use Prim.Native.Nat.{ℕ, ◌-◌}
use native.Mathlib.Omega.{arith}
use lib.ListN.{length}
use Rattle.semantics.specs.Program.{Range, Name, Program}
use Rattle.lexer.specs.Bytes.{capitals}
use Rattle.lexer.specs.Token.{kind_number, input_word, var_word, is, spelling_of}
use Rattle.lexer.specs.Lexer.{same_name}
use Rattle.lexer.specs.Spelling.{Separated}
use Rattle.bytecode.specs.Translation.{image_of}
use Rattle.grammar.specs.Derivation.{Tokens, as_written, normal, normals, Spells}
use Rattle.grammar.specs.Spelled.{DeclareTimers, Apart, Distinct, names_of, Spelled}
use Rattle.grammar.proofs.Standing.{spells_append, normally}
use Rattle.grammar.proofs.ConverseText.{accepted_exactly}
use Rattle.lettercase.specs.Lettercase.{Recased, SameProgram, CaseIgnored}
use Rattle.lettercase.proofs.RecasedNames.{written_seen, seen_written, spells_recased, Plain, SameNames, none, more, parted, all_too, timers_too}

-- ---- what the same names have in common

same_append : {a b c d : List Name} → SameNames a b → SameNames c d → SameNames (a ++ c) (b ++ d)
same_append none g = g
same_append (more y x k l e f q h) g = more _ _ _ _ e f q (same_append h g)

same_count : {k l : List Name} → SameNames k l → length k ≡ length l
same_count none = refl
same_count (more y x k l e f q h) = let r = same_count h in omega arith

ranges_same : {k l : List Name} → SameNames k l → map (λ n. n.range) k ≡ map (λ n. n.range) l
ranges_same none = refl
ranges_same (more y x k l e f q h) = ap₂ (λ (r : Range) (m : List Range). r ∷ m) e (ranges_same h)

normals_same : {k l : List Name} → SameNames k l → normals (map (λ n. n.spelling) k) ≡ normals (map (λ n. n.spelling) l)
normals_same none = refl
normals_same (more y x k l e f q h) = ap₂ (λ (w : List ℕ) (m : Tokens). w ∷ m) f (normals_same h)

same_both : (a b c d : List ℕ) → capitals a ≡ capitals b → capitals c ≡ capitals d → same_name a c ≡ same_name b d
unfolding same_name
same_both a b c d e f = rw (e, f)

apart_too : (v w : List ℕ) → capitals v ≡ capitals w → {k l : List Name} → SameNames k l → Apart w (map (λ n. n.spelling) l) → Apart v (map (λ n. n.spelling) k)
apart_too v w c none a = tt
apart_too v w c (more y x k l e f q h) a = (same_both v w y.spelling x.spelling c q ∙ a.0, apart_too v w c h a.1)

distinct_too : {k l : List Name} → SameNames k l → Distinct (map (λ n. n.spelling) l) → Distinct (map (λ n. n.spelling) k)
distinct_too none d = tt
distinct_too (more y x k l e f q h) d = (apart_too y.spelling x.spelling q h d.0, distinct_too h d.1)

-- ---- the claim

input_plain : Plain (spelling_of input_word)
unfolding is kind_number
input_plain = (input_word, refl, refl, refl)

variable_plain : Plain (spelling_of var_word)
unfolding is kind_number
variable_plain = (var_word, refl, refl, refl)

record SpelledToo (other : List ℕ) (p : Program) : Type 0 where
  program : Program
  spelled : Spelled other program
  same : SameProgram p program

spelled_too : (text other : List ℕ) (p : Program) → Recased text other → Spelled text p → SpelledToo other p
spelled_too text other p c s =
    let front = s.input_tokens ++ s.variable_tokens ++ s.timer_tokens in
    let declared : Spells normal text 0 s.rules_from_lem (normals front) = written_seen text 0 s.rules_from_lem front s.spells_declarations in
    let back = s.rule_tokens ++ s.watch_tokens in
    let whole : Spells normal text 0 s.end (normals front ++ back) = spells_append normally text 0 s.rules_from_lem s.end (normals front) back declared s.spells_tokens in
    let w = seen_written other 0 s.rules_from_lem (normals front) (spells_recased text other c [] 0 s.rules_from_lem (normals front) refl declared) in
    let both = parted w.tokens (s.input_tokens ++ s.variable_tokens) s.timer_tokens w.spelt w.seen in
    let t = parted both.front s.input_tokens s.variable_tokens both.spelt_front both.seen_front in
    let i = all_too input_word input_plain s.input_tokens s.inputs s.declares_inputs t.front t.spelt_front t.seen_front in
    let v = all_too var_word variable_plain s.variable_tokens s.variables s.declares_variables t.back t.spelt_back t.seen_back in
    let o = timers_too (normals (map (λ n. n.spelling) (s.inputs ++ s.variables))) s.timer_tokens s.timer_names p.timers s.declares_timers both.back both.spelt_back both.seen_back in
    let base = i.others ++ v.others in
    let same_base : SameNames base (s.inputs ++ s.variables) = same_append i.same v.same in
    let k = base ++ o.others in
    let same : SameNames k (s.inputs ++ s.variables ++ s.timer_names) = same_append same_base o.same in
    let same-p : SameNames k p.names = subst (SameNames k) (sym s.names) same in
    let ranges : map (λ n. n.range) k ≡ map (λ n. n.range) p.names = ranges_same same-p in
    let seen : normals (map (λ n. n.spelling) k) ≡ normals (names_of p) = normals_same same-p in
    let inputs : length i.others ≡ p.inputs = same_count i.same ∙ sym s.input_count in
    let count = same_count same-p in
    let few = s.few in
    let short = s.short in
    let long = c.as_long in
    record {
      program = record { inputs = length i.others; names = k; timers = p.timers; rules = p.rules; watches = p.watches };
      spelled = record {
        short = omega arith;
        input_tokens = t.front;
        variable_tokens = t.back;
        timer_tokens = both.back;
        rule_tokens = s.rule_tokens;
        watch_tokens = s.watch_tokens;
        rules_from_lem = s.rules_from_lem;
        end = s.end;
        spells_declarations = subst (Spells as_written other 0 s.rules_from_lem) (both.whole ∙ ap (λ (l : Tokens). l ++ both.back) t.whole) w.spells;
        spells_tokens = spells_recased text other c (normals front) s.rules_from_lem s.end back declared s.spells_tokens;
        ends = subst (Separated other s.end) (sym long) (c.same_space (normals front ++ back) s.end (length text) whole s.ends);
        inputs = i.others;
        variables = v.others;
        timer_names = o.others;
        declares_inputs = i.declared;
        declares_variables = v.declared;
        declares_timers = subst (λ (l : Tokens). DeclareTimers l both.back o.others p.timers) (sym (normals_same same_base)) o.declared;
        names = refl;
        input_count = refl;
        distinct = distinct_too same-p s.distinct;
        few = omega arith;
        spells_rules = rw seen s.spells_rules;
        spells_watches = rw seen s.spells_watches;
        few_watches = s.few_watches;
        ordered = rw (inputs, ranges) s.ordered;
        timers_fit = record {
          numbered = rw ranges s.timers_fit.numbered;
          each = rw (inputs, ranges) s.timers_fit.each;
        };
      };
      same = record { same_inputs = inputs; same_names = seen; same_ranges = ranges; same_timers = refl; same_rules = refl; same_watches = refl };
    }

image_same : (p q : Program) → SameProgram p q → image_of q ≡ image_of p
unfolding image_of
image_same p q s = rw (s.same_inputs, s.same_ranges, s.same_timers, s.same_rules)

pub case_ignored : CaseIgnored
case_ignored = record {
  accepted_too = λ text other p c e.
      let r = spelled_too text other p c (accepted_exactly.accepted_spelled text p e) in
      (r.program, accepted_exactly.spelled_accepted other r.program r.spelled, r.same, image_same p r.program r.same);
}
