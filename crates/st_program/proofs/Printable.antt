-- The Structured Text of a program is read as just that program. Assumes nothing.
use Prim.Native.Nat.{ℕ, zero, suc, ◌<◌, ◌≤◌}
use native.Mathlib.Omega.{arith}
use mathlib.Core.Path.{◌≡◌, refl, sym, ap, ◌∙◌, subst}
use mathlib.Core.Bool.{Bool, true, false, not}
use mathlib.Core.List.{List, [], ◌∷◌, ◌++◌, map}
use mathlib.Core.Option.{some}
use lib.Dec.{ltb}
use lib.IntN.{pos, negsuc}
use lib.ListN.{length, set, take, drop, take-append-drop, length-set}
use borrow.Author.Tests.{ltb-true, not-true}
use Rattle.arith.specs.Values.{is_int32}
use Rattle.arith.proofs.Basics.{T_true, and_both}
use Rattle.semantics.specs.Program.{Name, Expression, constant, current, previous, operation, negate, Condition, comparison, negated, both, either, Side, Case, Rule, function, change, target, Program, ranges_of, known_first, UsableE, UsableC, UsableK, UsableR, OrderedRules, Sided, all_changing_lem, up_then_down, SidedR, SidedAll}
use Rattle.semantics.proofs.Reference.{length_known}
use Rattle.semantics.proofs.Untimed.{untimed_order}
use Rattle.grammar.specs.Spelled.{Apart, Distinct, names_of}
use Rattle.st.specs.Syntax.{Identifier, Statement, Declaration, StProgram}
use Rattle.st.specs.Reading.{is_declared, declared_once, program_read}
use Rattle.st.specs.Meaning.{previous_name}
use Rattle.st.specs.Printed.{program_printed}
use Rattle.st.proofs.Lexed.{NameWord}
use Rattle.st.proofs.Expressions.{Writable}
use Rattle.st.proofs.Programs.{AllWritable, WritableS, AllWritableS, WritableD, program_read_lem, nothing_read}
use Rattle.bytecode.proofs.SmallOperands.{known_inside}
use Rattle.st_program.specs.Written.{name_at, expression_in_st, condition_in_st, branch_in_st, rule_in_st, current_line, previous_line, variable_lines, saving_line, program_in_st, st_bytes, is_st_word, none_st_word, has_st, no_timer}
use Rattle.st_program.proofs.Values.{Literal, LiteralC}
use Rattle.st_program.proofs.Cases.{LiteralK}
use Rattle.st_program.proofs.Rules.{LiteralR, LiteralAll}
use Rattle.st_program.proofs.FirstStore.{AllNames, spelled, line_names, lines_apart}
use Rattle.st_program.proofs.Reserved.{name_word, previous_word}
use Rattle.st_program.proofs.Cycle.{InSt, same_count}

-- ---- names

abbrev AllWords : List Identifier → Type 0
AllWords [] = Unit {0}
AllWords (w ∷ ws) = (NameWord w × NameWord (previous_name w)) × AllWords ws

all_words : (ws : List Identifier) → AllNames ws → none_st_word ws ≡ true → AllWords ws
all_words [] h e = tt
all_words (w ∷ ws) h e = let x = and_both (not (is_st_word w)) (none_st_word ws) e in ((name_word w h.0 (not-true (is_st_word w) x.0), previous_word w h.0), all_words ws h.1 x.1)

words_at : (ws : List Identifier) → AllWords ws → (i : ℕ) → i < length ws → NameWord (name_at ws i) × NameWord (previous_name (name_at ws i))
words_at [] h i k = absurd (omega arith)
words_at (w ∷ ws) h zero k = h.0
words_at (w ∷ ws) h (suc i) k = words_at ws h.1 i (omega arith)

-- ---- rules

sided_some : (xs : List Side) → Sided xs → 1 ≤ length xs
sided_some xs (all_changing_lem n) = omega arith
sided_some xs (up_then_down n m) = omega arith

module _ (ws : List Identifier) (words : AllWords ws) where
  module _ (known : List Bool) (n : length known ≡ length ws) where
    writable_expression : (e : Expression) → UsableE known e → Literal e → Writable (expression_in_st ws e)
    unfolding expression_in_st
    writable_expression (constant (pos k)) u l = tt
    writable_expression (constant (negsuc k)) u l = absurd l
    writable_expression (current i) u l = (words_at ws words i (let j = known_inside known i u in omega arith)).0
    writable_expression (previous i) u l = (words_at ws words i (let j = ltb-true i (length known) (T_true (ltb i (length known)) u) in omega arith)).1
    writable_expression (operation o a b) u l = (writable_expression a u.0 l.0, writable_expression b u.1 l.1)
    writable_expression (negate a) u l = writable_expression a u l

    writable_condition : (c : Condition) → UsableC known c → LiteralC c → Writable (condition_in_st ws c)
    unfolding condition_in_st
    writable_condition (comparison o a b) u l = (writable_expression a u.0 l.0, writable_expression b u.1 l.1)
    writable_condition (negated c) u l = writable_condition c u l
    writable_condition (both a b) u l = (writable_condition a u.0 l.0, writable_condition b u.1 l.1)
    writable_condition (either a b) u l = (writable_condition a u.0 l.0, writable_condition b u.1 l.1)

    writable_cases : (v : ℕ) → v < length ws → (ks : List Case) → UsableK known ks → LiteralK ks → AllWritable (map (branch_in_st ws v) ks)
    writable_cases v h [] u l = tt
    writable_cases v h (k ∷ ks) u l =
        ((writable_condition k.condition u.0 l.0, ((words_at ws words v h).0, writable_expression k.value u.1 l.1)), writable_cases v h ks u.2 l.2)

    writable_rule : (r : Rule) → UsableR known r → LiteralR r → SidedR r → target r < length ws → WritableS (rule_in_st ws r)
    unfolding rule_in_st
    writable_rule (function v e) u l d h = ((words_at ws words v h).0, writable_expression e u l)
    writable_rule (change v [] cs) u l d h = let i : 1 ≤ 0 = sided_some [] d in absurd (omega arith)
    writable_rule (change v (k ∷ ks) cs) u l d h = let x = writable_cases v h (k ∷ ks) u l in (x.0, x.1)

  writable_rules : (rs : List Rule) (known : List Bool) → length known ≡ length ws → OrderedRules [] known rs → LiteralAll rs → SidedAll rs → (rest : List Statement) → AllWritableS rest
      → AllWritableS (map (rule_in_st ws) rs ++ rest)
  writable_rules [] known n o l d rest h = h
  writable_rules (r ∷ rs) known n o l d rest h = (
    writable_rule known n r o.0 l.0 d.0 (let j = ltb-true (target r) (length known) (T_true (ltb (target r) (length known)) o.1) in omega arith),
    writable_rules rs (set known (target r) true) (length-set known (target r) true ∙ n) o.3 l.1 d.1 rest h,
  )

writable_lines : (ws : List Identifier) → AllWords ws → AllWritableS (map saving_line ws)
writable_lines [] h = tt
writable_lines (w ∷ ws) h = ((h.0.1, h.0.0), writable_lines ws h.1)

-- ---- declarations

abbrev pub AllStarts : List Name → Type 0
AllStarts [] = Unit {0}
AllStarts (n ∷ ns) = (is_int32 n.range.start ≡ true) × AllStarts ns

writable_current : (ns : List Name) → AllWords (spelled ns) → AllStarts ns → WritableD (map current_line ns)
writable_current [] h s = tt
writable_current (n ∷ ns) h s = (h.0.0, s.0, writable_current ns h.1 s.1)

writable_variables : (ns : List Name) → AllWords (spelled ns) → AllStarts ns → WritableD (variable_lines ns)
writable_variables [] h s = tt
writable_variables (n ∷ ns) h s = (h.0.0, s.0, (h.0.1, s.0, writable_variables ns h.1 s.1))

writable_previous : (ns vs : List Name) → AllWords (spelled ns) → AllStarts ns → WritableD (variable_lines vs) → WritableD (map previous_line ns ++ variable_lines vs)
writable_previous [] vs h s d = d
writable_previous (n ∷ ns) vs h s d = (h.0.1, s.0, writable_previous ns vs h.1 s.1 d)

words_parts : (k : ℕ) (ns : List Name) → AllWords (spelled ns) → AllStarts ns → (AllWords (spelled (take k ns)) × AllStarts (take k ns)) × (AllWords (spelled (drop k ns)) × AllStarts (drop k ns))
words_parts zero ns h s = ((tt, tt), (h, s))
words_parts (suc k) [] h s = ((tt, tt), (h, s))
words_parts (suc k) (n ∷ ns) h s = let r = words_parts k ns h.1 s.1 in (((h.0, r.0.0), (s.0, r.0.1)), r.1)

not_declared : (w : Identifier) (ds : List Declaration) → Apart w (line_names ds) → is_declared ds w ≡ false
not_declared w [] a = refl
not_declared w (d ∷ ds) a = rw a.0 (not_declared w ds a.1)

once_declared : (ds : List Declaration) → Distinct (line_names ds) → declared_once ds ≡ true
once_declared [] d = refl
once_declared (x ∷ ds) d = rw (not_declared x.name ds d.0) (once_declared ds d.1)

-- ---- the program

abbrev in_parts : ℕ → List Name → List Statement → StProgram
in_parts k ns b = record { inputs = map current_line (take k ns); variables = map previous_line (take k ns) ++ variable_lines (drop k ns); body = b }

parts_read : (k : ℕ) (ns : List Name) (b : List Statement) → (ns ≡ [] → b ≡ []) → WritableD (in_parts k ns b).inputs → WritableD (in_parts k ns b).variables → AllWritableS b
    → declared_once ((in_parts k ns b).inputs ++ (in_parts k ns b).variables) ≡ true → program_read (program_printed (in_parts k ns b)) ≡ some (in_parts k ns b)
parts_read zero [] b e i v h o = rw (e refl) nothing_read
parts_read (suc k) [] b e i v h o = rw (e refl) nothing_read
parts_read zero (n ∷ ns) b e i v h o = program_read_lem [] (previous_line n ∷ variable_lines ns) (current_line n) b i v h o
parts_read (suc k) (n ∷ ns) b e i v h o =
    program_read_lem (map current_line (take (suc k) (n ∷ ns))) (map previous_line (take k ns) ++ variable_lines (drop k ns)) (previous_line n) b i v h o

-- without names there are no rules
none_ruled : (ns : List Name) (k : ℕ) (rs : List Rule) → OrderedRules [] (known_first k (length (map (λ n. n.range) ns))) rs → (ws : List Identifier) → ns ≡ [] → ws ≡ [] → map (rule_in_st ws) rs ++ map saving_line ws ≡ []
none_ruled ns k [] o ws e f = rw f
none_ruled ns k (r ∷ rs) o ws e f =
    let l = length_known k (length (map (λ n. n.range) ns)) in
    let q : length (map (λ (n : Name). n.range) ns) ≡ 0 = ap (λ (x : List Name). length (map (λ (n : Name). n.range) x)) e in
    let j = ltb-true (target r) _ (T_true _ o.1) in
    absurd (omega arith)

module _ (p : Program) (w : InSt p) (starts : AllStarts p.names) (h : has_st p ≡ true) where
  words : AllWords (names_of p)
  unfolding has_st
  words = all_words (names_of p) w.named (and_both (no_timer p.timers) (none_st_word (names_of p)) h).1

  pub printed_read : program_read (st_bytes p) ≡ some (program_in_st p)
  unfolding st_bytes program_in_st
  printed_read =
      let x = words_parts p.inputs p.names words starts in
      let joined = take-append-drop p.inputs p.names in
      parts_read p.inputs p.names (map (rule_in_st (names_of p)) p.rules ++ map saving_line (names_of p))
      (λ e. none_ruled p.names p.inputs p.rules (untimed_order p w.untimed w.well_formed.ordered) (names_of p) e (ap spelled e))
      (writable_current (take p.inputs p.names) x.0.0 x.0.1)
      (writable_previous (take p.inputs p.names) (drop p.inputs p.names) x.0.0 x.0.1 (writable_variables (drop p.inputs p.names) x.1.0 x.1.1))
      (writable_rules (names_of p) words p.rules (known_first p.inputs (length (ranges_of p))) (length_known p.inputs (length (ranges_of p)) ∙ same_count p w) (untimed_order p w.untimed w.well_formed.ordered) w.literal w.well_formed.sided
      (map saving_line (names_of p)) (writable_lines (names_of p) words))
      (once_declared (map current_line (take p.inputs p.names) ++ (map previous_line (take p.inputs p.names) ++ variable_lines (drop p.inputs p.names))) (lines_apart (take p.inputs p.names) (drop p.inputs p.names)
      (subst (λ (ns : List Name). AllNames (spelled ns)) (sym joined) w.named) (subst (λ (ns : List Name). Distinct (spelled ns)) (sym joined) w.distinct)))
