-- The length of a text's Structured Text: its names, its rules, and the whole. Assumes nothing.
use Prim.Native.Nat.{ℕ, zero, suc, ◌+◌, ◌*◌, ◌≤◌}
use Prim.Native.String.{String}
use native.Mathlib.Omega.{arith}
use native.Mathlib.Numerals.{add-one}
use mathlib.Core.Path.{◌≡◌, refl, sym, ap, ◌∙◌}
use mathlib.Core.List.{List, [], ◌∷◌, ◌++◌, map}
use mathlib.Core.Option.{some}
use lib.IntN.{ℤ, pos, neg_ℤ}
use lib.ListN.{length, get_elem?, take, drop, take-append-drop, length-append}
use Rattle.limits.specs.Limits.{buffer_too_short, not_in_st}
use Rattle.limits.specs.Answer.{accepted, refused}
use Rattle.lexer.specs.Bytes.{bytes}
use Rattle.lexer.specs.Lexer.{value_of}
use Rattle.trace_text.specs.Output.{unsigned_decimal, decimal_of}
use Rattle.trace_text.proofs.Printing.{decimal_small}
use Rattle.semantics.specs.Program.{Name, Timer, Program}
use Rattle.grammar.specs.Derivation.{normal, normals, IsName}
use Rattle.grammar.specs.Spelled as S
use Rattle.grammar.specs.Spelled.{SpellsZ, SpellsStart, Declares, DeclareAll, DeclaresTimer, DeclareTimers, names_of}
use Rattle.grammar.specs.Parse.{program_of}
use Rattle.grammar.proofs.Growth.{later_bytes, bytes_of, bytes_append, token_bytes, digits_some, spells_bytes}
use Rattle.grammar.proofs.Normal.{normal_length}
use Rattle.grammar.proofs.Standing.{written, normally, spells_in}
use Rattle.grammar.proofs.Accepted.{name_length, program_parsed, parse_named}
use Rattle.grammar.proofs.PlacesText.{program_refused, not_ten}
use Rattle.grammar.proofs.ConverseText.{accepted_exactly}
use Rattle.translate.specs.Services.{AfterTranslation}
use Rattle.translate.proofs.Kept.{never}
use Rattle.st.specs.Syntax.{Identifier, Declaration}
use Rattle.st.specs.Printed.{expression_printed, statement_printed, statements_printed, declarations_printed, section_printed, program_printed}
use Rattle.st_program.specs.Written.{name_at, current_line, previous_line, variable_lines, saving_line, rule_in_st, program_in_st, st_bytes}
use Rattle.st_program.proofs.FirstStore.{spelled}
use Rattle.bytecode.proofs.Soundness.{none≢some}
use Rattle.structured_text.specs.Services.{structured_text_of}
use Rattle.structured_text.specs.Room.{st_room, StBound}
use Rattle.structured_text.proofs.Ways.{StWay, printed_whole, too_short, reserved, faulty, st_way}
use Rattle.structured_text.proofs.Growth.{decimal_short, rules_fit}

-- ---- lines

abbrev total : (Name → ℕ) → List Name → ℕ
total f [] = 0
total f (n ∷ ns) = f n + total f ns

total_append : (f : Name → ℕ) (k l : List Name) → total f (k ++ l) ≡ total f k + total f l
total_append f [] l = omega arith
total_append f (n ∷ k) l = omega (arith, total_append f k l)

total_three : (f : Name → ℕ) (k l m : List Name) → total f (k ++ l ++ m) ≡ total f k + total f l + total f m
total_three f k l m = omega (arith, total_append f (k ++ l) m, total_append f k l)

total_parts : (f : Name → ℕ) (k : ℕ) (ns : List Name) → total f (take k ns) + total f (drop k ns) ≡ total f ns
total_parts f k ns = sym (total_append f (take k ns) (drop k ns)) ∙ ap (total f) (take-append-drop k ns)

-- the bytes of a name's lines: its own, its previous value's, and `_v := v;`
abbrev own_bytes : Name → ℕ
own_bytes n = 15 + length n.spelling + length (decimal_of n.range.start)

abbrev previous_bytes : Name → ℕ
previous_bytes n = 16 + length n.spelling + length (decimal_of n.range.start)

abbrev saving_bytes : Name → ℕ
saving_bytes n = 7 + 2 * length n.spelling

line_length : (w z l : List ℕ) → length (bytes "  " ++ (w ++ (bytes " : DINT := " ++ (z ++ (bytes ";\n" ++ l))))) ≡ 15 + length w + length z + length l
line_length w z l = omega (arith, length-append w (bytes " : DINT := " ++ (z ++ (bytes ";\n" ++ l))), length-append z (bytes ";\n" ++ l))

current_length : (ns : List Name) (l : List ℕ) → length (declarations_printed (map current_line ns) l) ≡ total own_bytes ns + 8 + length l
unfolding declarations_printed
current_length [] l = omega arith
current_length (n ∷ ns) l = omega (arith, line_length n.spelling (decimal_of n.range.start) (declarations_printed (map current_line ns) l), current_length ns l)

variable_length : (ns : List Name) (l : List ℕ) → length (declarations_printed (variable_lines ns) l) ≡ total own_bytes ns + total previous_bytes ns + 8 + length l
unfolding declarations_printed
variable_length [] l = omega arith
variable_length (n ∷ ns) l =
    let more = declarations_printed (variable_lines ns) l in
    let z = decimal_of n.range.start in
    omega (arith, line_length n.spelling z (bytes "  " ++ ((95 ∷ n.spelling) ++ (bytes " : DINT := " ++ (z ++ (bytes ";\n" ++ more))))), line_length (95 ∷ n.spelling) z more, variable_length ns l)

previous_length : (is vs : List Name) (l : List ℕ) → length (declarations_printed (map previous_line is ++ variable_lines vs) l) ≡ total previous_bytes is + length (declarations_printed (variable_lines vs) l)
unfolding declarations_printed
previous_length [] vs l = omega arith
previous_length (n ∷ is) vs l =
    omega (arith, line_length (95 ∷ n.spelling) (decimal_of n.range.start) (declarations_printed (map previous_line is ++ variable_lines vs) l), previous_length is vs l)

saving_length : (ns : List Name) → length (statements_printed (map saving_line (spelled ns)) []) ≡ total saving_bytes ns
unfolding statements_printed statement_printed expression_printed
saving_length [] = refl
saving_length (n ∷ ns) =
    let more = statements_printed (map saving_line (spelled ns)) [] in
    let w = n.spelling in
    omega (arith, length-append w (bytes " := " ++ (w ++ (bytes ";\n" ++ more))), length-append w (bytes ";\n" ++ more), saving_length ns)

section_length : (word : String) (ds : List Declaration) (l : List ℕ) → length (section_printed word ds l) ≤ length (bytes word) + 1 + length (declarations_printed ds l)
unfolding section_printed declarations_printed
section_length word [] l = omega arith
section_length word (d ∷ ds) l = omega (arith, length-append (bytes word) (10 ∷ declarations_printed (d ∷ ds) l))

-- ---- declarations

negative_length : (n : ℕ) → length (decimal_of (neg_ℤ (pos n))) ≤ 1 + length (unsigned_decimal n)
unfolding decimal_of
negative_length zero = omega arith
negative_length (suc n) = let e = ap (λ (m : ℕ). length (unsigned_decimal m)) (add-one n) in omega arith

record NumberFits (ts : List (List ℕ)) (z : ℤ) : Type 0 where
  some_bytes : 1 ≤ bytes_of ts
  decimal : length (decimal_of z) ≤ bytes_of ts

number_fits : (ts : List (List ℕ)) (z : ℤ) → SpellsZ ts z → NumberFits ts z
unfolding decimal_of later_bytes
number_fits ts z (S.SpellsZ.positive w d) = record { some_bytes = omega arith; decimal = omega (arith, decimal_short w d, token_bytes w (digits_some w d)) }
number_fits ts z (S.SpellsZ.negative w d) = record { some_bytes = omega arith; decimal = omega (arith, negative_length (value_of w), decimal_short w d, token_bytes w (digits_some w d)) }

start_fits : (ts : List (List ℕ)) (z : ℤ) → SpellsStart ts z → 4 * length (decimal_of z) ≤ 7 * bytes_of ts + 4
unfolding decimal_of later_bytes
start_fits ts z S.SpellsStart.absent = let e = ap length (decimal_small 0 (omega arith)) in omega arith
start_fits ts z (S.SpellsStart.given us y d) = let f = (number_fits us y d).decimal in omega arith

declares_fit : (word : List ℕ) → 2 ≤ later_bytes word → (ts : List (List ℕ)) (x : Name) → Declares word ts x → 2 * (own_bytes x + previous_bytes x + saving_bytes x) ≤ 7 * bytes_of ts + 40
unfolding later_bytes
declares_fit word h ts x (S.Declares.declares w ls hs ss r nm dl dh ds fits) =
    let bounds = (word ∷ w ∷ ls) ++ bytes ".." ∷ hs in
    let n = name_length w nm in
    omega (
      arith,
      h,
      n.0,
      n.1,
      token_bytes w n.0,
      (number_fits ls r.low dl).some_bytes,
      (number_fits hs r.high dh).some_bytes,
      start_fits ss r.start ds,
      bytes_append (bounds ++ ss) (bytes ";" ∷ []),
      bytes_append bounds ss,
      bytes_append (word ∷ w ∷ ls) (bytes ".." ∷ hs),
    )

-- a timer starts at 0
timer_fits : (names : List (List ℕ)) (ts : List (List ℕ)) (x : Name) (y : Timer) → DeclaresTimer names ts x y → 2 * (own_bytes x + previous_bytes x + saving_bytes x) ≤ 7 * bytes_of ts + 40
unfolding later_bytes decimal_of
timer_fits names ts x y (S.DeclaresTimer.declares_timer t w n z nt nw i d e) =
    let l = name_length t nt in
    omega (arith, l.0, l.1, token_bytes t l.0, ap {A = List ℕ} length (decimal_small 0 (omega arith)))

abbrev line_bytes : List Name → ℕ
line_bytes ns = total own_bytes ns + total previous_bytes ns + total saving_bytes ns

all_fit : (word : List ℕ) → 2 ≤ later_bytes word → (ts : List (List ℕ)) (l : List Name) → DeclareAll word ts l → 2 * line_bytes l ≤ 7 * bytes_of ts + 40 * length l
all_fit word h ts l S.DeclareAll.none = omega arith
all_fit word h ts l (S.DeclareAll.more us vs x k d r) = let f = declares_fit word h us x d in let g = all_fit word h vs k r in omega (arith, f, g, bytes_append us vs)

timers_fit : (names : List (List ℕ)) (ts : List (List ℕ)) (l : List Name) (ys : List Timer) → DeclareTimers names ts l ys → 2 * line_bytes l ≤ 7 * bytes_of ts + 40 * length l
timers_fit names ts l ys S.DeclareTimers.none = omega arith
timers_fit names ts l ys (S.DeclareTimers.more us vs x k y zs d r) = let f = timer_fits names us x y d in let g = timers_fit names vs k zs r in omega (arith, f, g, bytes_append us vs)

input_later : 2 ≤ later_bytes (bytes "input")
unfolding later_bytes
input_later = omega arith

var-later : 2 ≤ later_bytes (bytes "var")
unfolding later_bytes
var-later = omega arith

-- ---- names are as long as the tokens that spell them

sized : (ws : List Identifier) → ((i : ℕ) (w : List ℕ) → get_elem? ws i ≡ some w → IsName w) → (i : ℕ) (w : List ℕ) → get_elem? (normals ws) i ≡ some w → (length (name_at ws i) ≡ length w) × (1 ≤ length w)
sized [] h i w e = none≢some w e
sized (x ∷ ws) h zero w e = let q : normal x ≡ w = cc in let a = ap length q in let b = normal_length x in let c = (name_length x (h zero x refl)).0 in (omega arith, omega arith)
sized (x ∷ ws) h (suc i) w e = sized ws (λ j v g. h (suc j) v g) i w e

-- ---- the whole

pub st_growth : (text : List ℕ) (p : Program) → program_of text ≡ accepted p → 2 * length (st_bytes p) ≤ 7 * length text + 2620
unfolding st_bytes program_in_st program_printed
st_growth text p e =
    let s = accepted_exactly.accepted_spelled text p e in
    let is = take p.inputs p.names in
    let vs = drop p.inputs p.names in
    let body = statements_printed (map (rule_in_st (names_of p)) p.rules ++ map saving_line (names_of p)) [] in
    let second = section_printed "VAR" (map previous_line is ++ variable_lines vs) body in
    let front = s.input_tokens ++ s.variable_tokens ++ s.timer_tokens in
    let parsed = program_parsed text p e in
    let rules = rules_fit (names_of p) (normals (names_of p)) (sized (names_of p) (parse_named text p parsed.0 parsed.1).each) s.rule_tokens p.rules s.spells_rules (map saving_line (names_of p)) in
    let inputs = all_fit (bytes "input") input_later s.input_tokens s.inputs s.declares_inputs in
    let variables = all_fit (bytes "var") var-later s.variable_tokens s.variables s.declares_variables in
    let timers = timers_fit _ s.timer_tokens s.timer_names p.timers s.declares_timers in
    let owns = ap (total own_bytes) s.names ∙ total_three own_bytes s.inputs s.variables s.timer_names in
    let previouses = ap (total previous_bytes) s.names ∙ total_three previous_bytes s.inputs s.variables s.timer_names in
    let savings = ap (total saving_bytes) s.names ∙ total_three saving_bytes s.inputs s.variables s.timer_names in
    let count = ap {A = List Name} length s.names ∙ length-append (s.inputs ++ s.variables) s.timer_names in
    let declared = spells_bytes written text 0 s.rules_from_lem front (omega arith) s.spells_declarations in
    let before = (spells_in written text 0 s.rules_from_lem front (omega arith) s.spells_declarations).1 in
    let back = s.rule_tokens ++ s.watch_tokens in
    let ruled = spells_bytes normally text s.rules_from_lem s.end back before s.spells_tokens in
    let within = (spells_in normally text s.rules_from_lem s.end back before s.spells_tokens).1 in
    omega (
      arith,
      section_length "VAR_INPUT" (map current_line is) second,
      current_length is second,
      section_length "VAR" (map previous_line is ++ variable_lines vs) body,
      previous_length is vs body,
      variable_length vs body,
      rules,
      saving_length p.names,
      inputs,
      variables,
      timers,
      owns,
      previouses,
      savings,
      count,
      length-append s.inputs s.variables,
      s.few,
      total_parts own_bytes p.inputs p.names,
      total_parts previous_bytes p.inputs p.names,
      declared,
      ruled,
      within,
      bytes_append (s.input_tokens ++ s.variable_tokens) s.timer_tokens,
      bytes_append s.input_tokens s.variable_tokens,
      bytes_append s.rule_tokens s.watch_tokens,
    )

-- 10 comes only of an accepted text whose Structured Text is longer than the buffer
room_enough : (text buffer : List ℕ) → st_room ≤ length buffer → (place : ℕ) → (structured_text_of text buffer).answer ≡ refused buffer_too_short place → ⊥
room_enough text buffer h place = go (structured_text_of text buffer) (st_way text buffer)
  where
    go : (r : AfterTranslation) → StWay text buffer r → r.answer ≡ refused buffer_too_short place → ⊥
    go r (printed_whole p e i l) a = never (length (st_bytes p)) buffer_too_short place a
    go r (too_short p e i l) a = let g = st_growth text p e in let s = (accepted_exactly.accepted_spelled text p e).short in omega arith
    go r (reserved p e i) a = let x : not_in_st ≡ buffer_too_short = cc in omega arith
    go r (faulty k q e) a = let i : k ≡ buffer_too_short = cc in not_ten k (program_refused text k q e).0 i

pub st_bound : StBound
st_bound = record { bound = λ text p s. st_growth text p (accepted_exactly.spelled_accepted text p s); room = room_enough }
