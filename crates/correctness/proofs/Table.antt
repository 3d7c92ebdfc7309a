-- The worked examples hold, by one computed test over the table. Assumes nothing.
use Prim.Native.Nat.{ℕ}
use mathlib.Core.Path.{◌≡◌, refl, ap, ap₂}
use mathlib.Core.Bool.{Bool, true, false, ◌&&◌}
use mathlib.Core.List.{List, [], ◌∷◌, map}
use lib.Dec.{T, eqb, eqb→eq}
use lib.IntN.{ℤ, negsuc}
use Rattle.limits.specs.Answer.{Answer, accepted, refused}
use Rattle.arith.specs.Values.{eq_z, arithmetic, negation, compares}
use Rattle.semantics.specs.Program.{within, is_binary}
use Rattle.semantics.specs.Shape.{elapsed, due, timed}
use Rattle.semantics.specs.ReferenceScan.{moves, picked}
use Rattle.arith.proofs.Basics.{and_left, and_right, eq_z→≡}
use Rattle.leb128.specs.Numbers.{number, zigzag, unzigzag, number_at, signed_at, groups, grouped, number_in, below32}
use Rattle.bytecode.specs.Instructions.{instruction_of, has_operand, fetch_one, timer_at, fetch}
use Rattle.bytecode.specs.Translation.{image_of}
use Rattle.bytecode.specs.Check.{check_counts, check_range, check_header, is_timer_range, check_body, check_of}
use Rattle.bytecode.specs.Parts.{header_of, code_of, limits_of}
use Rattle.machine.specs.Step.{bit, yes}
use Rattle.scan.specs.Services.{AfterStart, AfterScan, start_of, scan_code, scan_of, scans_of}
use Rattle.translate.specs.Services.{translation_of}
use Rattle.grammar.specs.Watches.{watches_from}
use Rattle.grammar.specs.Parse.{end_at, program, parse, program_of}
use Rattle.grammar.specs.Rules.{case_at, cases_from, list_from, plain_list, part_from, kind_at, parts_from, first_found, agreeing_list, function_at, change_at, pair_at, formula_at, formulas, rule_at, rules_from}
use Rattle.grammar.specs.Timers.{is_watchable, watched_at, limit_at, timer_declaration, timers_from}
use Rattle.grammar.specs.Declarations.{in_range, signed_digits as signedLiteralAt, bound_at, new_name, start_at, declaration, declarations_from, declarations}
use Rattle.grammar.specs.Conditions.{comparison_by, compared, comparison_at, opposite, inverted, atom, connect, and_of, or_of, conjunction, condition, square, whole_condition, listed}
use Rattle.lexer.specs.Names.{id_from, id_of}
use Rattle.grammar.specs.Expressions.{with_id, current_at, previous_value_at, constant_at as literalAt, primary, negative, factor, product_of, sum_of, term, expression, bracket, whole_expression}
use Rattle.grammar.specs.Parsed.{expected, phrase, followed, rest, chain}
use Rattle.lexer.specs.Lexer.{is_space, is_digit, is_letter, is_alphanumeric, run_on, run_end, same_name, grammar_word, exact_word, word_of, over_long, pair_of, sign_of, read_of, sign_at, word_at, digits_at, previous_at, token_of, token_past, token_at, same_spelling, same_token, value_on, value_of}
use Rattle.lexer.specs.Token.{kind_number, is}
use Rattle.lexer.specs.Bytes.{same_bytes as sameBytesOf, capital, capitals}
use Rattle.correctness.specs.Examples.{Example, image_given, HoldsOn, HoldsOf, AllHold, examples}

-- ---- equality of answers, computed

abbrev same_list : {A : Type 0} → (A → A → Bool) → List A → List A → Bool
same_list f [] [] = true
same_list f [] (y ∷ ys) = false
same_list f (x ∷ xs) [] = false
same_list f (x ∷ xs) (y ∷ ys) = f x y && same_list f xs ys

list_same : {A : Type 0} (f : A → A → Bool) → ((x y : A) → T (f x y) → x ≡ y) → (xs ys : List A) → T (same_list f xs ys) → xs ≡ ys
list_same f g [] [] h = refl
list_same f g [] (y ∷ ys) h = absurd h
list_same f g (x ∷ xs) [] h = absurd h
list_same f g (x ∷ xs) (y ∷ ys) h = ap₂ ◌∷◌ (g x y (and_left (f x y) _ h)) (list_same f g xs ys (and_right (f x y) _ h))

abbrev same_answer : {A : Type 0} → (A → A → Bool) → Answer A → Answer A → Bool
same_answer f (accepted u) (accepted w) = f u w
same_answer f (accepted u) (refused m q) = false
same_answer f (refused n p) (accepted w) = false
same_answer f (refused n p) (refused m q) = eqb n m && eqb p q

answer_same : {A : Type 0} (f : A → A → Bool) → ((x y : A) → T (f x y) → x ≡ y) → (a b : Answer A) → T (same_answer f a b) → a ≡ b
answer_same f g (accepted u) (accepted w) h = ap accepted (g u w h)
answer_same f g (accepted u) (refused m q) h = absurd h
answer_same f g (refused n p) (accepted w) h = absurd h
answer_same f g (refused n p) (refused m q) h = ap₂ refused (eqb→eq n m (and_left (eqb n m) _ h)) (eqb→eq p q (and_right (eqb n m) _ h))

abbrev same_state : List ℤ → List ℤ → Bool
same_state = same_list eq_z

state_same : (s t : List ℤ) → T (same_state s t) → s ≡ t
state_same = list_same eq_z eq_z→≡

abbrev same_verdict : Answer (Unit {0}) → Answer (Unit {0}) → Bool
same_verdict = same_answer (λ u w. true)

verdict_same : (a b : Answer (Unit {0})) → T (same_verdict a b) → a ≡ b
verdict_same = answer_same (λ u w. true) (λ u w h. refl)

abbrev same_scan : AfterScan → AfterScan → Bool
same_scan a b = same_verdict a.answer b.answer && (eqb a.steps b.steps && same_state a.state b.state)

scan_made : (x y : Answer (Unit {0})) (n m : ℕ) (s t : List ℤ) → x ≡ y → n ≡ m → s ≡ t → ◌≡◌ {A = AfterScan} (record { answer = x; steps = n; state = s }) (record { answer = y; steps = m; state = t })
scan_made x y n m s t e f g = rw (e, f, g)

scan_same : (a b : AfterScan) → T (same_scan a b) → a ≡ b
scan_same a b h =
    let k = and_right (same_verdict a.answer b.answer) _ h in
    scan_made a.answer b.answer a.steps b.steps a.state b.state (verdict_same a.answer b.answer (and_left (same_verdict a.answer b.answer) _ h))
    (eqb→eq a.steps b.steps (and_left (eqb a.steps b.steps) _ k)) (state_same a.state b.state (and_right (eqb a.steps b.steps) _ k))

abbrev same_scans : List AfterScan → List AfterScan → Bool
same_scans = same_list same_scan

-- ---- the test

-- an image written, or the refusal
abbrev same_image : Answer (List ℕ) → Answer (List ℕ) → Bool
same_image = same_answer (same_list eqb)

abbrev same_start : AfterStart → AfterStart → Bool
same_start a b = same_verdict a.answer b.answer && same_state a.state b.state

start_made : (x y : Answer (Unit {0})) (s t : List ℤ) → x ≡ y → s ≡ t → ◌≡◌ {A = AfterStart} (record { answer = x; state = s }) (record { answer = y; state = t })
start_made x y s t e f = rw (e, f)

start_same : (a b : AfterStart) → T (same_start a b) → a ≡ b
start_same a b h =
    start_made a.answer b.answer a.state b.state (verdict_same a.answer b.answer (and_left (same_verdict a.answer b.answer) _ h))
    (state_same a.state b.state (and_right (same_verdict a.answer b.answer) _ h))

-- what start leaves of minus ones, and what it should
abbrev starts : List ℕ → Example → Bool
starts b e = same_start (start_of b (map (λ z. negsuc 0) e.first)) (record { answer = e.verdict; state = e.first })

abbrev test_on : Answer (List ℕ) → Example → Bool
test_on (accepted b) e = same_verdict (check_of b) e.verdict && (starts b e && same_scans (scans_of b e.first e.rows) e.results)
test_on (refused number place) e = true

on_holds : (a : Answer (List ℕ)) (e : Example) → T (test_on a e) → HoldsOn a e
on_holds (accepted b) e h =
    let k = and_right (same_verdict (check_of b) e.verdict) _ h in (
      verdict_same (check_of b) e.verdict (and_left (same_verdict (check_of b) e.verdict) _ h),
      start_same _ (record { answer = e.verdict; state = e.first }) (and_left (starts b e) _ k),
      list_same same_scan scan_same _ e.results (and_right (starts b e) _ k),
    )
on_holds (refused number place) e h = tt

abbrev test : Example → Bool
test e = same_image (image_given e.given) e.translation && test_on e.translation e

test_holds : (e : Example) → T (test e) → HoldsOf e
test_holds e h = (
  answer_same (same_list eqb) (list_same eqb eqb→eq) (image_given e.given) e.translation (and_left (same_image (image_given e.given) e.translation) _ h),
  on_holds e.translation e (and_right (same_image (image_given e.given) e.translation) _ h),
)

abbrev test_all : List Example → Bool
test_all [] = true
test_all (e ∷ es) = test e && test_all es

all_hold : (es : List Example) → T (test_all es) → AllHold es
all_hold [] h = tt
all_hold (e ∷ es) h = (test_holds e (and_left (test e) _ h), all_hold es (and_right (test e) _ h))

computed : T (test_all examples)
unfolding sameBytesOf kind_number is is_space is_digit is_letter is_alphanumeric run_on run_end capital capitals same_name grammar_word exact_word word_of over_long pair_of sign_of read_of sign_at word_at digits_at previous_at token_of token_past token_at same_spelling same_token value_on value_of expected phrase followed rest chain id_from id_of with_id current_at previous_value_at literalAt primary negative factor product_of sum_of term expression bracket whole_expression comparison_by compared comparison_at opposite inverted atom connect and_of or_of conjunction condition square whole_condition listed in_range signedLiteralAt bound_at new_name start_at declaration declarations_from declarations is_binary is_watchable watched_at limit_at timer_declaration timers_from case_at cases_from list_from plain_list part_from kind_at parts_from first_found agreeing_list function_at change_at pair_at formula_at formulas rule_at rules_from watches_from end_at program parse groups number zigzag unzigzag grouped number_in below32 number_at signed_at instruction_of has_operand fetch_one timer_at fetch image_of check_counts check_range check_header is_timer_range check_body check_of header_of code_of limits_of bit yes elapsed due timed within moves picked arithmetic negation compares program_of translation_of start_of scan_code scan_of
computed = tt

pub examples_hold : AllHold examples
examples_hold = all_hold examples computed
