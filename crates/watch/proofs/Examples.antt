-- Worked watches of texts with timers, as one table under one statement, proved by computing the definitions. Document 02, A.13 over A.7. Assumes nothing.
use mathlib.Core.Path.{◌≡◌, refl}
use mathlib.Core.List.{List, [], ◌∷◌, map}
use Prim.Native.Nat.{ℕ}
use lib.IntN.{ℤ, pos, negsuc}
use lib.ListN.{replicate}
use Rattle.limits.specs.Answer.{accepted, refused}
use Rattle.arith.specs.Values.{arithmetic, negation, compares}
use Rattle.lexer.specs.Bytes.{bytes, same_bytes, capital, capitals}
use Rattle.lexer.specs.Token.{is, kind_number}
use Rattle.lexer.specs.Lexer.{is_space, is_digit, is_letter, is_alphanumeric, run_on, run_end, same_name, grammar_word, exact_word, word_of, over_long, pair_of, sign_of, read_of, sign_at, word_at, digits_at, previous_at, token_of, token_past, token_at, same_spelling, same_token, value_on, value_of}
use Rattle.lexer.specs.Names.{id_from, id_of}
use Rattle.semantics.specs.Program.{is_binary}
use Rattle.semantics.specs.Shape.{is_trace, places_in}
use Rattle.watching.specs.Watching.{first_failure}
use Rattle.grammar.specs.Parsed.{expected, phrase, followed, rest, chain}
use Rattle.grammar.specs.Expressions.{with_id, current_at, previous_value_at as previousIn, constant_at, primary, negative, factor, product_of, sum_of, term, expression, bracket, whole_expression}
use Rattle.grammar.specs.Conditions.{comparison_by, compared, comparison_at, opposite, inverted, atom, connect, and_of, or_of, conjunction, condition, square, whole_condition, listed}
use Rattle.grammar.specs.Declarations.{in_range, signed_digits, bound_at, new_name, start_at, declaration, declarations_from, declarations}
use Rattle.grammar.specs.Timers.{is_watchable, watched_at, limit_at, timer_declaration, timers_from}
use Rattle.grammar.specs.Rules.{case_at, cases_from, list_from, plain_list, part_from, kind_at, parts_from, first_found, agreeing_list, function_at, change_at, pair_at, formula_at, formulas, rule_at, rules_from}
use Rattle.grammar.specs.Watches.{later_at, after_first, watch_at, watches_from}
use Rattle.grammar.specs.Parse.{end_at, program, parse, program_of}
use Rattle.watch.specs.Services.{AfterWatch, watch_of}

-- a text, the numbers lent, what is answered and left in the report
pub record Example : Type 0 where
  pub text : List ℕ
  pub lent : List ℤ
  pub left : AfterWatch

-- what stands in the report before
abbrev sevens : ℕ → List ℤ
sevens n = replicate n (pos 7)

abbrev tells : List ℕ → List ℤ → ℕ → List ℤ → Example
tells text lent count left = record { text = text; lent = lent; left = record { answer = accepted count; report = left } }

abbrev cut : List ℕ → List ℤ → Example
cut text lent = record { text = text; lent = lent; left = record { answer = refused 12 0; report = sevens 16 } }

-- a watch of t alone, and a pair that waits for it
abbrev one : List ℕ
one = bytes "var w 0..1; timer t of w limit 5; w: GX(w = (1)); watch: G([t = 0]); watch: G([_w = 1] -> X([t = 1]));"

-- two timers of one w
abbrev two : List ℕ
two = bytes "var w 0..1; timer t of w limit 3; timer u of w limit 2; w: GX(w = (1)); watch: G([t = u]);"

-- 0 0 0 · 1 0 0 · 1 0 3 · 1 1 5: w, t, elapsed
abbrev waited : List ℤ
waited = pos 0 ∷ pos 0 ∷ pos 0 ∷ pos 1 ∷ pos 0 ∷ pos 0 ∷ pos 1 ∷ pos 0 ∷ pos 3 ∷ pos 1 ∷ pos 1 ∷ pos 5 ∷ []

-- 0 0 0 0 0 · 1 0 0 0 0 · 1 0 1 2 2: w, t, u, both elapsed
abbrev both : List ℤ
both = pos 0 ∷ pos 0 ∷ pos 0 ∷ pos 0 ∷ pos 0 ∷ pos 1 ∷ pos 0 ∷ pos 0 ∷ pos 0 ∷ pos 0 ∷ pos 1 ∷ pos 0 ∷ pos 1 ∷ pos 2 ∷ pos 2 ∷ []

abbrev pub examples : List Example
examples =
    tells one waited 2 (pos 3 ∷ negsuc 0 ∷ sevens 14)
    -- the start alone; two numbers are the names of a state without its elapsed time
    ∷ tells one (pos 0 ∷ pos 0 ∷ pos 0 ∷ []) 2 (negsuc 0 ∷ negsuc 0 ∷ sevens 14)
    ∷ cut one (pos 0 ∷ pos 0 ∷ [])
    ∷ cut one (pos 0 ∷ pos 0 ∷ pos 0 ∷ pos 1 ∷ [])
    ∷ cut one []
    ∷ tells two both 1 (pos 2 ∷ sevens 15)
    ∷ []

-- the definition gives what the table says
pub watches_told_lem : map (λ (e : Example). watch_of e.text e.lent (sevens 16)) examples ≡ map (λ (e : Example). e.left) examples
unfolding is_space is_digit is_letter is_alphanumeric run_on run_end capital capitals same_name same_bytes grammar_word exact_word word_of over_long pair_of sign_of read_of sign_at word_at digits_at previous_at token_of token_past token_at same_spelling same_token value_on value_of is kind_number id_from id_of expected phrase followed rest chain with_id current_at previousIn constant_at primary negative factor product_of sum_of term expression bracket whole_expression comparison_by compared comparison_at opposite inverted atom connect and_of or_of conjunction condition square whole_condition listed in_range signed_digits bound_at new_name start_at declaration declarations_from declarations is_binary is_watchable watched_at limit_at timer_declaration timers_from case_at cases_from list_from plain_list part_from kind_at parts_from first_found agreeing_list function_at change_at pair_at formula_at formulas rule_at rules_from later_at after_first watch_at watches_from end_at program parse program_of arithmetic negation compares is_trace places_in first_failure watch_of
watches_told_lem = refl
