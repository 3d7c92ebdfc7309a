-- Worked calls of the clock service, as one table under one statement: which input gets which value, what stays, and the refusals in their
-- order. Document 02, A.1, and its open points as docs/DECISIONS.md reads them. Assumes nothing.
use mathlib.Core.Path.{◌≡◌, refl}
use mathlib.Core.List.{List, [], ◌∷◌, map}
use Prim.Native.Nat.{ℕ}
use Prim.Native.String.{String}
use lib.IntN.{ℤ, pos, negsuc}
use Rattle.limits.specs.Answer.{accepted, refused}
use Rattle.lexer.specs.Bytes.{bytes, same_bytes, capital, capitals}
use Rattle.lexer.specs.Token.{is, kind_number}
use Rattle.lexer.specs.Lexer.{is_space, is_digit, is_letter, is_alphanumeric, run_on, run_end, same_name, grammar_word, exact_word, word_of, over_long, pair_of, sign_of, read_of, sign_at, word_at, digits_at, previous_at, token_of, token_past, token_at, same_spelling, same_token, value_on, value_of}
use Rattle.lexer.specs.Names.{id_from, id_of}
use Rattle.grammar.specs.Parsed.{expected, phrase, followed, rest, chain}
use Rattle.grammar.specs.Expressions.{with_id, current_at, previous_value_at as previousIn, constant_at, primary, negative, factor, product_of, sum_of, term, expression, bracket, whole_expression}
use Rattle.grammar.specs.Declarations.{in_range, signed_digits, bound_at, new_name, start_at, declaration, declarations_from, declarations}
use Rattle.grammar.specs.Timers.{is_watchable, watched_at, limit_at, timer_declaration, timers_from}
use Rattle.semantics.specs.Program.{is_binary}
use Rattle.grammar.specs.Rules.{function_at, formula_at, formulas, rule_at, rules_from}
use Rattle.grammar.specs.Watches.{watches_from}
use Rattle.grammar.specs.Parse.{end_at, program, parse, program_of}
use Rattle.clock.specs.Clock.{entries_of, entries_fit, is_table, offset_from, offset_at, local_at, day_of, minute_of, repeats_in, is_again}
use Rattle.clock.specs.Services.{AfterFill, row_filled, fill_of}
use Rattle.clock.proofs.Examples.{berlin, dateline}

-- the text, the table, the UTC minute, the row lent; what is answered and left
pub record Filling : Type 0 where
  pub text : List ℕ
  pub table : List ℤ
  pub utc : ℤ
  pub row : List ℤ
  pub after : AfterFill

abbrev fills : String → List ℤ → ℤ → List ℤ → List ℤ → Filling
fills text table utc row left = record { text = bytes text; table = table; utc = utc; row = row; after = record { answer = accepted tt; row = left } }

-- a refusal leaves the row
abbrev refuses : String → List ℤ → ℤ → List ℤ → ℕ → ℕ → Filling
refuses text table utc row number place =
    record { text = bytes text; table = table; utc = utc; row = row; after = record { answer = refused number place; row = row } }

abbrev three : String
three = "input day 0..40000; input minute 0..1439; input again 0..1; var v 0..1; v: GX(v = (again));"

abbrev timed : String
timed = "input minute 0..1439; var day 0..1; timer t of day limit 5; day: GX(day = (1));"

pub fillings : List Filling
fillings =
    -- 2:00 the second time: each input gets its own value
    fills three berlin (pos 28833180) (pos 7 ∷ pos 8 ∷ pos 9 ∷ []) (pos 20023 ∷ pos 120 ∷ pos 1 ∷ [])
    -- the first time `again` is 0, whatever stood there; a day below 0
    ∷ fills three berlin (pos 28833120) (pos 7 ∷ pos 8 ∷ pos 9 ∷ []) (pos 20023 ∷ pos 120 ∷ pos 0 ∷ [])
    ∷ fills three dateline (pos 1) (pos 7 ∷ pos 8 ∷ pos 9 ∷ []) (negsuc 0 ∷ pos 721 ∷ pos 1 ∷ [])
    -- names in other letter cases (document 02, A.2)
    ∷ fills "input DAY 0..1; input Minute 0..1439; input AGAIN 0..1;" (pos 0 ∷ pos 60 ∷ []) (pos 1439) (pos 7 ∷ pos 7 ∷ pos 7 ∷ []) (pos 1 ∷ pos 59 ∷ pos 0 ∷ [])
    -- in another order, between other inputs, whose values stay; one that is not declared is not filled; ranges are not looked at
    ∷ fills "input again 5..5 init 5; input go 0..1; input day 0..1;" berlin (pos 28833180) (pos 7 ∷ pos 8 ∷ pos 9 ∷ []) (pos 1 ∷ pos 8 ∷ pos 20023 ∷ [])
    ∷ fills "input go 0..1; input minute 0..1; input days 0..1; input da 0..1;" berlin (pos 28833180) (pos 6 ∷ pos 7 ∷ pos 8 ∷ pos 9 ∷ []) (pos 6 ∷ pos 120 ∷ pos 8 ∷ pos 9 ∷ [])
    -- a variable of such a name is not filled
    ∷ fills "input go 0..1; input minute 0..1; var day 0..1; day: GX(day = (1));" berlin (pos 28833180) (pos 6 ∷ pos 7 ∷ []) (pos 6 ∷ pos 120 ∷ [])
    -- none is declared; no input at all
    ∷ fills "input go 0..1;" berlin (pos 0) (pos 7 ∷ []) (pos 7 ∷ [])
    ∷ fills "" berlin (pos 2147483647) [] []
    -- a row of a text with timers ends with the milliseconds, which stay; a variable `day` does not take them
    ∷ fills timed berlin (pos 28833180) (pos 7 ∷ pos 8 ∷ []) (pos 120 ∷ pos 8 ∷ [])
    ∷ refuses timed berlin (pos 28833180) (pos 7 ∷ []) 12 0
    -- the text's faults before 19, 19 before 20, 20 before 12
    ∷ refuses "input day 0..1" [] (negsuc 0) [] 2 14
    ∷ refuses "input day 0..1; var day 0..1;" [] (pos 0) (pos 7 ∷ []) 4 20
    ∷ refuses three [] (negsuc 0) [] 19 0
    ∷ refuses three (pos 0 ∷ pos 841 ∷ []) (pos 0) (pos 7 ∷ pos 8 ∷ pos 9 ∷ []) 19 0
    ∷ refuses three berlin (negsuc 0) [] 20 0
    ∷ refuses three berlin (pos 2147483648) (pos 7 ∷ pos 8 ∷ pos 9 ∷ []) 20 0
    ∷ refuses three berlin (pos 0) (pos 7 ∷ pos 8 ∷ []) 12 0
    ∷ refuses three berlin (pos 0) (pos 7 ∷ pos 8 ∷ pos 9 ∷ pos 10 ∷ []) 12 0
    -- 20 also where nothing would be filled
    ∷ refuses "input go 0..1;" berlin (negsuc 0) (pos 7 ∷ []) 20 0
    ∷ []

abbrev answer_of : Filling → AfterFill
answer_of c = fill_of c.text c.table c.utc c.row

-- the definition gives what the table says
pub fillings_hold : map answer_of fillings ≡ map (λ (c : Filling). c.after) fillings
unfolding fillings is_space is_digit is_letter is_alphanumeric run_on run_end capital capitals same_name same_bytes grammar_word exact_word word_of over_long pair_of sign_of read_of sign_at word_at digits_at previous_at token_of token_past token_at same_spelling same_token value_on value_of is kind_number id_from id_of expected phrase followed rest chain with_id current_at previousIn constant_at primary negative factor product_of sum_of term expression bracket whole_expression in_range signed_digits bound_at new_name start_at declaration declarations_from declarations is_binary is_watchable watched_at limit_at timer_declaration timers_from function_at formula_at formulas rule_at rules_from watches_from end_at program parse program_of entries_of entries_fit is_table offset_from offset_at local_at day_of minute_of repeats_in is_again row_filled fill_of
fillings_hold = refl
