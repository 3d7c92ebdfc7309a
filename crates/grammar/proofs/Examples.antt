-- The worked examples of texts hold: the answers of ExampleTexts, and the images of the latches L1, L2 and L5 of document 01. Two tables,
-- each under one statement, proved by computing the definitions. Assumes nothing.
use mathlib.Core.Path.{◌≡◌, refl}
use mathlib.Core.List.{List, [], ◌∷◌, ◌++◌}
use Prim.Native.Nat.{ℕ, ◌<◌}
use lib.ListN.{length}
use borrow.Author.Tests.{lt-ltb}
use Rattle.limits.specs.Limits.{text_limit, too_long}
use Rattle.limits.specs.Answer.{Answer, accepted, refused}
use Rattle.lexer.specs.Bytes.{bytes, same_bytes, capital, capitals}
use Rattle.lexer.specs.Token.{is, kind_number}
use Rattle.lexer.specs.Lexer.{is_space, is_digit, is_letter, is_alphanumeric, run_on, run_end, same_name, grammar_word, exact_word, word_of, over_long, pair_of, sign_of, read_of, sign_at, word_at, digits_at, previous_at, token_of, token_past, token_at, same_spelling, same_token, value_on, value_of}
use Rattle.lexer.specs.Names.{id_from, id_of}
use Rattle.leb128.specs.Numbers.{number, groups, zigzag}
use Rattle.semantics.specs.Program.{Program, is_binary}
use Rattle.bytecode.specs.Translation.{image_of}
use Rattle.grammar.specs.Parsed.{expected, phrase, followed, rest, chain}
use Rattle.grammar.specs.Expressions.{with_id, current_at, previous_value_at as previousIn, constant_at, primary, negative, factor, product_of, sum_of, term, expression, bracket, whole_expression}
use Rattle.grammar.specs.Conditions.{comparison_by, compared, comparison_at, opposite, inverted, atom, connect, and_of, or_of, conjunction, condition, square, whole_condition, listed}
use Rattle.grammar.specs.Declarations.{in_range, signed_digits, bound_at, new_name, start_at, declaration, declarations_from, declarations}
use Rattle.grammar.specs.Timers.{is_watchable, watched_at, limit_at, timer_declaration, timers_from}
use Rattle.grammar.specs.Rules.{case_at, cases_from, list_from, plain_list, part_from, kind_at, parts_from, first_found, agreeing_list, function_at, change_at, pair_at, formula_at, formulas, rule_at, rules_from}
use Rattle.grammar.specs.Watches.{later_at, after_first, watch_at, watches_from}
use Rattle.grammar.specs.Parse.{end_at, program, parse, program_of}
use Rattle.grammar.proofs.ExampleTexts.{Example, number_order, after_change, other_tokens, long_names, many_names, missing_rules, numbers, longest_match, many_brackets, many_cases, letter_cases, recased_rule, pair_texts, examples, round, computing}
use Rattle.grammar.proofs.WatchTexts.{ruled, watch_texts}
use Rattle.grammar.proofs.TimerTexts.{wrong_timers, timer_forms, timer_rules}
use Rattle.grammar.proofs.Bytes.{heads, tails}

-- ---- the two statements

abbrev pub verdict : Answer Program → Answer (Unit {0})
verdict (accepted p) = accepted tt
verdict (refused number place) = refused number place

abbrev pub Holds : Example → Type 0
Holds e = verdict (program_of e.text) ≡ e.answer

-- a text and its image
pub record Latch : Type 0 where
  pub text : List ℕ
  pub image : List ℕ

abbrev pub imaged : Answer Program → Answer (List ℕ)
imaged (accepted p) = accepted (image_of p)
imaged (refused number place) = refused number place

abbrev pub Gives : Latch → Type 0
Gives l = imaged (program_of l.text) ≡ accepted l.image

-- every entry of a table
abbrev pub Every : {A : Type 0} → (A → Type 0) → List A → Type 0
Every P [] = Unit {0}
Every P (x ∷ l) = P x × Every P l

-- a table's answers at once, so that one computation serves it
abbrev answers_of : List Example → List (Answer (Unit {0}))
answers_of [] = []
answers_of (e ∷ es) = verdict (program_of e.text) ∷ answers_of es

abbrev wanted : List Example → List (Answer (Unit {0}))
wanted [] = []
wanted (e ∷ es) = e.answer ∷ wanted es

hold : (es : List Example) → answers_of es ≡ wanted es → Every Holds es
hold [] h = tt
hold (e ∷ es) h = (heads h, hold es (tails h))

-- ---- the table of answers

-- what a computation opens
opened : Unit {0}
unfolding is_space is_digit is_letter is_alphanumeric run_on run_end capital capitals same_name same_bytes grammar_word exact_word word_of over_long pair_of sign_of read_of sign_at word_at digits_at previous_at token_of token_past token_at same_spelling same_token value_on value_of is kind_number id_from id_of expected phrase followed rest chain with_id current_at previousIn constant_at primary negative factor product_of sum_of term expression bracket whole_expression comparison_by compared comparison_at opposite inverted atom connect and_of or_of conjunction condition square whole_condition listed in_range signed_digits bound_at new_name start_at declaration declarations_from declarations is_binary is_watchable watched_at limit_at timer_declaration timers_from case_at cases_from list_from plain_list part_from kind_at parts_from first_found agreeing_list function_at change_at pair_at formula_at formulas rule_at rules_from later_at after_first watch_at watches_from end_at program parse program_of image_of number groups zigzag
opened = tt

numberOrder-computed : answers_of number_order ≡ wanted number_order
unfolding opened
numberOrder-computed = refl

afterChange-computed : answers_of after_change ≡ wanted after_change
unfolding opened
afterChange-computed = refl

otherTokens-computed : answers_of other_tokens ≡ wanted other_tokens
unfolding opened
otherTokens-computed = refl

longNames-computed : answers_of long_names ≡ wanted long_names
unfolding opened
longNames-computed = refl

manyNames-computed : answers_of many_names ≡ wanted many_names
unfolding opened
manyNames-computed = refl

missingRules-computed : answers_of missing_rules ≡ wanted missing_rules
unfolding opened
missingRules-computed = refl

numbers-computed : answers_of numbers ≡ wanted numbers
unfolding opened
numbers-computed = refl

longestMatch-computed : answers_of longest_match ≡ wanted longest_match
unfolding opened
longestMatch-computed = refl

manyBrackets-computed : answers_of many_brackets ≡ wanted many_brackets
unfolding opened
manyBrackets-computed = refl

manyCases-computed : answers_of many_cases ≡ wanted many_cases
unfolding opened
manyCases-computed = refl

letterCases-computed : answers_of letter_cases ≡ wanted letter_cases
unfolding opened
letterCases-computed = refl

pairTexts-computed : answers_of pair_texts ≡ wanted pair_texts
unfolding opened
pairTexts-computed = refl

pub examples_hold : Every (Every Holds) examples
examples_hold = (
  hold number_order numberOrder-computed,
  (
    hold after_change afterChange-computed,
    (
      hold other_tokens otherTokens-computed,
      (
        hold long_names longNames-computed,
        (
          hold many_names manyNames-computed,
          (
            hold missing_rules missingRules-computed,
            (
              hold numbers numbers-computed,
              (
                hold longest_match longestMatch-computed,
                (
                  hold many_brackets manyBrackets-computed,
                  (
                    hold many_cases manyCases-computed,
                    (hold letter_cases letterCases-computed, (hold pair_texts pairTexts-computed, tt)),
                  ),
                ),
              ),
            ),
          ),
        ),
      ),
    ),
  ),
)

watch_texts_computed : answers_of watch_texts ≡ wanted watch_texts
unfolding opened
watch_texts_computed = refl

pub watch_texts_hold : Every Holds watch_texts
watch_texts_hold = hold watch_texts watch_texts_computed

wrong_timers_computed : answers_of wrong_timers ≡ wanted wrong_timers
unfolding opened
wrong_timers_computed = refl

timerForms-computed : answers_of timer_forms ≡ wanted timer_forms
unfolding opened
timerForms-computed = refl

timerRules-computed : answers_of timer_rules ≡ wanted timer_rules
unfolding opened
timerRules-computed = refl

pub timer-texts-hold : Every (Every Holds) (wrong_timers ∷ timer_forms ∷ timer_rules ∷ [])
timer-texts-hold = (hold wrong_timers wrong_timers_computed, (hold timer_forms timerForms-computed, (hold timer_rules timerRules-computed, tt)))

-- ---- the limit of a text

-- a text over its limit is 9, before all else
pub too_long_lem : (text : List ℕ) → text_limit < length text → program_of text ≡ refused too_long 0
unfolding program_of parse
too_long_lem text h = rw (lt-ltb text_limit (length text) h)

-- ---- the table of images

abbrev pub latches : List Latch
latches =
    -- L1, and white space alone
    record { text = []; image = 0x00 ∷ 0x00 ∷ [] }
    ∷ record { text = bytes " \t\r\n "; image = 0x00 ∷ 0x00 ∷ [] }
    -- L2
    ∷ record {
      text = bytes "var v 0..1; v: GX(~(v = _v) -> [_v = 0] & v = (1)); v: GX(v = _v -> ~([_v = 0]));";
      image = 0x00 ∷ 0x01 ∷ 0x00 ∷ 0x02 ∷ 0x00 ∷ 0x03 ∷ 0x00 ∷ 0x01 ∷ 0x00 ∷ 0x0a ∷ 0x13 ∷ 0x01 ∷ 0x02 ∷ 0x14 ∷ 0x00 ∷ 0x16 ∷ 0x00 ∷ [];
    }
    -- L5: 16 brackets pass (17 are in ExampleTexts)
    ∷ record { text = computing (round 16 (bytes "1")); image = 0x00 ∷ 0x01 ∷ 0x00 ∷ 0x02 ∷ 0x00 ∷ 0x01 ∷ 0x02 ∷ 0x15 ∷ 0x00 ∷ [] }
    -- names in other letter cases (document 02, A.2), one of 16 bytes
    ∷ record {
      text = recased_rule;
      image = 0x01 ∷ 0x01 ∷ 0x00 ∷ 0x02 ∷ 0x00 ∷ 0x00 ∷ 0x02 ∷ 0x00 ∷ 0x03 ∷ 0x01 ∷ 0x01 ∷ 0x00 ∷ 0x0a ∷ 0x02 ∷ 0x00 ∷ 0x01 ∷ 0x02 ∷ 0x0a ∷ 0x11 ∷ 0x13 ∷ 0x02 ∷ 0x00 ∷ 0x14 ∷ 0x01 ∷ 0x16 ∷ 0x01 ∷ [];
    }
    ∷ record { text = bytes "var aaaaaaaaaaaaaaaa 0..1; AAAAAAAAAAAAAAAA: GX(aaaaaaaaAAAAAAAA = (0));"; image = 0x00 ∷ 0x01 ∷ 0x00 ∷ 0x02 ∷ 0x00 ∷ 0x01 ∷ 0x00 ∷ 0x15 ∷ 0x00 ∷ [] }
    -- operators of one kind are read left to right, `* / mod` before `+ -`
    ∷ record {
      text = computing (bytes "9 - 4 - 2 * 3");
      image = 0x00 ∷ 0x01 ∷ 0x00 ∷ 0x02 ∷ 0x00 ∷ 0x01 ∷ 0x12 ∷ 0x01 ∷ 0x08 ∷ 0x05 ∷ 0x01 ∷ 0x04 ∷ 0x01 ∷ 0x06 ∷ 0x06 ∷ 0x05 ∷ 0x15 ∷ 0x00 ∷ [];
    }
    -- watches leave the image (document 02, A.13)
    ∷ record { text = ruled; image = 0x01 ∷ 0x01 ∷ 0x00 ∷ 0x02 ∷ 0x00 ∷ 0x00 ∷ 0x12 ∷ 0x00 ∷ 0x03 ∷ 0x01 ∷ 0x02 ∷ 0x00 ∷ 0x04 ∷ 0x15 ∷ 0x01 ∷ [] }
    ∷ record {
      text = ruled ++ bytes "watch: G([v < 2]); watch: G([i = 1] -> X([v > _v]));";
      image = 0x01 ∷ 0x01 ∷ 0x00 ∷ 0x02 ∷ 0x00 ∷ 0x00 ∷ 0x12 ∷ 0x00 ∷ 0x03 ∷ 0x01 ∷ 0x02 ∷ 0x00 ∷ 0x04 ∷ 0x15 ∷ 0x01 ∷ [];
    }
    -- timers (document 02, A.7): directly after the rule of w; a limit of four groups
    ∷ record {
      text = bytes "input In 0..1; var W 0..1; timer Q of W limit 5000; W: GX(W = (In));";
      image = 0x01 ∷ 0x02 ∷ 0x00 ∷ 0x02 ∷ 0x00 ∷ 0x00 ∷ 0x02 ∷ 0x00 ∷ 0x00 ∷ 0x02 ∷ 0x00 ∷ 0x02 ∷ 0x00 ∷ 0x15 ∷ 0x01 ∷ 0x17 ∷ 0x02 ∷ 0x01 ∷ 0x88 ∷ 0x27 ∷ [];
    }
    ∷ record {
      text = bytes "input i 0..1; var w 0..1; timer t of w limit 2147483647; w: GX(w = (i));";
      image = 0x01 ∷ 0x02 ∷ 0x00 ∷ 0x02 ∷ 0x00 ∷ 0x00 ∷ 0x02 ∷ 0x00 ∷ 0x00 ∷ 0x02 ∷ 0x00 ∷ 0x02 ∷ 0x00 ∷ 0x15 ∷ 0x01 ∷ 0x17 ∷ 0x02 ∷ 0x01 ∷ 0xff ∷ 0xff ∷ 0xff ∷ 0xff ∷ 0x07 ∷ [];
    }
    ∷ record {
      text = bytes "input i 0..1; var w 0..1; var y 0..1; timer t of w limit 3; timer u of y limit 2; y: GX(y = (i)); w: GX(w = (y * u));";
      image = 0x01 ∷ 0x04 ∷ 0x00 ∷ 0x02 ∷ 0x00 ∷ 0x00 ∷ 0x02 ∷ 0x00 ∷ 0x00 ∷ 0x02 ∷ 0x00 ∷ 0x00 ∷ 0x02 ∷ 0x00 ∷ 0x00 ∷ 0x02 ∷ 0x00 ∷ 0x02 ∷ 0x00 ∷ 0x15 ∷ 0x02 ∷ 0x17 ∷ 0x04 ∷ 0x02 ∷ 0x02 ∷ 0x02 ∷ 0x02 ∷ 0x02 ∷ 0x04 ∷ 0x06 ∷ 0x15 ∷ 0x01 ∷ 0x17 ∷ 0x03 ∷ 0x01 ∷ 0x03 ∷ [];
    }
    -- the comparisons
    ∷ record {
      text = bytes "var v 0..1; v:GX(~(v=_v)->[_v<>1&_v<=0&_v<1&0>=_v&1>_v&_v=0]&v=(1));v:GX(v=_v->~([_v<>1&_v<=0&_v<1&0>=_v&1>_v&_v=0]));";
      image = 0x00 ∷ 0x01 ∷ 0x00 ∷ 0x02 ∷ 0x00 ∷ 0x03 ∷ 0x00 ∷ 0x01 ∷ 0x02 ∷ 0x0b ∷ 0x03 ∷ 0x00 ∷ 0x01 ∷ 0x00 ∷ 0x0d ∷ 0x11 ∷ 0x03 ∷ 0x00 ∷ 0x01 ∷ 0x02 ∷ 0x0c ∷ 0x11 ∷ 0x01 ∷ 0x00 ∷ 0x03 ∷ 0x00 ∷ 0x0f ∷ 0x11 ∷ 0x01 ∷ 0x02 ∷ 0x03 ∷ 0x00 ∷ 0x0e ∷ 0x11 ∷ 0x03 ∷ 0x00 ∷ 0x01 ∷ 0x00 ∷ 0x0a ∷ 0x11 ∷ 0x13 ∷ 0x01 ∷ 0x02 ∷ 0x14 ∷ 0x00 ∷ 0x16 ∷ 0x00 ∷ [];
    }
    ∷ []

abbrev images_of : List Latch → List (Answer (List ℕ))
images_of [] = []
images_of (l ∷ ls) = imaged (program_of l.text) ∷ images_of ls

abbrev wanted_images : List Latch → List (Answer (List ℕ))
wanted_images [] = []
wanted_images (l ∷ ls) = accepted l.image ∷ wanted_images ls

latches_computed : images_of latches ≡ wanted_images latches
unfolding opened
latches_computed = refl

images : (ls : List Latch) → images_of ls ≡ wanted_images ls → Every Gives ls
images [] h = tt
images (l ∷ ls) h = (heads h, images ls (tails h))

pub latches_give : Every Gives latches
latches_give = images latches latches_computed
