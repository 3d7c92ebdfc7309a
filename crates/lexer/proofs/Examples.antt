-- Texts whose tokens are easily read another way, by computation. Assumes nothing.
use mathlib.Core.Path.{◌≡◌, refl}
use mathlib.Core.Bool.{true, false}
use mathlib.Core.List.{[], ◌∷◌}
use Rattle.lexer.specs.Bytes.{bytes, same_bytes, capital, capitals}
use Rattle.lexer.specs.Token.{name, previous, digits, mod_word, other_case, watch_word, always_word, after_word, timer_word, of_word, limit_word, dots, arrow, less_equal, greater_equal, not_equal, less, greater, kind_number, ending, is, token, fault}
use Rattle.lexer.specs.Lexer.{is_space, is_digit, is_letter, is_alphanumeric, run_on, run_end, same_name, grammar_word, exact_word, word_of, over_long, pair_of, sign_of, read_of, sign_at, word_at, digits_at, previous_at, token_of, token_past, token_at, value_on, value_of}

underscores : (token_at (bytes "_modx") 0 ≡ token previous 0 5) × (token_at (bytes "_mod") 0 ≡ fault 0) × (token_at (bytes "a_b") 0 ≡ token name 0 1) × (token_at (bytes "a_b") 1 ≡ token previous 1 3) × (token_at (bytes "_ a") 0 ≡ fault 0) × (token_at (bytes "_1") 0 ≡ fault 0) × (token_at (bytes " _") 0 ≡ fault 1)
unfolding token_at token_past token_of previous_at word_at digits_at sign_at read_of pair_of sign_of word_of grammar_word exact_word same_name capitals capital run_end run_on is_space is_digit is_letter is_alphanumeric is kind_number same_bytes
underscores = (refl, refl, refl, refl, refl, refl, refl)

words_and_digits : (token_at (bytes " mod(") 0 ≡ token mod_word 1 4) × (token_at (bytes "1a") 0 ≡ token digits 0 1) × (token_at (bytes "v0..1") 0 ≡ token name 0 2) × (token_at (bytes "init0") 0 ≡ token name 0 5)
unfolding token_at token_past token_of previous_at word_at digits_at sign_at read_of pair_of sign_of word_of grammar_word exact_word same_name capitals capital run_end run_on is_space is_digit is_letter is_alphanumeric is kind_number same_bytes
words_and_digits = (refl, refl, refl, refl)

signs : (token_at (bytes "...") 0 ≡ token dots 0 2) × (token_at (bytes "...") 2 ≡ fault 2) × (token_at (bytes "1->2") 1 ≡ token arrow 1 3) × (token_at (bytes "<->") 0 ≡ token less 0 1) × (token_at (bytes "<->") 1 ≡ token arrow 1 3) × (token_at (bytes "<=>") 0 ≡ token less_equal 0 2) × (token_at (bytes "<") 0 ≡ token less 0 1) × (token_at (bytes "<>") 0 ≡ token not_equal 0 2) × (token_at (bytes ">=") 0 ≡ token greater_equal 0 2) × (token_at (bytes "> =") 0 ≡ token greater 0 1)
unfolding token_at token_past token_of previous_at word_at digits_at sign_at read_of pair_of sign_of word_of grammar_word exact_word same_name capitals capital run_end run_on is_space is_digit is_letter is_alphanumeric is kind_number same_bytes
signs = (refl, refl, refl, refl, refl, refl, refl, refl, refl, refl)

-- VT, FF, NUL and bytes from 128 on start no token; the four that separate do not either, and stand before the end
other_bytes : (token_at (11 ∷ []) 0 ≡ fault 0) × (token_at (12 ∷ []) 0 ≡ fault 0) × (token_at (0 ∷ []) 0 ≡ fault 0) × (token_at (128 ∷ []) 0 ≡ fault 0) × (token_at (255 ∷ []) 0 ≡ fault 0) × (token_at (32 ∷ 9 ∷ 10 ∷ 13 ∷ []) 0 ≡ token ending 4 4)
unfolding token_at token_past token_of previous_at word_at digits_at sign_at read_of pair_of sign_of word_of grammar_word exact_word same_name capitals capital run_end run_on is_space is_digit is_letter is_alphanumeric is kind_number same_bytes
other_bytes = (refl, refl, refl, refl, refl, refl)

-- a name of 17 bytes is a name, and over-long; leading zeros are free
long_and_zeros : (token_at (bytes "abcdefghijklmnopq") 0 ≡ token name 0 17) × (over_long 0 17 ≡ true) × (over_long 0 16 ≡ false) × (value_of (bytes "00042") ≡ 42) × (value_of (bytes "2147483648") ≡ 2147483648)
unfolding token_at token_past token_of previous_at word_at digits_at sign_at read_of pair_of sign_of word_of grammar_word exact_word same_name capitals capital run_end run_on is_space is_digit is_letter is_alphanumeric is kind_number over_long value_of value_on same_bytes
long_and_zeros = (refl, refl, refl, refl, refl)

-- a word of the grammar in another case is one token of its own kind, no name, and before it `_` is lone
other_cases : (token_at (bytes "MOD") 0 ≡ token other_case 0 3) × (token_at (bytes "gx(") 0 ≡ token other_case 0 2) × (token_at (bytes "Input") 0 ≡ token other_case 0 5) × (token_at (bytes "moda") 0 ≡ token name 0 4) × (token_at (bytes "_Mod") 0 ≡ fault 0) × (token_at (bytes "_MODx") 0 ≡ token previous 0 5) × (same_name (bytes "Run0") (bytes "rUN0") ≡ true) × (same_name (64 ∷ []) (96 ∷ []) ≡ false) × (same_name (91 ∷ []) (123 ∷ []) ≡ false)
unfolding token_at token_past token_of previous_at word_at digits_at sign_at read_of pair_of sign_of word_of grammar_word exact_word same_name capitals capital run_end run_on is_space is_digit is_letter is_alphanumeric is kind_number same_bytes
other_cases = (refl, refl, refl, refl, refl, refl, refl, refl, refl)

-- the words of watches: in another case no names either, and before them `_` is lone
watch_words : (token_at (bytes "watch:") 0 ≡ token watch_word 0 5) × (token_at (bytes " G(") 0 ≡ token always_word 1 2) × (token_at (bytes "X(") 0 ≡ token after_word 0 1) × (token_at (bytes "g(") 0 ≡ token other_case 0 1) × (token_at (bytes "x") 0 ≡ token other_case 0 1) × (token_at (bytes "Watch") 0 ≡ token other_case 0 5) × (token_at (bytes "G1") 0 ≡ token name 0 2) × (token_at (bytes "_x") 0 ≡ fault 0) × (token_at (bytes "_watches") 0 ≡ token previous 0 8)
unfolding token_at token_past token_of previous_at word_at digits_at sign_at read_of pair_of sign_of word_of grammar_word exact_word same_name capitals capital run_end run_on is_space is_digit is_letter is_alphanumeric is kind_number same_bytes
watch_words = (refl, refl, refl, refl, refl, refl, refl, refl, refl)

-- the words of timers: the same
timer_words : (token_at (bytes "timer t") 0 ≡ token timer_word 0 5) × (token_at (bytes " of w") 0 ≡ token of_word 1 3) × (token_at (bytes "limit 1") 0 ≡ token limit_word 0 5) × (token_at (bytes "Timer") 0 ≡ token other_case 0 5) × (token_at (bytes "OF") 0 ≡ token other_case 0 2) × (token_at (bytes "limit1") 0 ≡ token name 0 6) × (token_at (bytes "limits") 0 ≡ token name 0 6) × (token_at (bytes "_timer") 0 ≡ fault 0) × (token_at (bytes "_Of") 0 ≡ fault 0)
unfolding token_at token_past token_of previous_at word_at digits_at sign_at read_of pair_of sign_of word_of grammar_word exact_word same_name capitals capital run_end run_on is_space is_digit is_letter is_alphanumeric is kind_number same_bytes
timer_words = (refl, refl, refl, refl, refl, refl, refl, refl, refl)
