-- A whole text. Document 01, "The text" and "Who can cause which refusal"; document 02, A.7, A.13. Assumes nothing.
use Rattle.std.specs.Prelude.{Bool, cond, ℕ, List, [], length, ltb}
use Rattle.limits.specs.Limits.{text_limit, watch_limit, not_allowed, wrong_rule, too_long}
use Rattle.limits.specs.Answer.{Answer}
use Rattle.limits.specs.Answer as A
use Rattle.lexer.specs.Token.{ending, input_word, var_word, is}
use Rattle.lexer.specs.Lexer.{token_at}
use Rattle.semantics.specs.Program.{Program, all_true, known_first, free}
use Rattle.grammar.specs.Parsed.{Parsed, accepted, refused, and_then, on_token, item_bound}
use Rattle.grammar.specs.Declarations.{declarations, spellings}
use Rattle.grammar.specs.Timers.{timers_from}
use Rattle.grammar.specs.Rules.{rules_from}
use Rattle.grammar.specs.Watches.{watches_from}

-- the end of the text: 6 if a variable has no rule
unfoldable pub end_at : List ℕ → List Bool → ℕ → Parsed (Unit {0})
end_at text known at =
    on_token (token_at text at)
    (λ k s n. cond (is k ending) (cond (all_true known) (accepted tt n) (refused wrong_rule s)) (refused not_allowed s))

-- all inputs, then all variables, then all timers, then the rules, then at most 16 watches, which may use any current and previous value
unfoldable pub program : List ℕ → Parsed Program
program text =
    and_then (declarations input_word text [] 0) (λ inputs n1.
    and_then (declarations var_word text inputs n1) (λ names n2.
    and_then (timers_from item_bound text (length inputs) (length names) (record { names = names; timers = [] }) n2) (λ x n3.
    and_then (rules_from item_bound x.timers (record { text = text; names = spellings x.names; known = known_first (length inputs) (length x.names) }) [] n3) (λ r n4.
    and_then (watches_from watch_limit (record { text = text; names = spellings x.names; known = free (length x.names) }) [] n4) (λ watches n5.
    and_then (end_at text r.known n5) (λ u n6.
    accepted (record { inputs = length inputs; names = x.names; timers = x.timers; rules = r.rules; watches = watches }) n6))))))

-- 9 for a text over its limit, at place 0, before all else
unfoldable pub parse : List ℕ → Parsed Program
parse text = let read = program text in cond (ltb text_limit (length text)) (refused too_long 0) read

-- the answer to a text: its program, or the number and place of the first refusal
abbrev pub answer_of : Parsed Program → Answer Program
answer_of (accepted p n) = A.accepted p
answer_of (refused number place) = A.refused number place

unfoldable pub program_of : List ℕ → Answer Program
program_of text = answer_of (parse text)
