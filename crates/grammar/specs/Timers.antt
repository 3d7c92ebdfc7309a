-- Timers. Document 02, A.7: `timer t of w limit N;` stands after the variables. Assumes nothing.
use Rattle.std.specs.Prelude.{ℕ, zero, suc, Bool, ◌&&◌, cond, List, [], ◌∷◌, ◌++◌, map, length, ltb, leb}
use Rattle.limits.specs.Limits.{time_limit, not_allowed, out_of_limit, wrong_timer}
use Rattle.lexer.specs.Bytes.{part}
use Rattle.lexer.specs.Token.{name, digits, timer_word, of_word, limit_word, semicolon, is}
use Rattle.lexer.specs.Lexer.{token_at, value_of}
use Rattle.semantics.specs.Program.{Name, Timer, range_at, bit_range, is_binary}
use Rattle.grammar.specs.Parsed.{Parsed, accepted, refused, and_then, on_token, sign, phrase, followed}
use Rattle.grammar.specs.Expressions.{with_id}
use Rattle.grammar.specs.Declarations.{spellings, new_name}

-- t is a name of range 0..1, starting at 0
abbrev pub timer_name : List ℕ → Name
timer_name w = record { spelling = w; range = bit_range }

-- the names declared so far, inputs and variables before timers, and the timers
pub record WithTimers : Type 0 where
  pub names : List Name
  pub timers : List Timer

-- of names with so many inputs, and the first timer's id: i is a `var` of range 0..1
unfoldable pub is_watchable : ℕ → ℕ → List Name → ℕ → Bool
is_watchable inputs first names i = leb inputs i && ltb i first && is_binary (range_at (map (λ x. x.range) names) i)

-- w, one of the names declared so far, t among them: 23 unless it is a `var` of range 0..1
unfoldable pub watched_at : List ℕ → ℕ → ℕ → List Name → ℕ → Parsed ℕ
watched_at text inputs first names at =
    on_token (token_at text at)
    (λ k s n.
    let found = with_id (record { text = text; names = spellings names; known = [] }) s s n (λ i. cond (is_watchable inputs first names i) (accepted i n) (refused wrong_timer s)) in
    cond (is k name) found (refused not_allowed s))

-- N from 1 to 2,147,483,647: any other is 3 at its digits
unfoldable pub limit_at : List ℕ → ℕ → Parsed ℕ
limit_at text at =
    on_token (token_at text at)
    (λ k s n.
    let v = value_of (part text s n) in
    let tested = cond (leb 1 v && leb v time_limit) (accepted v n) (refused out_of_limit s) in
    cond (is k digits) tested (refused not_allowed s))

-- `t of w limit N;` after `timer`
unfoldable pub timer_declaration : List ℕ → ℕ → ℕ → WithTimers → ℕ → Parsed WithTimers
timer_declaration text inputs first x at =
    and_then (new_name text x.names at) (λ t n1.
    and_then (phrase text (sign of_word ∷ []) n1) (λ u n2.
    and_then (watched_at text inputs first (x.names ++ (timer_name t ∷ [])) n2) (λ w n3.
    and_then (phrase text (sign limit_word ∷ []) n3) (λ u n4.
    and_then (limit_at text n4) (λ n n5.
    followed text (sign semicolon ∷ []) (record { names = x.names ++ (timer_name t ∷ []); timers = x.timers ++ (record { id = length x.names; watched = w; limit = n } ∷ []) }) n5)))))

-- timers, after the names and timers so far. The 65th name is refused, so `item_bound` of them are enough
unfoldable pub timers_from : ℕ → List ℕ → ℕ → ℕ → WithTimers → ℕ → Parsed WithTimers
timers_from zero text inputs first x at = accepted x at
timers_from (suc f) text inputs first x at =
    on_token (token_at text at)
    (λ k s n.
    let more = and_then (timer_declaration text inputs first x n) (λ y m. timers_from f text inputs first y m) in
    cond (is k timer_word) more (accepted x at))
