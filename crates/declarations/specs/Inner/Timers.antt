-- What the contracts of the timers' functions say of lent memory: names, and w and N of each timer in two tables by id. Assumes nothing.
use Rattle.std.specs.Prelude.{ℕ, suc, ◌+◌, ◌≤◌, ◌≡◌, List, [], ◌∷◌, ◌++◌, pos, length, get_or, drop}
use Rattle.limits.specs.Limits.{name_limit}
use Rattle.semantics.specs.Program.{Name, Timer, bit_range}
use Rattle.lexer.specs.Token.{of_word, limit_word, semicolon}
use Rattle.grammar.specs.Parsed.{Parsed, accepted, and_then, sign, phrase, followed, item_bound}
use Rattle.grammar.specs.Timers.{WithTimers, watched_at, limit_at, timer_declaration, timers_from}
use Rattle.grammar.specs.Inner.Bytes.{header}
use Rattle.lexer.specs.declared.Place.{Place}
use Rattle.lexer.specs.Results.{Step}
use Rattle.std.specs.Prelude.{Ok}
use Rattle.phrases.specs.Inner.Steps.{nothing, number_told, Writes}
use Rattle.declarations.specs.Inner.Ranges.{range_bytes}
use Rattle.declarations.specs.Inner.Tables.{TableHolds, RangesBehind}

-- the table has names, the first of which are inputs and variables, with their ranges behind them
pub record Watchables (text starts ends : List ℕ) (count first : ℕ) (names : List Name) : Type 0 where
  pub table : TableHolds text starts ends count names
  pub variables : List Name
  pub others : List Name
  pub split : names ≡ variables ++ others
  pub many : length variables ≡ first
  pub stand : RangesBehind text ends 0 variables

-- `of w limit N;` after a timer's name, which is the last of these names: w's id and N
unfoldable pub timer_rest : List ℕ → ℕ → ℕ → List Name → ℕ → Parsed (ℕ × ℕ)
timer_rest text inputs first names at =
    and_then (phrase text (sign of_word ∷ []) at) (λ u n2.
    and_then (watched_at text inputs first names n2) (λ w n3.
    and_then (phrase text (sign limit_word ∷ []) n3) (λ u n4.
    and_then (limit_at text n4) (λ n n5.
    followed text (sign semicolon ∷ []) (w, n) n5))))

abbrev pub timer_told : Place → ℕ × ℕ
timer_told x = (x.number, x.start)

abbrev pub timer_done : ℕ → ℕ → ℕ → Step
timer_done at w n = Ok (record { at = at; kind = 0; start = n; end = at; to = 0; number = w; value = pos 0 })

-- the timers from the id i on: of each w and N
abbrev pub TimersStand : List ℕ → List ℕ → ℕ → List Timer → Type 0
TimersStand watched limits i [] = Unit {0}
TimersStand watched limits i (x ∷ xs) = ((x.id ≡ i) × (get_or watched i 0 ≡ x.watched) × (get_or limits i 0 ≡ x.limit)) × TimersStand watched limits (suc i) xs

-- names and timers, as the tables hold them
pub record TimersHeld (text starts ends watched limits : List ℕ) (first count : ℕ) (x : WithTimers) : Type 0 where
  pub known : Watchables text starts ends count first x.names
  pub timed : TimersStand watched limits first x.timers
  pub as_many : count ≡ first + length x.timers

-- two tables with room for all names
pub record TimerRoom (watched limits : List ℕ) : Type 0 where
  pub in_watched : name_limit ≤ length watched
  pub in_limits_lem : name_limit ≤ length limits

-- a timer: the answer, the header's bytes of its name, and where it is accepted the tables with it
pub record TimerDeclared (text : List ℕ) (inputs first : ℕ) (x : WithTimers) (at to count : ℕ) (before after starts ends watched limits : List ℕ) (r : Step) : Type 0 where
  pub writes : Writes (λ y. range_bytes bit_range) nothing (λ y. tt) (timer_declaration text inputs first x at) to before after r
  pub held : (y : WithTimers) (n : ℕ) → timer_declaration text inputs first x at ≡ accepted y n → TimersHeld text starts ends watched limits first (count + 1) y

-- the bytes of the timers' names
unfoldable pub timers_header : ℕ → WithTimers → List ℕ
timers_header first y = header (drop first y.names)

-- all timers
pub record DeclaresTimers (text : List ℕ) (inputs first : ℕ) (x : WithTimers) (at to : ℕ) (before after starts ends watched limits : List ℕ) (r : Step) : Type 0 where
  pub writes : Writes (timers_header first) number_told (λ y. length y.names) (timers_from item_bound text inputs first x at) to before after r
  pub held : (y : WithTimers) (n : ℕ) → timers_from item_bound text inputs first x at ≡ accepted y n → TimersHeld text starts ends watched limits first (length y.names) y
