-- Timers, as the translator holds them: of each, by its id, w and N in two tables. Assumes nothing.
use Rattle.std.specs.Prelude.{ℕ, zero, suc, ◌+◌, ◌-◌, ◌≤◌, ◌<◌, ◌≡◌, List, [], ◌∷◌, leb, length, get_or}
use Rattle.std.proofs.lemmas.List.Edits.{sets}
use Rattle.arith.specs.Inner.Flags.{flags_of}
use Rattle.semantics.specs.Program.{Timer, is_timer, timers_known}
use Rattle.grammar.specs.Inner.Bytes.{bytes_t}
use Rattle.rules.specs.declared.timers.Behind.{Behind}

-- n timers, from the id i on
unfoldable pub table_timers : List ℕ → List ℕ → ℕ → ℕ → List Timer
table_timers watched limits i zero = []
table_timers watched limits i (suc n) = record { id = i; watched = get_or watched i 0; limit = get_or limits i 0 } ∷ table_timers watched limits (suc i) n

-- the names from the id `first` on are timers
abbrev pub timers_in : List ℕ → List ℕ → ℕ → ℕ → List Timer
timers_in watched limits first count = table_timers watched limits first (count - first)

-- of so many names
abbrev pub TimersFrom : ℕ → ℕ → List Timer → Type 0
TimersFrom first count ts = (v : ℕ) → v < count → is_timer ts v ≡ leb first v

-- two tables with room for all names
pub record TimerTables (watched limits : List ℕ) (count : ℕ) : Type 0 where
  pub in_watched : count ≤ length watched
  pub in_limits_lem : count ≤ length limits

-- the timers ts of v are put: their current values may be used, and their bytes are written
pub record TimersPut (ts : List Timer) (v count known to : ℕ) (before after : List ℕ) (r : Behind) : Type 0 where
  pub usable : flags_of count r.known ≡ timers_known v ts (flags_of count known)
  pub ended : r.to ≡ to + length (bytes_t v ts)
  pub wrote : after ≡ sets before to (bytes_t v ts)
