-- What states and rows are held to: their lengths, the starts, what is in range, the states of a lent trace; and what a timer does. The plain scan and the
-- services cite these alike, by the shape of a program or of an image. Document 01, "Values and formulas" and "Who can cause which refusal"; document 02, A.7, A.12 and A.13. Assumes nothing.
use Rattle.std.specs.Prelude.{ℕ, zero, suc, ◌+◌, ◌/◌, ◌%◌, min, Bool, true, false, ◌&&◌, ◌||◌, cond, List, [], ◌∷◌, ◌++◌, map, eqb, ltb, ℤ, pos, negsuc, length, take, drop, set, replicate}
use Rattle.std.specs.Int.Signed.{non_neg}
use Rattle.arith.specs.Values.{eq_z}
use Rattle.semantics.specs.Program.{Range, Timer, Program, ranges_of, first_timer, within}
use Rattle.semantics.specs.Formula.{State, Trace, at}

-- the inputs, the range of each name in declared order, and of each name the limit of its timer, 0 if it is none (an empty list: no timers)
pub record Shape : Type 0 where
  pub inputs : ℕ
  pub ranges : List Range
  pub limits : List ℕ

-- the shape of a program: its timers are the last names
abbrev pub shape_of : Program → Shape
shape_of p =
    record { inputs = p.inputs; ranges = ranges_of p; limits = replicate (first_timer p) 0 ++ map (λ x. x.limit) p.timers }

abbrev pub name_count : Shape → ℕ
name_count k = length k.ranges

abbrev pub is_limit : ℕ → Bool
is_limit zero = false
is_limit (suc n) = true

-- which names are timers
abbrev pub timers_of : Shape → List Bool
timers_of k = map is_limit k.limits

abbrev pub has_timer : List ℕ → Bool
has_timer [] = false
has_timer (n ∷ ls) = is_limit n || has_timer ls

-- ---- states

-- an elapsed time lies in 0..N and starts at 0
abbrev pub time_range : ℕ → Range
time_range n = record { low = pos 0; high = pos n; start = pos 0 }

abbrev pub time_ranges : List ℕ → List Range
time_ranges [] = []
time_ranges (zero ∷ ls) = time_ranges ls
time_ranges (suc n ∷ ls) = time_range (suc n) ∷ time_ranges ls

abbrev pub with_times : List Range → List Range → List Range
with_times ns [] = ns
with_times ns (m ∷ ms) = ns ++ m ∷ ms

-- the range of each number of a state. Each timer adds its elapsed time after the values in the state, by timer id.
abbrev pub cells : Shape → List Range
cells k = with_times k.ranges (time_ranges k.limits)

-- A state is one signed 32-bit number for each name in declared order, then one for each timer.
abbrev pub state_length : Shape → ℕ
state_length k = length (cells k)

-- the declared starts
abbrev pub starting_state : Shape → State
starting_state k = map (λ n. n.start) (cells k)

-- each value lies in the range that stands at its place
abbrev pub all_within : List Range → List ℤ → Bool
all_within [] zs = true
all_within (n ∷ ns) [] = true
all_within (n ∷ ns) (z ∷ zs) = within n z && all_within ns zs

abbrev pub state_in_range : Shape → State → Bool
state_in_range k s = all_within (cells k) s

-- ---- rows

-- A row is one number for each input, and ends with the milliseconds since the last accepted scan if there is any timer.
abbrev pub row_length : Shape → ℕ
row_length k = cond (has_timer k.limits) (k.inputs + 1) k.inputs

-- 13 an input outside its range, or negative milliseconds
abbrev pub row_in_range : Shape → List ℤ → Bool
row_in_range k row =
    cond (has_timer k.limits) (all_within k.ranges (take k.inputs row) && non_neg (at row k.inputs)) (all_within k.ranges row)

-- ---- a lent trace

-- The trace is lent as its states in turn: n of them, each of one length.
abbrev pub states_of : ℕ → ℕ → List ℤ → Trace
states_of zero names cells = []
states_of (suc n) names cells = take names cells ∷ states_of n names (drop names cells)

-- 12 a trace without its start or with a cut state (without names, nothing lent is the start alone)
unfoldable pub is_trace : ℕ → List ℤ → Bool
is_trace names cells = cond (eqb names 0) (eqb (length cells) 0) (ltb 0 (length cells) && eqb (length cells % names) 0)

-- how many states: without names the start alone
unfoldable pub places_in : ℕ → List ℤ → ℕ
places_in names cells = cond (eqb names 0) 1 (length cells / names)

abbrev pub traced_states : ℕ → List ℤ → Trace
traced_states names cells = states_of (places_in names cells) names cells

-- the cells of a trace, its states one behind the other
abbrev pub values_of : Trace → List ℤ
values_of [] = []
values_of (s ∷ ss) = s ++ values_of ss

-- ---- timers

-- What a scan of a row works with: a range for each number of the state, the names that are timers, the milliseconds.
pub record Setting : Type 0 where
  pub ranges : List Range
  pub timers : List Bool
  pub millis : ℕ

-- a count of milliseconds (a negative one is refused before)
abbrev pub millis_of : ℤ → ℕ
millis_of (pos n) = n
millis_of (negsuc n) = 0

abbrev pub setting_of : Shape → List ℤ → Setting
setting_of k row = record { ranges = cells k; timers = timers_of k; millis = millis_of (at row k.inputs) }

abbrev pub count_true : List Bool → ℕ
count_true [] = 0
count_true (true ∷ bs) = suc (count_true bs)
count_true (false ∷ bs) = count_true bs

-- the place of t's elapsed time: after the values, by timer id
abbrev pub time_place : List Bool → ℕ → ℕ
time_place timers t = length timers + count_true (take t timers)

abbrev pub time_cell : Setting → Timer → ℕ
time_cell k x = time_place k.timers x.id

-- If w is 0 or rose from 0 (it is or was 0), elapsed is 0; else the smaller of N and elapsed plus milliseconds.
unfoldable pub elapsed : ℕ → ℕ → ℤ → ℤ → ℤ → ℕ
elapsed ms n before now since = cond (eq_z now (pos 0) || eq_z before (pos 0)) 0 (min n (millis_of since + ms))

-- a timer's elapsed time after the state s, where w is now
abbrev pub new_time : Setting → State → Timer → ℤ → ℤ
new_time k s x now = pos (elapsed k.millis x.limit (at s x.watched) now (at s (time_cell k x)))

-- Then t is 1 exactly if w is 1 and elapsed is N.
unfoldable pub due : ℕ → ℤ → ℤ → ℤ
due n now e = cond (eq_z now (pos 1) && eq_z e (pos n)) (pos 1) (pos 0)

-- a timer at work: s the state before, t the current values
unfoldable pub timed : Setting → State → Timer → State → State
timed k s x t =
    let now = at t x.watched in
    let e = new_time k s x now in
    set (set t (time_cell k x) e) x.id (due x.limit now e)
