-- Timers at work, as one table under one statement. Document 02, A.7. Assumes nothing.
use Rattle.std.specs.Prelude.{ℕ, ◌≡◌, List, [], ◌∷◌, ℤ, pos, negsuc}
use Rattle.arith.specs.Values.{ok, refusal, multiply}
use Rattle.semantics.specs.Program.{Name, current, operation, function, Program, bit_range}
use Rattle.semantics.specs.Formula.{State}
use Rattle.semantics.specs.Rows.{Reply, reference_replies, starts_of}

-- a program, a state, the rows, and what the plain scan answers and leaves at each
pub record TimedExample : Type 0 where
  pub program : Program
  pub first : State
  pub rows : List (List ℤ)
  pub replies : List Reply

abbrev pub TimedHolds : TimedExample → Type 0
TimedHolds e = reference_replies e.program e.first e.rows ≡ e.replies

abbrev pub AllTimed : List TimedExample → Type 0
AllTimed [] = Unit {0}
AllTimed (e ∷ es) = TimedHolds e × AllTimed es

-- ---- the table

abbrev pub accepted_as : State → Reply
accepted_as s = record { verdict = ok tt; state = s }

abbrev pub refused_as : ℕ → State → Reply
refused_as k s = record { verdict = refusal k; state = s }

abbrev pub timed_row : ℤ → ℤ → List ℤ
timed_row i ms = i ∷ ms ∷ []

abbrev pub bit_name : ℕ → Name
bit_name letter = record { spelling = letter ∷ []; range = bit_range }

-- `input I 0..1; var W 0..1; timer Q of W limit N; W: GX(W = (I));`
abbrev pub ton : ℕ → Program
ton n = record {
  inputs = 1;
  names = bit_name 73 ∷ bit_name 87 ∷ bit_name 81 ∷ [];
  timers = record { id = 2; watched = 1; limit = n } ∷ [];
  rules = function 1 (current 0) ∷ [];
  watches = [];
}

-- I, W, Q, and the elapsed time of Q
abbrev pub four : ℤ → ℤ → ℤ → ℤ → State
four i w q e = i ∷ w ∷ q ∷ e ∷ []

abbrev pub all_zero : State
all_zero = four (pos 0) (pos 0) (pos 0) (pos 0)

-- the delay on start, twice
abbrev pub delays : TimedExample
delays = record {
  program = ton 5000;
  first = starts_of (ton 5000);
  rows = timed_row (pos 0) (pos 100) ∷ timed_row (pos 1) (pos 100) ∷ timed_row (pos 1) (pos 4999) ∷ timed_row (pos 1) (pos 1) ∷ timed_row (pos 1) (pos 100) ∷ timed_row (pos 0) (pos 100) ∷ timed_row (pos 1) (pos 9000) ∷ timed_row (pos 1) (pos 5000) ∷ timed_row (pos 0) (pos 0) ∷ [];
  replies =
      accepted_as all_zero ∷ accepted_as (four (pos 1) (pos 1) (pos 0) (pos 0)) ∷ accepted_as (four (pos 1) (pos 1) (pos 0) (pos 4999)) ∷ accepted_as (four (pos 1) (pos 1) (pos 1) (pos 5000)) ∷ accepted_as (four (pos 1) (pos 1) (pos 1) (pos 5000)) ∷ accepted_as all_zero
      ∷ accepted_as (four (pos 1) (pos 1) (pos 0) (pos 0)) ∷ accepted_as (four (pos 1) (pos 1) (pos 1) (pos 5000)) ∷ accepted_as all_zero ∷ [];
}

-- rows of wrong length, a negative time, an input outside its range; the elapsed time stays
abbrev pub refused_times : TimedExample
refused_times = record {
  program = ton 5000;
  first = four (pos 1) (pos 1) (pos 0) (pos 7);
  rows = (pos 1 ∷ []) ∷ (pos 1 ∷ pos 0 ∷ pos 0 ∷ []) ∷ timed_row (pos 1) (negsuc 0) ∷ timed_row (pos 2) (pos 0) ∷ timed_row (pos 1) (pos 0) ∷ [];
  replies = refused_as 12 (four (pos 1) (pos 1) (pos 0) (pos 7)) ∷ refused_as 12 (four (pos 1) (pos 1) (pos 0) (pos 7)) ∷ refused_as 13 (four (pos 1) (pos 1) (pos 0) (pos 7)) ∷ refused_as 13 (four (pos 1) (pos 1) (pos 0) (pos 7)) ∷ accepted_as (four (pos 1) (pos 1) (pos 0) (pos 7)) ∷ [];
}

-- one row from a state of one's own
abbrev pub one_row : ℕ → State → List ℤ → State → TimedExample
one_row n s r t = record { program = ton n; first = s; rows = r ∷ []; replies = accepted_as t ∷ [] }

abbrev pub largest : ℕ
largest = 2147483647

-- `input i 0..1; var w 0..1; var x 0..1; timer t of w limit 3; timer u of x limit 2; x: GX(x = (i)); w: GX(w = (x * u));`
abbrev pub chained : Program
chained = record {
  inputs = 1;
  names = bit_name 105 ∷ bit_name 119 ∷ bit_name 120 ∷ bit_name 116 ∷ bit_name 117 ∷ [];
  timers = record { id = 3; watched = 1; limit = 3 } ∷ record { id = 4; watched = 2; limit = 2 } ∷ [];
  rules = function 2 (current 0) ∷ function 1 (operation multiply (current 2) (current 4)) ∷ [];
  watches = [];
}

abbrev pub seven : ℤ → ℤ → ℤ → ℤ → ℤ → ℤ → ℤ → State
seven i w x t u e f = i ∷ w ∷ x ∷ t ∷ u ∷ e ∷ f ∷ []

abbrev pub in_turn : TimedExample
in_turn = record {
  program = chained;
  first = starts_of chained;
  rows = timed_row (pos 1) (pos 5) ∷ timed_row (pos 1) (pos 1) ∷ timed_row (pos 1) (pos 1) ∷ timed_row (pos 1) (pos 1) ∷ timed_row (pos 1) (pos 1) ∷ timed_row (pos 1) (pos 1) ∷ [];
  replies =
      accepted_as (seven (pos 1) (pos 0) (pos 1) (pos 0) (pos 0) (pos 0) (pos 0)) ∷ accepted_as (seven (pos 1) (pos 0) (pos 1) (pos 0) (pos 0) (pos 0) (pos 1)) ∷ accepted_as (seven (pos 1) (pos 1) (pos 1) (pos 0) (pos 1) (pos 0) (pos 2))
      ∷ accepted_as (seven (pos 1) (pos 1) (pos 1) (pos 0) (pos 1) (pos 1) (pos 2)) ∷ accepted_as (seven (pos 1) (pos 1) (pos 1) (pos 0) (pos 1) (pos 2) (pos 2)) ∷ accepted_as (seven (pos 1) (pos 1) (pos 1) (pos 1) (pos 1) (pos 3) (pos 2)) ∷ [];
}

abbrev pub timed_examples : List TimedExample
timed_examples =
    delays ∷ refused_times ∷ one_row 5000 (four (pos 0) (pos 1) (pos 0) (pos 5000)) (timed_row (pos 1) (pos 0)) (four (pos 1) (pos 1) (pos 1) (pos 5000))
    ∷ one_row 5000 (four (pos 1) (pos 1) (pos 1) (pos 4999)) (timed_row (pos 1) (pos 0)) (four (pos 1) (pos 1) (pos 0) (pos 4999))
    ∷ one_row 5000 (four (pos 1) (pos 0) (pos 1) (pos 5000)) (timed_row (pos 1) (pos 7)) (four (pos 1) (pos 1) (pos 0) (pos 0))
    ∷ one_row 5000 (four (pos 1) (pos 1) (pos 0) (pos 1)) (timed_row (pos 1) (pos largest)) (four (pos 1) (pos 1) (pos 1) (pos 5000))
    ∷ one_row largest (four (pos 1) (pos 1) (pos 0) (pos 2147483646)) (timed_row (pos 1) (pos largest)) (four (pos 1) (pos 1) (pos 1) (pos largest))
    ∷ one_row largest (four (pos 1) (pos 1) (pos 0) (pos 1)) (timed_row (pos 1) (pos 2147483645)) (four (pos 1) (pos 1) (pos 0) (pos 2147483646)) ∷ in_turn ∷ []
