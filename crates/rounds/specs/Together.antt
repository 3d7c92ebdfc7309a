-- The answers of a round as 64-bit numbers, and what a round leaves in the memory lent to it. Document 02, A.9. Assumes nothing.
use Rattle.std.specs.Prelude.{ℕ, List, [], ◌∷◌, ℤ}
use Rattle.std.proofs.lemmas.List.Edits.{sets}
use Rattle.limits.specs.Limits.{out_of_share}
use Rattle.paused.specs.declared.Response.{Response}
use Rattle.paused.specs.Responses.{packed_response}
use Rattle.rounds.specs.Visits.{AfterRound, round_from, Rounded, out_of_limit, visits, round_of}

-- one number a visit
abbrev pub answers_of : List Response → List ℕ
answers_of [] = []
answers_of (r ∷ rs) = packed_response r ∷ answers_of rs

-- the memories, the states and the answers, each lent together
pub record Together : Type 0 where
  pub paused : List ℤ
  pub states : List ℤ
  pub answers : List ℕ

abbrev pub together : List ℤ → List ℤ → List ℕ → Together
together paused states answers = record { paused = paused; states = states; answers = answers }

-- the answers are stored from place i on, as far as there is room
abbrev pub left_together : AfterRound → ℕ → List ℕ → Together
left_together r i answers = together r.paused r.states (sets answers i (answers_of r.replies))

abbrev pub visits_of : List ℕ → List ℕ → ℕ → Together → Together
visits_of table images i m = left_together (round_from table images m.paused m.states) i m.answers

-- 0, or 25 before any visit, and then nothing moves
pub record AfterRoundCall : Type 0 where
  pub number : ℕ
  pub left : Together

abbrev pub rounded : ℕ → Together → AfterRoundCall
rounded n m = record { number = n; left = m }

abbrev pub rounded_by : Rounded → Together → AfterRoundCall
rounded_by out_of_limit m = rounded out_of_share m
rounded_by (visits r) m = rounded 0 (left_together r 0 m.answers)

unfoldable pub call_of : List ℕ → List ℕ → Together → AfterRoundCall
call_of table images m = rounded_by (round_of table images m.paused m.states) m
