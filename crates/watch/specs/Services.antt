-- The watch service: what it answers and leaves in the report lent to it, for every text, trace and report. Document 02, A.13. Assumes nothing.
use Rattle.std.specs.Prelude.{ℕ, ◌&&◌, cond, List, ◌++◌, map, eqb, ℤ, pos, negsuc, length, drop}
use Rattle.std.proofs.Math.Option.{Option, none, some}
use Rattle.limits.specs.Limits.{report_length, wrong_length}
use Rattle.limits.specs.Answer.{Answer, accepted, refused}
use Rattle.semantics.specs.Program.{Watch, Program}
use Rattle.semantics.specs.Formula.{Trace}
use Rattle.semantics.specs.Shape.{shape_of, state_length, is_trace, traced_states}
use Rattle.watching.specs.Watching.{places_of, first_failure}
use Rattle.grammar.specs.Parse.{program_of}

-- the answer, how many watches there are or a refusal; and the report left
pub record AfterWatch : Type 0 where
  pub answer : Answer ℕ
  pub report : List ℤ

-- The trace place, 0 the start, where it first failed, or that it hasn't: −1, which is no place (the document leaves the number open).
abbrev pub reported : Option ℕ → ℤ
reported none = negsuc 0
reported (some n) = pos n

-- each, in text order
abbrev pub report_of : List Watch → Trace → List ℤ
report_of ws trace = map (λ w. reported (first_failure w (places_of trace))) ws

-- the watches of a program over the states of its trace: the numbers behind theirs stay
abbrev pub watched_states : List Watch → Trace → List ℤ → AfterWatch
watched_states ws trace report = record { answer = accepted (length ws); report = report_of ws trace ++ drop (length ws) report }

-- After the text's errors, 12 as in A.12; a report of another length than 16 is 12 too. Every refusal leaves all lent memory as found.
abbrev pub watched : Answer Program → List ℤ → List ℤ → AfterWatch
watched (refused number place) cells report = record { answer = refused number place; report = report }
watched (accepted p) cells report =
    let all = watched_states p.watches (traced_states (state_length (shape_of p)) cells) report in
    cond (is_trace (state_length (shape_of p)) cells && eqb (length report) report_length) all (record { answer = refused wrong_length 0; report = report })

unfoldable pub watch_of : List ℕ → List ℤ → List ℤ → AfterWatch
watch_of text cells report = watched (program_of text) cells report
