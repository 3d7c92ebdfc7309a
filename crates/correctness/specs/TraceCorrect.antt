-- Demand 3, a single claim about a whole list of rows. Document 01, "The plain scan and the list of rows"; document 02, A.7. Assumes nothing.
use Rattle.std.specs.Prelude.{ℕ, ◌≡◌, List, [], ◌∷◌, map, ℤ, length, take}
use Rattle.limits.specs.Answer.{Answer, accepted, refused}
use Rattle.arith.specs.Values.{Outcome, ok, refusal}
use Rattle.semantics.specs.Program.{Program}
use Rattle.semantics.specs.Formula.{State, Satisfies}
use Rattle.semantics.specs.Shape.{shape_of, state_length}
use Rattle.semantics.specs.Rows.{Reply, reference_replies, starts_of, accepted_states, accepted_rows, trace_of, final_state, last_place, Fits, Timed}
use Rattle.bytecode.specs.Parts.{instructions_in}
use Rattle.grammar.specs.Parse.{program_of}
use Rattle.grammar.specs.Spelled.{Spelled}
use Rattle.translate.specs.Services.{translation_of}
use Rattle.scan.specs.Services.{start_of, AfterScan, scans_of}

-- acceptance or a refusal's number
abbrev pub verdict_of : Answer (Unit {0}) → Outcome (Unit {0})
verdict_of (accepted u) = ok tt
verdict_of (refused number place) = refusal number

abbrev pub reply_of : AfterScan → Reply
reply_of a = record { verdict = verdict_of a.answer; state = a.state }

abbrev pub replies_of : List ℕ → State → List (List ℤ) → List Reply
replies_of image s rows = map reply_of (scans_of image s rows)

-- the steps of each accepted scan are n
abbrev pub StepsIf : ℕ → ℕ → Answer (Unit {0}) → Type 0
StepsIf n steps (accepted u) = steps ≡ n
StepsIf n steps (refused number place) = Unit {0}

abbrev pub StepsAre : ℕ → List AfterScan → Type 0
StepsAre n [] = Unit {0}
StepsAre n (a ∷ more) = StepsIf n a.steps a.answer × StepsAre n more

-- the state after start, and what the scans from there show
abbrev pub begun : List ℕ → State → State
begun image lent = (start_of image lent).state

abbrev pub found : List ℕ → State → List (List ℤ) → List Reply
found image lent rows = replies_of image (begun image lent) rows

-- The claim about an image of the program p, a state lent to start, and rows of any length and any numbers.
pub record TraceCorrect (p : Program) (image : List ℕ) (lent : State) (rows : List (List ℤ)) : Type 0 where
  -- start succeeds; the trace's first values are the declared starts
  pub started : start_of image lent ≡ record { answer = accepted tt; state = starts_of p }
  -- the trace found satisfies every formula
  pub satisfies : Satisfies p (trace_of (begun image lent) (found image lent rows))
  -- its states are of the program's length and have the accepted rows' inputs
  pub fits : Fits p (accepted_rows rows (found image lent rows)) (accepted_states (found image lent rows))
  -- its elapsed times and timers have the timers' equations
  pub timed : Timed p (accepted_rows rows (found image lent rows)) (begun image lent) (accepted_states (found image lent rows))
  -- no other trace does: as many states with the same first one and, at each later place, the inputs of the accepted row
  pub unique : (others : List State) → Fits p (accepted_rows rows (found image lent rows)) others → Satisfies p (begun image lent ∷ others)
      → Timed p (accepted_rows rows (found image lent rows)) (begun image lent) others → others ≡ accepted_states (found image lent rows)
  -- for every row, the plain scan's answer and the state it leaves are equal to those of scan
  pub agrees : found image lent rows ≡ reference_replies p (starts_of p) rows
  -- the state left is the trace's last place
  pub last : final_state (begun image lent) (found image lent rows) ≡ last_place (begun image lent) (accepted_states (found image lent rows))
  -- the steps of an accepted scan are as many as the instructions in the code
  pub steps : StepsAre (instructions_in image) (scans_of image (begun image lent) rows)

-- Demand 3 for a text whose translation into a buffer succeeded with n bytes: the image is the first n bytes of the buffer left,
-- and start is lent a state of the right length with any values. That the translation succeeded is the premise of `trace_correct`, not a
-- field.
pub record Demand3 (text buffer : List ℕ) (n : ℕ) (lent : State) (rows : List (List ℤ)) : Type 0 where
  pub program : Program
  pub parsed : program_of text ≡ accepted program
  -- its formulas are those that the text spells
  pub spelled : Spelled text program
  pub correct : length lent ≡ state_length (shape_of program) → TraceCorrect program (take n (translation_of text buffer).buffer) lent rows
