-- A whole list of rows in one call: what `replay` answers and leaves in the memory lent to it, and demand 3 of what then stands
-- there. Document 01, "The plain scan and the list of rows". Assumes nothing.
use Rattle.std.specs.Prelude.{ℕ, ◌≤◌, ◌≡◌, List, [], ◌∷◌, map, ℤ, length, take, drop}
use Rattle.std.proofs.lemmas.List.Edits.{sets}
use Rattle.limits.specs.Answer.{Answer, accepted, refused}
use Rattle.semantics.specs.Program.{Program}
use Rattle.semantics.specs.Formula.{State}
use Rattle.semantics.specs.Shape.{shape_of, state_length, values_of}
use Rattle.semantics.specs.Rows.{trace_of, final_state}
use Rattle.grammar.specs.Parse.{program_of}
use Rattle.grammar.specs.Spelled.{Spelled}
use Rattle.translate.specs.Services.{translation_of}
use Rattle.scan.specs.Services.{AfterStart, start_of, AfterScan, scans_of}
use Rattle.correctness.specs.TraceCorrect.{reply_of, begun, found, TraceCorrect}

-- the rows that cells and lengths spell, rows of any length: each takes as many cells as its length says, as far as there are cells
abbrev pub rows_of : List ℤ → List ℕ → List (List ℤ)
rows_of cells [] = []
rows_of cells (n ∷ ns) = take n cells ∷ rows_of (drop n cells) ns

-- ---- what is answered and left

-- the memory lent: the image buffer, the state, and records of the scans, which are stored as far as there is room: for each row 0
-- or the refusal's number, and the steps; and the states of the trace, one behind the other
pub record Lent : Type 0 where
  pub image : List ℕ
  pub state : State
  pub numbers : List ℕ
  pub steps : List ℕ
  pub trace : List ℤ

-- the length of the image, or the refusal of translation or start; and the memory left
pub record AfterReplay : Type 0 where
  pub answer : Answer ℕ
  pub left : Lent

-- 0 for an accepted row
abbrev pub answer_number : AfterScan → ℕ
answer_number a = go a.answer
  where
    go : Answer (Unit {0}) → ℕ
    go (accepted u) = 0
    go (refused number place) = number

abbrev pub steps_of : AfterScan → ℕ
steps_of a = a.steps

-- The trace found is the state after start, then that after each accepted scan.
abbrev pub recorded : Lent → State → List AfterScan → Lent
recorded m s scans =
    record {
      image = m.image;
      state = final_state s (map reply_of scans);
      numbers = sets m.numbers 0 (map answer_number scans);
      steps = sets m.steps 0 (map steps_of scans);
      trace = sets m.trace 0 (values_of (trace_of s (map reply_of scans)));
    }

-- A refused start leaves the state as found, and there is no scan. Else scan is called once for each row, with the image written.
abbrev pub replay_rows : AfterStart → ℕ → List ℕ → List (List ℤ) → Lent → AfterReplay
replay_rows r n image rows m = go r.answer
  where
    go : Answer (Unit {0}) → AfterReplay
    go (accepted u) = record { answer = accepted n; left = recorded m r.state (scans_of image r.state rows) }
    go (refused number place) = record { answer = refused number place; left = m }

abbrev pub with_image : Lent → List ℕ → Lent
with_image m buffer = record { image = buffer; state = m.state; numbers = m.numbers; steps = m.steps; trace = m.trace }

-- A refused text leaves all lent memory as found. Else the image is the first n bytes of the buffer left.
abbrev pub replay_image : Answer ℕ → List ℕ → List (List ℤ) → Lent → AfterReplay
replay_image (accepted n) buffer rows m = replay_rows (start_of (take n buffer) m.state) n (take n buffer) rows (with_image m buffer)
replay_image (refused number place) buffer rows m = record { answer = refused number place; left = m }

unfoldable pub replay_of : List ℕ → List ℤ → List ℕ → Lent → AfterReplay
replay_of text cells lengths m =
    let t = translation_of text m.image in
    replay_image t.answer t.buffer (rows_of cells lengths) m

-- ---- demand 3 of what stands in memory

-- where there is room for them, values stand at the front of memory
abbrev pub StandIn : {A : Type 0} → List A → List A → Type 0
StandIn memory values = length values ≤ length memory → take (length values) memory ≡ values

-- the state after the last row; the trace found; and for each row 0 or the refusal's number, and the steps
pub record Standing (image : List ℕ) (s : State) (rows : List (List ℤ)) (left : Lent) : Type 0 where
  pub last : left.state ≡ final_state (begun image s) (found image s rows)
  pub trace : StandIn left.trace (values_of (trace_of (begun image s) (found image s rows)))
  pub numbers : StandIn left.numbers (map answer_number (scans_of image (begun image s) rows))
  pub steps : StandIn left.steps (map steps_of (scans_of image (begun image s) rows))

-- A replay that was not refused: the text's program, the image in the buffer, a state lent that was of the right length, and the
-- rows. Demand 3 holds of them, and what it speaks of stands in memory.
pub record Shown (text : List ℕ) (cells : List ℤ) (lengths : List ℕ) (before after : Lent) (n : ℕ) : Type 0 where
  pub program : Program
  pub parsed : program_of text ≡ accepted program
  pub spelled : Spelled text program
  pub translated : translation_of text before.image ≡ record { answer = accepted n; buffer = after.image }
  pub sized : length before.state ≡ state_length (shape_of program)
  pub correct : TraceCorrect program (take n after.image) before.state (rows_of cells lengths)
  pub stands : Standing (take n after.image) before.state (rows_of cells lengths) after

-- by the answer: a refusal shows nothing
abbrev pub ShownIf : Answer ℕ → List ℕ → List ℤ → List ℕ → Lent → Lent → Type 0
ShownIf (accepted n) text cells lengths before after = Shown text cells lengths before after n
ShownIf (refused number place) text cells lengths before after = Unit {0}
