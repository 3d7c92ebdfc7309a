-- The scans of a list of rows as the running code records them: auxiliary definitions for proofs. Assumes nothing.
use Rattle.std.specs.Prelude.{ℕ, ◌+◌, ◌≤◌, min, ◌≡◌, List, [], ◌∷◌, ℤ, length, set}
use Rattle.std.proofs.lemmas.List.Edits.{sets}
use Rattle.limits.specs.Limits.{stack_limit}
use Rattle.limits.specs.Answer.{Answer, accepted, refused}
use Rattle.semantics.specs.Formula.{State}
use Rattle.scan.specs.Services.{AfterScan, scan_of}
use Rattle.shapes.specs.declared.Measured.{Measured}
use Rattle.before.specs.Inner.Known.{KnownImage}
use Rattle.replay.specs.Replay.{answer_number}

-- the memory that scans and their records are written to, and the place behind the trace so far, no further than there is room
pub record Records : Type 0 where
  pub state : State
  pub numbers : List ℕ
  pub steps : List ℕ
  pub trace : List ℤ
  pub place : ℕ

abbrev pub records : State → List ℕ → List ℕ → List ℤ → ℕ → Records
records s numbers steps trace place = record { state = s; numbers = numbers; steps = steps; trace = trace; place = place }

-- the values that a scan adds to the trace
abbrev pub added_by : Answer (Unit {0}) → State → State
added_by (accepted u) s = s
added_by (refused number place) s = []

-- what is recorded of the scan of row i
unfoldable pub record_scan : ℕ → AfterScan → Records → Records
record_scan i a m =
    record {
      state = a.state;
      numbers = set m.numbers i (answer_number a);
      steps = set m.steps i a.steps;
      trace = sets m.trace m.place (added_by a.answer a.state);
      place = min (m.place + length (added_by a.answer a.state)) (length m.trace);
    }

-- rows from row i on, each scanned on the state that the scan before left
abbrev pub scan_rows : List ℕ → ℕ → List (List ℤ) → Records → Records
scan_rows image i [] m = m
scan_rows image i (r ∷ rs) m = scan_rows image (i + 1) rs (record_scan i (scan_of image m.state r) m)

-- ---- an image whose shape was read

-- it is sound, and what was read of it is at hand; as many current values as the state has numbers, and room for the values held
pub record KnownBy (image : List ℕ) (m : Measured) (low high work vals state : List ℤ) : Type 0 where
  pub image_known : KnownImage image m state low high
  pub copies : length work ≡ length state
  pub stack : stack_limit ≤ length vals
