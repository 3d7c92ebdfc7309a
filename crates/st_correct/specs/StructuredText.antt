-- The claim on Structured Text: it does what the scans of the image do. Document 02, A.4. Assumes nothing.
use Rattle.std.specs.Prelude.{ℕ, ◌≡◌, Bool, List, map, ℤ, length, take}
use Rattle.std.proofs.Math.Option.{some}
use Rattle.limits.specs.Answer.{accepted}
use Rattle.semantics.specs.Program.{Program}
use Rattle.semantics.specs.Formula.{State}
use Rattle.semantics.specs.Shape.{shape_of, state_length}
use Rattle.semantics.specs.Rows.{starts_of, accepted_states, accepted_rows}
use Rattle.grammar.specs.Parse.{program_of}
use Rattle.grammar.specs.Spelled.{names_of}
use Rattle.translate.specs.Services.{translation_of}
use Rattle.scan.specs.Services.{scan_of}
use Rattle.correctness.specs.TraceCorrect.{found}
use Rattle.st.specs.Reading.{program_read}
use Rattle.st.specs.Meaning.{fresh_store, values_in, previous_name, cycle_leaves, cycle_states}
use Rattle.st_program.specs.Written.{program_in_st}
use Rattle.structured_text.specs.Services.{structured_text_of}

-- of a program, its image and the bytes of its Structured Text; `lazy`: whether AND and OR are worked out only as far as needed
pub record SameAsScan (p : Program) (image st : List ℕ) : Type 0 where
  -- the bytes read as this program, and so as no other
  pub reads : program_read st ≡ some (program_in_st p)
  -- before the first cycle names and previous values have the declared starts
  pub starts : values_in (fresh_store (program_in_st p)) (names_of p) ≡ some (starts_of p)
  pub previous_starts : values_in (fresh_store (program_in_st p)) (map previous_name (names_of p)) ≡ some (starts_of p)
  -- Started with the scan's state in names and previous values alike, then given an accepted row's inputs, they leave the same values as the scan.
  pub cycle : (lazy : Bool) (s : State) (row : List ℤ) → (scan_of image s row).answer ≡ accepted tt
      → cycle_leaves lazy st (names_of p) s row ≡ some (record { names = (scan_of image s row).state; previous = (scan_of image s row).state })
  -- Cycle after cycle from there, given the accepted rows, they go through the trace of demand 3.
  pub trace : (lazy : Bool) (lent : State) (rows : List (List ℤ)) → length lent ≡ state_length (shape_of p)
      → cycle_states lazy (program_in_st p) (names_of p) (fresh_store (program_in_st p)) (accepted_rows rows (found image lent rows)) ≡ some (accepted_states (found image lent rows))

-- For a text whose Structured Text was written into a buffer, n bytes, and whose image into another, m bytes.
pub record StCorrect (text buffer room : List ℕ) (n m : ℕ) : Type 0 where
  pub program : Program
  pub parsed : program_of text ≡ accepted program
  pub same : SameAsScan program (take m (translation_of text room).buffer) (take n (structured_text_of text buffer).buffer)
