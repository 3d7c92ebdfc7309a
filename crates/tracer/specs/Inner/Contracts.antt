-- What the contracts of this crate say of answers and lent memory. Assumes nothing.
use Rattle.std.specs.Prelude.{ℕ, ◌+◌, ◌≤◌, ◌<◌, ◌≡◌, List, ◌++◌, ℤ, length, take}
use Rattle.limits.specs.Limits.{state_limit}
use Rattle.limits.specs.Answer as A
use Rattle.semantics.specs.Program.{Program}
use Rattle.semantics.specs.Formula.{State}
use Rattle.semantics.specs.Shape.{shape_of, state_length}
use Rattle.semantics.specs.Rows.{starts_of}
use Rattle.bytecode.specs.Translation.{image_of}
use Rattle.lexer.specs.Names.{table_names}
use Rattle.grammar.specs.Parsed.{accepted}
use Rattle.grammar.specs.Parse.{parse, program_of}
use Rattle.grammar.specs.Declarations.{spellings}
use Rattle.tracer.specs.declared.Tracer.{Tracer}
use Rattle.tracer.specs.Printed.{opening}
use Rattle.tracer.specs.Session.{text_room, Session, session_of, behind_text, fed_over, put_over, taken_of}

-- the memory that the program keeps: room for one byte more than a text may have, for any image, any state and any row handed to scan
pub record Memory (text image : List ℕ) (s cells : List ℤ) : Type 0 where
  pub in_text_lem : length text ≡ text_room
  pub in_image : 49154 ≤ length image
  pub in_state : length s ≡ state_limit
  pub in_cells : 65 ≤ length cells

-- bytes put whole behind the first `at` of a buffer, up to `behind`
pub record PutWhole (before : List ℕ) (at : ℕ) (put after : List ℕ) (behind : ℕ) : Type 0 where
  pub bytes : take behind after ≡ take at before ++ put
  pub place : behind ≡ at + length put
  pub inside : behind ≤ length after

-- a text that was accepted, its image's length, the table with its names, and its state's length
pub record AcceptedText (text starts ends : List ℕ) (size names width : ℕ) : Type 0 where
  pub program : Program
  pub place : ℕ
  pub parsed : parse text ≡ accepted program place
  pub sized : size ≡ length (image_of program)
  pub counted : names ≡ length program.names
  pub spelled : table_names text starts ends names ≡ spellings program.names
  pub states : width ≡ state_length (shape_of program)

-- image and state of a text that was accepted, and the bytes put out
pub record Begins (image : List ℕ) (s : State) (out : List ℕ) (p : Program) : Type 0 where
  pub image_is : image ≡ image_of p
  pub state_is : s ≡ starts_of p
  pub printed_is : out ≡ opening (A.accepted p)

-- the text has been read: the program stands behind it, and its opening is put out
pub record Opens (text image : List ℕ) (s : State) (out : List ℕ) (tracer : Tracer) (put : ℕ) : Type 0 where
  pub session : (buffer : List ℕ) (cells : List ℤ) → session_of tracer buffer image s cells ≡ behind_text (program_of text) cells
  pub output : take put out ≡ opening (program_of text)
  pub inside : put ≤ length out

-- the bytes that a call takes of a part, where the program then stands, and the bytes put out
pub record Takes (room : ℕ) (before : Session) (part : List ℕ) (taken : ℕ) (after : Session) (out : List ℕ) (put : ℕ) : Type 0 where
  pub count : taken ≡ taken_of room before part
  pub session : after ≡ fed_over before (take taken part)
  pub output : take put out ≡ put_over before (take taken part)
  -- every call that is given a byte takes one
  pub some : 0 < length part → 0 < taken
  pub within : taken ≤ length part
  pub inside : put ≤ length out
