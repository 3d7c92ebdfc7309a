-- How long the Structured Text of a text is, and the buffer that is long enough. Document 02, A.4. Assumes nothing.
use Rattle.std.specs.Prelude.{ℕ, ◌+◌, ◌*◌, ◌≤◌, ◌≡◌, List, length}
use Rattle.limits.specs.Limits.{buffer_too_short}
use Rattle.limits.specs.Answer.{refused}
use Rattle.semantics.specs.Program.{Program}
use Rattle.grammar.specs.Spelled.{Spelled}
use Rattle.st_program.specs.Written.{st_bytes}
use Rattle.structured_text.specs.Services.{structured_text_of}

-- half of seven times the longest text and 2,620 (40 for each of 64 names, 60 for the two sections)
abbrev pub st_room : ℕ
st_room = 115998

pub record StBound : Type 0 where
  -- For every accepted text, twice the length of its Structured Text is at most seven times the text length plus 2,620.
  pub bound : (text : List ℕ) (p : Program) → Spelled text p → 2 * length (st_bytes p) ≤ 7 * length text + 2620
  -- So a buffer of 115,998 bytes never meets 10.
  pub room : (text buffer : List ℕ) → st_room ≤ length buffer → (place : ℕ) → (structured_text_of text buffer).answer ≡ refused buffer_too_short place → ⊥
