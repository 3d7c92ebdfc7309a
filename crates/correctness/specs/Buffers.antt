-- How long the image of a text can be, and the buffer that does for every text (document 02, A.11). It is said of what texts spell,
-- so no form of a rule is named. Assumes nothing.
use Rattle.std.specs.Prelude.{ℕ, ◌+◌, ◌*◌, ◌≤◌, ◌≡◌, List, [], length}
use Rattle.limits.specs.Limits.{buffer_too_short, image_room}
use Rattle.limits.specs.Answer.{refused}
use Rattle.semantics.specs.Program.{Program}
use Rattle.bytecode.specs.Translation.{image_of}
use Rattle.grammar.specs.Spelled.{Spelled}
use Rattle.translate.specs.Services.{translation_of}

-- A text of no bytes, and twice the length of its image.
pub record EmptyText (twice : ℕ) : Type 0 where
  pub program : Program
  pub spelled : Spelled [] program
  pub size : 2 * length (image_of program) ≡ twice

pub record BufferBound : Type 0 where
  -- For every accepted text, twice the image length is at most three times the text length plus 4.
  pub bound : (text : List ℕ) (p : Program) → Spelled text p → 2 * length (image_of p) ≤ 3 * length text + 4
  -- No smaller number than 4 will do: the empty text meets it.
  pub met : EmptyText 4
  -- So a buffer half as long again as the text, and two bytes, never meets 10,
  pub enough : (text buffer : List ℕ) → 3 * length text + 4 ≤ 2 * length buffer → (place : ℕ) → (translation_of text buffer).answer ≡ refused buffer_too_short place → ⊥
  -- and one of 49,154 bytes meets it for no text at all.
  pub room : (text buffer : List ℕ) → image_room ≤ length buffer → (place : ℕ) → (translation_of text buffer).answer ≡ refused buffer_too_short place → ⊥
