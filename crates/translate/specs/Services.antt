-- The translate service: what it answers and leaves in the buffer lent to it, for every text and every buffer. Document 01, "Who
-- can cause which refusal". Assumes nothing.
use Rattle.std.specs.Prelude.{ℕ, cond, List, ◌++◌, leb, length, drop}
use Rattle.limits.specs.Limits.{buffer_too_short}
use Rattle.limits.specs.Answer.{Answer, accepted, refused}
use Rattle.semantics.specs.Program.{Program}
use Rattle.bytecode.specs.Translation.{image_of}
use Rattle.grammar.specs.Parse.{program_of}

-- the answer, the image's length or a refusal; and the buffer left
pub record AfterTranslation : Type 0 where
  pub answer : Answer ℕ
  pub buffer : List ℕ

-- 10 image buffer too short, after a text without fault (place: the text length). Success writes only the image's bytes.
abbrev pub stored : List ℕ → List ℕ → List ℕ → AfterTranslation
stored text image buffer =
    cond (leb (length image) (length buffer))
    (record { answer = accepted (length image); buffer = image ++ drop (length image) buffer })
    (record { answer = refused buffer_too_short (length text); buffer = buffer })

-- Every refusal leaves all lent memory as found.
abbrev pub translated : Answer Program → List ℕ → List ℕ → AfterTranslation
translated (accepted p) text buffer = stored text (image_of p) buffer
translated (refused number place) text buffer = record { answer = refused number place; buffer = buffer }

unfoldable pub translation_of : List ℕ → List ℕ → AfterTranslation
translation_of text buffer = translated (program_of text) text buffer
