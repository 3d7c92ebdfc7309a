-- Demand 2, the claim about texts and images: which texts are accepted, what is written for them, and which images are sound. It
-- is over the definitions that the contracts of translate and check cite. Document 01, "The text", "The image", "Who can cause
-- which refusal". Assumes nothing.
use Rattle.std.specs.Prelude.{ℕ, ◌+◌, ◌*◌, ◌≤◌, ◌<◌, ◌≡◌, List, ◌++◌, length, take, drop}
use Rattle.limits.specs.Limits.{buffer_too_short}
use Rattle.limits.specs.Answer.{Answer, accepted, refused}
use Rattle.semantics.specs.Program.{Program}
use Rattle.bytecode.specs.Translation.{image_of}
use Rattle.bytecode.specs.Check.{check_of}
use Rattle.bytecode.specs.Sound.{Sound}
use Rattle.grammar.specs.Parse as G
use Rattle.grammar.specs.Spelled.{Spelled}
use Rattle.grammar.specs.Accepts.{IsFault}
use Rattle.faults.specs.Texts.{FaultPlaces, FirstFound}
use Rattle.faults.specs.Grammar.{AllowedBefore, NoneGoOn, NoneBegun}
use Rattle.faults.specs.Images.{BrokenImages}
use Rattle.translate.specs.Services.{AfterTranslation}
use Rattle.translate.specs.Services as S

infix 3 ◌exactly_if◌
pub record ◌exactly_if◌ (A B : Type 0) : Type 0 where
  pub only_if : A → B
  pub whenever : B → A

-- The text spells a program, whose image has n bytes and fits the buffer.
pub record Translates (text buffer : List ℕ) (n : ℕ) : Type 0 where
  pub program : Program
  pub spelled : Spelled text program
  pub size : length (image_of program) ≡ n
  pub fits : n ≤ length buffer

-- Why a translation is refused, with the number and the place.
pub data Declines (program_of : List ℕ → Answer Program) (text buffer : List ℕ) : ℕ → ℕ → Type 0 where
  -- the first fault of the text
  faulty : (number place : ℕ) → program_of text ≡ refused number place → Declines program_of text buffer number place
  -- 10 image buffer too short, after a text without fault (place: the text length)
  short : (p : Program) → Spelled text p → length buffer < length (image_of p) → Declines program_of text buffer buffer_too_short (length text)

-- The claim about any two definitions, the programs of texts and the translation: the laws of Caught say which have it not.
pub record Demand2Of (program_of : List ℕ → Answer Program) (translation_of : List ℕ → List ℕ → AfterTranslation) : Type 0 where
  -- A text is accepted, as the program p, exactly if it has document 01's grammar, limits, order and agreement, and spells p.
  pub accepted_exactly : (text : List ℕ) (p : Program) → (program_of text ≡ accepted p) exactly_if Spelled text p
  -- A text means one program at most.
  pub one_meaning : (text : List ℕ) (p q : Program) → Spelled text p → Spelled text q → p ≡ q
  -- Translation succeeds exactly if the text is accepted and its image fits the buffer; it answers the image's length.
  pub translated_exactly : (text buffer : List ℕ) (n : ℕ) → ((translation_of text buffer).answer ≡ accepted n) exactly_if Translates text buffer n
  -- Else it is refused, by the text's first fault or by 10: every text has an image or a refusal.
  pub refused_exactly : (text buffer : List ℕ) (number place : ℕ) → ((translation_of text buffer).answer ≡ refused number place) exactly_if Declines program_of text buffer number place
  -- A fault has one of the numbers 1 to 9, or 23, or 30; its place is in the text, or is the text's length.
  pub faults : (text : List ℕ) (number place : ℕ) → program_of text ≡ refused number place → IsFault number × (place ≤ length text)
  -- Success writes only the image's bytes: those of the program that the text spells, and what stood behind them stays.
  pub written : (text buffer : List ℕ) (n : ℕ) → (translation_of text buffer).answer ≡ accepted n
      → (p : Program) → Spelled text p → (translation_of text buffer).buffer ≡ image_of p ++ drop (length (image_of p)) buffer
  -- Every refusal leaves all lent memory as found.
  pub untouched : (text buffer : List ℕ) (number place : ℕ) → (translation_of text buffer).answer ≡ refused number place
      → (translation_of text buffer).buffer ≡ buffer
  -- Check says sound exactly if the image has the properties of the paragraph "Sound".
  pub checked_exactly : (image : List ℕ) → (check_of image ≡ accepted tt) exactly_if Sound image
  -- What is written is sound, and check says so.
  pub written_sound : (text buffer : List ℕ) (n : ℕ) → (translation_of text buffer).answer ≡ accepted n → Sound (take n (translation_of text buffer).buffer)
  pub written_checked : (text buffer : List ℕ) (n : ℕ) → (translation_of text buffer).answer ≡ accepted n → check_of (take n (translation_of text buffer).buffer) ≡ accepted tt
  -- An image is at most half as long again as its text, and two bytes.
  pub growth : (text buffer : List ℕ) (n : ℕ) → (translation_of text buffer).answer ≡ accepted n → 2 * n ≤ 3 * length text + 4

-- The claim about those that the contracts cite.
abbrev pub Demand2 : Type 0
Demand2 = Demand2Of G.program_of S.translation_of

-- Where and why a text or an image is refused, apart from any way of reading it.
pub record Refusals : Type 0 where
  -- A fault is 9, at 0, exactly if the text is over its limit; 1 stands where no token does; every other at a token or at the end.
  pub fault_places : FaultPlaces
  -- It is the first found: what stands behind its token does not count.
  pub first_found : FirstFound
  -- 2: what stands before its token begins a text of the grammar, and no text of the grammar goes on with that token.
  pub allowed_before : AllowedBefore
  pub none_go_on : NoneGoOn
  -- What stands up to a refused token, that token included, begins no accepted text.
  pub none_begun : NoneBegun
  -- Check answers 11 exactly with the place of the first header number or instruction that breaks soundness, or the image length.
  pub broken_images : BrokenImages
