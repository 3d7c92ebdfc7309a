-- Document 01, c: whoever refuses every text, or writes a single image, does not meet demand 2. The empty text and L2 tell it, whose
-- images are in the table of worked examples. Assumes nothing.
use Prim.Native.Nat.{ℕ}
use native.Mathlib.Omega.{arith}
use mathlib.Core.Path.{◌≡◌, refl, sym, ap, ◌∙◌}
use mathlib.Core.List.{List, [], ◌∷◌}
use lib.ListN.{length, take, drop, replicate}
use lib.Seq.{take-append_seam}
use Rattle.limits.specs.Answer.{Answer, accepted, refused}
use Rattle.semantics.specs.Program.{Program}
use Rattle.lexer.specs.Bytes.{bytes}
use Rattle.bytecode.specs.Translation.{image_of}
use Rattle.grammar.specs.Spelled.{Spelled}
use Rattle.grammar.proofs.ConverseText.{accepted_exactly}
use Rattle.translate.specs.Services as S
use Rattle.translate.specs.Services.{AfterTranslation}
use Rattle.translate.proofs.Kept.{image_stored, stored_image}
use Rattle.correctness.specs.Examples.{image_written}
use Rattle.correctness.specs.Demand2.{Demand2Of}
use Rattle.correctness.proofs.Table.{examples_hold}

-- ---- two texts with their images

-- a text spells a program, whose image is this
record WithImage (text image : List ℕ) : Type 0 where
  program : Program
  spelled : Spelled text program
  image_is : image_of program ≡ image

with_image_lem : (text buffer image : List ℕ) → image_written (S.translation_of text buffer).answer (S.translation_of text buffer).buffer ≡ accepted image → WithImage text image
with_image_lem text buffer image = go (S.translation_of text buffer).answer refl
  where
    go : (a : Answer ℕ) → (S.translation_of text buffer).answer ≡ a → image_written a (S.translation_of text buffer).buffer ≡ accepted image → WithImage text image
    go (accepted n) h e =
        let x = image_stored text buffer n h in
        let b : take n (S.translation_of text buffer).buffer ≡ image = cc in
        record { program = x.program; spelled = accepted_exactly.accepted_spelled text x.program x.parsed; image_is = sym (stored_image text buffer n x) ∙ b }
    go (refused number place) h e = let z : ◌≡◌ {A = ℕ} 0 1 = cc in let f : ⊥ = omega arith in absurd f

abbrev l2_text : List ℕ
l2_text = bytes "var v 0..1; v: GX(~(v = _v) -> [_v = 0] & v = (1)); v: GX(v = _v -> ~([_v = 0]));"

abbrev l2_image : List ℕ
l2_image = 0x00 ∷ 0x01 ∷ 0x00 ∷ 0x02 ∷ 0x00 ∷ 0x03 ∷ 0x00 ∷ 0x01 ∷ 0x00 ∷ 0x0A ∷ 0x13 ∷ 0x01 ∷ 0x02 ∷ 0x14 ∷ 0x00 ∷ 0x16 ∷ 0x00 ∷ []

first : WithImage [] (0 ∷ 0 ∷ [])
first = with_image_lem [] (replicate 128 255) (0 ∷ 0 ∷ []) examples_hold.0.0

second : WithImage l2_text l2_image
second = with_image_lem l2_text (replicate 128 255) l2_image examples_hold.1.0.0

-- the two images are not the same
differ : (a b c : List ℕ) → a ≡ 0 ∷ 0 ∷ [] → b ≡ l2_image → a ≡ c → b ≡ c → ⊥
differ a b c e f g h =
    let n : length a ≡ 2 = ap {A = List ℕ} length e in
    let m : length b ≡ 17 = ap {A = List ℕ} length f in
    let q : length a ≡ length b = ap {A = List ℕ} length (g ∙ sym h) in
    omega arith

-- ---- what is caught

module _ (program_of : List ℕ → Answer Program) (translation_of : List ℕ → List ℕ → AfterTranslation) (d : Demand2Of program_of translation_of) where
  read : {text image : List ℕ} (x : WithImage text image) → program_of text ≡ accepted x.program
  read {text} x = (d.accepted_exactly text x.program).whenever x.spelled

  -- into a buffer that has room
  translated : {text image : List ℕ} (x : WithImage text image) → (translation_of text image).answer ≡ accepted (length image)
  translated {text} {image} x =
      (d.translated_exactly text image (length image)).whenever
      (record { program = x.program; spelled = x.spelled; size = ap {A = List ℕ} length x.image_is; fits = omega arith })

  stored : {text image : List ℕ} (x : WithImage text image) → take (length image) (translation_of text image).buffer ≡ image
  stored {text} {image} x =
      let w = d.written text image (length image) (translated x) x.program x.spelled in
      rw w (rw x.image_is (take-append_seam image (drop (length image) image)))

  -- a translator refusing every text, as a program or into every buffer
  pub refusing_texts : ((text : List ℕ) (p : Program) → program_of text ≡ accepted p → ⊥) → ⊥
  refusing_texts h = h [] first.program (read first)

  pub refusing_translations : ((text buffer : List ℕ) (n : ℕ) → (translation_of text buffer).answer ≡ accepted n → ⊥) → ⊥
  refusing_translations h = h [] (0 ∷ 0 ∷ []) 2 (translated first)

  -- one that takes all texts for the same program, or writes a single image
  pub single_program : (q : Program) → ((text : List ℕ) (p : Program) → program_of text ≡ accepted p → p ≡ q) → ⊥
  single_program q h =
      differ (image_of first.program) (image_of second.program) (image_of q) first.image_is second.image_is
      (ap image_of (h [] first.program (read first))) (ap image_of (h l2_text second.program (read second)))

  pub single_image : (image : List ℕ) → ((text buffer : List ℕ) (n : ℕ) → (translation_of text buffer).answer ≡ accepted n → take n (translation_of text buffer).buffer ≡ image) → ⊥
  single_image image h =
      differ _ _ image (stored first) (stored second) (h [] (0 ∷ 0 ∷ []) 2 (translated first)) (h l2_text l2_image 17 (translated second))
