-- The three ways of a translation, and what it leaves in the buffer. Assumes nothing.
use Prim.Native.Nat.{ℕ, ◌≤◌, ◌<◌}
use native.Mathlib.Omega.{arith}
use mathlib.Core.Path.{◌≡◌, refl, sym, ap, ◌∙◌}
use mathlib.Core.Bool.{Bool, true, false}
use mathlib.Core.List.{List, ◌++◌}
use lib.Dec.{leb}
use lib.ListN.{length, take, drop, length-append}
use lib.Seq.{take-append_seam}
use borrow.Author.Tests.{leb-true, leb-false}
use Rattle.limits.specs.Limits.{buffer_too_short}
use Rattle.limits.specs.Answer.{Answer, accepted, refused}
use Rattle.semantics.specs.Program.{Program}
use Rattle.bytecode.specs.Translation.{image_of}
use Rattle.grammar.specs.Parse.{program_of}
use Rattle.translate.specs.Services.{AfterTranslation, translated, translation_of}

pub never : {X A : Type 0} (a : A) (number place : ℕ) → accepted a ≡ refused number place → X
never a number place e = let z : ◌≡◌ {A = ℕ} 0 1 = cc in let f : ⊥ = omega arith in absurd f

pub split : {X : Type 0} (t : Bool) → (t ≡ true → X) → (t ≡ false → X) → X
split true f g = f refl
split false f g = g refl

pub data Way (text buffer : List ℕ) : AfterTranslation → Type 0 where
  image : (p : Program) → program_of text ≡ accepted p → length (image_of p) ≤ length buffer
      → Way text buffer (record { answer = accepted (length (image_of p)); buffer = image_of p ++ drop (length (image_of p)) buffer })
  no_room : (p : Program) → program_of text ≡ accepted p → length buffer < length (image_of p)
      → Way text buffer (record { answer = refused buffer_too_short (length text); buffer = buffer })
  fault : (number place : ℕ) → program_of text ≡ refused number place → Way text buffer (record { answer = refused number place; buffer = buffer })

module _ (text buffer : List ℕ) where
  pub way : Way text buffer (translation_of text buffer)
  unfolding translation_of
  way = go (program_of text) refl
    where
      go : (a : Answer Program) → program_of text ≡ a → Way text buffer (translated a text buffer)
      go (refused number place) e = fault number place e
      go (accepted p) e = split (leb (length (image_of p)) (length buffer)) (λ t. rw t (image p e (leb-true _ _ t))) (λ t. rw t (no_room p e (leb-false _ _ t)))

  -- what a translation that succeeded with n bytes shows
  pub record Stored (n : ℕ) : Type 0 where
    pub program : Program
    pub parsed : program_of text ≡ accepted program
    pub size : length (image_of program) ≡ n
    pub fits : n ≤ length buffer
    pub left : (translation_of text buffer).buffer ≡ image_of program ++ drop (length (image_of program)) buffer

  pub image_stored : (n : ℕ) → (translation_of text buffer).answer ≡ accepted n → Stored n
  image_stored n = go (translation_of text buffer) refl way
    where
      go : (r : AfterTranslation) → translation_of text buffer ≡ r → Way text buffer r → r.answer ≡ accepted n → Stored n
      go r q (image p e h) a =
          let s : length (image_of p) ≡ n = cc in
          record { program = p; parsed = e; size = s; fits = omega arith; left = ap {A = AfterTranslation} (λ x. x.buffer) q }
      go r q (no_room p e h) a = never n buffer_too_short (length text) (sym a)
      go r q (fault number place e) a = never n number place (sym a)

  -- the image stands in front of the buffer left
  pub stored_image : (n : ℕ) (x : Stored n) → take n (translation_of text buffer).buffer ≡ image_of x.program
  stored_image n x = rw (x.left, ← x.size) (take-append_seam (image_of x.program) (drop (length (image_of x.program)) buffer))

  -- an image ends within the buffer left
  pub image_inside : (left : List ℕ) (n : ℕ) → record { answer = accepted n; buffer = left } ≡ translation_of text buffer → n ≤ length left
  image_inside left n e =
      let x = image_stored n (sym (ap {A = AfterTranslation} (λ t. t.answer) e)) in
      rw (ap {A = AfterTranslation} (λ t. t.buffer) e ∙ x.left) (simp length-append (omega (arith, x.size)))
