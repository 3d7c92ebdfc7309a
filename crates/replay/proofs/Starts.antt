-- What a start that was accepted says of its image, and what its rows need. Assumes nothing.
use Prim.Native.Nat.{ℕ, ◌≤◌}
use mathlib.Core.Path.{◌≡◌, refl, sym, ◌∙◌}
use mathlib.Core.Bool.{Bool, true, false, cond}
use mathlib.Core.List.{List}
use native.Mathlib.Omega.{arith}
use lib.Dec.{eqb}
use lib.IntN.{ℤ}
use lib.ListN.{length, take}
use lib.Seq.{length-take-le}
use borrow.Author.Tests.{eqb-true}
use Rattle.limits.specs.Limits.{stack_limit}
use Rattle.limits.specs.Answer.{Answer, accepted, refused}
use Rattle.semantics.specs.Formula.{State}
use Rattle.bytecode.specs.Check.{check_of}
use Rattle.bytecode.specs.Parts.{shape_in}
use Rattle.shapes.specs.declared.Measured.{Measured}
use Rattle.semantics.specs.Shape.{state_length, starting_state}
use Rattle.scan.specs.Services.{AfterStart, started, start_of}
use Rattle.before.specs.Inner.Known.{KnownImage, KnownFront}
use Rattle.replay.specs.Inner.Records.{KnownBy}

-- a start is accepted for a sound image and a state of one length only
module _ (image : List ℕ) (s : State) where
  by : (t : Bool) → (t ≡ true → length s ≡ state_length (shape_in image))
      → (cond {A = AfterStart} t (record { answer = accepted tt; state = starting_state (shape_in image) }) (record { answer = refused 12 0; state = s })).answer ≡ accepted tt
      → length s ≡ state_length (shape_in image)
  by true y e = y refl
  by false y e = let z : ◌≡◌ {A = ℕ} 0 1 = cc in let f : ⊥ = omega arith in absurd f

  accepted_sized : (a : Answer (Unit {0})) → (started a (shape_in image) s).answer ≡ accepted tt → (a ≡ accepted tt) × (length s ≡ state_length (shape_in image))
  accepted_sized (refused k at) e = let z : ◌≡◌ {A = ℕ} 0 1 = cc in let f : ⊥ = omega arith in absurd f
  accepted_sized (accepted u) e = (refl, by (eqb (length s) (state_length (shape_in image))) (eqb-true (length s) (state_length (shape_in image))) e)

  pub start_sized : (start_of image s).answer ≡ accepted tt → (check_of image ≡ accepted tt) × (length s ≡ state_length (shape_in image))
  unfolding start_of
  start_sized e = accepted_sized (check_of image) e

-- ---- what the rows need

-- a state of the same length
same_known : {image : List ℕ} {m : Measured} {low high s s₀ : List ℤ} → length s ≡ length s₀ → KnownImage image m s₀ low high → KnownImage image m s low high
same_known e k = record { sound = k.sound; code = k.code; inside = k.inside; shape = k.shape; numbers = e ∙ k.numbers }

pub known_kept : {image : List ℕ} {m : Measured} {low high work₀ vals₀ state₀ : List ℤ} → KnownBy image m low high work₀ vals₀ state₀ → (work vals state : List ℤ) → length work ≡ length work₀ → length vals ≡ length vals₀
    → length state ≡ length state₀ → KnownBy image m low high work vals state
known_kept x work vals state a v b = record { image_known = same_known b x.image_known; copies = a ∙ x.copies ∙ sym b; stack = omega (arith, v, x.stack) }

-- at the front of lent memory
pub known_by : {image : List ℕ} {m : Measured} {s low high work : List ℤ} → KnownFront image m s low high work → length s ≡ m.size → (vals state : List ℤ) → stack_limit ≤ length vals → length state ≡ length s
    → KnownBy image m (take m.size low) (take m.size high) (take m.size work) vals state
known_by {m = m} {work = work} x e vals state v b = record { image_known = same_known b x.known; copies = length-take-le m.size work x.copies ∙ sym (b ∙ e); stack = v }
