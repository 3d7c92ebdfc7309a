-- A row of a sound image has at most 64 numbers, the milliseconds too: an input is no timer. Assumes nothing.
use Prim.Native.Nat.{ℕ, zero, suc, ◌+◌, ◌≤◌, ◌<◌}
use native.Mathlib.Omega.{arith}
use mathlib.Core.Path.{◌≡◌, refl, sym, ◌∙◌}
use mathlib.Core.Bool.{Bool, true, false, cond, false≢true}
use mathlib.Core.List.{List, [], ◌∷◌}
use mathlib.Core.Option.{none}
use lib.Dec.{ltb}
use lib.ListN.{length, get_or, drop, replicate}
use borrow.Author.Tests.{ltb-true, ltb-false}
use Rattle.limits.specs.Limits.{name_limit}
use Rattle.limits.specs.Answer.{accepted}
use Rattle.semantics.specs.Program.{known_first}
use Rattle.semantics.specs.Shape.{has_timer, row_length}
use Rattle.bytecode.specs.Check.{at_start, check_body, check_of}
use Rattle.bytecode.specs.Parts.{header_of, code_of, limits_of, shape_in}
use Rattle.bytecode.proofs.Walk.{check_sound}
use Rattle.bytecode.proofs.SoundHeader.{header_is}
use Rattle.bytecode.proofs.Limits.{limits_length}
use Rattle.bytecode.proofs.SoundLimits.{zeros_at, limit_kept}

input_known : (k m i : ℕ) → i < k → i < m → get_or (known_first k m) i false ≡ true
input_known zero m i h l = let b : ⊥ = omega arith in absurd b
input_known (suc k) zero i h l = let b : ⊥ = omega arith in absurd b
input_known (suc k) (suc m) zero h l = refl
input_known (suc k) (suc m) (suc i) h l = input_known k m i (omega arith) (omega arith)

no_limits : (ls : List ℕ) → ((i : ℕ) → i < length ls → get_or ls i 0 ≡ 0) → has_timer ls ≡ false
no_limits [] h = refl
no_limits (zero ∷ ls) h = no_limits ls λ i l. h (suc i) (omega arith)
no_limits (suc n ∷ ls) h = let z = h 0 (omega arith) in let b : ⊥ = omega arith in absurd b

module _ (image : List ℕ) (sound : check_of image ≡ accepted tt) where
  -- an input has no limit
  input_unlimited : (i : ℕ) → i < (header_of image).inputs → i < length (header_of image).ranges → get_or (limits_of image) i 0 ≡ 0
  unfolding limits_of code_of check_body
  input_unlimited i =
      let y = check_sound image sound in
      let h = y.header in
      let code = drop h.place image in
      rw (header_is image y) (λ a b.
      limit_kept h.ranges h.place code (length code) 0 none (at_start h) (replicate (length h.ranges) 0) i y.body (input_known h.inputs (length h.ranges) i a b)
      ∙ zeros_at (length h.ranges) i)

  sized : ((header_of image).inputs ≤ length (header_of image).ranges) × (length (header_of image).ranges ≤ 64)
  sized = let y = check_sound image sound in rw (header_is image y) (omega (arith, y.fits.size), y.fits.few)

  -- where there is a timer, some name is no input
  fewer : has_timer (limits_of image) ≡ true → (header_of image).inputs < length (header_of image).ranges
  fewer e = by (ltb (header_of image).inputs (length (header_of image).ranges)) (ltb-true (header_of image).inputs (length (header_of image).ranges)) (ltb-false (header_of image).inputs (length (header_of image).ranges))
    where
      by : (b : Bool) → (b ≡ true → (header_of image).inputs < length (header_of image).ranges) → (b ≡ false → length (header_of image).ranges ≤ (header_of image).inputs)
          → (header_of image).inputs < length (header_of image).ranges
      by true y n = y refl
      by false y n =
          let none-limited = no_limits (limits_of image) λ i l. input_unlimited i (omega (arith, n refl, l, limits_length image)) (omega (arith, l, limits_length image)) in
          absurd (false≢true (sym none-limited ∙ e))

  pub row_most : row_length (shape_in image) ≤ name_limit
  row_most = by (has_timer (limits_of image)) refl
    where
      by : (b : Bool) → has_timer (limits_of image) ≡ b → cond b ((header_of image).inputs + 1) (header_of image).inputs ≤ name_limit
      by true e = omega (arith, fewer e, sized.1)
      by false e = omega (arith, sized.0, sized.1)
