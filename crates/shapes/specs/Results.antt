-- What `shape` measures. Document 01, "Who can cause which refusal"; document 02, A.7. Assumes nothing.
use Rattle.std.specs.Prelude.{ℕ, ◌^◌, ◌≤◌, ◌<◌, ◌≡◌, List, ltb, ℤ, length, Result, Ok, Err}
use Rattle.std.proofs.lemmas.List.Edits.{sets}
use Rattle.limits.specs.Limits.{name_limit, image_limit}
use Rattle.limits.specs.Answer.{accepted, refused}
use Rattle.limits.specs.Refusals.{refusal_number, refusal_place}
use Rattle.limits.specs.declared.Refusal.{Refusal}
use Rattle.arith.specs.Inner.Flags.{flags_of}
use Rattle.semantics.specs.Shape.{timers_of, has_timer, cells, state_length}
use Rattle.bytecode.specs.Check.{check_of}
use Rattle.bytecode.specs.Parts.{header_of, lows, highs, limits_of, shape_in}
use Rattle.shapes.specs.declared.Measured.{Measured}

-- The measures of a sound image; the range of each number of its states, stored at the front of the memory lent for lows and highs, as far as there is room.
pub record Measures (image : List ℕ) (low₀ high₀ low high : List ℤ) (m : Measured) : Type 0 where
  pub sound : check_of image ≡ accepted tt
  pub inputs_are : (header_of image).inputs ≡ m.inputs
  pub names_are : length (header_of image).ranges ≡ m.names
  -- the inputs are among the names
  pub among : m.inputs ≤ m.names
  pub few : m.names ≤ name_limit
  pub size_is : m.size ≡ state_length (shape_in image)
  -- 64 names, of which one is no timer, and the elapsed times of the others
  pub size_most : m.size ≤ 127
  pub timers_are : flags_of m.names m.timers ≡ timers_of (shape_in image)
  pub timers_low : m.timers < 2 ^ m.names
  -- there is any timer exactly if a state has more numbers than names
  pub timed : has_timer (limits_of image) ≡ ltb m.names m.size
  pub place_is : m.place ≡ (header_of image).place
  pub inside : m.place ≤ length image
  pub lower : low ≡ sets low₀ 0 (lows (cells (shape_in image)))
  pub upper : high ≡ sets high₀ 0 (highs (cells (shape_in image)))

abbrev pub ShapedAs : List ℕ → List ℤ → List ℤ → List ℤ → List ℤ → Result Measured Refusal → Type 0
ShapedAs image low₀ high₀ low high (Ok m) = Measures image low₀ high₀ low high m
ShapedAs image low₀ high₀ low high (Err e) = (check_of image ≡ refused (refusal_number e) (refusal_place e)) × (refusal_place e ≤ image_limit)

pub record ShapedBy (image : List ℕ) (low₀ high₀ low high : List ℤ) (r : Result Measured Refusal) : Type 0 where
  pub so : ShapedAs image low₀ high₀ low high r
