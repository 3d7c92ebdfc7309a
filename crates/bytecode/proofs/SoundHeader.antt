-- The header of a sound image, as the running code reads it. Assumes nothing.
use mathlib.Core.Path.{◌≡◌, sym, ap, ◌∙◌}
use mathlib.Core.List.{List}
use Prim.Native.Nat.{ℕ, ◌≤◌}
use native.Mathlib.Omega.{arith}
use lib.IntN.{ℤ}
use lib.ListN.{length}
use lib.Seq.{sets}
use Rattle.limits.specs.Answer.{accepted, refused}
use Rattle.bytecode.specs.Check.{Header, check_header, check_of}
use Rattle.bytecode.specs.Parts.{header_of, lows, highs, starts}
use Rattle.bytecode.specs.Results.{HeaderStands}
use Rattle.bytecode.proofs.Walk.{SoundImage, check_sound}

pub header_is : (image : List ℕ) (y : SoundImage image) → header_of image ≡ y.header
unfolding header_of
header_is image y = rw y.read

pub record SoundCounts (image : List ℕ) (inputs names : ℕ) : Type 0 where
  pub inputs_are : (header_of image).inputs ≡ inputs
  pub names_are : length (header_of image).ranges ≡ names
  pub among : inputs ≤ names
  pub few : names ≤ 64

-- a header that was read is that of the image
pub header_found : (image : List ℕ) (h : Header) → check_header image ≡ accepted h → header_of image ≡ h
unfolding header_of
header_found image h e = rw e

-- ---- what the reader of a header answers

module _ (image : List ℕ) {n : ℕ} {low₀ high₀ start₀ low high start : List ℤ} {inputs names place : ℕ} (x : HeaderStands (check_header image) n low₀ high₀ start₀ low high start inputs names place) where
  pub header_counts : SoundCounts image inputs names
  header_counts =
      let e = header_found image _ x.read in
      record { inputs_are = ap (λ (h : Header). h.inputs) e; names_are = ap (λ (h : Header). length h.ranges) e ∙ x.many; among = x.extends.inputs_named; few = x.extends.few }

  pub header_place : place ≡ (header_of image).place
  header_place = sym (ap (λ (h : Header). h.place) (header_found image _ x.read))

  pub lows_stored : low ≡ sets low₀ 0 (lows (header_of image).ranges)
  lows_stored = rw (header_found image _ x.read) x.lower

  pub highs_stored : high ≡ sets high₀ 0 (highs (header_of image).ranges)
  highs_stored = rw (header_found image _ x.read) x.upper

  pub starts_stored : start ≡ sets start₀ 0 (starts (header_of image).ranges)
  starts_stored = rw (header_found image _ x.read) x.starting

-- ---- a sound image

module _ (image : List ℕ) (sound : check_of image ≡ accepted tt) where
  pub header_not_broken : {X : Type 0} (place : ℕ) → check_header image ≡ refused 11 place → X
  header_not_broken place e =
      let p = (check_sound image sound).read in
      let z : ◌≡◌ {A = ℕ} 0 1 = cc in
      let b : ⊥ = omega arith in
      absurd b
