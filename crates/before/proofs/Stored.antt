-- What was read of an image stands at the front of lent memory. Assumes nothing.
use Prim.Native.Nat.{ℕ, ◌≤◌}
use native.Mathlib.Omega.{arith}
use mathlib.Core.Path.{◌≡◌, sym, ◌∙◌}
use mathlib.Core.List.{List}
use lib.IntN.{ℤ}
use lib.ListN.{length, take}
use lib.Seq.{sets}
use Rattle.semantics.specs.Program.{Range}
use Rattle.semantics.specs.Shape.{cells}
use Rattle.bytecode.specs.Parts.{lows, highs, shape_in}
use Rattle.checker.proofs.Checking.{stored}
use Rattle.shapes.specs.declared.Measured.{Measured}
use Rattle.shapes.specs.Results.{Measures}
use Rattle.machine.specs.Inner.Memory.{RangesIn}
use Rattle.before.specs.Inner.Memory.{Scratch}
use Rattle.before.specs.Inner.Known.{KnownFront}

pub ranges_stored : (ns : List Range) (n : ℕ) (low low₁ high high₁ : List ℤ) → length ns ≡ n → n ≤ length low → n ≤ length high → low₁ ≡ sets low 0 (lows ns) → high₁ ≡ sets high 0 (highs ns)
    → RangesIn ns (take n low₁) (take n high₁)
ranges_stored ns n low low₁ high high₁ e h k l m = record { lows = stored (λ r. r.low) ns n low low₁ e h l; highs = stored (λ r. r.high) ns n high high₁ e k m }

-- the shape that was read, and room for it
pub known_front : {image : List ℕ} {s low₀ high₀ low high work : List ℤ} {m : Measured} → Measures image low₀ high₀ low high m → length s ≡ m.size → Scratch 127 s low₀ high₀ work
    → length low ≡ length low₀ → length high ≡ length high₀ → KnownFront image m s low high work
known_front {image} {s} {m = m} h e x a b =
    let few : length s ≤ 127 = omega (arith, h.size_most) in
    let l = x.lows few in
    let u = x.highs few in
    record {
      known =
          record {
            sound = h.sound;
            code = h.place_is;
            inside = h.inside;
            shape =
                record {
                  inputs_are = h.inputs_are;
                  names_are = h.names_are;
                  among = h.among;
                  flags = sym h.timers_are;
                  ranges = ranges_stored (cells (shape_in image)) m.size _ _ _ _ (sym h.size_is) (omega arith) (omega arith) h.lower h.upper;
                };
            numbers = e ∙ h.size_is;
          };
      lows = omega arith;
      highs = omega arith;
      copies = omega (arith, x.copies few);
    }
