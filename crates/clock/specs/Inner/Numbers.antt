-- Sizes that keep the sums of inner functions within 64 bits: an auxiliary definition for inner contracts. Assumes nothing.
use Rattle.std.specs.Prelude.{◌≤◌, List, [], ◌∷◌}
use Rattle.std.specs.Int.Signed.{mag}
use Rattle.clock.specs.Clock.{Entry}

-- no offset is over 840 either way
abbrev pub SmallNumbers : List Entry → Type 0
SmallNumbers [] = Unit {0}
SmallNumbers (e ∷ t) = (mag e.offset ≤ 840) × SmallNumbers t
