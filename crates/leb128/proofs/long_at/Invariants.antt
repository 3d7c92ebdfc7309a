-- The groups so far, joined to what is found at `i`, make the number at `at`.
use Rattle.std.proofs.Common.{◌≡◌, ◌<◌, ◌^◌, drop}
use Rattle.leb128.specs.Numbers.{number_in, below32, number_at}
use Rattle.leb128.specs.Inner.Groups.{joined_groups}
use Rattle.leb128.proofs.long_at.Given as goal

abbrev pub invariant-loop-i : goal.invariant-loop-i
invariant-loop-i l =
    (l.low < l.scale) × (l.scale < 2 ^ 35) × (number_at l.s l.at ≡ below32 l.i (joined_groups l.low l.scale (number_in (drop l.i l.s))))
