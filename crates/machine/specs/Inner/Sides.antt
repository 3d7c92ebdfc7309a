-- The side that a pick of the code is given. Assumes nothing.
use Rattle.semantics.specs.Program as P
use Rattle.machine.specs.declared.variable.Side.{Side}
use Rattle.machine.specs.declared.variable.Side.TheVariants.{Changing, Rising, Falling}

abbrev pub pick_side : Side → P.Side
pick_side Changing = P.changing
pick_side Rising = P.rising
pick_side Falling = P.falling
