-- The reader's inside: the groups read so far, before what follows them. Auxiliary definitions for proofs. Assumes nothing.
use Rattle.std.specs.Prelude.{ℕ, ◌+◌, ◌*◌, ◌||◌, cond, leb, eqb}
use Rattle.leb128.specs.Numbers.{Found, found, none}

-- groups of value `low`, joined_groups to what is found behind them, where a 1 counts `scale`; shortest form only: 0 there is none, but for
-- the first group, whose scale is 1
unfoldable pub joined_groups : ℕ → ℕ → Found → Found
joined_groups low scale none = none
joined_groups low scale (found v k) = cond (leb 1 v || eqb scale 1) (found (low + v * scale) k) none
