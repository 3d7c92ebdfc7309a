-- the watches that were read so far, and the token behind them
use Prim.Native.Nat.{◌-◌}
use Rattle.limits.specs.Limits.{watch_limit}
use Rattle.expressions.specs.Inner.Scopes.{scope_of}
use Rattle.watches.proofs.Reading.{Reading}
use Rattle.watches.proofs.watches.Given as goal

abbrev pub invariant-loop-kind : goal.invariant-loop-kind
invariant-loop-kind l = Reading (scope_of l.text l.starts l.ends l.names) l.initial.at l.at l.kind l.start l.end l.count

abbrev pub decreases-loop-kind : goal.decreases-loop-kind
decreases-loop-kind l = watch_limit - l.count
