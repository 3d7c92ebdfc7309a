-- what was read and written so far
use Prim.Native.Nat.{◌-◌}
use Rattle.lexer.specs.Bytes.{part}
use Rattle.expressions.specs.Inner.Scopes.{scope_of}
use Rattle.cases.proofs.Casing.{Casing}
use Rattle.cases.proofs.cases.Given as goal

abbrev pub invariant-loop-token : goal.invariant-loop-token
invariant-loop-token l = Casing (scope_of l.text l.starts l.ends l.names) (part l.text l.w.start l.w.end) l.limit l.pick l.w.id l.at l.to l.initial.out l.from l.upto l.out l.a l.t l.count

abbrev pub decreases-loop-token : goal.decreases-loop-token
decreases-loop-token l = l.limit - l.count
