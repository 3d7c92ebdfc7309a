-- The loop's invariant: with the names declared so far, what is left makes the whole. The measure is the number of names that may still
-- follow. Assumes nothing.
use Prim.Native.Nat.{◌-◌}
use Rattle.lexer.specs.Results.{kind_of}
use Rattle.declarations.proofs.Loop.{Turning}
use Rattle.declarations.proofs.declarations.Given as goal

abbrev pub invariant-loop-token : goal.invariant-loop-token
invariant-loop-token l = Turning (kind_of l.word) l.text l.at l.to l.initial.out l.initial.starts l.initial.ends l.count l.starts l.ends l.out l.a l.known l.t

abbrev pub decreases-loop-token : goal.decreases-loop-token
decreases-loop-token l = 65 - l.known
