use Rattle.std.proofs.Common.{◌≡◌, ◌+◌, rules, arith}
use lib.IntN.{pos}
use mir.Val.{SFits}
use mir.Syntax.{w32}
use mir.Facts.{to_z-of_z}
use Rattle.std.proofs.lemmas.List.Edits.{paste_more}
use Rattle.semantics.specs.Formula.{at}
use Rattle.machine.proofs.lists.fill.Goals as goal

pub loop-i-preserved : goal.loop-i-preserved
loop-i-preserved c =
    let a = c.args in
    let i = c.loop-i.i in
    let f : SFits w32 (at a.from.now i) = search rules in
    let z : 0 + i ≡ i = omega arith in
    rw (c.loop-i.invariant, to_z-of_z f, z) (rw z at (paste_more a.to.now 0 a.from.now i (pos 0) (omega arith) (omega arith)))
