use Rattle.std.proofs.Common.{ap, ◌∙◌, min, pos, get_or, rules, w32}
use mir.Val.{SFits}
use Rattle.arith.specs.Values.{count}
use Rattle.arith.proofs.Laws.{same32}
use Rattle.paused.specs.Memory.{clipped}
use Rattle.paused.proofs.cell.Goals as goal

pub returns : goal.returns
unfolding clipped
returns c =
    let a = c.args in
    let f : SFits w32 (get_or a.memory.now a.i (pos 0)) = search rules in
    c.min.ensures ∙ ap (λ n. min n a.most) (c.count-n.ensures.0 ∙ ap count (same32 f))
