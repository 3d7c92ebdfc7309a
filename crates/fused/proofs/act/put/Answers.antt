-- `fused::act::put` meets its contract: the value stands on top. Assumes nothing.
use Prim.Native.Nat.{◌+◌}
use mathlib.Core.Path.{sym, subst, ◌∙◌}
use lib.ListN.{set}
use mir.Facts.{to_z-of_z}
use Rattle.checker.specs.Inner.Walk.{SmallAfter}
use Rattle.machine.specs.Inner.Memory.{held_of}
use Rattle.machine.proofs.Changes.{names_length}
use Rattle.machine.proofs.Stack.{push_put}
use Rattle.fused.specs.Inner.Acts.{SmallOn}
use Rattle.fused.proofs.Acting.{done_acts}
use Rattle.fused.proofs.act.put.Goals as goal

pub returns : goal.returns
returns c =
    let l = c.args.vals.now in
    let b = c.args.b in
    let v = c.args.v in record {
      put_by = (λ code low high prev cur h. rw (to_z-of_z c.ranges.v)
          (done_acts h.at_hand c.in_ok-k.k (set l b.walk.held v) c.push.result c.in_ok-k.was (c.push.ensures.result_value ∙ sym h.admitted) c.push.ensures.small_after (b.walk.held + 1)
          (λ ns q. push_put l b.walk.held v b.picked cur c.if-h-ge-STACK_LIMIT.false c.requires.1 ∙ sym (h.puts ns b.picked (held_of l b.walk.held) (names_length ns.ranges low high q ∙ sym h.at_hand.ready.sized)))
          c.done.result c.done.ensures));
      small_on = subst SmallOn (sym c.done.ensures) (subst SmallAfter c.in_ok-k.was c.push.ensures.small_after);
    }
