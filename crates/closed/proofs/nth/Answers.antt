use Rattle.std.proofs.Common.{◌≡◌, ℕ, subst, sym, ◌∙◌, add-one, arith}
use Rattle.machine.proofs.Copies.{over_all}
use Rattle.closed.specs.Inner.Parts.{IsNth}
use Rattle.closed.proofs.Combining.{combinations_first}
use Rattle.closed.proofs.Walks.{stands_next}
use Rattle.closed.proofs.nth.Goals as goal

pub loop-init : goal.loop-init
loop-init c ns r h =
    let e = c.fill.ensures ∙ over_all c.args.low.now c.args.values.now (sym c.requires.1) ∙ sym r.lows in
    rw e (combinations_first ns)

pub loop-preserved : goal.loop-preserved
loop-preserved c ns r h =
    let i = c.loop.counter in
    rw (add-one i) (stands_next ns i c.loop.values c.next.new.values (c.loop.invariant ns r (omega (arith, h))) (c.next.ensures ns r) (omega (arith, h)))

pub returns : goal.returns
returns c ns r h =
    let e : c.loop.counter ≡ c.args.times = omega arith in
    subst (λ (n : ℕ). IsNth ns n c.loop.values) e (c.loop.invariant ns r (omega (arith, h)))
