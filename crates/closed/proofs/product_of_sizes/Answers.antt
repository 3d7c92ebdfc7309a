use Rattle.std.proofs.Common.{◌≡◌, ◌+◌, pos, get_or, drop, ◌∙◌, rules}
use mir.Val.{SFits}
use mir.Syntax.{w32}
use Rattle.arith.proofs.Laws.{same32}
use Rattle.closed.specs.Closed.{size_between}
use Rattle.closed.proofs.Products.{product_goes, capped_over, product-least, size_least}
use Rattle.closed.proofs.product_of_sizes.Goals as goal

pub returns-then-p-gt-COMBINATION_LIMIT-clause-value : goal.returns-then-p-gt-COMBINATION_LIMIT-clause-value
returns-then-p-gt-COMBINATION_LIMIT-clause-value c ns r =
    let fl : SFits w32 (get_or c.args.low.now c.loop-i.i (pos 0)) = search rules in
    let fh : SFits w32 (get_or c.args.high.now c.loop-i.i (pos 0)) = search rules in
    let e : c.size-p.result ≡ size_between (get_or c.args.low.now c.loop-i.i (pos 0)) (get_or c.args.high.now c.loop-i.i (pos 0)) = c.size-p.ensures.0 ∙ rw (same32 fl, same32 fh) in
    capped_over ns (drop (c.loop-i.i + 1) ns) _ (product_goes ns _ _ r c.loop-i.p c.loop-i.i (c.loop-i.invariant.2 ns r) c.loop-i-test.true c.size-p.result e) c.if-p-gt-COMBINATION_LIMIT.true

pub loop-i-preserved : goal.loop-i-preserved
loop-i-preserved c =
    let fl : SFits w32 (get_or c.args.low.now c.loop-i.i (pos 0)) = search rules in
    let fh : SFits w32 (get_or c.args.high.now c.loop-i.i (pos 0)) = search rules in
    let e : c.size-p.result ≡ size_between (get_or c.args.low.now c.loop-i.i (pos 0)) (get_or c.args.high.now c.loop-i.i (pos 0)) = c.size-p.ensures.0 ∙ rw (same32 fl, same32 fh) in (
      product-least c.loop-i.p c.size-p.result c.loop-i.invariant.0 (size_least _ _ _ e),
      c.if-p-gt-COMBINATION_LIMIT.false,
      λ ns r. product_goes ns _ _ r c.loop-i.p c.loop-i.i (c.loop-i.invariant.2 ns r) c.loop-i-test.true c.size-p.result e,
    )
