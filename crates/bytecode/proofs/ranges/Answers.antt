-- Assumes nothing.
use Rattle.std.proofs.Common.{ap, ◌∙◌, rules, FitsSigned, w32}
use Rattle.std.proofs.Math.ListN.{set}
use Rattle.std.proofs.lemmas.Result.{err_from_is_err_and}
use Rattle.arith.proofs.Laws.{same32}
use Rattle.bytecode.proofs.Heading.{heading_begins, heading_breaks, heading_goes, heading_ends}
use Rattle.bytecode.proofs.ranges.Goals as goal

pub loop-i-init : goal.loop-i-init
loop-i-init c = heading_begins _ _ _ _ _ _ _ c.requires.inside

pub returns-in_err-l : goal.returns-in_err-l
returns-in_err-l c =
    let p = err_from_is_err_and c.from_residual.result c.from_residual.ensures.1 in
    let f = c.in_err-l.ensures in
    record { so = rw (p.1, p.2) (heading_breaks c.loop-i.invariant _ c.loop-i-test.true f.0, f.1) }

pub loop-i-preserved : goal.loop-i-preserved
loop-i-preserved c =
    let o = c.loop-i in
    let r = c.in_ok-l in
    let f₁ : FitsSigned w32 r.l = search rules in
    let f₂ : FitsSigned w32 r.h = search rules in
    let f₃ : FitsSigned w32 r.z = search rules in
    heading_goes o.invariant (record { low = r.l; high = r.h; start = r.z }) r.next _ _ _ c.loop-i-test.true r.ensures.0 r.ensures.1
    (c.put.ensures ∙ ap (set o.low o.i) (same32 f₁)) (c.put-in-loop-i.ensures ∙ ap (set o.high o.i) (same32 f₂)) (c.put-in-loop-i-2.ensures ∙ ap (set o.start o.i) (same32 f₃))

pub returns : goal.returns
returns c = record { so = heading_ends c.loop-i.invariant c.loop-i-test.false c.requires.inputs_named c.requires.few }
