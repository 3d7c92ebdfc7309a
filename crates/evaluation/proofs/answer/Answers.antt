-- Assumes nothing.
use Rattle.std.proofs.Common.{◌-◌, sym, ap, ◌∙◌, rules, pos, FitsSigned, w32}
use Rattle.std.proofs.Math.ListN.{get_or}
use Rattle.arith.specs.Values.{ok}
use Rattle.arith.proofs.Laws.{same32}
use Rattle.evaluation.proofs.Going.{none_held_lem, top_is}
use Rattle.evaluation.proofs.answer.Goals as goal

pub returns-then-held-eq0 : goal.returns-then-held-eq0
returns-then-held-eq0 c = λ b h. absurd (none_held_lem c.args.vals.now c.args.held _ c.if-held-eq0.true h)

pub returns : goal.returns
returns c =
    let a = c.args in
    let f : FitsSigned w32 (get_or a.vals.now (a.held - 1) (pos 0)) = search rules in
    λ b h. ap ok (sym (top_is a.vals.now a.held b c.if-held-eq0.false h) ∙ sym (rw (same32 f) at c.is_yes.ensures))
