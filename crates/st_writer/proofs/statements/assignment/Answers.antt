-- Assumes nothing.
use Rattle.std.proofs.Common.{sym, arith}
use Rattle.bytecode.proofs.Fetching.{number_within}
use Rattle.st_writer.proofs.Listed.{assignment_none, assignment_put}
use Rattle.st_writer.proofs.statements.assignment.Goals as goal

pub returns-in_default-clause-prints_assignment : goal.returns-in_default-clause-prints_assignment
returns-in_default-clause-prints_assignment c = assignment_none _ _ _ _ _ c.in_default.ensures

pub operand-value-requires-clause-at_in_bounds : goal.operand-value-requires-clause-at_in_bounds
operand-value-requires-clause-at_in_bounds c = (number_within _ _ _ _ (sym c.in-Some.ensures)).inside

pub returns-clause-at_le_next : goal.returns-clause-at_le_next
returns-clause-at_le_next c =
    let w = number_within _ _ _ _ (sym c.in-Some.ensures) in
    let o = c.operand-value.ensures.at_le_next in
    (omega (arith, w.behind, o.0), o.1)

pub returns-clause-prints_assignment : goal.returns-clause-prints_assignment
returns-clause-prints_assignment c =
    assignment_put _ _ _ _ _ _ _ _ _ _ _ _ _ _ _ _ c.in-Some.ensures c.bytes_before-end.ensures c.operand-value.ensures.prints_operand c.bytes_before-sign.ensures c.name_before-target.ensures
