-- Assumes nothing.
use Rattle.std.proofs.Common.{sym, arith}
use Rattle.bytecode.proofs.Fetching.{number_within}
use Rattle.st_writer.proofs.Listed.{rule_let, rule_none, rule_block}
use Rattle.st_writer.proofs.statements.rule.Goals as goal

pub returns-then-code-at-eq21-clause-prints_rule : goal.returns-then-code-at-eq21-clause-prints_rule
returns-then-code-at-eq21-clause-prints_rule c = rule_let _ _ _ _ _ _ _ _ c.if-code-at-eq21.true c.assignment.ensures.prints_assignment

pub returns-in_default-clause-prints_rule : goal.returns-in_default-clause-prints_rule
returns-in_default-clause-prints_rule c = rule_none _ _ _ _ _ c.if-code-at-eq21.false c.in_default.ensures

pub cases-requires-clause-at_in_bounds : goal.cases-requires-clause-at_in_bounds
cases-requires-clause-at_in_bounds c = (number_within _ _ _ _ (sym c.in-Some.ensures)).inside

pub returns-clause-at_lt_next : goal.returns-clause-at_lt_next
returns-clause-at_lt_next c =
    let w = number_within _ _ _ _ (sym c.in-Some.ensures) in
    let o = c.cases.ensures.at_le_next in
    (omega (arith, w.behind, o.0), o.1)

pub returns-clause-prints_rule : goal.returns-clause-prints_rule
returns-clause-prints_rule c =
    rule_block _ _ _ c.in-Some.field-0-0 _ _ _ _ _ _ _ _ c.if-code-at-eq21.false c.in-Some.ensures c.bytes_before-end.ensures c.cases.ensures.prints_cases
