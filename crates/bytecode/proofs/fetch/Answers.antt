-- Each way out is one of the ways in which an instruction is read. Assumes nothing.
use Rattle.std.proofs.Common.{sym, ◌∙◌, arith}
use Rattle.bytecode.proofs.Fetching.{number_within, fetch-end, timer_fetched, alone_fetched, low_fetched, high_fetched, malformed_fetched, number_fetched}
use Rattle.bytecode.proofs.Codes.{listed_alone, listed_number}
use Rattle.bytecode.proofs.fetch.Goals as goal

pub returns-then-code-at-clause-result_value : goal.returns-then-code-at-clause-result_value
returns-then-code-at-clause-result_value c = sym (fetch-end _ _ c.if-code-at.true)

pub returns-in_err-t-clause-result_value : goal.returns-in_err-t-clause-result_value
returns-in_err-t-clause-result_value c = rw c.from_residual.ensures (sym (timer_fetched _ _ c.if-byte-eq-TIMER.true ∙ sym c.in_err-t.ensures.result_value))

pub returns-then-byte-eq-TIMER-clause-result_value : goal.returns-then-byte-eq-TIMER-clause-result_value
returns-then-byte-eq-TIMER-clause-result_value c = sym (timer_fetched _ _ c.if-byte-eq-TIMER.true ∙ sym c.in_ok-t.ensures.result_value)

pub returns-in_err-n-clause-result_value : goal.returns-in_err-n-clause-result_value
returns-in_err-n-clause-result_value c =
    rw c.from_residual-in_err-n.ensures
    (sym (malformed_fetched _ _ c.if-code-at.false c.if-byte-eq-TIMER.false (sym c.has_operand.ensures ∙ c.if-has_operand.true) (sym c.in_err-n.ensures)))

pub returns-then-has_operand-clause-result_value : goal.returns-then-has_operand-clause-result_value
returns-then-has_operand-clause-result_value c =
    sym (number_fetched _ _ c.if-code-at.false c.if-byte-eq-TIMER.false _ _ (sym c.has_operand.ensures ∙ c.if-has_operand.true) (sym c.in_ok-n.ensures))

pub returns-then-has_operand-clause-fetched_within : goal.returns-then-has_operand-clause-fetched_within
returns-then-has_operand-clause-fetched_within c =
    let w = number_within _ _ _ _ (sym c.in_ok-n.ensures) in
    let l = listed_number _ c.in_ok-n.n (sym c.has_operand.ensures ∙ c.if-has_operand.true) in
    record { operand = w.operand; behind = omega (arith, w.behind); inside = w.inside; instruction = l.0; listed = l.1 }

pub returns-then-byte-lt-ADD-clause-result_value : goal.returns-then-byte-lt-ADD-clause-result_value
returns-then-byte-lt-ADD-clause-result_value c =
    sym (low_fetched _ _ c.if-code-at.false c.if-byte-eq-TIMER.false (sym c.has_operand.ensures ∙ c.if-has_operand.false) c.if-byte-lt-ADD.true)

pub returns-then-byte-gt-GATE-clause-result_value : goal.returns-then-byte-gt-GATE-clause-result_value
returns-then-byte-gt-GATE-clause-result_value c =
    sym (high_fetched _ _ c.if-code-at.false c.if-byte-eq-TIMER.false (sym c.has_operand.ensures ∙ c.if-has_operand.false) c.if-byte-gt-GATE.true)

pub returns-clause-result_value : goal.returns-clause-result_value
returns-clause-result_value c =
    sym (alone_fetched _ _ c.if-code-at.false c.if-byte-eq-TIMER.false (sym c.has_operand.ensures ∙ c.if-has_operand.false))

pub returns-clause-fetched_within : goal.returns-clause-fetched_within
returns-clause-fetched_within c =
    let l = listed_alone _ 0 c.if-byte-lt-ADD.false c.if-byte-gt-GATE.false in
    let h = c.if-code-at.false in
    record { operand = omega arith; behind = omega arith; inside = omega (arith, h); instruction = l.0; listed = l.1 }
