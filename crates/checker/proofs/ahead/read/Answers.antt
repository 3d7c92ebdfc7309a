-- Each way out is one of the ways in which an instruction is read. Assumes nothing.
use Rattle.std.proofs.Common.{sym, ◌∙◌}
use Rattle.bytecode.proofs.Fetching.{single_end, single_alone, single_malformed, single_number}
use Rattle.checker.proofs.ahead.read.Goals as goal

pub returns-then-code-at : goal.returns-then-code-at
returns-then-code-at c = let r = single_end _ _ c.if-code-at.true in record { result_value = r.0; single_within = r.1 }

pub returns-in_err-n : goal.returns-in_err-n
returns-in_err-n c =
    let r = single_malformed _ _ c.if-code-at.false (sym c.has_operand.ensures ∙ c.if-has_operand.true) (sym c.in_err-n.ensures) in
    rw c.from_residual.ensures (record { result_value = r.0; single_within = r.1 })

pub returns-then-has_operand : goal.returns-then-has_operand
returns-then-has_operand c =
    let r = single_number _ _ c.if-code-at.false _ _ (sym c.has_operand.ensures ∙ c.if-has_operand.true) (sym c.in_ok-n.ensures) in
    record { result_value = r.0; single_within = r.1 }

pub returns : goal.returns
returns c =
    let r = single_alone _ _ c.if-code-at.false (sym c.has_operand.ensures ∙ c.if-has_operand.false) in
    record { result_value = r.0; single_within = r.1 }
