-- Each way out is one of the ways in which the counts are read. Assumes nothing.
use Rattle.std.proofs.Common.{sym, ap, ◌∙◌, arith}
use Rattle.std.proofs.lemmas.Result.{err_from_is_err_and}
use Rattle.leb128.specs.Results.{number_read}
use Rattle.bytecode.proofs.Fetching.{number_within}
use Rattle.bytecode.proofs.Heading.{nothing_gives, no_inputs, many_inputs, no_variables, many_names_lem, counts_read}
use Rattle.bytecode.proofs.counts.Goals as goal

pub returns-in_err-inputs-clause-result_value : goal.returns-in_err-inputs-clause-result_value
returns-in_err-inputs-clause-result_value c =
    let n = c.in_err-inputs.ensures in
    rw (nothing_gives _ _ _ _ (err_from_is_err_and c.from_residual.result c.from_residual.ensures.1) n.value n.ok_part)
    (sym (no_inputs _ (sym c.unsigned_at.ensures ∙ ap number_read n.ok_part)))

pub returns-then-inputs-clause-result_value : goal.returns-then-inputs-clause-result_value
returns-then-inputs-clause-result_value c =
    let e₁ = sym c.unsigned_at.ensures ∙ ap number_read c.in_ok-inputs.ensures.ok_part in
    sym (many_inputs _ _ _ e₁ c.if-inputs.true)

pub returns-in_err-variables-clause-result_value : goal.returns-in_err-variables-clause-result_value
returns-in_err-variables-clause-result_value c =
    let e₁ = sym c.unsigned_at.ensures ∙ ap number_read c.in_ok-inputs.ensures.ok_part in
    let n = c.in_err-variables.ensures in
    let r = c.from_residual-in_err-variables in
    rw (nothing_gives _ _ _ _ (err_from_is_err_and r.result r.ensures.1) n.value n.ok_part)
    (sym (no_variables _ _ _ e₁ c.if-inputs.false (sym c.unsigned_at-2.ensures ∙ ap number_read n.ok_part)))

pub returns-in_err-variables-clause-counted_within : goal.returns-in_err-variables-clause-counted_within
returns-in_err-variables-clause-counted_within c =
    let e₁ = sym c.unsigned_at.ensures ∙ ap number_read c.in_ok-inputs.ensures.ok_part in
    let n = c.in_err-variables.ensures in
    let r = c.from_residual-in_err-variables in
    rw (nothing_gives _ _ _ _ (err_from_is_err_and r.result r.ensures.1) n.value n.ok_part) (number_within _ _ _ _ e₁).inside

pub overflow_add-names : goal.overflow_add-names
overflow_add-names c =
    let e₂ = sym c.unsigned_at-2.ensures ∙ ap number_read c.in_ok-variables.ensures.ok_part in
    let w = number_within _ _ _ _ e₂ in
    record { fits = omega (arith, c.if-inputs.false, w.operand) }

pub returns-then-names-clause-result_value : goal.returns-then-names-clause-result_value
returns-then-names-clause-result_value c =
    let e₁ = sym c.unsigned_at.ensures ∙ ap number_read c.in_ok-inputs.ensures.ok_part in
    let e₂ = sym c.unsigned_at-2.ensures ∙ ap number_read c.in_ok-variables.ensures.ok_part in
    sym (many_names_lem _ _ _ e₁ c.if-inputs.false _ _ e₂ c.if-names.true)

pub returns-then-names-clause-counted_within : goal.returns-then-names-clause-counted_within
returns-then-names-clause-counted_within c =
    let e₁ = sym c.unsigned_at.ensures ∙ ap number_read c.in_ok-inputs.ensures.ok_part in
    (number_within _ _ _ _ e₁).inside

pub returns-clause-result_value : goal.returns-clause-result_value
returns-clause-result_value c =
    let e₁ = sym c.unsigned_at.ensures ∙ ap number_read c.in_ok-inputs.ensures.ok_part in
    let e₂ = sym c.unsigned_at-2.ensures ∙ ap number_read c.in_ok-variables.ensures.ok_part in
    sym (counts_read _ _ _ e₁ c.if-inputs.false _ _ e₂ c.if-names.false)

pub returns-clause-counted_within : goal.returns-clause-counted_within
returns-clause-counted_within c =
    let e₂ = sym c.unsigned_at-2.ensures ∙ ap number_read c.in_ok-variables.ensures.ok_part in
    record { inputs_named = omega arith; few = c.if-names.false; inside = (number_within _ _ _ _ e₂).inside }
