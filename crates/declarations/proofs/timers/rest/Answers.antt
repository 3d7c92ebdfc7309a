-- `declarations::timers::rest` meets its contract: each part that was read takes the definition one step on. Assumes nothing.
use mathlib.Core.Path.{sym, ap, ◌∙◌}
use Rattle.limits.proofs.Exits.{handed_on}
use Rattle.lexer.specs.Results.{kind_of}
use Rattle.lexer.specs.declared.Place.{Place}
use Rattle.phrases.specs.Inner.Steps.{parsed_of, nothing, number_told}
use Rattle.phrases.proofs.Writing.{found}
use Rattle.declarations.specs.Inner.Timers.{timer_told}
use Rattle.declarations.proofs.Entries.{step_refused}
use Rattle.declarations.proofs.TimerWays.{done_place}
use Rattle.declarations.proofs.TimerEntries.{no_of, no_w, no_limit, no_n, no_semicolon, whole_rest}
use Rattle.declarations.proofs.timers.rest.Goals as goal

pub returns-in_err-before : goal.returns-in_err-before
unfolding kind_of
returns-in_err-before c =
    rw (handed_on c.from_residual.ensures c.in_err-before.was)
    (record {
      result_value = λ names held.
          ap (parsed_of timer_told) c.in_err-before.was ∙ sym (no_of _ _ _ names _ _ _ (sym c.expect.ensures ∙ ap (parsed_of nothing) c.in_err-before.was));
      number_lt_name_limit = λ x e. step_refused (sym c.in_err-before.was ∙ e);
    })

pub returns-in_err-variable : goal.returns-in_err-variable
unfolding kind_of
returns-in_err-variable c =
    rw (handed_on c.from_residual-in_err-variable.ensures c.in_err-variable.was)
    (record {
      result_value = λ names held.
          ap (parsed_of timer_told) c.in_err-variable.was ∙ sym (no_w _ _ _ names _ _ (found c.expect.ensures c.in_ok-before.was) _ _ (sym (c.watched_at.ensures.result_value names held) ∙ ap (parsed_of number_told) c.in_err-variable.was));
      number_lt_name_limit = λ x e. step_refused (sym c.in_err-variable.was ∙ e);
    })

pub returns-in_err-ahead : goal.returns-in_err-ahead
unfolding kind_of
returns-in_err-ahead c =
    rw (handed_on c.from_residual-in_err-ahead.ensures c.in_err-ahead.was)
    (record {
      result_value = λ names held.
          let w = sym (c.watched_at.ensures.result_value names held) ∙ ap (parsed_of number_told) c.in_ok-variable.was in
          ap (parsed_of timer_told) c.in_err-ahead.was ∙ sym (no_limit _ _ _ names _ _ (found c.expect.ensures c.in_ok-before.was) _ _ w _ _ (sym c.expect-2.ensures ∙ ap (parsed_of nothing) c.in_err-ahead.was));
      number_lt_name_limit = λ x e. step_refused (sym c.in_err-ahead.was ∙ e);
    })

pub returns-in_err-most : goal.returns-in_err-most
unfolding kind_of
returns-in_err-most c =
    rw (handed_on c.from_residual-in_err-most.ensures c.in_err-most.was)
    (record {
      result_value = λ names held.
          let w = sym (c.watched_at.ensures.result_value names held) ∙ ap (parsed_of number_told) c.in_ok-variable.was in
          ap (parsed_of timer_told) c.in_err-most.was ∙ sym (no_n _ _ _ names _ _ (found c.expect.ensures c.in_ok-before.was) _ _ w _ (found c.expect-2.ensures c.in_ok-ahead.was) _ _ (sym c.limit_at.ensures.result_value ∙ ap (parsed_of number_told) c.in_err-most.was));
      number_lt_name_limit = λ x e. step_refused (sym c.in_err-most.was ∙ e);
    })

pub returns-in_err-after : goal.returns-in_err-after
unfolding kind_of
returns-in_err-after c =
    rw (handed_on c.from_residual-in_err-after.ensures c.in_err-after.was)
    (record {
      result_value = λ names held.
          let w = sym (c.watched_at.ensures.result_value names held) ∙ ap (parsed_of number_told) c.in_ok-variable.was in
          ap (parsed_of timer_told) c.in_err-after.was ∙ sym (no_semicolon _ _ _ names _ _ (found c.expect.ensures c.in_ok-before.was) _ _ w _ (found c.expect-2.ensures c.in_ok-ahead.was) _ _ (sym c.limit_at.ensures.result_value ∙ ap (parsed_of number_told) c.in_ok-most.was) _ _ (sym c.expect-3.ensures ∙ ap (parsed_of nothing) c.in_err-after.was));
      number_lt_name_limit = λ x e. step_refused (sym c.in_err-after.was ∙ e);
    })

pub returns : goal.returns
unfolding kind_of
returns c = record {
  result_value = λ names held.
      let w = sym (c.watched_at.ensures.result_value names held) ∙ ap (parsed_of number_told) c.in_ok-variable.was in
      ap (parsed_of timer_told) c.told.ensures ∙ sym (whole_rest _ _ _ names _ _ (found c.expect.ensures c.in_ok-before.was) _ _ w _ (found c.expect-2.ensures c.in_ok-ahead.was) _ _ (sym c.limit_at.ensures.result_value ∙ ap (parsed_of number_told) c.in_ok-most.was) _ (found c.expect-3.ensures c.in_ok-after.was));
  number_lt_name_limit = λ x e.
      let same = done_place (sym e ∙ c.told.ensures) in
      (rw (ap (λ (y : Place). y.number) same) (c.watched_at.ensures.number_lt_name_limit _ c.in_ok-variable.was), rw (ap (λ (y : Place). y.start) same) (c.limit_at.ensures.number_le_time_limit _ c.in_ok-most.was));
}
