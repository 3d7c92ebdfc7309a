-- `declarations::timers::limit_at` meets its contract. Assumes nothing.
use mathlib.Core.Path.{sym, ap, ◌∙◌}
use Rattle.lexer.specs.Token.{kind_number, digits}
use Rattle.lexer.specs.declared.Place.{Place}
use Rattle.lexer.proofs.KindNumbers.{kind_is, kind_is_not}
use Rattle.lexer.proofs.Tokens.{is_token, is_fault}
use Rattle.phrases.specs.Inner.Steps.{parsed_of, number_told}
use Rattle.declarations.proofs.Entries.{step_refused}
use Rattle.declarations.proofs.TimerWays.{done_place, n_fault, n_no_digits, n_low, n_high, n_in}
use Rattle.declarations.proofs.timers.limit_at.Goals as goal

pub returns-in_default : goal.returns-in_default
returns-in_default c =
    let f = is_fault _ _ _ (c.token_at-read.ensures.value, c.token_at-read.ensures.placed_in) _ c.in_default.is in
    record {
      result_value = ap (parsed_of number_told) c.in_default.is ∙ rw f.1 (sym (n_fault _ _ _ f.0));
      number_le_time_limit = λ x e. step_refused (sym c.in_default.is ∙ e);
    }

pub returns-then-token-ne-DIGITS : goal.returns-then-token-ne-DIGITS
unfolding kind_number
returns-then-token-ne-DIGITS c =
    let t = is_token _ _ _ (c.token_at-read.ensures.value, c.token_at-read.ensures.placed_in) _ c.in-Ok.is in
    record { result_value = sym (n_no_digits _ _ _ _ _ t.0 (kind_is_not _ digits t.1.known_kind c.if-token-ne-DIGITS.true)); number_le_time_limit = λ x e. step_refused e }

pub returns-then-value-lt1 : goal.returns-then-value-lt1
unfolding kind_number
returns-then-value-lt1 c =
    let t = is_token _ _ _ (c.token_at-read.ensures.value, c.token_at-read.ensures.placed_in) _ c.in-Ok.is in
    record { result_value = sym (n_low _ _ _ _ _ t.0 (kind_is _ digits c.if-token-ne-DIGITS.false) _ (rw c.name.ensures at c.value-value.ensures) c.if-value-lt1.true); number_le_time_limit = λ x e. step_refused e }

pub returns-then-value-gt-TIME_LIMIT : goal.returns-then-value-gt-TIME_LIMIT
unfolding kind_number
returns-then-value-gt-TIME_LIMIT c =
    let t = is_token _ _ _ (c.token_at-read.ensures.value, c.token_at-read.ensures.placed_in) _ c.in-Ok.is in
    record { result_value = sym (n_high _ _ _ _ _ t.0 (kind_is _ digits c.if-token-ne-DIGITS.false) _ (rw c.name.ensures at c.value-value.ensures) c.if-value-lt1.false c.if-value-gt-TIME_LIMIT.true); number_le_time_limit = λ x e. step_refused e }

pub returns : goal.returns
unfolding kind_number
returns c =
    let t = is_token _ _ _ (c.token_at-read.ensures.value, c.token_at-read.ensures.placed_in) _ c.in-Ok.is in
    record {
      result_value = ap (parsed_of number_told) c.reached.ensures
          ∙ sym (n_in _ _ _ _ _ t.0 (kind_is _ digits c.if-token-ne-DIGITS.false) _ (rw c.name.ensures at c.value-value.ensures) c.if-value-lt1.false c.if-value-gt-TIME_LIMIT.false);
      number_le_time_limit = λ x e. rw (ap (λ (y : Place). y.number) (done_place (sym e ∙ c.reached.ensures))) c.if-value-gt-TIME_LIMIT.false;
    }
