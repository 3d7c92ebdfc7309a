-- `declarations::timers::watched_at` meets its contract. Assumes nothing.
use mathlib.Core.Path.{sym, ap, ◌∙◌}
use native.Mathlib.Omega.{arith}
use Rattle.lexer.specs.Token.{kind_number, name}
use Rattle.lexer.specs.Names.{id_of}
use Rattle.lexer.specs.Results.{found_id}
use Rattle.lexer.specs.declared.Place.{Place}
use Rattle.lexer.proofs.KindNumbers.{kind_is, kind_is_not}
use Rattle.lexer.proofs.Tokens.{is_token, is_fault}
use Rattle.phrases.specs.Inner.Steps.{parsed_of, number_told}
use Rattle.declarations.proofs.Entries.{step_refused}
use Rattle.declarations.proofs.TimerWays.{done_place, w_fault, w_no_name, w_long, w_unknown, w_found, w_wrong}
use Rattle.declarations.proofs.timers.watched_at.Goals as goal

pub returns-in_default : goal.returns-in_default
returns-in_default c =
    let f = is_fault _ _ _ (c.token_at-read.ensures.value, c.token_at-read.ensures.placed_in) _ c.in_default.is in
    record {
      result_value = λ names w. ap (parsed_of number_told) c.in_default.is ∙ rw f.1 (sym (w_fault _ _ _ _ _ _ f.0));
      number_lt_name_limit = λ x e. step_refused (sym c.in_default.is ∙ e);
    }

pub returns-then-token-ne-NAME : goal.returns-then-token-ne-NAME
unfolding kind_number
returns-then-token-ne-NAME c =
    let t = is_token _ _ _ (c.token_at-read.ensures.value, c.token_at-read.ensures.placed_in) _ c.in-Ok.is in
    record {
      result_value = λ names w.
          sym (w_no_name _ _ _ _ _ _ _ _ t.0 (kind_is_not _ name t.1.known_kind c.if-token-ne-NAME.true));
      number_lt_name_limit = λ x e. step_refused e;
    }

pub returns-then-is_over_long : goal.returns-then-is_over_long
unfolding kind_number
returns-then-is_over_long c =
    let t = is_token _ _ _ (c.token_at-read.ensures.value, c.token_at-read.ensures.placed_in) _ c.in-Ok.is in
    record {
      result_value = λ names w.
          sym (w_long _ _ _ _ _ _ _ _ t.0 (kind_is _ name c.if-token-ne-NAME.false) (sym c.is_over_long.ensures ∙ c.if-is_over_long.true));
      number_lt_name_limit = λ x e. step_refused e;
    }

pub returns-in_default-found : goal.returns-in_default-found
unfolding kind_number
returns-in_default-found c =
    let t = is_token _ _ _ (c.token_at-read.ensures.value, c.token_at-read.ensures.placed_in) _ c.in-Ok.is in
    record {
      result_value = λ names w.
          sym (w_unknown _ _ _ _ _ _ _ _ t.0 (kind_is _ name c.if-token-ne-NAME.false) (sym c.is_over_long.ensures ∙ c.if-is_over_long.false) (rw w.table.spelled at (sym (c.find-found.ensures ∙ ap (id_of _) c.name.ensures) ∙ ap found_id c.in_default-found.is)));
      number_lt_name_limit = λ x e. step_refused e;
    }

pub is_watchable-requires : goal.is_watchable-requires
is_watchable-requires c = omega (arith, c.requires.table_room.in_ends, c.requires.first_le_name_limit)

pub returns-then-is_watchable : goal.returns-then-is_watchable
unfolding kind_number
returns-then-is_watchable c =
    let t = is_token _ _ _ (c.token_at-read.ensures.value, c.token_at-read.ensures.placed_in) _ c.in-Ok.is in
    record {
      result_value = λ names w.
          ap (parsed_of number_told) c.reached.ensures
          ∙ sym (w_found _ _ _ _ _ _ _ _ t.0 (kind_is _ name c.if-token-ne-NAME.false) (sym c.is_over_long.ensures ∙ c.if-is_over_long.false) _ (rw w.table.spelled at (sym (c.find-found.ensures ∙ ap (id_of _) c.name.ensures) ∙ ap found_id c.in-Some.is)) (sym (c.is_watchable.ensures.by_index _ _ names w) ∙ c.if-is_watchable.true));
      number_lt_name_limit = λ x e.
          let m = c.is_watchable.ensures.id_lt_first c.if-is_watchable.true in
          rw (ap (λ (y : Place). y.number) (done_place (sym e ∙ c.reached.ensures))) (omega (arith, m, c.requires.first_le_name_limit));
    }

pub returns : goal.returns
unfolding kind_number
returns c =
    let t = is_token _ _ _ (c.token_at-read.ensures.value, c.token_at-read.ensures.placed_in) _ c.in-Ok.is in
    record {
      result_value = λ names w.
          sym (w_wrong _ _ _ _ _ _ _ _ t.0 (kind_is _ name c.if-token-ne-NAME.false) (sym c.is_over_long.ensures ∙ c.if-is_over_long.false) _ (rw w.table.spelled at (sym (c.find-found.ensures ∙ ap (id_of _) c.name.ensures) ∙ ap found_id c.in-Some.is)) (sym (c.is_watchable.ensures.by_index _ _ names w) ∙ c.if-is_watchable.false));
      number_lt_name_limit = λ x e. step_refused e;
    }
