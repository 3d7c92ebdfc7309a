-- `rules::rule` meets its contract. Assumes nothing.
use mathlib.Core.Path.{refl, sym, ap, ◌∙◌}
use borrow.Author.Tests.{le-leb, lt-leb}
use Rattle.lexer.specs.Names.{id_of}
use Rattle.lexer.specs.Results.{found_id}
use Rattle.expressions.proofs.Scopes.{id_below, id_few}
use Rattle.phrases.proofs.Writing.{refuses, reads_as}
use Rattle.rules.proofs.Ways.{rule_long, rule_unknown, rule_timer, rule_second, rule_formulas}
use Rattle.rules.proofs.rule.Goals as goal

pub returns-then-is_over_long : goal.returns-then-is_over_long
returns-then-is_over_long c = λ ts from. refuses refl (rule_long ts _ _ _ (sym c.is_over_long.ensures ∙ c.if-is_over_long.true))

pub returns-in_default : goal.returns-in_default
returns-in_default c = λ ts from.
    refuses refl (rule_unknown ts _ _ _ (sym c.is_over_long.ensures ∙ c.if-is_over_long.false) (sym (c.find.ensures ∙ ap (id_of _) c.name-name.ensures) ∙ ap found_id c.in_default.is))

pub returns-then-first-id : goal.returns-then-first-id
returns-then-first-id c =
    let e = sym (c.find.ensures ∙ ap (id_of _) c.name-name.ensures) ∙ ap found_id c.in-Some.is in
    λ ts from. refuses refl (rule_timer ts _ _ _ (sym c.is_over_long.ensures ∙ c.if-is_over_long.false) e (from _ (id_below _ c.requires.declared _ e) ∙ le-leb _ _ c.if-first-id.true))

pub is_known-requires : goal.is_known-requires
is_known-requires c =
    let e = sym (c.find.ensures ∙ ap (id_of _) c.name-name.ensures) ∙ ap found_id c.in-Some.is in
    (id_below _ c.requires.declared _ e, c.requires.declared.few)

pub returns-then-is_known : goal.returns-then-is_known
returns-then-is_known c =
    let e = sym (c.find.ensures ∙ ap (id_of _) c.name-name.ensures) ∙ ap found_id c.in-Some.is in
    λ ts from. refuses refl (rule_second ts _ _ _ (sym c.is_over_long.ensures ∙ c.if-is_over_long.false) e (from _ (id_below _ c.requires.declared _ e) ∙ lt-leb _ _ c.if-first-id.false) (sym c.is_known.ensures ∙ c.if-is_known.true))

pub formulas-requires-clause-id_lt_name_limit : goal.formulas-requires-clause-id_lt_name_limit
formulas-requires-clause-id_lt_name_limit c =
    let e = sym (c.find.ensures ∙ ap (id_of _) c.name-name.ensures) ∙ ap found_id c.in-Some.is in
    id_few _ c.requires.declared _ e

pub returns : goal.returns
returns c =
    let e = sym (c.find.ensures ∙ ap (id_of _) c.name-name.ensures) ∙ ap found_id c.in-Some.is in
    λ ts from. reads_as (rule_formulas ts _ _ _ (sym c.is_over_long.ensures ∙ c.if-is_over_long.false) e (from _ (id_below _ c.requires.declared _ e) ∙ lt-leb _ _ c.if-first-id.false) (sym c.is_known.ensures ∙ c.if-is_known.false)) c.formulas.ensures
