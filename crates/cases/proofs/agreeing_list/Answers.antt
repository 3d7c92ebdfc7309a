-- `cases::agreeing_list` meets its contract. Assumes nothing.
use mathlib.Core.Path.{sym, ap, ◌∙◌}
use Rattle.grammar.specs.Rules.{differs, agreeing_list}
use Rattle.phrases.specs.Inner.Steps.{parsed_of, nothing}
use Rattle.agreement.specs.Inner.Comparison.{compared_of}
use Rattle.cases.proofs.Ways.{first_found_as}
use Rattle.cases.proofs.Agreeing.{spans_read, agreed}
use Rattle.cases.proofs.agreeing_list.Goals as goal

pub compare_lists-compared-requires-clause-spans_read : goal.compare_lists-compared-requires-clause-spans_read
compare_lists-compared-requires-clause-spans_read c = let p = c.requires in spans_read _ _ _ _ p.declared p.named _ _ _ p.spans p.list_kept

pub returns-in_default : goal.returns-in_default
returns-in_default c =
    let p = c.requires in
    λ cases e. ap (parsed_of nothing) c.in_default.is ∙ agreed _ _ _ _ p.declared p.named _ _ _ p.spans p.list_kept _ _ p.room.within c.compare_lists-compared.ensures (ap compared_of c.in_default.is) cases e

pub returns : goal.returns
unfolding agreeing_list
returns c = λ cases e.
    first_found_as _ (c.first_found.ensures _ c.plain_list.ensures) (ap differs c.place.ensures ∙ sym (ap compared_of c.in-Err.is) ∙ c.compare_lists-compared.ensures cases e)
