-- A name that is found has its id among the row's inputs.
use Rattle.std.proofs.Common.{arith, sym, ap, ◌∙◌}
use Rattle.lexer.specs.Results.{found_id}
use Rattle.expressions.proofs.Scopes.{id_counted}
use Rattle.arith.proofs.Laws.{same32}
use Rattle.clock.proofs.fill_named.Goals as goal

pub offset_bounds-row-id : goal.offset_bounds-row-id
offset_bounds-row-id c =
    let h = id_counted _ _ _ _ _ _ (sym c.find.ensures ∙ ap found_id c.in-Some.is) in
    omega (arith, h)

pub bounds-row-id : goal.bounds-row-id
bounds-row-id c = id_counted _ _ _ _ _ _ (sym c.find.ensures ∙ ap found_id c.in-Some.is)

pub returns-in-Some : goal.returns-in-Some
returns-in-Some c = rw (sym c.find.ensures ∙ ap found_id c.in-Some.is, same32 c.ranges.value)

pub returns-in_default : goal.returns-in_default
returns-in_default c = rw (sym c.find.ensures ∙ ap found_id c.in_default.is)
