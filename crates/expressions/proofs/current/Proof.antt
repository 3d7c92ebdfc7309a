-- `expressions::current` meets its contract: 8, 4, 5, or the instruction. Assumes nothing.
use mathlib.Core.Path.{sym, ap, ◌∙◌}
use native.Mathlib.Omega.{arith}
use borrow.Author.Rules.{rules}
use Rattle.lexer.specs.Names.{id_of}
use Rattle.lexer.specs.Results.{found_id}
use Rattle.semantics.specs.Program.{current}
use Rattle.expressions.proofs.Steps.{refuses, refused_now, same_part, recoded}
use Rattle.expressions.proofs.Scopes.{id_below, id_few}
use Rattle.expressions.proofs.Ways.{current_long, current_unknown, current_early, current-known, current-code}
use Rattle.expressions.proofs.current.Statement.{statement}
use Rattle.expressions.proofs.current.Tie as tie

returns : tie.Need-returns-then-is_over_long
returns c = refuses (refused_now (current_long _ _ _ (sym c.is_over_long.ensures ∙ c.if-is_over_long.true)))

returns-2 : tie.Need-returns-in_default
returns-2 c =
    refuses (refused_now (current_unknown _ _ _ (sym c.is_over_long.ensures ∙ c.if-is_over_long.false) (sym (c.find-found.ensures ∙ ap (id_of _) c.name.ensures) ∙ ap found_id c.in_default.is)))

is-known-requires : tie.Need-is_known-requires
is-known-requires c κs =
    (id_below _ c.requires.0 _ (sym (c.find-found.ensures ∙ ap (id_of _) c.name.ensures) ∙ ap found_id c.in-Some.is), c.requires.0.few)

instruction-requires : tie.Need-instruction-requires
instruction-requires c κs =
    (c.requires.1, omega (arith, id_few _ c.requires.0 _ (sym (c.find-found.ensures ∙ ap (id_of _) c.name.ensures) ∙ ap found_id c.in-Some.is)))

returns-3 : tie.Need-returns-then-is_known
returns-3 c =
    let e = sym (c.find-found.ensures ∙ ap (id_of _) c.name.ensures) ∙ ap found_id c.in-Some.is in
    same_part (current-known _ _ _ (sym c.is_over_long.ensures ∙ c.if-is_over_long.false) _ e (sym c.is_known.ensures ∙ c.if-is_known.true))
    (recoded (current _) c.instruction.ensures (current-code _))

returns-4 : tie.Need-returns
returns-4 c =
    let e = sym (c.find-found.ensures ∙ ap (id_of _) c.name.ensures) ∙ ap found_id c.in-Some.is in
    refuses (refused_now (current_early _ _ _ (sym c.is_over_long.ensures ∙ c.if-is_over_long.false) _ e (sym c.is_known.ensures ∙ c.if-is_known.false)))

pub current_spec : {M : Type 1} → statement M
current_spec =
    tie.close
    (tie.spec (λ c κs. search rules) returns (λ c κs. search rules) (λ c κs. search rules) (λ c. search rules) (λ c. search rules) returns-2
    is-known-requires instruction-requires (λ c. search rules) returns-3 returns-4)
