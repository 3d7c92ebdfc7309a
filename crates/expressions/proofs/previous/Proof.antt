-- `expressions::previous` meets its contract: 8, 4, or the instruction. Assumes nothing.
use mathlib.Core.Path.{sym, ap, ◌∙◌}
use native.Mathlib.Omega.{arith}
use borrow.Author.Rules.{rules}
use Rattle.lexer.specs.Names.{id_of}
use Rattle.lexer.specs.Results.{found_id}
use Rattle.semantics.specs.Program.{previous}
use Rattle.expressions.proofs.Steps.{refuses, refused_now, same_part, recoded}
use Rattle.expressions.proofs.Scopes.{id_few}
use Rattle.expressions.proofs.Ways.{previous-long, previous_unknown, previous_known, previous-code}
use Rattle.expressions.proofs.previous.Statement.{statement}
use Rattle.expressions.proofs.previous.Tie as tie

returns : tie.Need-returns-then-is_over_long
returns c = refuses (refused_now (previous-long _ _ _ (sym c.is_over_long.ensures ∙ c.if-is_over_long.true)))

returns-2 : tie.Need-returns-in_default
returns-2 c =
    refuses (refused_now (previous_unknown _ _ _ (sym c.is_over_long.ensures ∙ c.if-is_over_long.false) (sym (c.find-found.ensures ∙ ap (id_of _) c.name.ensures) ∙ ap found_id c.in_default.is)))

instruction-requires : tie.Need-instruction-requires
instruction-requires c κs =
    (c.requires.1.1, omega (arith, id_few _ c.requires.0 _ (sym (c.find-found.ensures ∙ ap (id_of _) c.name.ensures) ∙ ap found_id c.in-Some.is)))

returns-3 : tie.Need-returns
returns-3 c =
    same_part (previous_known _ _ _ (sym c.is_over_long.ensures ∙ c.if-is_over_long.false) _ (sym (c.find-found.ensures ∙ ap (id_of _) c.name.ensures) ∙ ap found_id c.in-Some.is))
    (recoded (previous _) c.instruction.ensures (previous-code _))

pub previous_spec : {M : Type 1} → statement M
previous_spec =
    tie.close
    (tie.spec (λ c. search rules) (λ c κs. search rules) returns (λ c κs. search rules) (λ c κs. search rules) (λ c. search rules)
    (λ c. search rules) returns-2 instruction-requires (λ c. search rules) returns-3)
