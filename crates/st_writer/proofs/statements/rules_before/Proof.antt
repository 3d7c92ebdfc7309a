-- `st_writer::statements::rules_before` meets its contract. Assumes nothing.
use native.Mathlib.Omega.{arith}
use mathlib.Core.Path.{◌≡◌, refl, ◌∙◌}
use Prim.Native.Nat.{◌-◌}
use lib.ListN.{length}
use Rattle.lexer.specs.Names.{table_names}
use Rattle.st_writer.proofs.Listed.{Rules, rules_start, rules_go, rules_end}
use Rattle.st_writer.proofs.statements.rules_before.Statement.{statement}
use Rattle.st_writer.proofs.statements.rules_before.Tie as tie

abbrev invariant_loop : tie.invariant-loop-a
invariant_loop text starts ends count code out₀ to a₀ place₀ out a place = (length out ≡ length out₀) × Rules (table_names text starts ends count) code a out₀ out to place

abbrev decreases_loop : tie.decreases-loop-a
decreases_loop text starts ends count code out₀ to a₀ place₀ out a place = length code - a

rule-requires : tie.Need-rule-one-requires invariant_loop decreases_loop
rule-requires c κs = (c.requires, c.loop-a-test.true)

loop-less : tie.Need-loop-a-smaller invariant_loop decreases_loop
loop-less c = let o = c.rule-one.ensures in omega (arith, o.0.0, o.0.1)

loop-again : tie.Need-loop-a-preserved invariant_loop decreases_loop
loop-again c = let i = c.loop-a.invariant in let o = c.rule-one.ensures in (o.1.same ∙ i.0, rules_go _ _ _ _ _ _ _ _ _ _ c.loop-a-test.true i.1 o.1)

same_length : tie.Need-shape_of-out invariant_loop decreases_loop
same_length c = c.loop-a.invariant.0

returns : tie.Need-returns invariant_loop decreases_loop
returns c = λ p t z e. rules_end _ _ _ _ _ _ _ c.loop-a-test.false c.loop-a.invariant.1 p t z e

pub rules_before_spec : {M : Type 1} → statement M
rules_before_spec =
    tie.close
    (tie.spec invariant_loop decreases_loop (λ c. (refl, rules_start _ _ _ _)) rule-requires loop-less loop-again same_length returns)
