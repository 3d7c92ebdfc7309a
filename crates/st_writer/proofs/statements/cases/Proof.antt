-- `st_writer::statements::cases` meets its contract. Assumes nothing.
use borrow.Author.Rules.{rules}
use native.Mathlib.Omega.{arith}
use mathlib.Core.Path.{◌≡◌, refl, sym, ap, ◌∙◌}
use Prim.Native.Nat.{◌-◌, ◌≤◌}
use mathlib.Core.Bool.{Bool}
use lib.ListN.{length}
use Rattle.lexer.specs.Names.{table_names}
use Rattle.st_writer.proofs.Laws.{as_front}
use Rattle.st_writer.specs.Inner.Statements.{word_before}
use Rattle.st_writer.proofs.Listed.{Cases, cases_start, cases_go, cases_end, pick_inside}
use Rattle.st_writer.proofs.statements.cases.Statement.{statement}
use Rattle.st_writer.proofs.statements.cases.Tie as tie

abbrev invariant_loop : tie.invariant-loop-out
invariant_loop text starts ends count code at out₀ to a₀ place₀ out a place = (at ≤ a) × (a ≤ length code) × (length out ≡ length out₀) × Cases (table_names text starts ends count) code at a out₀ out to place

abbrev decreases_loop : tie.decreases-loop-out
decreases_loop text starts ends count code at out₀ to a₀ place₀ out a place = length code - a

loop-holds : tie.Need-loop-out-init invariant_loop decreases_loop
loop-holds c = (omega arith, c.requires.1, refl, cases_start _ _ _ _ _)

case-requires : tie.Need-case-one-requires invariant_loop decreases_loop
case-requires c κs = (c.requires.0, pick_inside _ _ (sym c.pick_at.ensures ∙ c.loop-out-test.true))

loop-less : tie.Need-loop-out-smaller invariant_loop decreases_loop
loop-less c = let o = c.case-one.ensures in omega (arith, o.0.0, o.0.1)

loop-again : tie.Need-loop-out-preserved invariant_loop decreases_loop
loop-again c = let i = c.loop-out.invariant in let o = c.case-one.ensures in (omega (arith, i.0, o.0.0), o.0.1, c.case_word-place.ensures.same ∙ o.1.same ∙ i.2, cases_go _ _ c.args.at _ _ _ _ _ _ _ _ _ _ (sym c.pick_at.ensures ∙ c.loop-out-test.true) i.3 o.1 (as_front (λ l. ap (λ (b : Bool). word_before b l) (sym c.pick_at-in-loop-out.ensures)) c.case_word-place.ensures))

same_length : tie.Need-shape_of-out invariant_loop decreases_loop
same_length c = c.loop-out.invariant.2

returns : tie.Need-returns invariant_loop decreases_loop
returns c = let i = c.loop-out.invariant in ((i.0, i.1), cases_end _ _ _ _ _ _ _ _ (sym c.pick_at.ensures ∙ c.loop-out-test.false) i.2 i.3)

pub cases_spec : {M : Type 1} → statement M
cases_spec =
    tie.close
    (tie.spec invariant_loop decreases_loop loop-holds (λ c κs. search rules) case-requires (λ c κs. search rules) (λ c κs. search rules) loop-less loop-again same_length returns)
