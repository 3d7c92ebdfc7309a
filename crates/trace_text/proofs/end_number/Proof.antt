-- `trace_text::end_number` meets its contract. Assumes nothing.
use mathlib.Core.Path.{refl, sym, ap, ◌∙◌}
use lib.ListN.{set}
use borrow.Author.Tests.{lt-ltb, le-ltb}
use borrow.Author.Rules.{rules}
use mir.Syntax.{w32}
use mir.Val.{SFits}
use Rattle.arith.proofs.Laws.{same32}
use Rattle.trace_text.specs.Inner.Stages.{cells_end}
use Rattle.trace_text.proofs.end_number.Statement.{statement}
use Rattle.trace_text.proofs.end_number.Tie as tie

signed-requires : tie.Need-signed-requires
signed-requires c κs = sym c.in_range.ensures ∙ c.if-in_range.true

returns : tie.Need-returns-then-n-lt-NAME_LIMIT
unfolding cells_end
returns c =
    let f : SFits w32 c.signed.result = search rules in
    rw (sym c.in_range.ensures ∙ c.if-in_range.true, lt-ltb _ 64 c.if-n-lt-NAME_LIMIT.true) (refl, c.store.ensures ∙ ap (set c.args.cells.now c.args.n) (same32 f ∙ c.signed.ensures))

returns-2 : tie.Need-returns-else-n-lt-NAME_LIMIT
unfolding cells_end
returns-2 c = rw (sym c.in_range.ensures ∙ c.if-in_range.true, le-ltb _ 64 c.if-n-lt-NAME_LIMIT.false) (refl, refl)

returns-3 : tie.Need-returns-else-in_range
unfolding cells_end
returns-3 c = rw (sym c.in_range.ensures ∙ c.if-in_range.false) (refl, refl)

pub end_number_spec : {M : Type 1} → statement M
end_number_spec =
    tie.close
    (tie.spec (λ c κs. search rules) signed-requires (λ c κs. search rules) (λ c. search rules) returns returns-2 returns-3)
