-- `rules::finish` meets its contract. Assumes nothing.
use mathlib.Core.Path.{◌∙◌}
use borrow.Author.Tests.{eq-eqb, ne_eqb}
use Rattle.rules.specs.Inner.Spans.{end_of}
use Rattle.rules.proofs.finish.Goals as goal

pub returns-then-kind-ne-END : goal.returns-then-kind-ne-END
unfolding end_of
returns-then-kind-ne-END c = rw (ne_eqb _ _ c.if-kind-ne-END.true)

pub returns-then-all_known : goal.returns-then-all_known
unfolding end_of
returns-then-all_known c = c.reached.ensures ∙ rw (eq-eqb _ _ c.if-kind-ne-END.false, ← c.all_known.ensures, c.if-all_known.true)

pub returns : goal.returns
unfolding end_of
returns c = rw (eq-eqb _ _ c.if-kind-ne-END.false, ← c.all_known.ensures, c.if-all_known.false)
