-- `fused::act::shuts` meets its contract: each test is a part of it. Assumes nothing.
use mathlib.Core.Path.{sym, ◌∙◌}
use mathlib.Core.Bool.{false≢true}
use lib.IntN.{pos}
use lib.ListN.{get_or}
use mir.Val.{SFits}
use mir.Syntax.{w32}
use mir.Facts.{to_z-of_z}
use borrow.Author.Tests.{not-true}
use borrow.Author.Rules.{rules}
use Rattle.fused.proofs.act.shuts.Statement.{statement}
use Rattle.fused.proofs.act.shuts.Tie as tie

returns : tie.Need-returns-then-code-at-ne19
returns c t = absurd (false≢true t)

returns-2 : tie.Need-returns-then-w-ne0
returns-2 c t = absurd (false≢true t)

returns-3 : tie.Need-returns-then-w-ne1
returns-3 c t = absurd (false≢true t)

returns-4 : tie.Need-returns-then-w-ne1-2
returns-4 c t = absurd (false≢true t)

returns-5 : tie.Need-returns
returns-5 c t =
    let fa : SFits w32 (get_or c.args.vals.now 0 (pos 0)) = record { sfits = c.is_yes-arg-1.given } in
    record { is = c.if-code-at-ne19.false; none_open = c.if-w-ne0.false; one = c.if-w-ne1.false; truth_held = c.if-w-ne1-2.false; no = sym (rw (to_z-of_z fa) at c.is_yes.ensures) ∙ not-true _ t }

pub shuts_spec : {M : Type 1} → statement M
shuts_spec = tie.close (tie.spec (λ c. search rules) returns returns-2 returns-3 returns-4 (λ c. search rules) (λ c κs. search rules) returns-5)
