-- `machine::held::load` meets its contract. A declared value is pushed. Assumes nothing.
use mathlib.Core.List.{[]}
use mathlib.Core.Path.{◌∙◌}
use borrow.Author.Tests.{lt-ltb, le-ltb}
use borrow.Author.Rules.{rules}
use lib.ListN.{get_or}
use lib.IntN.{pos}
use mir.Val.{SFits}
use mir.Syntax.{w32}
use mir.Facts.{to_z-of_z}
use Rattle.machine.proofs.held.load.Statement.{statement}
use Rattle.machine.proofs.held.load.Tie as tie

returns-2 : tie.Need-returns
returns-2 c =
    let a = c.args in
    let f : SFits w32 (get_or a.from.now a.id (pos 0)) = search rules in
    (λ t. c.push.ensures.0 (record { ranges = []; timers = []; millis = 0 }) [] t ∙ rw (to_z-of_z f, lt-ltb _ _ c.if-from-i.false), c.push.ensures.1)

pub load_spec : {M : Type 1} → statement M
load_spec = tie.close (tie.spec (λ c. (λ t. rw (le-ltb _ _ c.if-from-i.true), search rules)) (λ c. search rules) (λ c. search rules) (λ c κs. search rules) (λ c. search rules) returns-2)
