-- `checker::advance::gate` meets its contract. Assumes nothing.
use mathlib.Core.Path.{sym, ◌∙◌}
use Rattle.checker.proofs.Steps.{gate_is, open_yes}
use Rattle.checker.proofs.Bits.{sorts_none}
use borrow.Author.Rules.{rules}
use native.Mathlib.Omega.{arith}
use Rattle.checker.proofs.advance.gate.Statement.{statement}
use Rattle.checker.proofs.advance.gate.Tie as tie

returns : tie.Need-returns-then-w-ne0
returns c = (rw (gate_is, open_yes c.args.w.gate c.if-w-ne0.true), tt)

returns-2 : tie.Need-returns-then-holds_only
returns-2 c =
    let p = c.requires in
    (rw (gate_is, c.if-w-ne0.false, sym c.holds_only.ensures ∙ c.if-holds_only.true, sorts_none), record { few_held = omega arith; sorts_low = omega arith; few_names = p.few_names; known_low = p.known_low })

returns-3 : tie.Need-returns
returns-3 c = (rw (gate_is, c.if-w-ne0.false, sym c.holds_only.ensures ∙ c.if-holds_only.false), tt)

pub gate_spec : {M : Type 1} → statement M
gate_spec = tie.close (tie.spec returns (λ c κs. search rules) returns-2 returns-3)
