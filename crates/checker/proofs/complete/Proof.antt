-- `checker::complete` meets its contract. Assumes nothing.
use Rattle.semantics.proofs.Flags.{flags_all}
use Rattle.checker.proofs.Bits.{sorts_none}
use Rattle.checker.proofs.Steps.{empty_not, closed_not, open_yes}
use borrow.Author.Rules.{rules}
use Rattle.checker.proofs.complete.Statement.{statement}
use Rattle.checker.proofs.complete.Tie as tie

returns : tie.Need-returns-then-w-ne0
returns c = rw (empty_not c.args.w.held c.args.w.sorts c.if-w-ne0.true)

returns-2 : tie.Need-returns-then-w-ne0-2
returns-2 c = rw (c.if-w-ne0.false, sorts_none, open_yes c.args.w.gate c.if-w-ne0-2.true)

returns-3 : tie.Need-returns-then-w-ne0-3
returns-3 c = rw (c.if-w-ne0.false, sorts_none, c.if-w-ne0-2.false, closed_not c.args.w.picking c.if-w-ne0-3.true)

returns-4 : tie.Need-returns
returns-4 c =
    let w = c.args.w in
    rw (c.if-w-ne0.false, sorts_none, c.if-w-ne0-2.false, c.if-w-ne0-3.false, c.ones.ensures, flags_all w.names w.known c.requires.known_low)

pub complete_spec : {M : Type 1} → statement M
complete_spec = tie.close (tie.spec returns returns-2 returns-3 (λ c κs. search rules) returns-4)
