-- `fused::ahead::pass_first` meets its contract. Assumes nothing.
use mathlib.Core.Path.{refl}
use mathlib.Core.Logic.{inl}
use borrow.Author.Rules.{rules}
use Rattle.fused.proofs.Skipping.{first_over}
use Rattle.fused.proofs.ahead.pass_first.Statement.{statement}
use Rattle.fused.proofs.ahead.pass_first.Tie as tie

pass-on-requires : tie.Need-pass_on-requires
pass-on-requires c κs = ((c.requires.0.0, c.requires.0.1, c.requires.0.2 c.if-b.true, c.if-b.true), c.requires.1)

returns : tie.Need-returns-then-b
returns c = first_over c.args.code.now c.args.prev.now c.args.b c.args.cur.now _ c.pass_on.result c.if-b.true c.pass_on.ensures

pub pass_first_spec : {M : Type 1} → statement M
pass_first_spec = tie.close (tie.spec pass-on-requires (λ c. search rules) returns (λ c. inl (c.if-b.false, refl, refl, refl)))
