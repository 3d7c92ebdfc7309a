-- `shapes::put_count` meets its contract: out of range, `set` is the identity. Assumes nothing.
use mathlib.Core.Path.{sym}
use mir.Facts.{to_z_pos}
use mir.Syntax.{w32}
use lib.Seq.{set_out}
use borrow.Author.Rules.{rules}
use Rattle.shapes.proofs.put_count.Statement.{statement}
use Rattle.shapes.proofs.put_count.Tie as tie

returns : tie.Need-returns-then-at-out
returns c = rw (to_z_pos w32 c.requires)

pub put_count_spec : {M : Type 1} → statement M
put_count_spec = tie.close (tie.spec (λ c. search rules) (λ c. search rules) (λ c. search rules) (λ c. search rules) returns (λ c. sym (set_out _ _ _ c.if-at-out.false)))
