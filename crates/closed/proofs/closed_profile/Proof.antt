-- `closed::closed_profile` meets its contract: the whole is the part of all (InParts). Assumes nothing.
use mathlib.Core.Path.{sym, ◌∙◌}
use native.Mathlib.Omega.{arith}
use borrow.Author.Rules.{rules}
use Rattle.closed.proofs.InParts.{closed_in_parts}
use Rattle.closed.proofs.closed_profile.Statement.{statement}
use Rattle.closed.proofs.closed_profile.Tie as tie

returns : tie.Need-returns
returns c = (c.closed_part.ensures.0 ∙ sym ((closed_in_parts c.args.image.now).whole 65536 (omega arith)), c.closed_part.ensures.1)

pub closed_profile_spec : {M : Type 1} → statement M
closed_profile_spec = tie.close (tie.spec (λ c κs. search rules) returns)
