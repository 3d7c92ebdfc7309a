-- `fused::refused` meets its contract: the walk alone has gone on. Assumes nothing.
use mathlib.Core.Path.{refl, subst}
use lib.ListN.{length}
use Rattle.checker.specs.Inner.Walk.{known_of}
use Rattle.checker.specs.Results.{Judges, VerdictWithin}
use borrow.Author.Rules.{rules}
use Rattle.fused.proofs.refused.Statement.{statement}
use Rattle.fused.proofs.refused.Tie as tie

returns : tie.Need-returns-in-Sound
returns c = (refl, refl, subst (Judges c.args.code.now c.args.behind (known_of c.args.w)) c.in-Sound.is c.walk_from.ensures.0)

returns-2 : tie.Need-returns-in-Broken
returns-2 c =
    (subst (Judges c.args.code.now c.args.behind (known_of c.args.w)) c.in-Broken.is c.walk_from.ensures.0, subst (VerdictWithin (length c.args.code.now)) c.in-Broken.is c.walk_from.ensures.1)

pub refused_spec : {M : Type 1} → statement M
refused_spec = tie.close (tie.spec (λ c κs. search rules) (λ c. search rules) (λ c. search rules) (λ c. search rules) returns returns-2 (λ c. search rules))
