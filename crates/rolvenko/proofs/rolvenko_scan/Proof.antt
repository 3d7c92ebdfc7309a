-- `rolvenko::rolvenko_scan` meets its contract: places and steps are at most the image's limit, so they fit. Assumes nothing.
use mathlib.Core.Path.{ap, subst, ◌∙◌}
use native.Mathlib.Omega.{arith}
use borrow.Author.Rules.{rules}
use Rattle.scan.specs.Services.{AfterScan}
use Rattle.scan.specs.Results.{after_scan, ScannedWithin}
use Rattle.limits.specs.Limits.{image_limit}
use Rattle.rolvenko.specs.Packed.{packed_scan}
use Rattle.rolvenko.proofs.rolvenko_scan.Statement.{statement}
use Rattle.rolvenko.proofs.rolvenko_scan.Tie as tie
use Rattle.rolvenko.proofs.Answered.{answers}

pack-requires : tie.Need-pack-requires
pack-requires c κs =
    let l = subst (ScannedWithin image_limit) c.in-Done.is c.scan.ensures.1 in
    (omega arith, omega (arith, l))

pack-requires-2 : tie.Need-pack-requires-in-Refused
pack-requires-2 c κs =
    let l = subst (ScannedWithin image_limit) c.in-Refused.is c.scan.ensures.1 in
    (omega (arith, l.0), omega (arith, l.1))

returns : tie.Need-returns-in-Done
returns c =
    let e = c.scan.ensures.0 in
    (c.pack.ensures ∙ answers packed_scan after_scan c.in-Done.is e, ap {A = AfterScan} (λ x. x.state) e)

returns-2 : tie.Need-returns-in-Refused
returns-2 c =
    let e = c.scan.ensures.0 in
    (c.pack-in-Refused.ensures ∙ answers packed_scan after_scan c.in-Refused.is e, ap {A = AfterScan} (λ x. x.state) e)

pub rolvenko_scan_spec : {M : Type 1} → statement M
rolvenko_scan_spec =
    tie.close
    (tie.spec (λ c κs. search rules) (λ c. search rules) pack-requires (λ c. search rules) pack-requires-2 (λ c. search rules) returns
    (λ c. search rules) returns-2)
