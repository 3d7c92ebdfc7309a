-- `paused::pack_response` meets its contract: places and steps are at most the image's limit, so they fit. Assumes nothing.
use mathlib.Core.Path.{sym, ap, subst, ◌∙◌}
use native.Mathlib.Omega.{arith}
use borrow.Author.Rules.{rules}
use Rattle.limits.specs.Limits.{image_limit}
use Rattle.paused.specs.Responses.{packed_response, ResponseWithin}
use Rattle.paused.proofs.pack_response.Statement.{statement}
use Rattle.paused.proofs.pack_response.Tie as tie

pack-requires : tie.Need-pack-requires
pack-requires c κs =
    let l = subst (ResponseWithin image_limit) c.in-Done.is c.requires in
    (omega arith, omega (arith, l))

pack-requires-2 : tie.Need-pack-requires-in-Refused
pack-requires-2 c κs =
    let l = subst (ResponseWithin image_limit) c.in-Refused.is c.requires in
    (omega (arith, l.0), omega (arith, l.1))

pack-requires-3 : tie.Need-pack-requires-in-Unfinished
pack-requires-3 c κs =
    let l = subst (ResponseWithin image_limit) c.in-Unfinished.is c.requires in
    (omega arith, omega (arith, l))

returns : tie.Need-returns-in-Done
returns c = c.pack.ensures ∙ ap packed_response (sym c.in-Done.is)

returns-2 : tie.Need-returns-in-Refused
returns-2 c = c.pack-in-Refused.ensures ∙ ap packed_response (sym c.in-Refused.is)

returns-3 : tie.Need-returns-in-Unfinished
returns-3 c = c.pack-in-Unfinished.ensures ∙ ap packed_response (sym c.in-Unfinished.is)

returns-4 : tie.Need-returns-in-Idle
returns-4 c = c.pack-in-Idle.ensures ∙ ap packed_response (sym c.in-Idle.is)

pub pack_response_spec : {M : Type 1} → statement M
pack_response_spec =
    tie.close
    (tie.spec (λ c. search rules) pack-requires (λ c. search rules) pack-requires-2 (λ c. search rules) pack-requires-3 (λ c. search rules)
    (λ c κs. search rules) returns returns-2 returns-3 returns-4)
