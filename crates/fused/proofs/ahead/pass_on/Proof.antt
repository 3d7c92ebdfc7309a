-- `fused::ahead::pass_on` meets its contract: those up to the pick, the pick, and a settle behind it. Assumes nothing.
use mathlib.Core.Path.{ap, ◌∙◌}
use native.Mathlib.Omega.{arith}
use borrow.Author.Rules.{rules}
use Rattle.checker.specs.Inner.Walk.{open_of}
use Rattle.fused.specs.Inner.Leaps.{with_held}
use Rattle.fused.proofs.Joining.{names_stay}
use Rattle.fused.proofs.Skipping.{skips_far, skips_some, skips_kept, over_goes, over_pick, over_settle, passed_as, breaks_here, settled_as}
use Rattle.fused.proofs.ahead.pass_on.Statement.{statement}
use Rattle.fused.proofs.ahead.pass_on.Tie as tie

-- the code ends here
returns : tie.Need-returns-then-code-s
returns c =
    let some = skips_some c.args.code.now c.args.b.walk c.args.b.at _ _ _ c.skip-s.ensures (omega (arith, c.if-code-s.true, c.requires.0.1)) in
    λ low high vals r. over_goes c.args.code.now r c.requires.0.3 _ _ _ c.skip-s.ensures some

pass-requires : tie.Need-pass-requires
pass-requires c κs =
    let kept = skips_kept c.args.code.now c.args.b.walk c.args.b.at c.requires.0.0 _ _ _ c.skip-s.ensures in
    (kept.0, c.if-code-s.false, ap open_of kept.1 ∙ c.requires.0.2)

settle-ahead-requires : tie.Need-settle_ahead-requires
settle-ahead-requires c κs =
    let p = passed_as _ _ c.pass.result _ c.pass.ensures c.in-On.is in
    (p.stride.small, omega (arith, names_stay p.stride.instruction (with_held c.args.b.walk c.skip-s.result.held) c.in-On.q.walk p.stride.advanced, c.requires.1.0), c.requires.1.1)

add-t20 : tie.Need-overflow_add-result
add-t20 c = omega (arith, skips_far c.args.code.now c.args.b.walk c.args.b.at _ _ _ c.skip-s.ensures, c.if-code-s.false, c.well_formed.0)

returns-2 : tie.Need-returns-in_default
returns-2 c = λ low high vals r. over_pick c.args.code.now r c.requires.0.3 _ _ _ c.skip-s.ensures _ (passed_as _ _ c.pass.result _ c.pass.ensures c.in-On.is) _ (settled_as _ _ _ _ _ c.settle_ahead.result _ c.settle_ahead.ensures c.in_default.is)

add-t21 : tie.Need-overflow_add-result-in-On
add-t21 c = omega (arith, skips_far c.args.code.now c.args.b.walk c.args.b.at _ _ _ c.skip-s.ensures, c.if-code-s.false, c.well_formed.0)

returns-3 : tie.Need-returns-then-s-eq0
returns-3 c = breaks_here c.args.code.now c.args.b _ _ _ c.skip-s.ensures c.if-s-eq0.true (passed_as _ _ c.pass.result _ c.pass.ensures c.in-Broken.is)

returns-4 : tie.Need-returns-in-Some
returns-4 c = λ low high vals r. over_settle c.args.code.now r c.requires.0.3 _ _ _ c.skip-s.ensures _ (passed_as _ _ c.pass.result _ c.pass.ensures c.in-On.is) _ _ (settled_as _ _ _ _ _ c.settle_ahead.result _ c.settle_ahead.ensures c.in-Some.is)

returns-5 : tie.Need-returns-in-Refused
returns-5 c = passed_as _ _ c.pass.result _ c.pass.ensures c.in-Refused.is

returns-6 : tie.Need-returns-else-s-eq0
returns-6 c = λ low high vals r. over_goes c.args.code.now r c.requires.0.3 _ _ _ c.skip-s.ensures (omega (arith, c.if-s-eq0.false))

pub pass_on_spec : {M : Type 1} → statement M
pass_on_spec =
    tie.close
    (tie.spec (λ c κs. search rules) returns pass-requires (λ c. search rules) settle-ahead-requires (λ c. search rules) (λ c. search rules) add-t20 (λ c. search rules) returns-2 add-t21 (λ c. search rules) (λ c. search rules) returns-3 (λ c. search rules) returns-4 returns-5 returns-6)
