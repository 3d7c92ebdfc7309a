use Rattle.std.proofs.Common.{ℕ, ◌^◌, ◌≤◌, ◌<◌, length, ap, ◌∙◌, rules, arith, w64}
use mir.Facts.{to_z-of_z}
use mir.Val.{SFits}
use Rattle.limits.specs.Limits.{image_room}
use Rattle.lexer.proofs.Tokens.{is_fault}
use Rattle.semantics.specs.Shape.{states_of}
use Rattle.watching.specs.Watching.{places_of, first_failure}
use Rattle.lent.proofs.Laws.{trace_whole}
use Rattle.phrases.proofs.Writing.{got, refused_part}
use Rattle.cases.proofs.Listing.{found_token}
use Rattle.watch.specs.Services.{reported}
use Rattle.watch.proofs.Placing.{places_small, failed_within}
use Rattle.watch.proofs.Reporting.{free_writes, reports_end, reports_token, reports_read, reports_code, reports_inside, reports_more}
use Rattle.watch.proofs.reports.Goals as goal

pub returns-in_default : goal.returns-in_default
returns-in_default c = λ ws m e. reports_token c.loop-i.invariant c.loop-i-test.true (is_fault _ _ _ (c.token_at-word.ensures.value, c.token_at-word.ensures.placed_in) _ c.in_default.is).0

pub returns-in_default-read : goal.returns-in_default-read
returns-in_default-read c =
    let f = found_token _ _ (c.token_at-word.ensures.value, c.token_at-word.ensures.placed_in) c.in-Ok.is in
    λ ws m e. reports_read c.loop-i.invariant c.loop-i-test.true f (refused_part (free_writes _ _ _ _ _ _ c.first_names-free.ensures c.watch-read.ensures) c.in_default-read.is)

pub walk-failed-requires : goal.walk-failed-requires
walk-failed-requires c =
    let f = found_token _ _ (c.token_at-word.ensures.value, c.token_at-word.ensures.placed_in) c.in-Ok.is in
    let g = got (free_writes _ _ _ _ _ _ c.first_names-free.ensures c.watch-read.ensures) c.in-Ok-read.is in
    let large : image_room ≤ length c.loop-i.code = omega (arith, c.loop-i.auto.code, c.requires.count_in_bounds.1) in
    let x = c.loop-i.invariant in
    let h = c.loop-i-test.true in
    let s = c.requires.names_le_size in
    record {
      middle_le_end = ((reports_code x h f s.0 s.1 g large).ordered, reports_inside x h f s.0 s.1 g large);
      stack_limit_in_bounds = (omega (arith, c.loop-i.auto.vals, c.requires.count_in_bounds.2), rw c.places-places.ensures (trace_whole _ _ s.2).all);
    }

pub reported-requires : goal.reported-requires
reported-requires c =
    let f = found_token _ _ (c.token_at-word.ensures.value, c.token_at-word.ensures.placed_in) c.in-Ok.is in
    let g = got (free_writes _ _ _ _ _ _ c.first_names-free.ensures c.watch-read.ensures) c.in-Ok-read.is in
    let large : image_room ≤ length c.loop-i.code = omega (arith, c.loop-i.auto.code, c.requires.count_in_bounds.1) in
    let s = c.requires.names_le_size in
    let small : c.places-places.result < 2 ^ 63 = omega (arith, c.places-places.ensures, places_small _ _ s.2, c.well_formed) in
    failed_within g.tree _ _ _ c.walk-failed.result small (c.walk-failed.ensures g.tree (reports_code c.loop-i.invariant c.loop-i-test.true f s.0 s.1 g large))

pub loop-i-preserved : goal.loop-i-preserved
loop-i-preserved c =
    let f = found_token _ _ (c.token_at-word.ensures.value, c.token_at-word.ensures.placed_in) c.in-Ok.is in
    let g = got (free_writes _ _ _ _ _ _ c.first_names-free.ensures c.watch-read.ensures) c.in-Ok-read.is in
    let large : image_room ≤ length c.loop-i.code = omega (arith, c.loop-i.auto.code, c.requires.count_in_bounds.1) in
    let s = c.requires.names_le_size in
    let told = c.walk-failed.ensures g.tree (reports_code c.loop-i.invariant c.loop-i-test.true f s.0 s.1 g large) in
    let e = c.reported.ensures ∙ ap reported (told ∙ ap (λ (k : ℕ). first_failure g.tree (places_of (states_of k c.args.size c.args.trace.now))) c.places-places.ensures) in
    let z : SFits w64 c.reported.result = search rules in
    rw (to_z-of_z {w = w64} z) (reports_more c.loop-i.invariant c.loop-i-test.true f s.0 s.1 g large _ e)

pub returns : goal.returns
returns c = reports_end c.loop-i.invariant c.loop-i-test.false
