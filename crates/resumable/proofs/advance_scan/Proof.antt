-- `resumable::advance_scan` meets its contract (Advancing). Assumes nothing.
use mathlib.Core.Path.{◌≡◌, sym, subst, ◌∙◌}
use native.Mathlib.Omega.{arith}
use borrow.Author.Rules.{rules}
use Rattle.limits.specs.Limits.{image_limit}
use Rattle.paused.proofs.Clipped.{CheckpointWithin, checkpoint_within, LayoutWithin, layout_within}
use Rattle.leb128.proofs.Stores.{rest_of}
use Rattle.resumable.proofs.Advancing.{advance_other, advance_past, advance_goes, rest_short}
use Rattle.resumable.proofs.advance_scan.Statement.{statement}
use Rattle.resumable.proofs.advance_scan.Tie as tie

returns : tie.Need-returns-then-image-layout
returns c =
    let a = c.args in
    let u = c.requires in
    let y : a.p.phase ≡ 0 → ⊥ = λ q. omega (arith, u.phase) in
    (advance_other a.image.now a.steps a.paused.now u.cells a.p u.stands y u.phase u.some c.layout_in-layout.result c.layout_in-layout.ensures c.if-image-layout.true, omega arith)

sub-if2 : tie.Need-overflow_sub-image
sub-if2 c =
    let w = subst LayoutWithin (sym c.layout_in-layout.ensures) (layout_within c.args.paused.now) in
    omega (arith, w.bases, c.if-image-layout.false)

returns-2 : tie.Need-returns-then-image-base
returns-2 c =
    let a = c.args in
    let u = c.requires in
    let y : a.p.phase ≡ 0 → ⊥ = λ q. omega (arith, u.phase) in
    (advance_past a.image.now a.steps a.paused.now u.cells a.p u.stands y u.phase u.some c.layout_in-layout.result c.layout_in-layout.ensures c.if-image-layout.false c.if-image-base.true, omega arith)

advance-untimed-requires : tie.Need-advance_untimed-requires
advance-untimed-requires c κs =
    let a = c.args in
    let u = c.requires in
    let f = c.layout_in-layout in
    let w = subst LayoutWithin (sym f.ensures) (layout_within a.paused.now) in
    let v = subst CheckpointWithin (sym u.stands) (checkpoint_within a.paused.now) in (
      record { cells = u.cells; held = v.stack },
      (
        record {
          bytes = rest_short f.result.base image_limit a.image.now (omega (arith, c.if-image-layout.false, w.images));
          budget = omega (arith, c.min-n.ensures);
          place = v.places;
          steps = v.counts;
        },
        (c.if-size-layout.true, omega (arith, w.few, c.if-size-layout.true)),
      ),
    )

returns-3 : tie.Need-returns-then-size-layout
returns-3 c =
    let a = c.args in
    let u = c.requires in
    let y : a.p.phase ≡ 0 → ⊥ = λ q. omega (arith, u.phase) in
    let f = c.layout_in-layout in
    let r = rw (rest_of a.image.now f.result.base, c.min-n.ensures) at c.advance_untimed.ensures.0 in (
      r ∙ advance_goes a.image.now a.steps a.paused.now u.cells a.p u.stands y u.phase u.some f.result f.ensures c.if-image-layout.false c.if-image-base.false,
      omega (arith, c.min-n.ensures, c.advance_untimed.ensures.1),
    )

advance-timed-requires : tie.Need-advance_timed-requires
advance-timed-requires c κs =
    let a = c.args in
    let u = c.requires in
    let f = c.layout_in-layout in
    let w = subst LayoutWithin (sym f.ensures) (layout_within a.paused.now) in
    let v = subst CheckpointWithin (sym u.stands) (checkpoint_within a.paused.now) in (
      record { cells = u.cells; held = v.stack },
      record {
        bytes = rest_short f.result.base image_limit a.image.now (omega (arith, c.if-image-layout.false, w.images));
        budget = omega (arith, c.min-n.ensures);
        place = v.places;
        steps = v.counts;
      },
    )

returns-4 : tie.Need-returns
returns-4 c =
    let a = c.args in
    let u = c.requires in
    let y : a.p.phase ≡ 0 → ⊥ = λ q. omega (arith, u.phase) in
    let f = c.layout_in-layout in
    let r = rw (rest_of a.image.now f.result.base, c.min-n.ensures, ← f.ensures) at c.advance_timed.ensures.0 in (
      r ∙ advance_goes a.image.now a.steps a.paused.now u.cells a.p u.stands y u.phase u.some f.result f.ensures c.if-image-layout.false c.if-image-base.false,
      omega (arith, c.min-n.ensures, c.advance_timed.ensures.1),
    )

pub advance_scan_spec : {M : Type 1} → statement M
advance_scan_spec =
    tie.close
    (tie.spec (λ c κs. search rules) (λ c. search rules) returns sub-if2 (λ c. search rules) returns-2 (λ c κs. search rules) (λ c. search rules) (λ c. search rules) (λ c. search rules)
    advance-untimed-requires (λ c. search rules) returns-3 (λ c. search rules) (λ c. search rules) (λ c. search rules) advance-timed-requires (λ c. search rules) returns-4)
