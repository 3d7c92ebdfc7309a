-- Each way out is one of the ways in which a range is read. Assumes nothing.
use Rattle.std.proofs.Common.{sym, ap, ◌∙◌}
use Rattle.std.proofs.lemmas.Result.{err_from_is_err_and}
use Rattle.arith.proofs.Laws.{same32}
use Rattle.leb128.specs.Results.{number_read}
use Rattle.bytecode.proofs.Heading.{nothing_gives, signed_within, signed_fits, no_low, no_high, low_over, no_start, start_below, start_over, range_fits}
use Rattle.bytecode.proofs.range_at.Goals as goal

pub returns-in_err-low : goal.returns-in_err-low
returns-in_err-low c =
    let n = c.in_err-low.ensures in
    let r = c.from_residual in
    rw (nothing_gives _ _ _ _ (err_from_is_err_and r.result r.ensures.1) n.value n.ok_part)
    (no_low _ _ (sym c.signed_at.ensures ∙ ap number_read n.ok_part), c.requires)

pub returns-in_err-high : goal.returns-in_err-high
returns-in_err-high c =
    let e₁ = sym c.signed_at.ensures ∙ ap number_read c.in_ok-low.ensures.ok_part in
    let n = c.in_err-high.ensures in
    let r = c.from_residual-in_err-high in
    rw (nothing_gives _ _ _ _ (err_from_is_err_and r.result r.ensures.1) n.value n.ok_part)
    (no_high _ _ _ _ e₁ (sym c.signed_at-2.ensures ∙ ap number_read n.ok_part), (signed_within _ _ _ _ e₁).inside)

pub returns-then-high-low : goal.returns-then-high-low
returns-then-high-low c =
    let e₁ = sym c.signed_at.ensures ∙ ap number_read c.in_ok-low.ensures.ok_part in
    let e₂ = sym c.signed_at-2.ensures ∙ ap number_read c.in_ok-high.ensures.ok_part in
    let q = rw (same32 (signed_fits _ _ _ _ e₂), same32 (signed_fits _ _ _ _ e₁)) at c.if-high-low.true in
    (low_over _ _ _ _ e₁ _ _ e₂ q, (signed_within _ _ _ _ e₁).inside)

pub returns-in_err-start : goal.returns-in_err-start
returns-in_err-start c =
    let e₁ = sym c.signed_at.ensures ∙ ap number_read c.in_ok-low.ensures.ok_part in
    let e₂ = sym c.signed_at-2.ensures ∙ ap number_read c.in_ok-high.ensures.ok_part in
    let o = rw (same32 (signed_fits _ _ _ _ e₂), same32 (signed_fits _ _ _ _ e₁)) at c.if-high-low.false in
    let n = c.in_err-start.ensures in
    let r = c.from_residual-in_err-start in
    rw (nothing_gives _ _ _ _ (err_from_is_err_and r.result r.ensures.1) n.value n.ok_part)
    (no_start _ _ _ _ e₁ _ _ e₂ o (sym c.signed_at-3.ensures ∙ ap number_read n.ok_part), (signed_within _ _ _ _ e₂).inside)

pub returns-then-start-low : goal.returns-then-start-low
returns-then-start-low c =
    let e₁ = sym c.signed_at.ensures ∙ ap number_read c.in_ok-low.ensures.ok_part in
    let e₂ = sym c.signed_at-2.ensures ∙ ap number_read c.in_ok-high.ensures.ok_part in
    let e₃ = sym c.signed_at-3.ensures ∙ ap number_read c.in_ok-start.ensures.ok_part in
    let o = rw (same32 (signed_fits _ _ _ _ e₂), same32 (signed_fits _ _ _ _ e₁)) at c.if-high-low.false in
    let q = rw (same32 (signed_fits _ _ _ _ e₃), same32 (signed_fits _ _ _ _ e₁)) at c.if-start-low.true in
    (start_below _ _ _ _ e₁ _ _ e₂ o _ _ e₃ q, (signed_within _ _ _ _ e₂).inside)

pub returns-then-high-start : goal.returns-then-high-start
returns-then-high-start c =
    let e₁ = sym c.signed_at.ensures ∙ ap number_read c.in_ok-low.ensures.ok_part in
    let e₂ = sym c.signed_at-2.ensures ∙ ap number_read c.in_ok-high.ensures.ok_part in
    let e₃ = sym c.signed_at-3.ensures ∙ ap number_read c.in_ok-start.ensures.ok_part in
    let o = rw (same32 (signed_fits _ _ _ _ e₂), same32 (signed_fits _ _ _ _ e₁)) at c.if-high-low.false in
    let p = rw (same32 (signed_fits _ _ _ _ e₃), same32 (signed_fits _ _ _ _ e₁)) at c.if-start-low.false in
    let q = rw (same32 (signed_fits _ _ _ _ e₂), same32 (signed_fits _ _ _ _ e₃)) at c.if-high-start.true in
    (start_over _ _ _ _ e₁ _ _ e₂ o _ _ e₃ p q, (signed_within _ _ _ _ e₂).inside)

pub returns : goal.returns
returns c =
    let e₁ = sym c.signed_at.ensures ∙ ap number_read c.in_ok-low.ensures.ok_part in
    let e₂ = sym c.signed_at-2.ensures ∙ ap number_read c.in_ok-high.ensures.ok_part in
    let e₃ = sym c.signed_at-3.ensures ∙ ap number_read c.in_ok-start.ensures.ok_part in
    let o = rw (same32 (signed_fits _ _ _ _ e₂), same32 (signed_fits _ _ _ _ e₁)) at c.if-high-low.false in
    let p = rw (same32 (signed_fits _ _ _ _ e₃), same32 (signed_fits _ _ _ _ e₁)) at c.if-start-low.false in
    let q = rw (same32 (signed_fits _ _ _ _ e₂), same32 (signed_fits _ _ _ _ e₃)) at c.if-high-start.false in
    (rw (same32 (signed_fits _ _ _ _ e₁), same32 (signed_fits _ _ _ _ e₂), same32 (signed_fits _ _ _ _ e₃)) (range_fits _ _ _ _ e₁ _ _ e₂ o _ _ e₃ p q), (signed_within _ _ _ _ e₃).inside)
