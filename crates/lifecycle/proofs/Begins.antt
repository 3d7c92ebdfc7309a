-- The tests of a start. Assumes nothing.
use Prim.Native.Nat.{ℕ, zero, suc, ◌+◌, ◌-◌, ◌≤◌}
use native.Mathlib.Omega.{arith}
use mathlib.Core.Path.{◌≡◌, refl, sym, ap, ◌∙◌}
use mathlib.Core.List.{List}
use lib.IntN.{ℤ}
use lib.ListN.{length, take, length-drop}
use borrow.Author.Tests.{eq-eqb, ne_eqb}
use Rattle.before.specs.Before.{before_code}
use Rattle.limits.specs.Limits.{image_limit, name_limit, paused_length}
use Rattle.limits.specs.Answer.{accepted, refused}
use Rattle.semantics.specs.Formula.{State}
use Rattle.semantics.specs.Shape.{name_count, timers_of}
use Rattle.bytecode.specs.Parts.{header_of, code_of, shape_in}
use Rattle.bytecode.proofs.Walk.{check_sound}
use Rattle.bytecode.proofs.SoundHeader.{header_is}
use Rattle.machine.specs.declared.Timing.{Timing}
use Rattle.paused.specs.declared.Checkpoint.{Checkpoint}
use Rattle.paused.specs.declared.Response.TheVariants as R
use Rattle.paused.specs.Memory.{row_place, slice, checkpoint_of, bits_of, waiting_length, waiting_of}
use Rattle.resumable.specs.Instalment.{after_call}
use Rattle.lifecycle.specs.Calls.{row_taken, begin_of}
use Rattle.before.specs.Inner.Known.{Begun}
use Rattle.before.proofs.Begins.{tests_sound}
use Rattle.paused.proofs.Clipped.{clipped_most}
use Rattle.paused.proofs.Bits.{bits_flags}
use Rattle.lifecycle.specs.Inner.Parts.{kept_start, layout_with}

-- the row that waits is short
pub waiting_most : (cells : List ℤ) → waiting_length cells ≤ 65
unfolding waiting_length
waiting_most cells = clipped_most cells 13 65

pub image-short : (image : List ℕ) (s : State) (row : List ℤ) → accepted tt ≡ before_code image s row → length image ≤ image_limit
image-short image s row e = (check_sound image (tests_sound image s row e)).short

pub image_few : (image : List ℕ) (s : State) (row : List ℤ) → accepted tt ≡ before_code image s row → name_count (shape_in image) ≤ name_limit
image_few image s row e =
    let y = check_sound image (tests_sound image s row e) in
    rw (header_is image y) y.fits.few

pub some_row : (w : ℕ) → (w ≡ 0 → ⊥) → w ≡ suc (15 + w - 16)
some_row w h = by w h
  where
    by : (w : ℕ) → (w ≡ 0 → ⊥) → w ≡ suc (15 + w - 16)
    by zero h = absurd (h refl)
    by (suc w) h = omega arith

module _ (image : List ℕ) (s : State) (cells : List ℤ) where
  pub begin_elsewhere : (length cells ≡ paused_length → ⊥) → after_call R.Idle cells ≡ begin_of image s cells
  unfolding begin_of
  begin_elsewhere h = rw (ne_eqb (length cells) paused_length h)

  module _ (l : length cells ≡ paused_length) (p : Checkpoint) (e : p ≡ checkpoint_of cells) where
    pub begin_early : (p.phase ≡ 0 → ⊥) → after_call (R.Unfinished 0) cells ≡ begin_of image s cells
    unfolding begin_of
    begin_early z = rw (eq-eqb (length cells) paused_length l, ← e, ne_eqb p.phase 0 z)

    module _ (z : p.phase ≡ 0) (w : ℕ) (n : w ≡ waiting_length cells) where
      pub begin_idle : w ≡ 0 → after_call R.Idle cells ≡ begin_of image s cells
      unfolding begin_of waiting_of
      begin_idle h = rw (eq-eqb (length cells) paused_length l, ← e, eq-eqb p.phase 0 z, ← n, h)

      module _ (h : w ≡ 0 → ⊥) where
        pub begin_refused : (k q : ℕ) → refused k q ≡ before_code image s (slice row_place (15 + w - 16) cells) → after_call (R.Refused k q 0) (row_taken cells) ≡ begin_of image s cells
        unfolding begin_of waiting_of
        begin_refused k q f = rw (eq-eqb (length cells) paused_length l, ← e, eq-eqb p.phase 0 z, ← n, some_row w h, ← f)

        pub begin_done : (low high work left : List ℤ) (place : ℕ) (timing : Timing) → accepted tt ≡ before_code image s (slice row_place (15 + w - 16) cells)
            → Begun image s (slice row_place (15 + w - 16) cells) low high work place timing
            → left ≡ kept_start (layout_with (length image) place (length s) timing) s (take (length s) low) (take (length s) high) (take (length s) work) (row_taken cells)
            → after_call (R.Done 0) left ≡ begin_of image s cells
        unfolding begin_of waiting_of code_of
        begin_done low high work left place timing f b g =
            let bits : timing.timers ≡ bits_of (timers_of (shape_in image)) = sym (bits_flags timing.names timing.timers b.low_timers) ∙ ap bits_of (sym b.timed.flags) in
            rw (
              eq-eqb (length cells) paused_length l,
              ← e,
              eq-eqb p.phase 0 z,
              ← n,
              some_row w h,
              ← f,
              g,
              b.lowest,
              b.highest,
              b.copied,
              b.code,
              b.names,
              bits,
              ← b.timed.time,
              length-drop (header_of image).place image,
            )
