-- What is read back from the memory after a post, a start and a finish. Assumes nothing.
use Prim.Native.Nat.{ℕ, zero, suc, ◌+◌, ◌≤◌, ◌<◌}
use native.Mathlib.Omega.{arith}
use mathlib.Core.Path.{◌≡◌, refl, sym, ap, ◌∙◌}
use mathlib.Core.Bool.{false, false≢true}
use mathlib.Core.List.{List, [], ◌∷◌, map}
use mathlib.Core.Option.{none, some}
use lib.IntN.{ℤ, pos}
use lib.ListN.{length, get_or, set, length-map}
use lib.Seq.{sets, length-sets, get_or-set_same}
use Rattle.limits.specs.Limits.{name_limit, state_limit, paused_length}
use Rattle.semantics.specs.Formula.{State}
use Rattle.semantics.specs.Shape.{is_limit, has_timer, name_count, timers_of, state_length, setting_of}
use Rattle.bytecode.specs.Parts.{lows, highs, limits_of, shape_in}
use Rattle.bytecode.proofs.Limits.{limits_length}
use Rattle.paused.specs.Memory.{layout_place, timers_place, start_place, low_place, high_place, row_place, waiting_place, slice, checkpoint_of, layout_of, layout_cells, bits_of, timer_cells, waiting_length, waiting_of}
use Rattle.paused.proofs.ReadBack.{get_d_sets_before, get_d_sets_behind, slice_sets_before, slice_sets_behind, slice_sets_same, clipped-is, clipped_alike, layout_alike, LayoutReadable, layout_stored, waiting_alike}
use Rattle.paused.proofs.Bits.{bits_below}
use Rattle.before.proofs.Cells.{no_elapsed}
use Rattle.lifecycle.specs.Calls.{layout_for, formed, row_taken, with_row, without_scan}
use Rattle.divided.proofs.May.{Placed}

checkpoint_alike : (l m : List ℤ) → ((j : ℕ) → j < 7 → get_or l j (pos 0) ≡ get_or m j (pos 0)) → checkpoint_of l ≡ checkpoint_of m
unfolding checkpoint_of
checkpoint_alike l m e =
    rw (
      clipped_alike l m 0 3 (e 0 (omega arith)),
      clipped_alike l m 1 30 (e 1 (omega arith)),
      clipped_alike l m 2 65536 (e 2 (omega arith)),
      clipped_alike l m 3 65536 (e 3 (omega arith)),
      clipped_alike l m 4 40 (e 4 (omega arith)),
      clipped_alike l m 5 1 (e 5 (omega arith)),
      clipped_alike l m 6 1 (e 6 (omega arith)),
    )

-- ---- the row that waits

-- stores that leave the scan alone
pub record Apart (cells left : List ℤ) : Type 0 where
  pub long : length left ≡ length cells
  pub progress : checkpoint_of left ≡ checkpoint_of cells
  pub layout : layout_of left ≡ layout_of cells
  pub lists : (at n : ℕ) → 80 ≤ at → slice at n left ≡ slice at n cells

apart_sets : (vs cells : List ℤ) (i : ℕ) → 13 ≤ i → i + length vs ≤ 80 → Apart cells (sets cells i vs)
apart_sets vs cells i a b =
    record {
      long = length-sets cells i vs;
      progress = checkpoint_alike _ _ λ j h. get_d_sets_before vs cells i j (omega arith);
      layout = layout_alike _ _ (λ j h k. get_d_sets_before vs cells i j (omega arith)) (λ j h k. get_d_sets_behind vs cells i j (omega arith));
      lists = λ at n h. slice_sets_behind vs cells i at n (omega arith);
    }

pub apart_row : (row cells : List ℤ) → length row ≤ name_limit → Apart cells (with_row row cells)
apart_row row cells h =
    let x = apart_sets row cells row_place (omega arith) (omega arith) in
    let y = apart_sets (pos (length row + 1) ∷ []) (sets cells row_place row) waiting_place (omega arith) (omega arith) in
    record {
      long = y.long ∙ x.long;
      progress = y.progress ∙ x.progress;
      layout = y.layout ∙ x.layout;
      lists = λ at n k. y.lists at n k ∙ x.lists at n k;
    }

pub apart_taken : (cells : List ℤ) → Apart cells (row_taken cells)
apart_taken cells = apart_sets (pos 0 ∷ []) cells waiting_place (omega arith) (omega arith)

pub waits_row : (row cells : List ℤ) → length cells ≡ paused_length → length row ≤ name_limit → waiting_of (with_row row cells) ≡ some row
unfolding waiting_of waiting_length
waits_row row cells l h =
    let x = sets cells row_place row in
    let n : length row + 1 ≡ suc (length row) = omega arith in
    let g : get_or (set x waiting_place (pos (length row + 1))) waiting_place (pos 0) ≡ pos (length row + 1) = get_or-set_same x waiting_place (pos (length row + 1)) (pos 0) (omega (arith, length-sets cells row_place row)) in
    rw (clipped-is (with_row row cells) waiting_place (length row + 1) (name_limit + 1) g (omega arith))
    (rw n
    (ap some (slice_sets_behind (pos (suc (length row)) ∷ []) x waiting_place row_place (length row) (omega arith) ∙ slice_sets_same row cells row_place (omega arith))))

pub waits_none : (cells : List ℤ) → length cells ≡ paused_length → waiting_of (row_taken cells) ≡ none
unfolding waiting_of waiting_length
waits_none cells l = rw (clipped-is (row_taken cells) waiting_place 0 (name_limit + 1) (get_or-set_same cells waiting_place (pos 0) (pos 0) (omega arith)) (omega arith))

-- ---- a finish

pub phase_over : (cells : List ℤ) → length cells ≡ paused_length → (checkpoint_of (without_scan cells)).phase ≡ 0
unfolding checkpoint_of
phase_over cells l = clipped-is (without_scan cells) 0 0 3 (get_or-set_same cells 0 (pos 0) (pos 0) (omega arith)) (omega arith)

pub waits_over : (cells : List ℤ) → waiting_of (without_scan cells) ≡ waiting_of cells
waits_over cells =
    waiting_alike _ _ (get_d_sets_behind (pos 0 ∷ []) cells 0 waiting_place (omega arith)) (λ n h. slice_sets_behind (pos 0 ∷ []) cells 0 row_place n (omega arith))

-- ---- a start

pub record Formed (image : List ℕ) (s : State) (row cells : List ℤ) : Type 0 where
  pub long : length (formed image s row cells) ≡ paused_length
  pub layout : layout_of (formed image s row cells) ≡ layout_for image s row
  pub waits : waiting_of (formed image s row cells) ≡ waiting_of cells
  pub start : slice start_place (length s) (formed image s row cells) ≡ s
  pub low : slice low_place (length s) (formed image s row cells) ≡ lows (setting_of (shape_in image) row).ranges
  pub high : slice high_place (length s) (formed image s row cells) ≡ highs (setting_of (shape_in image) row).ranges

pub length_timers : (image : List ℕ) → length (timers_of (shape_in image)) ≡ name_count (shape_in image)
length_timers image = length-map (limits_of image) is_limit ∙ limits_length image

no_bits : (ls : List ℕ) → has_timer ls ≡ false → bits_of (map is_limit ls) ≡ 0
no_bits [] e = refl
no_bits (zero ∷ ls) e = rw (no_bits ls e)
no_bits (suc n ∷ ls) e = absurd (false≢true (sym e))

-- a layout, as it is read back
readable : (image : List ℕ) (s : State) (row : List ℤ) → Placed image → length s ≡ state_length (shape_in image) → length s ≤ state_limit → LayoutReadable (layout_for image s row)
readable image s row y e few =
    record {
      images = y.short;
      bases = y.inside;
      sizes = few;
      few = y.few;
      bits = bits_below (timers_of (shape_in image)) 64 (omega (arith, length_timers image, y.few));
      untimed = λ q. no_bits (limits_of image) (no_elapsed (shape_in image) (sym e ∙ q));
    }

pub forms : (image : List ℕ) (s : State) (row cells : List ℤ) → length cells ≡ paused_length → Placed image → length s ≡ state_length (shape_in image) → length s ≤ state_limit → Formed image s row cells
forms image s row cells l y e few =
    let ns = (setting_of (shape_in image) row).ranges in
    let ll : length (lows ns) ≡ length s = length-map ns (λ n. n.low) ∙ sym e in
    let lh : length (highs ns) ≡ length s = length-map ns (λ n. n.high) ∙ sym e in
    let a = sets cells low_place (lows ns) in
    let b = sets a high_place (highs ns) in
    let c = sets b start_place s in
    let f = layout_cells (layout_for image s row) in
    let d = sets c layout_place f in
    let t = timer_cells (layout_for image s row).timers in
    let la : length a ≡ 640 = length-sets cells low_place (lows ns) ∙ l in
    let lb : length b ≡ 640 = length-sets a high_place (highs ns) ∙ la in
    let lc : length c ≡ 640 = length-sets b start_place s ∙ lb in
    let ld : length d ≡ 640 = length-sets c layout_place f ∙ lc in
    record {
      long = length-sets d timers_place t ∙ ld;
      layout = layout_stored c (layout_for image s row) (omega arith) (readable image s row y e few);
      waits =
          waiting_alike _ _
          (get_d_sets_before t d timers_place waiting_place (omega arith) ∙ get_d_sets_behind f c layout_place waiting_place (omega arith) ∙ get_d_sets_before s b start_place waiting_place (omega arith)
          ∙ get_d_sets_before (highs ns) a high_place waiting_place (omega arith) ∙ get_d_sets_before (lows ns) cells low_place waiting_place (omega arith))
          (λ n h.
          slice_sets_before t d timers_place row_place n (omega arith) ∙ slice_sets_behind f c layout_place row_place n (omega arith) ∙ slice_sets_before s b start_place row_place n (omega arith)
          ∙ slice_sets_before (highs ns) a high_place row_place n (omega arith) ∙ slice_sets_before (lows ns) cells low_place row_place n (omega arith));
      start =
          slice_sets_behind t d timers_place start_place (length s) (omega arith) ∙ slice_sets_behind f c layout_place start_place (length s) (omega arith)
          ∙ slice_sets_same s b start_place (omega arith);
      low =
          slice_sets_behind t d timers_place low_place (length s) (omega arith) ∙ slice_sets_behind f c layout_place low_place (length s) (omega arith)
          ∙ slice_sets_behind s b start_place low_place (length s) (omega arith) ∙ slice_sets_before (highs ns) a high_place low_place (length s) (omega arith)
          ∙ (rw ll at (slice_sets_same (lows ns) cells low_place (omega arith)));
      high =
          slice_sets_behind t d timers_place high_place (length s) (omega arith) ∙ slice_sets_behind f c layout_place high_place (length s) (omega arith)
          ∙ slice_sets_behind s b start_place high_place (length s) (omega arith) ∙ (rw lh at (slice_sets_same (highs ns) a high_place (omega arith)));
    }
