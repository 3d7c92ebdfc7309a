-- The scans of a sound image without timers within its ranges are the runs of its code. Assumes nothing.
use mathlib.Core.Path.{◌≡◌, refl, sym, ap, ◌∙◌}
use mathlib.Core.Bool.{true, false}
use mathlib.Core.List.{List, [], ◌∷◌}
use Prim.Native.Nat.{ℕ, zero, suc, ◌+◌, ◌≤◌}
use native.Mathlib.Omega.{arith}
use lib.Dec.{T}
use lib.IntN.{ℤ}
use lib.ListN.{length, take, drop}
use lib.Seq.{length-take-le, take_all}
use lib.Signed.{le_z}
use Rattle.limits.specs.Answer.{Answer, accepted, refused}
use Rattle.arith.specs.Values.{is_int32}
use Rattle.arith.proofs.Basics.{T_true, and_left, and_right, and_T}
use Rattle.semantics.specs.Program.{Range, within}
use Rattle.semantics.specs.Formula.{State}
use Rattle.semantics.specs.Shape.{Shape, has_timer, all_within, Setting}
use Rattle.semantics.specs.ReferenceScan.{with_inputs}
use Rattle.bytecode.specs.Check.{check_of}
use Rattle.bytecode.specs.Parts.{header_of, code_of, limits_of, shape_in}
use Rattle.bytecode.specs.Translation.{RangesFit}
use Rattle.bytecode.proofs.Walk.{check_sound}
use Rattle.bytecode.proofs.SoundHeader.{header_is}
use Rattle.machine.specs.declared.Registers.{Registers}
use Rattle.machine.specs.declared.Timing.{Timing}
use Rattle.machine.specs.declared.Executed.{Executed}
use Rattle.machine.specs.declared.Stepped.TheVariants.{Next, Refused}
use Rattle.machine.specs.Inner.Memory.{ran_of, RangesIn, TimingIn}
use Rattle.machine.proofs.Ranges.{Within}
use Rattle.before.specs.Before.{before_code}
use Rattle.scan.specs.Services.{AfterScan, scan_code, scan_of}
use Rattle.scan.specs.Inner.Parts.{plain_setting, ran_over, scanned_over, scanned_code, scanned_by}
use Rattle.scan.proofs.Scanning.{code_done, code_refused}
use Rattle.scan.proofs.Scans.{scan_is}
use Rattle.scan.proofs.Images.{plain_passes, setting_untimed}
use Rattle.closed.specs.Closed.{input_ranges, combinations, Combination, combinations_of, walked, scanning, closed_by, part_of, part_in}
use Rattle.closed.specs.Claims.{InRangeRow}
use Rattle.closed.specs.Inner.Parts.{is_refused, working, part_working}
use Rattle.closed.proofs.Profiles.{small_untimed}
use Rattle.closed.proofs.Combining.{All, all_weaker, all_taken, all_dropped, Upright, combinations_within, paired_all}

-- ---- the ranges of a sound image

fit_upright : (ns : List Range) → RangesFit ns → Upright ns
fit_upright [] f = tt
fit_upright (n ∷ ns) f = (T_true _ (and_right (is_int32 n.high) (le_z n.low n.high) f.0.1), fit_upright ns f.1)

upright_take : (k : ℕ) (ns : List Range) → Upright ns → Upright (take k ns)
upright_take zero ns u = tt
upright_take (suc k) [] u = tt
upright_take (suc k) (n ∷ ns) u = (u.0, upright_take k ns u.1)

-- values within the first ranges are within all
all_within_take : (k : ℕ) (ns : List Range) (zs : List ℤ) → T (all_within (take k ns) zs) → length zs ≡ length (take k ns) → T (all_within ns zs)
all_within_take k [] zs t e = tt
all_within_take k (n ∷ ns) [] t e = tt
all_within_take zero (n ∷ ns) (z ∷ zs) t e = let b : ⊥ = omega arith in absurd b
all_within_take (suc k) (n ∷ ns) (z ∷ zs) t e =
    and_T (within n z) (all_within ns zs) (and_left (within n z) (all_within (take k ns) zs) t) (all_within_take k ns zs (and_right (within n z) (all_within (take k ns) zs) t) (omega arith))

-- and back
all_within_taken : (k : ℕ) (ns : List Range) (zs : List ℤ) → T (all_within ns zs) → T (all_within (take k ns) zs)
all_within_taken zero ns zs t = tt
all_within_taken (suc k) [] zs t = tt
all_within_taken (suc k) (n ∷ ns) [] t = tt
all_within_taken (suc k) (n ∷ ns) (z ∷ zs) t =
    and_T (within n z) (all_within (take k ns) zs) (and_left (within n z) (all_within ns zs) t) (all_within_taken k ns zs (and_right (within n z) (all_within ns zs) t))

-- an in-range row is within the ranges of the inputs
module _ (inputs : ℕ) (ns : List Range) (limits : List ℕ) (untimed : has_timer limits ≡ false) (among : inputs ≤ length ns) (row : List ℤ) where
  abbrev h : Shape
  h = record { inputs = inputs; ranges = ns; limits = limits }

  pub row_within : InRangeRow h row → Within (input_ranges h) row
  row_within r = record { size = (rw untimed at r.size) ∙ sym (length-take-le inputs ns among); ranges = all_within_taken inputs ns row (rw untimed at r.ranges) }

  pub row_in_range_lem : Within (input_ranges h) row → InRangeRow h row
  row_in_range_lem w = record { size = rw untimed (w.size ∙ length-take-le inputs ns among); ranges = rw untimed (all_within_take inputs ns row w.ranges w.size) }

module _ (image : List ℕ) (sound : check_of image ≡ accepted tt) where
  pub inputs_among : (header_of image).inputs ≤ length (header_of image).ranges
  inputs_among = let y = check_sound image sound in rw (header_is image y) (omega (arith, y.fits.size))

  pub header_fits : RangesFit (header_of image).ranges
  header_fits = let y = check_sound image sound in rw (header_is image y) y.fits.fit

  pub combinations_in : All (λ c. Within (header_of image).ranges c.state × Within (input_ranges (shape_in image)) c.row) (combinations_of (shape_in image))
  unfolding combinations_of
  combinations_in =
      let ns = (header_of image).ranges in
      let u = fit_upright ns header_fits in
      paired_all (Within ns) (Within (input_ranges (shape_in image))) (combinations ns) (combinations (input_ranges (shape_in image))) (combinations_within ns u)
      (combinations_within (input_ranges (shape_in image)) (upright_take (header_of image).inputs ns u))

-- without a timer
module _ (image : List ℕ) (sound : check_of image ≡ accepted tt) (untimed : has_timer (limits_of image) ≡ false) where
  module _ (s : State) (row : List ℤ) (w : Within (header_of image).ranges s) (v : Within (input_ranges (shape_in image)) row) where
    row_is : InRangeRow (shape_in image) row
    row_is = row_in_range_lem (header_of image).inputs (header_of image).ranges (limits_of image) untimed (inputs_among image sound) row v

    inputs_are : length row ≡ (header_of image).inputs
    inputs_are = rw untimed at row_is.size

    -- neither 12 nor 18 nor 13 comes before the code
    passes : accepted tt ≡ before_code image s row
    passes =
        plain_passes image s row sound untimed w.size inputs_are (T_true (all_within (header_of image).ranges s) w.ranges)
        (T_true (all_within (header_of image).ranges row) (rw untimed at row_is.ranges))

    pub scanning_code : scan_of image s row ≡ scan_code image s row
    scanning_code = scan_is image s row ∙ ap (λ (a : Answer (Unit {0})). scanned_by a s (scan_code image s row)) (sym passes)

    pub scanning_is : (scan_of image s row).answer ≡ (scanned_code (header_of image).ranges (code_of image) s row).answer
    unfolding scan_code
    scanning_is =
        let t = with_inputs s (take (header_of image).inputs row) in
        ap (λ (a : AfterScan). a.answer) scanning_code
        ∙ ap (λ (k : Setting). (scanned_over k (code_of image) s t).answer) (setting_untimed image row untimed inputs_are)
        ∙ ap (λ (l : List ℤ). (scanned_code (header_of image).ranges (code_of image) s l).answer) (take_all (header_of image).inputs row (omega (arith, inputs_are)))

-- ---- one scan, on a copy of the state that holds the row

module _ (ns : List Range) (code : List ℕ) (low high found w vs ws : List ℤ) (row : List ℤ) (timing : Timing) (x : Executed) (r : RangesIn ns low high) (k : TimingIn (plain_setting ns) timing)
    (went : (ns : Setting) → RangesIn ns.ranges low high → TimingIn ns timing → ran_of x vs ws ≡ ran_over ns code found w) (over : w ≡ with_inputs found row) where
  of_row : (a : Answer (Unit {0})) → a ≡ (scanned_over (plain_setting ns) code found w).answer → is_refused a ≡ is_refused (scanned_code ns code found row).answer
  of_row a e = ap is_refused (e ∙ ap (λ (s : State). (scanned_over (plain_setting ns) code found s).answer) over)

  pub scan_passes : (t : Registers) → length ws ≡ length found → x.last ≡ Next t → false ≡ is_refused (scanned_code ns code found row).answer
  scan_passes t l e = of_row (accepted tt) (ap (λ (s : AfterScan). s.answer) (code_done code low high found w vs ws timing x went t (with_inputs found ws) e l refl (plain_setting ns) r k))

  pub scan_stops : (number : ℕ) → x.last ≡ Refused number → true ≡ is_refused (scanned_code ns code found row).answer
  scan_stops number e = of_row (refused number 0) (ap (λ (s : AfterScan). s.answer) (code_refused code low high found w vs ws timing x went number e (plain_setting ns) r k))

-- ---- the walk by the code is the walk by the scans

walked_same : (f g : Combination → Answer (Unit {0})) (cs : List Combination) (n : ℕ) → All (λ c. f c ≡ g c) cs → walked f cs n ≡ walked g cs n
walked_same f g [] n h = refl
walked_same f g (c ∷ cs) n h = rw (h.0, walked_same f g cs (n + 1) h.1)

module _ (image : List ℕ) (sound : check_of image ≡ accepted tt) (first most : ℕ) (untimed : has_timer (limits_of image) ≡ false) where
  abbrev Fits : Combination → Type 0
  Fits c = Within (header_of image).ranges c.state × Within (input_ranges (shape_in image)) c.row

  walk_is : walked (scanning image) (part_of (shape_in image) first most) first ≡ walked (working (header_of image).ranges (code_of image)) (part_of (shape_in image) first most) first
  unfolding part_of
  walk_is =
      walked_same (scanning image) (working (header_of image).ranges (code_of image)) (part_of (shape_in image) first most) first
      (all_weaker Fits (λ c. scanning image c ≡ working (header_of image).ranges (code_of image) c) (part_of (shape_in image) first most)
      (λ c w. scanning_is image sound untimed c.state c.row w.0 w.1)
      (all_taken Fits most (drop first (combinations_of (shape_in image))) (all_dropped Fits first (combinations_of (shape_in image)) (combinations_in image sound))))

  pub closed_from : (inputs : ℕ) (state row : List ℤ) → (header_of image).inputs ≡ inputs → part_working (header_of image).ranges inputs (code_of image) first most state row ≡ part_in image first most state row
  unfolding part_in part_of combinations_of
  closed_from inputs state row e = rw (← e, ← walk_is) (small_untimed image state row (closed_by (walked (scanning image) (part_of (shape_in image) first most) first)) sound untimed)
