-- What start and scan store, and the scans of sound images without timers. Assumes nothing.
use mathlib.Core.Path.{◌≡◌, sym, ap, ◌∙◌}
use mathlib.Core.Bool.{Bool, true, false, cond}
use mathlib.Core.List.{List, [], ◌++◌, append-nil}
use Prim.Native.Nat.{ℕ, ◌+◌, ◌-◌, ◌≤◌}
use native.Mathlib.Omega.{arith}
use borrow.Author.Tests.{eq-eqb, ne_eqb}
use lib.Dec.{eqb}
use lib.IntN.{ℤ, pos}
use lib.ListN.{length, take, drop, replicate, length-replicate, replicate-append-replicate, drop_of_length-le, get_or-eq_default}
use lib.Seq.{sets, length-sets, sets-eq}
use Rattle.std.specs.Prelude.{Ok}
use Rattle.limits.specs.Answer.{Answer, accepted, refused}
use Rattle.leb128.proofs.Stores.{sets_past, sets_append}
use Rattle.semantics.specs.Formula.{State, at}
use Rattle.semantics.specs.Shape.{has_timer, timers_of, state_length, all_within, setting_of, count_true}
use Rattle.semantics.proofs.Counted.{state_length_lem, starting_state_lem}
use Rattle.bytecode.specs.Check.{check_header, check_of}
use Rattle.bytecode.specs.Parts.{header_of, limits_of, shape_in, starts}
use Rattle.std.specs.Prelude.{Ok, Err}
use Rattle.bytecode.specs.Results.{Headed, HeadedBy}
use Rattle.bytecode.proofs.Walk.{refused≢accepted}
use Rattle.bytecode.proofs.SoundHeader.{starts_stored, header_not_broken}
use Rattle.bytecode.proofs.ImageLimits.{timers_most}
use Rattle.bytecode.proofs.Limits.{no_times, cells_untimed, timers_untimed}
use Rattle.before.specs.Before.{tested_before, before_code}
use Rattle.before.specs.Inner.Known.{tested_length}
use Rattle.checker.proofs.Checking.{stored}
use Rattle.scan.specs.Services.{AfterStart, started, start_of, refused_scan, scan_of}
use Rattle.scan.specs.Results.{after_start, after_scan}
use Rattle.scan.specs.Inner.Parts.{plain_setting}
use Rattle.scan.specs.declared.Scanned.TheVariants as R

-- ---- start

abbrev unstarted : State → Answer (Unit {0}) → AfterStart
unstarted found a = record { answer = a; state = found }

-- what is refused before a state is written
pub start_for : (image : List ℕ) (found : State) (n p : ℕ) → refused n p ≡ tested_length (check_of image) (shape_in image) (length found) → unstarted found (refused n p) ≡ start_of image found
unfolding start_of
start_for image found n p = go (check_of image)
  where
    by : (b : Bool) (r : AfterStart) → refused n p ≡ tested_before b 12 (accepted tt) → unstarted found (refused n p) ≡ cond b r (unstarted found (refused 12 0))
    by true r e = refused≢accepted tt n p e
    by false r e = ap (unstarted found) e

    go : (a : Answer (Unit {0})) → refused n p ≡ tested_length a (shape_in image) (length found) → unstarted found (refused n p) ≡ started a (shape_in image) found
    go (refused number place) e = ap (unstarted found) e
    go (accepted u) e = by (eqb (length found) (state_length (shape_in image))) _ e

-- zeros from a place on, as far as there is room
cleared : (l : List ℤ) (n m : ℕ) → n ≤ length l → length l ≤ n + m → sets l n (replicate m (pos 0)) ≡ take n l ++ replicate (length l - n) (pos 0)
cleared l n m h k =
    let d = length l - n in
    let zs = replicate d (pos 0) in
    let q : length zs ≡ d = length-replicate d (pos 0) in
    let s : d + (m - d) ≡ m = omega arith in
    let e : replicate m (pos 0) ≡ zs ++ replicate (m - d) (pos 0) = sym (replicate-append-replicate d (m - d) (pos 0) ∙ ap (λ (j : ℕ). replicate j (pos 0)) s) in
    let z : drop (n + length zs) l ≡ [] = drop_of_length-le l {i = n + length zs} (omega arith) in
    ap (sets l n) e ∙ sets_append l n zs (replicate (m - d) (pos 0)) ∙ sets_past (sets l n zs) (n + length zs) (replicate (m - d) (pos 0)) (omega (arith, length-sets l n zs))
    ∙ sets-eq zs l n (omega arith) ∙ rw z (append-nil (take n l ++ zs))

module _ (image : List ℕ) (found : State) (sound : check_of image ≡ accepted tt) where
  -- a header of a sound image is whole
  pub headed_starts : {n : ℕ} {low₀ high₀ low high left : List ℤ} (r : Headed) → HeadedBy (check_header image) n low₀ high₀ found low high left r → left ≡ sets found 0 (starts (header_of image).ranges)
  headed_starts (Ok (inputs, names, place)) x = starts_stored image x.so
  headed_starts (Err place) x = header_not_broken image sound place x.so.0

  -- the declared starts are stored at the front of the state, zeros behind them
  pub start_done : (names : ℕ) (filled left : State) → length found ≡ state_length (shape_in image) → length (header_of image).ranges ≡ names → filled ≡ sets found 0 (starts (header_of image).ranges)
      → left ≡ sets filled names (replicate 64 (pos 0)) → after_start (Ok tt) left ≡ start_of image found
  unfolding start_of
  start_done names filled left h n f e =
      let k = shape_in image in
      let z : length filled ≡ length found = rw f (length-sets found 0 (starts (header_of image).ranges)) in
      let m : count_true (timers_of k) ≡ length filled - names = omega (arith, state_length_lem k) in
      let front : starts (header_of image).ranges ≡ take names filled = stored (λ r. r.start) (header_of image).ranges names found filled n (omega (arith, state_length_lem k)) f in
      let c = cleared filled names 64 (omega (arith, state_length_lem k)) (omega (arith, state_length_lem k, timers_most image sound)) in
      rw (sound, eq-eqb (length found) (state_length k) h, e, c, starting_state_lem k, m, ← front)

-- ---- scan

pub scan_refused : (image : List ℕ) (found : State) (row : List ℤ) (number place : ℕ) → refused number place ≡ check_of image → after_scan (R.Refused number place 0) found ≡ scan_of image found row
unfolding scan_of
scan_refused image found row number place e = rw (← e)

-- a sound image without timers: as many numbers in a state as names, in a row as inputs
module _ (image : List ℕ) (found : State) (row : List ℤ) (sound : check_of image ≡ accepted tt) (untimed : has_timer (limits_of image) ≡ false) where
  pub scan_wrong_state : (length found ≡ length (header_of image).ranges → ⊥) → refused_scan 12 0 0 found ≡ scan_of image found row
  unfolding scan_of
  scan_wrong_state h = rw (sound, no_times image untimed, ne_eqb (length found) (length (header_of image).ranges) h)

  module _ (h : length found ≡ length (header_of image).ranges) where
    pub scan_wrong_row : (length row ≡ (header_of image).inputs → ⊥) → refused_scan 12 0 0 found ≡ scan_of image found row
    unfolding scan_of
    scan_wrong_row n = rw (sound, no_times image untimed, untimed, eq-eqb (length found) (length (header_of image).ranges) h, ne_eqb (length row) (header_of image).inputs n)

    module _ (n : length row ≡ (header_of image).inputs) where
      pub scan_wrong_value : all_within (header_of image).ranges found ≡ false → refused_scan 18 0 0 found ≡ scan_of image found row
      unfolding scan_of
      scan_wrong_value a = rw (sound, no_times image untimed, untimed, eq-eqb (length found) (length (header_of image).ranges) h, eq-eqb (length row) (header_of image).inputs n, a)

      module _ (a : all_within (header_of image).ranges found ≡ true) where
        pub scan_wrong_input : all_within (header_of image).ranges row ≡ false → refused_scan 13 0 0 found ≡ scan_of image found row
        unfolding scan_of
        scan_wrong_input b = rw (sound, no_times image untimed, untimed, eq-eqb (length found) (length (header_of image).ranges) h, eq-eqb (length row) (header_of image).inputs n, a, b)

        pub plain_passes : all_within (header_of image).ranges row ≡ true → accepted tt ≡ before_code image found row
        unfolding before_code
        plain_passes b = rw (sound, no_times image untimed, untimed, eq-eqb (length found) (length (header_of image).ranges) h, eq-eqb (length row) (header_of image).inputs n, a, b)

-- what its scans work with
pub setting_untimed : (image : List ℕ) (row : List ℤ) → has_timer (limits_of image) ≡ false → length row ≡ (header_of image).inputs → setting_of (shape_in image) row ≡ plain_setting (header_of image).ranges
setting_untimed image row untimed n =
    let out : at row (header_of image).inputs ≡ pos 0 = get_or-eq_default row (pos 0) (omega arith) in
    rw (cells_untimed image untimed, timers_untimed image untimed, out)
