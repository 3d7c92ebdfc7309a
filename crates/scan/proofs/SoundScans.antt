-- What holds of the scans of any sound image: which refusals are met, and that ranges are kept. Assumes nothing.
use mathlib.Core.Path.{◌≡◌, refl}
use mathlib.Core.Bool.{Bool, true, false, ◌&&◌}
use mathlib.Core.List.{List}
use mathlib.Core.Logic.{◌⊎◌, inl, inr}
use Prim.Native.Nat.{ℕ, ◌+◌, ◌≤◌}
use native.Mathlib.Omega.{arith}
use lib.Dec.{T, eqb, eqb→eq}
use lib.IntN.{ℤ}
use lib.ListN.{length, take, length-append, length-drop}
use lib.Seq.{take_all, length-take-le}
use lib.Signed.{non_neg}
use Rattle.limits.specs.Answer.{Answer, accepted, refused}
use Rattle.arith.specs.Values.{Outcome, ok, refusal}
use Rattle.arith.proofs.Basics.{and_left, and_right}
use Rattle.semantics.specs.Program.{Range}
use Rattle.semantics.specs.Formula.{State, at}
use Rattle.semantics.specs.ReferenceScan.{with_inputs}
use Rattle.semantics.proofs.Unique.{all_within_inputs}
use Rattle.bytecode.specs.Check.{check_of}
use Rattle.bytecode.specs.Parts.{code_of, shape_in}
use Rattle.bytecode.proofs.Walk.{check_sound}
use Rattle.machine.specs.Step.{Machine, machine}
use Rattle.semantics.specs.Shape.{Shape, name_count, has_timer, cells, state_length, all_within, row_length, state_in_range, row_in_range}
use Rattle.machine.proofs.Refusals.{at_work, turned, RefusedByRules}
use Rattle.machine.proofs.Ranges.{Within, AllWithin}
use Rattle.bytecode.proofs.SoundHeader.{header_is}
use Rattle.machine.proofs.SoundRuns.{sound_by_rules, sound_within}
use Rattle.before.proofs.Cells.{names_within, names_first}
use Rattle.scan.specs.Services.{AfterScan, finished, run_of, scan_code, tested_scan, scan_of}

-- ---- refusals

-- a refusal of the caller, the state, the row or the rules at work: 12 to 18, or 22, without a place
abbrev pub OfCaller : Answer (Unit {0}) → Type 0
OfCaller (accepted u) = Unit {0}
OfCaller (refused number place) = (((12 ≤ number) × (number ≤ 18)) ⊎ (number ≡ 22)) × (place ≡ 0)

tested_caller : (b : Bool) (k : ℕ) (s : State) (r : AfterScan) → 12 ≤ k → k ≤ 18 → OfCaller r.answer → OfCaller (tested_scan b k s r).answer
tested_caller true k s r l m h = h
tested_caller false k s r l m h = (inl (l, m), refl)

finished_caller : (s : State) (n : ℕ) (o : Outcome Machine) → RefusedByRules o → OfCaller (finished s n o).answer
finished_caller s n (ok (machine b c vs t)) h = tt
finished_caller s n (refusal k) (at_work l m) = (inl (omega arith, omega arith), refl)
finished_caller s n (refusal k) (turned e) = (inr e, refl)

code_caller : (image : List ℕ) → check_of image ≡ accepted tt → (found : State) (row : List ℤ) → OfCaller (scan_code image found row).answer
unfolding scan_code
code_caller image e found row = finished_caller found _ (run_of image found row).last (sound_by_rules image e row found (with_inputs found (take (shape_in image).inputs row)) (length (code_of image)))

-- a scan of a sound image is refused by 12 to 18 and 22 only
pub sound_scan : (image : List ℕ) → check_of image ≡ accepted tt → (found : State) (row : List ℤ) → OfCaller (scan_of image found row).answer
unfolding scan_of
sound_scan image e found row =
    let k = shape_in image in
    rw e
    (tested_caller (eqb (length found) (state_length k) && eqb (length row) (row_length k)) 12 found _ (omega arith) (omega arith)
    (tested_caller (state_in_range k found) 18 found _ (omega arith) (omega arith)
    (tested_caller (row_in_range k row) 13 found _ (omega arith) (omega arith) (code_caller image e found row))))

-- ---- ranges

tested_within : (ns : List Range) (b : Bool) (k : ℕ) (s : State) (r : AfterScan) → Within ns s → (T b → Within ns r.state) → Within ns (tested_scan b k s r).state
tested_within ns true k s r w h = h tt
tested_within ns false k s r w h = w

finished_within : (ns : List Range) (s : State) (n : ℕ) (o : Outcome Machine) → Within ns s → AllWithin ns o → Within ns (finished s n o).state
finished_within ns s n (ok (machine b c vs t)) w h = h
finished_within ns s n (refusal k) w h = w

-- the inputs of a row that passes the tests
module _ (k : Shape) (among : k.inputs ≤ name_count k) (row : List ℤ) (n : length row ≡ row_length k) (t : T (row_in_range k row)) where
  inputs_within : (length (take k.inputs row) ≡ k.inputs) × T (all_within (cells k) (take k.inputs row))
  inputs_within = go (has_timer k.limits) refl
    where
      go : (b : Bool) → has_timer k.limits ≡ b → (length (take k.inputs row) ≡ k.inputs) × T (all_within (cells k) (take k.inputs row))
      go true h =
          let l : length row ≡ k.inputs + 1 = rw h at n in
          let m : length (take k.inputs row) ≡ k.inputs = length-take-le k.inputs row (omega arith) in
          (m, rw (names_within k (take k.inputs row) (omega arith)) (and_left (all_within k.ranges (take k.inputs row)) (non_neg (at row k.inputs)) (rw h at t)))
      go false h =
          let l : length row ≡ k.inputs = rw h at n in
          rw (take_all k.inputs row (omega arith), names_within k row (omega arith)) (l, rw h at t)

code_within : (image : List ℕ) → check_of image ≡ accepted tt → (found : State) (row : List ℤ) → Within (cells (shape_in image)) found → Within (cells (shape_in image)) (with_inputs found (take (shape_in image).inputs row))
    → Within (cells (shape_in image)) (scan_code image found row).state
unfolding scan_code
code_within image e found row w v =
    finished_within (cells (shape_in image)) found _ (run_of image found row).last w (sound_within image e row found (with_inputs found (take (shape_in image).inputs row)) (length (code_of image)) w v)

-- a scan of a sound image keeps every number of the state in its range: values, and elapsed times in 0..N
pub scan_within : (image : List ℕ) → check_of image ≡ accepted tt → (found : State) (row : List ℤ) → Within (cells (shape_in image)) found
    → Within (cells (shape_in image)) (scan_of image found row).state
unfolding scan_of
scan_within image e found row w =
    let k = shape_in image in
    let y = check_sound image e in
    let fit : k.inputs ≤ name_count k = rw (header_is image y) (omega (arith, y.fits.size)) in
    rw e
    (tested_within (cells k) (eqb (length found) (state_length k) && eqb (length row) (row_length k)) 12 found _ w λ a.
    tested_within (cells k) (state_in_range k found) 18 found _ w λ b.
    tested_within (cells k) (row_in_range k row) 13 found _ w λ c.
    let i = inputs_within k fit row (eqb→eq (length row) (row_length k) (and_right (eqb (length found) (state_length k)) _ a)) c in
    let n : length (with_inputs found (take k.inputs row)) ≡ length (cells k) = simp (length-append, length-drop) (omega (arith, i.0, w.size, names_first k)) in
    code_within image e found row w (record { size = n; ranges = all_within_inputs (cells k) (take k.inputs row) found i.1 w.ranges }))
