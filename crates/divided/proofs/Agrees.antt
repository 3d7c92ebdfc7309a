-- The memory agrees with what is expected: the scan in it is the run of the undivided scan, as far as its steps were done. Assumes nothing.
use Prim.Native.Nat.{ℕ, ◌+◌, ◌≤◌, ◌<◌, min}
use native.Mathlib.Omega.{arith}
use mathlib.Core.Path.{◌≡◌, refl, sym, ap, ◌∙◌}
use mathlib.Core.Bool.{false}
use mathlib.Core.List.{List, []}
use mathlib.Core.Option.{Option, none, some}
use lib.IntN.{ℤ}
use lib.ListN.{length, take, length-take, length-drop}
use Rattle.limits.specs.Limits.{image_limit, state_limit, paused_length}
use Rattle.arith.specs.Values.{Outcome, ok, refusal}
use Rattle.semantics.specs.Formula.{State}
use Rattle.semantics.specs.ReferenceScan.{with_inputs}
use Rattle.semantics.specs.Shape.{Setting, setting_of}
use Rattle.bytecode.specs.Parts.{code_of, lows, highs, shape_in}
use Rattle.bytecode.proofs.ImageLimits.{state_most}
use Rattle.before.proofs.Cells.{names_first}
use Rattle.machine.specs.Step.{Machine, machine}
use Rattle.machine.specs.Runs.{Ran, run, resume}
use Rattle.machine.proofs.Laws.{run_end_lem, run_divided}
use Rattle.machine.proofs.Copies.{length_over}
use Rattle.runs.proofs.Divided.{run_place, run_counts, run_exact, run_min, run_goes}
use Rattle.runs.proofs.Sizes.{Sized, SizedIn, run_sized}
use Rattle.scan.specs.Services.{AfterScan, finished, scan_code}
use Rattle.paused.specs.Memory.{start_place, low_place, high_place, slice, checkpoint_of, layout_of, waiting_of}
use Rattle.lifecycle.specs.Calls.{layout_for}
use Rattle.divided.specs.Expected.{Scan, whole, Played, Expected}
use Rattle.divided.proofs.May.{placed, May}
use Rattle.divided.proofs.Left.{Stands}

-- what a scan works with, and its current values before the code
abbrev pub setting_for : Scan → Setting
setting_for o = setting_of (shape_in o.image) o.row

abbrev pub begun_with : Scan → State
begun_with o = with_inputs o.start (take (shape_in o.image).inputs o.row)

-- the first b instructions of a scan
abbrev pub goes : Scan → ℕ → Ran
goes o b = run (setting_for o) o.start (code_of o.image) b 0 0 (machine false false [] (begun_with o))

abbrev pub code_length : Scan → ℕ
code_length o = length (code_of o.image)

pub record Standing (image : List ℕ) (cells : List ℤ) (o : Scan) : Type 0 where
  pub same : image ≡ o.image
  pub may : May o.image o.start o.row
  pub layout : layout_of cells ≡ layout_for o.image o.start o.row
  pub start : slice start_place (length o.start) cells ≡ o.start
  pub low : slice low_place (length o.start) cells ≡ lows (setting_for o).ranges
  pub high : slice high_place (length o.start) cells ≡ highs (setting_for o).ranges
  pub reached : Ran
  pub went : goes o o.done ≡ reached
  pub counted : reached.steps ≡ o.done
  pub stands : Stands cells (length o.start) (code_length o) o.done reached.place reached.last

abbrev pub ScanIn : List ℕ → List ℤ → Option Scan → Type 0
ScanIn image cells none = (checkpoint_of cells).phase ≡ 0
ScanIn image cells (some o) = Standing image cells o

pub record Agrees (image : List ℕ) (cells : List ℤ) (w : Option (List ℤ)) (o : Option Scan) : Type 0 where
  pub long : length cells ≡ paused_length
  pub waits : waiting_of cells ≡ w
  pub scan : ScanIn image cells o

pub record Matches (a : Played) (e : Expected) : Type 0 where
  pub said : a.said ≡ e.said
  pub agrees : Agrees a.image a.cells e.waiting e.scan

-- ---- every run of the scan

module _ (o : Scan) (y : May o.image o.start o.row) where
  pub few_numbers : length o.start ≤ state_limit
  few_numbers = omega (arith, state_most o.image y.sound, y.numbers)

  pub code_short : code_length o ≤ image_limit
  unfolding code_of
  code_short = simp length-drop (omega (arith, (placed o.image y.sound).short))

  pub first_sized : Sized (length o.start) (machine false false [] (begun_with o))
  first_sized =
      let k = shape_in o.image in
      (omega arith, length_over (take k.inputs o.row) o.start (omega (arith, length-take k.inputs o.row, y.numbers, (placed o.image y.sound).inputs, names_first k)))

  pub goes_sized : (b : ℕ) → SizedIn (length o.start) (goes o b).last
  goes_sized b = run_sized (setting_for o) o.start (length o.start) (code_of o.image) b 0 0 (machine false false [] (begun_with o)) first_sized

  pub goes_place : (b : ℕ) → (goes o b).place ≤ image_limit
  goes_place b = run_place (setting_for o) o.start (code_of o.image) image_limit b 0 0 (machine false false [] (begun_with o)) (omega arith) code_short

  -- the steps of the whole scan
  pub goes_min : (b : ℕ) → (goes o b).steps ≡ min b (goes o (code_length o)).steps
  goes_min b = run_min (setting_for o) o.start (code_of o.image) b (code_length o) (machine false false [] (begun_with o)) (omega arith)

  pub goes_within : (goes o (code_length o)).steps ≤ code_length o
  goes_within = omega (arith, (run_counts (setting_for o) o.start (code_of o.image) (code_length o) 0 0 (machine false false [] (begun_with o))).1)

  pub whole_finished : whole o ≡ finished o.start (goes o (code_length o)).steps (goes o (code_length o)).last
  unfolding scan_code
  whole_finished = y.whole

  finished_steps : (s : State) (n : ℕ) (r : Outcome Machine) → (finished s n r).steps ≡ n
  finished_steps s n (ok (machine b c vs t)) = refl
  finished_steps s n (refusal k) = refl

  pub whole_steps : (whole o).steps ≡ (goes o (code_length o)).steps
  whole_steps = ap (λ (a : AfterScan). a.steps) whole_finished ∙ finished_steps o.start (goes o (code_length o)).steps (goes o (code_length o)).last

-- ---- where it stands

module _ {image : List ℕ} {cells : List ℤ} (o : Scan) (x : Standing image cells o) where
  pub on_from : (b : ℕ) → goes o (o.done + b) ≡ resume (setting_for o) o.start (code_of o.image) b x.reached.last x.reached.place x.reached.steps
  on_from b = rw (← x.went) (run_divided (setting_for o) o.start (code_of o.image) o.done b 0 0 (machine false false [] (begun_with o)))

  pub done_within : o.done ≤ (whole o).steps
  done_within = omega (arith, goes_min o x.may o.done, ap (λ (r : Ran). r.steps) x.went, x.counted, whole_steps o x.may)

  -- nothing is left to do
  no_more : (goes o (o.done + code_length o)).steps ≡ x.reached.steps → (whole o).steps ≡ o.done
  no_more e = omega (arith, e, goes_min o x.may (o.done + code_length o), goes_within o x.may, whole_steps o x.may, x.counted)

  pub over_refused : (k : ℕ) → x.reached.last ≡ refusal k → (whole o).steps ≡ o.done
  over_refused k e = no_more (ap (λ (r : Ran). r.steps) (on_from (code_length o)) ∙ rw e)

  pub over_ended : (m : Machine) → x.reached.last ≡ ok m → code_length o ≤ x.reached.place → (whole o).steps ≡ o.done
  over_ended m e h =
      no_more
      (ap (λ (r : Ran). r.steps) (on_from (code_length o))
      ∙ rw (e, run_end_lem (setting_for o) o.start (code_of o.image) (code_length o) x.reached.place x.reached.steps m h))

  pub not_over : (m : Machine) → x.reached.last ≡ ok m → x.reached.place < code_length o → o.done < (whole o).steps
  not_over m e h =
      let r = run_goes (setting_for o) o.start (code_of o.image) x.reached.place x.reached.steps 0 m h in
      let q : (goes o (o.done + 1)).steps ≡ (run (setting_for o) o.start (code_of o.image) 1 x.reached.place x.reached.steps m).steps = ap (λ (r : Ran). r.steps) (on_from 1) ∙ rw e in
      omega (arith, r, q, goes_min o x.may (o.done + 1), whole_steps o x.may, x.counted)

  -- at the end the run is the whole one
  pub whole_is : (whole o).steps ≡ o.done → whole o ≡ finished o.start o.done x.reached.last
  whole_is e =
      let n : (goes o (code_length o)).steps ≡ o.done = sym (whole_steps o x.may) ∙ e in
      let z : goes o o.done ≡ goes o (code_length o) =
      run_exact (setting_for o) o.start (code_of o.image) (code_length o) 0 0 o.done (machine false false [] (begun_with o)) (omega (arith, n)) in
      whole_finished o x.may ∙ rw (n, ← z, x.went)
