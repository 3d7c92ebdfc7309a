-- An instalment agrees with what is expected. Assumes nothing.
use Prim.Native.Nat.{ℕ, ◌+◌, ◌-◌, ◌≤◌, ◌<◌, min}
use native.Mathlib.Omega.{arith}
use mathlib.Core.Path.{◌≡◌, refl, sym, ap, subst, ◌∙◌}
use mathlib.Core.Bool.{Bool, true, false}
use mathlib.Core.List.{List, []}
use mathlib.Core.Option.{Option, none, some}
use lib.Dec.{eqb, leb}
use lib.IntN.{ℤ}
use lib.ListN.{length, drop, length-drop}
use borrow.Author.Tests.{le-leb, lt-leb, leb-true, leb-false, eqb-true, eqb-false}
use Rattle.limits.specs.Limits.{image_limit}
use Rattle.arith.specs.Values.{Outcome, ok, refusal}
use Rattle.arith.specs.Inner.Flags.{flags_of}
use Rattle.semantics.specs.Shape.{name_count, timers_of}
use Rattle.bytecode.specs.Parts.{header_of, code_of, shape_in}
use Rattle.machine.specs.Step.{Machine, machine}
use Rattle.machine.specs.Runs.{Ran, run}
use Rattle.runs.proofs.Divided.{later, run_shift, run_exact}
use Rattle.runs.proofs.Bounds.{run_ranges}
use Rattle.runs.proofs.Sizes.{SizedIn}
use Rattle.paused.specs.declared.Checkpoint.{Checkpoint}
use Rattle.paused.specs.declared.Response.TheVariants as R
use Rattle.paused.specs.Memory.{low_place, high_place, slice, checkpoint_of, layout_of, bits_of}
use Rattle.resumable.specs.Instalment.{after_call, setting_in, ran_from, left_by_run, instalment, advance_of}
use Rattle.lifecycle.specs.Calls.{layout_for}
use Rattle.resumable.proofs.Running.{length_slice, ranges_between_lem}
use Rattle.resumable.proofs.Advancing.{advance_idle, advance_over, advance_zero, advance_goes}
use Rattle.divided.specs.Expected.{Scan, advance_scan, plays, steps_now, further_by, expects}
use Rattle.paused.proofs.Bits.{flags_bits}
use Rattle.divided.proofs.Stored.{length_timers}
use Rattle.divided.proofs.Left.{Stands, kept_left, stands_left}
use Rattle.divided.proofs.Agrees.{setting_for, begun_with, goes, code_length, Agrees, Matches, few_numbers, code_short, goes_sized, goes_place, goes_min, goes_within, whole_steps, on_from, done_within, over_refused, over_ended}

module _ {image : List ℕ} {cells : List ℤ} {w : Option (List ℤ)} (o : Scan) (x : Agrees image cells w (some o)) (n : ℕ) where
  -- 0 steps: nothing moves
  stays : steps_now n o ≡ 0 → after_call (R.Done 0) cells ≡ advance_of image n cells → Matches (plays (advance_scan n) image cells) (expects (advance_scan n) w (some o))
  stays z e =
      let q : o.done + 0 ≡ o.done = omega arith in
      rw (← e, z, q) (record { said = refl; agrees = x })

  module _ (b c : Bool) (vs t : List ℤ) (e : x.scan.reached.last ≡ ok (machine b c vs t))
      (s : Stands cells (length o.start) (code_length o) o.done x.scan.reached.place (ok (machine b c vs t))) where
    -- the run of this instalment
    pub now_ran : (k : ℕ) → ran_from (code_of o.image) k (checkpoint_of cells) (layout_for o.image o.start o.row) cells
        ≡ run (setting_for o) o.start (code_of o.image) k x.scan.reached.place 0 (machine b c vs t)
    unfolding ran_from
    now_ran k =
        let l : length (slice low_place (length o.start) cells) ≡ length (slice high_place (length o.start) cells) =
        length_slice low_place (length o.start) cells (omega (arith, x.long, few_numbers o x.scan.may)) ∙ sym (length_slice high_place (length o.start) cells (omega (arith, x.long, few_numbers o x.scan.may))) in
        let r = ranges_between_lem (slice low_place (length o.start) cells) (slice high_place (length o.start) cells) l in
        let q : flags_of (name_count (shape_in o.image)) (bits_of (timers_of (shape_in o.image))) ≡ timers_of (shape_in o.image) = rw (length_timers o.image) at (flags_bits (timers_of (shape_in o.image))) in
        rw (s.progress, s.held, s.current, x.scan.start)
        (run_ranges (setting_in (layout_for o.image o.start o.row) cells) (setting_for o) (record { low = r.lows ∙ x.scan.low; high = r.highs ∙ x.scan.high; flags = q; time = refl }) o.start
        (code_of o.image) k x.scan.reached.place 0 (machine b c vs t))

    now_is : (k : ℕ) → instalment (drop (layout_of cells).base image) k cells (checkpoint_of cells) (layout_of cells)
        ≡ after_call (R.Done (run (setting_for o) o.start (code_of o.image) k x.scan.reached.place 0 (machine b c vs t)).steps)
        (left_by_run o.done (code_length o) (run (setting_for o) o.start (code_of o.image) k x.scan.reached.place 0 (machine b c vs t)) cells)
    unfolding code_of
    now_is k = rw (x.scan.layout, x.scan.same, now_ran k, ap (λ (p : Checkpoint). p.steps) s.progress)

    -- the runs before and now are one
    joined : (k : ℕ) → goes o (o.done + k) ≡ later x.scan.reached.steps (run (setting_for o) o.start (code_of o.image) k x.scan.reached.place 0 (machine b c vs t))
    joined k = on_from o x.scan k ∙ rw e (run_shift (setting_for o) o.start (code_of o.image) k x.scan.reached.place x.scan.reached.steps (machine b c vs t))

    module _ (d : Ran) (is : d ≡ run (setting_for o) o.start (code_of o.image) (min n image_limit) x.scan.reached.place 0 (machine b c vs t)) where
      joined_is : goes o (o.done + min n image_limit) ≡ later x.scan.reached.steps d
      joined_is = rw is (joined (min n image_limit))

      steps_are : d.steps ≡ steps_now n o
      steps_are =
          omega (
            arith,
            ap (λ (r : Ran). r.steps) joined_is,
            goes_min o x.scan.may (o.done + min n image_limit),
            goes_within o x.scan.may,
            whole_steps o x.scan.may,
            code_short o x.scan.may,
            x.scan.counted,
            done_within o x.scan,
          )

      further : Agrees image (left_by_run o.done (code_length o) d cells) w (some (further_by d.steps o))
      further =
          let y = x.scan.may in
          let z = subst (λ (r : Ran). SizedIn (length o.start) r.last) joined_is (goes_sized o y (o.done + min n image_limit)) in
          let u = subst (λ (r : Ran). r.place ≤ image_limit) joined_is (goes_place o y (o.done + min n image_limit)) in
          let few = few_numbers o y in
          let k = kept_left o.done (code_length o) d.steps d.place (length o.start) cells x.long few d.last z in
          let total : o.done + d.steps ≤ image_limit = omega (arith, steps_are, done_within o x.scan, whole_steps o y, goes_within o y, code_short o y) in
          let same-steps : (goes o (o.done + min n image_limit)).steps ≡ 0 + (o.done + d.steps) = ap (λ (r : Ran). r.steps) joined_is ∙ omega (arith, x.scan.counted) in
          record {
            long = k.long ∙ x.long;
            waits = k.waits ∙ x.waits;
            scan =
                record {
                  same = x.scan.same;
                  may = y;
                  layout = k.layout ∙ x.scan.layout;
                  start = k.start (length o.start) few ∙ x.scan.start;
                  low = k.low (length o.start) ∙ x.scan.low;
                  high = k.high (length o.start) ∙ x.scan.high;
                  reached = later x.scan.reached.steps d;
                  went =
                      run_exact (setting_for o) o.start (code_of o.image) (o.done + min n image_limit) 0 0 (o.done + d.steps)
                      (machine false false [] (begun_with o)) same-steps
                      ∙ joined_is;
                  counted = omega (arith, x.scan.counted);
                  stands = stands_left o.done (code_length o) d.steps d.place (length o.start) cells x.long few u total d.last z;
                };
          }

      moved : advance_of image n cells ≡ after_call (R.Done d.steps) (left_by_run o.done (code_length o) d cells) → Matches (plays (advance_scan n) image cells) (expects (advance_scan n) w (some o))
      moved q = rw (q, ← steps_are) (record { said = refl; agrees = further })

    code_length_lem : (o : Scan) → code_length o ≡ length o.image - (header_of o.image).place
    unfolding code_of
    code_length_lem o = length-drop (header_of o.image).place o.image

    under_way : x.scan.reached.place < code_length o → (n ≡ 0 → ⊥) → Matches (plays (advance_scan n) image cells) (expects (advance_scan n) w (some o))
    under_way h given =
        let p : (checkpoint_of cells).phase ≡ 1 = ap (λ (p : Checkpoint). p.phase) s.progress ∙ rw (lt-leb (code_length o) x.scan.reached.place h) in
        let l : length image ≡ (layout_of cells).image = rw (x.scan.layout, x.scan.same) in
        let within : (checkpoint_of cells).place < length image - (layout_of cells).base = rw (ap (λ (p : Checkpoint). p.place) s.progress, x.scan.layout, x.scan.same) (omega (arith, h, code_length_lem o)) in
        moved _ refl
        (sym (advance_goes image n cells x.long (checkpoint_of cells) refl (λ z. omega (arith, p, z)) p given (layout_of cells) refl l within) ∙ now_is (min n image_limit))

    ended : code_length o ≤ x.scan.reached.place → Matches (plays (advance_scan n) image cells) (expects (advance_scan n) w (some o))
    ended h =
        let p : (checkpoint_of cells).phase ≡ 2 = ap (λ (p : Checkpoint). p.phase) s.progress ∙ rw (le-leb (code_length o) x.scan.reached.place h) in
        stays (omega (arith, over_ended o x.scan (machine b c vs t) e h)) (advance_over image n cells x.long (checkpoint_of cells) refl (λ z. omega (arith, p, z)) (λ z. omega (arith, p, z)))

    at_zero : x.scan.reached.place < code_length o → n ≡ 0 → Matches (plays (advance_scan n) image cells) (expects (advance_scan n) w (some o))
    at_zero h z =
        let p : (checkpoint_of cells).phase ≡ 1 = ap (λ (p : Checkpoint). p.phase) s.progress ∙ rw (lt-leb (code_length o) x.scan.reached.place h) in
        stays (omega arith) (advance_zero image n cells x.long (checkpoint_of cells) refl (λ q. omega (arith, p, q)) p z)

  by_last : (r : Outcome Machine) → x.scan.reached.last ≡ r → Stands cells (length o.start) (code_length o) o.done x.scan.reached.place r
      → Matches (plays (advance_scan n) image cells) (expects (advance_scan n) w (some o))
  by_last (refusal k) e s =
      let p : (checkpoint_of cells).phase ≡ 3 = ap (λ (p : Checkpoint). p.phase) s in
      stays (omega (arith, over_refused o x.scan k e)) (advance_over image n cells x.long (checkpoint_of cells) refl (λ z. omega (arith, p, z)) (λ z. omega (arith, p, z)))
  by_last (ok (machine b c vs t)) e s = by (leb (code_length o) x.scan.reached.place) (leb-true (code_length o) x.scan.reached.place) (leb-false (code_length o) x.scan.reached.place) (eqb n 0) (eqb-true n 0) (eqb-false n 0)
    where
      by : (a : Bool) → (a ≡ true → code_length o ≤ x.scan.reached.place) → (a ≡ false → x.scan.reached.place < code_length o)
          → (z : Bool) → (z ≡ true → n ≡ 0) → (z ≡ false → n ≡ 0 → ⊥) → Matches (plays (advance_scan n) image cells) (expects (advance_scan n) w (some o))
      by true y f z i j = ended b c vs t e s (y refl)
      by false y f true i j = at_zero b c vs t e s (f refl) (i refl)
      by false y f false i j = under_way b c vs t e s (f refl) (j refl)

pub advance_agrees : (image : List ℕ) (cells : List ℤ) (w : Option (List ℤ)) (o : Option Scan) (n : ℕ) → Agrees image cells w o → Matches (plays (advance_scan n) image cells) (expects (advance_scan n) w o)
advance_agrees image cells w none n x = rw (← (advance_idle image n cells x.long (checkpoint_of cells) refl x.scan)) (record { said = refl; agrees = x })
advance_agrees image cells w (some o) n x = by_last o x n x.scan.reached.last refl x.scan.stands
