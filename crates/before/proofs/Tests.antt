-- The tests before the code. Assumes nothing.
use Prim.Native.Nat.{ℕ, ◌+◌}
use native.Mathlib.Omega.{arith}
use mathlib.Core.Path.{◌≡◌, refl, sym, ap, ◌∙◌}
use mathlib.Core.Bool.{Bool, true, false, ◌&&◌}
use mathlib.Core.List.{List}
use lib.IntN.{ℤ, pos}
use lib.ListN.{length, take, get_or-eq_default}
use lib.Seq.{take_all, length-take-le}
use lib.Signed.{non_neg}
use borrow.Author.Tests.{eq-eqb, ne_eqb}
use Rattle.std.specs.Prelude.{Result, Ok, Err}
use Rattle.limits.specs.declared.Refusal.{Refusal}
use Rattle.limits.specs.Answer.{accepted, refused}
use Rattle.semantics.specs.Formula.{State, at}
use Rattle.semantics.specs.Shape.{Shape, has_timer, cells, all_within, millis_of}
use Rattle.semantics.specs.ReferenceScan.{with_inputs}
use Rattle.bytecode.proofs.Walk.{refused≢accepted}
use Rattle.shapes.specs.declared.Measured.{Measured}
use Rattle.machine.specs.declared.Timing.{Timing}
use Rattle.machine.proofs.Changes.{names_length}
use Rattle.before.specs.declared.Code.{Code}
use Rattle.before.specs.Before.{tested_before}
use Rattle.before.specs.Inner.Known.{in_ranges, CopiedBy, KnownShape, tested_row, PreparedBy}
use Rattle.before.proofs.Cells.{no_elapsed, some_elapsed, names_within}

-- a refusal comes before the next test; without one, that test decides
then_refused : (a b d : Bool) (n p : ℕ) → tested_before a 18 (tested_before b 13 (accepted tt)) ≡ refused n p → refused n p ≡ tested_before a 18 (tested_before (b && d) 13 (accepted tt))
then_refused true true d n p e = refused≢accepted tt n p (sym e)
then_refused true false d n p e = sym e
then_refused false b d n p e = sym e

then_tested : (a b d : Bool) → tested_before a 18 (tested_before b 13 (accepted tt)) ≡ accepted tt → tested_before d 13 (accepted tt) ≡ tested_before a 18 (tested_before (b && d) 13 (accepted tt))
then_tested true true d e = refl
then_tested true false d e = refused≢accepted tt 13 0 e
then_tested false b d e = refused≢accepted tt 18 0 e

module _ {k : Shape} {m : Measured} {low high : List ℤ} (x : KnownShape k m low high) (s : State) (row : List ℤ) (sized : length low ≡ length s) where
  abbrev timing_of : ℕ → Timing
  timing_of n = record { names = m.names; timers = m.timers; millis = n }

  numbers : length (cells k) ≡ length s
  numbers = names_length (cells k) low high x.ranges ∙ sized

  -- ---- as many numbers as names

  module _ (h : length s ≡ m.names) where
    untimed : has_timer k.limits ≡ false
    untimed = no_elapsed k (numbers ∙ h ∙ sym x.names_are)

    pub plain_length : (length row ≡ m.inputs → ⊥) → refused 12 0 ≡ tested_row k s row
    plain_length n = rw (untimed, x.inputs_are, ne_eqb (length row) m.inputs n)

    module _ (n : length row ≡ m.inputs) where
      pub plain_rest : in_ranges (cells k) s row ≡ tested_row k s row
      plain_rest = rw (untimed, x.inputs_are, eq-eqb (length row) m.inputs n, names_within k row (omega (arith, x.among, x.names_are)))

      pub plain_prepared : (work : List ℤ) (r : Result Code Refusal) → CopiedBy m.place (timing_of 0) s row work r → PreparedBy k m s row work r
      plain_prepared work (Err r) c = c
      plain_prepared work (Ok r) c =
          let out : at row k.inputs ≡ pos 0 = get_or-eq_default row (pos 0) (omega (arith, x.inputs_are)) in (
            c.0,
            record {
              names_are = rw c.1;
              timers_are = rw c.1;
              short = rw c.1 (omega arith);
              timed = rw c.1 (record { flags = x.flags; time = ap millis_of out });
              copied = c.2 ∙ ap (with_inputs s) (sym (take_all k.inputs row (omega (arith, x.inputs_are))));
            },
          )

  -- ---- more numbers: elapsed times

  module _ (h : length s ≡ m.names → ⊥) where
    some_timer : has_timer k.limits ≡ true
    some_timer = some_elapsed k (λ e. h (sym numbers ∙ e ∙ x.names_are))

    pub timed_length : (length row ≡ m.inputs + 1 → ⊥) → refused 12 0 ≡ tested_row k s row
    timed_length n = rw (some_timer, x.inputs_are, ne_eqb (length row) (m.inputs + 1) n)

    module _ (n : length row ≡ m.inputs + 1) where
      inputs_within : all_within (cells k) (take m.inputs row) ≡ all_within k.ranges (take m.inputs row)
      inputs_within = names_within k (take m.inputs row) (omega (arith, length-take-le m.inputs row (omega arith), x.among, x.names_are))

      pub timed_refused : (j p : ℕ) → in_ranges (cells k) s (take m.inputs row) ≡ refused j p → refused j p ≡ tested_row k s row
      timed_refused j p e =
          rw (some_timer, x.inputs_are, eq-eqb (length row) (m.inputs + 1) n, ← inputs_within)
          (then_refused (all_within (cells k) s) (all_within (cells k) (take m.inputs row)) (non_neg (at row m.inputs)) j p e)

      pub timed_tested : (b : Bool) → non_neg (at row m.inputs) ≡ b → in_ranges (cells k) s (take m.inputs row) ≡ accepted tt → tested_before b 13 (accepted tt) ≡ tested_row k s row
      timed_tested b z e =
          rw (some_timer, x.inputs_are, eq-eqb (length row) (m.inputs + 1) n, ← inputs_within, z)
          (then_tested (all_within (cells k) s) (all_within (cells k) (take m.inputs row)) b e)
