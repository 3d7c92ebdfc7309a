-- The table of timers holds, by computation; its programs are well-formed. Assumes nothing.
use mathlib.Core.Path.{refl}
use native.Mathlib.Omega.{arith}
use Rattle.arith.specs.Values.{arithmetic}
use Rattle.semantics.specs.Program.{within, is_binary, WellFormed}
use Rattle.semantics.specs.Shape.{elapsed, due, timed}
use Rattle.semantics.specs.ReferenceScan.{new_value, reference_scan}
use Rattle.semantics.specs.Examples.{ton, chained, AllTimed, timed_examples}

pub timers_hold : AllTimed timed_examples
unfolding reference_scan new_value arithmetic within timed elapsed due
timers_hold = (refl, (refl, (refl, (refl, (refl, (refl, (refl, (refl, (refl, tt)))))))))

pub ton_formed : WellFormed (ton 5000)
unfolding within is_binary
ton_formed = record {
  inputs_fit = omega arith;
  starts = (tt, (tt, (tt, tt)));
  ordered = (refl, tt, refl, tt);
  agrees = (tt, tt);
  sided = (tt, tt);
  timed = record {
    numbered = (refl, refl);
    each = (record { own = refl; a_variable = omega arith; no_timer_lem = omega arith; binary = tt; least = omega arith; most = omega arith }, tt);
  };
}

pub chained_formed : WellFormed chained
unfolding within is_binary
chained_formed = record {
  inputs_fit = omega arith;
  starts = (tt, (tt, (tt, (tt, (tt, tt)))));
  ordered = (refl, tt, refl, ((refl, refl), tt, refl, tt));
  agrees = (tt, (tt, tt));
  sided = (tt, (tt, tt));
  timed = record {
    numbered = (refl, (refl, refl));
    each = (
      record { own = refl; a_variable = omega arith; no_timer_lem = omega arith; binary = tt; least = omega arith; most = omega arith },
      (record { own = refl; a_variable = omega arith; no_timer_lem = omega arith; binary = tt; least = omega arith; most = omega arith }, tt),
    );
  };
}
