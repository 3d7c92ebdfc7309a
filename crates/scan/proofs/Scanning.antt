-- Laws of a run over a copy of the state. Assumes nothing.
use mathlib.Core.Path.{◌≡◌, refl, ◌∙◌}
use mathlib.Core.Bool.{false}
use mathlib.Core.List.{List}
use Prim.Native.Nat.{ℕ, ◌≤◌}
use lib.IntN.{ℤ}
use lib.ListN.{length}
use Rattle.semantics.specs.ReferenceScan.{with_inputs}
use Rattle.semantics.specs.Shape.{Setting}
use Rattle.machine.specs.declared.Registers.{Registers}
use Rattle.machine.specs.declared.Timing.{Timing}
use Rattle.machine.specs.declared.Executed.{Executed}
use Rattle.machine.specs.declared.Stepped.TheVariants.{Next, Refused}
use Rattle.machine.specs.Runs.{run}
use Rattle.machine.specs.Inner.Memory.{held_of, machine_of, ran_of, RangesIn, TimingIn}
use Rattle.machine.specs.Inner.Dispatch.{RanTo}
use Rattle.machine.proofs.Copies.{over_all}
use Rattle.machine.proofs.Untimed.{whole_run}
use Rattle.scan.specs.Results.{after_scan}
use Rattle.scan.specs.Inner.Parts.{ran_over, scanned_over}
use Rattle.scan.specs.declared.Scanned.TheVariants as R

-- nothing held, nothing picked, nothing passed over
abbrev first : Registers
first = record { held = 0; picked = false; passing = false }

-- with nothing held, whatever the stack has
pub whole_code : (ns : Setting) (code : List ℕ) (found vals w : List ℤ) → run ns found code (length code) 0 0 (machine_of first vals w) ≡ ran_over ns code found w
unfolding held_of
whole_code ns code found vals w = refl

-- a run in a state without elapsed times
pub untimed-code : {code : List ℕ} {settings : Setting → Type 0} {found vals w vs ws : List ℤ} {names : ℕ} {e : Executed} → RanTo code settings found vals w names 0 (length code) first e vs ws
    → length found ≤ names → (ns : Setting) → settings ns → ran_of e vs ws ≡ ran_over ns code found w
untimed-code {code} {settings} {found} {vals} {w} t h ns q = whole_run t h ns q ∙ whole_code ns code found vals w

-- the copy before the run and behind it
module _ (code : List ℕ) (low high found w vs ws : List ℤ) (timing : Timing) (e : Executed)
    (went : (ns : Setting) → RangesIn ns.ranges low high → TimingIn ns timing → ran_of e vs ws ≡ ran_over ns code found w) where
  -- the state is written at success
  pub code_done : (t : Registers) (left : List ℤ) → e.last ≡ Next t → length ws ≡ length found → left ≡ with_inputs found ws
      → (ns : Setting) → RangesIn ns.ranges low high → TimingIn ns timing → after_scan (R.Done e.steps) left ≡ scanned_over ns code found w
  code_done t left l k o ns r q = rw (← went ns r q, l, o, over_all ws found k)

  pub code_refused : (k : ℕ) → e.last ≡ Refused k → (ns : Setting) → RangesIn ns.ranges low high → TimingIn ns timing → after_scan (R.Refused k 0 e.steps) found ≡ scanned_over ns code found w
  code_refused k l ns r q = rw (← went ns r q, l)
