-- The parts of a scan as the running code works them: auxiliary definitions for proofs. Assumes nothing.
use Rattle.std.specs.Prelude.{◌≡◌, false, List, [], ℕ, ◌≤◌, ℤ, length, Result, Ok, Err}
use Rattle.limits.specs.Limits.{name_limit, image_limit}
use Rattle.limits.specs.Answer.{Answer, accepted, refused}
use Rattle.limits.specs.Refusals.{refusal_place}
use Rattle.limits.specs.declared.Refusal.{Refusal}
use Rattle.arith.specs.Inner.Flags.{flags_of}
use Rattle.semantics.specs.Program.{Range}
use Rattle.semantics.specs.Formula.{State}
use Rattle.semantics.specs.Shape.{Setting}
use Rattle.semantics.specs.ReferenceScan.{with_inputs}
use Rattle.bytecode.specs.Check.{check_header}
use Rattle.bytecode.specs.Parts.{header_of, lows, highs}
use Rattle.machine.specs.Step.{machine}
use Rattle.machine.specs.Runs.{Ran, run}
use Rattle.shapes.specs.declared.Measured.{Measured}
use Rattle.shapes.specs.Results.{Measures}
use Rattle.scan.specs.Services.{start_of, AfterScan, refused_scan, finished}
use Rattle.scan.specs.Results.{after_start}

-- ---- the code

-- a run over current values, and what it leaves of the state found
abbrev pub ran_over : Setting → List ℕ → State → State → Ran
ran_over ns code found cur = run ns found code (length code) 0 0 (machine false false [] cur)

abbrev pub scanned_over : Setting → List ℕ → State → State → AfterScan
scanned_over ns code found cur = finished found (ran_over ns code found cur).steps (ran_over ns code found cur).last

-- ranges of names, none of them a timer
abbrev pub plain_setting : List Range → Setting
plain_setting ns = record { ranges = ns; timers = flags_of (length ns) 0; millis = 0 }

-- the code of an image without timers, with the ranges of its names
abbrev pub scanned_code : List Range → List ℕ → State → List ℤ → AfterScan
scanned_code ns code found row = scanned_over (plain_setting ns) code found (with_inputs found row)

-- what tests before the code refuse comes first
abbrev pub scanned_by : Answer (Unit {0}) → State → AfterScan → AfterScan
scanned_by (refused number place) found r = refused_scan number place 0 found
scanned_by (accepted u) found r = r

-- ---- the header

-- the whole header was read, and the code begins at a place; lows and highs of the names
pub record KnownHeader (image : List ℕ) (place inputs names : ℕ) (low high : List ℤ) : Type 0 where
  pub short : length image ≤ image_limit
  pub read : check_header image ≡ accepted (record { inputs = inputs; ranges = (header_of image).ranges; place = place })
  pub many : length (header_of image).ranges ≡ names
  pub inside : place ≤ length image
  pub few : names ≤ name_limit
  pub lowest : low ≡ lows (header_of image).ranges
  pub highest : high ≡ highs (header_of image).ranges

-- ---- start

-- the declared starts, and what was measured of the image; or refused, as start does
abbrev pub StartedFor : List ℕ → State → List ℤ → List ℤ → List ℤ → List ℤ → State → Result Measured Refusal → Type 0
StartedFor image found low₀ high₀ low high left (Ok m) = Measures image low₀ high₀ low high m × (length found ≡ m.size) × (after_start (Ok tt) left ≡ start_of image found)
StartedFor image found low₀ high₀ low high left (Err e) = (after_start (Err e) left ≡ start_of image found) × (refusal_place e ≤ image_limit)
