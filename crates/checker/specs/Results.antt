-- What the walk and check say besides their answer. Assumes nothing.
use Rattle.std.specs.Prelude.{◌≡◌, false, List, ℕ, ◌+◌, ◌≤◌, length, get_or, Result, Ok, Err}
use Rattle.std.proofs.Math.Option.{Option}
use Rattle.limits.specs.Limits.{image_limit, broken_image}
use Rattle.limits.specs.Answer.{Answer, accepted, refused}
use Rattle.limits.specs.Refusals.{refusal_place}
use Rattle.limits.specs.declared.Refusal.{Refusal}
use Rattle.semantics.specs.Program.{Range}
use Rattle.semantics.specs.Shape.{has_timer}
use Rattle.bytecode.specs.Instructions.{Instruction}
use Rattle.bytecode.specs.Check.{Known, check_code}
use Rattle.bytecode.specs.Parts.{limits_of}
use Rattle.bytecode.specs.Inner.Timers.{NoTimers}
use Rattle.checker.specs.declared.Surveyed.{Surveyed}
use Rattle.checker.specs.declared.Surveyed.TheVariants.{Plain, Timed}
use Rattle.checker.specs.declared.Verdict.{Verdict}
use Rattle.checker.specs.declared.Verdict.TheVariants as J

-- a place is inside an image of allowed length, or at its end
abbrev pub CheckedWithin : Result (Unit {0}) Refusal → Type 0
CheckedWithin (Ok _) = Unit {0}
CheckedWithin (Err e) = refusal_place e ≤ image_limit

-- ---- check that tells sound images without timers apart

-- a place is inside an image of allowed length, or at its end
abbrev pub SurveyedBy : List ℕ → Result Surveyed Refusal → Type 0
SurveyedBy image (Ok Plain) = has_timer (limits_of image) ≡ false
SurveyedBy image (Ok Timed) = Unit {0}
SurveyedBy image (Err e) = refusal_place e ≤ image_limit

-- ---- the walk alone

-- an answer for the code from a place on, wherever the code begins (`base`), over as many instructions as there may be, whatever the ranges are and the
-- instruction before
abbrev pub Answers : List ℕ → ℕ → Known → (ℕ → Answer (Unit {0})) → Type 0
Answers code at c answer = (ns : List Range) (last : Option Instruction) (base fuel : ℕ) → length code ≤ at + fuel → answer base ≡ check_code ns base code fuel at last c

abbrev pub Judges : List ℕ → ℕ → Known → Verdict → Type 0
Judges code at c J.Sound = Answers code at c (λ base. accepted tt) × NoTimers code at
Judges code at c (J.Broken place) = Answers code at c (λ base. refused broken_image (base + place))
Judges code at c J.Timed = Unit {0}

abbrev pub VerdictWithin : ℕ → Verdict → Type 0
VerdictWithin length J.Sound = Unit {0}
VerdictWithin length (J.Broken at) = at ≤ length
VerdictWithin length J.Timed = Unit {0}

-- the instruction at a place breaks soundness if it is no timer
abbrev pub BreaksUnlessTimed : List ℕ → ℕ → Known → Type 0
BreaksUnlessTimed code at c = (get_or code at 0 ≡ 23 → ⊥) → Judges code at c (J.Broken at)
