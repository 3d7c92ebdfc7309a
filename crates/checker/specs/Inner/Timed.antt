-- The walk over code with timers, one instruction at a time: auxiliary definitions for proofs. Document 02, A.7. Assumes nothing.
use Rattle.std.specs.Prelude.{ℕ, suc, ◌+◌, ◌≤◌, ◌<◌, ◌≡◌, true, ◌&&◌, List, eqb, leb, ℤ, length}
use Rattle.std.specs.Prelude as O
use Rattle.std.specs.Prelude.{Some, None}
use Rattle.std.proofs.Math.Option.{Option, none, some}
use Rattle.limits.specs.Limits.{broken_image}
use Rattle.limits.specs.Answer.{Answer, refused}
use Rattle.semantics.specs.Program.{Range}
use Rattle.bytecode.specs.Instructions.{Instruction, timer, instruction_of}
use Rattle.bytecode.specs.Check.{Known, tested, advance, follows, suits, if_some, check_code}
use Rattle.bytecode.specs.Parts.{lows, highs, starts}
use Rattle.checker.specs.declared.advance.Walk.{Walk}
use Rattle.checker.specs.declared.timed.Last.{Last}
use Rattle.checker.specs.Inner.Walk.{known_of, advance_by, Small}

-- the ranges of the names, as they stand in memory
pub record RangesStand (ns : List Range) (low high start : List ℤ) : Type 0 where
  pub lower : lows ns ≡ low
  pub upper : highs ns ≡ high
  pub starting : starts ns ≡ start

-- what the numbers tell of the instruction before
abbrev pub LastBy : Option Instruction → Last → Type 0
LastBy before l = (t w : ℕ) → follows before t w ≡ (eqb l.of (w + 1) && leb l.least t)

-- ---- one instruction: the walk behind it, what is known of it, and its place; or nothing where it breaks soundness
abbrev pub AfterTurn : Type 0
AfterTurn = O.Option (Walk × Last × ℕ)

-- an instruction of one operand at most keeps soundness, or breaks it
abbrev pub PlainBy : ℕ → ℕ → ℕ → Walk → AfterTurn → Type 0
PlainBy code n next w (Some (k, l, to)) = (advance_by (instruction_of code n) (known_of w) ≡ some (known_of k)) × Small k × LastBy (instruction_of code n) l × (to ≡ next)
PlainBy code n next w None = advance_by (instruction_of code n) (known_of w) ≡ none

-- a timer suits and keeps soundness, or does not suit, or breaks it
abbrev pub TimedBy : ℕ → ℕ → ℕ → ℕ → Walk → Last → List ℤ → List ℤ → List ℤ → AfterTurn → Type 0
TimedBy t v n next w last low high start (Some (k, l, to)) =
    ((ns : List Range) (before : Option Instruction) → RangesStand ns low high start → LastBy before last → suits ns before (timer t v n) ≡ true)
    × (advance (timer t v n) (known_of w) ≡ some (known_of k)) × Small k × LastBy (some (timer t v n)) l × (to ≡ next)
TimedBy t v n next w last low high start None =
    (ns : List Range) (before : Option Instruction) → RangesStand ns low high start → LastBy before last
    → (at : ℕ) (k : Known → Answer (Unit {0})) → tested (suits ns before (timer t v n)) at (if_some (advance (timer t v n) (known_of w)) at k) ≡ refused broken_image at

-- the walk goes one instruction on
pub record Turns (code : List ℕ) (at : ℕ) (w : Walk) (last : Last) (low high start : List ℤ) (k : Walk) (l : Last) (next : ℕ) : Type 0 where
  pub small : Small k
  pub behind : at < next
  pub inside : next ≤ length code
  pub instruction : Instruction
  pub lastly : LastBy (some instruction) l
  pub goes : (ns : List Range) (before : Option Instruction) → RangesStand ns low high start → LastBy before last
      → (base f : ℕ) → check_code ns base code (suc f) at before (known_of w) ≡ check_code ns base code f next (some instruction) (known_of k)

abbrev pub TurnsBy : List ℕ → ℕ → Walk → Last → List ℤ → List ℤ → List ℤ → AfterTurn → Type 0
TurnsBy code at w last low high start (Some (k, l, next)) = Turns code at w last low high start k l next
TurnsBy code at w last low high start None =
    (ns : List Range) (before : Option Instruction) → RangesStand ns low high start → LastBy before last
    → (base f : ℕ) → check_code ns base code (suc f) at before (known_of w) ≡ refused broken_image (base + at)
