-- Worked watches, as one table under one statement. Document 02, A.13, and its open points. Assumes nothing.
use mathlib.Core.Path.{◌≡◌, refl}
use mathlib.Core.List.{List, [], ◌∷◌, map}
use mathlib.Core.Option.{Option, none, some}
use Prim.Native.Nat.{ℕ}
use lib.IntN.{pos, negsuc}
use Rattle.arith.specs.Values.{add, subtract, divide, modulo, equal, less, greater, greater_equal, arithmetic, negation, compares}
use Rattle.semantics.specs.Program.{Expression, constant, current, previous, operation, Condition, comparison, either, Watch}
use Rattle.semantics.specs.Formula.{Trace}
use Rattle.watching.specs.Watching.{places_of, first_failure}

pub record Example : Type 0 where
  pub watch : Watch
  pub trace : Trace
  pub report : Option ℕ

-- `i` is name 0, `v` name 1
abbrev i : Expression
i = current 0

abbrev v : Expression
v = current 1

abbrev number : ℕ → Expression
number n = constant (pos n)

abbrev always : Condition → Watch
always c = record { first = c; later = none }

abbrev then : Condition → Condition → Watch
then c d = record { first = c; later = some d }

-- 0 0 · 1 1 · 1 2 · 0 2
abbrev long : Trace
long = (pos 0 ∷ pos 0 ∷ []) ∷ (pos 1 ∷ pos 1 ∷ []) ∷ (pos 1 ∷ pos 2 ∷ []) ∷ (pos 0 ∷ pos 2 ∷ []) ∷ []

abbrev short : Trace
short = (pos 0 ∷ pos 0 ∷ []) ∷ []

abbrev on : Trace → Watch → Option ℕ → Example
on trace w report = record { watch = w; trace = trace; report = report }

abbrev quotient : Expression → Condition
quotient e = comparison greater (operation divide (number 9) e) (number 0)

abbrev holding : Condition
holding = comparison equal (number 1) (number 1)

abbrev failing : Condition
failing = comparison equal (number 1) (number 2)

unfoldable pub examples : List Example
examples =
    on long (always (comparison greater_equal v (previous 1))) none
    ∷ on long (always (comparison less v (number 2))) (some 2)
    ∷ on long (then (comparison equal v (number 0)) (comparison equal v (number 1))) none
    ∷ on long (then (comparison equal i (number 1)) (comparison greater v (previous 1))) (some 3)
    ∷ on long (always (comparison equal v (operation add (previous 1) i))) none
    -- 14 fails: at the start, in a first condition, in a second one whose first is false; not where no pair is
    ∷ on long (always (quotient i)) (some 0)
    ∷ on long (then (quotient v) holding) (some 1)
    ∷ on long (then failing (quotient (operation subtract (number 2) v))) (some 2)
    ∷ on short (then holding (quotient v)) none
    ∷ on long (always (comparison equal v (operation add (number 2147483647) (number 1)))) (some 0)
    ∷ on long (always (comparison equal (operation modulo (number 1) (number 0)) (number 0))) none
    ∷ on long (always (either (comparison equal v (number 0)) (comparison equal (operation divide (number 1) (number 0)) (number 1)))) (some 0)
    -- out of range is no fault; a previous value at the start is the current one
    ∷ on ((pos 5 ∷ pos 12 ∷ []) ∷ (negsuc 6 ∷ pos 12 ∷ []) ∷ []) (always (comparison equal v (number 12))) none
    ∷ on ((pos 0 ∷ pos 3 ∷ []) ∷ (pos 0 ∷ pos 4 ∷ []) ∷ []) (always (comparison equal (previous 1) v)) (some 1)
    -- without names: the start alone
    ∷ on ([] ∷ []) (always failing) (some 0)
    ∷ on ([] ∷ []) (then holding failing) none
    ∷ []

-- the definition gives what the table says
pub watches_hold : map (λ (e : Example). first_failure e.watch (places_of e.trace)) examples ≡ map (λ (e : Example). e.report) examples
unfolding examples first_failure arithmetic negation compares
watches_hold = refl
