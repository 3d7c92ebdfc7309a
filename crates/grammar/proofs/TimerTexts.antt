-- Worked examples of texts with timers (document 02, A.7): a table as ExampleTexts has. Assumes nothing.
use mathlib.Core.List.{List, [], ◌∷◌, ◌++◌}
use Prim.Native.Nat.{ℕ}
use Prim.Native.String.{String}
use Rattle.lexer.specs.Bytes.{bytes}
use Rattle.grammar.proofs.ExampleTexts.{Example, at, fine, inputs}

-- declarations of an input and of a variable of range 0..1; the variable's rule; a timer of it
abbrev D : List ℕ
D = bytes "input i 0..1; var w 0..1; "

abbrev R : List ℕ
R = bytes "w: GX(w = (i)); "

abbrev timed : List ℕ
timed = D ++ bytes "timer t of w limit 1; "

-- after the declarations; after these and the timer
abbrev declared : String → ℕ → String → Example
declared before number after = at (D ++ bytes before) number after

abbrev timing : String → ℕ → String → Example
timing before number after = at (timed ++ bytes before) number after

-- 23 at a w that is no `var` of range 0..1: an input, a timer, another range. At w 2 comes first, then 4, 8, 23.
abbrev pub wrong_timers : List Example
wrong_timers =
    declared "timer t of " 23 "i limit 1;"
    ∷ declared "timer t of " 23 "t limit 1;"
    ∷ declared "timer t of " 23 "I limit -1;"
    ∷ timing "timer u of " 23 "t limit 1;"
    ∷ declared "var y 0..2; timer t of " 23 "y limit 1;"
    ∷ declared "var y -1..1; timer t of " 23 "y limit 1;"
    ∷ declared "var y 1..1 init 1; timer t of " 23 "y limit 1;"
    ∷ declared "timer t of " 4 "zz limit 1;"
    ∷ declared "timer " 4 "w of w limit 1;"
    ∷ declared "timer " 4 "W of w limit 1;"
    ∷ timing "timer " 4 "t of w limit 1;"
    ∷ at (bytes "timer t of ") 4 "w limit 1;"
    ∷ declared "timer " 8 "abcdefghijklmnopq of w limit 1;"
    ∷ declared "timer t of " 8 "abcdefghijklmnopq limit 1;"
    ∷ at (inputs 64 ++ bytes "timer ") 8 "t of a0 limit 1;"
    ∷ at (inputs 64 ++ bytes "timer ") 4 "a0 of a0 limit 1;"
    ∷ []

-- N from 1 to 2,147,483,647. What the grammar doesn't allow; the words in other cases, and behind `_`.
abbrev pub timer_forms : List Example
timer_forms =
    declared "timer t of w limit " 3 "0;"
    ∷ declared "timer t of w limit " 3 "2147483648;"
    ∷ declared "timer t of w limit " 3 "4294967297;"
    ∷ declared "timer t of w limit " 2 "-1;"
    ∷ declared "timer t of w limit " 2 ";"
    ∷ declared "timer t " 2 "w limit 1;"
    ∷ declared "timer " 2 "of w limit 1;"
    ∷ declared "timer t of " 2 "_w limit 1;"
    ∷ declared "timer t of w " 2 "limit1;"
    ∷ declared "timer t of w limit 1" 2 "w;"
    ∷ declared "" 2 "Timer t of w limit 1;"
    ∷ declared "timer t " 2 "Of w limit 1;"
    ∷ declared "timer t of w limit 1" 2 ""
    ∷ timing "" 2 "var y 0..1;"
    ∷ timing "" 2 "input y 0..1;"
    ∷ timing "w: GX(w = (i)); " 2 "timer u of w limit 1;"
    ∷ at (bytes "var ") 2 "limit 0..1;"
    ∷ declared "w: GX(w = (" 2 "timer));"
    ∷ declared "w: GX(w = (" 1 "_timer));"
    ∷ declared "w: GX(w = (" 1 "_Timer));"
    ∷ []

-- t is used as a current value only after w's rule, and has no rule itself.
abbrev pub timer_rules : List Example
timer_rules =
    timing "w: GX(w = (" 5 "t));"
    ∷ declared "var y 0..1; timer t of w limit 1; y: GX(y = (" 5 "t));"
    ∷ declared "var y 0..1; timer t of w limit 1; timer u of y limit 1; w: GX(w = (i)); y: GX(y = (t * " 5 "u));"
    ∷ timing "" 6 "t: GX(t = (1));"
    ∷ timing "w: GX(w = (i)); " 6 "t: GX(t = (1));"
    ∷ timing "w: GX(w = (i)); " 6 "T+: GX("
    ∷ at timed 6 ""
    ∷ fine (D ++ bytes "timer t of W limit 1; " ++ R)
    ∷ fine (timed ++ bytes "w: GX(w = (_t)); ")
    ∷ fine (D ++ bytes "timer t of w limit 2147483647; " ++ R)
    ∷ fine (D ++ bytes "timer t of w limit 00000000001; " ++ R)
    ∷ fine (bytes "var limits 0..1; limits: GX(limits = (0));")
    ∷ fine (D ++ bytes "var y 0..1 init 1; timer t of w limit 1; timer u of y limit 1; w: GX(w = (i)); y: GX(y = (t));")
    ∷ fine (timed ++ R ++ bytes "watch: G([t <= w]); watch: G([_t = 1] -> X([T = 0]));")
    ∷ []
