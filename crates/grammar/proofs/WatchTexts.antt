-- Worked examples of texts with watches (document 02, A.13): a table as ExampleTexts has. Assumes nothing.
use mathlib.Core.List.{List, [], ◌∷◌, ◌++◌}
use Prim.Native.Nat.{ℕ}
use Prim.Native.String.{String}
use Rattle.lexer.specs.Bytes.{bytes}
use Rattle.grammar.proofs.ExampleTexts.{Example, times, at, fine, round}

-- declarations of an input and a variable; these and the variable's rule
abbrev named : List ℕ
named = bytes "input i 0..1; var v 0..9; "

abbrev pub ruled : List ℕ
ruled = named ++ bytes "v: GX(v = (_v + i)); "

abbrev watching : String → ℕ → String → Example
watching before number after = at (ruled ++ bytes before) number after

abbrev watches : ℕ → List ℕ
watches n = times n (bytes "watch:G([v<2]);")

-- 16 watches pass, a 17th is 30 at its word. A missing rule is 6 at the end, after the watches' own faults. 16 brackets in each `[c]` pass.
abbrev pub watch_texts : List Example
watch_texts =
    fine (ruled ++ bytes "watch: G([v >= _v]); watch: G([i = 1] -> X([v > _v]));")
    ∷ fine (bytes "watch: G([1 = 2]);")
    ∷ fine (bytes "watch:G([1=1]->X([1=2]));")
    ∷ fine (ruled ++ bytes "watch: G([v = _v + i & ~[i > 1] | _i = 0]);")
    ∷ fine (named ++ bytes "v: GX(v = (_v)); watch: G([V < I]);")
    ∷ fine (ruled ++ watches 16)
    ∷ at (ruled ++ watches 16) 30 "watch: G([v < 2]);"
    ∷ at (ruled ++ watches 16) 30 "watch"
    ∷ at (ruled ++ watches 16) 2 "v: GX("
    ∷ at (named ++ watches 1) 6 ""
    ∷ at (named ++ watches 16) 30 "watch"
    ∷ at (named ++ bytes "watch: G([") 4 "zz"
    ∷ at (named ++ watches 1) 2 "v: GX(v = (1));"
    ∷ watching "watch: G([v < 2" 2 ")"
    ∷ watching "watch: G(" 2 "v < 2"
    ∷ watching "watch: " 2 "g([v < 2]);"
    ∷ watching "" 2 "Watch: G([v < 2]);"
    ∷ watching "" 2 "G([v < 2]);"
    ∷ watching "watch: G([v < 2] -> " 2 "[v < 3]"
    ∷ watching "watch: G([v < 2] -> " 2 "x([v < 3]));"
    ∷ watching "watch: G([v < 2] -> X(" 2 "v < 3"
    ∷ watching "watch: G([v < 2] -> X([v < 3])" 2 ";"
    ∷ watching "watch: G([v < 2]" 2 "& [v < 3]"
    ∷ watching "watch: " 2 "GX([v < 2]);"
    ∷ watching "watch " 2 "G([v < 2]);"
    ∷ watching "watch: G([v < 2])" 2 ""
    ∷ watching "watch: G([v < 2]); " 2 "input"
    ∷ watching "watch: G([v < " 3 "2147483648]);"
    ∷ watching "watch: G([v < 2] -> X([" 4 "_zz]));"
    ∷ watching "watch: G([v < 2]); " 1 "_"
    ∷ at (bytes "input ") 2 "x 0..1;"
    ∷ at (bytes "input ") 2 "G 0..1;"
    ∷ at (bytes "input ") 2 "watch 0..1;"
    ∷ at (ruled ++ bytes "watch: G([(") 1 "_x"
    ∷ at (named ++ bytes "v: GX(v = (") 1 "_X));"
    ∷ fine (ruled ++ bytes "watch:G([" ++ round 16 (bytes "v") ++ bytes "<2]->X([" ++ round 16 (bytes "v") ++ bytes "<2]));")
    ∷ at (ruled ++ bytes "watch:G([" ++ times 16 (bytes "(")) 8 "(v"
    ∷ at (ruled ++ bytes "watch:G([v<2]->X([" ++ times 16 (bytes "[")) 8 "[v"
    ∷ []
