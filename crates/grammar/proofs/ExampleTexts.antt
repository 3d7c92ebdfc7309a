-- Worked examples of texts: a table of texts with the number and place of each refusal. Examples shows that they hold. Assumes nothing.
use mathlib.Core.List.{List, [], ◌∷◌, ◌++◌}
use Prim.Native.Nat.{ℕ, zero, suc, ◌+◌, ◌/◌, ◌%◌}
use Prim.Native.String.{String}
use lib.ListN.{length}
use Rattle.limits.specs.Answer.{Answer, accepted, refused}
use Rattle.lexer.specs.Bytes.{bytes}

-- a text and its answer, without the program
pub record Example : Type 0 where
  pub text : List ℕ
  pub answer : Answer (Unit {0})

-- ---- texts

abbrev pub times : ℕ → List ℕ → List ℕ
times zero l = []
times (suc n) l = l ++ times n l

-- white space alone
abbrev pub spaces : ℕ → List ℕ
spaces n = times n (bytes " ")

-- a text that is refused where its second part begins, and one that is accepted
abbrev pub at : List ℕ → ℕ → String → Example
at before number after = record { text = before ++ bytes after; answer = refused number (length before) }

abbrev pub fine : List ℕ → Example
fine text = record { text = text; answer = accepted tt }

abbrev D : List ℕ
D = bytes "input i 0..1; var v 0..1; var w 0..1; "

abbrev C : List ℕ
C = bytes "v: GX(~(v = _v) -> [_v = 0 & i = 1] & v = (1) | [_v = 1] & v = (0)); "

abbrev N : List ℕ
N = bytes "v: GX(v = _v -> ~("

-- after the declarations; after a change formula; inside `~( )`; in the expression of a function
abbrev declared : String → ℕ → String → Example
declared before number after = at (D ++ bytes before) number after

abbrev changed : String → ℕ → String → Example
changed before number after = at (D ++ C ++ bytes before) number after

abbrev listing : String → ℕ → String → Example
listing before number after = at (D ++ C ++ N ++ bytes before) number after

abbrev working : String → ℕ → String → Example
working before number after = at (D ++ bytes "w: GX(w = (" ++ bytes before) number after

-- whole rules of w and v
abbrev rule_w : List ℕ
rule_w = bytes "w: GX(w = (0)); "

abbrev rule_v : List ℕ
rule_v = C ++ N ++ bytes "[_v = 0 & i = 1] | [_v = 1])); "

-- a name of 17 bytes, and one of 16
abbrev long : String
long = "abcdefghijklmnopq"

abbrev short : String
short = "abcdefghijklmnop"

-- n inputs a0, a1, ..
abbrev pub inputs : ℕ → List ℕ
inputs zero = []
inputs (suc n) = inputs n ++ bytes "input " ++ ((97 + n / 10) ∷ (48 + n % 10) ∷ bytes " 0..0;")

-- one variable; l in n brackets
abbrev one : List ℕ
one = bytes "var v 0..1; "

abbrev pub round : ℕ → List ℕ → List ℕ
round n l = times n (bytes "(") ++ l ++ times n (bytes ")")

abbrev squared : ℕ → List ℕ → List ℕ
squared n l = times n (bytes "[") ++ l ++ times n (bytes "]")

-- the rule of v with the condition c and the value e, and the function e
abbrev latched : List ℕ → List ℕ → List ℕ
latched c e = one ++ bytes "v: GX(~(v = _v) -> [" ++ c ++ bytes "] & v = (" ++ e ++ bytes ")); v: GX(v = _v -> ~([" ++ c ++ bytes "]));"

abbrev pub computing : List ℕ → List ℕ
computing e = one ++ bytes "v: GX(v = (" ++ e ++ bytes "));"

-- a change formula as far as its n-th case and the `|` after it
abbrev cases : ℕ → List ℕ
cases n = one ++ bytes "v:GX(~(v=_v)->" ++ times n (bytes "[1=1]&v=(1)|")

-- a whole one of n cases and one, and its no-change formula as far as n conditions and one
abbrev kept : ℕ → List ℕ
kept n = cases n ++ bytes "[1=1]&v=(1));" ++ bytes "v:GX(v=_v->~(" ++ times n (bytes "[1=1]|") ++ bytes "[1=1]"

-- ---- the table of answers

-- In number order at each token, inside `~( )` too: 1, 2, 3, 4, 5, then 7, then 8. An early end is 2.
abbrev pub number_order : List Example
number_order =
    listing "" 2 "i"
    ∷ listing "[" 2 "]"
    ∷ listing "[_v = 0 & i = 1] " 2 "&"
    ∷ listing "[_v = 0 & i = 1]" 2 ""
    ∷ listing "" 2 ""
    ∷ listing "[_v = " 3 "2147483648"
    ∷ listing "[" 4 "zz"
    ∷ listing "[" 4 "_zz"
    ∷ listing "[" 5 "w"
    ∷ listing "[" 5 "v"
    ∷ listing "[" 7 "i"
    ∷ listing "[_v = " 7 "00"
    ∷ listing "[_v = 0" 7 "]"
    ∷ listing "[_v = 0 & i = 1]" 7 ")"
    ∷ listing "[_v = 0 & i = 1] | [_v = 1] " 7 "|"
    ∷ listing "[" 7 long
    ∷ listing "[" 7 "_abcdefghijklmnopq"
    ∷ listing "[" 7 "("
    ∷ at (one ++ bytes "v: GX(~(v = _v) -> [" ++ round 16 (bytes "1") ++ bytes " = 1] & v = (1)); v: GX(v = _v -> ~([" ++ times 16 (bytes "(")) 7 "("
    ∷ listing "[" 1 "_mod"
    ∷ fine (D ++ rule_v ++ rule_w)
    ∷ []

-- After a change formula anything but its own no-change formula is 2, and so is a wrong repeated name, whatever it is.
abbrev pub after_change : List Example
after_change =
    changed "" 2 ""
    ∷ changed "" 2 "w: GX("
    ∷ changed "" 2 "zz: GX("
    ∷ changed "" 2 long
    ∷ at (D ++ rule_w ++ C) 2 "w: GX("
    ∷ changed "v: GX(" 2 "~(v = _v)"
    ∷ declared "v: GX(v = " 2 "_v -> ~([_v = 0]));"
    ∷ declared "v: GX(" 2 "w = (1));"
    ∷ declared "v: GX(" 2 "zz = (1));"
    ∷ declared "v: GX(" 2 long
    ∷ declared "v: GX(~(v = " 2 "v)"
    ∷ declared "v: GX(~(v = " 2 "_w)"
    ∷ []

-- A token that the grammar does not allow is 2, at its own first byte: no `[` before a case, in it a name of another or an unknown one, no `[`
-- after `~`, no `..`, no `;`, an unclosed bracket.
abbrev pub other_tokens : List Example
other_tokens =
    declared "v: GX(~(v = _v) -> " 2 "v = (1)"
    ∷ declared "v: GX(~(v = _v) -> [1=1] & " 2 "w = (1)"
    ∷ declared "v: GX(~(v = _v) -> [1=1] & " 2 "zz = (1)"
    ∷ declared "v: GX(~(v = _v) -> [~" 2 "1=1]"
    ∷ at (bytes "input a 0 ") 2 "1;"
    ∷ at (bytes "input a 0..1 ") 2 ");"
    ∷ at (bytes "input a 1..2 ") 2 "init0;"
    ∷ working "(1 " 2 ";"
    ∷ declared "v: GX(~(v = _v) -> [[1=1 " 2 ") & v"
    ∷ []

-- An over-long name is 8 in a declaration, as a rule's name and as a value, and 2 where a name is repeated.
abbrev pub long_names : List Example
long_names =
    at (bytes "input ") 8 long
    ∷ declared "" 8 long
    ∷ working "" 8 long
    ∷ working "" 8 "_abcdefghijklmnopq"
    ∷ fine (bytes "input " ++ bytes short ++ bytes " 0..1;")
    ∷ []

-- The 65th name is 8, but 4 if it is declared already.
abbrev pub many_names : List Example
many_names =
    at (inputs 64 ++ bytes "input ") 8 "z 0..0;"
    ∷ at (inputs 64 ++ bytes "var ") 4 "a0 0..0;"
    ∷ at (inputs 2 ++ bytes "var ") 4 "a0 0..0;"
    ∷ []

-- A variable without rule is 6 at the end, its white space included; an unfinished rule is 2 there.
abbrev pub missing_rules : List Example
missing_rules =
    at (bytes "var v 0..1;") 6 ""
    ∷ at (bytes "var v 0..1; \n ") 6 ""
    ∷ at (D ++ rule_v) 6 ""
    ∷ declared "w: GX(w = (0))" 2 ""
    ∷ declared "" 6 "i: GX(i = (0));"
    ∷ at (D ++ rule_w) 6 "w: GX(w = (0));"
    ∷ at (D ++ rule_v) 6 "v: GX(v = (0));"
    ∷ working "" 5 "w"
    ∷ at (D ++ rule_v ++ bytes "w: GX(w = (v + ") 4 "zz"
    ∷ []

-- Digits: leading zeros are free, only the value counts; 3 is at the digits. A start outside is at its digits, or at `;` if absent.
abbrev pub numbers : List Example
numbers =
    fine (bytes "input a -000..001 init -0;")
    ∷ fine (bytes "input a -2147483648..2147483647 init -2147483648;")
    ∷ working "-" 3 "2147483648"
    ∷ working "" 3 "00000000002147483648"
    ∷ at (bytes "input a -") 3 "2147483649..0;"
    ∷ at (bytes "input a 0..") 3 "2147483648;"
    ∷ at (bytes "input a 1..") 3 "0;"
    ∷ at (bytes "input a 0..-") 3 "1;"
    ∷ at (bytes "input a 0..1 init ") 3 "2;"
    ∷ at (bytes "input a 0..1 init -") 3 "1;"
    ∷ at (bytes "input a 1..2") 3 ";"
    ∷ at (bytes "input a 0..1 init ") 2 ";"
    ∷ at (bytes "input a 0..1 init -") 2 "-1;"
    ∷ []

-- Tokens are read by longest match; a byte of no token, a lone `_` or `.` is 1. Words of the grammar are no names.
abbrev pub longest_match : List Example
longest_match =
    fine (bytes "input modx 0..1; var v 0..1; v: GX(v = (_modx));")
    ∷ working "" 1 "_mod"
    ∷ working "i" 2 "_v"
    ∷ working "1" 2 "i"
    ∷ at (bytes "input a 0..") 1 ". 1;"
    ∷ declared "v: GX(~(v = _v) -> [1" 2 "->2"
    ∷ declared "v: GX(~(v = _v) -> [1 <" 2 "->2"
    ∷ at (bytes "input v0") 2 "..1;"
    ∷ at (bytes "input a 0") 1 ".1;"
    ∷ working "" 1 "_ v"
    ∷ working "" 1 "_1"
    ∷ working "" 1 "__v"
    ∷ working "" 1 "_"
    ∷ at [] 1 "\u{b}"
    ∷ at (bytes " ") 1 "\u{c}"
    ∷ at [] 1 "\0"
    ∷ at [] 1 "\u{80}"
    ∷ at [] 1 "ÿ"
    ∷ at (bytes "input a 0..1; ") 1 "!"
    ∷ at (bytes "input ") 2 "mod 0..1;"
    ∷ at (bytes "input ") 2 ""
    ∷ at [] 4 "inputs 0..1;"
    ∷ at (bytes "var v 0..1; ") 2 "input a 0..1;"
    ∷ at (D ++ rule_w) 2 "var a 0..1;"
    ∷ []

-- Brackets of both kinds are counted together, those open at the same time, from 0 in each part that the rule forms show.
abbrev pub many_brackets : List Example
many_brackets =
    at (one ++ bytes "v: GX(v = (" ++ times 16 (bytes "(")) 8 "(1"
    ∷ fine (computing (times 20 (round 1 (bytes "1") ++ bytes " + ") ++ bytes "1"))
    ∷ fine (latched (squared 8 (round 8 (bytes "_v") ++ bytes " = 0")) (bytes "1"))
    ∷ at (one ++ bytes "v: GX(~(v = _v) -> [" ++ times 8 (bytes "[") ++ times 8 (bytes "(")) 8 "(1"
    ∷ at (one ++ bytes "v: GX(~(v = _v) -> [" ++ times 16 (bytes "[")) 8 "[1 = 1"
    ∷ at (one ++ bytes "v: GX(~(v = _v) -> [" ++ times 16 (bytes "~[") ++ bytes "~") 8 "[1 = 1"
    ∷ fine (latched (squared 16 (bytes "_v = 0")) (round 16 (bytes "1")))
    ∷ []

-- The 33rd case is 8 at its bracket; in the no-change list it is 7 at the `|` before it.
abbrev pub many_cases : List Example
many_cases =
    at (cases 32) 8 "[1=1]&v=(1));"
    ∷ at (cases 32) 2 ");"
    ∷ at (kept 31) 7 "|[1=1]));"
    ∷ []

-- Names are the same in any letter case, declared, used and repeated; a word of the grammar in another case is 2 wherever it stands, but
-- directly after `_` the `_` is lone, 1 (document 02, A.2). Numbers compare by their spelling; the bytes beside the letters are none.
abbrev recased : List ℕ
recased = bytes "input Go 0..1; var run 0..1; RUN: GX(~(Run = _rUn) -> [_RUN = 0 & GO = 1] & ruN = (go)); "

abbrev pub recased_rule : List ℕ
recased_rule = recased ++ bytes "run: GX(run = _run -> ~([_run = 0 & go = 1])); "

abbrev pub letter_cases : List Example
letter_cases =
    fine recased_rule
    ∷ fine (bytes "input moda 0..1; input limits 0..1; input Timer1 0..1;")
    ∷ at (bytes "input a 0..1; input ") 4 "A 0..1;"
    ∷ at (bytes "input day 0..9; input ") 4 "Day 0..9;"
    ∷ at [] 2 "Input a 0..1;"
    ∷ at (bytes "input ") 2 "Var 0..1;"
    ∷ at (bytes "input ") 2 "Timer 0..1;"
    ∷ at (bytes "input a 0..1 ") 2 "INIT 0;"
    ∷ at (one ++ bytes "v: ") 2 "gx(v = (1));"
    ∷ at (one ++ bytes "v: GX(v = (_v ") 2 "MOD 2));"
    ∷ at (recased ++ bytes "run: GX(run = _run -> ~([_run = 0 & go = 1 ") 2 "Mod"
    ∷ at (one ++ bytes "v: GX(~(v = _v) -> [_v mod 2 = 0] & v = (1)); v: GX(v = _v -> ~([_v ") 2 "MOD 2 = 0]));"
    ∷ at (one ++ bytes "v: GX(v = (") 1 "_Mod));"
    ∷ at (recased ++ bytes "run: GX(run = _run -> ~([") 1 "_MOD"
    ∷ at (recased ++ bytes "run: GX(run = _run -> ~([_run = ") 7 "00"
    ∷ at (recased ++ bytes "run: GX(run = _run -> ~([_run = 0 & gO ") 7 "<> 1"
    ∷ at (bytes "input Go 0..1; var run 0..1; ") 6 "gO: GX(go = (1));"
    ∷ at recased_rule 6 "RUN: GX(run = (1));"
    ∷ at (bytes "var A 0..1; var b 0..1; a: GX(A = (") 5 "B));"
    ∷ at (bytes "var v") 1 "@ 0..1;"
    ∷ at (bytes "var a") 1 "{ 0..1;"
    ∷ at (bytes "var a") 1 "` 0..1;"
    ∷ at (bytes "var ") 8 "AbcdefghijklmnopQ 0..1;"
    ∷ []

-- Rising and falling formulas (document 02, A.6): after `v+` and `v-` as tokens; a rising formula without its falling one is 2 at what
-- follows. At most 32 cases in the two lists together: the 33rd is 8 at its bracket.
abbrev five : List ℕ
five = bytes "input i 0..1; var v 0..5; "

abbrev rises : List ℕ
rises = bytes "v+: GX(v > _v -> [i = 1 & _v < 5] & v = (_v + 1)); "

abbrev falls : List ℕ
falls = bytes "v-: GX(v < _v -> [i = 0 & _v > 0] & v = (_v - 1)); "

abbrev first : String → ℕ → String → Example
first before number after = at (five ++ bytes before) number after

abbrev risen : String → ℕ → String → Example
risen before number after = at (five ++ rises ++ bytes before) number after

-- a rising formula as far as its n-th case and the `|` after it; a whole one of n cases and one, and a falling one as far as its m-th
abbrev ups : ℕ → List ℕ
ups n = one ++ bytes "v+:GX(v>_v->" ++ times n (bytes "[1=1]&v=(1)|")

abbrev downs : ℕ → ℕ → List ℕ
downs n m = ups n ++ bytes "[1=1]&v=(1));v-:GX(v<_v->" ++ times m (bytes "[1=1]&v=(1)|")

abbrev pub pair_texts : List Example
pair_texts =
    fine (five ++ rises ++ falls)
    ∷ fine (five ++ bytes "V +: GX(v > _V -> [I = 1] & v = (5)) ; v - : GX(V < _v -> [i = 0] & V = (0));")
    ∷ risen "" 2 ""
    ∷ first "v" 2 "-: GX(v < _v"
    ∷ risen "v" 2 ": GX(v = (1));"
    ∷ risen "v" 2 "+: GX("
    ∷ risen "" 2 "i-: GX("
    ∷ risen "" 2 long
    ∷ first "v+: GX(v " 2 "< _v"
    ∷ first "v+: GX(v " 2 ">= _v"
    ∷ first "v+: GX(" 2 "~(v = _v)"
    ∷ first "v+: GX(v > _v -> " 2 ");"
    ∷ first "v+ " 2 "GX("
    ∷ risen "v-: GX(v " 2 "> _v"
    ∷ risen "v-: GX(v < _v -> [1=1] & v = (0)" 2 ";"
    ∷ at (five ++ rises ++ falls) 6 "v: GX(v = (1));"
    ∷ first "" 6 "i+: GX("
    ∷ first "" 4 "zz+: GX("
    ∷ risen "v-: GX(v < _v -> [" 5 "v"
    ∷ risen "v-: GX(v < _v -> [1=1] & v = (" 5 "v"
    ∷ fine (downs 30 0 ++ bytes "[1=1]&v=(1));")
    ∷ at (downs 30 1) 8 "[1=1]&v=(1));"
    ∷ at (downs 31 0) 8 "[1=1]&v=(1));"
    ∷ at (downs 31 0) 2 ");"
    ∷ at (ups 32) 8 "[1=1]&v=(1));"
    ∷ []

abbrev pub examples : List (List Example)
examples = number_order ∷ after_change ∷ other_tokens ∷ long_names ∷ many_names ∷ missing_rules ∷ numbers ∷ longest_match ∷ many_brackets ∷ many_cases ∷ letter_cases ∷ pair_texts ∷ []
