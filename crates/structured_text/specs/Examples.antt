-- Worked outputs: what a text and the length of a buffer give. Assumes nothing.
use Rattle.std.specs.Prelude.{ℕ, ◌≡◌, List, [], ◌∷◌, ◌++◌, length, replicate}
use Rattle.limits.specs.Answer.{Answer, accepted, refused}
use Rattle.lexer.specs.Bytes.{bytes}
use Rattle.structured_text.specs.Services.{structured_text_of}

pub record OutputExample : Type 0 where
  pub text : List ℕ
  pub room : ℕ
  pub answer : Answer ℕ
  pub output : List ℕ

-- the statement that all have in common: over a buffer of zeros
abbrev pub OutputsHold : List OutputExample → Type 0
OutputsHold [] = Unit {0}
OutputsHold (x ∷ more) = (structured_text_of x.text (replicate x.room 0) ≡ record { answer = x.answer; buffer = x.output }) × OutputsHold more

-- the output fills the buffer
abbrev pub prints : List ℕ → List ℕ → OutputExample
prints text st = record { text = text; room = length st; answer = accepted (length st); output = st }

abbrev pub refuses : List ℕ → ℕ → ℕ → ℕ → OutputExample
refuses text room number place = record { text = text; room = room; answer = refused number place; output = replicate room 0 }

abbrev pub latch : List ℕ
latch = bytes "var v 0..1; v: GX(~(v = _v) -> [_v = 0] & v = (1)); v: GX(v = _v -> ~([_v = 0]));"

-- the document's
abbrev pub latch_print : List ℕ
latch_print = bytes "VAR\n  v : DINT := 0;\n  _v : DINT := 0;\nEND_VAR\nIF (_v = 0) THEN\n  v := 1;\nEND_IF;\n_v := v;\n"

abbrev pub one_variable : List ℕ → List ℕ
one_variable body = bytes "VAR\n  v : DINT := 0;\n  _v : DINT := 0;\nEND_VAR\n" ++ (body ++ bytes "_v := v;\n")

abbrev pub output_examples : List OutputExample
output_examples =
    prints [] [] ∷ prints latch latch_print ∷ refuses latch 90 10 81
    ∷ prints (bytes "input a 0..0;") (bytes "VAR_INPUT\n  a : DINT := 0;\nEND_VAR\nVAR\n  _a : DINT := 0;\nEND_VAR\n_a := a;\n")
    ∷ prints (bytes "var v -99..99;v:GX(v=(1-2-3*4*5));") (one_variable (bytes "v := ((1 - 2) - ((3 * 4) * 5));\n"))
    ∷ prints (bytes "var v 0..9;v:GX(v=(-(-5)*-(_v+007)mod 2));") (one_variable (bytes "v := (((-(-5)) * (-(_v + 7))) MOD 2);\n"))
    -- later cases begin ELSIF
    ∷ prints (bytes "var v 0..2;v:GX(~(v=_v)->[_v=0]&v=(1)|[_v=1&~[_v<>1|[_v>=2]]]&v=(2));v:GX(v=_v->~([_v=0]|[_v=1&~[_v<>1|[_v>=2]]]));")
    (one_variable (bytes "IF (_v = 0) THEN\n  v := 1;\nELSIF ((_v = 1) AND (NOT ((_v <> 1) OR (_v >= 2)))) THEN\n  v := 2;\nEND_IF;\n"))
    -- a pair is one block over both lists, rising first
    ∷ prints (bytes "var v 0..1;v+:GX(v>_v->[_v=0]&v=(1));v-:GX(v<_v->[_v=1]&v=(0));")
    (one_variable (bytes "IF (_v = 0) THEN\n  v := 1;\nELSIF (_v = 1) THEN\n  v := 0;\nEND_IF;\n"))
    -- names as declared
    ∷ prints (bytes "input Run 0..1;var v 0..1;V:GX(v=(rUN));")
    (bytes "VAR_INPUT\n  Run : DINT := 0;\nEND_VAR\nVAR\n  _Run : DINT := 0;\n  v : DINT := 0;\n  _v : DINT := 0;\nEND_VAR\nv := Run;\n_Run := Run;\n_v := v;\n")
    -- 21 before 10, after the faults of the text; at the first name
    ∷ refuses (bytes "input a 0..1; input elsif 0..1; input If 0..1;") 0 21 20 ∷ refuses (bytes "input IF 0..1; !") 0 1 15 ∷ refuses (bytes "input Mod 0..1;") 0 2 6
    ∷ refuses (bytes "input ELSE 0..1; input DINT1 0..1; input END 0..1;") 0 10 50
    -- 21 at the word of a timer, whatever its name; at a name before it; after the faults of the text
    ∷ refuses (bytes "var w 0..1; timer t of w limit 5; w:GX(w=(1));") 9 21 12 ∷ refuses (bytes "var w 0..1; timer IF of w limit 5; timer u of w limit 5; w:GX(w=(1));") 0 21 12
    ∷ refuses (bytes "input IF 0..1; var w 0..1; timer t of w limit 5; w:GX(w=(1));") 0 21 6 ∷ refuses (bytes "var w 0..1; timer IF of w limit 5;") 0 6 34 ∷ []
