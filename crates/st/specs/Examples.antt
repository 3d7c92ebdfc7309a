-- Worked cycles: what bytes, a state and a row leave. Assumes nothing.
use Rattle.std.specs.Prelude.{ℕ, ◌≡◌, Bool, true, false, List, [], ◌∷◌, ◌++◌, ℤ, pos, negsuc}
use Prim.Native.String.{String}
use Rattle.std.proofs.Math.Option.{Option, none, some}
use Rattle.lexer.specs.Bytes.{bytes}
use Rattle.st.specs.Syntax.{Identifier, StProgram}
use Rattle.st.specs.Reading.{program_read}
use Rattle.st.specs.Meaning.{ValuesLeft, cycle_leaves}

pub record CycleExample : Type 0 where
  pub lazy : Bool
  pub text : List ℕ
  pub names : List Identifier
  pub state : List ℤ
  pub row : List ℤ
  pub left : Option ValuesLeft

-- the statement that all have in common
abbrev pub CyclesHold : List CycleExample → Type 0
CyclesHold [] = Unit {0}
CyclesHold (x ∷ more) = (cycle_leaves x.lazy x.text x.names x.state x.row ≡ x.left) × CyclesHold more

-- names and previous values alike
abbrev pub alike : List ℤ → Option ValuesLeft
alike zs = some (record { names = zs; previous = zs })

-- L2 as document 02 prints it
abbrev pub latch_text : List ℕ
latch_text = bytes "VAR\n  v : DINT := 0;\n  _v : DINT := 0;\nEND_VAR\nIF (_v = 0) THEN\n  v := 1;\nEND_IF;\n_v := v;\n"

abbrev pub latch_cycle : Bool → ℤ → ℤ → CycleExample
latch_cycle lazy found left = record { lazy = lazy; text = latch_text; names = bytes "v" ∷ []; state = found ∷ []; row = []; left = alike (left ∷ []) }

-- the whole of the language; identifiers in another letter case
abbrev pub whole_text : List ℕ
whole_text =
    bytes "VAR_INPUT\n  a : DINT := -3;\n  b : DINT := 0;\nEND_VAR\nVAR\n  _a : DINT := -3;\n  _b : DINT := 0;\n  x : DINT := 0;\n  _x : DINT := 0;\n  y : DINT := 0;\n  _y : DINT := 0;\nEND_VAR\n"
    ++ bytes "IF ((_y = 0) AND (NOT ((a < b) OR (b >= 2)))) THEN\n  y := 1;\nELSIF (_y = 1) THEN\n  y := (-0);\nEND_IF;\nx := ((((-(a + b)) * 2) MOD 7) - _x);\n_a := a;\n_b := b;\n_x := x;\n_y := y;\n"

abbrev pub whole_cycle : Bool → CycleExample
whole_cycle lazy = record {
  lazy = lazy;
  text = whole_text;
  names = bytes "a" ∷ bytes "B" ∷ bytes "X" ∷ bytes "y" ∷ [];
  state = pos 1 ∷ pos 2 ∷ pos 3 ∷ pos 0 ∷ [];
  row = pos 4 ∷ pos 1 ∷ [];
  left = alike (pos 4 ∷ pos 1 ∷ negsuc 5 ∷ pos 1 ∷ []);
}

-- one variable, from 7, and a statement
abbrev pub statement_cycle : Bool → List ℕ → Option ValuesLeft → CycleExample
statement_cycle lazy body left = record {
  lazy = lazy;
  text = bytes "VAR\n v : DINT := 0;\n _v : DINT := 0;\nEND_VAR\n" ++ (body ++ bytes "_v := v;");
  names = bytes "v" ∷ [];
  state = pos 7 ∷ [];
  row = [];
  left = left;
}

-- an input assigned to
abbrev pub input_cycle : CycleExample
input_cycle = record {
  lazy = true;
  text = bytes "VAR_INPUT a : DINT := 0; END_VAR VAR _a : DINT := 0; END_VAR a := 1; _a := a;";
  names = bytes "a" ∷ [];
  state = pos 0 ∷ [];
  row = pos 0 ∷ [];
  left = none;
}

abbrev pub cycle_examples : List CycleExample
cycle_examples =
    latch_cycle true (pos 0) (pos 1) ∷ latch_cycle false (pos 0) (pos 1) ∷ latch_cycle true (pos 1) (pos 1) ∷ whole_cycle true ∷ whole_cycle false
    -- MOD by zero is 0; division by zero has no value, nor has a result outside DINT
    ∷ statement_cycle true (bytes "v := 5 MOD 0;") (alike (pos 0 ∷ [])) ∷ statement_cycle true (bytes "v := 5 / 0;") none ∷ statement_cycle true (bytes "v := 2147483647 + 1;") none
    -- AND that its left operand decides
    ∷ statement_cycle true (bytes "IF (v = 0) AND (1 / 0 = 1) THEN v := 1; END_IF;") (alike (pos 7 ∷ [])) ∷ statement_cycle false (bytes "IF (v = 0) AND (1 / 0 = 1) THEN v := 1; END_IF;") none
    -- of two true branches the first; no later condition is worked out
    ∷ statement_cycle true (bytes "IF v = 7 THEN v := 1; ELSIF v = 7 THEN v := 2; ELSIF 1 / 0 = 1 THEN v := 3; END_IF;") (alike (pos 1 ∷ []))
    -- precedence, left to right
    ∷ statement_cycle true (bytes "v := 1 - 2 - 3 * 4;") (alike (negsuc 12 ∷ []))
    ∷ statement_cycle true (bytes "w := 1;") none ∷ input_cycle ∷ []

-- Worked identifiers: what a section that declares a word reads as.
pub record IdentifierExample : Type 0 where
  pub word : List ℕ
  pub program : Option StProgram

abbrev pub IdentifiersHold : List IdentifierExample → Type 0
IdentifiersHold [] = Unit {0}
IdentifiersHold (x ∷ more) = (program_read (bytes "VAR " ++ (x.word ++ bytes " : DINT := 0; END_VAR")) ≡ x.program) × IdentifiersHold more

abbrev pub declared : String → IdentifierExample
declared w = record { word = bytes w; program = some (record { inputs = []; variables = record { name = bytes w; start = pos 0 } ∷ []; body = [] }) }

abbrev pub undeclared : String → IdentifierExample
undeclared w = record { word = bytes w; program = none }

abbrev pub identifier_examples : List IdentifierExample
identifier_examples =
    declared "a" ∷ declared "_a" ∷ declared "_1" ∷ declared "a_b" ∷ declared "a1_2"
    -- two underscores in a row, one at the end, one alone
    ∷ undeclared "a__b" ∷ undeclared "__a" ∷ undeclared "a_" ∷ undeclared "_"
    ∷ undeclared "1a" ∷ undeclared "If" ∷ []
