-- The sections line by line, over the names of the table and the numbers that they start with. Assumes nothing.
use Rattle.std.specs.Prelude.{ℕ, Bool, true, false, List, [], ◌∷◌, ◌++◌, map, ℤ, take, drop}
use Rattle.lexer.specs.Bytes.{bytes}
use Rattle.trace_text.specs.Output.{decimal_of}
use Rattle.st.specs.Syntax.{Identifier, Declaration}
use Rattle.st.specs.Meaning.{previous_name}
use Rattle.st.specs.Printed.{section_printed}

-- each name with its start
unfoldable pub declarations_of : List Identifier → List ℤ → List Declaration
declarations_of [] zs = []
declarations_of (w ∷ ws) [] = []
declarations_of (w ∷ ws) (z ∷ zs) = record { name = w; start = z } ∷ declarations_of ws zs

-- a name's line, or that of its previous value
abbrev pub line_for : Bool → Declaration → Declaration
line_for true d = record { name = previous_name d.name; start = d.start }
line_for false d = d

-- each name followed by its previous value
unfoldable pub with_previous : List Declaration → List Declaration
with_previous [] = []
with_previous (d ∷ ds) = line_for false d ∷ line_for true d ∷ with_previous ds

abbrev pub line_printed : Declaration → List ℕ → List ℕ
line_printed d l = bytes "  " ++ (d.name ++ (bytes " : DINT := " ++ (decimal_of d.start ++ (bytes ";\n" ++ l))))

-- the lines of a section without its end
unfoldable pub lines_printed : List Declaration → List ℕ → List ℕ
lines_printed [] l = l
lines_printed (d ∷ ds) l = line_printed d (lines_printed ds l)

-- of the names declared, the first are inputs
abbrev pub inputs_printed : ℕ → List Declaration → List ℕ → List ℕ
inputs_printed inputs ds l = section_printed "VAR_INPUT" (take inputs ds) l

abbrev pub variables_printed : ℕ → List Declaration → List ℕ → List ℕ
variables_printed inputs ds l = section_printed "VAR" (map (line_for true) (take inputs ds) ++ with_previous (drop inputs ds)) l

abbrev pub sections_printed : ℕ → List Declaration → List ℕ → List ℕ
sections_printed inputs ds l = inputs_printed inputs ds (variables_printed inputs ds l)
