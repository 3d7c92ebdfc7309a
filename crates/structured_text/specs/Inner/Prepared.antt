-- What the print of an accepted text is made from: auxiliary definitions for the contracts of the functions inside. Assumes nothing.
use Rattle.std.specs.Prelude.{ℕ, ◌≤◌, ◌≡◌, true, List, [], ◌++◌, map, ℤ, length}
use Rattle.limits.specs.Answer.{accepted}
use Rattle.lexer.specs.Names.{table_names, Table}
use Rattle.semantics.specs.Program.{Rule, Program}
use Rattle.bytecode.specs.Instructions.{Instruction}
use Rattle.bytecode.specs.Translation.{image_of, code_rules}
use Rattle.grammar.specs.Spelled.{names_of}
use Rattle.grammar.specs.Parse.{program_of}
use Rattle.declarations.specs.Inner.Tables.{TableHolds}
use Rattle.st.specs.Syntax.{Identifier}
use Rattle.st.specs.Printed.{statements_printed}
use Rattle.st_program.specs.Written.{rule_in_st, saving_line, has_st}
use Rattle.st_sections.specs.Inner.Lines.{declarations_of, sections_printed}

-- sections, rules, previous-value lines; a print takes what follows it
abbrev pub whole_printed : ℕ → List Identifier → List ℤ → List Rule → List ℕ → List ℕ
whole_printed inputs names values rules l =
    sections_printed inputs (declarations_of names values) (statements_printed (map (rule_in_st names) rules) (statements_printed (map saving_line names) l))

-- the image of an accepted text, how many timers it has, and the table that holds its names
pub record Compiled (text starts ends : List ℕ) (timers : ℕ) (image : List ℕ) : Type 0 where
  pub program : Program
  pub parsed : program_of text ≡ accepted program
  pub made : image ≡ image_of program
  pub timed : timers ≡ length program.timers
  pub held : TableHolds text starts ends (length program.names) program.names
  pub table : Table starts ends (length program.names)

-- a program that has Structured Text: its names in the table, the numbers they start with, and its code in a form
pub record ReadyToPrint (form : List Instruction → List ℕ) (text starts ends : List ℕ) (values : List ℤ) (inputs count : ℕ) (code : List ℕ) : Type 0 where
  pub program : Program
  pub parsed : program_of text ≡ accepted program
  pub has : has_st program ≡ true
  pub inputs_are : inputs ≡ program.inputs
  pub spelled : table_names text starts ends count ≡ names_of program
  pub rest : List ℤ
  pub starting : values ≡ map (λ n. n.range.start) program.names ++ rest
  pub table : Table starts ends count
  pub among : inputs ≤ count
  pub long : count ≤ length values
  pub coded : code ≡ form (code_rules [] program.rules)
