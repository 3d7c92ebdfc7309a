-- The descent over a whole text in its parts, the declarations, the rules and the watches: auxiliary definitions for the contracts of the functions inside.
-- Assumes nothing.
use Rattle.std.specs.Prelude.{ℕ, ◌+◌, ◌≤◌, ◌≡◌, Bool, List, [], length}
use Rattle.std.proofs.lemmas.List.Edits.{sets}
use Rattle.limits.specs.Limits.{text_limit, name_limit, watch_limit}
use Rattle.lexer.specs.Token.{input_word, var_word}
use Rattle.lexer.specs.Names.{table_names, Table}
use Rattle.semantics.specs.Program.{Name, Timer, Watch, Program, known_first, free}
use Rattle.grammar.specs.Parsed.{Parsed, accepted, refused, and_then, item_bound}
use Rattle.grammar.specs.Expressions.{Scope}
use Rattle.grammar.specs.Declarations.{declarations, spellings}
use Rattle.grammar.specs.Timers.{timers_from}
use Rattle.grammar.specs.Watches.{watches_from}
use Rattle.grammar.specs.Parse.{end_at}
use Rattle.grammar.specs.Inner.Bytes.{header, image}
use Rattle.lexer.specs.declared.Place.{Place}
use Rattle.lexer.specs.Results.{Step}
use Rattle.std.specs.Prelude.{Result, Ok, Err}
use Rattle.limits.specs.declared.Refusal.{Refusal}
use Rattle.limits.specs.Refusals.{refusal_number, refusal_place}
use Rattle.phrases.specs.Inner.Steps.{nothing, Writes}
use Rattle.declarations.specs.Inner.Tables.{TableHolds}
use Rattle.rules.specs.Inner.Timers.{timers_in}
use Rattle.translate.specs.declared.Analysis.{Analysis}

-- the names declared, how many of them are inputs, and the timers among them
pub record Declarations : Type 0 where
  pub inputs : ℕ
  pub names : List Name
  pub timers : List Timer

-- all inputs, then all variables, then all timers
unfoldable pub heading_of : List ℕ → Parsed Declarations
heading_of text =
    and_then (declarations input_word text [] 0) (λ inputs n1.
    and_then (declarations var_word text inputs n1) (λ names n2.
    and_then (timers_from item_bound text (length inputs) (length names) (record { names = names; timers = [] }) n2) (λ x n3.
    accepted (record { inputs = length inputs; names = x.names; timers = x.timers }) n3)))

-- the declarations that were read up to a: their bytes up to t, c inputs, m names, and the names from the id f on are timers
pub record HeadingRead (text before mid starts ends watched limits : List ℕ) (a t c m f : ℕ) : Type 0 where
  pub read : Declarations
  pub is_read : heading_of text ≡ accepted read a
  pub ended : t ≡ 2 + length (header read.names)
  pub counted : c ≡ read.inputs
  pub named : m ≡ length read.names
  pub wrote : mid ≡ sets before 2 (header read.names)
  pub held : TableHolds text starts ends m read.names
  pub ordered : f ≤ m
  pub timed : read.timers ≡ timers_in watched limits f m

-- all declarations: their answer
pub record ReadsHeading (text before after starts ends watched limits : List ℕ) (r : Step) : Type 0 where
  pub refuses : (e : Refusal) → r ≡ Err e → heading_of text ≡ refused (refusal_number e) (refusal_place e)
  pub reads : (x : Place) → r ≡ Ok x → HeadingRead text before after starts ends watched limits x.at x.to x.start x.number x.end

-- the rules' scope at their start
abbrev pub scope_after : List ℕ → Declarations → Scope
scope_after text d = record { text = text; names = spellings d.names; known = known_first d.inputs (length d.names) }

-- the names of a table, all of which may be used: the watches' scope
abbrev pub free_scope : List ℕ → List ℕ → List ℕ → ℕ → Scope
free_scope text starts ends names = record { text = text; names = table_names text starts ends names; known = free names }

-- the watches and the end of the text, behind the rules
unfoldable pub tail_from : Scope → List Bool → ℕ → Parsed (List Watch)
tail_from sc known at = and_then (watches_from watch_limit sc [] at) (λ ws n. and_then (end_at sc.text known n) (λ u m. accepted ws m))

-- the watches' scope behind the declarations
abbrev pub scope_of_watches : List ℕ → Declarations → Scope
scope_of_watches text d = record { text = text; names = spellings d.names; known = free (length d.names) }

-- the watches of a program stand from `at` on
pub record WatchesRead (text : List ℕ) (q : Program) (at : ℕ) : Type 0 where
  pub within : at ≤ length text
  pub end : ℕ
  pub read : watches_from watch_limit (record { text = text; names = spellings q.names; known = free (length q.names) }) [] at ≡ accepted q.watches end

-- the whole text: the answer, the image's bytes, the table with all names, where its watches stand, and how many timers it has
pub record Descends (text : List ℕ) (p : Parsed Program) (before after starts ends : List ℕ) (r : Step) : Type 0 where
  pub writes : Writes image nothing (λ q. tt) p 0 before after r
  pub named : (q : Program) (n : ℕ) → p ≡ accepted q n → TableHolds text starts ends (length q.names) q.names
  pub watched : (q : Program) (n : ℕ) (x : Place) → p ≡ accepted q n → r ≡ Ok x → (x.number ≡ length q.watches) × WatchesRead text q x.start
  pub timed : (q : Program) (n : ℕ) (x : Place) → p ≡ accepted q n → r ≡ Ok x → x.end ≡ length q.timers

-- the watches ws stand from `at` on, and the table holds the names that they may use
pub record WatchesStand (text starts ends : List ℕ) (names at : ℕ) (ws : List Watch) : Type 0 where
  pub short : length text ≤ text_limit
  pub within : at ≤ length text
  pub few : names ≤ name_limit
  pub table : Table starts ends names
  pub end : ℕ
  pub read : watches_from watch_limit (free_scope text starts ends names) [] at ≡ accepted ws end

-- the program of an accepted text: its image's length, the counts of inputs, of names and of timers among them, the table of its names,
-- and how many watches stand at a place
pub record AnalysedText (text : List ℕ) (p : Parsed Program) (starts ends : List ℕ) (size inputs names timers at count : ℕ) : Type 0 where
  pub program : Program
  pub end : ℕ
  pub parsed : p ≡ accepted program end
  pub sized : size ≡ length (image program)
  pub inputs_are : inputs ≡ program.inputs
  pub named : names ≡ length program.names
  pub timed : timers ≡ length program.timers
  pub counted : count ≡ length program.watches
  pub held : TableHolds text starts ends (length program.names) program.names
  pub stand : WatchesStand text starts ends names at program.watches

abbrev pub AnalysedAs : List ℕ → Parsed Program → List ℕ → List ℕ → Result Analysis Refusal → Type 0
AnalysedAs text p starts ends (Ok x) = AnalysedText text p starts ends x.length x.inputs x.names x.timers x.rules_end x.watches
AnalysedAs text p starts ends (Err e) = p ≡ refused (refusal_number e) (refusal_place e)

-- the whole text without a buffer, its limit tested first
pub record Analyses (text : List ℕ) (p : Parsed Program) (starts ends : List ℕ) (r : Result Analysis Refusal) : Type 0 where
  pub so : AnalysedAs text p starts ends r
