-- What the contracts of this crate say of lent memory. Assumes nothing.
use Rattle.std.specs.Prelude.{ℕ, suc, ◌+◌, ◌*◌, ◌≤◌, ◌<◌, ◌≡◌, List, [], ◌∷◌, ◌++◌, length, get_or, drop}
use Rattle.limits.specs.Limits.{name_limit}
use Rattle.lexer.specs.Token.{Kind}
use Rattle.lexer.specs.Names.{table_names}
use Rattle.semantics.specs.Program.{Name}
use Rattle.grammar.specs.Parsed.{accepted, and_then}
use Rattle.grammar.specs.Declarations.{spellings, new_name, declaration, declarations}
use Rattle.grammar.specs.Inner.Bytes.{header}
use Rattle.lexer.specs.Results.{Step}
use Rattle.std.specs.Prelude.{Ok, Err}
use Rattle.phrases.specs.Inner.Steps.{parsed_of, nothing, number_told, Writes}
use Rattle.declarations.specs.Inner.Ranges.{declared_range}

-- a table with room for all names that a text may declare, of which so many are declared
pub record TableRoom (starts ends : List ℕ) (count : ℕ) : Type 0 where
  pub few : count ≤ name_limit
  pub in_starts : name_limit ≤ length starts
  pub in_ends : name_limit ≤ length ends

-- the table's names are the names declared
pub record TableHolds (text starts ends : List ℕ) (count : ℕ) (names : List Name) : Type 0 where
  pub counted : count ≡ length names
  pub spelled : table_names text starts ends count ≡ spellings names

-- the range of each name stands behind the name, whose end the table has, from the entry i on
abbrev pub RangesBehind : List ℕ → List ℕ → ℕ → List Name → Type 0
RangesBehind text ends i [] = Unit {0}
RangesBehind text ends i (x ∷ l) = ((n : ℕ) × (declared_range text (get_or ends i 0) ≡ accepted x.range n)) × RangesBehind text ends (suc i) l

-- a new name: the answer, and where it is accepted the table with that name; the ends of the names before it stay
pub record Names (text : List ℕ) (names : List Name) (at count : ℕ) (ends₀ starts ends : List ℕ) (r : Step) : Type 0 where
  pub answer : parsed_of nothing r ≡ and_then (new_name text names at) (λ w n. accepted tt n)
  pub named : (w : List ℕ) (n : ℕ) → new_name text names at ≡ accepted w n → table_names text starts ends (count + 1) ≡ spellings names ++ (w ∷ [])
  pub ended : (w : List ℕ) (n : ℕ) → new_name text names at ≡ accepted w n → (get_or ends count 0 ≡ n) × ((i : ℕ) → i < count → get_or ends i 0 ≡ get_or ends₀ i 0)

-- a declaration: the answer and the header's bytes of its name, and where it is accepted the table with that name, and its range behind it
pub record DeclaresOne (text : List ℕ) (names : List Name) (at to count : ℕ) (before after ends₀ starts ends : List ℕ) (r : Step) : Type 0 where
  pub writes : Writes (λ x. header (x ∷ [])) nothing (λ x. tt) (declaration text names at) to before after r
  pub named : (x : Name) (n : ℕ) → declaration text names at ≡ accepted x n → TableHolds text starts ends (count + 1) (names ++ (x ∷ []))
  pub ranged : RangesBehind text ends₀ 0 names → (x : Name) (n : ℕ) → declaration text names at ≡ accepted x n → RangesBehind text ends 0 (names ++ (x ∷ []))

-- the bytes of the names declared after those declared before
unfoldable pub header_after : List Name → List Name → List ℕ
header_after names all = header (drop (length names) all)

-- declarations that begin with a word: the answer, the header's bytes of the names declared here, the table with all names, and their ranges
pub record DeclaresAll (word : Kind) (text : List ℕ) (names : List Name) (at to : ℕ) (before after ends₀ starts ends : List ℕ) (r : Step) : Type 0 where
  pub writes : Writes (header_after names) number_told length (declarations word text names at) to before after r
  pub named : (all : List Name) (n : ℕ) → declarations word text names at ≡ accepted all n → TableHolds text starts ends (length all) all
  pub ranged : RangesBehind text ends₀ 0 names → (all : List Name) (n : ℕ) → declarations word text names at ≡ accepted all n → RangesBehind text ends 0 all

-- no more names than a text may declare, and no more than fifteen bytes for each
abbrev pub FewDeclared : ℕ → Step → Type 0
FewDeclared to (Ok x) = (x.number ≤ name_limit) × (x.to ≤ to + 15 * x.number)
FewDeclared to (Err e) = Unit {0}
