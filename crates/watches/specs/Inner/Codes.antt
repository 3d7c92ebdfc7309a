-- What is written and told of watches. Assumes nothing.
use Rattle.std.specs.Prelude.{ℕ, ◌+◌, List, [], ◌++◌, length}
use Rattle.std.proofs.Math.Option.{Option, none, some}
use Rattle.lexer.specs.Token.{kind_number}
use Rattle.lexer.specs.declared.Place.{Place}
use Rattle.semantics.specs.Program.{Condition, Watch}
use Rattle.grammar.specs.Inner.Bytes.{bytes_c}
use Rattle.expressions.specs.Inner.Steps.{Followed}

-- the code of a second condition; none where there is none
abbrev pub bytes_later : Option Condition → List ℕ
bytes_later none = []
bytes_later (some d) = bytes_c d

abbrev pub code_of_later : Watch → List ℕ
code_of_later w = bytes_later w.later

-- the code of the first condition, then that of the second
abbrev pub code_of_watch : Watch → List ℕ
code_of_watch w = bytes_c w.first ++ code_of_later w

-- where the code of the first condition ends
abbrev pub end_of_first : ℕ → Watch → ℕ
end_of_first to w = to + length (bytes_c w.first)

-- what writes no code
abbrev pub no_code : {A : Type 0} → A → List ℕ
no_code a = []

-- told of all watches: how many there are, and the token behind them
abbrev pub watches_told : Place → ℕ × ℕ × ℕ × ℕ
watches_told x = (x.number, x.kind, x.start, x.end)

abbrev pub watches_behind : Followed (List Watch) → ℕ × ℕ × ℕ × ℕ
watches_behind x = (length x.part, kind_number x.kind, x.start, x.end)
