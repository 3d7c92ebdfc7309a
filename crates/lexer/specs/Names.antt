-- The table of names: where in the text each is spelled, in the order of their ids. Assumes nothing.
use Rattle.std.specs.Prelude.{cond, ℕ, zero, suc, ◌+◌, ◌≤◌, List, [], ◌∷◌, length}
use Rattle.std.proofs.Math.Option.{Option, none, some}
use Rattle.lexer.specs.Bytes.{part}
use Rattle.lexer.specs.Lexer.{same_name}

-- the id of the name w, counted from i
unfoldable pub id_from : List (List ℕ) → List ℕ → ℕ → Option ℕ
id_from [] w i = none
id_from (x ∷ l) w i = let r = id_from l w (i + 1) in cond (same_name w x) (some i) r

unfoldable pub id_of : List (List ℕ) → List ℕ → Option ℕ
id_of names w = id_from names w 0

-- the names that the first n entries of the table spell: each is the part of the text from its start to its end
unfoldable pub table_names : List ℕ → List ℕ → List ℕ → ℕ → List (List ℕ)
table_names text [] ends n = []
table_names text (s ∷ starts) [] n = []
table_names text (s ∷ starts) (e ∷ ends) zero = []
table_names text (s ∷ starts) (e ∷ ends) (suc n) = part text s e ∷ table_names text starts ends n

-- the table has room for the n names that it holds
pub record Table (starts ends : List ℕ) (n : ℕ) : Type 0 where
  pub in_starts : n ≤ length starts
  pub in_ends : n ≤ length ends
