-- What the functions put before a place. Assumes nothing.
use Rattle.std.specs.Prelude.{ℕ, zero, suc, ◌+◌, ◌≤◌, ◌≡◌, cond, List, ◌∷◌, eqb, length}
use Rattle.std.proofs.lemmas.List.Edits.{sets}
use Rattle.lexer.specs.Bytes.{bytes}

unfoldable pub openings : ℕ → List ℕ → List ℕ
openings zero l = l
openings (suc n) l = 40 ∷ openings n l

-- the sign of an instruction of two operands
unfoldable pub sign_bytes : ℕ → List ℕ
sign_bytes op =
    cond (eqb op 4) (bytes " + ") (cond (eqb op 5) (bytes " - ") (cond (eqb op 6) (bytes " * ") (cond (eqb op 7) (bytes " / ") (cond (eqb op 8) (bytes " MOD ")
    (cond (eqb op 10) (bytes " = ") (cond (eqb op 11) (bytes " <> ") (cond (eqb op 12) (bytes " < ") (cond (eqb op 13) (bytes " <= ") (cond (eqb op 14) (bytes " > ") (cond (eqb op 15) (bytes " >= ")
    (cond (eqb op 17) (bytes " AND ") (bytes " OR "))))))))))))

-- `front` was put directly before what was put from `to` on
pub record Fronts (front : List ℕ → List ℕ) (before after : List ℕ) (to first : ℕ) : Type 0 where
  pub same : length after ≡ length before
  pub grows : (l : List ℕ) → length l ≤ length (front l)
  pub place : (l : List ℕ) → length (front l) ≤ to + length l → first + length (front l) ≡ to + length l
  pub memory : (o l : List ℕ) → length (front l) ≤ to + length l → before ≡ sets o to l → after ≡ sets o first (front l)
