-- What the answers of this crate's functions stand for. Document 01, "Who can cause which refusal". Assumes nothing.
use Rattle.std.specs.Prelude.{ℕ, ℤ, Option, Some, None, Ok}
use Rattle.std.proofs.Math.Option as O
use Rattle.lexer.specs.Results.{Step}

-- a number that lies between its bounds, or none
abbrev pub bounded_number : Option ℤ → O.Option ℤ
bounded_number (Some z) = O.some z
bounded_number None = O.none

-- the place after a number, with its value
abbrev pub valued_at : ℕ → ℤ → Step
valued_at n z = Ok (record { at = n; kind = 0; start = n; end = n; to = 0; number = 0; value = z })
