-- Shapes that only contracts of functions inside and proofs need. Assumes nothing.
use Rattle.std.specs.Prelude.{ℕ, Bool, true, false, List, [], ◌∷◌, ◌++◌, ℤ, neg_ℤ}
use Rattle.std.specs.Int.Signed.{le_z}
use Rattle.leb128.specs.Numbers.{number, zigzag}
use Rattle.lexer.specs.Token.{dots}
use Rattle.semantics.specs.Program.{Range}
use Rattle.grammar.specs.Parsed.{Parsed, accepted, and_then, sign, phrase}
use Rattle.grammar.specs.Declarations.{bound_at, start_at}

-- the sign before a run of digits
abbrev pub signed_by : Bool → ℤ → ℤ
signed_by true = neg_ℤ
signed_by false = λ z. z

-- low, high and start, after a declaration's name
unfoldable pub declared_range : List ℕ → ℕ → Parsed Range
declared_range text at =
    and_then (bound_at (λ z. true) text at) (λ low n1.
    and_then (phrase text (sign dots ∷ []) n1) (λ u n2.
    and_then (bound_at (le_z low) text n2) (λ high n3.
    and_then (start_at text low high n3) (λ start n4.
    accepted (record { low = low; high = high; start = start }) n4))))

-- the header's bytes of a name
unfoldable pub range_bytes : Range → List ℕ
range_bytes r = number (zigzag r.low) ++ (number (zigzag r.high) ++ (number (zigzag r.start) ++ []))
