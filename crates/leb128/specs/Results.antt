-- What the answers of this crate's readers stand for. A malformed number (cut short, not the shortest form, over 32 bits) is
-- nothing: what that means is the caller's to say (document 01: 11, with the place of the number or instruction). Assumes nothing.
use Rattle.std.specs.Prelude.{ℕ, Option, Some, None}
use Rattle.leb128.specs.Numbers.{Read, got, nothing}

-- the number that was read, unsigned or signed, and the place behind it
abbrev pub number_read : {A : Type 0} → Option (A × ℕ) → Read A
number_read (Some (v, next)) = got v next
number_read None = nothing
