-- Classes of bytes: which runs the one run function follows. Assumes nothing.
use Rattle.std.specs.Prelude.{ℕ, Bool}
use Rattle.lexer.specs.Lexer.{is_space, is_digit, is_alphanumeric}
use Rattle.lexer.specs.declared.classes.Class.{Class}
use Rattle.lexer.specs.declared.classes.Class.TheVariants.{Space, Digit, Alphanumeric}

abbrev pub member : Class → ℕ → Bool
member Space b = is_space b
member Digit b = is_digit b
member Alphanumeric b = is_alphanumeric b
