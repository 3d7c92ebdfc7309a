use Rattle.std.proofs.Common.{sym}
use Rattle.lexer.specs.Lexer.{is_alphanumeric}
use Rattle.lexer.proofs.classes.Class.has.Goals as goal

pub returns-then-is_letter : goal.returns-then-is_letter
unfolding is_alphanumeric
returns-then-is_letter c = rw (c.in-Alphanumeric.is, sym c.is_letter.ensures, c.if-is_letter.true)

pub returns-else-is_letter : goal.returns-else-is_letter
unfolding is_alphanumeric
returns-else-is_letter c = rw (c.in-Alphanumeric.is, sym c.is_letter.ensures, c.if-is_letter.false) c.is_digit-else-is_letter.ensures
