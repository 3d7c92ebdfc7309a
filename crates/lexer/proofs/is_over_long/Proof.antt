-- `lexer::is_over_long` meets its contract. Assumes nothing.
use borrow.Author.Rules.{rules}
use native.Mathlib.Omega.{arith}
use Prim.Native.Nat.{◌-◌}
use mathlib.Core.Path.{◌≡◌, refl}
use Rattle.lexer.specs.Lexer.{over_long}
use Rattle.lexer.proofs.is_over_long.Statement.{statement}
use Rattle.lexer.proofs.is_over_long.Tie as tie

returns : tie.Need-returns-then-end-start
unfolding over_long
returns c = let z : c.args.end - c.args.start ≡ 0 = omega arith in rw z

returns-2 : tie.Need-returns
unfolding over_long
returns-2 c = refl

pub is_over_long_spec : {M : Type 1} → statement M
is_over_long_spec = tie.close (tie.spec returns (λ c. search rules) returns-2)
