-- `expressions::number` meets its contract: 3 above the limit, else a constant. Assumes nothing.
use mathlib.Core.List.{List}
use mathlib.Core.Path.{ap, ◌∙◌}
use Prim.Native.Nat.{ℕ, min}
use native.Mathlib.Omega.{arith}
use mir.Syntax.{w32}
use mir.Facts.{to_z_pos}
use lib.IntN.{pos}
use borrow.Author.Rules.{rules}
use Rattle.leb128.specs.Numbers.{zigzag}
use Rattle.lexer.specs.Lexer.{value_of}
use Rattle.semantics.specs.Program.{constant}
use Rattle.expressions.proofs.Steps.{refuses, refused_now, same_part, recoded}
use Rattle.expressions.proofs.Ways.{number_large, number_fits, constant_code}
use Rattle.expressions.proofs.number.Statement.{statement}
use Rattle.expressions.proofs.number.Tie as tie

returns : tie.Need-returns-then-v-gt-NUMBER_LIMIT
returns c = refuses (refused_now (number_large _ _ _ _ (c.value-v.ensures ∙ ap (λ (l : List ℕ). min (value_of l) 4294967296) c.name.ensures) c.if-v-gt-NUMBER_LIMIT.true))

returns-2 : tie.Need-returns
returns-2 c =
    same_part (number_fits _ _ _ _ (c.value-v.ensures ∙ ap (λ (l : List ℕ). min (value_of l) 4294967296) c.name.ensures) c.if-v-gt-NUMBER_LIMIT.false)
    (recoded (constant (pos _)) c.instruction.ensures (constant_code c.value-v.result (c.zigzag.ensures.0 ∙ ap zigzag (to_z_pos w32 (omega (arith, c.if-v-gt-NUMBER_LIMIT.false))))))

pub number_spec : {M : Type 1} → statement M
number_spec =
    tie.close
    (tie.spec (λ c κs. search rules) (λ c κs. search rules) returns (λ c. search rules) (λ c κs. search rules) (λ c κs. search rules)
    (λ c. search rules) returns-2)
