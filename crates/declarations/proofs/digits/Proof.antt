-- `declarations::digits` meets its contract. Assumes nothing.
use mathlib.Core.Path.{ap, ◌∙◌}
use mir.Syntax.{w32}
use mir.Val.{SFits}
use Rattle.arith.proofs.Laws.{same32}
use Rattle.lexer.specs.Token.{kind_number, digits as digits_kind}
use Rattle.lexer.proofs.KindNumbers.{kind_is, kind_is_not}
use Rattle.phrases.specs.Inner.Steps.{parsed_of, value_told}
use Rattle.declarations.proofs.Bounds.{no_digits, digits_in, digits_out}
use borrow.Author.Rules.{rules}
use Rattle.declarations.proofs.digits.Statement.{statement}
use Rattle.declarations.proofs.digits.Tie as tie

returns : tie.Need-returns-then-kind-ne-DIGITS
unfolding kind_number
returns c = no_digits _ _ c.ranges.low c.ranges.high c.args.text.now c.args.negative _ _ c.args.end (kind_is_not _ digits_kind c.requires c.if-kind-ne-DIGITS.true)

returns-2 : tie.Need-returns-in_default
unfolding kind_number
returns-2 c =
    digits_out _ _ c.ranges.low c.ranges.high _ c.args.negative _ _ _ _ (kind_is _ digits_kind c.if-kind-ne-DIGITS.false) (rw c.name.ensures at c.value-value.ensures)
    (rw (same32 c.ranges.low, same32 c.ranges.high) at c.signed.ensures) c.in_default.is

returns-3 : tie.Need-returns
unfolding kind_number
returns-3 c =
    let f : SFits w32 c.in-Some.z = search rules in
    ap (parsed_of value_told) c.valued.ensures ∙ rw (same32 f)
    (digits_in _ _ c.ranges.low c.ranges.high _ c.args.negative _ _ _ _ (kind_is _ digits_kind c.if-kind-ne-DIGITS.false) (rw c.name.ensures at c.value-value.ensures)
    (rw (same32 c.ranges.low, same32 c.ranges.high) at c.signed.ensures) c.in-Some.is)

pub digits_spec : {M : Type 1} → statement M
digits_spec =
    tie.close
    (tie.spec returns (λ c κs. search rules) (λ c κs. search rules) (λ c κs. search rules) (λ c. search rules) (λ c. search rules) returns-2 (λ c κs. search rules) returns-3)
