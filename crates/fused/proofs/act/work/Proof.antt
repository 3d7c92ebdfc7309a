-- `fused::act::work` meets its contract: each arm is the instruction of its code byte. Assumes nothing.
use mathlib.Core.Path.{refl}
use native.Mathlib.Omega.{arith}
use lib.ListN.{get_or}
use Rattle.fused.proofs.Acting.{operation_at_hand, comparison_at_hand, comparison_acts}
use borrow.Author.Rules.{rules}
use Rattle.fused.proofs.act.work.Statement.{statement}
use Rattle.fused.proofs.act.work.Tie as tie

returns : tie.Need-returns-in-4-to-8
returns c low high prev cur r go =
    let code = c.args.code.now in
    c.calculate.ensures code low high prev cur (operation_at_hand r go c.requires.1 (get_or code c.args.b.at 0) refl c.in-4-to-8.if-byte-lt4-own.false (omega (arith, c.in-4-to-8.if-byte-lt9-own.true)))

returns-2 : tie.Need-returns-in-10-to-15
returns-2 c low high prev cur r go =
    let code = c.args.code.now in
    let byte = get_or code c.args.b.at 0 in
    comparison_acts byte (omega (arith, c.in-10-to-15.if-byte-lt16-own.true)) _ _ _ _ c.relate.result c.relate.ensures code low high prev cur (comparison_at_hand r go c.requires.1 byte refl c.in-10-to-15.if-byte-lt10-own.false (omega (arith, c.in-10-to-15.if-byte-lt16-own.true)))

pub work_spec : {M : Type 1} → statement M
work_spec =
    tie.close
    (tie.spec (λ c. search rules) (λ c. search rules) (λ c κs. search rules) (λ c. search rules) (λ c κs. search rules) (λ c. search rules) returns (λ c. search rules) returns-2
    (λ c. search rules) (λ c. search rules) (λ c. search rules))
