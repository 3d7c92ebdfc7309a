-- `lexer::name` meets its contract. A part that ends past the text's end, or begins after its own end, is cut to what there is. Assumes nothing.
use borrow.Author.Rules.{rules}
use mathlib.Core.Path.{sym}
use native.Mathlib.Omega.{arith}
use Rattle.lexer.proofs.Values.{part_none, part_out, part_over}
use Rattle.lexer.proofs.name.Statement.{statement}
use Rattle.lexer.proofs.name.Tie as tie

returns-2 : tie.Need-returns-then-end-length
returns-2 c =
    let start-2 = c.before.before.before in
    sym (part_none start-2.args.text.now start-2.args.start start-2.args.end (omega arith))

returns-3 : tie.Need-returns-then-start-length
returns-3 c =
    let start-2 = c.before.before.before in
    sym (part_over start-2.args.text.now start-2.args.start start-2.args.end (omega arith))

returns-4 : tie.Need-returns
returns-4 c =
    let start-2 = c.before.before.before in
    sym (part_out start-2.args.text.now start-2.args.start start-2.args.end (omega arith))

pub name_spec : {M : Type 1} → statement M
name_spec =
    tie.close
    (tie.spec (λ c. search rules) (λ c. search rules) (λ c. search rules) (λ c. search rules) (λ c. search rules) (λ c. search rules)
    returns-2 (λ c. search rules) (λ c. search rules) returns-3 (λ c. search rules) (λ c. search rules) (λ c. search rules) returns-4)
