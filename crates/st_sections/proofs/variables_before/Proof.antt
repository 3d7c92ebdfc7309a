-- `st_sections::variables_before` meets its contract. Assumes nothing.
use native.Mathlib.Omega.{arith}
use mathlib.Core.Path.{◌∙◌}
use borrow.Author.Rules.{rules}
use Rattle.lexer.specs.Names.{table_names}
use Rattle.expressions.proofs.Scopes.{names_counted}
use Rattle.st_sections.specs.Inner.Lines.{declarations_of}
use Rattle.st_sections.proofs.Lines.{declarations_counted, variables_none, variables_whole}
use Rattle.st_sections.proofs.variables_before.Statement.{statement}
use Rattle.st_sections.proofs.variables_before.Tie as tie

returns : tie.Need-returns-then-count-eq0
returns c =
    let n = names_counted c.args.text.now _ _ _ c.requires.0 in
    let d = declarations_counted (table_names c.args.text.now c.args.starts.now c.args.ends.now c.args.count) c.args.values.now (omega (arith, n, c.requires.1.1)) in
    variables_none c.args.inputs (declarations_of (table_names c.args.text.now c.args.starts.now c.args.ends.now c.args.count) c.args.values.now) (d ∙ n ∙ c.if-count-eq0.true)

returns-2 : tie.Need-returns
returns-2 c =
    let n = names_counted c.args.text.now _ _ _ c.requires.0 in
    let d = declarations_counted (table_names c.args.text.now c.args.starts.now c.args.ends.now c.args.count) c.args.values.now (omega (arith, n, c.requires.1.1)) in
    variables_whole c.args.inputs (declarations_of (table_names c.args.text.now c.args.starts.now c.args.ends.now c.args.count) c.args.values.now) (omega (arith, n, d, c.if-count-eq0.false)) (omega (arith, n, d, c.requires.1.0)) c.bytes_before-end.ensures c.pairs_before-own.ensures c.lines_before-lines.ensures c.bytes_before.ensures

pub variables_before_spec : {M : Type 1} → statement M
variables_before_spec =
    tie.close
    (tie.spec returns (λ c κs. search rules) (λ c κs. search rules) (λ c κs. search rules) (λ c κs. search rules) (λ c. search rules) returns-2)
