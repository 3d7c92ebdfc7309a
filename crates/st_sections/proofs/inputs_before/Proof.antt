-- `st_sections::inputs_before` meets its contract. Assumes nothing.
use native.Mathlib.Omega.{arith}
use borrow.Author.Rules.{rules}
use Rattle.lexer.specs.Names.{table_names}
use Rattle.expressions.proofs.Scopes.{names_counted}
use Rattle.st_sections.specs.Inner.Lines.{declarations_of}
use Rattle.st_sections.proofs.Lines.{declarations_counted, inputs_none, inputs_whole}
use Rattle.st_sections.proofs.inputs_before.Statement.{statement}
use Rattle.st_sections.proofs.inputs_before.Tie as tie

returns : tie.Need-returns-then-inputs-eq0
returns c = inputs_none c.args.inputs (declarations_of (table_names c.args.text.now c.args.starts.now c.args.ends.now c.args.count) c.args.values.now) c.if-inputs-eq0.true

returns-2 : tie.Need-returns
returns-2 c =
    let n = names_counted c.args.text.now _ _ _ c.requires.0 in
    let d = declarations_counted (table_names c.args.text.now c.args.starts.now c.args.ends.now c.args.count) c.args.values.now (omega (arith, n, c.requires.1.1)) in
    inputs_whole c.args.inputs (declarations_of (table_names c.args.text.now c.args.starts.now c.args.ends.now c.args.count) c.args.values.now) (omega (arith, c.if-inputs-eq0.false)) (omega (arith, n, d, c.requires.1.0)) c.bytes_before-end.ensures c.lines_before-lines.ensures c.bytes_before.ensures

pub inputs_before_spec : {M : Type 1} → statement M
inputs_before_spec =
    tie.close
    (tie.spec returns (λ c κs. search rules) (λ c κs. search rules) (λ c κs. search rules) (λ c. search rules) returns-2)
