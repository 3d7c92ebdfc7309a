use Rattle.std.proofs.Common.{sym, arith}
use Rattle.lexer.specs.Names.{table_names}
use Rattle.expressions.proofs.Scopes.{names_counted}
use Rattle.st_sections.proofs.Lines.{savings_begun, savings_more}
use Rattle.st_sections.proofs.savings_before.Goals as goal

pub loop-i-init : goal.loop-i-init
loop-i-init c = savings_begun (table_names c.args.text.now c.args.starts.now c.args.ends.now c.args.count) _ (sym (names_counted c.args.text.now _ _ _ c.requires))

pub loop-i-preserved : goal.loop-i-preserved
loop-i-preserved c =
    let n = names_counted c.args.text.now _ _ _ c.requires in
    savings_more (table_names c.args.text.now c.args.starts.now c.args.ends.now c.args.count) c.loop-i.i c.loop-i-test.true (omega (arith, n, c.loop-i.auto.i)) c.loop-i.invariant c.saving_before-place.ensures
