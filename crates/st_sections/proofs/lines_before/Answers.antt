use Rattle.std.proofs.Common.{◌-◌, pos, get_or, arith, rules, w32}
use mir.Val.{SFits}
use Rattle.arith.proofs.Laws.{same32}
use Rattle.lexer.specs.Names.{table_names}
use Rattle.expressions.proofs.Scopes.{names_counted}
use Rattle.st_sections.proofs.Lines.{lines_begun, lines_more}
use Rattle.st_sections.proofs.lines_before.Goals as goal

pub loop-i-init : goal.loop-i-init
loop-i-init c =
    let n = names_counted c.args.text.now _ _ _ c.requires.table in
    lines_begun (table_names c.args.text.now c.args.starts.now c.args.ends.now c.args.count) c.args.values.now c.args.inputs (omega (arith, n, c.requires.inputs_le_count.0)) (omega (arith, n, c.requires.inputs_le_count.1)) c.args.previous

pub loop-i-preserved : goal.loop-i-preserved
loop-i-preserved c =
    let n = names_counted c.args.text.now _ _ _ c.requires.table in
    let f : SFits w32 (get_or c.args.values.now (c.loop-i.i - 1) (pos 0)) = search rules in
    lines_more (table_names c.args.text.now c.args.starts.now c.args.ends.now c.args.count) c.args.values.now c.args.inputs (omega (arith, n, c.requires.inputs_le_count.0)) (omega (arith, n, c.requires.inputs_le_count.1)) c.args.previous c.loop-i.i c.loop-i-test.true c.loop-i.auto.i c.loop-i.invariant (rw (same32 f) at c.line_before-place.ensures)
