use Rattle.std.proofs.Common.{◌≡◌, ◌-◌, pos, get_or, sym, arith, rules, w32}
use mir.Val.{SFits}
use Rattle.arith.proofs.Laws.{same32}
use Rattle.lexer.specs.Names.{table_names}
use Rattle.expressions.proofs.Scopes.{names_counted}
use Rattle.st_sections.proofs.Lines.{pairs_begun, pairs_more}
use Rattle.st_sections.proofs.pairs_before.Goals as goal

pub loop-i-init : goal.loop-i-init
loop-i-init c =
    let n = names_counted c.args.text.now _ _ _ c.requires.table in
    (c.requires.first_le_count.0, pairs_begun (table_names c.args.text.now c.args.starts.now c.args.ends.now c.args.count) c.args.values.now (omega (arith, n, c.requires.first_le_count.1)) _ (sym n))

pub loop-i-preserved : goal.loop-i-preserved
loop-i-preserved c =
    let n = names_counted c.args.text.now _ _ _ c.requires.table in
    let f : SFits w32 (get_or c.args.values.now (c.loop-i.i - 1) (pos 0)) = search rules in
    (omega arith, pairs_more (table_names c.args.text.now c.args.starts.now c.args.ends.now c.args.count) c.args.values.now (omega (arith, n, c.requires.first_le_count.1)) c.loop-i.i (omega arith) (omega (arith, n, c.loop-i.auto.i)) c.loop-i.invariant.1 (rw (same32 f) at c.line_before-own.ensures) (rw (same32 f) at c.line_before-place.ensures))

pub returns : goal.returns
returns c = let z : c.loop-i.i ≡ c.args.first = omega arith in rw z at c.loop-i.invariant.1
