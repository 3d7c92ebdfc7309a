-- Of the names from `i` on the first is the one, or the rest hold the answer.
use Rattle.std.proofs.Common.{sym, ap, ◌∙◌, arith}
use Rattle.lexer.specs.Lexer.{same_name}
use Rattle.lexer.proofs.Table.{id_start, id_here, id_next, id_none}
use Rattle.lexer.proofs.find.Goals as goal

pub loop-i-init : goal.loop-i-init
loop-i-init c = id_start _ _ _ _ _

pub returns-then-same_name : goal.returns-then-same_name
returns-then-same_name c =
    sym (id_here _ _ _ _ _ c.requires _ c.loop-i-test.true (ap (same_name _) (sym c.name.ensures) ∙ sym c.same_name.ensures ∙ c.if-same_name.true)) ∙ c.loop-i.invariant

pub loop-i-preserved : goal.loop-i-preserved
loop-i-preserved c =
    sym (id_next _ _ _ _ _ c.requires _ c.loop-i-test.true (ap (same_name _) (sym c.name.ensures) ∙ sym c.same_name.ensures ∙ c.if-same_name.false)) ∙ c.loop-i.invariant

pub returns : goal.returns
returns c = sym (id_none _ _ _ _ _ c.requires _ c.loop-i-test.false) ∙ c.loop-i.invariant
