use Rattle.std.proofs.Common.{◌∙◌}
use Rattle.lexer.proofs.Same.{pointwise_same}
use Rattle.lexer.proofs.classes.same_bytes.Goals as goal

pub returns : goal.returns
returns c = c.eq.ensures ∙ pointwise_same c.args.a.now c.args.b.now
