use Rattle.std.proofs.Common.{◌∙◌}
use Rattle.lifecycle.proofs.Sameness.{pointwise_same}
use Rattle.lifecycle.proofs.same.Goals as goal

pub returns : goal.returns
returns c = c.eq.ensures ∙ pointwise_same c.args.a.now c.args.b.now
