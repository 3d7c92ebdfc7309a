use Rattle.std.proofs.Common.{false, get_or, refl, ◌∙◌, rules, tests, arith}
use Rattle.std.proofs.lemmas.Iterator.{YieldsList-from_range}
use Rattle.std.proofs.lemmas.Iterator.Search.{all_from_yields_List}
use Rattle.arith.specs.Inner.Flags.{flags_of}
use Rattle.arith.proofs.Flags.{length_flags}
use Rattle.expressions.proofs.Scopes.{all_counted}
use Rattle.expressions.proofs.scope.all_known.Goals as goal

pub returns : goal.returns
returns c =
    let n = c.args.names.count in
    let flags = flags_of n c.args.names.known in
    all_from_yields_List (λ i. get_or flags i false) _ _ _ c.all.ensures.ran (YieldsList-from_range 0 n n refl (omega arith)) (λ x b q k. search (rules, tests))
    ∙ all_counted flags 0 n (omega (arith, length_flags n c.args.names.known))
