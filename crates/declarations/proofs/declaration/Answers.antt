-- `declarations::declaration` meets its contract. Assumes nothing.
use Rattle.limits.proofs.Exits.{handed_on}
use Rattle.declarations.proofs.Entries.{unnamed, entered}
use Rattle.declarations.proofs.declaration.Goals as goal

pub returns-in_err-next : goal.returns-in_err-next
returns-in_err-next c =
    let both = unnamed _ _ _ _ _ _ _ _ _ _ c.new_name.ensures.names c.in_err-next.was in
    rw (handed_on c.from_residual.ensures c.in_err-next.was) (record { declares_one = both.0; count_lt_name_limit = both.1 })

pub returns : goal.returns
returns c =
    let both = entered _ _ _ _ _ _ _ _ _ _ c.new_name.ensures.names c.in_ok-next.was c.range.ensures (c.new_name.ensures.count_lt_name_limit _ c.in_ok-next.was) in
    record { declares_one = both.0; count_lt_name_limit = both.1 }
