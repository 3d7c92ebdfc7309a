use Rattle.std.proofs.Common.{◌≡◌, ◌-◌, length, take, drop, ap, ◌∙◌, arith}
use lib.ListN.{length-take, length-drop}
use Rattle.machine.proofs.Copies.{over_all}
use Rattle.machine.proofs.Stores.{put_cut}
use Rattle.machine.proofs.lists.store.Goals as goal

pub returns-clause-to_after : goal.returns-clause-to_after
returns-clause-to_after c =
    let a = c.args in
    let n = c.behind-end.result - a.at in
    let part = take n (drop a.at a.to.now) in
    let e : length (take n a.from.now) ≡ length part = simp (length-take, length-drop) (omega (arith, c.behind-end.ensures)) in
    rw (c.fill.ensures ∙ over_all (take n a.from.now) part e)
    (put_cut a.to.now a.from.now a.at n c.requires (ap (λ n. n - a.at) c.behind-end.ensures))
