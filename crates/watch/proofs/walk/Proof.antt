-- `watch::walk` meets its contract. Assumes nothing.
use mathlib.Core.Path.{sym}
use Prim.Native.Nat.{◌≤◌}
use native.Mathlib.Omega.{arith}
use lib.ListN.{length}
use lib.Seq.{length-take-le}
use borrow.Author.Rules.{rules}
use Rattle.watch.proofs.Walks.{walk_alone_of, walk_paired_of}
use Rattle.watch.proofs.walk.Statement.{statement}
use Rattle.watch.proofs.walk.Tie as tie

slice-aggregate-walk-alone : tie.Need-slice_bounds-walk_alone-end
slice-aggregate-walk-alone c =
    let h : c.args.middle ≤ length c.args.code.now = omega (arith, c.requires.0.0, c.requires.0.1) in
    sym (length-take-le _ _ h)

returns : tie.Need-returns-then-middle-end
returns c = λ w d. walk_alone_of _ _ _ _ _ c.walk_alone.result w.first w.later d.first d.later c.if-middle-end.true c.walk_alone.ensures

slice-aggregate-walk-paired : tie.Need-slice_bounds-walk_paired-end
slice-aggregate-walk-paired c =
    let h : c.args.middle ≤ length c.args.code.now = omega (arith, c.requires.0.0, c.requires.0.1) in
    sym (length-take-le _ _ h)

returns-2 : tie.Need-returns
returns-2 c = λ w d. walk_paired_of _ _ _ _ _ c.walk_paired.result w.first w.later d.first d.later d.ordered c.requires.0.1 c.if-middle-end.false c.walk_paired.ensures

pub walk_spec : {M : Type 1} → statement M
walk_spec = tie.close
    (tie.spec slice-aggregate-walk-alone (λ c κs. search rules) (λ c. search rules) returns slice-aggregate-walk-paired (λ c. search rules) (λ c. search rules) (λ c. search rules) (λ c κs. search rules) (λ c. search rules) returns-2)
