-- `resumable::advance_by` meets its contract. Assumes nothing.
use native.Mathlib.Omega.{arith}
use borrow.Author.Rules.{rules}
use Rattle.resumable.proofs.Running.{few_left, place_left, instalment_is}
use Rattle.resumable.proofs.advance_by.Statement.{statement}
use Rattle.resumable.proofs.advance_by.Tie as tie

keep-requires : tie.Need-keep-requires
keep-requires c κs =
    let y = c.requires in
    let r = c.run_from-ran in
    let place = place_left c.args.layout y.0 y.1 r.result r.new.vals r.new.cur r.ensures.0 in (
      record {
        cells = y.0.cells;
        current = search rules;
        room = search rules;
        reached = place;
        earlier = y.1.steps;
        steps = omega (arith, r.ensures.1, y.1.budget);
      },
      few_left c.args.layout y.0 y.1 r.result r.new.vals r.new.cur r.ensures.0,
    )

returns : tie.Need-returns
returns c =
    let r = c.run_from-ran in (
      instalment_is c.args.layout c.requires.0 c.requires.1 r.result r.new.vals r.new.cur r.ensures.0 c.keep.ensures,
      r.ensures.1,
    )

pub advance_by_spec : {M : Type 1} → statement M
advance_by_spec =
    tie.close
    (tie.spec (λ c κs. search rules) keep-requires (λ c. search rules) (λ c. search rules) (λ c. search rules) returns)
