-- `before::before_known` meets its contract (Tests). Assumes nothing.
use mathlib.Core.Path.{refl, ◌∙◌}
use Rattle.semantics.specs.Shape.{cells}
use Rattle.before.proofs.Tests.{plain_length, plain_rest, plain_prepared, timed_length}
use borrow.Author.Rules.{rules}
use Rattle.before.proofs.before_known.Statement.{statement}
use Rattle.before.proofs.before_known.Tie as tie

returns : tie.Need-returns-then-row-m
returns c = (λ k x. plain_length x c.args.state.now c.args.row.now c.requires.lows c.if-state-m.true c.if-row-m.true, λ k x. refl)

returns-2 : tie.Need-returns-then-state-m
returns-2 c = (
  λ k x. c.before_ranges.ensures.0 (cells k) x.ranges ∙ plain_rest x c.args.state.now c.args.row.now c.requires.lows c.if-state-m.true c.if-row-m.false,
  λ k x. plain_prepared x c.args.state.now c.args.row.now c.requires.lows c.if-state-m.true c.if-row-m.false _ c.before_ranges.result c.before_ranges.ensures.1,
)

returns-3 : tie.Need-returns-then-row-m-2
returns-3 c = (λ k x. timed_length x c.args.state.now c.args.row.now c.requires.lows c.if-state-m.false c.if-row-m-2.true, λ k x. refl)

pub before_known_spec : {M : Type 1} → statement M
before_known_spec =
    tie.close
    (tie.spec returns (λ c κs. search rules) (λ c. search rules) returns-2 (λ c. search rules) returns-3 (λ c κs. search rules) (λ c. search rules) (λ c. search rules))
