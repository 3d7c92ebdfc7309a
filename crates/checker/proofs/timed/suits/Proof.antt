-- `checker::timed::suits` meets its contract: test by test. Assumes nothing.
use mathlib.Core.Path.{sym, ◌∙◌}
use native.Mathlib.Omega.{arith}
use borrow.Author.Tests.{not-true, not-false, eq-eqb, ne_eqb, le-leb, lt-leb}
use borrow.Author.Rules.{rules}
use Rattle.checker.proofs.Timing.{suits_is}
use Rattle.checker.proofs.timed.suits.Statement.{statement}
use Rattle.checker.proofs.timed.suits.Tie as tie

returns : tie.Need-returns-then-not-is_number
returns c = λ ns before s b. rw (suits_is _ _ _ _ _ _ _ ns before s b, sym c.is_number.ensures ∙ not-true _ c.if-not-is_number.true-raw)

returns-2 : tie.Need-returns-then-not-is_number-2
returns-2 c = λ ns before s b. rw (suits_is _ _ _ _ _ _ _ ns before s b, sym c.is_number.ensures ∙ not-false _ c.if-not-is_number.false-raw, sym c.is_number-2.ensures ∙ not-true _ c.if-not-is_number-2.true-raw)

returns-3 : tie.Need-returns-then-not-is_number-3
returns-3 c = λ ns before s b. rw (suits_is _ _ _ _ _ _ _ ns before s b, sym c.is_number.ensures ∙ not-false _ c.if-not-is_number.false-raw, sym c.is_number-2.ensures ∙ not-false _ c.if-not-is_number-2.false-raw, sym c.is_number-3.ensures ∙ not-true _ c.if-not-is_number-3.true-raw)

returns-4 : tie.Need-returns-then-not-is_number-4
returns-4 c = λ ns before s b. rw (suits_is _ _ _ _ _ _ _ ns before s b, sym c.is_number.ensures ∙ not-false _ c.if-not-is_number.false-raw, sym c.is_number-2.ensures ∙ not-false _ c.if-not-is_number-2.false-raw, sym c.is_number-3.ensures ∙ not-false _ c.if-not-is_number-3.false-raw, sym c.is_number-4.ensures ∙ not-true _ c.if-not-is_number-4.true-raw)

returns-5 : tie.Need-returns-then-not-is_number-5
returns-5 c = λ ns before s b. rw (suits_is _ _ _ _ _ _ _ ns before s b, sym c.is_number.ensures ∙ not-false _ c.if-not-is_number.false-raw, sym c.is_number-2.ensures ∙ not-false _ c.if-not-is_number-2.false-raw, sym c.is_number-3.ensures ∙ not-false _ c.if-not-is_number-3.false-raw, sym c.is_number-4.ensures ∙ not-false _ c.if-not-is_number-4.false-raw, sym c.is_number-5.ensures ∙ not-true _ c.if-not-is_number-5.true-raw)

returns-6 : tie.Need-returns-then-n-eq0
returns-6 c = λ ns before s b. rw (suits_is _ _ _ _ _ _ _ ns before s b, sym c.is_number.ensures ∙ not-false _ c.if-not-is_number.false-raw, sym c.is_number-2.ensures ∙ not-false _ c.if-not-is_number-2.false-raw, sym c.is_number-3.ensures ∙ not-false _ c.if-not-is_number-3.false-raw, sym c.is_number-4.ensures ∙ not-false _ c.if-not-is_number-4.false-raw, sym c.is_number-5.ensures ∙ not-false _ c.if-not-is_number-5.false-raw, lt-leb 1 c.args.n (omega (arith, c.if-n-eq0.true)))

returns-7 : tie.Need-returns-then-n-gt2147483647
returns-7 c = λ ns before s b. rw (suits_is _ _ _ _ _ _ _ ns before s b, sym c.is_number.ensures ∙ not-false _ c.if-not-is_number.false-raw, sym c.is_number-2.ensures ∙ not-false _ c.if-not-is_number-2.false-raw, sym c.is_number-3.ensures ∙ not-false _ c.if-not-is_number-3.false-raw, sym c.is_number-4.ensures ∙ not-false _ c.if-not-is_number-4.false-raw, sym c.is_number-5.ensures ∙ not-false _ c.if-not-is_number-5.false-raw, le-leb 1 c.args.n (omega (arith, c.if-n-eq0.false)), lt-leb _ _ c.if-n-gt2147483647.true)

returns-8 : tie.Need-returns-then-last-w
returns-8 c = λ ns before s b. rw (suits_is _ _ _ _ _ _ _ ns before s b, sym c.is_number.ensures ∙ not-false _ c.if-not-is_number.false-raw, sym c.is_number-2.ensures ∙ not-false _ c.if-not-is_number-2.false-raw, sym c.is_number-3.ensures ∙ not-false _ c.if-not-is_number-3.false-raw, sym c.is_number-4.ensures ∙ not-false _ c.if-not-is_number-4.false-raw, sym c.is_number-5.ensures ∙ not-false _ c.if-not-is_number-5.false-raw, le-leb 1 c.args.n (omega (arith, c.if-n-eq0.false)), le-leb _ _ c.if-n-gt2147483647.false, ne_eqb _ _ c.if-last-w.true)

returns-9 : tie.Need-returns
returns-9 c = λ ns before s b. rw (suits_is _ _ _ _ _ _ _ ns before s b, sym c.is_number.ensures ∙ not-false _ c.if-not-is_number.false-raw, sym c.is_number-2.ensures ∙ not-false _ c.if-not-is_number-2.false-raw, sym c.is_number-3.ensures ∙ not-false _ c.if-not-is_number-3.false-raw, sym c.is_number-4.ensures ∙ not-false _ c.if-not-is_number-4.false-raw, sym c.is_number-5.ensures ∙ not-false _ c.if-not-is_number-5.false-raw, le-leb 1 c.args.n (omega (arith, c.if-n-eq0.false)), le-leb _ _ c.if-n-gt2147483647.false, eq-eqb _ _ c.if-last-w.false)

pub suits_spec : {M : Type 1} → statement M
suits_spec =
    tie.close
    (tie.spec (λ c κs. search rules) returns (λ c κs. search rules) returns-2 (λ c κs. search rules) returns-3 (λ c κs. search rules) returns-4
    (λ c κs. search rules) returns-5 returns-6 returns-7 (λ c. search rules) returns-8 returns-9)
