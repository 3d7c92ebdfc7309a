-- `scan::run_over` meets its contract. The run works on a copy; the laws are those of Scanning. Assumes nothing.
use mathlib.Core.Path.{sym, ◌∙◌}
use native.Mathlib.Omega.{arith}
use borrow.Author.Rules.{rules}
use Rattle.scan.proofs.Scanning.{code_done, code_refused}
use Rattle.scan.proofs.run_over.Statement.{statement}
use Rattle.scan.proofs.run_over.Tie as tie

run-whole-requires : tie.Need-run_whole-ran-requires
run-whole-requires c κs =
    (c.requires.1, record { highs = c.requires.0.highs ∙ sym c.requires.0.lows; previous = sym c.requires.0.lows; current = c.requires.0.copies ∙ sym c.requires.0.lows })

returns : tie.Need-returns-in-Next
returns c =
    let a = c.args in
    let ran = c.run_whole-ran in (
      code_done a.code.now a.low.now a.high.now a.state.now a.work.now ran.new.vals ran.new.cur a.timing ran.result
          ran.ensures.0 c.in-Next.field-0 c.fill.new.to c.in-Next.is (ran.auto.cur ∙ c.requires.0.copies) c.fill.ensures,
      ran.ensures.1,
    )

returns-2 : tie.Need-returns-in-Refused
returns-2 c =
    let a = c.args in
    let ran = c.run_whole-ran in (
      code_refused a.code.now a.low.now a.high.now a.state.now a.work.now ran.new.vals ran.new.cur a.timing ran.result
          ran.ensures.0 c.in-Refused.number c.in-Refused.is,
      (omega arith, ran.ensures.1),
    )

pub run_over_spec : {M : Type 1} → statement M
run_over_spec =
    tie.close
    (tie.spec run-whole-requires (λ c. search rules) (λ c κs. search rules) (λ c. search rules) (λ c. search rules) (λ c. search rules) (λ c. search rules) returns
    (λ c. search rules) (λ c. search rules) (λ c. search rules) returns-2)
