-- `translate::analyse` meets its contract: the limit of texts, then the descent over room for the two counts. Assumes nothing.
use native.Mathlib.Omega.{arith}
use borrow.Author.Rules.{rules}
use Rattle.limits.proofs.Exits.{refused_as}
use Rattle.translate.proofs.Service.{parse_long, analyses_refused, analyses_accepted}
use Rattle.translate.proofs.analyse.Goals as goal

pub returns-then-text-gt-TEXT_LIMIT : goal.returns-then-text-gt-TEXT_LIMIT
returns-then-text-gt-TEXT_LIMIT c = record { so = parse_long _ c.if-text-gt-TEXT_LIMIT.true }

pub returns-in_err-end : goal.returns-in_err-end
returns-in_err-end c =
    rw (refused_as c.from_residual.ensures) (record { so = analyses_refused _ _ _ _ c.if-text-gt-TEXT_LIMIT.false c.descend.ensures _ c.in_err-end.was })

pub overflow_add-names : goal.overflow_add-names
overflow_add-names c = let a = c.count_of-inputs.ensures.1 in let b = c.count_of.ensures.1 in search rules

pub returns : goal.returns
returns c = record {
  so = analyses_accepted _ _ _ _ c.if-text-gt-TEXT_LIMIT.false c.descend.ensures _ c.in_ok-end.was c.count_of-inputs.ensures.0 c.count_of.ensures.0
      (omega (arith, c.requires.in_starts, c.descend.auto.starts)) (omega (arith, c.requires.in_ends, c.descend.auto.ends));
}
