-- `expressions::ahead` meets its contract: the tokenizer's answer, at that place and with those bytes written. Assumes nothing.
use borrow.Author.Rules.{rules}
use Rattle.expressions.proofs.Steps.{ahead_done, ahead_none}
use Rattle.expressions.proofs.ahead.Goals as goal

pub returns-in_default : goal.returns-in_default
returns-in_default c = ahead_none _ _ _ c.token_at-read.ensures.value c.in_default.is

pub returns : goal.returns
returns c = ahead_done _ _ _ c.token_at-read.ensures.value c.in-Ok.is
