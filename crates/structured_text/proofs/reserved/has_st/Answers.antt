use Rattle.std.proofs.Common.{sym, ap, ◌∙◌}
use Rattle.st_program.specs.Written.{is_st_word}
use Rattle.structured_text.proofs.Walk.{none_here, none_next, none_left_lem, timed_lacks, untimed_has}
use Rattle.structured_text.proofs.reserved.has_st.Goals as goal

pub returns-then-timers-ne0 : goal.returns-then-timers-ne0
returns-then-timers-ne0 c = λ ts e. timed_lacks ts _ c.if-timers-ne0.true e

pub returns-then-is_st_word : goal.returns-then-is_st_word
returns-then-is_st_word c = λ ts e. untimed_has ts c.if-timers-ne0.false e (none_here _ c.requires _ c.loop-i-test.true (ap is_st_word (sym c.name.ensures) ∙ sym c.is_st_word.ensures ∙ c.if-is_st_word.true) ∙ c.loop-i.invariant)

pub loop-i-preserved : goal.loop-i-preserved
loop-i-preserved c = none_next _ c.requires _ c.loop-i-test.true (ap is_st_word (sym c.name.ensures) ∙ sym c.is_st_word.ensures ∙ c.if-is_st_word.false) ∙ c.loop-i.invariant

pub returns : goal.returns
returns c = λ ts e. untimed_has ts c.if-timers-ne0.false e (none_left_lem _ c.requires _ c.loop-i-test.false ∙ c.loop-i.invariant)
