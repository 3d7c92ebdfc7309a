-- `declarations::timers::timers` meets its contract. Assumes nothing.
use native.Mathlib.Omega.{arith}
use borrow.Author.Rules.{rules}
use Rattle.limits.proofs.Exits.{handed_on}
use Rattle.lexer.specs.Token.{kind_number, timer_word}
use Rattle.lexer.proofs.KindNumbers.{kind_is, kind_is_not}
use Rattle.lexer.proofs.Tokens.{is_token, is_fault}
use Rattle.declarations.proofs.Loop.{few_refused, few_reached}
use Rattle.declarations.proofs.TimerLoop.{turning, room, timer_room, stops_fault, ends_all, turns-out, turns_on}
use Rattle.declarations.proofs.timers.timers.Goals as goal

pub loop-token-init : goal.loop-token-init
loop-token-init c = turning _ _ _ _ _ _ _ _ _ _ c.requires.table_room

pub returns-in_default : goal.returns-in_default
returns-in_default c = record {
  declares_timers = λ x held.
      stops_fault _ _ _ _ _ _ _ _ _ _ _ _ _ _ _ (c.loop-token.invariant.going x held) c.in_default.is (is_fault _ _ _ (c.token_at-read.ensures.value, c.token_at-read.ensures.placed_in) _ c.in_default.is);
  few_declared = few_refused _ c.in_default.is;
}

pub returns-then-token-ne-TIMER : goal.returns-then-token-ne-TIMER
unfolding kind_number
returns-then-token-ne-TIMER c =
    let t = is_token _ _ _ (c.token_at-read.ensures.value, c.token_at-read.ensures.placed_in) _ c.in-Ok.is in
    record {
      declares_timers = λ x held.
          ends_all _ _ _ _ _ _ _ _ _ _ _ _ _ _ _ (c.loop-token.invariant.going x held) _ _ _ t.0 c.reached.ensures
          (kind_is_not _ timer_word t.1.known_kind c.if-token-ne-TIMER.true);
      few_declared = few_reached _ c.reached.ensures c.loop-token.invariant.few.1 c.loop-token.invariant.bytes;
    }

pub timer-requires : goal.timer-requires
timer-requires c = record {
  table_room = room _ _ _ _ _ _ _ _ _ _ _ _ _ _ _ _ _ _ c.loop-token.invariant c.requires.table_room;
  timer_room = timer_room _ _ _ _ _ _ _ _ _ _ _ _ _ _ _ _ _ _ c.loop-token.invariant c.requires.timer_room;
  first_le_count = (c.loop-token.invariant.few.0, omega (arith, c.loop-token.invariant.bytes, c.loop-token.invariant.few.1, c.requires.to_bound));
}

pub returns-in_err-b : goal.returns-in_err-b
unfolding kind_number
returns-in_err-b c =
    let t = is_token _ _ _ (c.token_at-read.ensures.value, c.token_at-read.ensures.placed_in) _ c.in-Ok.is in
    rw (handed_on c.from_residual.ensures c.in_err-b.was)
    (record {
      declares_timers = turns-out _ _ _ _ _ _ _ _ _ _ _ _ _ _ _ _ _ _ c.loop-token.invariant _ _ _ t.0 (kind_is _ timer_word c.if-token-ne-TIMER.false)
          _ _ _ _ _ c.timer.ensures.timer_declared c.timer.ensures.count_lt_name_limit c.in_err-b.was;
      few_declared = few_refused _ c.in_err-b.was;
    })

pub overflow_add-known : goal.overflow_add-known
overflow_add-known c = record { fits = omega (arith, c.loop-token.invariant.few.1) }

pub loop-token-smaller : goal.loop-token-smaller
loop-token-smaller c = let m = c.timer.ensures.count_lt_name_limit _ c.in_ok-b.was in omega (arith, m.0)

pub loop-token-preserved : goal.loop-token-preserved
unfolding kind_number
loop-token-preserved c =
    let t = is_token _ _ _ (c.token_at-read.ensures.value, c.token_at-read.ensures.placed_in) _ c.in-Ok.is in
    turns_on _ _ _ _ _ _ _ _ _ _ _ _ _ _ _ _ _ _ c.loop-token.invariant _ _ _ t.0 (kind_is _ timer_word c.if-token-ne-TIMER.false)
    _ _ _ _ _ c.timer.ensures.timer_declared c.timer.ensures.count_lt_name_limit c.in_ok-b.was (search rules, search rules, search rules, search rules, search rules)
