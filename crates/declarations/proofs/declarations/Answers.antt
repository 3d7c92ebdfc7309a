-- `declarations::declarations` meets its contract. Assumes nothing.
use native.Mathlib.Omega.{arith}
use borrow.Author.Rules.{rules}
use Rattle.limits.proofs.Exits.{handed_on}
use Rattle.lexer.proofs.Tokens.{is_token, is_fault}
use Rattle.phrases.proofs.Laws.{same_kinds, other_kinds}
use Rattle.declarations.proofs.Loop.{turning, room, stops_fault, ends_all, turns-out, turns_on, few_refused, few_reached}
use Rattle.declarations.proofs.declarations.Goals as goal

pub loop-token-init : goal.loop-token-init
loop-token-init c = turning _ _ _ _ _ _ _ _ c.requires.table_room

pub returns-in_default : goal.returns-in_default
returns-in_default c = record {
  declares_all = λ names held.
      stops_fault _ _ _ _ _ _ _ _ _ _ _ _ _ (c.loop-token.invariant.going names held) c.in_default.is (is_fault _ _ _ (c.token_at-read.ensures.value, c.token_at-read.ensures.placed_in) _ c.in_default.is);
  few_declared = few_refused _ c.in_default.is;
}

pub returns-then-token-word : goal.returns-then-token-word
returns-then-token-word c =
    let t = is_token _ _ _ (c.token_at-read.ensures.value, c.token_at-read.ensures.placed_in) _ c.in-Ok.is in
    record {
      declares_all = λ names held.
          ends_all _ _ _ _ _ _ _ _ _ _ _ _ _ (c.loop-token.invariant.going names held) _ _ _ t.0 c.reached.ensures
          (other_kinds _ _ t.1.known_kind c.requires.word_le_last_kind.0 c.if-token-word.true);
      few_declared = few_reached _ c.reached.ensures c.loop-token.invariant.few c.loop-token.invariant.bytes;
    }

pub declaration-requires : goal.declaration-requires
declaration-requires c = record {
  table_room = room _ _ _ _ _ _ _ _ _ _ _ _ _ _ c.loop-token.invariant c.requires.table_room;
  to_bound = omega (arith, c.loop-token.invariant.bytes, c.loop-token.invariant.few, c.requires.word_le_last_kind.1);
}

pub returns-in_err-b : goal.returns-in_err-b
returns-in_err-b c =
    let t = is_token _ _ _ (c.token_at-read.ensures.value, c.token_at-read.ensures.placed_in) _ c.in-Ok.is in
    rw (handed_on c.from_residual.ensures c.in_err-b.was)
    (record {
      declares_all = turns-out _ _ _ _ _ _ _ _ _ _ _ _ _ _ c.loop-token.invariant _ _ _ t.0 (same_kinds _ _ c.if-token-word.false)
          _ _ _ c.declaration.ensures.declares_one c.declaration.ensures.count_lt_name_limit c.in_err-b.was;
      few_declared = few_refused _ c.in_err-b.was;
    })

pub overflow_add-known : goal.overflow_add-known
overflow_add-known c = record { fits = omega (arith, c.loop-token.invariant.few) }

pub loop-token-smaller : goal.loop-token-smaller
loop-token-smaller c = let m = c.declaration.ensures.count_lt_name_limit _ c.in_ok-b.was in omega (arith, m.0)

pub loop-token-preserved : goal.loop-token-preserved
loop-token-preserved c =
    let t = is_token _ _ _ (c.token_at-read.ensures.value, c.token_at-read.ensures.placed_in) _ c.in-Ok.is in
    turns_on _ _ _ _ _ _ _ _ _ _ _ _ _ _ c.loop-token.invariant _ _ _ t.0 (same_kinds _ _ c.if-token-word.false)
    _ _ _ c.declaration.ensures.declares_one c.declaration.ensures.count_lt_name_limit c.in_ok-b.was (search rules) (search rules) (search rules)
