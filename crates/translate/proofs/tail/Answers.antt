-- `translate::tail` meets its contract: the watches, then the end of the text. Assumes nothing.
use native.Mathlib.Omega.{arith}
use Rattle.limits.proofs.Exits.{handed_on}
use Rattle.phrases.proofs.Writing.{got, refused_part, refuses}
use Rattle.watches.proofs.Behind.{watches_behind_lem}
use Rattle.translate.proofs.Ending.{read_free, tail_refused, tail_answered}
use Rattle.translate.proofs.tail.Goals as goal

pub first_names-free-requires : goal.first_names-free-requires
first_names-free-requires c = c.requires.declared.few

pub watches-requires : goal.watches-requires
watches-requires c =
    let e = c.first_names-free.ensures.0 in
    record {
      declared = record {
        table = record { in_starts = omega (arith, e, c.requires.declared.table.in_starts); in_ends = omega (arith, e, c.requires.declared.table.in_ends) };
        few = omega (arith, e, c.requires.declared.few);
      };
      room = c.requires.room;
      stands_at = c.requires.stands_at;
    }

pub returns-in_err-last : goal.returns-in_err-last
returns-in_err-last c =
    let e = c.in_err-last.was in
    let w = read_free _ _ _ _ _ _ c.first_names-free.ensures c.watches.ensures in
    rw (handed_on c.from_residual.ensures e) (refuses e (tail_refused _ _ _ (record { looked = refused_part w e })))

pub finish-requires : goal.finish-requires
finish-requires c = c.requires.declared.few

pub returns : goal.returns
returns c =
    let b = watches_behind_lem (got (read_free _ _ _ _ _ _ c.first_names-free.ensures c.watches.ensures) c.in_ok-last.was) in
    tail_answered _ _ _ _ _ b.is b.stands b.counted c.finish.ensures
