-- `watches::watch` meets its contract. Assumes nothing.
use mathlib.Core.Path.{refl}
use mathlib.Core.List.{append-nil}
use mathlib.Core.Option.{none}
use native.Mathlib.Omega.{arith}
use Rattle.limits.proofs.Exits.{handed_on}
use Rattle.lexer.specs.Token.{arrow, is, kind_number}
use Rattle.grammar.specs.Forms.{watch_opening}
use Rattle.grammar.proofs.Growth.{listed_grown}
use Rattle.expressions.proofs.Steps.{accepted_by, room_after, room_next, told, untold}
use Rattle.expressions.proofs.Scopes.{few_names}
use Rattle.phrases.proofs.Writing.{writes, not_expected, found, reads_as}
use Rattle.cases.proofs.Parts.{not_read}
use Rattle.cases.proofs.Ways.{room_phrase}
use Rattle.watches.proofs.Ways.{watch_unopened, first_refused, watch_paired, watch_unclosed, watch_accepted, both_written}
use Rattle.watches.proofs.watch.Goals as goal

pub returns-in_err-a : goal.returns-in_err-a
returns-in_err-a c = rw (handed_on c.from_residual.ensures c.in_err-a.was) (not_expected c.watch_opening.ensures c.in_err-a.was (watch_unopened _ _))

pub listed-requires-clause-room : goal.listed-requires-clause-room
unfolding is kind_number
listed-requires-clause-room c =
    let p = found c.watch_opening.ensures c.in_ok-a.was in
    room_phrase {u = c.args.to} watch_opening (refl, (refl, (refl, (refl, tt)))) c.requires.room p (omega arith)

pub returns-in_err-behind : goal.returns-in_err-behind
returns-in_err-behind c =
    let p = found c.watch_opening.ensures c.in_ok-a.was in
    rw (handed_on c.from_residual-in_err-behind.ensures c.in_err-behind.was) (not_read c.listed.ensures c.in_err-behind.was (first_refused _ _ p))

pub later-requires-clause-room : goal.later-requires-clause-room
unfolding is kind_number
later-requires-clause-room c =
    let p = found c.watch_opening.ensures c.in_ok-a.was in
    let rp = room_phrase {u = c.args.to} watch_opening (refl, (refl, (refl, (refl, tt)))) c.requires.room p (omega arith) in
    let l = accepted_by c.listed.ensures c.in_ok-behind.was in
    let rl = room_after rp (listed_grown _ (few_names _ c.requires.declared) _ rp.within) l in
    room_next rl l.stands

pub returns-then-behind-eq-ARROW : goal.returns-then-behind-eq-ARROW
unfolding kind_number
returns-then-behind-eq-ARROW c =
    let p = found c.watch_opening.ensures c.in_ok-a.was in
    let l = accepted_by c.listed.ensures c.in_ok-behind.was in
    reads_as (watch_paired _ _ p l.is l.stands.read (told l.stands arrow c.if-behind-eq-ARROW.true)) (both_written _ l.tree _ l.count l.wrote (c.later.ensures l.tree))

pub returns-in_err-b : goal.returns-in_err-b
unfolding kind_number
returns-in_err-b c =
    let p = found c.watch_opening.ensures c.in_ok-a.was in
    let l = accepted_by c.listed.ensures c.in_ok-behind.was in
    rw (handed_on c.from_residual-in_err-b.ensures c.in_err-b.was)
    (not_expected c.formula_closing.ensures c.in_err-b.was (watch_unclosed _ _ p l.is l.stands.read (untold l.stands arrow c.if-behind-eq-ARROW.false)))

pub returns : goal.returns
unfolding kind_number
returns c =
    let p = found c.watch_opening.ensures c.in_ok-a.was in
    let l = accepted_by c.listed.ensures c.in_ok-behind.was in
    let q = found c.formula_closing.ensures c.in_ok-b.was in
    writes c.reached.ensures (record {
      tree = record { first = l.tree; later = none };
      is = watch_accepted _ _ p l.is l.stands.read (untold l.stands arrow c.if-behind-eq-ARROW.false) q;
      ended = rw (append-nil _) l.count;
      tells_it = l.count;
      wrote = rw (append-nil _) l.wrote;
    })
