-- `watches::later` meets its contract. Assumes nothing.
use mathlib.Core.Path.{refl}
use mathlib.Core.Option.{some}
use native.Mathlib.Omega.{arith}
use Rattle.limits.proofs.Exits.{handed_on}
use Rattle.lexer.specs.Token.{is, kind_number}
use Rattle.grammar.specs.Forms.{later_opening}
use Rattle.expressions.proofs.Steps.{accepted_by}
use Rattle.phrases.proofs.Writing.{writes, not_expected, found}
use Rattle.cases.proofs.Parts.{not_read}
use Rattle.cases.proofs.Ways.{room_phrase}
use Rattle.watches.proofs.Ways.{later_unopened, second_refused, later_unclosed, later_accepted}
use Rattle.watches.proofs.later.Goals as goal

pub returns-in_err-a : goal.returns-in_err-a
returns-in_err-a c = rw (handed_on c.from_residual.ensures c.in_err-a.was) (λ x. not_expected c.later_opening.ensures c.in_err-a.was (later_unopened _ x _))

pub listed-requires-clause-room : goal.listed-requires-clause-room
unfolding is kind_number
listed-requires-clause-room c =
    let p = found c.later_opening.ensures c.in_ok-a.was in
    room_phrase {u = c.args.to} later_opening (refl, (refl, (refl, tt))) c.requires.room p (omega arith)

pub returns-in_err-behind : goal.returns-in_err-behind
returns-in_err-behind c =
    let p = found c.later_opening.ensures c.in_ok-a.was in
    rw (handed_on c.from_residual-in_err-behind.ensures c.in_err-behind.was) (λ x. not_read c.listed.ensures c.in_err-behind.was (second_refused _ x _ p))

pub returns-in_err-b : goal.returns-in_err-b
returns-in_err-b c =
    let p = found c.later_opening.ensures c.in_ok-a.was in
    let l = accepted_by c.listed.ensures c.in_ok-behind.was in
    rw (handed_on c.from_residual-in_err-b.ensures c.in_err-b.was) (λ x. not_expected c.function_closing.ensures c.in_err-b.was (later_unclosed _ x _ p l.is))

pub returns : goal.returns
returns c =
    let p = found c.later_opening.ensures c.in_ok-a.was in
    let l = accepted_by c.listed.ensures c.in_ok-behind.was in
    let q = found c.function_closing.ensures c.in_ok-b.was in
    λ x. writes c.reached.ensures (record { tree = record { first = x; later = some l.tree }; is = later_accepted _ x _ p l.is q; ended = l.count; tells_it = refl; wrote = l.wrote })
