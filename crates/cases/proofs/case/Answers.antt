-- `cases::case` meets its contract. Assumes nothing.
use mathlib.Core.Path.{refl}
use native.Mathlib.Omega.{arith}
use Rattle.limits.proofs.Exits.{handed_on}
use Rattle.lexer.specs.Results.{kind_of}
use Rattle.lexer.specs.Token.{is, kind_number}
use Rattle.semantics.specs.Program.{changing}
use Rattle.grammar.specs.Forms.{case_value_opening}
use Rattle.grammar.proofs.Growth.{listed_grown, whole_expression_grown}
use Rattle.expressions.proofs.Steps.{accepted_by, room_after}
use Rattle.expressions.proofs.Scopes.{few_names}
use Rattle.phrases.proofs.Writing.{writes, not_expected, found}
use Rattle.cases.proofs.Parts.{not_read}
use Rattle.cases.proofs.Ways.{condition_refused, opening_refused, value_refused, closing_refused, case_accepted, case_bytes, case_length, room_phrase}
use Rattle.cases.proofs.case.Goals as goal

pub returns-in_err-condition : goal.returns-in_err-condition
returns-in_err-condition c =
    rw (handed_on c.from_residual.ensures c.in_err-condition.was) (λ from. not_read c.listed.ensures c.in_err-condition.was (condition_refused _ _ from _))

pub returns-in_err-a : goal.returns-in_err-a
returns-in_err-a c =
    let l = accepted_by c.listed.ensures c.in_ok-condition.was in
    rw (handed_on c.from_residual-in_err-a.ensures c.in_err-a.was) (λ from. not_expected c.case_value_opening.ensures c.in_err-a.was (opening_refused _ _ from _ l.is))

pub put_byte-u-requires : goal.put_byte-u-requires
put_byte-u-requires c =
    let l = accepted_by c.listed.ensures c.in_ok-condition.was in
    let few = few_names _ c.requires.declared in
    let rl = room_after c.requires.room (listed_grown _ few _ c.requires.room.within) l in
    omega arith

pub whole_expression-requires-clause-room : goal.whole_expression-requires-clause-room
unfolding is kind_number
whole_expression-requires-clause-room c =
    let l = accepted_by c.listed.ensures c.in_ok-condition.was in
    let few = few_names _ c.requires.declared in
    let rl = room_after c.requires.room (listed_grown _ few _ c.requires.room.within) l in
    let p = found c.case_value_opening.ensures c.in_ok-a.was in
    room_phrase {u = c.put_byte-u.result} (case_value_opening _) (refl, (refl, (refl, tt))) rl p (omega (arith, c.put_byte-u.ensures.0))

pub returns-in_err-value : goal.returns-in_err-value
returns-in_err-value c =
    let l = accepted_by c.listed.ensures c.in_ok-condition.was in
    let p = found c.case_value_opening.ensures c.in_ok-a.was in
    rw (handed_on c.from_residual-in_err-value.ensures c.in_err-value.was) (λ from. not_read c.whole_expression.ensures c.in_err-value.was (value_refused _ _ from _ l.is p))

pub returns-in_err-b : goal.returns-in_err-b
unfolding kind_of
returns-in_err-b c =
    let l = accepted_by c.listed.ensures c.in_ok-condition.was in
    let p = found c.case_value_opening.ensures c.in_ok-a.was in
    let v = accepted_by c.whole_expression.ensures c.in_ok-value.was in
    rw (handed_on c.from_residual-in_err-b.ensures c.in_err-b.was) (λ from. not_expected c.expect.ensures c.in_err-b.was (closing_refused _ _ from _ l.is p v.is))

pub put_instruction-v-requires : goal.put_instruction-v-requires
unfolding is kind_number
put_instruction-v-requires c =
    let l = accepted_by c.listed.ensures c.in_ok-condition.was in
    let few = few_names _ c.requires.declared in
    let rl = room_after c.requires.room (listed_grown _ few _ c.requires.room.within) l in
    let p = found c.case_value_opening.ensures c.in_ok-a.was in
    let rp = room_phrase {u = c.put_byte-u.result} (case_value_opening _) (refl, (refl, (refl, tt))) rl p (omega (arith, c.put_byte-u.ensures.0)) in
    let v = accepted_by c.whole_expression.ensures c.in_ok-value.was in
    let rv = room_after rp (whole_expression_grown _ few _ rp.within) v in
    (omega arith, omega (arith, c.requires.id_lt_name_limit))

pub returns : goal.returns
unfolding kind_of
returns c = λ from.
    let l = accepted_by c.listed.ensures c.in_ok-condition.was in
    let p = found c.case_value_opening.ensures c.in_ok-a.was in
    let v = accepted_by c.whole_expression.ensures c.in_ok-value.was in
    let q = found c.expect.ensures c.in_ok-b.was in
    writes c.reached.ensures (record {
      tree = record { case = record { side = changing; condition = l.tree; value = v.tree }; span = record { from = from; to = c.in_ok-condition.condition.at } };
      is = case_accepted _ _ from _ l.is p v.is q;
      ended = case_length _ _ _ _ l.count c.put_byte-u.ensures.0 v.count c.put_instruction-v.ensures.0;
      tells_it = refl;
      wrote = case_bytes _ _ _ _ _ l.count l.wrote c.put_byte-u.ensures.0 c.put_byte-u.ensures.1 v.count v.wrote c.put_instruction-v.ensures.1;
    })
