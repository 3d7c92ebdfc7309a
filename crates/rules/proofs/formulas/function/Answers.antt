-- `rules::formulas::function` meets its contract. Assumes nothing.
use mathlib.Core.Path.{refl}
use native.Mathlib.Omega.{arith}
use Rattle.limits.proofs.Exits.{handed_on}
use Rattle.lexer.specs.Token.{is, kind_number}
use Rattle.semantics.specs.Program as Program
use Rattle.grammar.specs.Forms.{value_opening}
use Rattle.grammar.proofs.Growth.{whole_expression_grown}
use Rattle.expressions.proofs.Steps.{accepted_by, room_after}
use Rattle.expressions.proofs.Scopes.{few_names}
use Rattle.phrases.proofs.Writing.{writes, not_expected, found}
use Rattle.cases.proofs.Parts.{not_read}
use Rattle.cases.proofs.Ways.{room_phrase}
use Rattle.rules.proofs.Ways.{value_unopened, value_refused, value_unclosed, function_accepted, function_bytes, function_length}
use Rattle.rules.proofs.formulas.function.Goals as goal

pub returns-in_err-a : goal.returns-in_err-a
returns-in_err-a c = rw (handed_on c.from_residual.ensures c.in_err-a.was) (not_expected c.value_opening.ensures c.in_err-a.was (value_unopened _ _ _ _))

pub whole_expression-requires-clause-room : goal.whole_expression-requires-clause-room
unfolding is kind_number
whole_expression-requires-clause-room c =
    let p = found c.value_opening.ensures c.in_ok-a.was in
    room_phrase {u = c.args.to} (value_opening _) (refl, (refl, tt)) c.requires.room p (omega arith)

pub returns-in_err-behind : goal.returns-in_err-behind
returns-in_err-behind c =
    let p = found c.value_opening.ensures c.in_ok-a.was in
    rw (handed_on c.from_residual-in_err-behind.ensures c.in_err-behind.was) (not_read c.whole_expression.ensures c.in_err-behind.was (value_refused _ _ _ _ p))

pub returns-in_err-b : goal.returns-in_err-b
returns-in_err-b c =
    let p = found c.value_opening.ensures c.in_ok-a.was in
    let v = accepted_by c.whole_expression.ensures c.in_ok-behind.was in
    rw (handed_on c.from_residual-in_err-b.ensures c.in_err-b.was) (not_expected c.function_closing.ensures c.in_err-b.was (value_unclosed _ _ _ _ p v.is))

pub put_instruction-t-requires : goal.put_instruction-t-requires
unfolding is kind_number
put_instruction-t-requires c =
    let p = found c.value_opening.ensures c.in_ok-a.was in
    let r = room_phrase {u = c.args.to} (value_opening _) (refl, (refl, tt)) c.requires.room p (omega arith) in
    let v = accepted_by c.whole_expression.ensures c.in_ok-behind.was in
    let s = room_after r (whole_expression_grown _ (few_names _ c.requires.declared) _ r.within) v in
    (omega arith, omega (arith, c.requires.id_lt_name_limit))

pub returns : goal.returns
returns c =
    let p = found c.value_opening.ensures c.in_ok-a.was in
    let v = accepted_by c.whole_expression.ensures c.in_ok-behind.was in
    let q = found c.function_closing.ensures c.in_ok-b.was in
    writes c.reached.ensures (record {
      tree = Program.function c.args.w.id v.tree;
      is = function_accepted _ _ _ _ p v.is q;
      ended = function_length _ _ _ v.count c.put_instruction-t.ensures.0;
      tells_it = refl;
      wrote = function_bytes _ _ _ _ v.count v.wrote c.put_instruction-t.ensures.1;
    })
