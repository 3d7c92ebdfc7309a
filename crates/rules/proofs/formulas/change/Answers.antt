-- `rules::formulas::change` meets its contract. Assumes nothing.
use mathlib.Core.Path.{refl}
use native.Mathlib.Omega.{arith}
use Rattle.limits.proofs.Exits.{handed_on}
use Rattle.lexer.specs.Token.{is, kind_number}
use Rattle.semantics.specs.Program as Program
use Rattle.grammar.specs.Rules.{cases_of}
use Rattle.grammar.specs.Forms.{change_opening, no_change_opening}
use Rattle.expressions.proofs.Scopes.{few_names}
use Rattle.phrases.proofs.Writing.{got, writes, not_expected, not_part, found}
use Rattle.cases.proofs.Parts.{placed}
use Rattle.cases.proofs.Ways.{room_phrase, place_refused}
use Rattle.rules.proofs.Ways.{change_unopened, cases_refused, no_change_unopened, list_refused, change_unclosed, change_accepted, level_code, change_bytes, change_length, room_cases, room_list, told_listed, told_kept}
use Rattle.rules.proofs.formulas.change.Goals as goal

pub returns-in_err-a : goal.returns-in_err-a
returns-in_err-a c = rw (handed_on c.from_residual.ensures c.in_err-a.was) (not_expected c.change_opening.ensures c.in_err-a.was (change_unopened _ _ _ _))

pub cases-requires-clause-room : goal.cases-requires-clause-room
unfolding is kind_number
cases-requires-clause-room c =
    let p = found c.change_opening.ensures c.in_ok-a.was in
    room_phrase {u = c.args.to} (change_opening _) (refl, (refl, (refl, (refl, tt)))) c.requires.room p (omega arith)

pub returns-in_err-b : goal.returns-in_err-b
returns-in_err-b c =
    let p = found c.change_opening.ensures c.in_ok-a.was in
    rw (handed_on c.from_residual-in_err-b.ensures c.in_err-b.was) (not_part c.cases.ensures.writes c.in_err-b.was (cases_refused _ _ _ _ p))

pub returns-in_err-d : goal.returns-in_err-d
returns-in_err-d c =
    let p = found c.change_opening.ensures c.in_ok-a.was in
    let g = got c.cases.ensures.writes c.in_ok-b.was in
    rw (handed_on c.from_residual-in_err-d.ensures c.in_err-d.was) (not_expected c.no_change_opening.ensures c.in_err-d.was (no_change_unopened _ _ _ _ p g.is))

pub agreeing_list-requires-clause-room : goal.agreeing_list-requires-clause-room
unfolding is kind_number
agreeing_list-requires-clause-room c =
    let p = found c.change_opening.ensures c.in_ok-a.was in
    let r = room_phrase {u = c.args.to} (change_opening _) (refl, (refl, (refl, (refl, tt)))) c.requires.room p (omega arith) in
    let g = got c.cases.ensures.writes c.in_ok-b.was in
    let q = found c.no_change_opening.ensures c.in_ok-d.was in
    room_list (no_change_opening _) (room_cases _ _ _ _ _ _ _ (few_names _ c.requires.declared) c.requires.id_lt_name_limit r g) q

pub agreeing_list-requires-clause-list_kept : goal.agreeing_list-requires-clause-list_kept
unfolding is kind_number
agreeing_list-requires-clause-list_kept c =
    let p = found c.change_opening.ensures c.in_ok-a.was in
    let r = room_phrase {u = c.args.to} (change_opening _) (refl, (refl, (refl, (refl, tt)))) c.requires.room p (omega arith) in
    told_kept _ _ _ _ _ _ r.within c.cases.ensures.lists (got c.cases.ensures.writes c.in_ok-b.was)

pub returns-in_err-e : goal.returns-in_err-e
returns-in_err-e c =
    let p = found c.change_opening.ensures c.in_ok-a.was in
    let g = got c.cases.ensures.writes c.in_ok-b.was in
    let q = found c.no_change_opening.ensures c.in_ok-d.was in
    let l = c.agreeing_list.ensures g.tree (told_listed _ _ _ _ _ _ c.cases.ensures.lists g) in
    rw (handed_on c.from_residual-in_err-e.ensures c.in_err-e.was) (not_expected l c.in_err-e.was (λ e. list_refused _ _ _ _ p g.is q (place_refused _ e)))

pub returns-in_err-f : goal.returns-in_err-f
returns-in_err-f c =
    let p = found c.change_opening.ensures c.in_ok-a.was in
    let g = got c.cases.ensures.writes c.in_ok-b.was in
    let q = found c.no_change_opening.ensures c.in_ok-d.was in
    let l = c.agreeing_list.ensures g.tree (told_listed _ _ _ _ _ _ c.cases.ensures.lists g) in
    let a = placed _ (found l c.in_ok-e.was) in
    rw (handed_on c.from_residual-in_err-f.ensures c.in_err-f.was) (not_expected c.formula_closing.ensures c.in_err-f.was (change_unclosed _ _ _ _ p g.is q a.is))

pub put_instruction-t-requires : goal.put_instruction-t-requires
unfolding is kind_number
put_instruction-t-requires c =
    let p = found c.change_opening.ensures c.in_ok-a.was in
    let r = room_phrase {u = c.args.to} (change_opening _) (refl, (refl, (refl, (refl, tt)))) c.requires.room p (omega arith) in
    let g = got c.cases.ensures.writes c.in_ok-b.was in
    let rc = room_cases _ _ _ _ _ _ _ (few_names _ c.requires.declared) c.requires.id_lt_name_limit r g in
    (omega arith, omega (arith, c.requires.id_lt_name_limit))

pub returns : goal.returns
unfolding is kind_number
returns c =
    let p = found c.change_opening.ensures c.in_ok-a.was in
    let g = got c.cases.ensures.writes c.in_ok-b.was in
    let q = found c.no_change_opening.ensures c.in_ok-d.was in
    let l = c.agreeing_list.ensures g.tree (told_listed _ _ _ _ _ _ c.cases.ensures.lists g) in
    let a = placed _ (found l c.in_ok-e.was) in
    let r = room_phrase {u = c.args.to} (change_opening _) (refl, (refl, (refl, (refl, tt)))) c.requires.room p (omega arith) in
    let level = level_code _ _ c.args.w.id _ r.within g.is in
    let z = found c.formula_closing.ensures c.in_ok-f.was in
    writes c.reached.ensures (record {
      tree = Program.change c.args.w.id (cases_of g.tree) a.tree;
      is = change_accepted _ _ _ _ p g.is q a.is z;
      ended = change_length c.args.to c.args.w.id g.tree a.tree level g.ended c.put_instruction-t.ensures.0;
      tells_it = refl;
      wrote = change_bytes c.args.out.now c.args.to c.args.w.id g.tree a.tree level g.ended g.wrote c.put_instruction-t.ensures.1;
    })
