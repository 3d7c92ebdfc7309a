-- `rules::formulas::pair` meets its contract. Assumes nothing.
use mathlib.Core.Path.{refl}
use native.Mathlib.Omega.{arith}
use Rattle.limits.specs.Limits.{case_limit}
use Rattle.limits.proofs.Exits.{handed_on}
use Rattle.lexer.specs.Token.{is, kind_number, greater}
use Rattle.lexer.specs.Results.{kind_of}
use Rattle.grammar.specs.Pairs.{pair_rule}
use Rattle.grammar.specs.Rules.{cases_of}
use Rattle.grammar.specs.Forms.{turned_opening, falling_opening}
use Rattle.expressions.proofs.Scopes.{few_names}
use Rattle.phrases.proofs.Writing.{got, writes, not_expected, not_part, found}
use Rattle.cases.proofs.Ways.{room_phrase}
use Rattle.rules.proofs.Ways.{pair_unopened, ups_refused, falling_unopened, downs_refused, pair_unclosed, pair_accepted, few_cases, pair_written, pair_ended, room_cases}
use Rattle.rules.proofs.formulas.pair.Goals as goal

pub returns-in_err-a : goal.returns-in_err-a
unfolding kind_of
returns-in_err-a c = rw (handed_on c.from_residual.ensures c.in_err-a.was) (not_expected c.turned_opening.ensures c.in_err-a.was (pair_unopened _ _ _ _))

pub cases-requires-clause-room : goal.cases-requires-clause-room
unfolding is kind_number kind_of
cases-requires-clause-room c =
    let p = found c.turned_opening.ensures c.in_ok-a.was in
    room_phrase {u = c.args.to} (turned_opening greater _) (refl, (refl, (refl, (refl, (refl, tt))))) c.requires.room p (omega arith)

pub returns-in_err-b : goal.returns-in_err-b
unfolding kind_of
returns-in_err-b c =
    let p = found c.turned_opening.ensures c.in_ok-a.was in
    rw (handed_on c.from_residual-in_err-b.ensures c.in_err-b.was) (not_part c.cases.ensures.writes c.in_err-b.was (ups_refused _ _ _ _ p))

pub returns-in_err-d : goal.returns-in_err-d
unfolding kind_of
returns-in_err-d c =
    let p = found c.turned_opening.ensures c.in_ok-a.was in
    let g = got c.cases.ensures.writes c.in_ok-b.was in
    rw (handed_on c.from_residual-in_err-d.ensures c.in_err-d.was) (not_expected c.falling_opening.ensures c.in_err-d.was (falling_unopened _ _ _ _ p g.is))

pub overflow_sub-left : goal.overflow_sub-left
unfolding is kind_number kind_of
overflow_sub-left c =
    let p = found c.turned_opening.ensures c.in_ok-a.was in
    let r = room_phrase {u = c.args.to} (turned_opening greater _) (refl, (refl, (refl, (refl, (refl, tt))))) c.requires.room p (omega arith) in
    let g = got c.cases.ensures.writes c.in_ok-b.was in
    omega (arith, g.tells_it, few_cases _ _ _ r.within g.is)

pub cases-requires-2-clause-room : goal.cases-requires-2-clause-room
unfolding is kind_number kind_of
cases-requires-2-clause-room c =
    let p = found c.turned_opening.ensures c.in_ok-a.was in
    let r = room_phrase {u = c.args.to} (turned_opening greater _) (refl, (refl, (refl, (refl, (refl, tt))))) c.requires.room p (omega arith) in
    let g = got c.cases.ensures.writes c.in_ok-b.was in
    let q = found c.falling_opening.ensures c.in_ok-d.was in
    let rc = room_cases _ _ _ _ _ _ case_limit (few_names _ c.requires.declared) c.requires.id_lt_name_limit r g in
    room_phrase {u = c.in_ok-b.b.to} (falling_opening _) (refl, (refl, (refl, (refl, (refl, (refl, (refl, (refl, tt)))))))) rc q (omega arith)

pub returns-in_err-g : goal.returns-in_err-g
unfolding kind_of
returns-in_err-g c =
    let p = found c.turned_opening.ensures c.in_ok-a.was in
    let g = got c.cases.ensures.writes c.in_ok-b.was in
    let q = found c.falling_opening.ensures c.in_ok-d.was in
    rw (handed_on c.from_residual-in_err-g.ensures c.in_err-g.was) (not_part c.cases-2.ensures.writes c.in_err-g.was (downs_refused _ _ _ _ p g.is q g.tells_it))

pub returns-in_err-f : goal.returns-in_err-f
unfolding kind_of
returns-in_err-f c =
    let p = found c.turned_opening.ensures c.in_ok-a.was in
    let g = got c.cases.ensures.writes c.in_ok-b.was in
    let q = found c.falling_opening.ensures c.in_ok-d.was in
    let h = got c.cases-2.ensures.writes c.in_ok-g.was in
    rw (handed_on c.from_residual-in_err-f.ensures c.in_err-f.was) (not_expected c.formula_closing.ensures c.in_err-f.was (pair_unclosed _ _ _ _ p g.is q g.tells_it h.is))

pub put_instruction-t-requires : goal.put_instruction-t-requires
unfolding is kind_number kind_of
put_instruction-t-requires c =
    let p = found c.turned_opening.ensures c.in_ok-a.was in
    let r = room_phrase {u = c.args.to} (turned_opening greater _) (refl, (refl, (refl, (refl, (refl, tt))))) c.requires.room p (omega arith) in
    let g = got c.cases.ensures.writes c.in_ok-b.was in
    let q = found c.falling_opening.ensures c.in_ok-d.was in
    let rc = room_cases _ _ _ _ _ _ case_limit (few_names _ c.requires.declared) c.requires.id_lt_name_limit r g in
    let rq = room_phrase {u = c.in_ok-b.b.to} (falling_opening _) (refl, (refl, (refl, (refl, (refl, (refl, (refl, (refl, tt)))))))) rc q (omega arith) in
    let h = got c.cases-2.ensures.writes c.in_ok-g.was in
    let rd = room_cases _ _ _ _ _ _ _ (few_names _ c.requires.declared) c.requires.id_lt_name_limit rq h in
    (omega arith, omega (arith, c.requires.id_lt_name_limit))

pub returns : goal.returns
unfolding kind_of
returns c =
    let p = found c.turned_opening.ensures c.in_ok-a.was in
    let g = got c.cases.ensures.writes c.in_ok-b.was in
    let q = found c.falling_opening.ensures c.in_ok-d.was in
    let h = got c.cases-2.ensures.writes c.in_ok-g.was in
    let z = found c.formula_closing.ensures c.in_ok-f.was in
    writes c.reached.ensures (record {
      tree = pair_rule c.args.w.id (cases_of g.tree) (cases_of h.tree);
      is = pair_accepted _ _ _ _ p g.is q g.tells_it h.is z;
      ended = pair_ended c.args.to c.args.w.id g.tree h.tree g.ended h.ended c.put_instruction-t.ensures.0;
      tells_it = refl;
      wrote = pair_written c.args.out.now c.args.to c.args.w.id g.tree h.tree g.ended g.wrote h.ended h.wrote c.put_instruction-t.ensures.1;
    })
