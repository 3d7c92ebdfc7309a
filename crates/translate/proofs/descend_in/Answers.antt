-- `translate::descend_in` meets its contract: the declarations, the rules, the watches, then the two counts. Assumes nothing.
use mathlib.Core.Path.{refl, sym, ◌∙◌}
use native.Mathlib.Omega.{arith}
use Rattle.limits.proofs.Exits.{handed_on}
use Rattle.phrases.proofs.Writing.{got, refused_part}
use Rattle.rules.proofs.Behind.{rules_behind}
use Rattle.translate.proofs.Descent.{heading_few, table_named, rules_read, tail_is, rules_in, no_heading, no_rules, no_tail, descends_whole}
use Rattle.translate.proofs.descend_in.Goals as goal

pub returns-in_err-all : goal.returns-in_err-all
returns-in_err-all c =
    let e = c.in_err-all.was in
    rw (handed_on c.from_residual.ensures e) (no_heading _ _ _ _ _ _ e (c.heading.ensures.refuses _ e))

pub first_names-names-requires : goal.first_names-names-requires
first_names-names-requires c =
    let x = c.heading.ensures.reads _ c.in_ok-all.was in
    let f = heading_few _ c.requires.text_len_bound x.read _ x.is_read in
    omega (arith, x.counted, f.inputs, f.names)

pub rules-requires : goal.rules-requires
rules-requires c =
    let x = c.heading.ensures.reads _ c.in_ok-all.was in
    let f = heading_few _ c.requires.text_len_bound x.read _ x.is_read in
    let e = c.first_names-names.ensures.0 in
    let r = c.requires.table_room in
    let o = c.requires.timer_room in
    record {
      declared = record {
        table = record { in_starts = omega (arith, e, x.named, f.names, r.in_starts, c.heading.auto.starts); in_ends = omega (arith, e, x.named, f.names, r.in_ends, c.heading.auto.ends) };
        few = omega (arith, e, x.named, f.names);
      };
      room = record { short = c.requires.text_len_bound; within = f.within; room = omega (arith, x.ended, f.room) };
      timer_tables = record {
        in_watched = omega (arith, e, x.named, f.names, o.in_watched, c.heading.auto.watched);
        in_limits_lem = omega (arith, e, x.named, f.names, o.in_limits_lem, c.heading.auto.limits);
      };
      named = table_named _ _ _ x.read _ _ x.held e f.spelled;
    }

pub returns-in_err-behind : goal.returns-in_err-behind
returns-in_err-behind c =
    let x = c.heading.ensures.reads _ c.in_ok-all.was in
    let w = rules_read _ _ _ _ _ _ _ _ _ _ _ _ _ x _ c.first_names-names.ensures c.rules.ensures in
    let e = c.in_err-behind.was in
    rw (handed_on c.from_residual-in_err-behind.ensures e) (no_rules _ _ _ _ _ x.read _ x.is_read _ e (record { looked = refused_part w e }))

pub tail-requires : goal.tail-requires
tail-requires c =
    let x = c.heading.ensures.reads _ c.in_ok-all.was in
    let f = heading_few _ c.requires.text_len_bound x.read _ x.is_read in
    let w = rules_read _ _ _ _ _ _ _ _ _ _ _ _ _ x _ c.first_names-names.ensures c.rules.ensures in
    let b = rules_behind (got w c.in_ok-behind.was) in
    let r = c.requires.table_room in
    record {
      declared = record {
        table = record { in_starts = omega (arith, x.named, f.names, r.in_starts, c.heading.auto.starts); in_ends = omega (arith, x.named, f.names, r.in_ends, c.heading.auto.ends) };
        few = omega (arith, x.named, f.names);
      };
      room = record { short = c.requires.text_len_bound; within = rules_in _ x.read _ b.ruled _ f b.is; room = omega arith };
      stands_at = b.stands;
    }

pub returns-in_err-last : goal.returns-in_err-last
returns-in_err-last c =
    let x = c.heading.ensures.reads _ c.in_ok-all.was in
    let w = rules_read _ _ _ _ _ _ _ _ _ _ _ _ _ x _ c.first_names-names.ensures c.rules.ensures in
    let b = rules_behind (got w c.in_ok-behind.was) in
    let tailed = tail_is _ _ _ x.read _ _ _ b.ruled x.held x.named b.known in
    let e = c.in_err-last.was in
    rw (handed_on c.from_residual-in_err-last.ensures e) (no_tail _ _ _ _ _ x.read _ x.is_read b.ruled _ _ b.is e (sym tailed ∙ refused_part c.tail.ensures e))

pub overflow_cast-all : goal.overflow_cast-all
overflow_cast-all c =
    let x = c.heading.ensures.reads _ c.in_ok-all.was in
    let f = heading_few _ c.requires.text_len_bound x.read _ x.is_read in
    omega (arith, x.counted, f.inputs, f.names)

pub overflow_sub-all : goal.overflow_sub-all
overflow_sub-all c =
    let x = c.heading.ensures.reads _ c.in_ok-all.was in
    let f = heading_few _ c.requires.text_len_bound x.read _ x.is_read in
    omega (arith, x.counted, x.named, f.inputs)

pub overflow_cast-all-2 : goal.overflow_cast-all-2
overflow_cast-all-2 c =
    let x = c.heading.ensures.reads _ c.in_ok-all.was in
    let f = heading_few _ c.requires.text_len_bound x.read _ x.is_read in
    omega (arith, x.counted, x.named, f.inputs, f.names)

pub overflow_sub-last : goal.overflow_sub-last
overflow_sub-last c = (c.heading.ensures.reads _ c.in_ok-all.was).ordered

pub returns : goal.returns
returns c =
    let x = c.heading.ensures.reads _ c.in_ok-all.was in
    let f = heading_few _ c.requires.text_len_bound x.read _ x.is_read in
    let w = rules_read _ _ _ _ _ _ _ _ _ _ _ _ _ x _ c.first_names-names.ensures c.rules.ensures in
    let b = rules_behind (got w c.in_ok-behind.was) in
    let tailed = tail_is _ _ _ x.read _ _ _ b.ruled x.held x.named b.known in
    let t = got c.tail.ensures c.in_ok-last.was in
    rw (c.put_byte-2.ensures.1, c.put_byte.ensures.1)
    (descends_whole _ _ _ _ _ _ _ _ _ _ _ _ _ _ _ _ x f b.ruled t.tree b.is (sym tailed ∙ t.is) b.ended b.wrote refl refl (omega (arith, t.ended)) refl t.tells_it refl)
