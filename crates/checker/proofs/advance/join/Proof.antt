-- `checker::advance::join` meets its contract. Assumes nothing.
use mathlib.Core.Path.{sym}
use Rattle.checker.specs.Inner.Walk.{sort_of}
use Rattle.checker.proofs.Bits.{sorts_join, join_low}
use Rattle.checker.proofs.Steps.{joined_few, joined_first, joined_second, joined_both}
use borrow.Author.Rules.{rules}
use native.Mathlib.Omega.{arith}
use Rattle.checker.proofs.advance.join.Statement.{statement}
use Rattle.checker.proofs.advance.join.Tie as tie

returns : tie.Need-returns-then-w-lt2
returns c =
    let a = c.args in
    (sym (joined_few a.w a.sort (sort_of a.made) c.if-w-lt2.true), tt)

returns-2 : tie.Need-returns-then-w-sort
returns-2 c =
    let a = c.args in
    (sym (joined_first a.w a.sort (sort_of a.made) c.requires.1 c.if-w-lt2.false c.if-w-sort.true), tt)

returns-3 : tie.Need-returns-then-below-sort
returns-3 c =
    let a = c.args in
    (sym (joined_second a.w a.sort (sort_of a.made) c.requires.1 c.if-w-lt2.false c.if-w-sort.false c.if-below-sort.true), tt)

returns-4 : tie.Need-returns
returns-4 c =
    let p = c.requires in
    let a = c.args in
    let w = a.w in
    let h = c.if-w-lt2.false in (
      rw (joined_both w a.sort (sort_of a.made) p.1 h c.if-w-sort.false c.if-below-sort.false, sorts_join w.held w.sorts a.made h p.2),
      record {
        few_held = omega (arith, p.0.few_held);
        sorts_low = join_low w.held w.sorts a.made h p.0.sorts_low p.2;
        few_names = p.0.few_names;
        known_low = p.0.known_low;
      },
    )

pub join_spec : {M : Type 1} → statement M
join_spec = tie.close (tie.spec returns returns-2 returns-3 (λ c. search rules) (λ c. search rules) (λ c. search rules) returns-4)
