-- `machine::timer::work` meets its contract. Assumes nothing.
use Prim.Native.Nat.{◌≤◌, ◌<◌}
use native.Mathlib.Omega.{arith}
use lib.ListN.{length, length-set}
use mir.Val.{SFits, to_z}
use mir.Syntax.{w32}
use mir.Facts.{to_z-of_z, to_z_pos}
use Rattle.semantics.specs.Formula.{at}
use Rattle.machine.proofs.Timers.{id_undeclared, watched_undeclared, names_undeclared, cell_undeclared, over_limit, timer_worked}
use borrow.Author.Rules.{rules}
use Rattle.machine.proofs.timer.work.Statement.{statement}
use Rattle.machine.proofs.timer.work.Tie as tie

returns : tie.Need-returns-then-size-id
returns c =
    let a = c.args in
    λ ns x vs sized k. id_undeclared ns a.prev.now a.t a.w a.n x vs a.cur.now a.timing (length a.prev.now) sized k c.if-size-id.true

returns-2 : tie.Need-returns-then-size-watched
returns-2 c =
    let a = c.args in
    λ ns x vs sized k. watched_undeclared ns a.prev.now a.t a.w a.n x vs a.cur.now a.timing (length a.prev.now) sized k c.if-size-id.false c.if-size-watched.true

returns-3 : tie.Need-returns-then-size-timing
returns-3 c =
    let a = c.args in
    λ ns x vs sized k. names_undeclared ns a.prev.now a.t a.w a.n x vs a.cur.now a.timing (length a.prev.now) sized k c.if-size-id.false c.if-size-watched.false c.if-size-timing.true

place-requires : tie.Need-place-e-requires
place-requires c κs = let h : c.args.timing.names < 4611686018427387904 = omega (arith, c.if-size-timing.false, c.well_formed.0.1) in h

returns-4 : tie.Need-returns-then-size-e
returns-4 c =
    let a = c.args in
    λ ns x vs sized k. cell_undeclared ns a.prev.now a.t a.w a.n x vs a.cur.now a.timing (length a.prev.now) sized k c.if-size-id.false c.if-size-watched.false (omega (arith, c.place-e.ensures, c.if-size-e.true))

returns-5 : tie.Need-returns-then-n-gt-TIME_LIMIT
returns-5 c =
    let a = c.args in
    λ ns x vs sized k. over_limit ns a.prev.now a.t a.w a.n x vs a.cur.now a.timing (length a.prev.now) sized k c.if-size-id.false c.if-size-watched.false (omega (arith, c.place-e.ensures, c.if-size-e.false)) c.if-n-gt-TIME_LIMIT.true

slice-set-from-cur-2 : tie.Need-bounds-cur-id
slice-set-from-cur-2 c = rw (length-set c.args.cur.now c.place-e.result (to_z w32 c.elapsed-time.result), c.requires) c.if-size-id.false

returns-6 : tie.Need-returns
returns-6 c =
    let a = c.args in
    let fv : SFits w32 (at a.cur.now a.w) = search rules in
    let fb : SFits w32 (at a.prev.now a.w) = search rules in
    let fs : SFits w32 (at a.prev.now c.place-e.result) = search rules in
    let fd : SFits w32 c.due.result = search rules in
    let n : a.n ≤ 2147483647 = c.if-n-gt-TIME_LIMIT.false in
    let e = rw (to_z-of_z fv, to_z-of_z fb, to_z-of_z fs) at c.elapsed-time.ensures.0 in
    let d = rw (to_z-of_z fv) at c.due.ensures in
    λ ns x vs sized k. rw (to_z-of_z fd, to_z_pos w32 {n = c.elapsed-time.result} (omega (arith, c.elapsed-time.ensures.1)))
    (timer_worked ns a.prev.now a.t a.w a.n x vs a.cur.now a.timing (length a.prev.now) sized k c.if-size-id.false c.if-size-watched.false (omega (arith, c.place-e.ensures, c.if-size-e.false)) n
    c.place-e.result c.elapsed-time.result c.due.result c.place-e.ensures e d)

pub work_spec : {M : Type 1} → statement M
work_spec =
    tie.close
    (tie.spec returns returns-2 returns-3 place-requires returns-4 returns-5 (λ c. search rules) (λ c. search rules) (λ c. search rules)
    (λ c. search rules) (λ c. search rules) (λ c. search rules) (λ c κs. search rules) (λ c. search rules) (λ c. search rules) (λ c. search rules)
    (λ c κs. search rules) (λ c. search rules) slice-set-from-cur-2 (λ c. search rules) returns-6)
