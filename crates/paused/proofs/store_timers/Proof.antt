-- `paused::store_timers` meets its contract. Assumes nothing.
use Prim.Native.Nat.{◌/◌, ◌%◌}
use native.Mathlib.Omega.{arith}
use borrow.Author.Rules.{rules}
use mir.Facts.{to_z_pos}
use mir.Syntax.{w32}
use Rattle.paused.proofs.store_timers.Statement.{statement}
use Rattle.paused.proofs.store_timers.Tie as tie

returns : tie.Need-returns
returns c =
    let e = c.store.ensures.1 in
    let n = c.args.timers in
    let a = to_z_pos w32 {n = n % 65536} (omega arith) in
    let b = to_z_pos w32 {n = n / 65536 % 65536} (omega arith) in
    let d = to_z_pos w32 {n = n / 65536 / 65536 % 65536} (omega arith) in
    let f = to_z_pos w32 {n = n / 65536 / 65536 / 65536 % 65536} (omega arith) in
    rw (a, b, d, f) at e

pub store_timers_spec : {M : Type 1} → statement M
store_timers_spec =
    tie.close
    (tie.spec (λ c. search rules) (λ c. search rules) (λ c. search rules) (λ c. search rules) (λ c. search rules) (λ c κs. search rules) (λ c. search rules)
    returns)
