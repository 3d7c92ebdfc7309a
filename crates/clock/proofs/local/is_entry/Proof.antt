-- `clock::local::is_entry` meets its contract. Assumes nothing.
use mathlib.Core.Path.{◌≡◌, sym, ◌∙◌}
use mathlib.Core.Bool.{true, false}
use lib.Signed.{lt_z}
use borrow.Author.Rules.{rules}
use Rattle.clock.specs.Clock.{is_minute}
use Rattle.clock.proofs.Held.{same64}
use Rattle.clock.proofs.local.is_entry.Statement.{statement}
use Rattle.clock.proofs.local.is_entry.Tie as tie

returns : tie.Need-returns-then-is_minute
returns c =
    let f = c.ranges in
    let h : lt_z c.args.last c.args.minute ≡ true = rw (same64 f.last, same64 f.minute) at c.if-last-minute.true in
    let m : is_minute c.args.minute ≡ true = sym (rw (same64 f.minute) at c.is_minute.ensures) ∙ c.if-is_minute.true in
    rw (h, m) (rw (same64 f.offset) at c.is_in.ensures)

returns-2 : tie.Need-returns-else-is_minute
returns-2 c =
    let f = c.ranges in
    let h : lt_z c.args.last c.args.minute ≡ true = rw (same64 f.last, same64 f.minute) at c.if-last-minute.true in
    let m : is_minute c.args.minute ≡ false = sym (rw (same64 f.minute) at c.is_minute.ensures) ∙ c.if-is_minute.false in
    rw (h, m)

returns-3 : tie.Need-returns-else-last-minute
returns-3 c =
    let f = c.ranges in
    let h : lt_z c.args.last c.args.minute ≡ false = rw (same64 f.last, same64 f.minute) at c.if-last-minute.false in
    rw h

pub is_entry_spec : {M : Type 1} → statement M
is_entry_spec = tie.close (tie.spec (λ c κs. search rules) (λ c κs. search rules) returns returns-2 returns-3)
