-- `clock::local::repeats` meets its contract. Assumes nothing.
use mathlib.Core.Path.{◌≡◌, ap, ◌∙◌}
use mathlib.Core.Bool.{true, false}
use lib.IntN.{ℤ, ◌-ℤ◌}
use lib.Signed.{lt_z}
use borrow.Author.Rules.{rules}
use mir.Syntax.{w64}
use mir.Val.{SFits, to_z, of_z}
use Rattle.arith.specs.Values.{eq_z}
use Rattle.arith.proofs.Laws.{eq_bits}
use Rattle.clock.specs.Clock.{entries_of, offset_at}
use Rattle.clock.proofs.Held.{same64, difference_fits}
use Rattle.clock.proofs.local.repeats.Statement.{statement}
use Rattle.clock.proofs.local.repeats.Tie as tie

earlier_fits : (c : tie.Start) → SFits w64 (c.args.local -ℤ c.args.offset)
earlier_fits c = difference_fits c.args.local c.args.offset c.requires.0 c.requires.1

-- what the local `earlier` holds
earlier : (c : tie.Start) → to_z w64 (of_z w64 (to_z w64 (of_z w64 c.args.local) -ℤ to_z w64 (of_z w64 c.args.offset))) ≡ c.args.local -ℤ c.args.offset
earlier c = rw (same64 c.ranges.local, same64 c.ranges.offset) (same64 (earlier_fits c))

sub-earlier : tie.Need-overflow_sub-earlier
sub-earlier c = rw (same64 c.ranges.local, same64 c.ranges.offset) (earlier_fits c)

returns : tie.Need-returns-then-earlier-utc
returns c =
    let a = c.args in
    let h : lt_z (a.local -ℤ a.offset) a.utc ≡ true = rw (earlier c.before.before, same64 c.ranges.utc) at c.if-earlier-utc.true in
    let q : c.offset_at.result ≡ offset_at (entries_of a.table.now) (a.local -ℤ a.offset) = c.offset_at.ensures ∙ ap (offset_at (entries_of a.table.now)) (earlier c.before.before) in
    rw h (eq_bits {w = w64} c.offset_at.result _ (record { sfits = c.offset_at.type_inv }) c.ranges.offset ∙ ap (λ (x : ℤ). eq_z x a.offset) q)

returns-2 : tie.Need-returns
returns-2 c =
    let a = c.args in
    let h : lt_z (a.local -ℤ a.offset) a.utc ≡ false = rw (earlier c.before, same64 c.ranges.utc) at c.if-earlier-utc.false in
    rw h

pub repeats_spec : {M : Type 1} → statement M
repeats_spec = tie.close (tie.spec sub-earlier (λ c κs. search rules) returns returns-2)
