-- `checker::advance::ruled` meets its contract. Assumes nothing.
use native.Mathlib.Omega.{arith}
use Rattle.arith.proofs.Flags.{flag_set, set_low}
use Rattle.checker.proofs.Bits.{sorts_none, unset_below}
use Rattle.checker.proofs.advance.ruled.Statement.{statement}
use Rattle.checker.proofs.advance.ruled.Tie as tie

with-bit-requires : tie.Need-with_bit-requires
with-bit-requires c κs =
    let a = c.args in
    omega (arith, unset_below a.w.names a.w.known a.id c.requires.1, c.requires.0.few_names)

returns : tie.Need-returns
returns c =
    let a = c.args in
    let p = c.requires.0 in
    let l = unset_below a.w.names a.w.known a.id c.requires.1 in
    let e = c.with_bit.ensures in (
      rw (e, sorts_none, flag_set a.w.names a.w.known a.id),
      record { few_held = omega arith; sorts_low = omega arith; few_names = p.few_names; known_low = rw e (set_low a.w.names a.w.known a.id l p.known_low) },
    )

pub ruled_spec : {M : Type 1} → statement M
ruled_spec = tie.close (tie.spec with-bit-requires returns)
