-- `paused::checkpoint_in` meets its contract. Assumes nothing.
use native.Mathlib.Omega.{arith}
use borrow.Author.Rules.{rules}
use Rattle.paused.specs.Memory.{checkpoint_of}
use Rattle.paused.proofs.Clipped.{clipped_most}
use Rattle.paused.proofs.checkpoint_in.Statement.{statement}
use Rattle.paused.proofs.checkpoint_in.Tie as tie

cast-t4 : tie.Need-overflow_cast-result
cast-t4 c = record { fits = omega (arith, c.cell-2.ensures, clipped_most c.args.memory.now 1 30) }

returns : tie.Need-returns
unfolding checkpoint_of
returns c =
    rw
    (c.cell-7.ensures, c.cell-6.ensures, c.cell-5.ensures, c.cell-4.ensures, c.cell-3.ensures, c.cell-2.ensures, c.cell.ensures)

pub checkpoint_in_spec : {M : Type 1} → statement M
checkpoint_in_spec =
    tie.close
    (tie.spec (λ c κs. search rules) (λ c κs. search rules) cast-t4 (λ c κs. search rules) (λ c κs. search rules) (λ c κs. search rules)
    (λ c κs. search rules) (λ c κs. search rules) returns)
