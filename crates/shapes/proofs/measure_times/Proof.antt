-- `shapes::measure_times` meets its contract. Assumes nothing.
use Prim.Native.Nat.{ℕ, ◌≤◌}
use mathlib.Core.Path.{sym, subst}
use mathlib.Core.List.{List}
use native.Mathlib.Omega.{arith}
use lib.ListN.{length, get_or}
use borrow.Author.Rules.{rules}
use Rattle.bytecode.proofs.Limits.{length_limits}
use Rattle.shapes.proofs.Measuring.{same_times}
use Rattle.shapes.proofs.measure_times.Statement.{statement}
use Rattle.shapes.proofs.measure_times.Tie as tie

place-times-requires : tie.Need-place_times-requires
place-times-requires c κs =
    let code = c.args.code.now in
    subst (λ (l : List ℕ). (length l ≤ 64) × ((t : ℕ) → get_or l t 0 ≤ 2147483647)) (sym c.timer_limits.ensures) (omega (arith, c.requires.0, length_limits code (length code) 0 c.args.table.now), c.requires.1)

returns : tie.Need-returns
returns c = same_times c.timer_limits.ensures c.place_times.ensures

pub measure_times_spec : {M : Type 1} → statement M
measure_times_spec =
    tie.close
    (tie.spec (λ c κs. search rules) place-times-requires (λ c. search rules) (λ c. search rules) (λ c. search rules) returns)
