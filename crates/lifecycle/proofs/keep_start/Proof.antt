-- `lifecycle::keep_start` meets its contract. Assumes nothing.
use mathlib.Core.Path.{◌∙◌}
use Prim.Native.Nat.{◌-◌}
use native.Mathlib.Omega.{arith}
use Rattle.resumable.proofs.Keeping.{phase_small}
use borrow.Author.Rules.{rules}
use Rattle.lifecycle.proofs.keep_start.Statement.{statement}
use Rattle.lifecycle.proofs.keep_start.Tie as tie

store-checkpoint-requires : tie.Need-store_checkpoint-requires
store-checkpoint-requires c κs = (
  search rules,
  record { phase = phase_small (c.args.layout.image - c.args.layout.base) 0 c.phase_at.ensures; place = omega arith; steps = omega arith; held = omega arith },
)

returns : tie.Need-returns
returns c =
    c.store_checkpoint.ensures
    ∙ rw (c.store-4.ensures.1, c.store_layout.ensures, c.store-3.ensures.1, c.store-2.ensures.1, c.store.ensures.1, c.phase_at.ensures)

pub keep_start_spec : {M : Type 1} → statement M
keep_start_spec =
    tie.close
    (tie.spec (λ c. search rules) (λ c κs. search rules) (λ c κs. search rules) (λ c κs. search rules) (λ c κs. search rules)
    (λ c κs. search rules) (λ c κs. search rules) store-checkpoint-requires (λ c. search rules) returns)
