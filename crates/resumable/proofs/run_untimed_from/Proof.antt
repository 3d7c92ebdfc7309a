-- `resumable::run_untimed_from` meets its contract (Running.ran-untimed). Assumes nothing.
use mathlib.Core.Path.{◌≡◌}
use Prim.Native.Nat.{ℕ, ◌+◌, ◌-◌}
use native.Mathlib.Omega.{arith}
use borrow.Author.Rules.{rules}
use Rattle.resumable.proofs.Running.{ran_untimed}
use Rattle.resumable.proofs.run_untimed_from.Statement.{statement}
use Rattle.resumable.proofs.run_untimed_from.Tie as tie

back : (a n : ℕ) → a + n - a ≡ n
back a n = omega arith

returns : tie.Need-returns
returns c =
    let a = c.args in
    let n = a.layout.size in (
      ran_untimed a.layout c.requires.0 c.requires.1 a.code.now a.n _ _ _ c.fill.new.to c.fill-2.new.to (rw (back 256 n) at c.fill.ensures) c.fill-2.ensures (384 + n - 384)
          (512 + n - 512) (128 + n - 128) (back 384 n) (back 512 n) (back 128 n) c.run_untimed.ensures,
      c.run_untimed.ensures.within,
    )

pub run_untimed_from_spec : {M : Type 1} → statement M
run_untimed_from_spec =
    tie.close
    (tie.spec (λ c. search rules) (λ c. search rules) (λ c. search rules) (λ c. search rules) (λ c κs. search rules) (λ c. search rules)
    (λ c. search rules) (λ c. search rules) (λ c κs. search rules) (λ c. search rules) (λ c. search rules) (λ c. search rules) (λ c. search rules)
    (λ c. search rules) (λ c. search rules) (λ c. search rules) (λ c. search rules) (λ c. search rules) (λ c. search rules) (λ c. search rules)
    (λ c. search rules) (λ c κs. search rules) (λ c. search rules) (λ c. search rules) returns)
