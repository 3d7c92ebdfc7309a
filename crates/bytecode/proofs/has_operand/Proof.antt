-- `bytecode::has_operand` meets its contract. Assumes nothing.
use Prim.Native.Nat.{ℕ, ◌≤◌, ◌<◌}
use mathlib.Core.Path.{◌≡◌}
use mathlib.Core.Bool.{true, false, ◌&&◌}
use native.Mathlib.Omega.{arith}
use lib.Dec.{leb}
use borrow.Author.Tests.{le-leb, lt-leb}
use Rattle.bytecode.specs.Instructions.{has_operand}
use Rattle.bytecode.proofs.has_operand.Statement.{statement}
use Rattle.bytecode.proofs.has_operand.Tie as tie

module _ (low high code : ℕ) where
  among : low ≤ code → code ≤ high → (leb low code && leb code high) ≡ true
  among l h = rw (le-leb low code l, le-leb code high h)

  below : code < low → (leb low code && leb code high) ≡ false
  below h = rw (lt-leb low code h)

  beyond : low ≤ high → high < code → (leb low code && leb code high) ≡ false
  beyond l h = rw (le-leb low code (omega arith), lt-leb code high h)

pub has_operand_spec : {M : Type 1} → statement M
unfolding has_operand
has_operand_spec =
    tie.close
    (tie.spec (λ c. rw (among 1 3 c.args.code (omega arith) (omega arith)))
    (λ c. rw (beyond 1 3 c.args.code (omega arith) (omega arith), among 20 22 c.args.code (omega arith) (omega arith)))
    (λ c. let n = c.args.code in rw (beyond 1 3 n (omega arith) (omega arith), beyond 20 22 n (omega arith) (omega arith), among 24 25 n (omega arith) (omega arith)))
    (λ c. let n = c.args.code in rw (below 1 3 n (omega arith), below 20 22 n (omega arith), below 24 25 n (omega arith)))
    (λ c. let n = c.args.code in rw (beyond 1 3 n (omega arith) (omega arith), below 20 22 n (omega arith), below 24 25 n (omega arith)))
    (λ c. let n = c.args.code in rw (beyond 1 3 n (omega arith) (omega arith), beyond 20 22 n (omega arith) (omega arith), below 24 25 n (omega arith)))
    (λ c. let n = c.args.code in rw (beyond 1 3 n (omega arith) (omega arith), beyond 20 22 n (omega arith) (omega arith), beyond 24 25 n (omega arith) (omega arith))))
