use native.Mathlib.Omega.{arith}
use mathlib.Core.Path.{ap, ◌∙◌}
use mathlib.Core.List.{List, ◌++◌}
use Rattle.trace_text.proofs.Printing.{decimal_small}
use Rattle.st_writer.proofs.Laws.{as_front, decimal_front}
use Prim.Native.Nat.{ℕ, ◌<◌}
use borrow.Fn.Kinds.{In}
use borrow.Fn.PlainCycle.{Measures, is, falls, and}
use Rattle.st_writer.proofs.decimal_before.Reads as decimal-before
use Rattle.st_writer.proofs.decimal_before.Kinds as decimal-before-kinds
use Rattle.st_writer.proofs.+decimal_before.Lts-decimal_before as decimal-before-lts
use Rattle.st_writer.proofs.byte_before.Reads as byte-before-reads
use Rattle.st_writer.proofs.+decimal_before.{statement}
use Rattle.st_writer.proofs.+decimal_before.Tie.{close}

abbrev μ_decimal_before : Measures 1 decimal-before-kinds.ps ℕ
μ_decimal_before κs a = a.1.1.0

abbrev decimal_before_at : ℕ → In 1 decimal-before-kinds.ps
decimal_before_at t =
    and
    1
    decimal-before-kinds.ps
    (is 1 decimal-before-kinds.ps μ_decimal_before t)
    decimal-before.Pre

abbrev decimal_before_below : ℕ → In 1 decimal-before-kinds.ps
decimal_before_below t =
    and
    1
    decimal-before-kinds.ps
    (falls 1 decimal-before-kinds.ps ◌<◌ μ_decimal_before t)
    decimal-before.Pre

abbrev claims : ℕ → decimal-before-lts.Claims
claims t = (byte-before-reads.Asked, byte-before-reads.Learnt, decimal_before_below t, decimal-before.Post)

decimal_before_same_length : (t : ℕ) → decimal-before-lts.Need-shape_of-out-then-n-lt10 (claims t) (decimal_before_at t) decimal-before.Post
decimal_before_same_length t c = c.byte_before.ensures.same

decimal_before_returns : (t : ℕ) → decimal-before-lts.Need-returns-then-n-lt10 (claims t) (decimal_before_at t) decimal-before.Post
decimal_before_returns t c = as_front (λ l. ap (λ (k : List ℕ). k ++ l) (decimal_small _ c.if-n-lt10.true)) c.byte_before.ensures

decimal_before_same_length_2 : (t : ℕ) → decimal-before-lts.Need-shape_of-out (claims t) (decimal_before_at t) decimal-before.Post
decimal_before_same_length_2 t c = c.decimal_before.ensures.same ∙ c.byte_before-last.ensures.same

decimal_before_returns_2 : (t : ℕ) → decimal-before-lts.Need-returns (claims t) (decimal_before_at t) decimal-before.Post
decimal_before_returns_2 t c = decimal_front _ _ _ _ _ _ _ c.if-n-lt10.false c.byte_before-last.ensures c.decimal_before.ensures

pub +decimal_before_spec : {M : Type 1} → statement M
+decimal_before_spec = close μ_decimal_before λ t. decimal-before-lts.spec (claims t)
    (decimal_before_at t) decimal-before.Post (λ c. omega arith) (λ c. omega arith) (λ c κs. tt) (decimal_before_same_length t)
    (decimal_before_returns t) (λ c. omega arith) (λ c. omega arith) (λ c κs. tt) (λ c κs. omega arith) (decimal_before_same_length_2 t)
    (decimal_before_returns_2 t)
