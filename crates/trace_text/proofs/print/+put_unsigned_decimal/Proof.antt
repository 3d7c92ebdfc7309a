-- `trace_text::print::put_unsigned_decimal` meets its contract. It calls itself with the number without its last digit; the measure is the
-- number. Assumes nothing.
use Prim.Native.Nat.{ℕ, ◌<◌}
use native.Mathlib.Omega.{arith}
use borrow.Author.Rules.{rules}
use borrow.Fn.Kinds.{In}
use borrow.Fn.PlainCycle.{Measures, is, falls, and}
use Rattle.trace_text.proofs.Puts.{put_then}
use Rattle.trace_text.proofs.Printing.{decimal_small, decimal_more}
use Rattle.trace_text.proofs.print.put_unsigned_decimal.Reads as reads
use Rattle.trace_text.proofs.print.put_unsigned_decimal.Kinds as kinds
use Rattle.trace_text.proofs.print.+put_unsigned_decimal.Lts-put_unsigned_decimal as lts
use Rattle.trace_text.proofs.print.put_byte.Reads as put-byte-reads
use Rattle.trace_text.proofs.print.+put_unsigned_decimal.{statement}
use Rattle.trace_text.proofs.print.+put_unsigned_decimal.Tie.{close}

abbrev μ : Measures 1 kinds.ps ℕ
μ κs a = a.1.1.0

abbrev at : ℕ → In 1 kinds.ps
at t = and 1 kinds.ps (is 1 kinds.ps μ t) reads.Pre

abbrev below : ℕ → In 1 kinds.ps
below t = and 1 kinds.ps (falls 1 kinds.ps ◌<◌ μ t) reads.Pre

abbrev claims : ℕ → lts.Claims
claims t = (put-byte-reads.Asked, put-byte-reads.Learnt, below t, reads.Post)

returns : (t : ℕ) → lts.Need-returns-then-n-lt10 (claims t) (at t) reads.Post
returns t c =
    let k = c.before.before.before.before in
    rw (decimal_small k.args.n k.if-n-lt10.true) c.put_byte.ensures

returns-2 : (t : ℕ) → lts.Need-returns (claims t) (at t) reads.Post
returns-2 t c =
    let k = c.before.before.before.before.before.before in
    let s = k.before.before in
    rw (decimal_more s.args.n s.if-n-lt10.false) (put_then k.put_unsigned_decimal-next.ensures c.put_byte-2.ensures)

pub +put_unsigned_decimal_spec : {M : Type 1} → statement M
+put_unsigned_decimal_spec =
    close μ λ t. lts.spec (claims t) (at t) reads.Post
    (λ c. omega arith) (λ c. omega arith) (λ c κs. tt) (λ c. search rules) (returns t) (λ c κs. omega arith) (λ c. omega arith)
    (λ c. omega arith) (λ c κs. tt) (λ c. search rules) (returns-2 t)
