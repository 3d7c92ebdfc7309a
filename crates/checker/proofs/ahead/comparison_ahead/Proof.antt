-- `checker::ahead::comparison_ahead` meets its contract: what it reads is a value, a constant and a comparison. Assumes nothing.
use Prim.Native.Nat.{◌+◌}
use mathlib.Core.Path.{◌≡◌, sym, ◌∙◌}
use mathlib.Core.Bool.{true, false, false≢true}
use native.Mathlib.Omega.{arith}
use lib.ListN.{get_or}
use borrow.Author.Tests.{ltb-true}
use borrow.Author.Rules.{rules}
use Rattle.arith.specs.Inner.Flags.{flags_of}
use Rattle.checker.proofs.Stretching.{previous_leads, current_leads}
use Rattle.checker.proofs.ahead.comparison_ahead.Statement.{statement}
use Rattle.checker.proofs.ahead.comparison_ahead.Tie as tie

returns-10 : tie.Need-returns-then-byte-eq3
returns-10 c =
    λ e. previous_leads c.args.code.now c.args.at c.args.w c.requires.0 c.if-code-at.false c.if-code-at-ne1.false c.if-op-lt10.false (omega (arith, c.if-op-gt15.false)) (omega (arith, c.if-code-at-gt127.false)) c.if-w-ne0.false (omega (arith, c.if-w.false))
    c.if-byte-eq3.true (omega (arith, ltb-true c.from-id.result c.args.w.names e, c.from-id.ensures))

returns-11 : tie.Need-returns
returns-11 c =
    let is : get_or c.args.code.now c.args.at 0 ≡ 2 = omega (arith, c.if-byte-lt2.false, c.if-byte-gt3.false, c.if-byte-eq3.false) in
    λ e. let known : get_or (flags_of c.args.w.names c.args.w.known) (get_or c.args.code.now (c.args.at + 1) 0) false ≡ true = rw c.from-id.ensures at (sym c.is_known.ensures ∙ e) in
    current_leads c.args.code.now c.args.at c.args.w c.requires.0 c.if-code-at.false c.if-code-at-ne1.false c.if-op-lt10.false (omega (arith, c.if-op-gt15.false)) (omega (arith, c.if-code-at-gt127.false)) c.if-w-ne0.false (omega (arith, c.if-w.false)) is known

pub comparison_ahead_spec : {M : Type 1} → statement M
comparison_ahead_spec =
    tie.close
    (tie.spec (λ c. search rules) (λ c e. absurd (false≢true e)) (λ c e. absurd (false≢true e)) (λ c. search rules)
    (λ c e. absurd (false≢true e)) (λ c. search rules) (λ c. search rules) (λ c e. absurd (false≢true e)) (λ c. search rules)
    (λ c. search rules) (λ c e. absurd (false≢true e)) (λ c e. absurd (false≢true e)) (λ c. search rules) (λ c. search rules)
    (λ c e. absurd (false≢true e)) (λ c e. absurd (false≢true e)) (λ c. search rules) (λ c e. absurd (false≢true e)) (λ c. search rules)
    (λ c. search rules) (λ c κs. search rules) returns-10 (λ c κs. search rules) returns-11)
