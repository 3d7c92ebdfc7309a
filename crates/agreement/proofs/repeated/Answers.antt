-- `agreement::repeated` meets its contract: only what it finds speaks. Assumes nothing.
use mathlib.Core.Path.{sym, ◌∙◌}
use native.Mathlib.Omega.{arith}
use Rattle.lexer.proofs.Same.{same_bytes_lem}
use Rattle.grammar.proofs.Repeated.{part_repeated}
use Rattle.agreement.proofs.repeated.Goals as goal

-- the bytes were found again: the two runs of space end where the part and its repetition begin
pub returns-then-same_bytes : goal.returns-then-same_bytes
returns-then-same_bytes c =
    let same = sym c.name.ensures ∙ same_bytes_lem _ _ (sym c.same_bytes.ensures ∙ c.if-same_bytes.true) ∙ c.name-2.ensures in
    λ r. part_repeated _ _ _ _ _ _ c.run-first.ensures c.run-second.ensures (omega (arith, c.if-to-first.false)) c.requires (omega (arith, c.if-text-size.false, c.requires)) r c.if-text-last-ne93.false same
