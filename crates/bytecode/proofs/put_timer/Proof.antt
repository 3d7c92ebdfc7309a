-- `bytecode::put_timer` meets its contract: three runs of stores make one. Assumes nothing.
use Prim.Native.Nat.{ℕ, ◌+◌}
use native.Mathlib.Omega.{arith}
use mathlib.Core.Path.{◌≡◌, ◌∙◌, sym}
use mathlib.Core.List.{List, ◌∷◌, ◌++◌}
use borrow.Author.Rules.{rules}
use lib.ListN.{length, length-append}
use lib.Seq.{sets}
use Rattle.leb128.specs.Numbers.{number}
use Rattle.leb128.proofs.Laws.{at_most_five}
use Rattle.leb128.proofs.Stores.{sets_append}
use Rattle.bytecode.specs.Instructions.{timer, encode}
use Rattle.bytecode.proofs.put_timer.Statement.{statement}
use Rattle.bytecode.proofs.put_timer.Tie as tie

three_runs : (t w n to a b r : ℕ) (out o₁ o₂ o₃ : List ℕ) → (a ≡ to + length (23 ∷ number t)) × (o₁ ≡ sets out to (23 ∷ number t)) → (b ≡ a + length (number w)) × (o₂ ≡ sets o₁ a (number w))
    → (r ≡ b + length (number n)) × (o₃ ≡ sets o₂ b (number n)) → (r ≡ to + length (encode (timer t w n))) × (o₃ ≡ sets out to (encode (timer t w n)))
three_runs t w n to a b r out o₁ o₂ o₃ p q x =
    let l = length-append (number t) (number w ++ number n) in
    let m = length-append (number w) (number n) in
    let two : b ≡ a + length (number w) = q.0 in
    let y : o₃ ≡ sets o₁ a (number w ++ number n) = x.1 ∙ rw (q.1, q.0) (sym (sets_append o₁ a (number w) (number n))) in
    (omega (arith, p.0, q.0, x.0), y ∙ rw (p.1, p.0) (sym (sets_append out to (23 ∷ number t) (number w ++ number n))))

put-unsigned-requires : tie.Need-put_unsigned-b-requires
put-unsigned-requires c κs = (omega (arith, at_most_five c.args.t, c.requires.0, c.put_instruction-a.ensures.0), c.requires.2)

put-unsigned-requires-2 : tie.Need-put_unsigned-requires
put-unsigned-requires-2 c κs = (omega (arith, at_most_five c.args.t, at_most_five c.args.w, c.requires.0, c.put_instruction-a.ensures.0, c.put_unsigned-b.ensures.0), c.requires.3)

returns : tie.Need-returns
returns c =
    three_runs c.args.t c.args.w c.args.n c.args.to _ _ _ c.args.out.now _ _ _ c.put_instruction-a.ensures c.put_unsigned-b.ensures c.put_unsigned.ensures

pub put_timer_spec : {M : Type 1} → statement M
put_timer_spec = tie.close (tie.spec (λ c κs. search rules) put-unsigned-requires put-unsigned-requires-2 (λ c. search rules) returns)
