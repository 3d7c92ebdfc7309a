-- `leb128::put_unsigned` meets its contract. The loop's invariant: the groups of what is left, stored from here, make the whole.
-- Assumes nothing.
use mathlib.Core.Path.{◌≡◌, refl, ap, ◌∙◌}
use Prim.Native.Nat.{◌+◌, ◌/◌, ◌^◌, ◌<◌}
use native.Mathlib.Numerals.{add-one}
use native.Mathlib.Omega.{arith}
use lib.ListN.{length}
use lib.Seq.{sets, length-sets}
use borrow.Author.Rules.{rules}
use Rattle.leb128.specs.Numbers.{number}
use Rattle.leb128.proofs.Laws.{groups_one, groups_more, at_most_five}
use Rattle.leb128.proofs.put_unsigned.Statement.{statement}
use Rattle.leb128.proofs.put_unsigned.Tie as tie

abbrev invariant_loop : tie.invariant-loop-rest
invariant_loop out₀ at n rest₀ i₀ out rest i =
    (rest < 2 ^ 32) × (i + length (number rest) ≡ at + length (number n)) × (sets out i (number rest) ≡ sets out₀ at (number n))

abbrev decreases_loop : tie.decreases-loop-rest
decreases_loop out₀ at n rest₀ i₀ out rest i = rest

put-byte-requires : tie.Need-put_byte-i-requires invariant_loop decreases_loop
put-byte-requires c κs = omega (arith, at_most_five c.args.n, c.loop-rest.invariant.1)

loop-again : tie.Need-loop-rest-preserved invariant_loop decreases_loop
loop-again c =
    let l = c.loop-rest in
    let p = c.put_byte-i in
    let more = groups_more l.rest l.invariant.0 c.loop-rest-test.true in
    let longer : length (number l.rest) ≡ length (number (l.rest / 128)) + 1 = rw (more, add-one) in
    (omega arith, omega arith, rw (p.ensures.1, p.ensures.0, add-one) (rw more at l.invariant.2))

put-byte-requires-2 : tie.Need-put_byte-requires invariant_loop decreases_loop
put-byte-requires-2 c κs = omega (arith, at_most_five c.args.n, c.loop-rest.invariant.1)

-- the list at the end
stored : (c : tie.After-slice_known-2-1 invariant_loop decreases_loop) →
    let s = c.before.before.before.before.before.before.before in
    c.put_byte.new.out ≡ sets s.args.out.now s.args.at (number s.args.n)
stored c =
    let l = c.loop-rest in
    let e = groups_one l.rest c.loop-rest-test.false in
    c.put_byte.ensures.1 ∙ (rw e at l.invariant.2)

returns : tie.Need-returns invariant_loop decreases_loop
returns c =
    let l = c.loop-rest in
    let e = groups_one l.rest c.loop-rest-test.false in
    let one : length (number l.rest) ≡ 1 = rw e in
    (omega arith, stored c)

pub put_unsigned_spec : {M : Type 1} → statement M
put_unsigned_spec =
    tie.close
    (tie.spec invariant_loop decreases_loop (λ c. (search rules, refl, refl)) (λ c. omega arith) (λ c. omega arith) put-byte-requires (λ c. omega arith)
    loop-again (λ c. omega arith) put-byte-requires-2 (λ c. ap length (stored c) ∙ simp length-sets) returns)
