-- `structured_text::reserved::reserved_place` meets its contract. The loop's invariant: the rest of the walk finds the place; the measure is what is left of the text. Assumes nothing.
use mathlib.Core.Path.{sym, ◌∙◌}
use Prim.Native.Nat.{◌-◌}
use native.Mathlib.Omega.{arith}
use lib.ListN.{length}
use borrow.Author.Rules.{rules}
use Rattle.lexer.specs.Token.{kind_number, ending}
use Rattle.lexer.proofs.Tokens.{is_token, is_fault}
use Rattle.lexer.proofs.KindNumbers.{kind_is, kind_is_not}
use Rattle.structured_text.proofs.Walk.{Walking, walking, walk_fault, walk_end, walk_here, walk_next}
use Rattle.structured_text.proofs.reserved.reserved_place.Statement.{statement}
use Rattle.structured_text.proofs.reserved.reserved_place.Tie as tie

abbrev invariant_loop : tie.invariant-loop-token
invariant_loop text at₀ named₀ at named = Walking text named at

abbrev decreases_loop : tie.decreases-loop-token
decreases_loop text at₀ named₀ at named = length text - at

returns : tie.Need-returns-in_default invariant_loop decreases_loop
returns c = walk_fault c.loop-token.invariant _ (is_fault _ _ _ c.token_at-read.ensures _ c.in_default.is).0

returns-2 : tie.Need-returns-then-token-eq-END invariant_loop decreases_loop
unfolding kind_number
returns-2 c = walk_end c.loop-token.invariant _ _ _ (is_token _ _ _ c.token_at-read.ensures _ c.in-Ok.is).0 (kind_is _ ending c.if-token-eq-END.true)

is-outside-requires : tie.Need-is_outside-requires invariant_loop decreases_loop
is-outside-requires c κs = (is_token _ _ _ c.token_at-read.ensures _ c.in-Ok.is).1.known_kind

returns-3 : tie.Need-returns-then-is_outside invariant_loop decreases_loop
unfolding kind_number
returns-3 c =
    let t = is_token _ _ _ c.token_at-read.ensures _ c.in-Ok.is in
    walk_here c.loop-token.invariant _ _ _ t.0 (kind_is_not _ ending t.1.known_kind c.if-token-eq-END.false) (sym c.is_outside.ensures ∙ c.if-is_outside.true)

declares-name-requires : tie.Need-declares_name-named-requires invariant_loop decreases_loop
declares-name-requires c κs = (is_token _ _ _ c.token_at-read.ensures _ c.in-Ok.is).1.known_kind

loop-less : tie.Need-loop-token-smaller invariant_loop decreases_loop
loop-less c =
    let t = is_token _ _ _ c.token_at-read.ensures _ c.in-Ok.is in
    let m = t.1.moved c.if-token-eq-END.false in
    let l = t.1.within c.loop-token.invariant.inside in
    omega (arith, m, l, t.1.after)

loop-again : tie.Need-loop-token-preserved invariant_loop decreases_loop
unfolding kind_number
loop-again c =
    let t = is_token _ _ _ c.token_at-read.ensures _ c.in-Ok.is in
    let m = t.1.moved c.if-token-eq-END.false in
    let n = walk_next c.loop-token.invariant _ _ _ t.0 (kind_is_not _ ending t.1.known_kind c.if-token-eq-END.false) (sym c.is_outside.ensures ∙ c.if-is_outside.false) (omega (arith, m, t.1.after)) (t.1.within c.loop-token.invariant.inside) in
    rw c.declares_name-named.ensures n

pub reserved_place_spec : {M : Type 1} → statement M
reserved_place_spec =
    tie.close
    (tie.spec invariant_loop decreases_loop (λ c. walking _) (λ c κs. search rules) (λ c. search rules) (λ c. search rules) returns returns-2 is-outside-requires returns-3 declares-name-requires loop-less loop-again)
