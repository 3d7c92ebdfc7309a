-- `fused::ahead::pair_ahead` meets its contract: what it reads is a value, a constant, and an operation or comparison on the two. Assumes nothing.
use Prim.Native.Nat.{◌+◌}
use mathlib.Core.Path.{◌≡◌, sym, ◌∙◌}
use mathlib.Core.Bool.{true, false}
use native.Mathlib.Nat.{lt_of_lt_of_le}
use native.Mathlib.Omega.{arith}
use lib.IntN.{pos}
use lib.ListN.{get_or}
use mir.Val.{SFits}
use mir.Syntax.{w32}
use mir.Facts.{to_z-of_z}
use borrow.Author.Tests.{not-false}
use borrow.Author.Rules.{rules}
use Rattle.arith.specs.Inner.Flags.{flags_of}
use Rattle.leb128.specs.Numbers.{unzigzag}
use Rattle.semantics.specs.Formula.{at as value_at}
use Rattle.fused.specs.Inner.Leaps.{FoundBy}
use Rattle.fused.proofs.Leaping.{previous_sees, current_sees}
use Rattle.fused.proofs.ahead.pair_ahead.Statement.{statement}
use Rattle.fused.proofs.ahead.pair_ahead.Tie as tie

shared-slice-copy-out-found : tie.Need-bounds-prev-i
shared-slice-copy-out-found c = lt_of_lt_of_le c.if-w-id.false c.requires.2

returns-10 : tie.Need-returns-then-byte-eq3
returns-10 c =
    let a = c.args in
    let code = a.code.now in
    let i = c.from-id.ensures in
    let n = c.from-n.ensures in
    let fx : SFits w32 (get_or a.prev.now c.from-id.result (pos 0)) = search rules in
    let fy : SFits w32 c.unzigzag.result = search rules in
    let f : FoundBy a.w (get_or code (a.at + 4) 0) (value_at a.prev.now (get_or code (a.at + 1) 0)) (unzigzag (get_or code (a.at + 3) 0)) c.found.result =
    rw (to_z-of_z fx, to_z-of_z fy, c.unzigzag.ensures, i, n) at c.found.ensures in
    previous_sees code a.prev.now a.cur.now a.at a.w c.requires.0 c.if-code-at.false c.if-code-at-ne1.false
    (omega (arith, c.if-w-id.false, i)) (omega (arith, c.if-n-gt127.false, n)) (omega (arith, c.if-w.false)) c.if-byte-eq3.true c.found.result f

is-known-requires : tie.Need-is_known-requires
is-known-requires c κs = c.requires.0

shared-slice-copy-out-found-2 : tie.Need-bounds-cur-i
shared-slice-copy-out-found-2 c = lt_of_lt_of_le c.if-w-id.false c.requires.3

returns-12 : tie.Need-returns
returns-12 c =
    let a = c.args in
    let code = a.code.now in
    let i = c.from-id.ensures in
    let n = c.from-n.ensures in
    let fx : SFits w32 (get_or a.cur.now c.from-id.result (pos 0)) = search rules in
    let fy : SFits w32 c.unzigzag-2.result = search rules in
    let f : FoundBy a.w (get_or code (a.at + 4) 0) (value_at a.cur.now (get_or code (a.at + 1) 0)) (unzigzag (get_or code (a.at + 3) 0)) c.found-2.result =
    rw (to_z-of_z fx, to_z-of_z fy, c.unzigzag-2.ensures, i, n) at c.found-2.ensures in
    let is : get_or code a.at 0 ≡ 2 = omega (arith, c.if-byte-lt2.false, c.if-byte-gt3.false, c.if-byte-eq3.false) in
    let known : get_or (flags_of a.w.names a.w.known) (get_or code (a.at + 1) 0) false ≡ true = rw i at (sym c.is_known.ensures ∙ not-false _ c.if-not-is_known.false-raw) in
    current_sees code a.prev.now a.cur.now a.at a.w c.requires.0 c.if-code-at.false c.if-code-at-ne1.false
    (omega (arith, c.if-w-id.false, i)) (omega (arith, c.if-n-gt127.false, n)) (omega (arith, c.if-w.false)) is known c.found-2.result f

pub pair_ahead_spec : {M : Type 1} → statement M
pair_ahead_spec =
    tie.close
    (tie.spec (λ c. search rules) (λ c. search rules) (λ c. search rules) (λ c. search rules) (λ c. search rules) (λ c. search rules) (λ c. search rules) (λ c. search rules)
    (λ c. search rules) (λ c. search rules) (λ c. search rules) (λ c. search rules) (λ c. search rules) (λ c. search rules) (λ c κs. search rules) (λ c. search rules)
    (λ c. search rules) (λ c. search rules) (λ c κs. search rules) (λ c. search rules) (λ c. search rules) (λ c. search rules)
    (λ c. search rules) shared-slice-copy-out-found (λ c κs. search rules) (λ c κs. search rules) returns-10 is-known-requires (λ c. search rules) (λ c. search rules) shared-slice-copy-out-found-2
    (λ c κs. search rules) (λ c κs. search rules) returns-12)
