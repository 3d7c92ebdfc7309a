-- `leb128::last` meets its contract. Assumes nothing.
use mathlib.Core.Path.{sym}
use Prim.Native.Nat.{◌+◌, ◌*◌, ◌^◌}
use native.Mathlib.Omega.{arith}
use borrow.Author.Rules.{rules}
use borrow.Author.Tests.{lt-ltb, le-leb, lt-leb, eq-eqb, ne_eqb}
use Rattle.leb128.specs.Numbers.{below32}
use Rattle.leb128.specs.Inner.Groups.{joined_groups}
use Rattle.leb128.proofs.Laws.{low_below, joined_large}
use Rattle.leb128.proofs.last.Statement.{statement}
use Rattle.leb128.proofs.last.Tie as tie

returns : tie.Need-returns-then-v-ge4294967296
returns c =
    let a = c.args in
    sym (joined_large a.low a.scale a.b a.at 1 (omega arith))

returns-2 : tie.Need-returns-then-b-ge1
unfolding joined_groups below32
returns-2 c =
    let a = c.args in
    rw (le-leb 1 a.b (omega arith), lt-ltb (a.low + a.b * a.scale) (2 ^ 32) (omega arith))

returns-3 : tie.Need-returns-then-scale-eq1
unfolding joined_groups below32
returns-3 c =
    let a = c.args in
    rw (lt-leb 1 a.b (omega arith), eq-eqb a.scale 1 (omega arith), lt-ltb (a.low + a.b * a.scale) (2 ^ 32) (omega arith))

returns-4 : tie.Need-returns
unfolding joined_groups below32
returns-4 c =
    let a = c.args in
    rw (lt-leb 1 a.b (omega arith), ne_eqb a.scale 1 (λ e. omega arith))

pub last_spec : {M : Type 1} → statement M
last_spec = tie.close (tie.spec (λ c. omega (arith, low_below _ _ _ c.requires.0 c.requires.2)) (λ c. omega (arith, low_below _ _ _ c.requires.0 c.requires.2)) returns (λ c. search rules) returns-2 (λ c. search rules) returns-3 returns-4)
