-- `structured_text::write_mirrored` meets its contract. Assumes nothing.
use Prim.Native.Nat.{◌-◌}
use native.Mathlib.Omega.{arith}
use mathlib.Core.Path.{◌≡◌}
use lib.ListN.{length}
use borrow.Author.Rules.{rules}
use Rattle.st_program.specs.Written.{st_bytes}
use Rattle.structured_text.proofs.Service.{room_refused, st_written, st_translatable, st_plain, measured, printed}
use Rattle.structured_text.proofs.write_mirrored.Statement.{statement}
use Rattle.structured_text.proofs.write_mirrored.Tie as tie

print-before-requires : tie.Need-print_before-first-requires
print-before-requires c κs = let q = c.requires in (q.table, (q.among, q.long))

sub-size : tie.Need-overflow_sub-size
sub-size c =
    let q = c.requires in
    let m = measured q (c.print_before-first.ensures q.program (st_translatable q) (st_plain q) q.coded) in
    omega (arith, m)

returns : tie.Need-returns-then-out-size
returns c =
    let q = c.requires in
    let m = measured q (c.print_before-first.ensures q.program (st_translatable q) (st_plain q) q.coded) in
    let s : 115998 - c.print_before-first.result ≡ length (st_bytes q.program) = omega (arith, m) in
    room_refused _ _ q.program q.parsed q.has _ s c.if-out-size.true

print-before-requires-2 : tie.Need-print_before-requires
print-before-requires-2 c κs = let q = c.requires in (q.table, (q.among, q.long))

returns-2 : tie.Need-returns
returns-2 c =
    let q = c.requires in
    let m = measured q (c.print_before-first.ensures q.program (st_translatable q) (st_plain q) q.coded) in
    let s : 115998 - c.print_before-first.result ≡ length (st_bytes q.program) = omega (arith, m) in
    st_written _ _ q.program q.parsed q.has _ s _ c.if-out-size.false (printed q s (c.print_before.ensures q.program (st_translatable q) (st_plain q) q.coded))

pub write_mirrored_spec : {M : Type 1} → statement M
write_mirrored_spec = tie.close (tie.spec (λ c. search rules) print-before-requires sub-size returns print-before-requires-2 (λ c. search rules) returns-2)
