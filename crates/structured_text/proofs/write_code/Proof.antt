-- `structured_text::write_code` meets its contract. Assumes nothing.
use mathlib.Core.Path.{sym}
use native.Mathlib.Omega.{arith}
use lib.Seq.{length-take-le}
use borrow.Author.Rules.{rules}
use Rattle.structured_text.proofs.Service.{mirror_prepared}
use Rattle.structured_text.proofs.write_code.Statement.{statement}
use Rattle.structured_text.proofs.write_code.Tie as tie

slice-aggregate-write-mirrored : tie.Need-slice_bounds-write_mirrored-end-2
slice-aggregate-write-mirrored c = sym (length-take-le _ _ (omega (arith, c.requires.1, c.mirror.auto.out)))

write-mirrored-requires : tie.Need-write_mirrored-requires
write-mirrored-requires c κs = mirror_prepared c.requires.0 _ c.mirror.ensures

pub write_code_spec : {M : Type 1} → statement M
write_code_spec = tie.close (tie.spec (λ c κs. search rules) (λ c. search rules) slice-aggregate-write-mirrored write-mirrored-requires (λ c. search rules) (λ c. search rules) (λ c. search rules))
