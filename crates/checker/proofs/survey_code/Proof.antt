-- `checker::survey_code` meets its contract: the fast walk, and where it met a timer the other one. Assumes nothing.
use Prim.Native.Nat.{◌-◌}
use mathlib.Core.Path.{subst}
use native.Mathlib.Omega.{arith}
use lib.ListN.{length, take, drop, length-drop}
use borrow.Author.Rules.{rules}
use Rattle.leb128.proofs.Stores.{rest_of}
use Rattle.checker.specs.Results.{VerdictWithin}
use Rattle.checker.proofs.Walking.{initial_small}
use Rattle.checker.proofs.Checking.{walked_sound, walked_broken}
use Rattle.checker.proofs.survey_code.Statement.{statement}
use Rattle.checker.proofs.survey_code.Tie as tie

walk-from-requires : tie.Need-walk_from-requires
walk-from-requires c κs = rw c.initial.ensures (initial_small _ _ c.requires.extends.inputs_named c.requires.extends.few)

add-t13 : tie.Need-overflow_add-result
add-t13 c =
    let w = rw (rest_of c.args.image.now c.args.place, length-drop) at (subst (VerdictWithin (length (take (length c.args.image.now - c.args.place) (drop c.args.place c.args.image.now)))) c.in-Broken.is c.walk_from.ensures.1) in
    omega (arith, w, c.requires.extends.inside, c.requires.short)

returns : tie.Need-returns-in-Sound
returns c =
    let j = rw (rest_of c.args.image.now c.args.place, c.initial.ensures, c.in-Sound.is) at c.walk_from.ensures.0 in
    walked_sound c.args.image.now c.requires.short _ _ _ c.requires j

returns-2 : tie.Need-returns-in-Broken
returns-2 c =
    let j = rw (rest_of c.args.image.now c.args.place, c.initial.ensures, c.in-Broken.is) at c.walk_from.ensures.0 in
    let w = rw (rest_of c.args.image.now c.args.place, length-drop) at (subst (VerdictWithin (length (take (length c.args.image.now - c.args.place) (drop c.args.place c.args.image.now)))) c.in-Broken.is c.walk_from.ensures.1) in
    (walked_broken c.args.image.now c.requires.short _ _ _ c.requires c.in-Broken.at j, omega (arith, w, c.requires.extends.inside, c.requires.short))

pub survey_code_spec : {M : Type 1} → statement M
survey_code_spec =
    tie.close
    (tie.spec (λ c. search rules) (λ c. search rules) (λ c. search rules) (λ c κs. search rules) walk-from-requires (λ c. search rules)
    (λ c. search rules) add-t13 (λ c. search rules) (λ c κs. search rules) returns returns-2 (λ c. search rules))
