-- The buffer that does for every text (document 02, A.11). Assumes nothing.
use Prim.Native.Nat.{ℕ, ◌+◌, ◌*◌, ◌≤◌}
use native.Mathlib.Omega.{arith}
use mathlib.Core.Path.{◌≡◌, refl}
use mathlib.Core.List.{List, []}
use lib.ListN.{length}
use Rattle.limits.specs.Limits.{buffer_too_short, text_limit}
use Rattle.limits.specs.Answer.{accepted, refused}
use Rattle.semantics.specs.Program.{Program}
use Rattle.leb128.specs.Numbers.{number, groups, grouped}
use Rattle.lexer.specs.Lexer.{run_on, run_end, token_past, token_at}
use Rattle.lexer.specs.Token.{is, kind_number}
use Rattle.bytecode.specs.Translation.{image_of}
use Rattle.grammar.specs.Watches.{watches_from}
use Rattle.grammar.specs.Parse.{end_at, program, parse, program_of}
use Rattle.grammar.specs.Rules.{rules_from}
use Rattle.grammar.specs.Declarations.{declarations_from, declarations}
use Rattle.grammar.specs.Timers.{timers_from}
use Rattle.grammar.proofs.Accepted.{parse_growth, parse_short, program_parsed}
use Rattle.grammar.proofs.PlacesText.{program_refused, not_ten}
use Rattle.grammar.proofs.ConverseText.{accepted_exactly}
use Rattle.translate.specs.Services.{AfterTranslation, translation_of}
use Rattle.translate.proofs.Kept.{never, Way, image, no_room, fault, way}
use Rattle.correctness.specs.Buffers.{BufferBound}

-- what an accepted text and its image measure
record Measured (text : List ℕ) (p : Program) : Type 0 where
  growth : 2 * length (image_of p) ≤ 3 * length text + 4
  short : length text ≤ text_limit

measured : (text : List ℕ) (p : Program) → program_of text ≡ accepted p → Measured text p
measured text p e = let r = program_parsed text p e in record { growth = parse_growth text p r.0 r.1; short = parse_short text p r.0 r.1 }

-- 10 comes only of an accepted text whose image is longer than the buffer
too_short : (text buffer : List ℕ) → ((p : Program) → Measured text p → length (image_of p) ≤ length buffer) → (place : ℕ) → (translation_of text buffer).answer ≡ refused buffer_too_short place → ⊥
too_short text buffer fits place = go (translation_of text buffer) (way text buffer)
  where
    go : (r : AfterTranslation) → Way text buffer r → r.answer ≡ refused buffer_too_short place → ⊥
    go r (image p e h) a = never (length (image_of p)) buffer_too_short place a
    go r (no_room p e h) a = omega (arith, h, fits p (measured text p e))
    go r (fault k q e) a = let i : k ≡ buffer_too_short = cc in not_ten k (program_refused text k q e).0 i

empty_accepted : (p : Program) × (program_of [] ≡ accepted p) × (2 * length (image_of p) ≡ 4)
unfolding kind_number is run_on run_end token_past token_at number groups grouped program parse program_of rules_from watches_from end_at declarations_from declarations timers_from image_of
empty_accepted = (_, refl, refl)

pub buffer_bound : BufferBound
buffer_bound = record {
  bound = λ text p s. (measured text p (accepted_exactly.spelled_accepted text p s)).growth;
  met = record { program = empty_accepted.0; spelled = accepted_exactly.accepted_spelled [] empty_accepted.0 empty_accepted.1; size = empty_accepted.2 };
  enough = λ text buffer h. too_short text buffer (λ p m. omega (arith, h, m.growth));
  room = λ text buffer h. too_short text buffer (λ p m. omega (arith, h, m.growth, m.short));
}
