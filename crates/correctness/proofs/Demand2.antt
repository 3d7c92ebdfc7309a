-- Demand 2, for every text, buffer and image. Assumes nothing.
use Prim.Native.Nat.{ℕ, ◌+◌, ◌*◌, ◌≤◌}
use native.Mathlib.Omega.{arith}
use mathlib.Core.Path.{◌≡◌, refl, ap}
use mathlib.Core.List.{List, ◌++◌}
use lib.ListN.{length, take, drop}
use borrow.Author.Tests.{le-leb, lt-leb}
use Rattle.limits.specs.Limits.{buffer_too_short}
use Rattle.limits.specs.Answer.{accepted, refused}
use Rattle.semantics.specs.Program.{Program}
use Rattle.bytecode.specs.Translation.{image_of}
use Rattle.bytecode.specs.Sound.{Sound}
use Rattle.bytecode.proofs.Images.{check_exact, translated_sound}
use Rattle.grammar.specs.Parse.{program_of}
use Rattle.grammar.specs.Spelled.{Spelled}
use Rattle.grammar.proofs.Accepted.{parse_growth, program_parsed, program_translatable}
use Rattle.grammar.proofs.PlacesText.{program_refused}
use Rattle.grammar.proofs.ConverseText.{accepted_exactly, one_meaning}
use Rattle.faults.proofs.TextPlaces.{fault_places}
use Rattle.faults.proofs.FirstFound.{first_found}
use Rattle.faults.proofs.ViableText.{allowed_before}
use Rattle.faults.proofs.SoleText.{none_go_on}
use Rattle.faults.proofs.NoneBegun.{none_begun}
use Rattle.faults.proofs.ImagePlaces.{broken_images}
use Rattle.translate.specs.Services.{AfterTranslation, translation_of}
use Rattle.translate.proofs.Kept.{never, Way, image, no_room, fault, way, Stored, image_stored, stored_image}
use Rattle.correctness.specs.Demand2.{Translates, Declines, faulty, short, Demand2, Refusals}

module _ (text buffer : List ℕ) where
  -- why a translation was refused, and that it left the buffer
  refusal_declines : (number place : ℕ) → (translation_of text buffer).answer ≡ refused number place → Declines program_of text buffer number place × ((translation_of text buffer).buffer ≡ buffer)
  refusal_declines number place = go (translation_of text buffer) (way text buffer)
    where
      go : (r : AfterTranslation) → Way text buffer r → r.answer ≡ refused number place → Declines program_of text buffer number place × (r.buffer ≡ buffer)
      go r (image p e h) a = never (length (image_of p)) number place a
      go r (no_room p e h) a =
          let k : buffer_too_short ≡ number = cc in
          let q : length text ≡ place = cc in
          (rw (← k, ← q) (short p (accepted_exactly.accepted_spelled text p e) h), refl)
      go r (fault k q e) a = let i : k ≡ number = cc in let j : q ≡ place = cc in (rw (← i, ← j) (faulty k q e), refl)

  declines_refused : (number place : ℕ) → Declines program_of text buffer number place → (translation_of text buffer).answer ≡ refused number place
  unfolding translation_of
  declines_refused number place (faulty k q e) = rw e
  declines_refused number place (short p s h) = rw (accepted_exactly.spelled_accepted text p s, lt-leb (length (image_of p)) (length buffer) h)

  stored_translates : (n : ℕ) → Stored text buffer n → Translates text buffer n
  stored_translates n x = record { program = x.program; spelled = accepted_exactly.accepted_spelled text x.program x.parsed; size = x.size; fits = x.fits }

  translates_accepted : (n : ℕ) → Translates text buffer n → (translation_of text buffer).answer ≡ accepted n
  unfolding translation_of
  translates_accepted n x =
      let r : length (image_of x.program) ≤ length buffer = omega (arith, x.size, x.fits) in
      rw (accepted_exactly.spelled_accepted text x.program x.spelled, le-leb (length (image_of x.program)) (length buffer) r) (ap accepted x.size)

  -- the program found is the one that the text spells
  written : (n : ℕ) → (translation_of text buffer).answer ≡ accepted n → (p : Program) → Spelled text p → (translation_of text buffer).buffer ≡ image_of p ++ drop (length (image_of p)) buffer
  written n a p s =
      let x = image_stored text buffer n a in
      rw (one_meaning text p x.program s (accepted_exactly.accepted_spelled text x.program x.parsed)) x.left

  written_sound : (n : ℕ) → (translation_of text buffer).answer ≡ accepted n → Sound (take n (translation_of text buffer).buffer)
  written_sound n a =
      let x = image_stored text buffer n a in
      rw (stored_image text buffer n x) (translated_sound x.program (program_translatable text x.program x.parsed))

  growth : (n : ℕ) → (translation_of text buffer).answer ≡ accepted n → 2 * n ≤ 3 * length text + 4
  growth n a =
      let x = image_stored text buffer n a in
      let r = program_parsed text x.program x.parsed in
      rw (← x.size) (parse_growth text x.program r.0 r.1)

-- ---- the claim

pub demand_2 : Demand2
demand_2 = record {
  accepted_exactly = λ text p. record { only_if = accepted_exactly.accepted_spelled text p; whenever = accepted_exactly.spelled_accepted text p };
  one_meaning = one_meaning;
  translated_exactly = λ text buffer n. record { only_if = λ a. stored_translates text buffer n (image_stored text buffer n a); whenever = translates_accepted text buffer n };
  refused_exactly = λ text buffer number place. record { only_if = λ a. (refusal_declines text buffer number place a).0; whenever = declines_refused text buffer number place };
  faults = program_refused;
  written = written;
  untouched = λ text buffer number place a. (refusal_declines text buffer number place a).1;
  checked_exactly = λ image. record { only_if = (check_exact image).accepted_sound; whenever = (check_exact image).sound_accepted };
  written_sound = written_sound;
  written_checked = λ text buffer n a. (check_exact (take n (translation_of text buffer).buffer)).sound_accepted (written_sound text buffer n a);
  growth = growth;
}

pub refusals : Refusals
refusals = record {
  fault_places = fault_places;
  first_found = first_found;
  allowed_before = allowed_before;
  none_go_on = none_go_on;
  none_begun = none_begun;
  broken_images = broken_images;
}
