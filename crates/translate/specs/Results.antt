-- What the answers of translate stand for: document 01's number and place. Assumes nothing.
use Rattle.std.specs.Prelude.{ℕ, ◌≤◌, List, Result, Ok, Err}
use Rattle.limits.specs.Limits.{text_limit, image_limit}
use Rattle.limits.specs.declared.Refusal.{Refusal}
use Rattle.limits.specs.Refusals.{refusal_place, stands_for}
use Rattle.translate.specs.Services.{AfterTranslation}

-- the answer, the image's length or a refusal, with the buffer that is left
abbrev pub after_translation : Result ℕ Refusal → List ℕ → AfterTranslation
after_translation r left = record { answer = stands_for r; buffer = left }

-- how large these numbers are, which the C functions pack into 64 bits
abbrev pub TranslatedWithin : Result ℕ Refusal → Type 0
TranslatedWithin (Ok n) = n ≤ image_limit
TranslatedWithin (Err e) = refusal_place e ≤ text_limit
