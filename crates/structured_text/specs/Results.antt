-- What the answers of the writer stand for: document 01's number and place. Assumes nothing.
use Rattle.std.specs.Prelude.{ℕ, ◌≤◌, List, Result, Ok, Err}
use Rattle.limits.specs.Limits.{text_limit}
use Rattle.limits.specs.declared.Refusal.{Refusal}
use Rattle.limits.specs.Refusals.{refusal_place, stands_for}
use Rattle.translate.specs.Services.{AfterTranslation}
use Rattle.structured_text.specs.Room.{st_room}

-- the answer, the length of the Structured Text or a refusal, with the buffer that is left
abbrev pub after_writing : Result ℕ Refusal → List ℕ → AfterTranslation
after_writing r left = record { answer = stands_for r; buffer = left }

-- how large these numbers are, which the C functions pack into 64 bits
abbrev pub WrittenWithin : Result ℕ Refusal → Type 0
WrittenWithin (Ok n) = n ≤ st_room
WrittenWithin (Err e) = refusal_place e ≤ text_limit
