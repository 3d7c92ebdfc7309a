-- The answer of a service as one 64-bit number (`packed`): the refusal's number · 2 ^ 56 + its place · 2 ^ 24 + a count. A success has
-- number and place 0, but that of charge is its sum; the calls of a scan in instalments answer `packed_response`. Assumes nothing.
use Rattle.std.specs.Prelude.{ℕ, ◌+◌, ◌*◌}
use Rattle.limits.specs.Answer.{Answer, accepted, refused}
use Rattle.scan.specs.Services.{AfterScan}
use Rattle.charge.specs.Charge.{Charge}
use Rattle.paused.specs.Responses.{packed}

-- translate, structured_text, replay and watch: the count is the length of what is written, or that of the watches; a refusal has count 0
abbrev pub packed_translation : Answer ℕ → ℕ
packed_translation (accepted length) = packed 0 0 length
packed_translation (refused number place) = packed number place 0

-- check, start, clock, closed, its parts and combination: success is 0 as a whole; a refusal has count 0
abbrev pub packed_check : Answer (Unit {0}) → ℕ
packed_check (accepted a) = 0
packed_check (refused number place) = packed number place 0

-- scan: the count is the steps, of a refusal too
abbrev pub packed_steps : Answer (Unit {0}) → ℕ → ℕ
packed_steps (accepted a) steps = packed 0 0 steps
packed_steps (refused number place) steps = packed number place steps

abbrev pub packed_scan : AfterScan → ℕ
packed_scan r = packed_steps r.answer r.steps

-- charge: the exact sum in sixtieths of a cent; a refusal has count 0. The two never meet (proofs: Charges)
abbrev pub packed_charge : Answer Charge → ℕ
packed_charge (accepted c) = 60 * c.cents + c.sixtieths
packed_charge (refused number place) = packed number place 0
