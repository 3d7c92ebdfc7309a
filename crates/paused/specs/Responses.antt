-- The answer of a call as one 64-bit number: the refusal's number · 2 ^ 56 + its place · 2 ^ 24 + a count. Assumes nothing.
use Rattle.std.specs.Prelude.{ℕ, ◌+◌, ◌*◌, ◌^◌, ◌≤◌}
use Rattle.limits.specs.Limits.{unfinished_number, idle_number}
use Rattle.paused.specs.declared.Response.{Response}
use Rattle.paused.specs.declared.Response.TheVariants as R

abbrev pub packed : ℕ → ℕ → ℕ → ℕ
packed number place count = number * 2 ^ 56 + place * 2 ^ 24 + count

-- the count is the steps, of a refusal too; unfinished and idle have numbers that no refusal has
abbrev pub packed_response : Response → ℕ
packed_response (R.Done n) = packed 0 0 n
packed_response (R.Refused number place n) = packed number place n
packed_response (R.Unfinished n) = packed unfinished_number 0 n
packed_response R.Idle = packed idle_number 0 0

-- the steps that an answer tells
abbrev pub steps_in : Response → ℕ
steps_in (R.Done n) = n
steps_in (R.Refused number place n) = n
steps_in (R.Unfinished n) = n
steps_in R.Idle = 0

-- how large the numbers of an answer are
abbrev pub ResponseWithin : ℕ → Response → Type 0
ResponseWithin most (R.Done n) = n ≤ most
ResponseWithin most (R.Refused number place n) = (place ≤ most) × (n ≤ most)
ResponseWithin most (R.Unfinished n) = n ≤ most
ResponseWithin most R.Idle = Unit {0}
