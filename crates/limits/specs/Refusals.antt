-- The refusals that the code answers, by the documents' numbers. Document 01, "Who can cause which refusal". Assumes nothing.
use Rattle.std.specs.Prelude.{ℕ, Result, Ok, Err}
use Rattle.limits.specs.Answer.{Answer, accepted, refused}
use Rattle.limits.specs.Limits.{no_token, not_allowed, out_of_limit, wrong_name, too_early, wrong_rule, lists_differ, too_many, too_long, buffer_too_short, broken_image, wrong_length, input_out_of_range, overflow, second_true_case, equal_to_previous, value_out_of_range, state_out_of_range, broken_table, minute_out_of_limit, not_in_st, wrong_direction, wrong_timer, state_differs, out_of_share, not_small, not_closed, not_chargeable, charge_too_large, too_many_watches}
use Rattle.limits.specs.declared.Refusal.{Refusal}
use Rattle.limits.specs.declared.Refusal.TheVariants.{NoToken, NotAllowed, OutOfLimit, WrongName, TooEarly, WrongRule, ListsDiffer, TooMany, TooLong, BufferTooShort, BrokenImage, WrongLength, InputOutOfRange, Overflow, SecondTrueCase, EqualToPrevious, ValueOutOfRange, StateOutOfRange, BrokenTable, MinuteOutOfLimit, NotInSt, WrongDirection, WrongTimer, StateDiffers, OutOfShare, NotSmall, NotClosed, NotChargeable, ChargeTooLarge, TooManyWatches}

-- its number
abbrev pub refusal_number : Refusal → ℕ
refusal_number (NoToken at) = no_token
refusal_number (NotAllowed at) = not_allowed
refusal_number (OutOfLimit at) = out_of_limit
refusal_number (WrongName at) = wrong_name
refusal_number (TooEarly at) = too_early
refusal_number (WrongRule at) = wrong_rule
refusal_number (ListsDiffer at) = lists_differ
refusal_number (TooMany at) = too_many
refusal_number TooLong = too_long
refusal_number (BufferTooShort at) = buffer_too_short
refusal_number (BrokenImage at) = broken_image
refusal_number WrongLength = wrong_length
refusal_number InputOutOfRange = input_out_of_range
refusal_number Overflow = overflow
refusal_number SecondTrueCase = second_true_case
refusal_number EqualToPrevious = equal_to_previous
refusal_number ValueOutOfRange = value_out_of_range
refusal_number StateOutOfRange = state_out_of_range
refusal_number BrokenTable = broken_table
refusal_number MinuteOutOfLimit = minute_out_of_limit
refusal_number (NotInSt at) = not_in_st
refusal_number WrongDirection = wrong_direction
refusal_number (WrongTimer at) = wrong_timer
refusal_number StateDiffers = state_differs
refusal_number OutOfShare = out_of_share
refusal_number NotSmall = not_small
refusal_number (NotClosed at) = not_closed
refusal_number NotChargeable = not_chargeable
refusal_number ChargeTooLarge = charge_too_large
refusal_number (TooManyWatches at) = too_many_watches

-- the place that it names; a refusal without a place has place 0
abbrev pub refusal_place : Refusal → ℕ
refusal_place (NoToken at) = at
refusal_place (NotAllowed at) = at
refusal_place (OutOfLimit at) = at
refusal_place (WrongName at) = at
refusal_place (TooEarly at) = at
refusal_place (WrongRule at) = at
refusal_place (ListsDiffer at) = at
refusal_place (TooMany at) = at
refusal_place TooLong = 0
refusal_place (BufferTooShort at) = at
refusal_place (BrokenImage at) = at
refusal_place WrongLength = 0
refusal_place InputOutOfRange = 0
refusal_place Overflow = 0
refusal_place SecondTrueCase = 0
refusal_place EqualToPrevious = 0
refusal_place ValueOutOfRange = 0
refusal_place StateOutOfRange = 0
refusal_place BrokenTable = 0
refusal_place MinuteOutOfLimit = 0
refusal_place (NotInSt at) = at
refusal_place WrongDirection = 0
refusal_place (WrongTimer at) = at
refusal_place StateDiffers = 0
refusal_place OutOfShare = 0
refusal_place NotSmall = 0
refusal_place (NotClosed at) = at
refusal_place NotChargeable = 0
refusal_place ChargeTooLarge = 0
refusal_place (TooManyWatches at) = at

-- the answer that a result stands for
abbrev pub stands_for : {A : Type 0} → Result A Refusal → Answer A
stands_for (Ok a) = accepted a
stands_for (Err e) = refused (refusal_number e) (refusal_place e)

-- the same of a result that holds more than the answer says
abbrev pub judged_by : {A : Type 0} → Result A Refusal → Answer (Unit {0})
judged_by (Ok a) = accepted tt
judged_by (Err e) = refused (refusal_number e) (refusal_place e)
