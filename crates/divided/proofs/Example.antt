-- Worked calls from a memory of zeros: L2 of document 01 in instalments of 3 and 9, with a finish after each; and a timer of document 02, A.7, with rows posted
-- between its instalments. Assumes nothing.
use Prim.Native.Nat.{ℕ}
use mathlib.Core.Path.{◌≡◌, refl, ◌∙◌}
use mathlib.Core.List.{List, [], ◌∷◌}
use mathlib.Core.Option.{none}
use lib.IntN.{ℤ, pos}
use lib.ListN.{replicate}
use Rattle.limits.specs.Limits.{paused_length}
use Rattle.arith.specs.Values.{arithmetic, negation, compares}
use Rattle.semantics.specs.Program.{is_binary, within}
use Rattle.semantics.specs.Shape.{elapsed, due, timed}
use Rattle.semantics.specs.ReferenceScan.{moves, picked}
use Rattle.leb128.specs.Numbers.{unzigzag, number_at, signed_at, groups, grouped, number_in, below32}
use Rattle.bytecode.specs.Instructions.{instruction_of, has_operand, fetch_one, timer_at, fetch}
use Rattle.bytecode.specs.Check.{is_timer_range, check_counts, check_range, check_header, check_body, check_of}
use Rattle.bytecode.specs.Parts.{header_of, code_of, limits_of}
use Rattle.machine.specs.Step.{bit, yes}
use Rattle.scan.specs.Services.{scan_code, scan_of}
use Rattle.paused.specs.declared.Response.TheVariants as R
use Rattle.paused.specs.Memory.{clipped, checkpoint_of, waiting_length, waiting_of}
use Rattle.divided.specs.Expected.{Call, post, begin, advance_scan, finish, Said, says, says_leaving, play, expected_said}
use Rattle.divided.proofs.Undivided.{as_undivided}

abbrev latch : List ℕ
latch = 0 ∷ 1 ∷ 0 ∷ 2 ∷ 0 ∷ 3 ∷ 0 ∷ 1 ∷ 0 ∷ 10 ∷ 19 ∷ 1 ∷ 2 ∷ 20 ∷ 0 ∷ 22 ∷ 0 ∷ []

abbrev zeros : List ℤ
zeros = replicate paused_length (pos 0)

abbrev calls : List Call
calls =
    post latch [] ∷ begin latch (pos 0 ∷ []) ∷ advance_scan 3 ∷ finish (pos 0 ∷ []) ∷ advance_scan 9 ∷ finish (pos 1 ∷ []) ∷ finish (pos 0 ∷ [])
    ∷ finish (pos 1 ∷ []) ∷ []

abbrev answers : List Said
answers =
    says (R.Done 0) ∷ says (R.Done 0) ∷ says (R.Done 3) ∷ says_leaving (R.Unfinished 0) (pos 0 ∷ []) ∷ says (R.Done 4) ∷ says_leaving (R.Refused 24 0 0) (pos 1 ∷ [])
    ∷ says_leaving (R.Done 7) (pos 1 ∷ [])
    ∷ says_leaving R.Idle (pos 1 ∷ []) ∷ []

-- what is expected, computed
latch_expected : expected_said calls (waiting_of zeros) none ≡ answers
unfolding unzigzag grouped groups number_in below32 number_at signed_at instruction_of has_operand fetch_one timer_at fetch check_counts check_range check_header check_body check_of header_of code_of limits_of bit yes within moves picked arithmetic negation compares scan_code scan_of clipped waiting_length waiting_of
latch_expected = refl

no_scan : (checkpoint_of zeros).phase ≡ 0
unfolding clipped checkpoint_of
no_scan = refl

pub latch_divided : play calls [] zeros ≡ answers
latch_divided = as_undivided calls zeros refl no_scan ∙ latch_expected

-- ---- `input In 0..1; var W 0..1; timer Q of W limit 50; W: GX(W = (In));`

abbrev delay : List ℕ
delay = 1 ∷ 2 ∷ 0 ∷ 2 ∷ 0 ∷ 0 ∷ 2 ∷ 0 ∷ 0 ∷ 2 ∷ 0 ∷ 2 ∷ 0 ∷ 21 ∷ 1 ∷ 23 ∷ 2 ∷ 1 ∷ 50 ∷ []

abbrev numbers : ℕ → ℕ → ℕ → ℕ → List ℤ
numbers a b c d = pos a ∷ pos b ∷ pos c ∷ pos d ∷ []

-- a row is its input and its milliseconds; the one that is posted last is the next scan's
abbrev delay_calls : List Call
delay_calls =
    post delay (pos 1 ∷ pos 30 ∷ []) ∷ begin delay (numbers 1 1 0 30) ∷ post delay (pos 0 ∷ pos 7 ∷ []) ∷ advance_scan 2 ∷ post delay (pos 1 ∷ pos 1 ∷ []) ∷ advance_scan 1
    ∷ finish (numbers 1 1 0 30) ∷ begin delay (numbers 1 1 1 50) ∷ advance_scan 9 ∷ finish (numbers 1 1 1 50) ∷ []

abbrev delay_answers : List Said
delay_answers =
    says (R.Done 0) ∷ says (R.Done 0) ∷ says (R.Done 0) ∷ says (R.Done 2) ∷ says (R.Done 0) ∷ says (R.Done 1) ∷ says_leaving (R.Done 3) (numbers 1 1 1 50) ∷ says (R.Done 0) ∷ says (R.Done 3)
    ∷ says_leaving (R.Done 3) (numbers 1 1 1 50) ∷ []

delay_expected : expected_said delay_calls (waiting_of zeros) none ≡ delay_answers
unfolding unzigzag grouped groups number_in below32 number_at signed_at instruction_of has_operand fetch_one timer_at fetch is_timer_range is_binary check_counts check_range check_header check_body check_of header_of code_of limits_of bit yes within moves picked arithmetic negation compares elapsed due timed scan_code scan_of clipped waiting_length waiting_of
delay_expected = refl

pub delay-divided : play delay_calls [] zeros ≡ delay_answers
delay-divided = as_undivided delay_calls zeros refl no_scan ∙ delay_expected
