-- Worked profiles, as one table under one statement: what the definition gives is what the table says. Document 02, A.10. Assumes nothing.
use mathlib.Core.Path.{◌≡◌, refl}
use mathlib.Core.List.{List, [], ◌∷◌, ◌++◌, map}
use Prim.Native.Nat.{ℕ, ◌-◌}
use lib.IntN.{ℤ, pos, negsuc}
use lib.ListN.{length, replicate}
use Rattle.limits.specs.Answer.{Answer, accepted, refused}
use Rattle.arith.specs.Values.{arithmetic, compares}
use Rattle.semantics.specs.Program.{is_binary, within}
use Rattle.semantics.specs.ReferenceScan.{moves, picked}
use Rattle.machine.specs.Step.{bit, yes}
use Rattle.leb128.specs.Numbers.{unzigzag, number_at, signed_at, groups, grouped, number_in, below32}
use Rattle.bytecode.specs.Instructions.{instruction_of, has_operand, fetch_one, timer_at, fetch}
use Rattle.bytecode.specs.Check.{check_counts, check_range, check_header, is_timer_range, check_body, check_of}
use Rattle.bytecode.specs.Parts.{header_of, code_of, limits_of}
use Rattle.scan.specs.Services.{scan_code, scan_of}
use Rattle.closed.specs.Closed.{size_between, is_small, combinations_of, AfterClosed, leaves, closed_of, part_of, part_in, closed_part_of, combination_of}

-- an image, its answer, the state and the row at the front of the two that are left
pub record Example : Type 0 where
  pub image : List ℕ
  pub answer : Answer (Unit {0})
  pub state : List ℤ
  pub row : List ℤ

abbrev filled : List ℤ → List ℤ
filled l = l ++ replicate (64 - length l) (pos 0)

abbrev expected : Example → AfterClosed
expected e = record { answer = e.answer; state = filled e.state; row = filled e.row }

abbrev says : List ℕ → Answer (Unit {0}) → List ℤ → List ℤ → Example
says image answer state row = record { image = image; answer = answer; state = state; row = row }

pub adds : List ℕ
adds = 1 ∷ 1 ∷ 0 ∷ 2 ∷ 0 ∷ 0 ∷ 6 ∷ 0 ∷ 3 ∷ 1 ∷ 2 ∷ 0 ∷ 4 ∷ 21 ∷ 1 ∷ []

pub timed : List ℕ
timed = 1 ∷ 2 ∷ 0 ∷ 2 ∷ 0 ∷ 0 ∷ 2 ∷ 0 ∷ 0 ∷ 2 ∷ 0 ∷ 2 ∷ 0 ∷ 21 ∷ 1 ∷ 23 ∷ 2 ∷ 1 ∷ 136 ∷ 39 ∷ []

abbrev two : List ℤ
two = pos 7 ∷ pos 7 ∷ []

abbrev one : List ℤ
one = pos 7 ∷ []

pub examples : List Example
examples =
    -- 11; the empty text: one scan
    says (0 ∷ 0 ∷ 1 ∷ 0 ∷ []) (refused 11 4) [] []
    ∷ says (0 ∷ 0 ∷ []) (accepted tt) [] []
    -- L2
    ∷ says (0 ∷ 1 ∷ 0 ∷ 2 ∷ 0 ∷ 3 ∷ 0 ∷ 1 ∷ 0 ∷ 10 ∷ 19 ∷ 1 ∷ 2 ∷ 20 ∷ 0 ∷ 22 ∷ 0 ∷ []) (accepted tt) [] []
    -- `input i 0..1; var v 0..3; v = _v + i`: 3 + 1 is outside; with `(_v + i) mod 4` it is not
    ∷ says adds (refused 27 7) (pos 0 ∷ pos 3 ∷ []) (pos 1 ∷ [])
    ∷ says (1 ∷ 1 ∷ 0 ∷ 2 ∷ 0 ∷ 0 ∷ 6 ∷ 0 ∷ 3 ∷ 1 ∷ 2 ∷ 0 ∷ 4 ∷ 1 ∷ 8 ∷ 8 ∷ 21 ∷ 1 ∷ []) (accepted tt) [] []
    -- `input i 0..2; input j -1..1; var v 0..9; v = i / j`: the first row with j = 0, in the first state
    ∷ says (2 ∷ 1 ∷ 0 ∷ 4 ∷ 0 ∷ 1 ∷ 2 ∷ 0 ∷ 0 ∷ 18 ∷ 0 ∷ 2 ∷ 0 ∷ 2 ∷ 1 ∷ 7 ∷ 21 ∷ 2 ∷ []) (refused 27 1) (pos 0 ∷ negsuc 0 ∷ pos 0 ∷ []) (pos 0 ∷ pos 0 ∷ [])
    -- 26: `input i 0..255; var v 0..1`; and `var v 0..65536; v = 1 / 0`, whose first scan would be refused
    ∷ says (1 ∷ 1 ∷ 0 ∷ 254 ∷ 3 ∷ 0 ∷ 0 ∷ 2 ∷ 0 ∷ 1 ∷ 0 ∷ 21 ∷ 1 ∷ []) (refused 26 0) [] []
    ∷ says (0 ∷ 1 ∷ 0 ∷ 128 ∷ 128 ∷ 8 ∷ 0 ∷ 1 ∷ 2 ∷ 1 ∷ 0 ∷ 7 ∷ 21 ∷ 0 ∷ []) (refused 26 0) [] []
    -- 26: `input i 0..1; var w 0..1; timer t of w limit 5000; w = i`
    ∷ says timed (refused 26 0) [] []
    ∷ []

-- the definition gives what the table says
pub profiles_hold : map (λ (e : Example). closed_of e.image) examples ≡ map expected examples
unfolding examples adds timed unzigzag groups grouped number_in below32 number_at signed_at instruction_of has_operand fetch_one timer_at fetch check_counts check_range check_header is_binary is_timer_range check_body check_of header_of code_of limits_of scan_code scan_of size_between is_small combinations_of closed_of bit yes within moves picked arithmetic compares
profiles_hold = refl

-- combinations of `adds` by their numbers: the one that 27 names, the last, one past it; a row too long; 11; a timer
pub combinations-hold : (combination_of adds 7 two one ≡ leaves (accepted tt) (pos 0 ∷ pos 3 ∷ []) (pos 1 ∷ []))
    × (combination_of adds 15 two one ≡ leaves (accepted tt) (pos 1 ∷ pos 3 ∷ []) (pos 1 ∷ []))
    × (combination_of adds 16 two one ≡ leaves (refused 12 0) two one)
    × (combination_of adds 7 two two ≡ leaves (refused 12 0) two two)
    × (combination_of (0 ∷ []) 16 two two ≡ leaves (refused 11 1) two two)
    × (combination_of timed 0 two one ≡ leaves (refused 26 0) two one)
unfolding adds timed unzigzag groups grouped number_in below32 number_at signed_at instruction_of has_operand fetch_one timer_at fetch check_counts check_range check_header is_binary is_timer_range check_body check_of header_of code_of limits_of size_between is_small combinations_of combination_of
combinations-hold = (refl, refl, refl, refl, refl, refl)

-- parts of `adds`: before the refused scan, with it, behind it, behind the last, none
pub parts_hold : ((closed_part_of adds 0 7).answer ≡ accepted tt)
    × (closed_part_of adds 3 5 ≡ closed_of adds)
    × ((closed_part_of adds 8 65536).answer ≡ refused 27 15)
    × ((closed_part_of adds 16 65536).answer ≡ accepted tt)
    × ((closed_part_of adds 7 0).answer ≡ accepted tt)
    × ((closed_part_of timed 7 0).answer ≡ refused 26 0)
unfolding adds timed unzigzag groups grouped number_in below32 number_at signed_at instruction_of has_operand fetch_one timer_at fetch check_counts check_range check_header is_binary is_timer_range check_body check_of header_of code_of limits_of scan_code scan_of size_between is_small combinations_of closed_of part_of part_in closed_part_of bit yes within moves picked arithmetic compares
parts_hold = (refl, refl, refl, refl, refl, refl)
