-- The limits of an image's timers: code without timers, and the shape of an image that has none. Document 02, A.7. Assumes nothing.
use Prim.Native.Nat.{ℕ, zero, suc, ◌≤◌}
use native.Mathlib.Omega.{arith}
use mathlib.Core.Path.{◌≡◌, refl, ap, ◌∙◌}
use mathlib.Core.Bool.{Bool, false}
use mathlib.Core.List.{List, [], ◌∷◌, map}
use lib.ListN.{length, replicate, length-set, length-replicate}
use Rattle.arith.specs.Inner.Flags.{flags_of}
use Rattle.semantics.specs.Shape.{is_limit, timers_of, has_timer, time_ranges, with_times, cells, state_length, row_length}
use Rattle.leb128.specs.Numbers.{Read, got, nothing}
use Rattle.bytecode.specs.Instructions.{Instruction, fetch_one, fetch}
use Rattle.bytecode.specs.Signature.{Role, pushes, computes, tests, opens, picks, lets, settles, times, signature}
use Rattle.bytecode.specs.Parts.{header_of, code_of, limit_in, limited, limits_from, limits_of, shape_in}
use Rattle.bytecode.specs.Inner.Timers.{NoTimers}
use Rattle.bytecode.proofs.Fetching.{fetch-end, one_fetched}
use Rattle.bytecode.proofs.Timeless.{TimelessIn, one_timeless}

-- an instruction without a timer gives no limit
pub limit_timeless : (r : Role) (ls : List ℕ) → TimelessIn r → limit_in r ls ≡ ls
limit_timeless (pushes fits) ls h = refl
limit_timeless computes ls h = refl
limit_timeless tests ls h = refl
limit_timeless opens ls h = refl
limit_timeless (picks side v) ls h = refl
limit_timeless (lets v) ls h = refl
limit_timeless (settles v) ls h = refl
limit_timeless (times t w n) ls h = absurd h

-- ---- code without timers from a place on

module _ (code : List ℕ) (at : ℕ) where
  -- nothing is read there
  pub no_timers_none : fetch code at ≡ nothing → NoTimers code at
  no_timers_none e zero ls = refl
  no_timers_none e (suc f) ls = rw e

  pub no_timers_end : length code ≤ at → NoTimers code at
  no_timers_end h = no_timers_none (fetch-end code at h)

  -- an instruction of one operand at most, and none behind it
  pub no_timers_step : (i : Instruction) (next : ℕ) → fetch_one code at ≡ got i next → NoTimers code next → NoTimers code at
  no_timers_step i next e h zero ls = refl
  no_timers_step i next e h (suc f) ls = rw (one_fetched code at i next e, limit_timeless (signature i).role ls (one_timeless code at i next e)) (h f ls)

-- ---- tables of limits

pub length_limit : (r : Role) (ls : List ℕ) → length (limit_in r ls) ≡ length ls
length_limit (pushes fits) ls = refl
length_limit computes ls = refl
length_limit tests ls = refl
length_limit opens ls = refl
length_limit (picks side v) ls = refl
length_limit (lets v) ls = refl
length_limit (settles v) ls = refl
length_limit (times t w n) ls = length-set ls t n

pub length_limits : (code : List ℕ) (f at : ℕ) (ls : List ℕ) → length (limits_from code f at ls) ≡ length ls
length_limits code zero at ls = refl
length_limits code (suc f) at ls = go (fetch code at) (length_limits code f)
  where
    go : (r : Read Instruction) → ((next : ℕ) (ls₁ : List ℕ) → length (limits_from code f next ls₁) ≡ length ls₁) → length (limited r ls λ next ls₁. limits_from code f next ls₁) ≡ length ls
    go nothing ih = refl
    go (got i next) ih = ih next (limit_in (signature i).role ls) ∙ length_limit (signature i).role ls

-- a table by id has a place for each name
pub limits_length : (bytes : List ℕ) → length (limits_of bytes) ≡ length (header_of bytes).ranges
unfolding limits_of
limits_length bytes = length_limits (code_of bytes) (length (code_of bytes)) 0 (replicate (length (header_of bytes).ranges) 0) ∙ length-replicate (length (header_of bytes).ranges) 0

all_zero_lem : (ls : List ℕ) → has_timer ls ≡ false → ls ≡ replicate (length ls) 0
all_zero_lem [] h = refl
all_zero_lem (zero ∷ ls) h = ap (λ (l : List ℕ). zero ∷ l) (all_zero_lem ls h)
all_zero_lem (suc n ∷ ls) h = let z : ◌≡◌ {A = ℕ} 0 1 = cc in let f : ⊥ = omega arith in absurd f

pub none_timed : (n : ℕ) → has_timer (replicate n 0) ≡ false
none_timed zero = refl
none_timed (suc n) = none_timed n

-- an image whose code has no timers
pub none_has_timer : (bytes : List ℕ) → NoTimers (code_of bytes) 0 → has_timer (limits_of bytes) ≡ false
unfolding limits_of
none_has_timer bytes h = ap has_timer (h (length (code_of bytes)) (replicate (length (header_of bytes).ranges) 0)) ∙ none_timed (length (header_of bytes).ranges)

-- ---- the shape of an image that has none

module _ (bytes : List ℕ) (none_timed : has_timer (limits_of bytes) ≡ false) where
  -- no name is a timer
  pub limits_none : limits_of bytes ≡ replicate (length (header_of bytes).ranges) 0
  limits_none = all_zero_lem (limits_of bytes) none_timed ∙ ap (λ (n : ℕ). replicate n 0) (limits_length bytes)

  no_times_in : (n : ℕ) → time_ranges (replicate n 0) ≡ []
  no_times_in zero = refl
  no_times_in (suc n) = no_times_in n

  -- so a state has no elapsed times, a row no milliseconds
  pub no_times : time_ranges (limits_of bytes) ≡ []
  no_times = ap time_ranges limits_none ∙ no_times_in (length (header_of bytes).ranges)

  pub cells_untimed : cells (shape_in bytes) ≡ (header_of bytes).ranges
  cells_untimed = ap (with_times (header_of bytes).ranges) no_times

  pub state_length_untimed : state_length (shape_in bytes) ≡ length (header_of bytes).ranges
  state_length_untimed = ap length cells_untimed

  pub row_length_untimed : row_length (shape_in bytes) ≡ (header_of bytes).inputs
  row_length_untimed = rw none_timed

  flags_none : (n : ℕ) → map is_limit (replicate n 0) ≡ flags_of n 0
  unfolding flags_of
  flags_none zero = refl
  flags_none (suc n) = ap (λ (l : List Bool). false ∷ l) (flags_none n)

  pub timers_untimed : timers_of (shape_in bytes) ≡ flags_of (length (header_of bytes).ranges) 0
  timers_untimed = ap (map is_limit) limits_none ∙ flags_none (length (header_of bytes).ranges)
