-- The table of limits as running code fills it: the limits that are left to store make the whole. Assumes nothing.
use Prim.Native.Nat.{ℕ, zero, suc, ◌+◌, ◌≤◌, ◌<◌}
use native.Mathlib.Omega.{arith}
use mathlib.Core.Path.{◌≡◌, refl, sym, ◌∙◌}
use mathlib.Core.List.{List}
use lib.ListN.{length, set}
use Rattle.leb128.specs.Numbers.{got, nothing}
use Rattle.bytecode.specs.Instructions.{Instruction, timer, fetch, instruction_of, decoded}
use Rattle.bytecode.specs.Signature.{signature}
use Rattle.bytecode.specs.Parts.{limit_in, limits_from}
use Rattle.bytecode.specs.Results.{InstructionBounded}
use Rattle.bytecode.proofs.Fetching.{fetch-end}
use Rattle.bytecode.proofs.Timeless.{code_timeless}
use Rattle.bytecode.proofs.Limits.{limit_timeless, length_limit}

pub record Limiting (code before : List ℕ) (at : ℕ) (table : List ℕ) : Type 0 where
  pub fuel : ℕ
  pub enough : length code ≤ at + fuel
  pub whole : limits_from code fuel at table ≡ limits_from code (length code) 0 before
  pub size : length table ≡ length before

pub limiting_begins : (code before : List ℕ) → Limiting code before 0 before
limiting_begins code before = record { fuel = length code; enough = omega arith; whole = refl; size = refl }

module _ {code before : List ℕ} {at : ℕ} {table : List ℕ} (x : Limiting code before at table) where
  -- nothing is read there
  pub limiting_stops : fetch code at ≡ nothing → table ≡ limits_from code (length code) 0 before
  limiting_stops e = go x.fuel x.whole
    where
      go : (f : ℕ) → limits_from code f at table ≡ limits_from code (length code) 0 before → table ≡ limits_from code (length code) 0 before
      go zero w = w
      go (suc f) w = rw e at w

  pub limiting_ends : length code ≤ at → table ≡ limits_from code (length code) 0 before
  limiting_ends h = limiting_stops (fetch-end code at h)

  module _ (inside : at < length code) (i : Instruction) (next : ℕ) (e : fetch code at ≡ got i next) (b : at < next) where
    goes : Limiting code before next (limit_in (signature i).role table)
    goes = go x.fuel x.enough x.whole
      where
        go : (f : ℕ) → length code ≤ at + f → limits_from code f at table ≡ limits_from code (length code) 0 before → Limiting code before next (limit_in (signature i).role table)
        go zero l w = let z : ⊥ = omega arith in absurd z
        go (suc f) l w = record { fuel = f; enough = omega arith; whole = rw e at w; size = length_limit (signature i).role table ∙ x.size }

  module _ (inside : at < length code) where
    -- an instruction without a timer is passed over
    pub limiting_passes : (byte n next : ℕ) → decoded (instruction_of byte n) next ≡ fetch code at → InstructionBounded (length code) at byte n next → Limiting code before next table
    limiting_passes byte n next e b =
        let f : fetch code at ≡ got b.instruction next = sym e ∙ rw b.listed in
        rw (limit_timeless (signature b.instruction).role table (code_timeless byte n b.instruction b.listed)) at (goes inside b.instruction next f b.behind)

    -- a 23 stores its limit
    pub limiting_stores : (t w n next : ℕ) → got (timer t w n) next ≡ fetch code at → at < next → (after : List ℕ) → after ≡ set table t n → Limiting code before next after
    limiting_stores t w n next e b after p = rw p (goes inside (timer t w n) next (sym e) b)
