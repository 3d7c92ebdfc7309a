-- Where the bytes of a number and of an instruction end, and the ways in which an instruction is read. Assumes nothing.
use Prim.Native.Nat.{ℕ, zero, suc, ◌+◌, ◌-◌, ◌^◌, ◌≤◌, ◌<◌}
use native.Mathlib.Omega.{arith}
use mathlib.Core.Path.{◌≡◌, refl, sym, ap, subst, ◌∙◌}
use mathlib.Core.Bool.{Bool, true, false, cond}
use mathlib.Core.List.{List, [], ◌∷◌}
use mathlib.Core.Option.{Option}
use Rattle.std.specs.Prelude.{Some, None}
use lib.Dec.{eqb, ltb}
use lib.ListN.{length, get_or, drop, length-drop, get_or-eq_default}
use borrow.Author.Tests.{lt-ltb, le-ltb, ltb-true, eqb-true, ne_eqb}
use Rattle.leb128.specs.Numbers.{Found, found, none, grouped, number_in, Read, got, nothing, ◌then◌, below32, number_at}
use Rattle.bytecode.specs.Instructions.{Instruction, timer, instruction_of, has_operand, decoded, fetch_one, timer_at, fetch}
use Rattle.bytecode.specs.Results.{Bounded, Single, single_read, SingleWithin}
use Rattle.bytecode.proofs.Codes.{unlisted_low, unlisted_high}

-- ---- the bytes of a number

-- a number that a list begins with has a byte, and no more than the list has
abbrev Inside : ℕ → Found → Type 0
Inside n (found v k) = (1 ≤ k) × (k ≤ n)
Inside n none = Unit {0}

inside_grouped : (n low : ℕ) (f : Found) → Inside n f → Inside (suc n) (grouped low f)
unfolding grouped
inside_grouped n low none h = tt
inside_grouped n low (found zero k) h = tt
inside_grouped n low (found (suc v) k) h = (omega arith, omega (arith, h.1))

inside_cond : (t : Bool) (n b : ℕ) (f : Found) → Inside n f → Inside (suc n) (cond t (found b 1) (grouped (b - 128) f))
inside_cond true n b f h = (omega arith, omega arith)
inside_cond false n b f h = inside_grouped n (b - 128) f h

inside : (s : List ℕ) → Inside (length s) (number_in s)
unfolding number_in
inside [] = tt
inside (b ∷ s) = inside_cond (ltb b 128) (length s) b (number_in s) (inside s)

-- a number at a place is below 2 ^ 32 and ends inside the bytes
abbrev pub ReadWithin : ℕ → ℕ → Read ℕ → Type 0
ReadWithin length at (got n next) = Bounded length at n next
ReadWithin length at nothing = Unit {0}

within_cond : (t : Bool) (n at v k : ℕ) → (t ≡ true → v < 2 ^ 32) → (1 ≤ k) × (k ≤ n - at) → ReadWithin n at (cond t (got v (at + k)) nothing)
within_cond true n at v k y h = record { operand = y refl; behind = omega (arith, h.0); inside = omega (arith, h.0, h.1) }
within_cond false n at v k y h = tt

within_found : (n at : ℕ) (f : Found) → Inside (n - at) f → ReadWithin n at (below32 at f)
unfolding below32
within_found n at none h = tt
within_found n at (found v k) h = within_cond (ltb v (2 ^ 32)) n at v k (ltb-true v (2 ^ 32)) h

pub read_within : (bytes : List ℕ) (at : ℕ) → ReadWithin (length bytes) at (number_at bytes at)
unfolding number_at
read_within bytes at = within_found (length bytes) at _ (subst (λ (n : ℕ). Inside n (number_in (drop at bytes))) (length-drop at bytes) (inside (drop at bytes)))

pub number_within : (bytes : List ℕ) (at n next : ℕ) → number_at bytes at ≡ got n next → Bounded (length bytes) at n next
number_within bytes at n next e = subst (ReadWithin (length bytes) at) e (read_within bytes at)

-- ---- the ways in which an instruction is read

module _ (bytes : List ℕ) (at : ℕ) where
  -- no code byte
  pub fetch_none : length bytes ≤ at → fetch_one bytes at ≡ nothing
  unfolding fetch_one
  fetch_none h = rw (le-ltb at (length bytes) h)

  -- a code byte alone
  pub fetch_alone : at < length bytes → has_operand (get_or bytes at 0) ≡ false → fetch_one bytes at ≡ decoded (instruction_of (get_or bytes at 0) 0) (at + 1)
  unfolding fetch_one
  fetch_alone h o = rw (lt-ltb at (length bytes) h, o)

  -- a code byte whose operand is no number
  pub fetch_malformed : at < length bytes → has_operand (get_or bytes at 0) ≡ true → number_at bytes (at + 1) ≡ nothing → fetch_one bytes at ≡ nothing
  unfolding fetch_one
  fetch_malformed h o e = rw (lt-ltb at (length bytes) h, o, e)

  -- a code byte and its operand
  pub fetch_number : (n next : ℕ) → at < length bytes → has_operand (get_or bytes at 0) ≡ true → number_at bytes (at + 1) ≡ got n next
      → fetch_one bytes at ≡ decoded (instruction_of (get_or bytes at 0) n) next
  unfolding fetch_one
  fetch_number n next h o e = rw (lt-ltb at (length bytes) h, o, e)

  -- a byte that is not 23
  pub fetch_other : eqb (get_or bytes at 0) 23 ≡ false → fetch bytes at ≡ fetch_one bytes at
  unfolding fetch
  fetch_other e = rw e

  -- behind the end
  pub fetch-end : length bytes ≤ at → fetch bytes at ≡ nothing
  unfolding fetch
  fetch-end h = rw (get_or-eq_default bytes 0 h) (fetch_none h)

  -- 23 is no instruction of one operand
  unfetched : (b : Bool) → eqb (get_or bytes at 0) 23 ≡ true → cond b (cond (has_operand (get_or bytes at 0)) (number_at bytes (at + 1) then λ n next. decoded (instruction_of (get_or bytes at 0) n) next) (decoded (instruction_of (get_or bytes at 0) 0) (at + 1))) nothing ≡ nothing
  unfolding has_operand instruction_of
  unfetched true e = rw (eqb-true (get_or bytes at 0) 23 e)
  unfetched false e = refl

  pub timer_unfetched : eqb (get_or bytes at 0) 23 ≡ true → fetch_one bytes at ≡ nothing
  unfolding fetch_one
  timer_unfetched e = unfetched (ltb at (length bytes)) e

  -- what is read as an instruction of one operand is the instruction there
  pub one_fetched : (i : Instruction) (next : ℕ) → fetch_one bytes at ≡ got i next → fetch bytes at ≡ got i next
  one_fetched i next e = go (eqb (get_or bytes at 0) 23) refl
    where
      go : (b : Bool) → eqb (get_or bytes at 0) 23 ≡ b → fetch bytes at ≡ got i next
      go true h = let f : nothing ≡ got i next = sym (timer_unfetched h) ∙ e in let z : ◌≡◌ {A = ℕ} 0 1 = cc in let b : ⊥ = omega arith in absurd b
      go false h = fetch_other h ∙ e

-- ---- an instruction of one operand at most, as a reader of its own answers it

abbrev pub SingleAt : List ℕ → ℕ → Single → Type 0
SingleAt bytes at r = (single_read r ≡ fetch_one bytes at) × SingleWithin (length bytes) at r

module _ (bytes : List ℕ) (at : ℕ) where
  pub single_end : length bytes ≤ at → SingleAt bytes at None
  single_end h = (sym (fetch_none bytes at h), tt)

  module _ (h : at < length bytes) where
    pub single_alone : has_operand (get_or bytes at 0) ≡ false → SingleAt bytes at (Some (get_or bytes at 0, 0, at + 1))
    single_alone o = (sym (fetch_alone bytes at h o), record { operand = omega arith; behind = omega arith; inside = omega (arith, h) })

    pub single_malformed : has_operand (get_or bytes at 0) ≡ true → number_at bytes (at + 1) ≡ nothing → SingleAt bytes at None
    single_malformed o e = (sym (fetch_malformed bytes at h o e), tt)

    pub single_number : (n next : ℕ) → has_operand (get_or bytes at 0) ≡ true → number_at bytes (at + 1) ≡ got n next → SingleAt bytes at (Some (get_or bytes at 0, n, next))
    single_number n next o e =
        let w = number_within bytes (at + 1) n next e in
        (sym (fetch_number bytes at n next h o e), record { operand = w.operand; behind = omega (arith, w.behind); inside = w.inside })

-- ---- the operands of a 23

module _ (bytes : List ℕ) (at : ℕ) where
  pub timer_first : number_at bytes at ≡ nothing → timer_at bytes at ≡ nothing
  unfolding timer_at
  timer_first e = rw e

  module _ (t second : ℕ) (e : number_at bytes at ≡ got t second) where
    pub timer_second : number_at bytes second ≡ nothing → timer_at bytes at ≡ nothing
    unfolding timer_at
    timer_second f = rw (e, f)

    module _ (w third : ℕ) (f : number_at bytes second ≡ got w third) where
      pub timer_third : number_at bytes third ≡ nothing → timer_at bytes at ≡ nothing
      unfolding timer_at
      timer_third g = rw (e, f, g)

      pub timer_read : (n next : ℕ) → number_at bytes third ≡ got n next → timer_at bytes at ≡ got (timer t w n) next
      unfolding timer_at
      timer_read n next g = rw (e, f, g)

-- ---- every instruction, as `bytecode::fetch` reads it

module _ (bytes : List ℕ) (at : ℕ) where
  pub timer_fetched : get_or bytes at 0 ≡ 23 → fetch bytes at ≡ timer_at bytes (at + 1)
  unfolding fetch
  timer_fetched e = rw e

  module _ (h : at < length bytes) (o : get_or bytes at 0 ≡ 23 → ⊥) where
    pub alone_fetched : has_operand (get_or bytes at 0) ≡ false → fetch bytes at ≡ decoded (instruction_of (get_or bytes at 0) 0) (at + 1)
    alone_fetched e = fetch_other bytes at (ne_eqb _ 23 o) ∙ fetch_alone bytes at h e

    pub low_fetched : has_operand (get_or bytes at 0) ≡ false → get_or bytes at 0 < 4 → fetch bytes at ≡ nothing
    low_fetched e l = alone_fetched e ∙ ap (λ (x : Option Instruction). decoded x (at + 1)) (unlisted_low (get_or bytes at 0) 0 e l)

    pub high_fetched : has_operand (get_or bytes at 0) ≡ false → 19 < get_or bytes at 0 → fetch bytes at ≡ nothing
    high_fetched e l = alone_fetched e ∙ ap (λ (x : Option Instruction). decoded x (at + 1)) (unlisted_high (get_or bytes at 0) 0 e o l)

    pub malformed_fetched : has_operand (get_or bytes at 0) ≡ true → number_at bytes (at + 1) ≡ nothing → fetch bytes at ≡ nothing
    malformed_fetched e f = fetch_other bytes at (ne_eqb _ 23 o) ∙ fetch_malformed bytes at h e f

    pub number_fetched : (n next : ℕ) → has_operand (get_or bytes at 0) ≡ true → number_at bytes (at + 1) ≡ got n next → fetch bytes at ≡ decoded (instruction_of (get_or bytes at 0) n) next
    number_fetched n next e f = fetch_other bytes at (ne_eqb _ 23 o) ∙ fetch_number bytes at n next h e f
