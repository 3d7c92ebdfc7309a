-- The walk over the code: what holds at each turn of the loop, and the ways out of it. Assumes nothing.
use Prim.Native.Nat.{ℕ, zero, suc, ◌+◌, ◌≤◌, ◌<◌}
use mathlib.Core.Path.{◌≡◌, refl, sym, subst, ◌∙◌}
use mathlib.Core.Bool.{Bool, true, false}
use mathlib.Core.List.{List, []}
use mathlib.Core.Option.{Option, none, some}
use native.Mathlib.Omega.{arith}
use lib.ListN.{length}
use lib.Pow.{pow_mono, pow_pos}
use borrow.Author.Tests.{ne_eqb, lt-ltb, le-ltb}
use Rattle.semantics.specs.Program.{Range, known_first}
use Rattle.semantics.proofs.Flags.{flags_first}
use Rattle.limits.specs.Answer.{Answer, refused}
use Rattle.leb128.specs.Numbers.{got, nothing}
use Rattle.bytecode.specs.Instructions.{Instruction, decoded, fetch_one, fetch}
use Rattle.bytecode.specs.Signature.{signature}
use Rattle.bytecode.specs.Check.{Known, known, advance, complete, ends, if_some, check_code}
use Rattle.bytecode.specs.Inner.Timers.{NoTimers}
use Rattle.bytecode.proofs.Fetching.{fetch_other, one_fetched}
use Rattle.bytecode.proofs.Timeless.{suits_timeless, one_timeless}
use Rattle.bytecode.proofs.Limits.{no_timers_end, no_timers_step}
use Rattle.bytecode.proofs.Soundness.{none≢some}
use Rattle.checker.specs.declared.advance.Walk.{Walk}
use Rattle.checker.specs.declared.Verdict.{Verdict}
use Rattle.checker.specs.declared.Verdict.TheVariants as J
use Rattle.checker.specs.Inner.Walk.{known_of, Small, advance_by, initial_walk}
use Rattle.checker.specs.Results.{Answers, Judges, BreaksUnlessTimed}
use Rattle.checker.proofs.Bits.{sorts_none}

-- ---- the first instruction

pub initial_small : (inputs names : ℕ) → inputs ≤ names → names ≤ 64 → Small (initial_walk inputs names)
initial_small inputs names l m = record { few_held = omega arith; sorts_low = omega arith; few_names = m; known_low = omega (arith, pow_mono l, pow_pos inputs) }

pub initial_known : (inputs names : ℕ) → known_of (initial_walk inputs names) ≡ known [] false none (known_first inputs names)
initial_known inputs names = rw (sorts_none, flags_first inputs names)

-- ---- one instruction

-- nothing is read there
none_is : (ns : List Range) (base : ℕ) (code : List ℕ) (f at : ℕ) (last : Option Instruction) (c : Known) → at < length code → fetch code at ≡ nothing
    → check_code ns base code (suc f) at last c ≡ refused 11 (base + at)
none_is ns base code f at last c l e = rw (lt-ltb at (length code) l, e)

-- an instruction of one operand at most
one_is : (ns : List Range) (base : ℕ) (code : List ℕ) (f at next : ℕ) (last : Option Instruction) (i : Instruction) (c : Known) → at < length code → fetch_one code at ≡ got i next
    → check_code ns base code (suc f) at last c ≡ if_some (advance i c) (base + at) λ c₁. check_code ns base code f next (some i) c₁
one_is ns base code f at next last i c l e =
    rw (lt-ltb at (length code) l, one_fetched code at i next e, suits_timeless ns last (signature i).role (one_timeless code at i next e))

-- ---- from a place on

-- From a place and what is known there the walk comes to another: what is left makes the whole, and there is no timer on the way.
pub record WalksTo (code : List ℕ) (at : ℕ) (c : Known) (at₁ : ℕ) (c₁ : Known) : Type 0 where
  pub goes : (ns : List Range) (last : Option Instruction) (base fuel : ℕ) → length code ≤ at + fuel
      → (last₁ : Option Instruction) × (f : ℕ) × (length code ≤ at₁ + f) × (check_code ns base code fuel at last c ≡ check_code ns base code f at₁ last₁ c₁)
  pub untimed : NoTimers code at₁ → NoTimers code at

pub walks_here : (code : List ℕ) (at : ℕ) (c : Known) → WalksTo code at c at c
walks_here code at c = record { goes = λ ns last base fuel h. (last, fuel, h, refl); untimed = λ h. h }

module _ (code : List ℕ) (at : ℕ) (c : Known) where
  pub walks_on : (at₁ : ℕ) (c₁ : Known) (at₂ : ℕ) (c₂ : Known) → WalksTo code at c at₁ c₁ → WalksTo code at₁ c₁ at₂ c₂ → WalksTo code at c at₂ c₂
  walks_on at₁ c₁ at₂ c₂ p q =
      record {
        goes = λ ns last base fuel h.
            let x = p.goes ns last base fuel h in
            let y = q.goes ns x.0 base x.1 x.2 in
            (y.0, y.1, y.2, x.3 ∙ y.3);
        untimed = λ h. p.untimed (q.untimed h);
      }

  -- what is said of the rest is said of the whole
  answers_on : (at₁ : ℕ) (c₁ : Known) (answer : ℕ → Answer (Unit {0})) → WalksTo code at c at₁ c₁ → Answers code at₁ c₁ answer → Answers code at c answer
  answers_on at₁ c₁ answer p q ns last base fuel h = let x = p.goes ns last base fuel h in q ns x.0 base x.1 x.2 ∙ sym x.3

  pub judges_on : (at₁ : ℕ) (c₁ : Known) (r : Verdict) → WalksTo code at c at₁ c₁ → Judges code at₁ c₁ r → Judges code at c r
  judges_on at₁ c₁ J.Sound p q = (answers_on at₁ c₁ _ p q.0, p.untimed q.1)
  judges_on at₁ c₁ (J.Broken place) p q = answers_on at₁ c₁ _ p q
  judges_on at₁ c₁ J.Timed p q = tt

  -- nothing is left
  module _ (l : length code ≤ at) where
    end_is : (b : Bool) → complete c ≡ b → Answers code at c (λ base. ends b (base + length code))
    end_is b e ns last base zero h = rw e
    end_is b e ns last base (suc fuel) h = rw (le-ltb at (length code) l, e)

    pub judges_complete : complete c ≡ true → Judges code at c J.Sound
    judges_complete e = (end_is true e, no_timers_end code at l)

    pub judges_missing : complete c ≡ false → Judges code at c (J.Broken (length code))
    judges_missing e = end_is false e

  module _ (l : at < length code) where
    -- no instruction stands there
    pub judges_malformed : fetch_one code at ≡ nothing → BreaksUnlessTimed code at c
    judges_malformed e other ns last base zero h = let b : ⊥ = omega arith in absurd b
    judges_malformed e other ns last base (suc fuel) h = sym (none_is ns base code fuel at last c l (fetch_other code at (ne_eqb _ 23 other) ∙ e))

    module _ (o : Option Instruction) (next : ℕ) (e : fetch_one code at ≡ decoded o next) where
      -- it breaks soundness
      pub judges_broken : advance_by o c ≡ none → BreaksUnlessTimed code at c
      judges_broken q = go o e q
        where
          stops : (i : Instruction) → fetch_one code at ≡ got i next → advance i c ≡ none → Judges code at c (J.Broken at)
          stops i f r ns last base zero h = let b : ⊥ = omega arith in absurd b
          stops i f r ns last base (suc fuel) h = sym (one_is ns base code fuel at next last i c l f ∙ rw r)

          go : (p : Option Instruction) → fetch_one code at ≡ decoded p next → advance_by p c ≡ none → BreaksUnlessTimed code at c
          go none f r = judges_malformed f
          go (some i) f r = λ other. stops i f r

      -- it keeps soundness
      pub walks_step : (c₁ : Known) → advance_by o c ≡ some c₁ → at < next → WalksTo code at c next c₁
      walks_step c₁ q b = go o e q
        where
          steps : (i : Instruction) → fetch_one code at ≡ got i next → advance i c ≡ some c₁ → (ns : List Range) (last : Option Instruction) (base fuel : ℕ) → length code ≤ at + fuel
              → (last₁ : Option Instruction) × (f : ℕ) × (length code ≤ next + f) × (check_code ns base code fuel at last c ≡ check_code ns base code f next last₁ c₁)
          steps i f r ns last base zero h = let z : ⊥ = omega arith in absurd z
          steps i f r ns last base (suc fuel) h = (some i, fuel, omega arith, one_is ns base code fuel at next last i c l f ∙ rw r)

          go : (p : Option Instruction) → fetch_one code at ≡ decoded p next → advance_by p c ≡ some c₁ → WalksTo code at c next c₁
          go none f r = none≢some _ r
          go (some i) f r = record { goes = steps i f r; untimed = no_timers_step code at i next f }

-- the whole code
pub answers_whole : (code : List ℕ) (inputs names : ℕ) (answer : ℕ → Answer (Unit {0})) → Answers code 0 (known_of (initial_walk inputs names)) answer
    → (ns : List Range) (base : ℕ) → answer base ≡ check_code ns base code (length code) 0 none (known [] false none (known_first inputs names))
answers_whole code inputs names answer j ns base =
    subst (λ (c : Known). answer base ≡ check_code ns base code (length code) 0 none c) (initial_known inputs names) (j ns none base (length code) (omega arith))

-- ---- each turn of the loop

pub record Walking (code : List ℕ) (from : ℕ) (c : Known) (at : ℕ) (w : Walk) : Type 0 where
  pub small : Small w
  pub walks : WalksTo code from c at (known_of w)
