-- The code of a rule has no timer in it, so nothing is asked of it but that it keeps soundness. Assumes nothing.
use Prim.Native.Nat.{ℕ, ◌+◌}
use native.Mathlib.Omega.{arith}
use mathlib.Core.Path.{◌≡◌, refl, sym, ap, subst, ◌∙◌}
use mathlib.Core.Bool.{Bool, true, false, cond, ◌&&◌}
use mathlib.Core.List.{List, [], ◌∷◌, ◌++◌}
use mathlib.Core.Option.{Option, none, some}
use lib.Dec.{eqb, leb, ltb}
use lib.ListN.{length, get_or}
use Rattle.semantics.specs.Program.{changing, rising, falling, Range, Expression, Condition, Case, Rule, function, change}
use Rattle.semantics.specs.Program as P
use Rattle.leb128.specs.Numbers.{unzigzag, Read, got, nothing, ◌then◌, number_at}
use Rattle.bytecode.specs.Instructions.{Instruction, constant, current, previous, operation, negate, comparison, negated, both, either, gate, pick, assign, settle, timer, operation_of, comparison_of, instruction_of, has_operand, decoded, fetch_code, fetch_one, timer_at, fetch}
use Rattle.bytecode.specs.Signature.{Role, pushes, computes, tests, opens, picks, lets, settles, times, signature}
use Rattle.bytecode.specs.Translation.{code_e, code_c, code_case, code_k, code_r, code_rules}
use Rattle.bytecode.specs.Check.{suits_in}

-- what is asked of the numbers of a timer's instruction, and of no other
abbrev pub OfTimer : (ℕ → ℕ → ℕ → Type 0) → Role → Type 0
OfTimer P (pushes fits) = Unit {0}
OfTimer P computes = Unit {0}
OfTimer P tests = Unit {0}
OfTimer P opens = Unit {0}
OfTimer P (picks side v) = Unit {0}
OfTimer P (lets v) = Unit {0}
OfTimer P (settles v) = Unit {0}
OfTimer P (times t w n) = P t w n

pub of_timer : (P Q : ℕ → ℕ → ℕ → Type 0) → ((t w n : ℕ) → P t w n → Q t w n) → (r : Role) → OfTimer P r → OfTimer Q r
of_timer P Q f (pushes fits) h = tt
of_timer P Q f computes h = tt
of_timer P Q f tests h = tt
of_timer P Q f opens h = tt
of_timer P Q f (picks side v) h = tt
of_timer P Q f (lets v) h = tt
of_timer P Q f (settles v) h = tt
of_timer P Q f (times t w n) h = f t w n h

abbrev pub TimelessIn : Role → Type 0
TimelessIn r = OfTimer (λ t w n. ⊥) r

abbrev pub Timeless : List Instruction → Type 0
Timeless [] = Unit {0}
Timeless (i ∷ is) = TimelessIn (signature i).role × Timeless is

pub suits_timeless : (ns : List Range) (last : Option Instruction) (r : Role) → TimelessIn r → suits_in ns last r ≡ true
suits_timeless ns last (pushes fits) h = refl
suits_timeless ns last computes h = refl
suits_timeless ns last tests h = refl
suits_timeless ns last opens h = refl
suits_timeless ns last (picks side v) h = refl
suits_timeless ns last (lets v) h = refl
suits_timeless ns last (settles v) h = refl
suits_timeless ns last (times t w n) h = absurd h

timeless_append : (is js : List Instruction) → Timeless is → Timeless js → Timeless (is ++ js)
timeless_append [] js g h = h
timeless_append (i ∷ is) js g h = (g.0, timeless_append is js g.1 h)

timeless_E : (e : Expression) → Timeless (code_e e)
timeless_E (P.constant z) = (tt, tt)
timeless_E (P.current i) = (tt, tt)
timeless_E (P.previous i) = (tt, tt)
timeless_E (P.operation o a b) = timeless_append (code_e a ++ code_e b) _ (timeless_append (code_e a) (code_e b) (timeless_E a) (timeless_E b)) (tt, tt)
timeless_E (P.negate a) = timeless_append (code_e a) _ (timeless_E a) (tt, tt)

timeless_C : (c : Condition) → Timeless (code_c c)
timeless_C (P.comparison o a b) = timeless_append (code_e a ++ code_e b) _ (timeless_append (code_e a) (code_e b) (timeless_E a) (timeless_E b)) (tt, tt)
timeless_C (P.negated a) = timeless_append (code_c a) _ (timeless_C a) (tt, tt)
timeless_C (P.both a b) = timeless_append (code_c a ++ code_c b) _ (timeless_append (code_c a) (code_c b) (timeless_C a) (timeless_C b)) (tt, tt)
timeless_C (P.either a b) = timeless_append (code_c a ++ code_c b) _ (timeless_append (code_c a) (code_c b) (timeless_C a) (timeless_C b)) (tt, tt)

timeless_K : (v : ℕ) (ks : List Case) → Timeless (code_k v ks)
timeless_K v [] = tt
timeless_K v (k ∷ ks) =
    timeless_append (code_case v k) (code_k v ks) (timeless_append (code_c k.condition) _ (timeless_C k.condition) (tt, timeless_append (code_e k.value) _ (timeless_E k.value) (tt, tt))) (timeless_K v ks)

pub timeless_R : (r : Rule) → Timeless (code_r r)
timeless_R (function v e) = timeless_append (code_e e) _ (timeless_E e) (tt, tt)
timeless_R (change v ks cs) = timeless_append (code_k v ks) _ (timeless_K v ks) (tt, tt)

-- without timers, that of all rules
pub timeless_rules : (rs : List Rule) → Timeless (code_rules [] rs)
timeless_rules [] = tt
timeless_rules (r ∷ rs) = timeless_append (code_r r) (code_rules [] rs) (timeless_R r) (timeless_rules rs)

-- ---- instructions of one operand at most

module _ (code n : ℕ) (i : Instruction) where
  chosen : (t : Bool) (a b : Option Instruction) → (a ≡ some i → TimelessIn (signature i).role) → (b ≡ some i → TimelessIn (signature i).role) → cond t a b ≡ some i → TimelessIn (signature i).role
  chosen true a b f g e = f e
  chosen false a b f g e = g e

  this : (j : Instruction) → TimelessIn (signature j).role → some j ≡ some i → TimelessIn (signature i).role
  this j h e = let q : j ≡ i = cc in subst (λ (k : Instruction). TimelessIn (signature k).role) q h

  pub code_timeless : instruction_of code n ≡ some i → TimelessIn (signature i).role
  unfolding instruction_of
  code_timeless =
      chosen (eqb code 1) _ _ (this (constant (unzigzag n)) tt)
      (chosen (eqb code 2) _ _ (this (current n) tt)
      (chosen (eqb code 3) _ _ (this (previous n) tt)
      (chosen (leb 4 code && leb code 8) _ _ (this (operation (operation_of code)) tt)
      (chosen (eqb code 9) _ _ (this negate tt)
      (chosen (leb 10 code && leb code 15) _ _ (this (comparison (comparison_of code)) tt)
      (chosen (eqb code 16) _ _ (this negated tt)
      (chosen (eqb code 17) _ _ (this both tt)
      (chosen (eqb code 18) _ _ (this either tt)
      (chosen (eqb code 19) _ _ (this gate tt)
      (chosen (eqb code 20) _ _ (this (pick changing n) tt)
      (chosen (eqb code 21) _ _ (this (assign n) tt)
      (chosen (eqb code 22) _ _ (this (settle n) tt)
      (chosen (eqb code 24) _ _ (this (pick rising n) tt)
      (chosen (eqb code 25) _ _ (this (pick falling n) tt) (λ e. let z : ◌≡◌ {A = ℕ} 0 1 = cc in let f : ⊥ = omega arith in absurd f)))))))))))))))

module _ (bytes : List ℕ) (at : ℕ) (i : Instruction) (next : ℕ) where
  pub one_timeless : fetch_one bytes at ≡ got i next → TimelessIn (signature i).role
  unfolding fetch_one
  one_timeless e = inside (ltb at (length bytes)) e
    where
      plain : (n : ℕ) (o : Option Instruction) (to : ℕ) → instruction_of (get_or bytes at 0) n ≡ o → decoded o to ≡ got i next → TimelessIn (signature i).role
      plain n none to h q = let z : ◌≡◌ {A = ℕ} 0 1 = cc in let f : ⊥ = omega arith in absurd f
      plain n (some j) to h q = let w : j ≡ i = cc in code_timeless (get_or bytes at 0) n i (h ∙ ap some w)

      numbered : (r : Read ℕ) → (r then λ n to. decoded (instruction_of (get_or bytes at 0) n) to) ≡ got i next → TimelessIn (signature i).role
      numbered nothing q = let z : ◌≡◌ {A = ℕ} 0 1 = cc in let f : ⊥ = omega arith in absurd f
      numbered (got n to) q = plain n (instruction_of (get_or bytes at 0) n) to refl q

      behind : (b : Bool) → cond b (number_at bytes (at + 1) then λ n to. decoded (instruction_of (get_or bytes at 0) n) to) (decoded (instruction_of (get_or bytes at 0) 0) (at + 1)) ≡ got i next → TimelessIn (signature i).role
      behind true q = numbered (number_at bytes (at + 1)) q
      behind false q = plain 0 (instruction_of (get_or bytes at 0) 0) (at + 1) refl q

      inside : (b : Bool) → cond b (fetch_code bytes (get_or bytes at 0) (at + 1)) nothing ≡ got i next → TimelessIn (signature i).role
      inside true q = behind (has_operand (get_or bytes at 0)) q
      inside false q = let z : ◌≡◌ {A = ℕ} 0 1 = cc in let f : ⊥ = omega arith in absurd f

  timer_timed : timer_at bytes (at + 1) ≡ got i next → TimelessIn (signature i).role → ⊥
  unfolding timer_at
  timer_timed e h = first (number_at bytes (at + 1)) e
    where
      third : (t w : ℕ) (r : Read ℕ) → (r then λ n at₃. got (timer t w n) at₃) ≡ got i next → ⊥
      third t w nothing q = let z : ◌≡◌ {A = ℕ} 0 1 = cc in omega arith
      third t w (got n at₃) q = let j : timer t w n ≡ i = cc in subst (λ (k : Instruction). TimelessIn (signature k).role) (sym j) h

      second : (t : ℕ) (r : Read ℕ) → (r then λ w at₂. number_at bytes at₂ then λ n at₃. got (timer t w n) at₃) ≡ got i next → ⊥
      second t nothing q = let z : ◌≡◌ {A = ℕ} 0 1 = cc in omega arith
      second t (got w at₂) q = third t w (number_at bytes at₂) q

      first : (r : Read ℕ) → (r then λ t at₁. number_at bytes at₁ then λ w at₂. number_at bytes at₂ then λ n at₃. got (timer t w n) at₃) ≡ got i next → ⊥
      first nothing q = let z : ◌≡◌ {A = ℕ} 0 1 = cc in omega arith
      first (got t at₁) q = second t (number_at bytes at₁) q

  -- an instruction without a timer has one operand at most
  pub timeless_one : fetch bytes at ≡ got i next → TimelessIn (signature i).role → fetch_one bytes at ≡ got i next
  unfolding fetch
  timeless_one e h = go (eqb (get_or bytes at 0) 23) e
    where
      go : (b : Bool) → cond b (timer_at bytes (at + 1)) (fetch_one bytes at) ≡ got i next → fetch_one bytes at ≡ got i next
      go true q = absurd (timer_timed q h)
      go false q = q
