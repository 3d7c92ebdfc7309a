-- The walk over code with timers, one instruction at a time: what the instruction before tells, what a timer asks for, and the turns of the loop. Assumes nothing.
use Prim.Native.Nat.{ℕ, zero, suc, ◌+◌, ◌≤◌, ◌<◌}
use mathlib.Core.Path.{◌≡◌, refl, sym, ap, ap₂, subst, ◌∙◌}
use mathlib.Core.Bool.{Bool, true, false, cond, ◌&&◌}
use mathlib.Core.List.{List, []}
use mathlib.Core.Option.{Option, none, some}
use native.Mathlib.Omega.{arith}
use lib.Dec.{eqb, leb, ltb}
use lib.IntN.{ℤ, pos}
use lib.ListN.{length, get_or, get_or-map}
use borrow.Author.Tests.{eq-eqb, ne_eqb, eqb-true, eqb-false, le-leb, lt-leb, lt-ltb, le-ltb, ltb-true, ltb-false}
use Rattle.limits.specs.Limits.{time_limit}
use Rattle.limits.specs.Answer.{refused}
use Rattle.arith.specs.Values.{eq_z}
use Rattle.semantics.specs.Program.{Range, no_range, range_at, is_binary, known_first}
use Rattle.leb128.specs.Numbers.{got, nothing}
use Rattle.bytecode.specs.Instructions.{Instruction, timer, instruction_of, fetch}
use Rattle.bytecode.specs.Signature.{signature}
use Rattle.bytecode.specs.Check.{known, advance, follows, is_timer_range, suits, complete, ends, check_code}
use Rattle.bytecode.proofs.Timeless.{suits_timeless, code_timeless}
use Rattle.checker.specs.declared.advance.Walk.{Walk}
use Rattle.checker.specs.declared.timed.Last.{Last}
use Rattle.std.specs.Prelude.{Some, None}
use Rattle.checker.specs.Inner.Walk.{known_of, advance_by, Small, initial_walk}
use Rattle.checker.specs.Inner.Timed.{AfterTurn, RangesStand, LastBy, PlainBy, TimedBy, Turns, TurnsBy}
use Rattle.checker.proofs.Walking.{initial_small, initial_known}

-- ---- the instruction before

eqb_next : (v w : ℕ) → eqb v w ≡ eqb (v + 1) (w + 1)
eqb_next v w = go (eqb v w) refl
  where
    go : (b : Bool) → eqb v w ≡ b → b ≡ eqb (v + 1) (w + 1)
    go true e = sym (eq-eqb (v + 1) (w + 1) (omega (arith, eqb-true v w e)))
    go false e = sym (ne_eqb (v + 1) (w + 1) λ h. eqb-false v w e (omega arith))

-- nothing, or an instruction that ends no rule
pub last_none : (before : Option Instruction) → ((t w : ℕ) → follows before t w ≡ false) → LastBy before (record { of = 0; least = 0 })
last_none before h t w = h t w ∙ sym (rw (ne_eqb 0 (w + 1) λ e. omega arith))

-- a let or a settle
pub last_rule : (before : Option Instruction) (v : ℕ) → ((t w : ℕ) → follows before t w ≡ eqb v w) → LastBy before (record { of = v + 1; least = 0 })
last_rule before v h t w = h t w ∙ (eqb_next v w ∙ sym (rw (le-leb 0 t (omega arith)) (and_yes (eqb (v + 1) (w + 1)))))
  where
    and_yes : (b : Bool) → (b && true) ≡ b
    and_yes true = refl
    and_yes false = refl

pub last_timer : (u v n : ℕ) → LastBy (some (timer u v n)) (record { of = v + 1; least = u + 1 })
last_timer u v n t w = ap₂ (λ (a b : Bool). a && b) (eqb_next v w) (before (ltb u t) refl)
  where
    before : (b : Bool) → ltb u t ≡ b → b ≡ leb (u + 1) t
    before true e = sym (le-leb (u + 1) t (omega (arith, ltb-true u t e)))
    before false e = sym (lt-leb (u + 1) t (omega (arith, ltb-false u t e)))

-- only the code bytes 21 and 22 end a rule
module _ (code n t w : ℕ) where
  chosen : (b : Bool) (o p : Option Instruction) → follows o t w ≡ false → follows p t w ≡ false → follows (cond b o p) t w ≡ false
  chosen true o p f g = f
  chosen false o p f g = g

  pub ends_none : (code ≡ 21 → ⊥) → (code ≡ 22 → ⊥) → follows (instruction_of code n) t w ≡ false
  unfolding instruction_of
  ends_none no-let no-settle =
      rw (ne_eqb code 21 no-let, ne_eqb code 22 no-settle)
      (chosen (eqb code 1) _ _ refl
      (chosen (eqb code 2) _ _ refl
      (chosen (eqb code 3) _ _ refl
      (chosen (leb 4 code && leb code 8) _ _ refl
      (chosen (eqb code 9) _ _ refl
      (chosen (leb 10 code && leb code 15) _ _ refl
      (chosen (eqb code 16) _ _ refl
      (chosen (eqb code 17) _ _ refl
      (chosen (eqb code 18) _ _ refl
      (chosen (eqb code 19) _ _ refl
      (chosen (eqb code 20) _ _ refl
      (chosen (eqb code 24) _ _ refl
      (chosen (eqb code 25) _ _ refl refl)))))))))))))

-- ---- what a timer asks for

module _ (ns : List Range) (low high start : List ℤ) (s : RangesStand ns low high start) (i : ℕ) where
  low_at : (range_at ns i).low ≡ get_or low i (pos 0)
  low_at = sym (get_or-map (λ n. n.low) ns i no_range) ∙ ap (λ (l : List ℤ). get_or l i (pos 0)) s.lower

  high_at : (range_at ns i).high ≡ get_or high i (pos 0)
  high_at = sym (get_or-map (λ n. n.high) ns i no_range) ∙ ap (λ (l : List ℤ). get_or l i (pos 0)) s.upper

  start_at_lem : (range_at ns i).start ≡ get_or start i (pos 0)
  start_at_lem = sym (get_or-map (λ n. n.start) ns i no_range) ∙ ap (λ (l : List ℤ). get_or l i (pos 0)) s.starting

  binary_is : is_binary (range_at ns i) ≡ (eq_z (get_or low i (pos 0)) (pos 0) && eq_z (get_or high i (pos 0)) (pos 1))
  unfolding is_binary
  binary_is = rw (low_at, high_at)

  timer_range_is : is_timer_range (range_at ns i) ≡ (eq_z (get_or low i (pos 0)) (pos 0) && eq_z (get_or high i (pos 0)) (pos 1) && eq_z (get_or start i (pos 0)) (pos 0))
  unfolding is_timer_range
  timer_range_is = rw (binary_is, start_at_lem)

pub suits_is : (low high start : List ℤ) (l : Last) (t w n : ℕ) (ns : List Range) (before : Option Instruction) → RangesStand ns low high start → LastBy before l
    → suits ns before (timer t w n)
    ≡ (eq_z (get_or low t (pos 0)) (pos 0) && eq_z (get_or high t (pos 0)) (pos 1) && eq_z (get_or start t (pos 0)) (pos 0) && (eq_z (get_or low w (pos 0)) (pos 0) && eq_z (get_or high w (pos 0)) (pos 1)) && (leb 1 n && leb n time_limit) && (eqb l.of (w + 1) && leb l.least t))
suits_is low high start l t w n ns before s b = rw (timer_range_is ns low high start s t, binary_is ns low high start s w, b t w)

-- ---- one instruction

module _ (code : List ℕ) (at : ℕ) (w : Walk) (last : Last) (low high start : List ℤ) (l : at < length code) where
  pub nothing_turns : fetch code at ≡ nothing → TurnsBy code at w last low high start None
  nothing_turns e ns before s b base f = rw (lt-ltb at (length code) l, e)

  module _ (next : ℕ) (behind : at < next) (inside : next ≤ length code) where
    pub plain_turns : (byte n : ℕ) (i : Instruction) → instruction_of byte n ≡ some i → fetch code at ≡ got i next → (r : AfterTurn) → PlainBy byte n next w r → TurnsBy code at w last low high start r
    plain_turns byte n i is e (Some (k, m, to)) p =
        rw p.3
        (record {
          small = p.1;
          behind = behind;
          inside = inside;
          instruction = i;
          lastly = subst (λ (o : Option Instruction). LastBy o m) is p.2;
          goes = λ ns before s b base f. let q : advance i (known_of w) ≡ some (known_of k) = sym (ap (λ (o : Option Instruction). advance_by o (known_of w)) is) ∙ p.0 in rw (lt-ltb at (length code) l, e, suits_timeless ns before (signature i).role (code_timeless byte n i is), q);
        })
    plain_turns byte n i is e None p =
        λ ns before s b base f. let q : advance i (known_of w) ≡ none = sym (ap (λ (o : Option Instruction). advance_by o (known_of w)) is) ∙ p in rw (lt-ltb at (length code) l, e, suits_timeless ns before (signature i).role (code_timeless byte n i is), q)

    pub timer_turns : (t v n : ℕ) → fetch code at ≡ got (timer t v n) next → (r : AfterTurn) → TimedBy t v n next w last low high start r → TurnsBy code at w last low high start r
    timer_turns t v n e (Some (k, m, to)) p =
        rw p.4
        (record {
          small = p.2;
          behind = behind;
          inside = inside;
          instruction = timer t v n;
          lastly = p.3;
          goes = λ ns before s b base f. rw (lt-ltb at (length code) l, e, p.0 ns before s b, p.1);
        })
    timer_turns t v n e None p = λ ns before s b base f. rw (lt-ltb at (length code) l, e) (p ns before s b (base + at) _)

-- ---- each turn of the loop

-- what is left of the walk makes the whole
pub record Timing (code : List ℕ) (base : ℕ) (low high start : List ℤ) (inputs at : ℕ) (w : Walk) (last : Last) : Type 0 where
  pub small : Small w
  pub goes : (ns : List Range) → RangesStand ns low high start
      → (before : Option Instruction) × (f : ℕ) × LastBy before last × (length code ≤ at + f)
      × (check_code ns base code (length code) 0 none (known [] false none (known_first inputs (length low))) ≡ check_code ns base code f at before (known_of w))

pub timing_begins : (code : List ℕ) (base : ℕ) (low high start : List ℤ) (inputs : ℕ) → inputs ≤ length low → length low ≤ 64 → Timing code base low high start inputs 0 (initial_walk inputs (length low)) (record { of = 0; least = 0 })
timing_begins code base low high start inputs l m =
    record {
      small = initial_small inputs (length low) l m;
      goes = λ ns s. (none, length code, last_none none (λ t w. refl), omega arith, ap (check_code ns base code (length code) 0 none) (sym (initial_known inputs (length low))));
    }

module _ {code : List ℕ} {base : ℕ} {low high start : List ℤ} {inputs at : ℕ} {w : Walk} {last : Last} (x : Timing code base low high start inputs at w last) where
  pub timing_goes : at < length code → (k : Walk) (l : Last) (next : ℕ) → Turns code at w last low high start k l next → Timing code base low high start inputs next k l
  timing_goes inside k l next t = record { small = t.small; goes = λ ns s. on ns s (x.goes ns s) }
    where
      on : (ns : List Range) → RangesStand ns low high start
          → (before : Option Instruction) × (f : ℕ) × LastBy before last × (length code ≤ at + f)
          × (check_code ns base code (length code) 0 none (known [] false none (known_first inputs (length low))) ≡ check_code ns base code f at before (known_of w))
          → (before : Option Instruction) × (f : ℕ) × LastBy before l × (length code ≤ next + f)
          × (check_code ns base code (length code) 0 none (known [] false none (known_first inputs (length low))) ≡ check_code ns base code f next before (known_of k))
      on ns s (before, zero, b, h, e) = let z : ⊥ = omega (arith, inside, h) in absurd z
      on ns s (before, suc f, b, h, e) = (some t.instruction, f, t.lastly, omega (arith, t.behind, h), e ∙ t.goes ns before s b base f)

  pub timing_breaks : at < length code → TurnsBy code at w last low high start None → (ns : List Range) → RangesStand ns low high start
      → refused 11 (base + at) ≡ check_code ns base code (length code) 0 none (known [] false none (known_first inputs (length low)))
  timing_breaks inside t ns s = on (x.goes ns s)
    where
      on : (before : Option Instruction) × (f : ℕ) × LastBy before last × (length code ≤ at + f)
          × (check_code ns base code (length code) 0 none (known [] false none (known_first inputs (length low))) ≡ check_code ns base code f at before (known_of w))
          → refused 11 (base + at) ≡ check_code ns base code (length code) 0 none (known [] false none (known_first inputs (length low)))
      on (before, zero, b, h, e) = let z : ⊥ = omega (arith, inside, h) in absurd z
      on (before, suc f, b, h, e) = sym (e ∙ t ns before s b base f)

  pub timing_ends : length code ≤ at → (b : Bool) → complete (known_of w) ≡ b → (ns : List Range) → RangesStand ns low high start
      → ends b (base + length code) ≡ check_code ns base code (length code) 0 none (known [] false none (known_first inputs (length low)))
  timing_ends outside c q ns s = on (x.goes ns s)
    where
      on : (before : Option Instruction) × (f : ℕ) × LastBy before last × (length code ≤ at + f)
          × (check_code ns base code (length code) 0 none (known [] false none (known_first inputs (length low))) ≡ check_code ns base code f at before (known_of w))
          → ends c (base + length code) ≡ check_code ns base code (length code) 0 none (known [] false none (known_first inputs (length low)))
      on (before, zero, b, h, e) = sym (e ∙ rw q)
      on (before, suc f, b, h, e) = sym (e ∙ rw (le-ltb at (length code) outside, q))
