-- What holds at each turn of a run's loop. Assumes nothing.
use mathlib.Core.Path.{◌≡◌, refl, sym, ap, subst, ◌∙◌}
use mathlib.Core.Bool.{Bool, true, false}
use mathlib.Core.List.{List}
use mathlib.Core.Logic.{◌⊎◌, inl, inr}
use mathlib.Core.Option.{Option, none, some}
use Prim.Native.Nat.{ℕ, zero, suc, ◌+◌, ◌-◌, ◌≤◌, ◌<◌}
use native.Mathlib.Omega.{arith}
use borrow.Author.Tests.{lt-ltb}
use lib.IntN.{ℤ}
use lib.ListN.{length, get_or}
use Rattle.arith.specs.Values.{ok, refusal}
use Rattle.arith.proofs.Flags.{length_flags}
use Rattle.semantics.specs.Formula.{State}
use Rattle.semantics.specs.Shape.{Setting}
use Rattle.bytecode.specs.Instructions.{Instruction, decoded, fetch}
use Rattle.machine.specs.declared.Registers.{Registers}
use Rattle.machine.specs.Step.{Machine}
use Rattle.machine.specs.Runs.{ran, after_step, run}
use Rattle.machine.specs.Inner.Memory.{machine_of, step_outcome, stepped, SettingIn, NamedIn, Stack, Few, OneEach}
use Rattle.machine.specs.declared.Executed.{Executed}
use Rattle.machine.specs.declared.Stepped.TheVariants as S
use Rattle.machine.specs.declared.Timing.{Timing}
use Rattle.std.specs.Prelude.{Some, None}
use Rattle.std.specs.Prelude as O
use Rattle.machine.specs.declared.dispatch.Dispatched.{Dispatched}
use Rattle.machine.specs.declared.dispatch.Dispatched.TheVariants as D
use Rattle.machine.specs.Inner.Dispatch.{registers, Continues, Stops, AtTimer, DispatchedBy, WorkedBy, resting_at, refused_at, RestsAt, RanTo}
use Rattle.machine.specs.Inner.Passing.{FirstBy}
use Rattle.machine.proofs.Laws.{run_end_lem, run_broken}

-- the memory fits, and what is left to do makes the whole run
pub record Going (code : List ℕ) (settings : Setting → Type 0) (low high prev cur₀ vals₀ : List ℤ) (from budget : ℕ) (m : Registers) (cur vals : List ℤ) (k : Registers) (at done : ℕ) : Type 0 where
  pub stack : Stack k vals
  pub named : OneEach low high prev cur
  pub wide : length cur ≡ length cur₀
  pub deep : length vals ≡ length vals₀
  pub within : done ≤ budget
  pub goes : (ns : Setting) (start : ℕ) → settings ns
      → run ns prev code budget from start (machine_of m vals₀ cur₀) ≡ run ns prev code (budget - done) at (start + done) (machine_of k vals cur)

-- one instruction of a run, given the bytes that were fetched
pub run_fetched : (ns : Setting) (s : State) (code : List ℕ) (budget at n : ℕ) (m : Machine) (o : Option Instruction) (next : ℕ) → decoded o next ≡ fetch code at → at < length code → 0 < budget
    → run ns s code budget at n m ≡ after_step (stepped ns s o m) (n + 1) at (λ m₁. run ns s code (budget - 1) next (n + 1) m₁)
run_fetched ns s code zero at n m o next f l p = absurd (omega arith)
run_fetched ns s code (suc budget) at n m none next f l p = run_broken ns s code (suc budget) at n m l (sym f) p
run_fetched ns s code (suc budget) at n m (some i) next f l p =
    let q : suc budget - 1 ≡ budget = omega arith in
    rw (lt-ltb at (length code) l, ← f, q)

module _ {code : List ℕ} {settings : Setting → Type 0} {low high prev cur₀ vals₀ : List ℤ} {from budget : ℕ} {m : Registers} {cur vals : List ℤ} {k : Registers} {at done : ℕ}
    (g : Going code settings low high prev cur₀ vals₀ from budget m cur vals k at done) where
  -- the whole run from its start on
  whole : (ns : Setting) → settings ns → run ns prev code (budget - done) at done (machine_of k vals cur) ≡ run ns prev code budget from 0 (machine_of m vals₀ cur₀)
  whole ns r = let e : 0 + done ≡ done = omega arith in sym (rw e at (g.goes ns 0 r))

  pub ended : length code ≤ at → (ns : Setting) → settings ns → ran done at (ok (machine_of k vals cur)) ≡ run ns prev code budget from 0 (machine_of m vals₀ cur₀)
  ended h ns r = sym (run_end_lem ns prev code (budget - done) at done (machine_of k vals cur) h) ∙ whole ns r

  pub spent : budget ≤ done → (ns : Setting) → settings ns → ran done at (ok (machine_of k vals cur)) ≡ run ns prev code budget from 0 (machine_of m vals₀ cur₀)
  spent h ns r = let e : budget - done ≡ 0 = omega (arith, g.within) in rw e at (whole ns r)

  -- what was dispatched, by its answer
  module _ (vs cs : List ℤ) (d : Dispatched) (by : DispatchedBy code settings prev at k vals cur vs cs (budget - done) d) where
    pub went : (held : ℕ) (c p : Bool) (next n : ℕ) → d ≡ D.On held c p next n → Continues code settings prev at k vals cur vs cs (budget - done) (registers held c p) next n
    went held c p next n is = subst (λ x. DispatchedBy code settings prev at k vals cur vs cs (budget - done) x) is by

    pub halted : (number : ℕ) → d ≡ D.Refused number → Stops code settings prev at k vals cur number
    halted number is = subst (λ x. DispatchedBy code settings prev at k vals cur vs cs (budget - done) x) is by

    pub timer_at_lem : d ≡ D.Timed → AtTimer code at k vals cur vs cs
    timer_at_lem is = subst (λ x. DispatchedBy code settings prev at k vals cur vs cs (budget - done) x) is by

  module _ (h : done < budget) where
    pub stopped : (number : ℕ) → Stops code settings prev at k vals cur number → (ns : Setting) → settings ns → ran (done + 1) at (refusal number) ≡ run ns prev code budget from 0 (machine_of m vals₀ cur₀)
    stopped number s ns r = sym (s ns (budget - done) done r (omega arith)) ∙ whole ns r

    pub again : (vs cs : List ℤ) (t : Registers) (next n : ℕ) → Continues code settings prev at k vals cur vs cs (budget - done) t next n → length vs ≡ length vals → length cs ≡ length cur
        → Going code settings low high prev cur₀ vals₀ from budget m cs vs t next (done + n)
    again vs cs t next n c deeper wider =
        record {
          stack = record { few = c.few; room = omega (arith, g.stack.room) };
          named = record { highs = g.named.highs; previous = g.named.previous; current = wider ∙ g.named.current };
          wide = wider ∙ g.wide;
          deep = deeper ∙ g.deep;
          within = omega (arith, c.no_more);
          goes = λ ns start q.
              let e : budget - done - n ≡ budget - (done + n) = omega arith in
              let f : start + done + n ≡ start + (done + n) = omega arith in
              g.goes ns start q ∙ c.goes ns (budget - done) (start + done) q c.no_more ∙ rw (e, f);
        }

  pub stands : k.passing ≡ false → Going code settings low high prev cur₀ vals₀ from budget m cur vals (registers k.held k.picked false) at done
  stands is = subst (λ (b : Bool). Going code settings low high prev cur₀ vals₀ from budget m cur vals (registers k.held k.picked b) at done) is g

  -- instructions passed over, where they are
  module _ (h : done < budget) (p : Bool) (next n : ℕ) where
    pub passed_by : (passing : Bool) → k.passing ≡ passing → FirstBy code at passing (budget - done) (Some (p, next, n))
        → Going code settings low high prev cur₀ vals₀ from budget m cur vals (registers k.held k.picked p) next (done + n)
    passed_by true is o =
        again h vals cur (registers k.held k.picked p) next n
        (record { few = g.stack.few; some_done = o.0; no_more = o.1; goes = λ ns left start q l. rw is (o.2 ns prev vals cur k.held k.picked left start l) })
        refl refl
    passed_by false is o =
        let z : done + n ≡ done = omega (arith, o.2) in
        rw (z, o.0, o.1) (stands is)

  -- at most the budget; some were, or none is passed over now
  pub first_far : (p : Bool) (next n : ℕ) (passing : Bool) → FirstBy code at passing (budget - done) (Some (p, next, n)) → (done + n ≤ budget) × ((done < done + n) ⊎ (p ≡ false))
  first_far p next n true o = (omega (arith, g.within, o.1), inl (omega (arith, o.0)))
  first_far p next n false o = (omega (arith, g.within, o.2), inr o.0)

  pub broken_by : (passing : Bool) → k.passing ≡ passing → FirstBy code at passing (budget - done) None → Stops code settings prev at k vals cur 11
  broken_by true is o = λ ns left start q l. rw is (o ns prev vals cur k.held k.picked left start l)
  broken_by false is o = absurd o

  -- a timer at work
  module _ (acting : k.passing ≡ false) (h : done < budget) (cs : List ℤ) (w : O.Option ℕ) (by : WorkedBy code settings prev at (registers k.held k.picked false) vals cur cs w) where
    pub timer_on : (next : ℕ) → w ≡ Some next → length cs ≡ length cur → Going code settings low high prev cur₀ vals₀ from budget m cs vals k next (done + 1)
    timer_on next is wider =
        let b : Continues code settings prev at (registers k.held k.picked false) vals cur vals cs 1 (registers k.held k.picked false) next 1
        = subst (λ x. WorkedBy code settings prev at (registers k.held k.picked false) vals cur cs x) is by in
        again h vals cs k next 1
        (record { few = b.few; some_done = omega arith; no_more = omega arith; goes = λ ns left start q l. rw acting (b.goes ns left start q l) })
        refl wider

    pub timer_refused : w ≡ None → (ns : Setting) → settings ns → ran (done + 1) at (refusal 11) ≡ run ns prev code budget from 0 (machine_of m vals₀ cur₀)
    timer_refused is ns q =
        let s : Stops code settings prev at (registers k.held k.picked false) vals cur 11
        = subst (λ x. WorkedBy code settings prev at (registers k.held k.picked false) vals cur cs x) is by in
        sym (rw acting (s ns (budget - done) done q (omega arith))) ∙ whole ns q

  -- ---- a run up to a timer, of settings that have some of these

  module _ (names : ℕ) (narrow : Setting → Type 0) (sub : (ns : Setting) → narrow ns → settings ns) where
    abbrev Reached : Executed → List ℤ → List ℤ → Type 0
    Reached r vs cs = RanTo code narrow prev vals₀ cur₀ names from budget m r vs cs

    rested : RestsAt code prev names (budget - done) at (S.Next k) → Reached (resting_at done at k) vals cur
    rested r = record { few = g.stack.few; within = g.within; rests = r; goes = λ ns start q. g.goes ns start (sub ns q) }

    pub rests_behind : length code ≤ at → Reached (resting_at done at k) vals cur
    rests_behind h = rested (λ l i. let b : ⊥ = omega arith in absurd b)

    pub rests_spent : budget ≤ done → Reached (resting_at done at k) vals cur
    rests_spent h = rested (λ l i. let b : ⊥ = omega arith in absurd b)

    pub rests_timed : (vs cs : List ℤ) → AtTimer code at k vals cur vs cs → names < length prev → Reached (resting_at done at k) vs cs
    rests_timed vs cs t h = rw (t.values, t.state) (rested (λ l i. (t.byte, t.acting, h)))

    pub stops : done < budget → (number : ℕ) → Stops code narrow prev at k vals cur number → (vs cs : List ℤ) → Reached (refused_at (done + 1) at number) vs cs
    stops h number s vs cs =
        record {
          few = tt;
          within = omega arith;
          rests = tt;
          goes = λ ns start q.
              let e : start + done + 1 ≡ start + (done + 1) = omega arith in
              g.goes ns start (sub ns q) ∙ s ns (budget - done) (start + done) q (omega arith) ∙ rw e;
        }

-- ---- a run that stood at a timer goes on

-- a setting has as many flags as names
pub named_in : (low high : List ℤ) (timing : Timing) (ns : Setting) → SettingIn low high timing ns → NamedIn low high timing.names ns
named_in low high timing ns q = record { ranged = q.ranged; named = ap length q.timed.flags ∙ length_flags timing.names timing.timers }

module _ {code : List ℕ} {settings : Setting → Type 0} {low high prev cur₀ vals₀ : List ℤ} {from budget : ℕ} {m : Registers} {cur vals : List ℤ} {k : Registers} {at done : ℕ}
    (g : Going code settings low high prev cur₀ vals₀ from budget m cur vals k at done)
    {narrow : Setting → Type 0} (sub : (ns : Setting) → settings ns → narrow ns) {names : ℕ} {r : Executed} {vs cs : List ℤ}
    (t : RanTo code narrow prev vals cur names at (budget - done) k r vs cs) where
  -- what was left of the budget, and what is
  left_over : budget - done - r.steps ≡ budget - (done + r.steps)
  left_over = omega (arith, g.within)

  pub reached : (h : Registers) → r.last ≡ S.Next h → length vs ≡ length vals → length cs ≡ length cur
      → Going code settings low high prev cur₀ vals₀ from budget m cs vs h r.place (done + r.steps)
  reached h is deeper wider =
      let few : Few (S.Next h) = subst Few is t.few in
      record {
        stack = record { few = few; room = omega (arith, g.stack.room) };
        named = record { highs = g.named.highs; previous = g.named.previous; current = wider ∙ g.named.current };
        wide = wider ∙ g.wide;
        deep = deeper ∙ g.deep;
        within = omega (arith, g.within, t.within);
        goes = λ ns start q.
            let f : start + done + r.steps ≡ start + (done + r.steps) = omega arith in
            g.goes ns start q ∙ t.goes ns (start + done) (sub ns q) ∙ rw (is, left_over, f);
      }

  -- inside the budget and the code it is a timer at work
  pub at_timer : (h : Registers) → r.last ≡ S.Next h → done + r.steps < budget → r.place < length code → (get_or code r.place 0 ≡ 23) × (h.passing ≡ false) × (names < length prev)
  at_timer h is less inside = subst (λ x. RestsAt code prev names (budget - done - r.steps) r.place x) is t.rests (omega (arith, g.within)) inside

  pub steps_within : done + r.steps ≤ budget
  steps_within = omega (arith, g.within, t.within)

  pub refused_on : (number : ℕ) → r.last ≡ S.Refused number → (ns : Setting) → settings ns
      → ran (done + r.steps) r.place (step_outcome r.last vs cs) ≡ run ns prev code budget from 0 (machine_of m vals₀ cur₀)
  refused_on number is ns q =
      let f : 0 + done + r.steps ≡ done + r.steps = omega arith in
      sym (rw (is, f) at (g.goes ns 0 q ∙ t.goes ns (0 + done) (sub ns q)) ∙ rw is)

-- ---- an answer that was handed on

pub so_ran : {code : List ℕ} {settings : Setting → Type 0} {prev vals cur : List ℤ} {names from budget : ℕ} {m : Registers} {r x : Executed} {vs cs : List ℤ} → r ≡ x
    → RanTo code settings prev vals cur names from budget m x vs cs → RanTo code settings prev vals cur names from budget m r vs cs
so_ran {code} {settings} {prev} {vals} {cur} {names} {from} {budget} {m} {r} {x} {vs} {cs} e t = subst (λ (y : Executed). RanTo code settings prev vals cur names from budget m y vs cs) (sym e) t
