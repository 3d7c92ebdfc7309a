-- What holds at each turn of the loop over the code: what is left of the walk makes the whole check, what is left to do makes the
-- whole run. Assumes nothing.
use Prim.Native.Nat.{ℕ, ◌+◌, ◌-◌, ◌≤◌, ◌<◌}
use native.Mathlib.Omega.{arith}
use mathlib.Core.Path.{◌≡◌, refl, sym, ap, subst, ◌∙◌}
use mathlib.Core.Bool.{Bool, true, false, cond, false≢true}
use mathlib.Core.List.{List}
use mathlib.Core.Logic.{◌⊎◌, inl, inr}
use mathlib.Core.Option.{some}
use lib.IntN.{ℤ}
use lib.ListN.{length}
use Rattle.limits.specs.Answer.{accepted, refused}
use Rattle.semantics.specs.Shape.{Setting}
use Rattle.bytecode.specs.Check.{complete}
use Rattle.bytecode.specs.Inner.Timers.{NoTimers}
use Rattle.bytecode.proofs.Fetching.{one_fetched}
use Rattle.bytecode.proofs.RoundTrip.{one_next}
use Rattle.checker.specs.Inner.Walk.{known_of, initial_walk}
use Rattle.checker.specs.declared.Verdict.{Verdict}
use Rattle.checker.specs.declared.Verdict.TheVariants as J
use Rattle.checker.specs.Results.{Judges}
use Rattle.checker.proofs.Walking.{WalksTo, walks_here, walks_on, walks_step, judges_on, judges_complete, judges_missing, answers_whole, initial_small}
use Rattle.machine.specs.declared.Registers.{Registers}
use Rattle.machine.specs.declared.Stepped.TheVariants.{Next, Refused}
use Rattle.machine.specs.Inner.Memory.{held_of, RangesIn, OneEach}
use Rattle.machine.specs.Inner.Dispatch.{dispatched_of}
use Rattle.machine.proofs.Loop.{Going, ended, stopped, again}
use Rattle.machine.proofs.Dispatching.{one_done}
use Rattle.fused.specs.declared.Progress.{Progress}
use Rattle.fused.specs.declared.ahead.Leap.{Leap}
use Rattle.fused.specs.declared.ahead.Leap.TheVariants as L
use Rattle.fused.specs.declared.Ended.{Ended}
use Rattle.fused.specs.declared.Ended.TheVariants as E
use Rattle.fused.specs.Inner.Passes.{registers_of, Ready, BreaksAt, Moves, Refuses, RefusedBy, CheckedCode, BrokenBy, BrokenCode, Succeeds, Fails, RunBy}
use Rattle.fused.specs.Inner.Leaps.{Goes, lastly, first, LeapsBy, LeapsFirst}
use Rattle.fused.proofs.Joining.{names_stay}

-- the settings that lows and highs stand for
abbrev Settings : List ℤ → List ℤ → Setting → Type 0
Settings low high ns = RangesIn ns.ranges low high

-- nothing held, nothing picked, nothing passed over
abbrev idle : Registers
idle = record { held = 0; picked = false; passing = false }

-- before the first instruction
abbrev pub fresh : ℕ → ℕ → Progress
fresh inputs names = record { walk = initial_walk inputs names; at = 0; picked = false; passing = false }

pub record Fusing (code : List ℕ) (low high prev : List ℤ) (inputs : ℕ) (cur₀ vals₀ cur vals : List ℤ) (b : Progress) (steps : ℕ) : Type 0 where
  pub ready : Ready low high prev cur vals b
  pub walks : WalksTo code 0 (known_of (initial_walk inputs (length low))) b.at (known_of b.walk)
  pub going : Going code (Settings low high) low high prev cur₀ vals₀ 0 (length code) idle cur vals (registers_of b) b.at steps
  pub few : steps ≤ b.at

pub fusing_begins : (code : List ℕ) (low high prev : List ℤ) (inputs : ℕ) (cur vals : List ℤ) → OneEach low high prev cur → inputs ≤ length low → length low ≤ 64 → 40 ≤ length vals
    → Fusing code low high prev inputs cur vals cur vals (fresh inputs (length low)) 0
fusing_begins code low high prev inputs cur vals named l m room =
    let e : length code - 0 ≡ length code = omega arith in
    record {
      ready = record { small = initial_small inputs (length low) l m; sized = refl; room = room; named = named; opened = λ t. absurd (false≢true t) };
      walks = walks_here code 0 _;
      going = record { stack = record { few = omega arith; room = room }; named = named; wide = refl; deep = refl; within = omega arith; goes = λ ns start r. let f : start + 0 ≡ start = omega arith in rw (e, f) };
      few = omega arith;
    }

-- ---- the memory still fits

pub moves_ready : {code : List ℕ} {low high prev cur vals : List ℤ} {b : Progress} → Ready low high prev cur vals b → (vals₁ cur₁ : List ℤ) (k : Progress) → Moves code low high prev b vals cur vals₁ cur₁ k → length vals₁ ≡ length vals → length cur₁ ≡ length cur
    → Ready low high prev cur₁ vals₁ k
moves_ready {b = b} r vals₁ cur₁ k m deeper wider =
    record {
      small = m.stride.small;
      sized = names_stay m.stride.instruction b.walk k.walk m.stride.advanced ∙ r.sized;
      room = omega (arith, r.room);
      named = record { highs = r.named.highs; previous = r.named.previous; current = wider ∙ r.named.current };
      opened = m.opened;
    }

pub goes_ready : {code : List ℕ} {low high prev : List ℤ} (n : ℕ) (b : Progress) (vals cur : List ℤ) (k : Progress) (vals₁ cur₁ : List ℤ) → Goes code low high prev n b vals cur k vals₁ cur₁ → Ready low high prev cur vals b
    → length vals₁ ≡ length vals → length cur₁ ≡ length cur → Ready low high prev cur₁ vals₁ k
goes_ready _ _ _ _ _ _ _ (lastly b vals cur vals₁ cur₁ k m) r deeper wider = moves_ready r vals₁ cur₁ k m deeper wider
goes_ready _ _ _ _ _ _ _ (first n b vals cur vals₁ cur₁ m vals₂ cur₂ k o deep wide rest) r deeper wider =
    goes_ready n m vals₁ cur₁ k vals₂ cur₂ rest (moves_ready r vals₁ cur₁ m o deep wide) (deeper ∙ sym deep) (wider ∙ sym wide)

few_held : (p : Bool) (n : ℕ) → n ≤ 40 → cond p 0 n ≤ 40
few_held true n h = omega arith
few_held false n h = h

module _ {code : List ℕ} {low high prev : List ℤ} {inputs : ℕ} {cur₀ vals₀ cur vals : List ℤ} {b : Progress} {steps : ℕ}
    (f : Fusing code low high prev inputs cur₀ vals₀ cur vals b steps) where
  pub leapt_refused : (vals₁ cur₁ : List ℤ) (r : Leap) (k : Progress) (number : ℕ) → LeapsBy code low high prev b vals cur vals₁ cur₁ r → r ≡ L.Refused k number
      → Refuses code low high prev b vals cur k number
  leapt_refused vals₁ cur₁ r k number m e = subst (λ x. LeapsBy code low high prev b vals cur vals₁ cur₁ x) e m

  pub leapt : (vals₁ cur₁ : List ℤ) (r : Leap) (k : Progress) (n : ℕ) → LeapsBy code low high prev b vals cur vals₁ cur₁ r → r ≡ L.On k n → Goes code low high prev n b vals cur k vals₁ cur₁
  leapt vals₁ cur₁ r k n m e = subst (λ x. LeapsBy code low high prev b vals cur vals₁ cur₁ x) e m

  pub leapt_broken : (vals₁ cur₁ : List ℤ) (r : Leap) → LeapsBy code low high prev b vals cur vals₁ cur₁ r → r ≡ L.Broken → BreaksAt code b
  leapt_broken vals₁ cur₁ r m e = subst (λ x. LeapsBy code low high prev b vals cur vals₁ cur₁ x) e m

  fusing_goes : (vals₁ cur₁ : List ℤ) (k : Progress) → b.at < length code → Moves code low high prev b vals cur vals₁ cur₁ k → length vals₁ ≡ length vals → length cur₁ ≡ length cur
      → Fusing code low high prev inputs cur₀ vals₀ cur₁ vals₁ k (steps + 1)
  fusing_goes vals₁ cur₁ k l m deeper wider =
      let i = m.stride.instruction in
      let behind : b.at < k.at = (one_next code b.at i k.at m.stride.fetched).1 in
      let c = one_done code (Settings low high) prev b.at (registers_of b) vals cur l (some i) k.at (one_fetched code b.at i k.at m.stride.fetched) vals₁ cur₁ (Next (registers_of k)) (few_held k.passing k.walk.held m.stride.small.few_held)
      (λ ns q. sym (m.acted ns q)) (dispatched_of k.at (Next (registers_of k))) refl in
      record {
        ready = moves_ready f.ready vals₁ cur₁ k m deeper wider;
        walks = walks_on code 0 _ _ _ _ _ f.walks (walks_step code b.at _ l (some i) k.at m.stride.fetched _ m.stride.advanced behind);
        going = again f.going (omega (arith, f.few)) vals₁ cur₁ (registers_of k) k.at 1 (record { few = c.few; some_done = omega arith; no_more = omega (arith, f.few); goes = c.goes }) deeper wider;
        few = omega (arith, f.few);
      }

  -- what the walk finds from here on
  whole : (r : Verdict) → Judges code b.at (known_of b.walk) r → Judges code 0 (known_of (initial_walk inputs (length low))) r
  whole r j = judges_on code 0 _ b.at (known_of b.walk) r f.walks j

  pub fusing_breaks : (at : ℕ) → Judges code b.at (known_of b.walk) (J.Broken at) → BrokenCode code inputs (length low) at
  fusing_breaks at j ns base = sym (answers_whole code inputs (length low) (λ base₁. refused 11 (base₁ + at)) (whole (J.Broken at) j) ns base)

  pub fusing_broken : BreaksAt code b → b.at ≤ length code → (cur₁ : List ℤ) (r : Ended) → BrokenBy code b.at r → RunBy code low high prev inputs cur₀ cur₁ r
  fusing_broken h l cur₁ (E.Done n) x = absurd x
  fusing_broken h l cur₁ (E.Refused j n) x = absurd x
  fusing_broken h l cur₁ (E.Broken at) x = rw x.0 (fusing_breaks b.at (h x.1), l)
  fusing_broken h l cur₁ E.Timed x = tt

  module _ (j : Judges code b.at (known_of b.walk) J.Sound) where
    fusing_sound : CheckedCode code inputs (length low)
    fusing_sound ns base = sym (answers_whole code inputs (length low) (λ base₁. accepted tt) (whole J.Sound j).0 ns base)

    fusing_untimed : NoTimers code 0
    fusing_untimed = (whole J.Sound j).1

  -- with what is answered of the rest of the code
  module _ (k : Progress) (number : ℕ) (l : b.at < length code) (m : Refuses code low high prev b vals cur k number) where
    behind : (r : Verdict) → Judges code k.at (known_of k.walk) r → Judges code b.at (known_of b.walk) r
    behind r j =
        judges_on code b.at (known_of b.walk) k.at (known_of k.walk) r
        (walks_step code b.at (known_of b.walk) l (some m.stride.instruction) k.at m.stride.fetched (known_of k.walk) m.stride.advanced (one_next code b.at m.stride.instruction k.at m.stride.fetched).1) j

    fusing_refused : Judges code k.at (known_of k.walk) J.Sound → Fails code low high prev inputs cur₀ number (steps + 1)
    unfolding held_of
    fusing_refused rest =
        record {
          sound = fusing_sound (behind J.Sound rest);
          untimed = fusing_untimed (behind J.Sound rest);
          place = b.at;
          went = λ ns q. sym (stopped f.going (omega (arith, f.few)) number
              (one_done code (Settings low high) prev b.at (registers_of b) vals cur l (some m.stride.instruction) k.at (one_fetched code b.at m.stride.instruction k.at m.stride.fetched) vals cur (Refused number) tt (λ ns₁ q₁. sym (m.acted ns₁ q₁)) (dispatched_of k.at (Refused number)) refl) ns q);
          within = omega (arith, f.few);
        }

    pub fusing_stops : (cur₁ : List ℤ) (r : Ended) → RefusedBy code k.at k.walk number (steps + 1) r → RunBy code low high prev inputs cur₀ cur₁ r
    fusing_stops cur₁ (E.Done n) h = absurd h
    fusing_stops cur₁ (E.Refused j n) h = rw (h.0, h.1) (fusing_refused h.2)
    fusing_stops cur₁ (E.Broken at) h = (fusing_breaks at (behind (J.Broken at) h.0), h.1)
    fusing_stops cur₁ E.Timed h = tt

  module _ (l : length code ≤ b.at) where
    pub fusing_ends : true ≡ complete (known_of b.walk) → Succeeds code low high prev inputs cur₀ cur steps
    unfolding held_of
    fusing_ends done =
        record {
          sound = fusing_sound (judges_complete code b.at _ l (sym done));
          untimed = fusing_untimed (judges_complete code b.at _ l (sym done));
          place = b.at;
          passing = b.passing;
          picked = b.picked;
          held = held_of vals (registers_of b).held;
          went = λ ns q. sym (ended f.going l ns q);
          within = f.going.within;
        }

    pub fusing_misses : false ≡ complete (known_of b.walk) → BrokenCode code inputs (length low) (length code)
    fusing_misses missing = fusing_breaks (length code) (judges_missing code b.at _ l (sym missing))

-- ---- several instructions

-- each has a byte at least, and ends inside the code
pub goes_far : {code : List ℕ} {low high prev : List ℤ} (n : ℕ) (b : Progress) (vals cur : List ℤ) (k : Progress) (vals₁ cur₁ : List ℤ) → Goes code low high prev n b vals cur k vals₁ cur₁
    → (b.at + n ≤ k.at) × (k.at ≤ length code) × (1 ≤ n)
goes_far {code} _ _ _ _ _ _ _ (lastly b vals cur vals₁ cur₁ k m) = (omega (arith, (one_next code b.at m.stride.instruction k.at m.stride.fetched).1), m.stride.inside, omega arith)
goes_far {code} _ _ _ _ _ _ _ (first n b vals cur vals₁ cur₁ m vals₂ cur₂ k o deeper wider rest) =
    let far = goes_far n m vals₁ cur₁ k vals₂ cur₂ rest in
    (omega (arith, far.0, (one_next code b.at o.stride.instruction m.at o.stride.fetched).1), far.1, omega arith)

pub fusing_leaps : {code : List ℕ} {low high prev : List ℤ} {inputs : ℕ} {cur₀ vals₀ : List ℤ} {steps : ℕ} (n : ℕ) (b : Progress) (vals cur : List ℤ) (k : Progress) (vals₁ cur₁ : List ℤ)
    → Goes code low high prev n b vals cur k vals₁ cur₁ → Fusing code low high prev inputs cur₀ vals₀ cur vals b steps → length vals₁ ≡ length vals → length cur₁ ≡ length cur
    → Fusing code low high prev inputs cur₀ vals₀ cur₁ vals₁ k (steps + n)
fusing_leaps {code} _ _ _ _ _ _ _ (lastly b vals cur vals₁ cur₁ k m) f deeper wider =
    fusing_goes f vals₁ cur₁ k (one_next code b.at m.stride.instruction k.at m.stride.fetched).0 m deeper wider
fusing_leaps {code} {low} {high} {prev} {inputs} {cur₀} {vals₀} {steps} _ _ _ _ _ _ _ (first n b vals cur vals₁ cur₁ m vals₂ cur₂ k o deep wide rest) f deeper wider =
    let on = fusing_goes f vals₁ cur₁ m (one_next code b.at o.stride.instruction m.at o.stride.fetched).0 o deep wide in
    let e : steps + 1 + n ≡ steps + (1 + n) = omega arith in
    subst (λ (s : ℕ). Fusing code low high prev inputs cur₀ vals₀ cur₂ vals₂ k s) e (fusing_leaps {steps = steps + 1} n m vals₁ cur₁ k vals₂ cur₂ rest on (deeper ∙ sym deep) (wider ∙ sym wide))

-- ---- what is passed over first

pub first_not_refused : (code : List ℕ) (prev : List ℤ) (b : Progress) (cur cur₁ : List ℤ) (r : Leap) (k : Progress) (number : ℕ) → LeapsFirst code prev b cur cur₁ r → r ≡ L.Refused k number → ⊥
first_not_refused code prev b cur cur₁ r k number h e = subst (λ (x : Leap). LeapsFirst code prev b cur cur₁ x) e h

pub first_broken : (code : List ℕ) (prev : List ℤ) (b : Progress) (cur cur₁ : List ℤ) (r : Leap) → LeapsFirst code prev b cur cur₁ r → r ≡ L.Broken → BreaksAt code b
first_broken code prev b cur cur₁ r h e = subst (λ (x : Leap). LeapsFirst code prev b cur cur₁ x) e h

module _ {code : List ℕ} {low high prev : List ℤ} {inputs : ℕ} {cur₀ vals₀ cur vals : List ℤ} {b : Progress} {steps : ℕ}
    (f : Fusing code low high prev inputs cur₀ vals₀ cur vals b steps) (cur₁ : List ℤ) (r : Leap) (k : Progress) (n : ℕ) (h : LeapsFirst code prev b cur cur₁ r) (e : r ≡ L.On k n) where
  first_leapt : LeapsFirst code prev b cur cur₁ (L.On k n)
  first_leapt = subst (λ (x : Leap). LeapsFirst code prev b cur cur₁ x) e h

  pub fusing_first : length cur₁ ≡ length cur → Fusing code low high prev inputs cur₀ vals₀ cur₁ vals k (steps + n)
  fusing_first wider = by first_leapt
    where
      by : LeapsFirst code prev b cur cur₁ (L.On k n) → Fusing code low high prev inputs cur₀ vals₀ cur₁ vals k (steps + n)
      by (inl x) =
          let z : steps ≡ steps + n = omega (arith, x.2) in
          let on = subst (λ (p : Progress). Fusing code low high prev inputs cur₀ vals₀ cur vals p steps) (sym x.1) f in
          subst (λ (s : ℕ). Fusing code low high prev inputs cur₀ vals₀ cur₁ vals k s) z (subst (λ (c : List ℤ). Fusing code low high prev inputs cur₀ vals₀ c vals k steps) (sym x.3) on)
      by (inr x) = fusing_leaps n b vals cur k vals cur₁ (x.1 low high vals f.ready) f refl wider

  -- how far: so many bytes at least; and nothing is passed over where none went
  pub first_far : b.at < length code → (b.at + n ≤ k.at) × (k.at ≤ length code) × ((b.at < k.at) ⊎ (k.passing ≡ false))
  first_far l = by first_leapt
    where
      by : LeapsFirst code prev b cur cur₁ (L.On k n) → (b.at + n ≤ k.at) × (k.at ≤ length code) × ((b.at < k.at) ⊎ (k.passing ≡ false))
      by (inl x) = let same = ap (λ (p : Progress). p.at) x.1 in (omega (arith, same, x.2), omega (arith, same, l), inr (ap (λ (p : Progress). p.passing) x.1 ∙ x.0))
      by (inr x) =
          let far = goes_far n b vals cur k vals cur₁ (x.1 low high vals f.ready) in
          let less : b.at < k.at = omega (arith, far.0, far.2) in
          (far.0, far.1, inl less)
