-- Instructions between a gate and its pick that are passed over together: as many steps of the walk and the machine. Assumes nothing.
use Rattle.std.specs.Prelude.{Some, None}
use Rattle.std.specs.Prelude as O
use Prim.Native.Nat.{ℕ, ◌+◌, ◌*◌, ◌-◌, ◌≤◌, ◌<◌}
use native.Mathlib.Omega.{arith}
use mathlib.Core.Path.{◌≡◌, refl, sym, ap, subst, ◌∙◌}
use mathlib.Core.Bool.{Bool, true, false, not}
use mathlib.Core.List.{List}
use mathlib.Core.Logic.{inr}
use mathlib.Core.Option.{Option, some}
use lib.IntN.{ℤ}
use lib.ListN.{length, get_or}
use Rattle.arith.specs.Inner.Flags.{flags_of}
use Rattle.arith.specs.Values.{ok}
use Rattle.semantics.specs.Shape.{Setting}
use Rattle.leb128.specs.Numbers.{got, number_at, unzigzag}
use Rattle.bytecode.specs.Instructions.{Instruction, constant, current, previous, operation, settle, operation_of, instruction_of, has_operand, decoded, fetch_one}
use Rattle.bytecode.specs.Check.{Known, advance}
use Rattle.bytecode.proofs.Codes.{operation_of_lem, no_operand}
use Rattle.bytecode.proofs.Fetching.{fetch_alone, fetch_number, number_within}
use Rattle.bytecode.proofs.RoundTrip.{one_next}
use Rattle.bytecode.proofs.Soundness.{none≢some}
use Rattle.checker.specs.declared.advance.Walk.{Walk}
use Rattle.checker.specs.Inner.Walk.{Advanced, known_of, open_of, pushed, advanced_known, advance_by, Small, SmallAfter}
use Rattle.checker.specs.Inner.Stretches.{with_number}
use Rattle.checker.specs.Results.{BreaksUnlessTimed}
use Rattle.checker.proofs.Bits.{join_low}
use Rattle.checker.proofs.Steps.{operation-is, constant_is}
use Rattle.checker.proofs.Stretching.{pushed_is, number_small, two_joined, previous_pushed, current_pushed}
use Rattle.machine.specs.declared.Stepped.TheVariants as S
use Rattle.machine.specs.Step.{machine, is_pick, perform}
use Rattle.machine.specs.Inner.Memory.{held_of}
use Rattle.machine.proofs.Changes.{names_length}
use Rattle.fused.specs.declared.Progress.{Progress}
use Rattle.fused.specs.declared.Moved.{Moved}
use Rattle.fused.specs.declared.Moved.TheVariants as M
use Rattle.fused.specs.declared.ahead.Leap.{Leap}
use Rattle.fused.specs.declared.ahead.Leap.TheVariants as L
use Rattle.fused.specs.Inner.Passes.{Ready, BreaksAt, Moves, PassesBy}
use Rattle.fused.specs.Inner.Leaps.{with_held, Skips, SkipsTo, stays, further, SettledBy, Goes, lastly, first, LeapsOver, LeapsFirst}
use Rattle.fused.proofs.Joining.{names_stay, arrives, with_operand}
use Rattle.fused.proofs.Fusing.{moves_ready}
use Rattle.fused.proofs.Passing.{open_breaks, over_moves_by}

-- ---- one instruction, where nothing but numbers are held

module _ (w : Walk) (z : w.sorts ≡ 0) where
  -- a number more
  grown : (h g : ℕ) → g ≡ h + 1 → known_of (with_number (with_held w h)) ≡ known_of (with_held w g)
  grown h g e =
      let t : w.sorts * 2 ≡ w.sorts = omega (arith, z) in
      ap (λ (s : ℕ). known_of (record { held = h + 1; sorts = s; gate = w.gate; picking = w.picking; known = w.known; names = w.names })) t ∙ ap (λ (n : ℕ). known_of (with_held w n)) (sym e)

  module _ (code : List ℕ) (held at : ℕ) (small : Small (with_held w held)) (inside : at < length code) where
    -- an instruction that puts a number on top
    pushes : held < 40 → (i : Instruction) (next : ℕ) → fetch_one code at ≡ got i next → next ≤ length code → is_pick i ≡ false → advance i (known_of (with_held w held)) ≡ pushed (known_of (with_held w held))
        → Skips code (with_held w held) at (with_held w (held + 1)) next
    pushes l i next f behind n e =
        let more = number_small (with_held w held) small l in
        record {
          stride = record {
            instruction = i;
            fetched = f;
            inside = behind;
            advanced = e ∙ pushed_is (with_held w held) l ∙ ap (λ (c : Known). some c) (grown held (held + 1) refl);
            small = record { few_held = more.few_held; sorts_low = omega (arith, more.sorts_low, z); few_names = small.few_names; known_low = small.known_low };
          };
          no_pick = n;
          same_gate = refl;
        }

    module _ (n next : ℕ) (num : number_at code (at + 1) ≡ got n next) (l : held < 40) where
      pub constant_skips : get_or code at 0 ≡ 1 → Skips code (with_held w held) at (with_held w (held + 1)) next
      unfolding instruction_of has_operand
      constant_skips is =
          let b = number_within code (at + 1) n next num in
          pushes l (constant (unzigzag n)) next (fetch_number code at n next inside (ap has_operand is) num ∙ rw is refl) b.inside refl (constant_is n (known_of (with_held w held)) b.operand)

      pub previous_skips : get_or code at 0 ≡ 3 → n < w.names → Skips code (with_held w held) at (with_held w (held + 1)) next
      unfolding instruction_of has_operand
      previous_skips is h =
          pushes l (previous n) next (fetch_number code at n next inside (ap has_operand is) num ∙ rw is refl) (number_within code (at + 1) n next num).inside refl (previous_pushed (with_held w held) n h)

      pub current_skips : get_or code at 0 ≡ 2 → get_or (flags_of w.names w.known) n false ≡ true → Skips code (with_held w held) at (with_held w (held + 1)) next
      unfolding instruction_of has_operand
      current_skips is h =
          pushes l (current n) next (fetch_number code at n next inside (ap has_operand is) num ∙ rw is refl) (number_within code (at + 1) n next num).inside refl (current_pushed (with_held w held) n h)

    pub operation_skips : 4 ≤ get_or code at 0 → get_or code at 0 ≤ 8 → 2 ≤ held → Skips code (with_held w held) at (with_held w (held - 1)) (at + 1)
    operation_skips least most l =
        let byte = get_or code at 0 in
        let o = operation_of byte in
        let e : held ≡ held - 1 + 1 = omega arith in
        record {
          stride = record {
            instruction = operation o;
            fetched = fetch_alone code at inside (no_operand byte least (omega arith)) ∙ ap (λ (i : Option Instruction). decoded i (at + 1)) (operation_of_lem byte 0 least most);
            inside = omega arith;
            advanced = subst (λ (c : Known). advance (operation o) c ≡ some (known_of (with_held w (held - 1)))) (grown (held - 1) held e) (operation-is o _ ∙ two_joined (with_held w (held - 1)) (omega arith) (omega (arith, z)));
            small = record { few_held = omega (arith, small.few_held); sorts_low = omega (arith, z, join_low held w.sorts 0 l small.sorts_low (omega arith)); few_names = small.few_names; known_low = small.known_low };
          };
          no_pick = refl;
          same_gate = refl;
        }

-- ---- so many of them

module _ (code : List ℕ) (w : Walk) (at : ℕ) where
  -- each has a byte at least
  pub skips_far : (n : ℕ) (k : Walk) (next : ℕ) → SkipsTo code w at n k next → at + n ≤ next
  skips_far _ _ _ stays = omega arith
  skips_far _ _ _ (further n k next j later o s) = omega (arith, skips_far n k next o, (one_next code next s.stride.instruction later s.stride.fetched).1)

  pub skips_some : (n : ℕ) (k : Walk) (next : ℕ) → SkipsTo code w at n k next → at < next → 1 ≤ n
  skips_some _ _ _ stays l = let f : ⊥ = omega arith in absurd f
  skips_some _ _ _ (further n k next j later o s) l = omega arith

  pub skips_kept : Small w → (n : ℕ) (k : Walk) (next : ℕ) → SkipsTo code w at n k next → Small k × (k.gate ≡ w.gate)
  skips_kept small _ _ _ stays = (small, refl)
  skips_kept small _ _ _ (further n k next j later o s) = (s.stride.small, s.same_gate ∙ (skips_kept small n k next o).1)

  -- none of them
  pub skips_none : (n : ℕ) (k : Walk) (next : ℕ) → SkipsTo code w at n k next → n ≡ 0 → (k ≡ w) × (next ≡ at)
  skips_none _ _ _ stays e = (refl, refl)
  skips_none _ _ _ (further n k next j later o s) e = let f : ⊥ = omega arith in absurd f

-- ---- walk and machine

abbrev pub passing_at : Progress → Walk → ℕ → Progress
passing_at b k next = record { walk = k; at = next; picked = b.picked; passing = true }

pub itself : (b : Progress) → b.passing ≡ true → passing_at b b.walk b.at ≡ b
itself b go = ap (λ (t : Bool). record { walk = b.walk; at = b.at; picked = b.picked; passing = t }) (sym go)

module _ (code : List ℕ) {low high prev cur vals : List ℤ} {b : Progress} (r : Ready low high prev cur vals b) (go : b.passing ≡ true) where
  pub ready_at : (n : ℕ) (k : Walk) (next : ℕ) → SkipsTo code b.walk b.at n k next → Ready low high prev cur vals (passing_at b k next)
  ready_at _ _ _ stays = record { small = r.small; sized = r.sized; room = r.room; named = r.named; opened = λ t. r.opened go }
  ready_at _ _ _ (further n k next j later o s) =
      let q = ready_at n k next o in
      record { small = s.stride.small; sized = names_stay s.stride.instruction k j s.stride.advanced ∙ q.sized; room = r.room; named = r.named; opened = λ t. ap open_of s.same_gate ∙ q.opened refl }

  skip_moves : (k : Walk) (next : ℕ) (j : Walk) (later : ℕ) → Ready low high prev cur vals (passing_at b k next) → Skips code k next j later
      → Moves code low high prev (passing_at b k next) vals cur vals cur (passing_at b j later)
  skip_moves k next j later q s =
      over_moves_by code q refl (M.On (passing_at b j later)) record {
        stride = s.stride;
        same_picked = refl;
        passing_is = sym (ap not s.no_pick);
      }

  -- and what goes on behind them
  pub over_then : (n : ℕ) (k : Walk) (next : ℕ) → SkipsTo code b.walk b.at n k next → (m : ℕ) (last : Progress) (cur₁ : List ℤ) → Goes code low high prev m (passing_at b k next) vals cur last vals cur₁
      → Goes code low high prev (n + m) b vals cur last vals cur₁
  over_then _ _ _ stays m last cur₁ g =
      let e : m ≡ 0 + m = omega arith in
      subst (λ (t : ℕ). Goes code low high prev t b vals cur last vals cur₁) e (subst (λ (x : Progress). Goes code low high prev m x vals cur last vals cur₁) (itself b go) g)
  over_then _ _ _ (further n k next j later o s) m last cur₁ g =
      let e : n + (1 + m) ≡ n + 1 + m = omega arith in
      subst (λ (t : ℕ). Goes code low high prev t b vals cur last vals cur₁) e
      (over_then n k next o (1 + m) last cur₁ (first m (passing_at b k next) vals cur vals cur (passing_at b j later) vals cur₁ last (skip_moves k next j later (ready_at n k next o) s) refl refl g))

  pub over_goes : (n : ℕ) (k : Walk) (next : ℕ) → SkipsTo code b.walk b.at n k next → 1 ≤ n → Goes code low high prev n b vals cur (passing_at b k next) vals cur
  over_goes _ _ _ stays l = let f : ⊥ = omega arith in absurd f
  over_goes _ _ _ (further n k next j later o s) l =
      over_then n k next o 1 (passing_at b j later) cur (lastly (passing_at b k next) vals cur vals cur (passing_at b j later) (skip_moves k next j later (ready_at n k next o) s))

  module _ (n : ℕ) (k : Walk) (next : ℕ) (o : SkipsTo code b.walk b.at n k next) (q : Progress) (p : PassesBy code (passing_at b k next) (M.On q)) where
    pick_moves : Moves code low high prev (passing_at b k next) vals cur vals cur q
    pick_moves = over_moves_by code (ready_at n k next o) refl (M.On q) p

    -- those up to the pick, and the pick
    pub over_pick : (cur₁ : List ℤ) → cur₁ ≡ cur → Goes code low high prev (n + 1) b vals cur q vals cur₁
    over_pick cur₁ e = rw e (over_then n k next o 1 q cur (lastly (passing_at b k next) vals cur vals cur q pick_moves))

    -- and a settle behind it
    pub over_settle : (t : Progress) (cur₁ : List ℤ) → SettledBy code prev q cur cur₁ (Some t) → Goes code low high prev (n + 2) b vals cur t vals cur₁
    over_settle t cur₁ s =
        over_then n k next o 2 t cur₁ (first 1 (passing_at b k next) vals cur vals cur q vals cur₁ t pick_moves refl refl (lastly q vals cur vals cur₁ t (s low high vals (moves_ready (ready_at n k next o) vals cur q pick_moves refl refl))))

-- ---- what an instruction that is passed over leads to

pub passed_as : (code : List ℕ) (p : Progress) (m x : Moved) → PassesBy code p m → m ≡ x → PassesBy code p x
passed_as code p m x h e = subst (λ (y : Moved). PassesBy code p y) e h

-- none was passed over before it
pub breaks_here : (code : List ℕ) (b : Progress) (n : ℕ) (k : Walk) (next : ℕ) → SkipsTo code b.walk b.at n k next → n ≡ 0 → BreaksUnlessTimed code next (known_of k) → BreaksAt code b
breaks_here code b n k next o e h =
    let same = skips_none code b.walk b.at n k next o e in
    subst (λ (x : ℕ). BreaksUnlessTimed code x (known_of b.walk)) same.1 (subst (λ (x : Walk). BreaksUnlessTimed code next (known_of x)) same.0 h)

pub first_over : (code : List ℕ) (prev : List ℤ) (b : Progress) (cur cur₁ : List ℤ) (r : Leap) → b.passing ≡ true → LeapsOver code prev b cur cur₁ r → LeapsFirst code prev b cur cur₁ r
first_over code prev b cur cur₁ (L.On k n) go h = inr (go, h)
first_over code prev b cur cur₁ (L.Refused k number) go h = h
first_over code prev b cur cur₁ L.Broken go h = h

-- ---- a settle

pub settled_as : (code : List ℕ) (prev : List ℤ) (b : Progress) (cur cur₁ : List ℤ) (m x : O.Option Progress) → SettledBy code prev b cur cur₁ m → m ≡ x → SettledBy code prev b cur cur₁ x
settled_as code prev b cur cur₁ m x h e = subst (λ (y : O.Option Progress). SettledBy code prev b cur cur₁ y) e h

module _ (code : List ℕ) (prev : List ℤ) (b : Progress) (cur : List ℤ) (within : b.at < length code) (is : get_or code b.at 0 ≡ 22) (n next : ℕ) (num : number_at code (b.at + 1) ≡ got n next) (k : Walk) (a : Advanced)
    (kept : a ≡ Some k) (e : advanced_known a ≡ advance_by (some (settle n)) (known_of b.walk)) (small : SmallAfter a) where
  -- none stands behind an open gate
  not_open : open_of b.walk.gate ≡ true → ⊥
  unfolding instruction_of
  not_open g = none≢some _ (sym (open_breaks b.walk g 22 n (omega arith) (λ x. omega (arith, x)) (λ x. omega (arith, x)) (λ x. omega (arith, x))) ∙ sym e ∙ ap advanced_known kept)

  pub settles : (cur₁ : List ℤ) → ((ns : Setting) (vals : List ℤ) → length ns.ranges ≡ length prev → ok (machine false false (held_of vals b.walk.held) cur₁) ≡ perform ns prev (settle n) b.picked (held_of vals b.walk.held) cur)
      → SettledBy code prev b cur cur₁ (Some (record { walk = k; at = next; picked = false; passing = false }))
  unfolding instruction_of has_operand
  settles cur₁ acts low high vals r =
      arrives r go code next k vals cur₁ (some (settle n)) (with_operand code b within 22 is refl n next num) (number_within _ _ _ _ num).inside a kept e small
      (S.Next (record { held = b.walk.held; picked = false; passing = false })) (λ ns q. acts ns vals (names_length ns.ranges low high q ∙ sym r.named.previous)) _ refl
    where
      go : b.passing ≡ false
      go = by b.passing refl
        where
          by : (t : Bool) → b.passing ≡ t → b.passing ≡ false
          by false p = p
          by true p = absurd (not_open (r.opened p))
