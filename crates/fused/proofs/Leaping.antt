-- Instructions that stand ahead together: walk and machine go as many steps. Assumes nothing.
use Rattle.std.specs.Prelude.{Some, None}
use Prim.Native.Nat.{ℕ, ◌+◌, ◌*◌, ◌≤◌, ◌<◌}
use native.Mathlib.Omega.{arith}
use mathlib.Core.Path.{◌≡◌, refl, sym, subst, ◌∙◌}
use mathlib.Core.Bool.{Bool, true, false, false≢true}
use mathlib.Core.List.{List}
use mathlib.Core.Option.{some}
use lib.IntN.{ℤ}
use lib.ListN.{length, get_or, set, length-set}
use borrow.Author.Tests.{lt-ltb}
use Rattle.arith.specs.Inner.Flags.{flags_of}
use Rattle.arith.specs.Values.{ok, arithmetic}
use Rattle.semantics.specs.Formula.{State, at as value_at}
use Rattle.semantics.specs.Shape.{Setting}
use Rattle.leb128.specs.Numbers.{got, unzigzag}
use Rattle.bytecode.specs.Instructions.{Instruction, constant, current, previous, operation, comparison, operation_of, comparison_of, instruction_of, has_operand, fetch_one}
use Rattle.bytecode.specs.Check.{advance}
use Rattle.bytecode.proofs.Codes.{operation_of_lem, comparison_of_lem, no_operand}
use Rattle.bytecode.proofs.Fetching.{fetch_alone}
use Rattle.checker.specs.declared.advance.Walk.{Walk}
use Rattle.checker.specs.Inner.Walk.{known_of, pushed, Small}
use Rattle.checker.specs.Inner.Stretches.{with_number, with_sort}
use Rattle.checker.proofs.Steps.{operation-is, comparison_is, constant_is}
use Rattle.checker.proofs.Stretching.{pushed_is, number_small, truth_small, two_tested, two_joined, previous_pushed, current_pushed}
use Rattle.machine.specs.declared.Registers.{Registers}
use Rattle.machine.specs.declared.Stepped.TheVariants as S
use Rattle.machine.specs.Step.{machine, bit, push, perform}
use Rattle.machine.specs.Inner.Memory.{held_of}
use Rattle.machine.specs.Inner.Groups.{truth_of}
use Rattle.machine.proofs.Changes.{names_length}
use Rattle.machine.proofs.Codes.{truth_comparison}
use Rattle.machine.proofs.Stack.{held_put, push_put}
use Rattle.fused.specs.declared.Progress.{Progress}
use Rattle.fused.specs.declared.Moved.{Moved}
use Rattle.fused.specs.declared.Moved.TheVariants as M
use Rattle.fused.specs.declared.ahead.Leap.{Leap}
use Rattle.fused.specs.Inner.Passes.{Ready, Moves, MovesBy}
use Rattle.fused.specs.Inner.Leaps.{Seen, MadeOf, FoundBy, PairSeen, SeenBy, Goes, lastly, first, leap_of, LeapsBy}
use Rattle.machine.proofs.Fetches.{short_fetch, second_is}
use Rattle.fused.proofs.Joining.{arrives}

-- ---- a value that is put on top

module _ (w : Walk) (i : ℕ) (l : i < w.names) where
  module _ (ns : Setting) (s t : State) (c : Bool) (vs : List ℤ) (e : length ns.ranges ≡ w.names) where
    pub previous_loaded : perform ns s (previous i) c vs t ≡ push (value_at s i) c vs t
    previous_loaded = rw (e, lt-ltb i w.names l)

    pub current_loaded : perform ns s (current i) c vs t ≡ push (value_at t i) c vs t
    current_loaded = rw (e, lt-ltb i w.names l)

-- ---- what an operation or comparison makes of two numbers

number_sort : (w : Walk) → some (known_of (with_number w)) ≡ some (known_of (with_sort w 0))
number_sort w = let e : w.sorts * 2 + 0 ≡ w.sorts * 2 = omega arith in rw e

module _ (w : Walk) (byte : ℕ) (a b v : ℤ) where
  pub operation_made : 4 ≤ byte → byte ≤ 8 → arithmetic (operation_of byte) a b ≡ ok v → MadeOf w byte a b v 0
  operation_made l h e =
      record {
        acting = operation (operation_of byte);
        listed = operation_of_lem byte 0 l h;
        alone = no_operand byte l (omega arith);
        sort_low = omega arith;
        moved = operation-is (operation_of byte) (known_of (with_number (with_number w))) ∙ two_joined (with_number w) (omega arith) (omega arith) ∙ number_sort w;
        worked = λ ns s t c vs. rw e;
      }

  pub comparison_made : 10 ≤ byte → byte ≤ 15 → w.gate ≡ 0 → v ≡ bit (truth_of byte a b) → MadeOf w byte a b v 1
  comparison_made l h shut e =
      record {
        acting = comparison (comparison_of byte);
        listed = comparison_of_lem byte 0 l h;
        alone = no_operand byte (omega arith) (omega arith);
        sort_low = omega arith;
        moved = comparison_is (comparison_of byte) (known_of (with_number (with_number w))) ∙ two_tested w shut;
        worked = λ ns s t c vs. rw (e, truth_comparison byte a b (omega arith));
      }

-- ---- both values and what is made of them, as they stand

module _ (code : List ℕ) (prev cur : List ℤ) (at : ℕ) (w : Walk) (small : Small w) (l : at + 4 < length code) (one : get_or code (at + 2) 0 ≡ 1)
    (id : get_or code (at + 1) 0 < w.names) (short : get_or code (at + 3) 0 < 128) (room : w.held + 2 ≤ 40) where
  module _ (byte : ℕ) (is : get_or code at 0 ≡ byte) (has : has_operand byte ≡ true) (loading : Instruction) (i : instruction_of byte (get_or code (at + 1) 0) ≡ some loading)
      (e : advance loading (known_of w) ≡ pushed (known_of w)) (x : ℤ)
      (loads : (ns : Setting) (c : Bool) (vs : List ℤ) → length ns.ranges ≡ w.names → perform ns prev loading c vs cur ≡ push x c vs cur) where
    seen : (v : ℤ) (sort : ℕ) → MadeOf w (get_or code (at + 4) 0) x (unzigzag (get_or code (at + 3) 0)) v sort → PairSeen code prev cur at w v sort
    seen v sort m =
        record {
          loading = loading;
          x = x;
          first = short_fetch code at byte is loading (omega arith) has (omega (arith, small.few_names)) i;
          second = second_is code at l one short;
          inside = omega arith;
          short = short;
          room = room;
          admitted = e;
          loaded = loads;
          made = m;
        }

    sees : (r : Seen) → FoundBy w (get_or code (at + 4) 0) x (unzigzag (get_or code (at + 3) 0)) r → SeenBy code prev cur at w r
    sees (Some (v, sort)) m = seen v sort m
    sees None m = tt

  pub previous_sees : get_or code at 0 ≡ 3 → (r : Seen) → FoundBy w (get_or code (at + 4) 0) (value_at prev (get_or code (at + 1) 0)) (unzigzag (get_or code (at + 3) 0)) r → SeenBy code prev cur at w r
  unfolding instruction_of has_operand
  previous_sees is r m =
      let i = get_or code (at + 1) 0 in
      sees 3 is refl (previous i) refl (previous_pushed w i id) (value_at prev i) (λ ns c vs e. previous_loaded w i id ns prev cur c vs e) r m

  pub current_sees : get_or code at 0 ≡ 2 → get_or (flags_of w.names w.known) (get_or code (at + 1) 0) false ≡ true
      → (r : Seen) → FoundBy w (get_or code (at + 4) 0) (value_at cur (get_or code (at + 1) 0)) (unzigzag (get_or code (at + 3) 0)) r → SeenBy code prev cur at w r
  unfolding instruction_of has_operand
  current_sees is known r m =
      let i = get_or code (at + 1) 0 in
      sees 2 is refl (current i) refl (current_pushed w i known) (value_at cur i) (λ ns c vs e. current_loaded w i id ns prev cur c vs e) r m

-- ---- the three at once

module _ {low high prev cur vals : List ℤ} {b : Progress} (r : Ready low high prev cur vals b) where
  -- a store, and a walk over the same names
  on_ready : (k : Progress) (i : ℕ) (v : ℤ) → Small k.walk → k.walk.names ≡ b.walk.names → k.passing ≡ false → Ready low high prev cur (set vals i v) k
  on_ready k i v small names go =
      record { small = small; sized = names ∙ r.sized; room = omega (arith, length-set vals i v, r.room); named = r.named; opened = λ t. absurd (false≢true (sym go ∙ t)) }

module _ (code : List ℕ) {low high prev cur vals : List ℤ} {b : Progress} (r : Ready low high prev cur vals b) (go : b.passing ≡ false) (v : ℤ) (sort : ℕ)
    (c : PairSeen code prev cur b.at b.walk v sort) where
  abbrev y : ℤ
  y = unzigzag (get_or code (b.at + 3) 0)

  abbrev one_on : Progress
  one_on = record { walk = with_number b.walk; at = b.at + 2; picked = b.picked; passing = false }

  abbrev two_on : Progress
  two_on = record { walk = with_number (with_number b.walk); at = b.at + 4; picked = b.picked; passing = false }

  abbrev pub three_on : Progress
  three_on = record { walk = with_sort b.walk sort; at = b.at + 5; picked = b.picked; passing = false }

  abbrev holding : ℕ → Registers
  holding n = record { held = n; picked = b.picked; passing = false }

  abbrev vals_one : List ℤ
  vals_one = set vals b.walk.held c.x

  abbrev vals_two : List ℤ
  vals_two = set vals_one (b.walk.held + 1) y

  ready_one : Ready low high prev cur vals_one one_on
  ready_one = on_ready r one_on b.walk.held c.x (number_small b.walk r.small (omega (arith, c.room))) refl refl

  ready_two : Ready low high prev cur vals_two two_on
  ready_two = on_ready ready_one two_on (b.walk.held + 1) y (number_small (with_number b.walk) ready_one.small (omega (arith, c.room))) refl refl

  move_one : Moves code low high prev b vals cur vals_one cur one_on
  move_one =
      arrives r go code (b.at + 2) (with_number b.walk) vals_one cur (some c.loading) c.first (omega (arith, c.inside)) (Some (with_number b.walk)) refl
      (sym (c.admitted ∙ pushed_is b.walk (omega (arith, c.room)))) ready_one.small (S.Next (holding (b.walk.held + 1)))
      (λ ns q. push_put vals b.walk.held c.x b.picked cur (omega (arith, c.room)) r.room
      ∙ sym (c.loaded ns b.picked (held_of vals b.walk.held) (names_length ns.ranges low high q ∙ sym r.sized)))
      (M.On one_on) refl

  move_two : Moves code low high prev one_on vals_one cur vals_two cur two_on
  move_two =
      arrives ready_one refl code (b.at + 4) (with_number (with_number b.walk)) vals_two cur (some (constant y)) c.second (omega (arith, c.inside)) (Some (with_number (with_number b.walk))) refl
      (sym (constant_is (get_or code (b.at + 3) 0) (known_of (with_number b.walk)) (omega (arith, c.short)) ∙ pushed_is (with_number b.walk) (omega (arith, c.room)))) ready_two.small
      (S.Next (holding (b.walk.held + 1 + 1))) (λ ns q. push_put vals_one (b.walk.held + 1) y b.picked cur (omega (arith, c.room)) ready_one.room) (M.On two_on) refl

  sort_small : Small (with_sort b.walk sort)
  sort_small =
      let t = truth_small b.walk r.small (omega (arith, c.room)) in
      record { few_held = t.few_held; sorts_low = omega (arith, t.sorts_low, c.made.sort_low); few_names = t.few_names; known_low = t.known_low }

  abbrev pub vals_three : List ℤ
  vals_three = set vals b.walk.held v

  made_three : (ns : Setting) → ok (machine false b.picked (held_of vals_three (b.walk.held + 1)) cur) ≡ perform ns prev c.made.acting b.picked (held_of vals_two (b.walk.held + 1 + 1)) cur
  made_three ns =
      let h = b.walk.held in
      rw (held_put vals_one (h + 1) y (omega (arith, ready_one.room, c.room)), held_put vals h c.x (omega (arith, r.room, c.room)), held_put vals h v (omega (arith, r.room, c.room)))
      (sym (c.made.worked ns prev cur b.picked (held_of vals h)))

  move_three : Moves code low high prev two_on vals_two cur vals_three cur three_on
  move_three =
      let q : b.at + 4 + 1 ≡ b.at + 5 = omega arith in
      let third : fetch_one code (b.at + 4) ≡ got c.made.acting (b.at + 5) = fetch_alone code (b.at + 4) (omega (arith, c.inside)) c.made.alone ∙ rw (c.made.listed, q) in
      arrives ready_two refl code (b.at + 5) (with_sort b.walk sort) vals_three cur (some c.made.acting) third c.inside (Some (with_sort b.walk sort)) refl
      (sym c.made.moved) sort_small (S.Next (holding (b.walk.held + 1))) (λ ns q. made_three ns) (M.On three_on) refl

  pub pair_leaps : Goes code low high prev 3 b vals cur three_on vals_three cur
  pair_leaps =
      first 2 b vals cur vals_one cur one_on vals_three cur three_on move_one (length-set vals b.walk.held c.x) refl
      (first 1 one_on vals_one cur vals_two cur two_on vals_three cur three_on move_two (length-set vals_one (b.walk.held + 1) y) refl
      (lastly two_on vals_two cur vals_three cur three_on move_three))

-- ---- one instruction

single_leaps : (code : List ℕ) (low high prev : List ℤ) (b : Progress) (vals cur vals₁ cur₁ : List ℤ) (m : Moved) → MovesBy code low high prev b vals cur vals₁ cur₁ m
    → LeapsBy code low high prev b vals cur vals₁ cur₁ (leap_of m)
single_leaps code low high prev b vals cur vals₁ cur₁ (M.On k) p = lastly b vals cur vals₁ cur₁ k p
single_leaps code low high prev b vals cur vals₁ cur₁ (M.Refused k j) p = p
single_leaps code low high prev b vals cur vals₁ cur₁ M.Broken p = p

pub leaps_alone : (code : List ℕ) (low high prev : List ℤ) (b : Progress) (vals cur vals₁ cur₁ : List ℤ) (m : Moved) (r : Leap) → r ≡ leap_of m → MovesBy code low high prev b vals cur vals₁ cur₁ m
    → LeapsBy code low high prev b vals cur vals₁ cur₁ r
leaps_alone code low high prev b vals cur vals₁ cur₁ m r e p = subst (λ x. LeapsBy code low high prev b vals cur vals₁ cur₁ x) (sym e) (single_leaps code low high prev b vals cur vals₁ cur₁ m p)
