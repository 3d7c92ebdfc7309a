-- Instructions that a run does at once: what it is then left with. Assumes nothing.
use Prim.Native.Nat.{ℕ, ◌+◌, ◌-◌, ◌≤◌, ◌<◌}
use native.Mathlib.Omega.{arith}
use mathlib.Core.Path.{◌≡◌, refl, sym, ap, subst, ◌∙◌}
use mathlib.Core.Bool.{Bool, true, false}
use mathlib.Core.List.{List}
use mathlib.Core.Option.{Option, some}
use lib.Dec.{eqb}
use lib.IntN.{ℤ}
use lib.ListN.{length, get_or, set, length-set}
use borrow.Author.Tests.{lt-ltb}
use Rattle.arith.specs.Values.{Outcome, compares}
use Rattle.semantics.specs.Formula.{at as value_at}
use Rattle.semantics.specs.Shape.{Setting}
use Rattle.leb128.specs.Numbers.{Read, got, nothing, number_at, unzigzag}
use Rattle.bytecode.specs.Instructions.{Instruction, constant, current, previous, comparison, timer, comparison_of, instruction_of, has_operand, decoded, fetch}
use Rattle.bytecode.proofs.Fetching.{one_fetched, timer_first, timer_second, timer_third, timer_read, timer_fetched}
use Rattle.machine.specs.declared.Registers.{Registers}
use Rattle.machine.specs.declared.Stepped.{Stepped}
use Rattle.machine.specs.declared.Stepped.TheVariants as S
use Rattle.machine.specs.declared.dispatch.Dispatched.{Dispatched}
use Rattle.machine.specs.declared.dispatch.Dispatched.TheVariants as D
use Rattle.machine.specs.Step.{Machine, bit, push, perform}
use Rattle.machine.specs.Runs.{after_step, run}
use Rattle.machine.specs.Inner.Memory.{held_of, machine_of, step_outcome, stepped, Few}
use Rattle.machine.specs.Inner.Groups.{truth_of, performed, worked}
use Rattle.machine.specs.Inner.Dispatch.{registers, dispatched_of, Stops, DispatchedBy, Comparing}
use Rattle.machine.proofs.Laws.{run_broken}
use Rattle.machine.proofs.Codes.{act_stepped, truth_comparison}
use Rattle.machine.proofs.Stack.{held_put, push_put}
use Rattle.machine.proofs.Loop.{run_fetched}
use Rattle.machine.proofs.Timers.{untimed}
use Rattle.machine.proofs.Fetches.{read_alone, read_with, short_fetch, second_is, third_is}

module _ (code : List ℕ) (settings : Setting → Type 0) (prev : List ℤ) (at : ℕ) where
  -- ---- one instruction

  module _ (m : Registers) (vals cur : List ℤ) (l : at < length code) where
    pub none_stops : fetch code at ≡ nothing → Stops code settings prev at m vals cur 11
    none_stops f ns budget done q p = run_broken ns prev code budget at done (machine_of m vals cur) l f p

    module _ (o : Option Instruction) (next : ℕ) (f : fetch code at ≡ decoded o next) (vals₁ cur₁ : List ℤ) where
      after_one : (s : Stepped) → ((ns : Setting) → settings ns → step_outcome s vals₁ cur₁ ≡ stepped ns prev o (machine_of m vals cur))
          → (ns : Setting) (budget done : ℕ) → settings ns → 0 < budget
          → run ns prev code budget at done (machine_of m vals cur) ≡ after_step (step_outcome s vals₁ cur₁) (done + 1) at (λ m₁. run ns prev code (budget - 1) next (done + 1) m₁)
      after_one s e ns budget done q p =
          run_fetched ns prev code budget at done (machine_of m vals cur) o next (sym f) l p
          ∙ ap (λ (x : Outcome Machine). after_step x (done + 1) at (λ m₁. run ns prev code (budget - 1) next (done + 1) m₁)) (sym (e ns q))

      by_step : (s : Stepped) → Few s → ((ns : Setting) → settings ns → step_outcome s vals₁ cur₁ ≡ stepped ns prev o (machine_of m vals cur))
          → DispatchedBy code settings prev at m vals cur vals₁ cur₁ 1 (dispatched_of next s)
      by_step (S.Next t) few e = record { few = few; some_done = omega arith; no_more = omega arith; goes = after_one (S.Next t) e }
      by_step (S.Refused k) few e = after_one (S.Refused k) e

      pub one_done : (s : Stepped) → Few s → ((ns : Setting) → settings ns → step_outcome s vals₁ cur₁ ≡ stepped ns prev o (machine_of m vals cur))
          → (d : Dispatched) → d ≡ dispatched_of next s → DispatchedBy code settings prev at m vals cur vals₁ cur₁ 1 d
      one_done s few e d is = subst (λ x. DispatchedBy code settings prev at m vals cur vals₁ cur₁ 1 x) (sym is) (by_step s few e)

  -- ---- not passed over, by its code byte

  module _ (held : ℕ) (picked : Bool) (vals cur : List ℤ) (l : at < length code) (byte : ℕ) (is : get_or code at 0 ≡ byte) where
    abbrev here : Registers
    here = registers held picked false

    module _ (s : Stepped) (vals₁ cur₁ : List ℤ) (few : Few s) where
      pub alone_done : eqb byte 23 ≡ false → has_operand byte ≡ false
          → ((ns : Setting) → settings ns → step_outcome s vals₁ cur₁ ≡ performed ns prev (instruction_of byte 0) picked (held_of vals held) cur)
          → (d : Dispatched) → d ≡ dispatched_of (at + 1) s → DispatchedBy code settings prev at here vals cur vals₁ cur₁ 1 d
      alone_done other has e d q =
          one_done here vals cur l (instruction_of byte 0) (at + 1) (read_alone code at l byte is other has) vals₁ cur₁ s few
          (λ ns r. e ns r ∙ act_stepped ns prev (instruction_of byte 0) false picked (held_of vals held) cur refl) d q

      pub operand_done : has_operand byte ≡ true → (n next : ℕ) → number_at code (at + 1) ≡ got n next
          → ((ns : Setting) → settings ns → step_outcome s vals₁ cur₁ ≡ performed ns prev (instruction_of byte n) picked (held_of vals held) cur)
          → (d : Dispatched) → d ≡ dispatched_of next s → DispatchedBy code settings prev at here vals cur vals₁ cur₁ 1 d
      operand_done has n next f e d q =
          one_done here vals cur l (instruction_of byte n) next (read_with code at l byte is has n next f) vals₁ cur₁ s few
          (λ ns r. e ns r ∙ act_stepped ns prev (instruction_of byte n) false picked (held_of vals held) cur refl) d q

  -- ---- a 23

  module _ (held : ℕ) (picked : Bool) (vals cur : List ℤ) (few : held ≤ 40) (l : at < length code) (t w n next : ℕ) (f : fetch code at ≡ got (timer t w n) next) where
    module _ (b : Bool) (cur₁ : List ℤ) (e : (ns : Setting) → settings ns → worked b picked (held_of vals held) cur₁ ≡ perform ns prev (timer t w n) picked (held_of vals held) cur) where
      pub timer_done_lem : b ≡ true → DispatchedBy code settings prev at (registers held picked false) vals cur vals cur₁ 1 (D.On held picked false next 1)
      timer_done_lem is =
          one_done (registers held picked false) vals cur l (some (timer t w n)) next f vals cur₁ (S.Next (registers held picked false)) few
          (λ ns q. rw is at (e ns q)) (D.On held picked false next 1) refl

      pub timer_broken : b ≡ false → DispatchedBy code settings prev at (registers held picked false) vals cur vals cur₁ 1 (D.Refused 11)
      timer_broken is =
          one_done (registers held picked false) vals cur l (some (timer t w n)) next f vals cur₁ (S.Refused 11) tt
          (λ ns q. rw is at (e ns q)) (D.Refused 11) refl

  -- a 23 where states have no elapsed times, well formed or not
  module _ (m : Registers) (vals cur : List ℤ) (l : at < length code) (is : get_or code at 0 ≡ 23) (acting : m.passing ≡ false)
      (none : (ns : Setting) → settings ns → length ns.ranges ≤ length ns.timers) where
    third_read : (t second w third : ℕ) → number_at code (at + 1) ≡ got t second → number_at code second ≡ got w third → (r : Read ℕ) → number_at code third ≡ r → Stops code settings prev at m vals cur 11
    third_read t second w third e f nothing g = none_stops m vals cur l (timer_fetched code at is ∙ timer_third code (at + 1) t second e w third f g)
    third_read t second w third e f (got n next) g =
        one_done m vals cur l (some (timer t w n)) next (timer_fetched code at is ∙ timer_read code (at + 1) t second e w third f n next g) vals cur (S.Refused 11) tt
        (λ ns q. rw acting (untimed ns prev t w n m.picked (held_of vals m.held) cur (none ns q))) (D.Refused 11) refl

    second_read : (t second : ℕ) → number_at code (at + 1) ≡ got t second → (r : Read ℕ) → number_at code second ≡ r → Stops code settings prev at m vals cur 11
    second_read t second e nothing f = none_stops m vals cur l (timer_fetched code at is ∙ timer_second code (at + 1) t second e f)
    second_read t second e (got w third) f = third_read t second w third e f (number_at code third) refl

    first_read : (r : Read ℕ) → number_at code (at + 1) ≡ r → Stops code settings prev at m vals cur 11
    first_read nothing e = none_stops m vals cur l (timer_fetched code at is ∙ timer_first code (at + 1) e)
    first_read (got t second) e = second_read t second e (number_at code second) refl

    pub timer_stops : Stops code settings prev at m vals cur 11
    timer_stops = first_read (number_at code (at + 1)) refl

  -- ---- more may be done

  pub with_more : (m : Registers) (vals cur vals₁ cur₁ : List ℤ) (left : ℕ) → 0 < left → (d : Dispatched) → DispatchedBy code settings prev at m vals cur vals₁ cur₁ 1 d
      → DispatchedBy code settings prev at m vals cur vals₁ cur₁ left d
  with_more m vals cur vals₁ cur₁ left h (D.On held c p next n) e = record { few = e.few; some_done = e.some_done; no_more = omega (arith, e.no_more); goes = e.goes }
  with_more m vals cur vals₁ cur₁ left h (D.Refused k) e = e
  with_more m vals cur vals₁ cur₁ left h D.Timed e = e

-- ---- a value, a constant and their comparison

module _ (code : List ℕ) (settings : Setting → Type 0) (prev : List ℤ) (at held : ℕ) (picked : Bool) (vals cur : List ℤ) (left : ℕ) (found : Bool)
    (c : Comparing code prev cur at held left found) (sized : (ns : Setting) → settings ns → length ns.ranges ≡ length prev) (room : 40 ≤ length vals) where
  abbrev y : ℤ
  y = unzigzag c.operand

  abbrev vals_one : List ℤ
  vals_one = set vals held c.x

  abbrev vals_two : List ℤ
  vals_two = set vals_one (held + 1) y

  deep : 40 ≤ length vals_one
  deep = omega (arith, length-set vals held c.x)

  loads : DispatchedBy code settings prev at (registers held picked false) vals cur vals_one cur 1 (D.On (held + 1) picked false (at + 2) 1)
  loads =
      one_done code settings prev at (registers held picked false) vals cur (omega (arith, c.inside)) (some c.loading) (at + 2) (one_fetched code at c.loading (at + 2) c.first) vals_one cur (S.Next (registers (held + 1) picked false)) (omega (arith, c.room))
      (λ ns q. push_put vals held c.x picked cur (omega (arith, c.room)) room ∙ sym (c.loaded ns picked (held_of vals held) (sized ns q)))
      (D.On (held + 1) picked false (at + 2) 1) refl

  puts : DispatchedBy code settings prev (at + 2) (registers (held + 1) picked false) vals_one cur vals_two cur 1 (D.On (held + 1 + 1) picked false (at + 4) 1)
  puts =
      one_done code settings prev (at + 2) (registers (held + 1) picked false) vals_one cur (omega (arith, c.inside)) (some (constant y)) (at + 4) (one_fetched code (at + 2) (constant y) (at + 4) c.second) vals_two cur (S.Next (registers (held + 1 + 1) picked false)) (omega (arith, c.room))
      (λ ns q. push_put vals_one (held + 1) y picked cur (omega (arith, c.room)) deep)
      (D.On (held + 1 + 1) picked false (at + 4) 1) refl

  compares_here : DispatchedBy code settings prev (at + 4) (registers (held + 1 + 1) picked false) vals_two cur (set vals held (bit found)) cur 1 (D.On (held + 1) picked false (at + 5) 1)
  compares_here =
      one_done code settings prev (at + 4) (registers (held + 1 + 1) picked false) vals_two cur (omega (arith, c.inside)) (some (comparison c.relation)) (at + 5) (one_fetched code (at + 4) (comparison c.relation) (at + 5) c.third) (set vals held (bit found)) cur (S.Next (registers (held + 1) picked false)) (omega (arith, c.room))
      (λ ns q. rw (c.finds, held_put vals_one (held + 1) y (omega (arith, deep, c.room)), held_put vals held c.x (omega (arith, c.room)), held_put vals held (bit (compares c.relation c.x y)) (omega (arith, c.room))))
      (D.On (held + 1) picked false (at + 5) 1) refl

  three_done : (ns : Setting) (budget done : ℕ) → settings ns → 3 ≤ budget
      → run ns prev code budget at done (machine_of (registers held picked false) vals cur)
      ≡ run ns prev code (budget - 3) (at + 5) (done + 3) (machine_of (registers (held + 1) picked false) (set vals held (bit found)) cur)
  three_done ns budget done q p =
      let a : budget - 1 - 1 - 1 ≡ budget - 3 = omega arith in
      let b : done + 1 + 1 + 1 ≡ done + 3 = omega arith in
      loads.goes ns budget done q (omega arith) ∙ puts.goes ns (budget - 1) (done + 1) q (omega arith) ∙ compares_here.goes ns (budget - 1 - 1) (done + 1 + 1) q (omega arith) ∙ rw (a, b)

  pub comparison_done : (v : ℤ) → v ≡ bit found → DispatchedBy code settings prev at (registers held picked false) vals cur (set vals held v) cur left (D.On (held + 1) picked false (at + 5) 3)
  comparison_done v e = rw e (record { few = omega (arith, c.room); some_done = omega arith; no_more = c.enough; goes = three_done })

-- ---- what stands at a place is a value, a constant and their comparison

module _ (code : List ℕ) (prev cur : List ℤ) (at held left : ℕ) (found : Bool) (l : at + 4 < length code) (one : get_or code (at + 2) 0 ≡ 1)
    (least : 10 ≤ get_or code (at + 4) 0) (most : get_or code (at + 4) 0 ≤ 15) (enough : 3 ≤ left) (small : get_or code (at + 1) 0 < 128) (id : get_or code (at + 1) 0 < length prev)
    (short : get_or code (at + 3) 0 < 128) (room : held + 2 ≤ 40) where
  comparing : (byte : ℕ) → get_or code at 0 ≡ byte → has_operand byte ≡ true → (loading : Instruction) → instruction_of byte (get_or code (at + 1) 0) ≡ some loading
      → (x : ℤ) → ((ns : Setting) (c : Bool) (vs : List ℤ) → length ns.ranges ≡ length prev → perform ns prev loading c vs cur ≡ push x c vs cur)
      → found ≡ truth_of (get_or code (at + 4) 0) x (unzigzag (get_or code (at + 3) 0)) → Comparing code prev cur at held left found
  comparing byte is has loading i x loads f =
      record {
        loading = loading;
        x = x;
        operand = get_or code (at + 3) 0;
        relation = comparison_of (get_or code (at + 4) 0);
        first = short_fetch code at byte is loading (omega arith) has small i;
        second = second_is code at l one short;
        third = third_is code at l least most;
        inside = omega arith;
        room = room;
        enough = enough;
        loaded = loads;
        finds = f ∙ truth_comparison (get_or code (at + 4) 0) x (unzigzag (get_or code (at + 3) 0)) (omega arith);
      }

  pub previous_compared : get_or code at 0 ≡ 3 → found ≡ truth_of (get_or code (at + 4) 0) (value_at prev (get_or code (at + 1) 0)) (unzigzag (get_or code (at + 3) 0)) → Comparing code prev cur at held left found
  unfolding instruction_of has_operand
  previous_compared is f =
      let i = get_or code (at + 1) 0 in
      comparing 3 is refl (previous i) refl (value_at prev i) (λ ns c vs e. rw (e, lt-ltb i (length prev) id)) f

  pub current_compared : get_or code at 0 ≡ 2 → found ≡ truth_of (get_or code (at + 4) 0) (value_at cur (get_or code (at + 1) 0)) (unzigzag (get_or code (at + 3) 0)) → Comparing code prev cur at held left found
  unfolding instruction_of has_operand
  current_compared is f =
      let i = get_or code (at + 1) 0 in
      comparing 2 is refl (current i) refl (value_at cur i) (λ ns c vs e. rw (e, lt-ltb i (length prev) id)) f
