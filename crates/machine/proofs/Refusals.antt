-- An instruction of sound code is refused by 14 to 17 and 22 only: no operand is ever missing, never over 40 values are held, and every id is
-- declared. Assumes nothing.
use Prim.Native.Nat.{ℕ, suc, ◌≤◌, ◌<◌}
use native.Mathlib.Omega.{arith}
use mathlib.Core.Path.{◌≡◌, refl, sym, ap, subst}
use mathlib.Core.Bool.{Bool, true, false, not, ◌&&◌, ◌||◌}
use mathlib.Core.List.{List, [], ◌∷◌}
use mathlib.Core.Option.{Option, none, some}
use lib.Dec.{T, ltb, ltb→lt}
use lib.IntN.{ℤ, pos, neg_ℤ, ◌+ℤ◌, ◌-ℤ◌, ◌*ℤ◌}
use lib.ListN.{length, get_or, set}
use lib.Signed.{quot_z}
use borrow.Author.Tests.{lt-ltb, le-leb}
use Rattle.limits.specs.Limits.{time_limit}
use Rattle.arith.specs.Values.{Outcome, ok, refusal, ◌>>=◌, require, eq_z, is_int32, int32, non_zero, remainder, Operation, add, subtract, multiply, divide, modulo, arithmetic, negation, compares}
use Rattle.semantics.specs.Program.{Range, Side, changing, rising, falling, within, range_at}
use Rattle.semantics.specs.Formula.{State, at}
use Rattle.semantics.specs.Shape.{Setting, time_place, timed}
use Rattle.semantics.specs.ReferenceScan.{ranged, moves, stays, picked}
use Rattle.arith.proofs.Basics.{T_true, and_left, and_right, ok≢refusal}
use Rattle.bytecode.specs.Instructions.{Instruction, constant, current, previous, operation, negate, comparison, negated, both, either, gate, pick, assign, settle, timer}
use Rattle.bytecode.specs.Signature.{Sort, Role, pushes, computes, tests, opens, picks, lets, settles, times, signature}
use Rattle.bytecode.specs.Check.{Picks, Known, known, one, empty, unset, closed, fresh, opened, admits, advance}
use Rattle.bytecode.proofs.Timeless.{TimelessIn, OfTimer, of_timer}
use Rattle.bytecode.proofs.Soundness.{some_inj, none≢some, guard_some, ids_of, known_inside, unset_inside}
use Rattle.bytecode.proofs.Exactly.{taking_shape}
use Rattle.machine.specs.Step.{Machine, machine, bit, yes, push, pop, gated, settled, ends_passing, is_pick, declared, perform, step}

-- a refusal of the rules at work: 14, 15, 16 or 17, or 22 (document 02, A.6)
pub data ByRules (k : ℕ) : Type 0 where
  at_work : 14 ≤ k → k ≤ 17 → ByRules k
  turned : k ≡ 22 → ByRules k

-- how a run of sound code may end
abbrev pub RefusedByRules : Outcome Machine → Type 0
RefusedByRules (ok m) = Unit {0}
RefusedByRules (refusal k) = ByRules k

-- As many values are held as the walk knows of; where instructions are passed over, a gate awaits its pick and nothing is held.
abbrev pub Matches : Known → Machine → Type 0
Matches (known vs g o ids) (machine false c ms t) = length ms ≡ length vs
Matches (known vs g o ids) (machine true c ms t) = (g ≡ true) × (ms ≡ [])

abbrev pub Kept : Known → Outcome Machine → Type 0
Kept d (ok m) = Matches d m
Kept d (refusal k) = ByRules k

-- ---- refusals of the operations

require_number : {A : Type 0} (b : Bool) (n : ℕ) (x : A) (k : ℕ) → require b n x ≡ refusal k → n ≡ k
require_number true n x k e = ok≢refusal x k e
require_number false n x k e = cc

bind_number : {A B : Type 0} (o : Outcome A) (f : A → Outcome B) (k : ℕ) → (o >>= f) ≡ refusal k → ((j : ℕ) → o ≡ refusal j → ByRules j) → ((a : A) → f a ≡ refusal k → ByRules k) → ByRules k
bind_number (ok a) f k e h g = g a e
bind_number (refusal j) f k e h g = let q : j ≡ k = cc in subst ByRules q (h j refl)

by_rules : (n k : ℕ) → 14 ≤ n → n ≤ 17 → n ≡ k → ByRules k
by_rules n k a b e = at_work (omega arith) (omega arith)

int32_rules : (z : ℤ) (k : ℕ) → int32 z ≡ refusal k → ByRules k
int32_rules z k e = by_rules 14 k (omega arith) (omega arith) (require_number (is_int32 z) 14 z k e)

non_zero_rules : (z : ℤ) (k : ℕ) → non_zero z ≡ refusal k → ByRules k
non_zero_rules z k e = by_rules 14 k (omega arith) (omega arith) (require_number (not (eq_z z (pos 0))) 14 z k e)

arithmetic_rules : (o : Operation) (a b : ℤ) (k : ℕ) → arithmetic o a b ≡ refusal k → ByRules k
unfolding arithmetic
arithmetic_rules add a b k e = int32_rules (a +ℤ b) k e
arithmetic_rules subtract a b k e = int32_rules (a -ℤ b) k e
arithmetic_rules multiply a b k e = int32_rules (a *ℤ b) k e
arithmetic_rules divide a b k e = bind_number (non_zero b) _ k e (λ j h. non_zero_rules b j h) (λ d h. int32_rules (quot_z a d) k h)
arithmetic_rules modulo a b k e = int32_rules (remainder a b) k e

negation_rules : (a : ℤ) (k : ℕ) → negation a ≡ refusal k → ByRules k
unfolding negation
negation_rules a k e = int32_rules (neg_ℤ a) k e

ranged_rules : (ns : List Range) (v : ℕ) (z : ℤ) (k : ℕ) → ranged ns v z ≡ refusal k → ByRules k
ranged_rules ns v z k e = by_rules 17 k (omega arith) (omega arith) (require_number (within (range_at ns v) z) 17 z k e)

stays_rules : (side : Side) (k : ℕ) → stays side ≡ k → ByRules k
stays_rules changing k e = by_rules 16 k (omega arith) (omega arith) e
stays_rules rising k e = turned (sym e)
stays_rules falling k e = turned (sym e)

picked_rules : (side : Side) (ns : List Range) (s : State) (v : ℕ) (z : ℤ) (k : ℕ) → picked side ns s v z ≡ refusal k → ByRules k
unfolding picked
picked_rules side ns s v z k e =
    bind_number (require (moves side (at s v) z) (stays side) z) _ k e
    (λ j h. stays_rules side j (require_number (moves side (at s v) z) (stays side) z j h)) (λ y h. ranged_rules ns v y k h)

-- ---- one instruction

kept_bind : {A : Type 0} (o : Outcome A) (f : A → Outcome Machine) (d : Known) → ((k : ℕ) → o ≡ refusal k → ByRules k) → ((a : A) → Kept d (f a)) → Kept d (o >>= f)
kept_bind (ok a) f d w h = h a
kept_bind (refusal k) f d w h = w k refl

one_cons : (x y : Sort) (vs : List Sort) (k : List Sort → Option Known) (d : Known) → one x (y ∷ vs) k ≡ some d → k vs ≡ some d
one_cons Sort.number Sort.number vs k d e = e
one_cons Sort.number Sort.truth vs k d e = none≢some d e
one_cons Sort.truth Sort.number vs k d e = none≢some d e
one_cons Sort.truth Sort.truth vs k d e = e

one_nil : {X : Type 0} (x : Sort) (k : List Sort → Option Known) (d : Known) → one x [] k ≡ some d → X
one_nil Sort.number k d e = none≢some d e
one_nil Sort.truth k d e = none≢some d e

popped : (x : Sort) (ms : List ℤ) (vs : List Sort) (k : List Sort → Option Known) (f : ℤ → List ℤ → Outcome Machine) (d : Known) → length ms ≡ length vs → one x vs k ≡ some d
    → ((z : ℤ) (ms₁ : List ℤ) (vs₁ : List Sort) → length ms₁ ≡ length vs₁ → k vs₁ ≡ some d → Kept d (f z ms₁)) → Kept d (pop ms f)
popped x ms [] k f d l e h = one_nil x k d e
popped x [] (v ∷ vs) k f d l e h = let b : ⊥ = omega arith in absurd b
popped x (m ∷ ms) (v ∷ vs) k f d l e h = h m ms vs (omega arith) (one_cons x v vs k d e)

moved : (c d : Known) (m : Machine) → c ≡ d → Matches c m → Matches d m
moved c d m e h = subst (λ x. Matches x m) e h

held_kept : (z : ℤ) (c : Bool) (ms : List ℤ) (t : State) (vs : List Sort) (g : Bool) (o : Option Picks) (ids : List Bool) (fits : List Bool → Bool) (d : Known) → length ms ≡ length vs
    → admits (pushes fits) vs g o ids ≡ some d → Kept d (push z c ms t)
held_kept z c ms t vs g o ids fits d l e =
    let h = guard_some (fits ids && ltb (length vs) 40) _ d e in
    let k : length vs < 40 = ltb→lt (length vs) 40 (and_right (fits ids) _ h.0) in
    let q : ltb (length ms) 40 ≡ true = lt-ltb (length ms) 40 (omega arith) in
    rw q (moved (known (Sort.number ∷ vs) g o ids) d (machine false c (z ∷ ms) t) h.1 (ap suc l))

empty_nil : (vs : List Sort) (ms : List ℤ) → length ms ≡ length vs → T (empty vs) → ms ≡ []
empty_nil [] [] l h = refl
empty_nil [] (m ∷ ms) l h = let b : ⊥ = omega arith in absurd b
empty_nil (v ∷ vs) ms l h = absurd h

over : (vs : List Sort) (o : Option Picks) (ids : List Bool) (d : Known) (c : Bool) (ms : List ℤ) (t : State) → known vs true o ids ≡ d → ms ≡ [] → Matches d (machine true c ms t)
over vs o ids d c ms t e h = let x : Matches (known vs true o ids) (machine true c ms t) = (refl, h) in moved (known vs true o ids) d (machine true c ms t) e x

-- an instruction that is passed over
over_in : (r : Role) (rest : List Sort) (o : Option Picks) (ids : List Bool) (d : Known) (c : Bool) (ms : List ℤ) (t : State)
    → admits r rest true o ids ≡ some d → ms ≡ [] → Matches d (machine (not (ends_passing r)) c ms t)
over_in (pushes fits) rest o ids d c ms t e h = over (Sort.number ∷ rest) o ids d c ms t (guard_some (fits ids && ltb (length rest) 40) _ d e).1 h
over_in computes rest o ids d c ms t e h = over (Sort.number ∷ rest) o ids d c ms t (some_inj e) h
over_in tests rest o ids d c ms t e h = none≢some d e
over_in opens rest o ids d c ms t e h = none≢some d e
over_in (picks side v) rest o ids d c ms t e h = moved (known [] false (some (record { side = side; id = v })) ids) d (machine false c ms t) (guard_some (true && empty rest && unset ids v && fresh o side v) _ d e).1 (rw h)
over_in (lets v) rest o ids d c ms t e h = none≢some d e
over_in (settles v) rest o ids d c ms t e h = none≢some d e
over_in (times u v n) rest o ids d c ms t e h = none≢some d e

over_keeps : (i : Instruction) (vs : List Sort) (o : Option Picks) (ids : List Bool) (d : Known) (c : Bool) (ms : List ℤ) (t : State)
    → advance i (known vs true o ids) ≡ some d → ms ≡ [] → Matches d (machine (not (is_pick i)) c ms t)
over_keeps i vs o ids d c ms t e h =
    let x = taking_shape (signature i).takes vs _ d e in
    over_in (signature i).role x.0 o ids d c ms t x.2 h

second : (a b c e : Bool) → T (a && b && c && e) → T b
second a b c e h = and_right a b (and_left (a && b) c (and_left (a && b && c) e h))

third : (a b c e : Bool) → T (a && b && c && e) → T c
third a b c e h = and_right (a && b) c (and_left (a && b && c) e h)

none_held_lem : (ms : List ℤ) → ms ≡ [] → length ms ≡ 0
none_held_lem ms h = rw h

gate_kept : (b c : Bool) (ms : List ℤ) (t : State) (o : Option Picks) (ids : List Bool) (d : Known) → known [] true o ids ≡ d → ms ≡ [] → Kept d (gated b c ms t)
gate_kept false c ms t o ids d e h = over [] o ids d c ms t e h
gate_kept true true ms t o ids d e h = at_work (omega arith) (omega arith)
gate_kept true false ms t o ids d e h = moved (known [] true o ids) d (machine false false ms t) e (none_held_lem ms h)

settled_kept : (v : ℕ) (z : ℤ) (c : Bool) (ms : List ℤ) (t : State) (d : Known) (o : Option Picks) (ids : List Bool) → known [] false o ids ≡ d → ms ≡ [] → Matches d (settled v z c ms t)
settled_kept v z true ms t d o ids e h = moved (known [] false o ids) d (machine false false ms t) e (none_held_lem ms h)
settled_kept v z false ms t d o ids e h = moved (known [] false o ids) d (machine false false ms (set t v z)) e (none_held_lem ms h)

module _ (ns : Setting) (s : State) where
  declared_kept : (i : ℕ) (o : Outcome Machine) (d : Known) → i < length ns.ranges → Kept d o → Kept d (declared ns s i o)
  declared_kept i o d l h = rw (lt-ltb i (length ns.ranges) l) h

  -- the numbers that a 23 works on are there, and N keeps its limit
  abbrev pub Stands : ℕ → ℕ → ℕ → Type 0
  Stands t w n = (t < length ns.ranges) × (w < length ns.ranges) × (time_place ns.timers t < length ns.ranges) × (n ≤ time_limit)

  abbrev pub StandsIn : Role → Type 0
  StandsIn r = OfTimer Stands r

  pub timeless_stands : (r : Role) → TimelessIn r → StandsIn r
  timeless_stands r h = of_timer (λ t w n. ⊥) Stands (λ t w n x. absurd x) r h

  module _ (ids : List Bool) (size : length ids ≤ length ns.ranges) where
    unset_declared : (v : ℕ) → T (unset ids v) → v < length ns.ranges
    unset_declared v h = omega (arith, unset_inside ids v h)

    -- an instruction that is not passed over
    perform_keeps : (i : Instruction) (vs : List Sort) (g : Bool) (o : Option Picks) (d : Known) (c : Bool) (ms : List ℤ) (t : State) → StandsIn (signature i).role → length ms ≡ length vs
        → advance i (known vs g o ids) ≡ some d → Kept d (perform ns s i c ms t)
    perform_keeps (constant z) vs g o d c ms t y l e = held_kept z c ms t vs g o ids (λ flags. is_int32 z) d l e
    perform_keeps (current i) vs g o d c ms t y l e =
        let h = guard_some (get_or ids i false && ltb (length vs) 40) _ d e in
        let k : i < length ids = known_inside ids i (T_true _ (and_left (get_or ids i false) _ h.0)) in
        declared_kept i _ d (omega arith) (held_kept (at t i) c ms t vs g o ids (λ flags. get_or flags i false) d l e)
    perform_keeps (previous i) vs g o d c ms t y l e =
        let h = guard_some (ltb i (length ids) && ltb (length vs) 40) _ d e in
        let k : i < length ids = ltb→lt i (length ids) (and_left (ltb i (length ids)) _ h.0) in
        declared_kept i _ d (omega arith) (held_kept (at s i) c ms t vs g o ids (λ flags. ltb i (length flags)) d l e)
    perform_keeps (operation x) vs g o d c ms t y l e =
        popped Sort.number ms vs _ _ d l e λ b ms₁ vs₁ l₁ e₁. popped Sort.number ms₁ vs₁ _ _ d l₁ e₁ λ a ms₂ vs₂ l₂ e₂.
        kept_bind (arithmetic x a b) _ d (λ k h. arithmetic_rules x a b k h) λ z.
        moved (known (Sort.number ∷ vs₂) g o ids) d (machine false c (z ∷ ms₂) t) (some_inj e₂) (ap suc l₂)
    perform_keeps negate vs g o d c ms t y l e =
        popped Sort.number ms vs _ _ d l e λ a ms₁ vs₁ l₁ e₁.
        kept_bind (negation a) _ d (λ k h. negation_rules a k h) λ z.
        moved (known (Sort.number ∷ vs₁) g o ids) d (machine false c (z ∷ ms₁) t) (some_inj e₁) (ap suc l₁)
    perform_keeps (comparison x) vs g o d c ms t y l e =
        popped Sort.number ms vs _ _ d l e λ b ms₁ vs₁ l₁ e₁. popped Sort.number ms₁ vs₁ _ _ d l₁ e₁ λ a ms₂ vs₂ l₂ e₂.
        moved (known (Sort.truth ∷ vs₂) g o ids) d (machine false c (bit (compares x a b) ∷ ms₂) t) (guard_some (not g) _ d e₂).1 (ap suc l₂)
    perform_keeps negated vs g o d c ms t y l e =
        popped Sort.truth ms vs _ _ d l e λ a ms₁ vs₁ l₁ e₁.
        moved (known (Sort.truth ∷ vs₁) g o ids) d (machine false c (bit (not (yes a)) ∷ ms₁) t) (guard_some (not g) _ d e₁).1 (ap suc l₁)
    perform_keeps both vs g o d c ms t y l e =
        popped Sort.truth ms vs _ _ d l e λ b ms₁ vs₁ l₁ e₁. popped Sort.truth ms₁ vs₁ _ _ d l₁ e₁ λ a ms₂ vs₂ l₂ e₂.
        moved (known (Sort.truth ∷ vs₂) g o ids) d (machine false c (bit (yes a && yes b) ∷ ms₂) t) (guard_some (not g) _ d e₂).1 (ap suc l₂)
    perform_keeps either vs g o d c ms t y l e =
        popped Sort.truth ms vs _ _ d l e λ b ms₁ vs₁ l₁ e₁. popped Sort.truth ms₁ vs₁ _ _ d l₁ e₁ λ a ms₂ vs₂ l₂ e₂.
        moved (known (Sort.truth ∷ vs₂) g o ids) d (machine false c (bit (yes a || yes b) ∷ ms₂) t) (guard_some (not g) _ d e₂).1 (ap suc l₂)
    perform_keeps gate vs g o d c ms t y l e = popped Sort.truth ms vs _ _ d l e λ a ms₁ vs₁ l₁ e₁.
        let q = guard_some (not g && empty vs₁) _ d e₁ in
        gate_kept (yes a) c ms₁ t o ids d q.1 (empty_nil vs₁ ms₁ l₁ (and_right (not g) _ q.0))
    perform_keeps (pick side v) vs g o d c ms t y l e = popped Sort.number ms vs _ _ d l e λ x ms₁ vs₁ l₁ e₁.
        let q = guard_some (g && empty vs₁ && unset ids v && fresh o side v) _ d e₁ in
        let nil : ms₁ ≡ [] = empty_nil vs₁ ms₁ l₁ (second g (empty vs₁) (unset ids v) (fresh o side v) q.0) in
        declared_kept v _ d (unset_declared v (third g (empty vs₁) (unset ids v) (fresh o side v) q.0))
        (kept_bind (picked side ns.ranges s v x) _ d (λ k h. picked_rules side ns.ranges s v x k h) λ z.
        moved (known [] false (some (record { side = side; id = v })) ids) d (machine false true ms₁ (set t v z)) q.1 (none_held_lem ms₁ nil))
    perform_keeps (assign v) vs g o d c ms t y l e = popped Sort.number ms vs _ _ d l e λ x ms₁ vs₁ l₁ e₁.
        let q = guard_some (not g && empty vs₁ && unset ids v && closed o) _ d e₁ in
        let nil : ms₁ ≡ [] = empty_nil vs₁ ms₁ l₁ (second (not g) (empty vs₁) (unset ids v) (closed o) q.0) in
        declared_kept v _ d (unset_declared v (third (not g) (empty vs₁) (unset ids v) (closed o) q.0))
        (kept_bind (ranged ns.ranges v x) _ d (λ k h. ranged_rules ns.ranges v x k h) λ z.
        moved (known [] false none (set ids v true)) d (machine false c ms₁ (set t v z)) q.1 (none_held_lem ms₁ nil))
    perform_keeps (settle v) vs g o d c ms t y l e =
        let q = guard_some (not g && empty vs && unset ids v && opened o v) _ d e in
        let nil : ms ≡ [] = empty_nil vs ms l (second (not g) (empty vs) (unset ids v) (opened o v) q.0) in
        declared_kept v _ d (unset_declared v (third (not g) (empty vs) (unset ids v) (opened o v) q.0))
        (settled_kept v (at s v) c ms t d none (set ids v true) q.1 nil)
    perform_keeps (timer u v n) vs g o d c ms t y l e =
        let q = guard_some (not g && empty vs && unset ids u && closed o) _ d e in
        let nil : ms ≡ [] = empty_nil vs ms l (second (not g) (empty vs) (unset ids u) (closed o) q.0) in
        declared_kept u _ d y.0 (declared_kept v _ d y.1 (declared_kept (time_place ns.timers u) _ d y.2
        (rw (le-leb n 2147483647 y.3) (moved (known [] false none (set ids u true)) d (machine false c ms (timed ns s (record { id = u; watched = v; limit = n }) t)) q.1 (none_held_lem ms nil)))))

  pub step_keeps : (i : Instruction) (c d : Known) (m : Machine) → StandsIn (signature i).role → length (ids_of c) ≤ length ns.ranges → advance i c ≡ some d → Matches c m → Kept d (step ns s i m)
  step_keeps i (known vs g o ids) d (machine false c ms t) y l e h = perform_keeps ids l i vs g o d c ms t y h e
  step_keeps i (known vs g o ids) d (machine true c ms t) y l e h = over_keeps i vs o ids d c ms t (subst (λ b. advance i (known vs b o ids) ≡ some d) h.0 e) h.1
