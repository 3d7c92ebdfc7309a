-- What the walk asks of a timer's instruction is what the paragraph says of it. Document 02, A.7. Assumes nothing.
use Prim.Native.Nat.{ℕ, ◌≤◌}
use native.Mathlib.Omega.{arith}
use mathlib.Core.Path.{◌≡◌, refl, sym, ap, ap₂, ◌∙◌, subst}
use mathlib.Core.Bool.{◌&&◌}
use mathlib.Core.List.{List, [], ◌∷◌, ◌++◌}
use mathlib.Core.Option.{Option, none, some}
use lib.Dec.{T, eqb, leb, ltb, eqb→eq, eqb_refl, leb→le, le→leb, ltb→lt, lt→ltb}
use lib.IntN.{ℤ, pos}
use Rattle.limits.specs.Limits.{time_limit}
use Rattle.arith.specs.Values.{eq_z}
use Rattle.arith.proofs.Basics.{T_true, and_left, and_right, and_T, eq_z_true}
use Rattle.semantics.specs.Program.{Range, range_at, bit_range, is_binary}
use Rattle.bytecode.specs.Instructions.{Instruction}
use Rattle.bytecode.specs.Signature.{Role, pushes, computes, tests, opens, picks, lets, settles, times, signature}
use Rattle.bytecode.specs.Check.{follows_in, follows, is_timer_range, suits_in}
use Rattle.bytecode.specs.Sound.{RuleIn, TimerStands}

-- ---- the instruction before

-- the last of instructions
abbrev pub last_of : Option Instruction → List Instruction → Option Instruction
last_of last [] = last
last_of last (i ∷ is) = last_of (some i) is

pub last_append : (last : Option Instruction) (is : List Instruction) (i : Instruction) → last_of last (is ++ i ∷ []) ≡ some i
last_append last [] i = refl
last_append last (j ∷ is) i = last_append (some j) is i

record Ends (is : List Instruction) (i : Instruction) : Type 0 where
  earlier : List Instruction
  directly : is ≡ earlier ++ i ∷ []

ends_in : (j : Instruction) (is : List Instruction) (i : Instruction) → last_of (some j) is ≡ some i → Ends (j ∷ is) i
ends_in j [] i e = let q : j ≡ i = cc in record { earlier = []; directly = ap (λ (k : Instruction). k ∷ []) q }
ends_in j (k ∷ is) i e =
    let h = ends_in k is i e in
    record { earlier = j ∷ h.earlier; directly = ap (λ (l : List Instruction). j ∷ l) h.directly }

last_ends : (is : List Instruction) (i : Instruction) → last_of none is ≡ some i → Ends is i
last_ends [] i e = let z : ◌≡◌ {A = ℕ} 0 1 = cc in let f : ⊥ = omega arith in absurd f
last_ends (j ∷ is) i e = ends_in j is i e

rule_follows : (r : Role) (t w : ℕ) → RuleIn t w r → T (follows_in r t w)
rule_follows (pushes fits) t w h = absurd h
rule_follows computes t w h = absurd h
rule_follows tests t w h = absurd h
rule_follows opens t w h = absurd h
rule_follows (picks side v) t w h = absurd h
rule_follows (lets v) t w h = subst (λ (u : ℕ). T (eqb v u)) h (eqb_refl v)
rule_follows (settles v) t w h = subst (λ (u : ℕ). T (eqb v u)) h (eqb_refl v)
rule_follows (times u v n) t w h = and_T (eqb v w) (ltb u t) (subst (λ (x : ℕ). T (eqb v x)) h.0 (eqb_refl v)) (lt→ltb u t h.1)

follows_rule : (r : Role) (t w : ℕ) → T (follows_in r t w) → RuleIn t w r
follows_rule (pushes fits) t w h = h
follows_rule computes t w h = h
follows_rule tests t w h = h
follows_rule opens t w h = h
follows_rule (picks side v) t w h = h
follows_rule (lets v) t w h = eqb→eq v w h
follows_rule (settles v) t w h = eqb→eq v w h
follows_rule (times u v n) t w h = (eqb→eq v w (and_left (eqb v w) (ltb u t) h), ltb→lt u t (and_right (eqb v w) (ltb u t) h))

-- ---- the ranges

pub timer_range : (n : Range) → T (is_timer_range n) → n ≡ bit_range
unfolding is_timer_range is_binary
timer_range n h =
    let a = and_left (eq_z n.low (pos 0) && eq_z n.high (pos 1)) (eq_z n.start (pos 0)) h in
    let l : n.low ≡ pos 0 = eq_z_true n.low (pos 0) (T_true _ (and_left (eq_z n.low (pos 0)) (eq_z n.high (pos 1)) a)) in
    let u : n.high ≡ pos 1 = eq_z_true n.high (pos 1) (T_true _ (and_right (eq_z n.low (pos 0)) (eq_z n.high (pos 1)) a)) in
    let z : n.start ≡ pos 0 = eq_z_true n.start (pos 0) (T_true _ (and_right (eq_z n.low (pos 0) && eq_z n.high (pos 1)) (eq_z n.start (pos 0)) h)) in
    ap₂ (λ (x y : ℤ). record { low = x; high = y; start = n.start }) l u ∙ ap (λ (x : ℤ). record { low = pos 0; high = pos 1; start = x }) z

pub bit_timer : T (is_timer_range bit_range)
unfolding is_timer_range is_binary
bit_timer = tt

-- ---- both ways

module _ (ns : List Range) (before : List Instruction) (t w n : ℕ) where
  pub stands_suits : TimerStands ns before t w n → T (suits_in ns (last_of none before) (times t w n))
  stands_suits x =
      let a : T (is_timer_range (range_at ns t)) = subst (λ (r : Range). T (is_timer_range r)) (sym x.own) bit_timer in
      let f : T (follows (last_of none before) t w) = rw (x.directly, last_append none x.earlier x.last) (rule_follows (signature x.last).role t w x.rule) in
      and_T (is_timer_range (range_at ns t) && is_binary (range_at ns w) && (leb 1 n && leb n time_limit)) (follows (last_of none before) t w)
      (and_T (is_timer_range (range_at ns t) && is_binary (range_at ns w)) (leb 1 n && leb n time_limit) (and_T (is_timer_range (range_at ns t)) (is_binary (range_at ns w)) a x.watched)
      (and_T (leb 1 n) (leb n time_limit) (le→leb 1 n x.least) (le→leb n time_limit x.most))) f

  pub suits_stands : T (suits_in ns (last_of none before) (times t w n)) → TimerStands ns before t w n
  suits_stands h =
      let a = and_left (is_timer_range (range_at ns t) && is_binary (range_at ns w) && (leb 1 n && leb n time_limit)) (follows (last_of none before) t w) h in
      let f = and_right (is_timer_range (range_at ns t) && is_binary (range_at ns w) && (leb 1 n && leb n time_limit)) (follows (last_of none before) t w) h in
      let b = and_left (is_timer_range (range_at ns t) && is_binary (range_at ns w)) (leb 1 n && leb n time_limit) a in
      let l = and_right (is_timer_range (range_at ns t) && is_binary (range_at ns w)) (leb 1 n && leb n time_limit) a in
      go (last_of none before) refl (timer_range (range_at ns t) (and_left (is_timer_range (range_at ns t)) (is_binary (range_at ns w)) b)) (and_right (is_timer_range (range_at ns t)) (is_binary (range_at ns w)) b)
      (leb→le 1 n (and_left (leb 1 n) (leb n time_limit) l)) (leb→le n time_limit (and_right (leb 1 n) (leb n time_limit) l)) f
    where
      go : (last : Option Instruction) → last_of none before ≡ last → range_at ns t ≡ bit_range → T (is_binary (range_at ns w)) → 1 ≤ n → n ≤ time_limit → T (follows last t w) → TimerStands ns before t w n
      go none e own watched least most f = absurd f
      go (some i) e own watched least most f =
          let x = last_ends before i e in
          record { own = own; watched = watched; least = least; most = most; earlier = x.earlier; last = i; directly = x.directly; rule = follows_rule (signature i).role t w f }
