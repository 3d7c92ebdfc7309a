-- The limits of timers along a sound walk: each is the N of the timer's one 23 and fits; the w of a 23 is a name that is no timer. Document 02, A.7. Assumes nothing.
use Prim.Native.Nat.{ℕ, zero, suc, ◌≤◌, ◌<◌}
use native.Mathlib.Omega.{arith}
use mathlib.Core.Path.{◌≡◌, refl, sym, ap, subst, ◌∙◌}
use mathlib.Core.Bool.{Bool, true, false, ◌&&◌, false≢true}
use mathlib.Core.List.{List, [], ◌∷◌}
use mathlib.Core.Option.{Option, none, some}
use lib.Dec.{T, eqb, leb, ltb, eqb→eq, leb→le}
use lib.ListN.{length, get_or, set, replicate, length-set, length-replicate}
use lib.Seq.{get_or-set_same, get_or-set_other}
use borrow.Author.Tests.{ltb-true, ltb-false}
use Rattle.limits.specs.Limits.{time_limit}
use Rattle.limits.specs.Answer.{accepted}
use Rattle.arith.proofs.Basics.{and_left, and_right}
use Rattle.semantics.specs.Program.{Range, range_at, is_binary}
use Rattle.semantics.specs.Shape.{has_timer}
use Rattle.bytecode.specs.Instructions.{Instruction, timer, fetch}
use Rattle.bytecode.specs.Signature.{Sort, Role, pushes, computes, tests, opens, picks, lets, settles, times, signature}
use Rattle.bytecode.specs.Check.{Picks, Known, known, unset, advance, follows_in, follows, is_timer_range, suits_in, suits, check_code}
use Rattle.bytecode.specs.Parts.{limit_in, limited, limits_from}
use Rattle.bytecode.specs.Sound.{ids_in}
use Rattle.bytecode.specs.Allowed.{AllowedIn}
use Rattle.bytecode.proofs.Fetching.{fetch-end}
use Rattle.bytecode.proofs.Soundness.{ids_of, known_inside, unset_inside}
use Rattle.bytecode.proofs.Exactly.{kept_by}
use Rattle.bytecode.proofs.Walk.{check_stepped}
use Rattle.bytecode.proofs.Limits.{none_timed}
use Rattle.bytecode.proofs.PickedSides.{unset_false, set_unset}

-- ---- what is asked of a 23

module _ (ns : List Range) (last : Option Instruction) (t w n : ℕ) (s : T (suits_in ns last (times t w n))) where
  fitting : T (is_timer_range (range_at ns t) && is_binary (range_at ns w) && (leb 1 n && leb n time_limit))
  fitting = and_left (is_timer_range (range_at ns t) && is_binary (range_at ns w) && (leb 1 n && leb n time_limit)) (follows last t w) s

  bounded : T (leb 1 n && leb n time_limit)
  bounded = and_right (is_timer_range (range_at ns t) && is_binary (range_at ns w)) (leb 1 n && leb n time_limit) fitting

  pub suits_least : 1 ≤ n
  suits_least = leb→le 1 n (and_left (leb 1 n) (leb n time_limit) bounded)

  pub suits_most : n ≤ time_limit
  suits_most = leb→le n time_limit (and_right (leb 1 n) (leb n time_limit) bounded)

  pub suits_own : T (is_timer_range (range_at ns t))
  suits_own = and_left (is_timer_range (range_at ns t)) (is_binary (range_at ns w)) (and_left (is_timer_range (range_at ns t) && is_binary (range_at ns w)) (leb 1 n && leb n time_limit) fitting)

  suits_follows : T (follows last t w)
  suits_follows = and_right (is_timer_range (range_at ns t) && is_binary (range_at ns w) && (leb 1 n && leb n time_limit)) (follows last t w) s

-- ---- the table as the walk goes on

-- v is known, and is no timer
pub record Plain (ids : List Bool) (ls : List ℕ) (v : ℕ) : Type 0 where
  pub is_known : get_or ids v false ≡ true
  pub unlimited : get_or ls v 0 ≡ 0

-- of a rule, and of a timer's instruction, the w is such a name
abbrev RuledIn : Role → List Bool → List ℕ → Type 0
RuledIn (pushes fits) ids ls = Unit {0}
RuledIn computes ids ls = Unit {0}
RuledIn tests ids ls = Unit {0}
RuledIn opens ids ls = Unit {0}
RuledIn (picks side v) ids ls = Unit {0}
RuledIn (lets v) ids ls = Plain ids ls v
RuledIn (settles v) ids ls = Plain ids ls v
RuledIn (times t w n) ids ls = Plain ids ls w

abbrev Ruled : Option Instruction → List Bool → List ℕ → Type 0
Ruled none ids ls = Unit {0}
Ruled (some i) ids ls = RuledIn (signature i).role ids ls

pub data Watched (ids : List Bool) (ls : List ℕ) : Type 0 where
  untimed : has_timer ls ≡ false → Watched ids ls
  watched : (w : ℕ) → Plain ids ls w → Watched ids ls

-- names that are not known have no limit, no limit is over the largest, and if there is a timer some name that is known is none
pub record Tabled (ids : List Bool) (ls : List ℕ) : Type 0 where
  pub size : length ls ≡ length ids
  pub waiting : (t : ℕ) → get_or ids t false ≡ false → get_or ls t 0 ≡ 0
  pub most : (t : ℕ) → get_or ls t 0 ≤ time_limit
  pub watches : Watched ids ls

follows_plain : (ids : List Bool) (ls : List ℕ) (r : Role) (t w : ℕ) → T (follows_in r t w) → RuledIn r ids ls → Plain ids ls w
follows_plain ids ls (pushes fits) t w f x = absurd f
follows_plain ids ls computes t w f x = absurd f
follows_plain ids ls tests t w f x = absurd f
follows_plain ids ls opens t w f x = absurd f
follows_plain ids ls (picks side v) t w f x = absurd f
follows_plain ids ls (lets v) t w f x = subst (Plain ids ls) (eqb→eq v w f) x
follows_plain ids ls (settles v) t w f x = subst (Plain ids ls) (eqb→eq v w f) x
follows_plain ids ls (times u v n) t w f x = subst (Plain ids ls) (eqb→eq v w (and_left (eqb v w) (ltb u t) f)) x

watched_plain : (ids : List Bool) (ls : List ℕ) (last : Option Instruction) (t w : ℕ) → T (follows last t w) → Ruled last ids ls → Plain ids ls w
watched_plain ids ls none t w f x = absurd f
watched_plain ids ls (some i) t w f x = follows_plain ids ls (signature i).role t w f x

set_kept : (ids : List Bool) (v t : ℕ) → get_or ids t false ≡ true → get_or (set ids v true) t false ≡ true
set_kept [] v t e = e
set_kept (b ∷ bs) zero zero e = refl
set_kept (b ∷ bs) zero (suc t) e = e
set_kept (b ∷ bs) (suc v) zero e = e
set_kept (b ∷ bs) (suc v) (suc t) e = set_kept bs v t e

set_most : (ls : List ℕ) (t n m : ℕ) → ((u : ℕ) → get_or ls u 0 ≤ m) → n ≤ m → (u : ℕ) → get_or (set ls t n) u 0 ≤ m
set_most [] t n m h l u = h u
set_most (x ∷ ls) zero n m h l zero = l
set_most (x ∷ ls) zero n m h l (suc u) = h (suc u)
set_most (x ∷ ls) (suc t) n m h l zero = h zero
set_most (x ∷ ls) (suc t) n m h l (suc u) = set_most ls t n m (λ k. h (suc k)) l u

differ : (ids : List Bool) (t v : ℕ) → get_or ids t false ≡ false → get_or ids v false ≡ true → t ≡ v → ⊥
differ ids t v a b e = false≢true (sym a ∙ ap (λ (y : ℕ). get_or ids y false) e ∙ b)

module _ (ids : List Bool) (ls : List ℕ) (x : Tabled ids ls) where
  -- a rule
  module _ (v : ℕ) (u : T (unset ids v)) where
    ruled_plain : Plain (set ids v true) ls v
    ruled_plain = record { is_known = get_or-set_same ids v true false (unset_inside ids v u); unlimited = x.waiting v (unset_false ids v u) }

    ruled_tabled : Tabled (set ids v true) ls
    ruled_tabled = record { size = x.size ∙ sym (length-set ids v true); waiting = λ t e. x.waiting t (set_unset ids v t e); most = x.most; watches = watched v ruled_plain }

  -- a 23
  module _ (t w n : ℕ) (u : T (unset ids t)) (p : Plain ids ls w) (m : n ≤ time_limit) where
    others : (v : ℕ) → get_or ids v false ≡ true → get_or (set ls t n) v 0 ≡ get_or ls v 0
    others v k = get_or-set_other ls t v n 0 (λ e. differ ids t v (unset_false ids t u) k (sym e))

    timer_plain : Plain (set ids t true) (set ls t n) w
    timer_plain = record { is_known = set_kept ids t w p.is_known; unlimited = others w p.is_known ∙ p.unlimited }

    timer_waiting : (v : ℕ) → get_or (set ids t true) v false ≡ false → get_or (set ls t n) v 0 ≡ 0
    timer_waiting v e = get_or-set_other ls t v n 0 (differ (set ids t true) v t e (get_or-set_same ids t true false (unset_inside ids t u))) ∙ x.waiting v (set_unset ids t v e)

    timer_tabled : Tabled (set ids t true) (set ls t n)
    timer_tabled = record { size = length-set ls t n ∙ x.size ∙ sym (length-set ids t true); waiting = timer_waiting; most = set_most ls t n time_limit x.most m; watches = watched w timer_plain }

tabled_by : (ns : List Range) (last : Option Instruction) (r : Role) (rest : List Sort) (g : Bool) (o : Option Picks) (ids : List Bool) (ls : List ℕ) → AllowedIn r rest g o ids → T (suits_in ns last r)
    → Tabled ids ls × Ruled last ids ls → Tabled (ids_in r ids) (limit_in r ls) × RuledIn r (ids_in r ids) (limit_in r ls)
tabled_by ns last (pushes fits) rest g o ids ls a s x = (x.0, tt)
tabled_by ns last computes rest g o ids ls a s x = (x.0, tt)
tabled_by ns last tests rest g o ids ls a s x = (x.0, tt)
tabled_by ns last opens rest g o ids ls a s x = (x.0, tt)
tabled_by ns last (picks side v) rest g o ids ls a s x = (x.0, tt)
tabled_by ns last (lets v) rest g o ids ls a s x = (ruled_tabled ids ls x.0 v a.2, ruled_plain ids ls x.0 v a.2)
tabled_by ns last (settles v) rest g o ids ls a s x = (ruled_tabled ids ls x.0 v a.2, ruled_plain ids ls x.0 v a.2)
tabled_by ns last (times t w n) rest g o ids ls a s x =
    let p = watched_plain ids ls last t w (suits_follows ns last t w n s) x.1 in
    (timer_tabled ids ls x.0 t w n a.2 p (suits_most ns last t w n s), timer_plain ids ls x.0 t w n a.2 p (suits_most ns last t w n s))

-- what a walk knows of the table before an instruction
pub record Limited (last : Option Instruction) (c : Known) (ls : List ℕ) : Type 0 where
  pub tabled : Tabled (ids_of c) ls
  ruled : Ruled last (ids_of c) ls

length_ids : (r : Role) (ids : List Bool) → length (ids_in r ids) ≡ length ids
length_ids (pushes fits) ids = refl
length_ids computes ids = refl
length_ids tests ids = refl
length_ids opens ids = refl
length_ids (picks side v) ids = refl
length_ids (lets v) ids = length-set ids v true
length_ids (settles v) ids = length-set ids v true
length_ids (times t w n) ids = length-set ids t true

pub ids_kept : (i : Instruction) (c d : Known) → advance i c ≡ some d → length (ids_of d) ≡ length (ids_of c)
ids_kept i (known vs g o ids) d e = ap (λ (z : Known). length (ids_of z)) (sym (kept_by i (known vs g o ids) d e).left) ∙ length_ids (signature i).role ids

pub limited_next : (ns : List Range) (last : Option Instruction) (i : Instruction) (c d : Known) (ls : List ℕ) → T (suits ns last i) → advance i c ≡ some d → Limited last c ls
    → Limited (some i) d (limit_in (signature i).role ls)
limited_next ns last i (known vs g o ids) d ls s e x =
    let k = kept_by i (known vs g o ids) d e in
    let y = tabled_by ns last (signature i).role k.allowed.rest g o ids ls k.allowed.in_role s (x.tabled, x.ruled) in
    subst (λ (z : Known). Limited (some i) z (limit_in (signature i).role ls)) k.left (record { tabled = y.0; ruled = y.1 })

-- at first there is none
pub zeros_at : (n t : ℕ) → get_or {A = ℕ} (replicate n 0) t 0 ≡ 0
zeros_at zero t = refl
zeros_at (suc n) zero = refl
zeros_at (suc n) (suc t) = zeros_at n t

pub limited_begins : (c : Known) (n : ℕ) → n ≡ length (ids_of c) → Limited none c (replicate n 0)
limited_begins c n l = record { tabled = record { size = length-replicate n 0 ∙ l; waiting = λ t e. zeros_at n t; most = λ t. rw (zeros_at n t) (omega arith); watches = untimed (none_timed n) }; ruled = tt }

-- the t of a 23 is a name that was not known, its w one that is, and no timer
pub record TimerNamed (ids : List Bool) (ls : List ℕ) (t w n : ℕ) : Type 0 where
  pub named : t < length ids
  pub unknown : get_or ids t false ≡ false
  pub of_name : w < length ids
  pub of_plain : Plain ids ls w
  pub least : 1 ≤ n
  pub most : n ≤ time_limit

pub timer_named : (ns : List Range) (last : Option Instruction) (t w n : ℕ) (c d : Known) (ls : List ℕ) → T (suits ns last (timer t w n)) → advance (timer t w n) c ≡ some d → Limited last c ls → TimerNamed (ids_of c) ls t w n
timer_named ns last t w n (known vs g o ids) d ls s e x =
    let k = kept_by (timer t w n) (known vs g o ids) d e in
    let u = k.allowed.in_role.2 in
    let p = watched_plain ids ls last t w (suits_follows ns last t w n s) x.ruled in
    record { named = unset_inside ids t u; unknown = unset_false ids t u; of_name = known_inside ids w p.is_known; of_plain = p; least = suits_least ns last t w n s; most = suits_most ns last t w n s }

-- ---- the whole walk

-- what each instruction that keeps soundness keeps, the walk keeps
pub walk_keeps : (P : Option Instruction → Known → List ℕ → Type 0) (ns : List Range)
    → ((last : Option Instruction) (i : Instruction) (c d : Known) (ls : List ℕ) → T (suits ns last i) → advance i c ≡ some d → P last c ls → P (some i) d (limit_in (signature i).role ls))
    → (base : ℕ) (code : List ℕ) (f at : ℕ) (last : Option Instruction) (c : Known) (ls : List ℕ) → check_code ns base code f at last c ≡ accepted tt → P last c ls
    → (last₁ : Option Instruction) × (c₁ : Known) × P last₁ c₁ (limits_from code f at ls)
walk_keeps P ns keeps base code zero at last c ls e x = (last, c, x)
walk_keeps P ns keeps base code (suc f) at last c ls e x = go (ltb at (length code)) refl (walk_keeps P ns keeps base code f)
  where
    go : (b : Bool) → ltb at (length code) ≡ b
        → ((at₁ : ℕ) (last₁ : Option Instruction) (c₁ : Known) (ls₁ : List ℕ) → check_code ns base code f at₁ last₁ c₁ ≡ accepted tt → P last₁ c₁ ls₁ → (last₂ : Option Instruction) × (c₂ : Known) × P last₂ c₂ (limits_from code f at₁ ls₁))
        → (last₂ : Option Instruction) × (c₂ : Known) × P last₂ c₂ (limited (fetch code at) ls λ next ls₁. limits_from code f next ls₁)
    go true l ih =
        let s = check_stepped ns base code f at last c (ltb-true at (length code) l) e in
        rw s.fetched (ih s.next (some s.instruction) s.after (limit_in (signature s.instruction).role ls) s.goes (keeps last s.instruction c s.after ls s.suited s.advanced x))
    go false l ih = rw (fetch-end code at (ltb-false at (length code) l)) (last, c, x)

-- the limit of a name that is known does not change any more
limit_other : (r : Role) (rest : List Sort) (g : Bool) (o : Option Picks) (ids : List Bool) (ls : List ℕ) (t : ℕ) → AllowedIn r rest g o ids → get_or ids t false ≡ true
    → (get_or (ids_in r ids) t false ≡ true) × (get_or (limit_in r ls) t 0 ≡ get_or ls t 0)
limit_other (pushes fits) rest g o ids ls t a e = (e, refl)
limit_other computes rest g o ids ls t a e = (e, refl)
limit_other tests rest g o ids ls t a e = (e, refl)
limit_other opens rest g o ids ls t a e = (e, refl)
limit_other (picks side v) rest g o ids ls t a e = (e, refl)
limit_other (lets v) rest g o ids ls t a e = (set_kept ids v t e, refl)
limit_other (settles v) rest g o ids ls t a e = (set_kept ids v t e, refl)
limit_other (times u w n) rest g o ids ls t a e =
    (set_kept ids u t e, get_or-set_other ls u t n 0 (λ q. differ ids u t (unset_false ids u a.2) e (sym q)))

abbrev Same : ℕ → ℕ → Option Instruction → Known → List ℕ → Type 0
Same t n last c ls = (get_or (ids_of c) t false ≡ true) × (get_or ls t 0 ≡ n)

same_next : (ns : List Range) (t n : ℕ) (last : Option Instruction) (i : Instruction) (c d : Known) (ls : List ℕ) → T (suits ns last i) → advance i c ≡ some d → Same t n last c ls → Same t n (some i) d (limit_in (signature i).role ls)
same_next ns t n last i (known vs g o ids) d ls s e x =
    let k = kept_by i (known vs g o ids) d e in
    let y = limit_other (signature i).role k.allowed.rest g o ids ls t k.allowed.in_role x.0 in
    (subst (λ (z : Known). get_or (ids_of z) t false ≡ true) k.left y.0, y.1 ∙ x.1)

module _ (ns : List Range) (base : ℕ) (code : List ℕ) (f at : ℕ) (last : Option Instruction) (c : Known) (ls : List ℕ) where
  pub limit_kept : (t : ℕ) → check_code ns base code f at last c ≡ accepted tt → get_or (ids_of c) t false ≡ true → get_or (limits_from code f at ls) t 0 ≡ get_or ls t 0
  limit_kept t e k = (walk_keeps (Same t (get_or ls t 0)) ns (same_next ns t (get_or ls t 0)) base code f at last c ls e (k, refl)).2.1

  -- so a 23's N is the limit that the rest of the code gives its t
  pub timer_limit : (t w n next : ℕ) (d : Known) → length ls ≡ length (ids_of c) → advance (timer t w n) c ≡ some d → check_code ns base code f next (some (timer t w n)) d ≡ accepted tt
      → get_or (limits_from code f next (set ls t n)) t 0 ≡ n
  timer_limit t w n next d l a e =
      let q = timer-ids c d a in
      let inside : t < length ls = omega (arith, q.0) in
      (walk_keeps (Same t n) ns (same_next ns t n) base code f next (some (timer t w n)) d (set ls t n) e (q.1, get_or-set_same ls t n 0 inside)).2.1
    where
      timer-ids : (c d : Known) → advance (timer t w n) c ≡ some d → (t < length (ids_of c)) × (get_or (ids_of d) t false ≡ true)
      timer-ids (known vs g o ids) d a =
          let k = kept_by (timer t w n) (known vs g o ids) d a in
          let u = unset_inside ids t k.allowed.in_role.2 in
          (u, subst (λ (z : Known). get_or (ids_of z) t false ≡ true) k.left (get_or-set_same ids t true false u))
