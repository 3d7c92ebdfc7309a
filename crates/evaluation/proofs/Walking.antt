-- A watch walked over a trace as it is lent: what is left to walk decides. Assumes nothing.
use Prim.Native.Nat.{ℕ, zero, suc, ◌+◌, ◌-◌, ◌*◌, ◌≤◌, ◌<◌}
use native.Mathlib.Nat.{suc-mul}
use native.Mathlib.Omega.{arith}
use mathlib.Core.Path.{◌≡◌, refl, sym, ap, subst, ◌∙◌}
use mathlib.Core.Bool.{Bool, true, false, cond}
use mathlib.Core.List.{List, ◌∷◌}
use mathlib.Core.Option.{none, some}
use lib.IntN.{ℤ}
use lib.ListN.{length, take, drop, length-drop}
use lib.Seq.{drop-drop, length-take-le}
use Rattle.arith.specs.Values.{Outcome, ok, refusal}
use Rattle.semantics.specs.Program.{Condition}
use Rattle.semantics.specs.Formula.{State, Trace, eval_c}
use Rattle.watching.specs.Watching.{TracePlace, places_from, places_of, is_yes, implied, over_places, over_pairs, first_no, first_failure}
use Rattle.semantics.specs.Shape.{states_of}
use Rattle.std.specs.Prelude.{Option}
use Rattle.evaluation.specs.Conditions.{ConditionCode, Tells}

-- ---- answers

pub after_yes : (p : Outcome Bool) → is_yes p ≡ is_yes (implied (ok true) p)
after_yes (ok b) = refl
after_yes (refusal k) = refl

-- ---- a state of the trace

abbrev pub state_at : ℕ → List ℤ → ℕ → State
state_at names cells at = take names (drop at cells)

pub state_length_lem : (names : ℕ) (cells : List ℤ) (at : ℕ) → at + names ≤ length cells → length (state_at names cells at) ≡ names
state_length_lem names cells at h = length-take-le names (drop at cells) (rw length-drop (omega arith))

-- what `evaluate` says of two parts of the trace
pub at_place : (code : List ℕ) (cells : List ℤ) (names before at : ℕ) (r : Option Bool) → before + names ≤ length cells → at + names ≤ length cells
    → ((c : Condition) → ConditionCode c (length (take (at + names - at) (drop at cells))) code → length (take (before + names - before) (drop before cells)) ≡ length (take (at + names - at) (drop at cells))
    → Tells r (eval_c (take (before + names - before) (drop before cells)) (take (at + names - at) (drop at cells)) c))
    → (c : Condition) → ConditionCode c names code → Tells r (eval_c (state_at names cells before) (state_at names cells at) c)
at_place code cells names before at r h k f c d =
    let x : before + names - before ≡ names = omega arith in
    let y : at + names - at ≡ names = omega arith in
    let l = state_length_lem names cells before h in
    let m = state_length_lem names cells at k in
    (rw (x, y) at f) c (subst (λ (n : ℕ). ConditionCode c n code) (sym m) d) (l ∙ sym m)

-- ---- the places left

pub record Left (names places size n before at : ℕ) : Type 0 where
  pub left : ℕ
  pub count : n + left ≡ places
  pub whole : at + left * names ≡ size
  pub order : before ≤ at

pub one_more : {names places size n before at : ℕ} (l : Left names places size n before at) → n < places → (m : ℕ) × (l.left ≡ suc m) × (at + names + m * names ≡ size)
one_more {names} {places} {size} {n} {before} {at} l h = go l.left l.count l.whole
  where
    go : (k : ℕ) → n + k ≡ places → at + k * names ≡ size → (m : ℕ) × (k ≡ suc m) × (at + names + m * names ≡ size)
    go zero c w = let b : ⊥ = omega arith in absurd b
    go (suc m) c w = (m, refl, omega (arith, suc-mul m names))

pub inside : {names places size n before at : ℕ} → Left names places size n before at → n < places → (before + names ≤ size) × (at + names ≤ size)
inside l h = let m = one_more l h in let o = l.order in (omega (arith, m.2), omega (arith, m.2))

pub none_left_lem : {names places size n before at : ℕ} (l : Left names places size n before at) → places ≤ n → l.left ≡ 0
none_left_lem l h = omega (arith, l.count)

abbrev pub moved : {names places size n before at : ℕ} (l : Left names places size n before at) (h : n < places) → Left names places size (n + 1) at (at + names)
moved l h =
    let m = one_more l h in
    record { left = m.0; count = omega (arith, l.count, m.1); whole = m.2; order = omega arith }

states_next : (names at m : ℕ) (cells : List ℤ) → states_of (suc m) names (drop at cells) ≡ state_at names cells at ∷ states_of m names (drop (at + names) cells)
states_next names at m cells = rw (drop-drop names at cells)

-- ---- one condition

pub record Alone (code : List ℕ) (cells : List ℤ) (names places : ℕ) (vals₀ vals : List ℤ) (n before at : ℕ) : Type 0 where
  pub places_left : Left names places (length cells) n before at
  pub deep : length vals ≡ length vals₀
  pub goes : (c : Condition) → ConditionCode c names code
      → first_failure (record { first = c; later = none }) (places_of (states_of places names cells))
      ≡ first_no n (over_places c (places_from (state_at names cells before) (states_of places_left.left names (drop at cells))))

alone_first : (c : Condition) (names places : ℕ) (cells : List ℤ)
    → first_failure (record { first = c; later = none }) (places_of (states_of places names cells)) ≡ first_no 0 (over_places c (places_from (take names cells) (states_of places names cells)))
unfolding first_failure
alone_first c names zero cells = refl
alone_first c names (suc m) cells = refl

pub alone_begins : (code : List ℕ) (cells : List ℤ) (names places : ℕ) (vals : List ℤ) → places * names ≡ length cells → Alone code cells names places vals vals 0 0 0
alone_begins code cells names places vals e =
    record { places_left = record { left = places; count = omega arith; whole = omega arith; order = omega arith }; deep = refl; goes = λ c d. alone_first c names places cells }

module _ {code : List ℕ} {cells : List ℤ} {names places : ℕ} {vals₀ vals : List ℤ} {n before at : ℕ} (a : Alone code cells names places vals₀ vals n before at) (c : Condition) (d : ConditionCode c names code) where
  pub alone_ends : places ≤ n → none ≡ first_failure (record { first = c; later = none }) (places_of (states_of places names cells))
  alone_ends h =
      let z : a.places_left.left ≡ 0 = none_left_lem a.places_left h in
      sym (a.goes c d ∙ rw z)

  module _ (h : n < places) (b : Bool) (e : b ≡ is_yes (eval_c (state_at names cells before) (state_at names cells at) c)) where
    decides : first_failure (record { first = c; later = none }) (places_of (states_of places names cells))
        ≡ cond b (first_no (n + 1) (over_places c (places_from (state_at names cells at) (states_of (one_more a.places_left h).0 names (drop (at + names) cells))))) (some n)
    decides =
        let m = one_more a.places_left h in
        a.goes c d
        ∙ ap (λ (k : ℕ). first_no n (over_places c (places_from (state_at names cells before) (states_of k names (drop at cells))))) m.1
        ∙ ap (λ (ts : Trace). first_no n (over_places c (places_from (state_at names cells before) ts))) (states_next names at m.0 cells)
        ∙ rw e

    pub alone_fails : b ≡ false → some n ≡ first_failure (record { first = c; later = none }) (places_of (states_of places names cells))
    alone_fails f = sym (decides ∙ rw f)

    pub alone_goes : b ≡ true
        → first_failure (record { first = c; later = none }) (places_of (states_of places names cells))
        ≡ first_no (n + 1) (over_places c (places_from (state_at names cells at) (states_of (one_more a.places_left h).0 names (drop (at + names) cells))))
    alone_goes f = decides ∙ rw f

-- ---- a pair

abbrev pub place : State → State → TracePlace
place s t = record { before = s; here = t }

-- the first condition's answer at the place before, and what is left
pub record Carried (cells : List ℤ) (names places n before at left : ℕ) (a : Option Bool) (c d : Condition) : Type 0 where
  pub ago : State
  pub told : Tells a (eval_c ago (state_at names cells before) c)
  pub same : first_failure (record { first = c; later = some d }) (places_of (states_of places names cells))
      ≡ first_no n (over_pairs c d (place ago (state_at names cells before)) (places_from (state_at names cells before) (states_of left names (drop at cells))))

pub record Pairs (first later : List ℕ) (cells : List ℤ) (names places : ℕ) (vals₀ vals : List ℤ) (a : Option Bool) (n before at : ℕ) : Type 0 where
  pub places_left : Left names places (length cells) n before at
  pub deep : length vals ≡ length vals₀
  pub room : 40 ≤ length vals
  pub goes : (c d : Condition) → ConditionCode c names first → ConditionCode d names later → Carried cells names places n before at places_left.left a c d

pub pairs_none : (c d : Condition) (names places : ℕ) (cells : List ℤ) → places ≡ 0 → none ≡ first_failure (record { first = c; later = some d }) (places_of (states_of places names cells))
unfolding first_failure
pairs_none c d names places cells e = rw e

pairs_first : (c d : Condition) (names m : ℕ) (cells : List ℤ)
    → first_failure (record { first = c; later = some d }) (places_of (states_of (suc m) names cells))
    ≡ first_no 1 (over_pairs c d (place (take names cells) (take names cells)) (places_from (take names cells) (states_of m names (drop names cells))))
unfolding first_failure
pairs_first c d names m cells = refl

pub start-inside : (names places size : ℕ) → places * names ≡ size → (places ≡ 0 → ⊥) → names ≤ size
start-inside names zero size e h = absurd (h refl)
start-inside names (suc m) size e h = omega (arith, suc-mul m names)

pub pairs_begin : (first later : List ℕ) (cells : List ℤ) (names places : ℕ) (vals : List ℤ) (a : Option Bool) → places * names ≡ length cells → (places ≡ 0 → ⊥) → 40 ≤ length vals
    → ((c : Condition) → ConditionCode c names first → Tells a (eval_c (state_at names cells 0) (state_at names cells 0) c)) → Pairs first later cells names places vals vals a 1 0 names
pairs_begin first later cells names zero vals a e h r t = absurd (h refl)
pairs_begin first later cells names (suc m) vals a e h r t =
    record {
      places_left = record { left = m; count = omega arith; whole = omega (arith, suc-mul m names); order = omega arith };
      deep = refl;
      room = r;
      goes = λ c d x y. record { ago = take names cells; told = t c x; same = pairs_first c d names m cells };
    }

module _ {first later : List ℕ} {cells : List ℤ} {names places : ℕ} {vals₀ vals : List ℤ} {a : Option Bool} {n before at : ℕ} (p : Pairs first later cells names places vals₀ vals a n before at)
    (c d : Condition) (x : ConditionCode c names first) (y : ConditionCode d names later) where
  pub pairs_end : places ≤ n → none ≡ first_failure (record { first = c; later = some d }) (places_of (states_of places names cells))
  pairs_end h =
      let z : p.places_left.left ≡ 0 = none_left_lem p.places_left h in
      sym ((p.goes c d x y).same ∙ rw z)

  module _ (h : n < places) (b : Bool) (e : b ≡ is_yes (implied (eval_c (p.goes c d x y).ago (state_at names cells before) c) (eval_c (state_at names cells before) (state_at names cells at) d))) where
    pair_decides : first_failure (record { first = c; later = some d }) (places_of (states_of places names cells))
        ≡ cond b (first_no (n + 1) (over_pairs c d (place (state_at names cells before) (state_at names cells at)) (places_from (state_at names cells at) (states_of (one_more p.places_left h).0 names (drop (at + names) cells))))) (some n)
    pair_decides =
        let m = one_more p.places_left h in
        let g = p.goes c d x y in
        g.same
        ∙ ap (λ (k : ℕ). first_no n (over_pairs c d (place g.ago (state_at names cells before)) (places_from (state_at names cells before) (states_of k names (drop at cells))))) m.1
        ∙ ap (λ (ts : Trace). first_no n (over_pairs c d (place g.ago (state_at names cells before)) (places_from (state_at names cells before) ts))) (states_next names at m.0 cells)
        ∙ rw e

    pub pairs_fail : b ≡ false → some n ≡ first_failure (record { first = c; later = some d }) (places_of (states_of places names cells))
    pairs_fail f = sym (pair_decides ∙ rw f)

    pub pairs_go : b ≡ true → (a₁ : Option Bool) → Tells a₁ (eval_c (state_at names cells before) (state_at names cells at) c)
        → Carried cells names places (n + 1) at (at + names) (one_more p.places_left h).0 a₁ c d
    pairs_go f a₁ t = record { ago = state_at names cells before; told = t; same = pair_decides ∙ rw f }
