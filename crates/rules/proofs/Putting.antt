-- Laws of the timers that two tables hold, and of those of a variable that are put after its rule. Assumes nothing.
use Prim.Native.Nat.{ℕ, zero, suc, ◌+◌, ◌-◌, ◌*◌, ◌≤◌, ◌<◌}
use mathlib.Core.Path.{◌≡◌, refl, sym, ap, ◌∙◌}
use mathlib.Core.Bool.{Bool, true, false, cond}
use mathlib.Core.List.{List, [], ◌∷◌, ◌++◌, append_assoc, append-nil}
use native.Mathlib.Omega.{arith}
use lib.Dec.{eqb, leb}
use lib.ListN.{length, get_or, set, length-append}
use lib.Seq.{sets}
use borrow.Author.Tests.{leb-true, leb-false, eqb-true, eqb-false, le-leb, lt-leb}
use Rattle.leb128.specs.Numbers.{number}
use Rattle.leb128.proofs.Laws.{groups_one, at_most_five}
use Rattle.arith.specs.Inner.Flags.{flags_of}
use Rattle.semantics.specs.Program.{Timer, is_timer, timers_known}
use Rattle.bytecode.specs.Instructions.{encode, timer}
use Rattle.grammar.specs.Inner.Bytes.{bytes_t}
use Rattle.cases.proofs.Ways.{then_bytes}
use Rattle.rules.specs.declared.timers.Behind.{Behind}
use Rattle.rules.specs.Inner.Timers.{table_timers, timers_in, TimersFrom, TimersPut}

-- ---- timers of two tables

abbrev entry : List ℕ → List ℕ → ℕ → Timer
entry watched limits i = record { id = i; watched = get_or watched i 0; limit = get_or limits i 0 }

table_more : (watched limits : List ℕ) (i n : ℕ) → table_timers watched limits i (suc n) ≡ table_timers watched limits i n ++ table_timers watched limits (i + n) 1
unfolding table_timers
table_more watched limits i zero = ap (λ (j : ℕ). entry watched limits j ∷ []) (omega arith)
table_more watched limits i (suc n) =
    ap (λ (ts : List Timer). entry watched limits i ∷ ts) (table_more watched limits (suc i) n ∙ ap (λ (j : ℕ). table_timers watched limits (suc i) n ++ table_timers watched limits j 1) (omega arith))

differs : {i v : ℕ} → (i ≡ v → ⊥) → v < suc i → v < i
differs n h = omega (arith, n, h)

table_is : (watched limits : List ℕ) (i n v : ℕ) → v < i + n → is_timer (table_timers watched limits i n) v ≡ leb i v
unfolding table_timers
table_is watched limits i zero v h = sym (lt-leb i v (omega (arith, h)))
table_is watched limits i (suc n) v h = go (table_is watched limits (suc i) n v (omega (arith, h))) (eqb i v) refl (leb (suc i) v) refl
  where
    go : is_timer (table_timers watched limits (suc i) n) v ≡ leb (suc i) v → (b : Bool) → eqb i v ≡ b → (d : Bool) → leb (suc i) v ≡ d → cond b true (is_timer (table_timers watched limits (suc i) n) v) ≡ leb i v
    go ih true e d f = sym (le-leb i v (omega (arith, eqb-true i v e)))
    go ih false e true f = ih ∙ f ∙ sym (le-leb i v (omega (arith, leb-true (suc i) v f)))
    go ih false e false f = ih ∙ f ∙ sym (lt-leb i v (differs (eqb-false i v e) (leb-false (suc i) v f)))

pub timers_from_lem : (watched limits : List ℕ) (first count : ℕ) → TimersFrom first count (timers_in watched limits first count)
timers_from_lem watched limits first count v h = table_is watched limits first (count - first) v (omega (arith, h))

-- ---- their bytes, and the names known

bytes_append : (v : ℕ) (xs ys : List Timer) → bytes_t v (xs ++ ys) ≡ bytes_t v xs ++ bytes_t v ys
unfolding bytes_t
bytes_append v [] ys = refl
bytes_append v (x ∷ xs) ys = go (eqb x.watched v) (bytes_append v xs ys)
  where
    go : (b : Bool) → bytes_t v (xs ++ ys) ≡ bytes_t v xs ++ bytes_t v ys
        → cond b (23 ∷ (number x.id ++ (number v ++ (number x.limit ++ bytes_t v (xs ++ ys))))) (bytes_t v (xs ++ ys)) ≡ cond b (23 ∷ (number x.id ++ (number v ++ (number x.limit ++ bytes_t v xs)))) (bytes_t v xs) ++ bytes_t v ys
    go true e = rw e (simp append_assoc)
    go false e = e

known_append : (v : ℕ) (xs ys : List Timer) (known : List Bool) → timers_known v (xs ++ ys) known ≡ timers_known v ys (timers_known v xs known)
known_append v [] ys known = refl
known_append v (x ∷ xs) ys known = known_append v xs ys (cond (eqb x.watched v) (set known x.id true) known)

-- an instruction takes eight bytes at most
table_bytes : (watched limits : List ℕ) (v i n : ℕ) → v < 64 → i + n ≤ 64 → length (bytes_t v (table_timers watched limits i n)) ≤ 8 * n
unfolding table_timers bytes_t
table_bytes watched limits v i zero hv h = omega arith
table_bytes watched limits v i (suc n) hv h = go (eqb (get_or watched i 0) v) (bytes_t v (table_timers watched limits (suc i) n)) (table_bytes watched limits v (suc i) n hv (omega (arith, h)))
  where
    go : (b : Bool) (rest : List ℕ) → length rest ≤ 8 * n → length (cond b (23 ∷ (number i ++ (number v ++ (number (get_or limits i 0) ++ rest)))) rest) ≤ 8 * suc n
    go true rest e = rw (groups_one i (omega (arith, h)), groups_one v (omega (arith, hv))) (simp length-append (omega (arith, e, at_most_five (get_or limits i 0))))
    go false rest e = omega (arith, e)

none_bytes : (watched limits : List ℕ) (v i n : ℕ) → n ≡ 0 → length (bytes_t v (table_timers watched limits i n)) ≤ 512
unfolding table_timers bytes_t
none_bytes watched limits v i zero e = omega arith
none_bytes watched limits v i (suc n) e = absurd (omega (arith, e))

pub few_bytes : (watched limits : List ℕ) (first count v : ℕ) → v < 64 → count ≤ 64 → length (bytes_t v (timers_in watched limits first count)) ≤ 512
few_bytes watched limits first count v hv h = small (leb first count) refl
  where
    small : (b : Bool) → leb first count ≡ b → length (bytes_t v (timers_in watched limits first count)) ≤ 512
    small true e = let l = leb-true first count e in omega (arith, table_bytes watched limits v first (count - first) hv (omega (arith, l, h)), l, h)
    small false e = none_bytes watched limits v first (count - first) (omega (arith, leb-false first count e))

-- ---- one timer

module _ (watched limits : List ℕ) (id v count known to : ℕ) (before : List ℕ) where
  pub other_timer_lem : eqb (get_or watched id 0) v ≡ false → TimersPut (table_timers watched limits id 1) v count known to before before (record { known = known; to = to })
  unfolding table_timers bytes_t
  other_timer_lem e = record { usable = rw e; ended = rw e (omega arith); wrote = rw e refl }

  pub own_timer : {after : List ℕ} {t k : ℕ} → eqb (get_or watched id 0) v ≡ true → (t ≡ to + length (encode (timer id v (get_or limits id 0)))) × (after ≡ sets before to (encode (timer id v (get_or limits id 0))))
      → flags_of count k ≡ set (flags_of count known) id true → TimersPut (table_timers watched limits id 1) v count known to before after (record { known = k; to = t })
  unfolding table_timers bytes_t
  own_timer e p f = record { usable = rw e f; ended = rw (e, append-nil) p.0; wrote = rw (e, append-nil) p.1 }

-- ---- all of them, one behind the other

pub record Putting (watched limits : List ℕ) (first v count known₀ to : ℕ) (before after : List ℕ) (known t id : ℕ) : Type 0 where
  pub come : (first ≤ id) × (id - first ≤ count - first)
  pub put : TimersPut (table_timers watched limits first (id - first)) v count known₀ to before after (record { known = known; to = t })
  pub long : length after ≡ length before

module _ (watched limits : List ℕ) (first v count known₀ to : ℕ) (before : List ℕ) where
  none_put : (n : ℕ) → n ≡ 0 → TimersPut (table_timers watched limits first n) v count known₀ to before before (record { known = known₀; to = to })
  unfolding table_timers bytes_t
  none_put zero e = record { usable = refl; ended = omega arith; wrote = refl }
  none_put (suc n) e = absurd (omega (arith, e))

  pub putting_first : Putting watched limits first v count known₀ to before before known₀ to first
  putting_first = record { come = (omega arith, omega arith); put = none_put (first - first) (omega arith); long = refl }

  module _ {after' : List ℕ} {known t id : ℕ} (x : Putting watched limits first v count known₀ to before after' known t id) where
    pub putting_near : v < 64 → count ≤ 64 → t ≤ to + 512
    putting_near hv h = near (leb id count) refl
      where
        near : (b : Bool) → leb id count ≡ b → t ≤ to + 512
        near true e = omega (arith, x.put.ended, few_bytes watched limits first id v hv (omega (arith, leb-true id count e, h)))
        near false e = omega (arith, x.put.ended, none_bytes watched limits v first (id - first) (omega (arith, leb-false id count e, x.come.0, x.come.1)))

    pub putting_more : {mid : List ℕ} {r : Behind} → id < count → TimersPut (table_timers watched limits id 1) v count known t after' mid r → length mid ≡ length after'
        → Putting watched limits first v count known₀ to before mid r.known r.to (id + 1)
    putting_more {mid} {r} h p l =
        let n : ℕ = id - first in
        let here : first + n ≡ id = omega (arith, x.come.0) in
        let whole : table_timers watched limits first (id + 1 - first) ≡ table_timers watched limits first n ++ table_timers watched limits id 1 =
        ap (table_timers watched limits first) (omega (arith, x.come.0)) ∙ table_more watched limits first n ∙ ap (λ (j : ℕ). table_timers watched limits first n ++ table_timers watched limits j 1) here in
        record {
          come = (omega (arith, x.come.0), omega (arith, h, x.come.0));
          put = rw whole (record {
            usable = p.usable ∙ ap (timers_known v (table_timers watched limits id 1)) x.put.usable ∙ sym (known_append v (table_timers watched limits first n) (table_timers watched limits id 1) (flags_of count known₀));
            ended = rw (bytes_append v (table_timers watched limits first n) (table_timers watched limits id 1)) (simp length-append (omega (arith, p.ended, x.put.ended)));
            wrote = rw (bytes_append v (table_timers watched limits first n) (table_timers watched limits id 1)) (then_bytes before to (bytes_t v (table_timers watched limits first n)) (bytes_t v (table_timers watched limits id 1)) x.put.ended x.put.wrote p.wrote);
          });
          long = l ∙ x.long;
        }
