-- Laws of runs with different budgets: what is counted, where they end, when a larger budget makes no difference. Assumes nothing.
use Prim.Native.Nat.{ℕ, zero, suc, ◌+◌, ◌-◌, ◌≤◌, ◌<◌, min}
use native.Mathlib.Omega.{arith}
use mathlib.Core.Path.{◌≡◌, refl, sym, ap, ◌∙◌}
use mathlib.Core.List.{List}
use mathlib.Core.Bool.{Bool, true, false}
use lib.Dec.{ltb, leb}
use lib.ListN.{length}
use borrow.Author.Tests.{ltb-true, ltb-false, leb-true, leb-false}
use Rattle.arith.specs.Values.{Outcome, ok, refusal}
use Rattle.semantics.specs.Formula.{State}
use Rattle.semantics.specs.Shape.{Setting}
use Rattle.machine.specs.Step.{Machine}
use Rattle.machine.specs.Runs.{Ran, ran, run, resume}
use Rattle.machine.proofs.Laws.{run_end_lem, run_divided}
use Rattle.runs.proofs.Unrolled.{Unrolled, over, stops, goes, unrolled}

-- k steps more
abbrev pub later : ℕ → Ran → Ran
later k r = ran (k + r.steps) r.place r.last

module _ (ns : Setting) (s : State) (code : List ℕ) where
  -- the steps done before are only added
  pub run_later : (b at k n : ℕ) (m : Machine) → run ns s code b at (k + n) m ≡ later k (run ns s code b at n m)
  run_later zero at k n m = refl
  run_later (suc b) at k n m = by (unrolled ns s code at m) (λ next m₁. run_later b next k (n + 1) m₁)
    where
      q : k + n + 1 ≡ k + (n + 1)
      q = omega arith

      by : Unrolled ns s code at m → ((next : ℕ) (m₁ : Machine) → run ns s code b next (k + (n + 1)) m₁ ≡ later k (run ns s code b next (n + 1) m₁))
          → run ns s code (suc b) at (k + n) m ≡ later k (run ns s code (suc b) at n m)
      by (over h) ih = rw (run_end_lem ns s code (suc b) at (k + n) m h, run_end_lem ns s code (suc b) at n m h)
      by (stops j l e) ih = rw (e b (k + n), e b n, q)
      by (goes next m₁ i l p h x e) ih = rw (e b (k + n), e b n, q) (ih next m₁)

  pub run_shift : (b at n : ℕ) (m : Machine) → run ns s code b at n m ≡ later n (run ns s code b at 0 m)
  run_shift b at n m = let q : n + 0 ≡ n = omega arith in rw q at (run_later b at n 0 m)

  -- a run ends no further than the code, unless it began there
  pub run_place : (top b at n : ℕ) (m : Machine) → at ≤ top → length code ≤ top → (run ns s code b at n m).place ≤ top
  run_place top zero at n m h k = h
  run_place top (suc b) at n m h k = by (unrolled ns s code at m) (λ next m₁ l. run_place top b next (n + 1) m₁ l k)
    where
      by : Unrolled ns s code at m → ((next : ℕ) (m₁ : Machine) → next ≤ top → (run ns s code b next (n + 1) m₁).place ≤ top)
          → (run ns s code (suc b) at n m).place ≤ top
      by (over l) ih = rw (run_end_lem ns s code (suc b) at n m l) h
      by (stops j l e) ih = rw (e b n) h
      by (goes next m₁ i l p q x e) ih = rw (e b n) (ih next m₁ (omega (arith, q, k)))

  -- no fewer steps than before, and no more than the budget
  pub run_counts : (b at n : ℕ) (m : Machine) → (n ≤ (run ns s code b at n m).steps) × ((run ns s code b at n m).steps ≤ n + b)
  run_counts zero at n m = (omega arith, omega arith)
  run_counts (suc b) at n m = by (unrolled ns s code at m) (λ next m₁. run_counts b next (n + 1) m₁)
    where
      by : Unrolled ns s code at m
          → ((next : ℕ) (m₁ : Machine) → (n + 1 ≤ (run ns s code b next (n + 1) m₁).steps) × ((run ns s code b next (n + 1) m₁).steps ≤ n + 1 + b))
          → (n ≤ (run ns s code (suc b) at n m).steps) × ((run ns s code (suc b) at n m).steps ≤ n + suc b)
      by (over k) ih = rw (run_end_lem ns s code (suc b) at n m k) (omega arith, omega arith)
      by (stops j l e) ih = rw (e b n) (omega arith, omega arith)
      by (goes next m₁ i l p q x e) ih = rw (e b n) (omega (arith, (ih next m₁).0), omega (arith, (ih next m₁).1))

  -- a refused run counted the refusing instruction
  pub refused_late : (b at n : ℕ) (m : Machine) (k : ℕ) → (run ns s code b at n m).last ≡ refusal k → n < (run ns s code b at n m).steps
  refused_late zero at n m k e = let z : ◌≡◌ {A = ℕ} 0 1 = cc in absurd (omega arith)
  refused_late (suc b) at n m k d = by (unrolled ns s code at m) d (λ next m₁ x. refused_late b next (n + 1) m₁ k x)
    where
      by : Unrolled ns s code at m → (run ns s code (suc b) at n m).last ≡ refusal k
          → ((next : ℕ) (m₁ : Machine) → (run ns s code b next (n + 1) m₁).last ≡ refusal k → n + 1 < (run ns s code b next (n + 1) m₁).steps)
          → n < (run ns s code (suc b) at n m).steps
      by (over h) d ih = let x = rw (run_end_lem ns s code (suc b) at n m h) at d in let z : ◌≡◌ {A = ℕ} 0 1 = cc in absurd (omega arith)
      by (stops j l e) d ih = rw (e b n) (omega arith)
      by (goes next m₁ i l p q x e) d ih = let y = ih next m₁ (rw (e b n) at d) in rw (e b n) (omega (arith, y))

  -- a run that did not use its budget up is that of every larger one
  pub run_or_over : (b at n : ℕ) (m : Machine) → (run ns s code b at n m).steps < n + b → (x : ℕ) → run ns s code (b + x) at n m ≡ run ns s code b at n m
  run_or_over zero at n m h x = absurd (omega arith)
  run_or_over (suc b) at n m h x = by (unrolled ns s code at m) h (λ next m₁ y. run_or_over b next (n + 1) m₁ y x)
    where
      q : suc b + x ≡ suc (b + x)
      q = omega arith

      by : Unrolled ns s code at m → (run ns s code (suc b) at n m).steps < n + suc b
          → ((next : ℕ) (m₁ : Machine) → (run ns s code b next (n + 1) m₁).steps < n + 1 + b → run ns s code (b + x) next (n + 1) m₁ ≡ run ns s code b next (n + 1) m₁)
          → run ns s code (suc b + x) at n m ≡ run ns s code (suc b) at n m
      by (over k) d ih = rw (run_end_lem ns s code (suc b + x) at n m k, run_end_lem ns s code (suc b) at n m k)
      by (stops j l e) d ih = rw (q, e (b + x) n, e b n)
      by (goes next m₁ i l p r y e) d ih = let z = rw (e b n) at d in rw (q, e (b + x) n, e b n) (ih next m₁ (omega (arith, z)))

  -- as many instructions as bytes are left go to the end
  pub run_all : (b at n : ℕ) (m : Machine) → length code ≤ at + b → (x : ℕ) → run ns s code (b + x) at n m ≡ run ns s code b at n m
  run_all zero at n m h x = let q : 0 + x ≡ x = omega arith in rw q (run_end_lem ns s code x at n m (omega arith))
  run_all (suc b) at n m h x = by (unrolled ns s code at m) (λ next m₁ l. run_all b next (n + 1) m₁ l x)
    where
      q : suc b + x ≡ suc (b + x)
      q = omega arith

      by : Unrolled ns s code at m → ((next : ℕ) (m₁ : Machine) → length code ≤ next + b → run ns s code (b + x) next (n + 1) m₁ ≡ run ns s code b next (n + 1) m₁)
          → run ns s code (suc b + x) at n m ≡ run ns s code (suc b) at n m
      by (over k) ih = rw (run_end_lem ns s code (suc b + x) at n m k, run_end_lem ns s code (suc b) at n m k)
      by (stops j l e) ih = rw (q, e (b + x) n, e b n)
      by (goes next m₁ i l p r y e) ih = rw (q, e (b + x) n, e b n) (ih next m₁ (omega (arith, h)))

  -- before the end of the code a step more is counted
  pub run_goes : (at n x : ℕ) (m : Machine) → at < length code → n < (run ns s code (suc x) at n m).steps
  run_goes at n x m l = by (unrolled ns s code at m)
    where
      by : Unrolled ns s code at m → n < (run ns s code (suc x) at n m).steps
      by (over h) = absurd (omega (arith, l))
      by (stops j k e) = rw (e x n) (omega arith)
      by (goes next m₁ i k p r y e) = let z = (run_counts x next (n + 1) m₁).0 in rw (e x n) (omega (arith, z))

  -- a larger budget does no fewer steps
  pub run_more : (b x at n : ℕ) (m : Machine) → (run ns s code b at n m).steps ≤ (run ns s code (b + x) at n m).steps
  run_more b x at n m = rw (run_divided ns s code b x at n m) (by (run ns s code b at n m).last (run ns s code b at n m).place (run ns s code b at n m).steps)
    where
      by : (o : Outcome Machine) (place k : ℕ) → k ≤ (resume ns s code x o place k).steps
      by (ok m₁) place k = (run_counts x place k m₁).0
      by (refusal j) place k = omega arith

  -- as many steps as were done do the same
  pub run_exact : (b at n x : ℕ) (m : Machine) → (run ns s code b at n m).steps ≡ n + x → run ns s code x at n m ≡ run ns s code b at n m
  run_exact zero at n x m e = let q : x ≡ 0 = omega arith in rw q
  run_exact (suc b) at n x m e = by (unrolled ns s code at m) x e (λ next m₁ y q. run_exact b next (n + 1) y m₁ q)
    where
      by : Unrolled ns s code at m → (x : ℕ) → (run ns s code (suc b) at n m).steps ≡ n + x
          → ((next : ℕ) (m₁ : Machine) (y : ℕ) → (run ns s code b next (n + 1) m₁).steps ≡ n + 1 + y → run ns s code y next (n + 1) m₁ ≡ run ns s code b next (n + 1) m₁)
          → run ns s code x at n m ≡ run ns s code (suc b) at n m
      by (over h) x d ih = rw (run_end_lem ns s code x at n m h, run_end_lem ns s code (suc b) at n m h)
      by (stops j l f) x d ih = let z = rw (f b n) at d in let q : x ≡ suc 0 = omega (arith, z) in rw (q, f 0 n, f b n)
      by (goes next m₁ i l p r y f) zero d ih =
          let z = rw (f b n) at d in
          absurd (omega (arith, z, (run_counts b next (n + 1) m₁).0))
      by (goes next m₁ i l p r y f) (suc x) d ih = let z = rw (f b n) at d in rw (f x n, f b n) (ih next m₁ x (omega (arith, z)))

  -- the steps of a budget: as many as it has, or those of the whole run
  pub run_min : (b len : ℕ) (m : Machine) → length code ≤ len → (run ns s code b 0 0 m).steps ≡ min b (run ns s code len 0 0 m).steps
  run_min b len m h = by (ltb (run ns s code b 0 0 m).steps b) (ltb-true (run ns s code b 0 0 m).steps b) (ltb-false (run ns s code b 0 0 m).steps b)
    where
      among : (leb b len ≡ true → b ≤ len) → (leb b len ≡ false → len < b) → (t : Bool) → leb b len ≡ t → b ≤ (run ns s code b 0 0 m).steps → b ≤ (run ns s code len 0 0 m).steps
      among y n true e k = let q : len ≡ b + (len - b) = omega (arith, y e) in let r = run_more b (len - b) 0 0 m in rw q (omega (arith, r, k))
      among y n false e k = let q : b ≡ len + (b - len) = omega (arith, n e) in let r = ap (λ (d : Ran). d.steps) (run_all len 0 0 m (omega arith) (b - len)) in let z = rw (← q) at r in omega (arith, z, k)

      by : (t : Bool) → (t ≡ true → (run ns s code b 0 0 m).steps < b) → (t ≡ false → b ≤ (run ns s code b 0 0 m).steps) → (run ns s code b 0 0 m).steps ≡ min b (run ns s code len 0 0 m).steps
      by true y n =
          let q : b + len ≡ len + b = omega arith in
          let e = sym (run_or_over b 0 0 m (omega (arith, y refl)) len) ∙ ap (λ (k : ℕ). run ns s code k 0 0 m) q ∙ run_all len 0 0 m (omega arith) b in
          let r = ap (λ (d : Ran). d.steps) e in
          omega (arith, r, y refl)
      by false y n = omega (arith, n refl, (run_counts b 0 0 m).1, among (leb-true b len) (leb-false b len) (leb b len) refl (n refl))
