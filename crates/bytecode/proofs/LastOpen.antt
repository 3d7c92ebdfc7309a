-- The last gate before an instruction and the last pick, and what may stand between them and their pick or settle. Assumes nothing.
use Prim.Native.Nat.{ℕ}
use native.Mathlib.Omega.{arith}
use mathlib.Core.Path.{◌≡◌, refl, sym, ap, ◌∙◌, subst}
use mathlib.Core.Bool.{Bool, true, false, true≢false, false≢true}
use mathlib.Core.Logic.{◌⊎◌, inl, inr}
use mathlib.Core.List.{List, [], ◌∷◌, ◌++◌}
use mathlib.Core.Option.{Option, none, some}
use lib.Dec.{T}
use Rattle.semantics.specs.Program.{Range, Side}
use Rattle.bytecode.specs.Instructions.{Instruction, gate, pick, settle}
use Rattle.bytecode.specs.Signature.{Sort, Role, pushes, computes, tests, opens, picks, lets, settles, times, signature}
use Rattle.bytecode.specs.Check.{Picks, Known, known, opened}
use Rattle.bytecode.specs.Allowed.{gate_by, picks_by, left_by, left_by_all, AllowedIn}
use Rattle.bytecode.specs.Sound.{PlainIn, Plain, WithinIn, Within, Every, HasGate, HasPicks}
use Rattle.bytecode.proofs.Soundness.{some_inj, none≢some}
use Rattle.bytecode.proofs.Exactly.{Places, Walked}
use Rattle.bytecode.proofs.After.{gate_after, picks_after, left_is}
use Rattle.bytecode.proofs.Paired.{by_role, id_of, opened_id, places_after, places_from_lem, ahead}

-- neither gate nor pick
abbrev pub NoGate : Role → Type 0
NoGate (pushes fits) = Unit {0}
NoGate computes = Unit {0}
NoGate tests = Unit {0}
NoGate opens = ⊥
NoGate (picks side v) = ⊥
NoGate (lets v) = Unit {0}
NoGate (settles v) = Unit {0}
NoGate (times t w n) = Unit {0}

-- neither pick nor settle
abbrev pub NoPick : Role → Type 0
NoPick (pushes fits) = Unit {0}
NoPick computes = Unit {0}
NoPick tests = Unit {0}
NoPick opens = Unit {0}
NoPick (picks side v) = ⊥
NoPick (lets v) = Unit {0}
NoPick (settles v) = ⊥
NoPick (times t w n) = Unit {0}

abbrev pub Roles : (Role → Type 0) → List Instruction → Type 0
Roles P is = Every (λ j. P (signature j).role) is

pub record Last (i : Instruction) (P : Role → Type 0) (before : List Instruction) : Type 0 where
  pub first : List Instruction
  pub between : List Instruction
  pub found : before ≡ first ++ i ∷ between
  pub quiet : Roles P between

module _ (i : Instruction) (P : Role → Type 0) where
  last_cons : (j : Instruction) (is : List Instruction) → Last i P is → Last i P (j ∷ is)
  last_cons j is h = record { first = j ∷ h.first; between = h.between; found = ap {B = List Instruction} (λ l. j ∷ l) h.found; quiet = h.quiet }

  module _ (A B : Type 0) (j : Instruction) (is : List Instruction) where
    still : P (signature j).role → ((A × Roles P is) ⊎ (Last i P is)) → ((A × Roles P (j ∷ is)) ⊎ (Last i P (j ∷ is)))
    still p (inl h) = inl (h.0, (p, h.1))
    still p (inr h) = inr (last_cons j is h)

    -- i itself
    begun : (A → j ≡ i) → ((A × Roles P is) ⊎ (Last i P is)) → ((B × Roles P (j ∷ is)) ⊎ (Last i P (j ∷ is)))
    begun e (inl h) = inr (record { first = []; between = is; found = ap {B = List Instruction} (λ k. k ∷ is) (e h.0); quiet = h.1 })
    begun e (inr h) = inr (last_cons j is h)

    over : (A → ⊥) → ((A × Roles P is) ⊎ (Last i P is)) → ((B × Roles P (j ∷ is)) ⊎ (Last i P (j ∷ is)))
    over n (inl h) = absurd (n h.0)
    over n (inr h) = inr (last_cons j is h)

pub last_gate : (is : List Instruction) (g : Bool) → gate_after is g ≡ true → (((g ≡ true) × Roles NoGate is) ⊎ (Last gate NoGate is))
last_gate [] g e = inl (e, tt)
last_gate (i ∷ is) g e = go (signature i).role refl (last_gate is) e
  where
    go : (r : Role) → (signature i).role ≡ r → ((g : Bool) → gate_after is g ≡ true → (((g ≡ true) × Roles NoGate is) ⊎ (Last gate NoGate is))) → gate_after is (gate_by r g) ≡ true
        → (((g ≡ true) × Roles NoGate (i ∷ is)) ⊎ (Last gate NoGate (i ∷ is)))
    go (pushes fits) q ih e = still gate NoGate (g ≡ true) (g ≡ true) i is (subst NoGate (sym q) tt) (ih g e)
    go computes q ih e = still gate NoGate (g ≡ true) (g ≡ true) i is (subst NoGate (sym q) tt) (ih g e)
    go tests q ih e = still gate NoGate (g ≡ true) (g ≡ true) i is (subst NoGate (sym q) tt) (ih g e)
    go opens q ih e = begun gate NoGate (true ≡ true) (g ≡ true) i is (λ t. sym (by_role i opens q)) (ih true e)
    go (picks side u) q ih e = over gate NoGate (false ≡ true) (g ≡ true) i is (λ f. false≢true f) (ih false e)
    go (lets u) q ih e = still gate NoGate (g ≡ true) (g ≡ true) i is (subst NoGate (sym q) tt) (ih g e)
    go (settles u) q ih e = still gate NoGate (g ≡ true) (g ≡ true) i is (subst NoGate (sym q) tt) (ih g e)
    go (times t w n) q ih e = still gate NoGate (g ≡ true) (g ≡ true) i is (subst NoGate (sym q) tt) (ih g e)

abbrev pub picking : Picks → Instruction
picking p = pick p.side p.id

pub last_pick : (p : Picks) (is : List Instruction) (o : Option Picks) → picks_after is o ≡ some p → (((o ≡ some p) × Roles NoPick is) ⊎ (Last (picking p) NoPick is))
last_pick p [] o e = inl (e, tt)
last_pick p (i ∷ is) o e = go (signature i).role refl (last_pick p is) e
  where
    go : (r : Role) → (signature i).role ≡ r → ((o : Option Picks) → picks_after is o ≡ some p → (((o ≡ some p) × Roles NoPick is) ⊎ (Last (picking p) NoPick is))) → picks_after is (picks_by r o) ≡ some p
        → (((o ≡ some p) × Roles NoPick (i ∷ is)) ⊎ (Last (picking p) NoPick (i ∷ is)))
    go (pushes fits) q ih e = still (picking p) NoPick (o ≡ some p) (o ≡ some p) i is (subst NoPick (sym q) tt) (ih o e)
    go computes q ih e = still (picking p) NoPick (o ≡ some p) (o ≡ some p) i is (subst NoPick (sym q) tt) (ih o e)
    go tests q ih e = still (picking p) NoPick (o ≡ some p) (o ≡ some p) i is (subst NoPick (sym q) tt) (ih o e)
    go opens q ih e = still (picking p) NoPick (o ≡ some p) (o ≡ some p) i is (subst NoPick (sym q) tt) (ih o e)
    go (picks side u) q ih e =
        let new : Picks = record { side = side; id = u } in
        begun (picking p) NoPick (some new ≡ some p) (o ≡ some p) i is (λ t. sym (by_role i (picks side u) q) ∙ ap picking (some_inj t)) (ih (some new) e)
    go (lets u) q ih e = still (picking p) NoPick (o ≡ some p) (o ≡ some p) i is (subst NoPick (sym q) tt) (ih o e)
    go (settles u) q ih e = over (picking p) NoPick (none ≡ some p) (o ≡ some p) i is (none≢some p) (ih none e)
    go (times t w n) q ih e = still (picking p) NoPick (o ≡ some p) (o ≡ some p) i is (subst NoPick (sym q) tt) (ih o e)

-- a list of P's up to an instruction k that is no P meets one of Q's up to k
pub met : (P Q : Instruction → Type 0) (k : Instruction) → (P k → ⊥) → (between : List Instruction) (i : Instruction) (after calc rest : List Instruction) → Every P between → Every Q calc
    → between ++ i ∷ after ≡ calc ++ k ∷ rest → ((Q i) ⊎ (i ≡ k))
met P Q k n [] i after [] rest a b e = inr (cc)
met P Q k n [] i after (c ∷ calc) rest a b e = let q : c ≡ i = cc in inl (subst Q q b.0)
met P Q k n (j ∷ between) i after [] rest a b e = let q : j ≡ k = cc in absurd (n (subst P q a.0))
met P Q k n (j ∷ between) i after (c ∷ calc) rest a b e =
    let q : between ++ i ∷ after ≡ calc ++ k ∷ rest = cc in
    met P Q k n between i after calc rest a.1 b.1 q

-- and does not end before k
pub unmet : (P : Instruction → Type 0) (k : Instruction) → (P k → ⊥) → (between calc rest : List Instruction) → Every P between → between ≡ calc ++ k ∷ rest → ⊥
unmet P k n [] [] rest a e = let z : ◌≡◌ {A = ℕ} 0 1 = cc in omega arith
unmet P k n [] (c ∷ calc) rest a e = let z : ◌≡◌ {A = ℕ} 0 1 = cc in omega arith
unmet P k n (j ∷ between) [] rest a e = let q : j ≡ k = cc in n (subst P q a.0)
unmet P k n (j ∷ between) (c ∷ calc) rest a e = let q : between ≡ calc ++ k ∷ rest = cc in unmet P k n between calc rest a.1 q

plain_keeps : (r : Role) (g : Bool) → PlainIn r → gate_by r g ≡ g
plain_keeps (pushes fits) g h = refl
plain_keeps computes g h = refl
plain_keeps tests g h = refl
plain_keeps opens g h = absurd h
plain_keeps (picks side u) g h = absurd h
plain_keeps (lets u) g h = refl
plain_keeps (settles u) g h = refl
plain_keeps (times t w n) g h = refl

pub plains_keep : (is : List Instruction) (g : Bool) → Every Plain is → gate_after is g ≡ g
plains_keep [] g a = refl
plains_keep (i ∷ is) g a = rw (plain_keeps (signature i).role g a.0) (plains_keep is g a.1)

same_keeps : (v : ℕ) (r : Role) (o : Option Picks) → WithinIn v r → id_of o ≡ some v → id_of (picks_by r o) ≡ some v
same_keeps v (pushes fits) o h e = e
same_keeps v computes o h e = e
same_keeps v tests o h e = e
same_keeps v opens o h e = e
same_keeps v (picks side u) o h e = ap some h
same_keeps v (lets u) o h e = absurd h
same_keeps v (settles u) o h e = absurd h
same_keeps v (times t w n) o h e = absurd h

pub sames_keep : (v : ℕ) (is : List Instruction) (o : Option Picks) → Every (Within v) is → id_of o ≡ some v → id_of (picks_after is o) ≡ some v
sames_keep v [] o a e = e
sames_keep v (i ∷ is) o a e = sames_keep v is (picks_by (signature i).role o) a.1 (same_keeps v (signature i).role o a.0 e)

-- what may stand between a gate and its pick, and the pick
abbrev pub AfterGate : Role → Type 0
AfterGate (pushes fits) = Unit {0}
AfterGate computes = Unit {0}
AfterGate tests = ⊥
AfterGate opens = ⊥
AfterGate (picks side v) = Unit {0}
AfterGate (lets v) = ⊥
AfterGate (settles v) = ⊥
AfterGate (times t w n) = ⊥

pub plain_after : (r : Role) → PlainIn r → AfterGate r
plain_after (pushes fits) h = tt
plain_after computes h = tt
plain_after tests h = absurd h
plain_after opens h = absurd h
plain_after (picks side v) h = tt
plain_after (lets v) h = absurd h
plain_after (settles v) h = absurd h
plain_after (times t w n) h = absurd h

-- what may stand between picks of v and their settle, and the settle
abbrev pub AfterPick : ℕ → Role → Type 0
AfterPick v (pushes fits) = Unit {0}
AfterPick v computes = Unit {0}
AfterPick v tests = Unit {0}
AfterPick v opens = Unit {0}
AfterPick v (picks side u) = u ≡ v
AfterPick v (lets u) = ⊥
AfterPick v (settles u) = Unit {0}
AfterPick v (times t w n) = ⊥

pub within_after : (v : ℕ) (r : Role) → WithinIn v r → AfterPick v r
within_after v (pushes fits) h = tt
within_after v computes h = tt
within_after v tests h = tt
within_after v opens h = tt
within_after v (picks side u) h = h
within_after v (lets u) h = h
within_after v (settles u) h = tt
within_after v (times t w n) h = h

pub by_bool : (b : Bool) → (b ≡ true → ⊥) → b ≡ false
by_bool true h = absurd (h refl)
by_bool false h = refl

-- ---- what stands before a pick or a settle

plain_open : (r : Role) (rest : List Sort) (g : Bool) (o : Option Picks) (ids : List Bool) → g ≡ true → AllowedIn r rest g o ids → NoGate r → PlainIn r
plain_open (pushes fits) rest g o ids e a n = tt
plain_open computes rest g o ids e a n = tt
plain_open tests rest g o ids e a n = absurd (true≢false (sym e ∙ a))
plain_open opens rest g o ids e a n = n
plain_open (picks side v) rest g o ids e a n = n
plain_open (lets v) rest g o ids e a n = absurd (true≢false (sym e ∙ a.0))
plain_open (settles v) rest g o ids e a n = absurd (true≢false (sym e ∙ a.0))
plain_open (times t w m) rest g o ids e a n = absurd (true≢false (sym e ∙ a.0))

abbrev pub gate_of : Known → Bool
gate_of (known vs g o ids) = g

plain_between : (is : List Instruction) (c : Known) → gate_of c ≡ true → Places is c → Roles NoGate is → Every Plain is
plain_between [] c e p n = tt
plain_between (i ∷ is) (known vs g o ids) e p n =
    let h = plain_open (signature i).role p.0.rest g o ids e p.0.in_role n.0 in
    (h, plain_between is (left_by i (known vs g o ids)) (plain_keeps (signature i).role g h ∙ e) p.1 n.1)

gate_opens : (c : Known) → gate_of (left_by gate c) ≡ true
gate_opens (known vs g o ids) = refl

within_open : (v : ℕ) (r : Role) (rest : List Sort) (g : Bool) (o : Option Picks) (ids : List Bool) → id_of o ≡ some v → AllowedIn r rest g o ids → NoPick r → WithinIn v r
within_open v (pushes fits) rest g o ids e a n = tt
within_open v computes rest g o ids e a n = tt
within_open v tests rest g o ids e a n = tt
within_open v opens rest g o ids e a n = tt
within_open v (picks side u) rest g o ids e a n = absurd n
within_open v (lets u) rest g o ids e a n = none≢some v (ap id_of (sym a.3) ∙ e)
within_open v (settles u) rest g o ids e a n = n
within_open v (times t w m) rest g o ids e a n = none≢some v (ap id_of (sym a.3) ∙ e)

abbrev picks_of : Known → Option Picks
picks_of (known vs g o ids) = o

within_between : (v : ℕ) (is : List Instruction) (c : Known) → id_of (picks_of c) ≡ some v → Places is c → Roles NoPick is → Every (Within v) is
within_between v [] c e p n = tt
within_between v (i ∷ is) (known vs g o ids) e p n =
    let h = within_open v (signature i).role p.0.rest g o ids e p.0.in_role n.0 in
    (h, within_between v is (left_by i (known vs g o ids)) (same_keeps v (signature i).role o h e) p.1 n.1)

pick_opens : (p : Picks) (c : Known) → id_of (picks_of (left_by (picking p) c)) ≡ some p.id
pick_opens p (known vs g o ids) = refl

module _ {ns : List Range} {code : List ℕ} {at : ℕ} {last : Option Instruction} {ids : List Bool} (w : Walked ns code at last (known [] false none ids)) where
  -- each pick its gate, with only codes 1 to 9 between
  pub pick_has_gate : (before : List Instruction) (side : Side) (v : ℕ) (after : List Instruction) → w.instructions ≡ before ++ pick side v ∷ after → HasGate before
  pick_has_gate before side v after e = go (last_gate before false (rw (left_is before [] false none ids) at (places_from_lem w before (pick side v) after e).0).in_role.0)
    where
      go : ((false ≡ true) × Roles NoGate before) ⊎ Last gate NoGate before → HasGate before
      go (inl f) = absurd (false≢true f.0)
      go (inr l) =
          let p = places_after l.first (gate ∷ l.between) (known [] false none ids) (rw l.found at (ahead w before (pick side v) after e)) in
          record { first = l.first; between = l.between; found = l.found; plain = plain_between l.between _ (gate_opens (left_by_all l.first (known [] false none ids))) p.1 l.quiet }

  -- a settle has picks of the same id, at least one
  pub settle_has_picks : (before : List Instruction) (v : ℕ) (after : List Instruction) → w.instructions ≡ before ++ settle v ∷ after → HasPicks v before
  settle_has_picks before v after e = of (picks_after before none) refl (rw (left_is before [] false none ids) at (places_from_lem w before (settle v) after e).0).in_role.3
    where
      go : (o : Picks) → o.id ≡ v → ((none ≡ some o) × Roles NoPick before) ⊎ Last (picking o) NoPick before → HasPicks v before
      go o q (inl f) = none≢some o f.0
      go o q (inr l) =
          let p = places_after l.first (picking o ∷ l.between) (known [] false none ids) (rw l.found at (ahead w before (settle v) after e)) in
          let s = within_between v l.between _ (pick_opens o (left_by_all l.first (known [] false none ids)) ∙ ap some q) p.1 l.quiet in
          record { first = l.first; between = l.between; side = o.side; found = l.found ∙ rw q; same = s }

      of : (o : Option Picks) → picks_after before none ≡ o → T (opened o v) → HasPicks v before
      of none q h = absurd h
      of (some o) q h = go o (opened_id o v h) (last_pick o before none q)
