-- The ways through a case and through the lists of conditions: what each comes to. Assumes nothing.
use mathlib.Core.Path.{◌≡◌, refl, ap, sym, ◌∙◌, subst}
use mathlib.Core.List.{List, [], ◌∷◌, ◌++◌, append-nil}
use Prim.Native.Nat.{ℕ, ◌+◌, ◌*◌, ◌≤◌, ◌<◌}
use native.Mathlib.Omega.{arith}
use lib.ListN.{length, set, length-append}
use lib.Seq.{sets}
use borrow.Author.Tests.{lt-ltb, le-ltb, le-leb, lt-leb, eq-eqb, ne_eqb}
use Rattle.limits.specs.Limits.{lists_differ}
use Rattle.leb128.specs.Numbers.{number}
use Rattle.lexer.specs.Token.{close_round}
use Rattle.semantics.specs.Program.{Expression, Condition, changing, Case}
use Rattle.grammar.specs.Parsed.{Parsed, accepted, refused, Wanted, sign, expected, phrase, followed}
use Rattle.grammar.specs.Expressions.{Scope, whole_expression}
use Rattle.grammar.specs.Conditions.{listed}
use Rattle.grammar.specs.Rules.{case_at, Compared, differs, first_found}
use Rattle.grammar.specs.Inner.Bytes.{bytes_e, bytes_c, bytes_picked}
use Rattle.grammar.proofs.Size.{Solid, Long, phrase_long}
use Rattle.expressions.specs.Inner.Steps.{Room}
use Rattle.expressions.proofs.Steps.{Refuses}
use Rattle.grammar.specs.Forms.{case_value_opening}
use Rattle.leb128.proofs.Stores.{sets_append}
use Rattle.grammar.proofs.Combine.{apart}
use Rattle.cases.specs.Inner.Places.{place_only}
use Rattle.phrases.proofs.Writing.{same_refusal}
use Rattle.cases.proofs.Parts.{phrase_fault, behind_refused}

-- ---- a case

module _ (sc : Scope) (w : List ℕ) (from n : ℕ) where
  pub condition_refused : {k q : ℕ} → Refuses sc.text (listed sc n) k q → case_at sc w from n ≡ refused k q
  unfolding case_at
  condition_refused r = behind_refused sc.text _ (λ c m q e. rw (phrase_fault sc.text _ _ m q e)) (listed sc n) r

  module _ {c : Condition} {n1 : ℕ} (e1 : listed sc n ≡ accepted c n1) where
    pub opening_refused : {k q : ℕ} → phrase sc.text (case_value_opening w) n1 ≡ refused k q → case_at sc w from n ≡ refused k q
    unfolding case_at
    opening_refused e2 = rw (e1, e2)

    module _ {n2 : ℕ} (e2 : phrase sc.text (case_value_opening w) n1 ≡ accepted tt n2) where
      pub value_refused : {k q : ℕ} → Refuses sc.text (whole_expression sc n2) k q → case_at sc w from n ≡ refused k q
      unfolding case_at followed
      value_refused r = rw (e1, e2) (behind_refused sc.text _ (λ e m q f. rw (phrase_fault sc.text _ _ m q f)) (whole_expression sc n2) r)

      module _ {e : Expression} {n3 : ℕ} (e3 : whole_expression sc n2 ≡ accepted e n3) where
        pub closing_refused : {k q : ℕ} → expected sc.text (sign close_round) n3 ≡ refused k q → case_at sc w from n ≡ refused k q
        unfolding case_at followed phrase
        closing_refused e4 = rw (e1, e2, e3, e4)

        pub case_accepted : {n4 : ℕ} → expected sc.text (sign close_round) n3 ≡ accepted tt n4 → case_at sc w from n ≡ accepted (record { case = record { side = changing; condition = c; value = e }; span = record { from = from; to = n1 } }) n4
        unfolding case_at followed phrase
        case_accepted e4 = rw (e1, e2, e3, e4)

-- bytes written after others
pub then_bytes : (before : List ℕ) {mid after : List ℕ} (to : ℕ) {t : ℕ} (xs ys : List ℕ) → t ≡ to + length xs → mid ≡ sets before to xs → after ≡ sets mid t ys → after ≡ sets before to (xs ++ ys)
then_bytes before to xs ys ht hm ha = ha ∙ rw (hm, ht) (sym (sets_append before to xs ys))

-- the bytes of a case, written one after another
pub case_bytes : (before : List ℕ) {mid1 mid2 mid3 after : List ℕ} (to : ℕ) {t u x : ℕ} (pick v : ℕ) (k : Case) → t ≡ to + length (bytes_c k.condition) → mid1 ≡ sets before to (bytes_c k.condition) → u ≡ t + 1 → mid2 ≡ set mid1 t 19 → x ≡ u + length (bytes_e k.value) → mid3 ≡ sets mid2 u (bytes_e k.value) → after ≡ sets mid3 x (pick ∷ number v) → after ≡ sets before to (bytes_picked pick v (k ∷ []))
unfolding bytes_picked
case_bytes before {mid1} {mid2} to {t} {u} pick v k ht h1 hu h2 hx h3 h4 =
    rw (append-nil (number v))
    (then_bytes before to (bytes_c k.condition) (19 ∷ (bytes_e k.value ++ (pick ∷ number v))) ht h1
    (then_bytes mid1 t (19 ∷ []) (bytes_e k.value ++ (pick ∷ number v)) hu h2
    (then_bytes mid2 u (bytes_e k.value) (pick ∷ number v) hx h3 h4)))

pub case_length : (to : ℕ) {t u x y : ℕ} (pick v : ℕ) (k : Case) → t ≡ to + length (bytes_c k.condition) → u ≡ t + 1 → x ≡ u + length (bytes_e k.value) → y ≡ x + length (pick ∷ number v) → y ≡ to + length (bytes_picked pick v (k ∷ []))
unfolding bytes_picked
case_length to pick v k ht hu hx hy = simp length-append (omega arith)

-- ---- room

-- behind fixed tokens, each of which has a byte, with no more bytes written than twice as many
pub room_phrase : {text : List ℕ} {n t m u : ℕ} (ws : List Wanted) → Solid ws → Room text n t → phrase text ws n ≡ accepted tt m → u ≤ t + 2 * length ws → Room text m u
room_phrase {text} {n} ws s r e h =
    let l = subst (Long (length ws) (length text) n) e (phrase_long text ws s n r.within) in
    record { short = r.short; within = l.1; room = omega arith }

-- ---- of what a list reads as and where it differs

module _ {A : Type 0} (r : Parsed A) where
  pub place_accepted : {n : ℕ} → place_only r ≡ accepted tt n → (m : ℕ) → first_found r (differs m) ≡ refused lists_differ m
  unfolding first_found place_only
  place_accepted {n} e m = go r e
    where
      go : (p : Parsed A) → place_only p ≡ accepted tt n → first_found p (differs m) ≡ refused lists_differ m
      go (accepted a n) e = refl
      go (refused k q) e = apart (sym e)

  pub first_found_as : {q : Parsed (Unit {0})} {m n : Compared} → q ≡ place_only (first_found r m) → m ≡ n → q ≡ place_only (first_found r n)
  first_found_as e f = e ∙ ap (λ (x : Compared). place_only (first_found r x)) f

  pub place_refused : {k q : ℕ} → place_only r ≡ refused k q → r ≡ refused k q
  unfolding place_only
  place_refused {k} {q} e = go r e
    where
      go : (p : Parsed A) → place_only p ≡ refused k q → p ≡ refused k q
      go (accepted a n) e = apart e
      go (refused l m) e = same_refusal e

module _ {A : Type 0} {r : Parsed A} {k q : ℕ} (e : r ≡ refused k q) (m : ℕ) where
  pub first_found_before : q < m → first_found r (differs m) ≡ refused k q
  unfolding first_found
  first_found_before h = rw (e, lt-ltb _ _ h)

  module _ (h : m ≤ q) where
    pub first_found_here : q ≡ m → k ≤ 5 → first_found r (differs m) ≡ refused k q
    unfolding first_found
    first_found_here i l = rw (e, le-ltb _ _ h, eq-eqb _ _ i, le-leb _ _ l)

    pub first_found_late : q ≡ m → 5 < k → first_found r (differs m) ≡ refused lists_differ m
    unfolding first_found
    first_found_late i l = rw (e, le-ltb _ _ h, eq-eqb _ _ i, lt-leb _ _ l)

    pub first_found_after : (q ≡ m → ⊥) → first_found r (differs m) ≡ refused lists_differ m
    unfolding first_found
    first_found_after i = rw (e, le-ltb _ _ h, ne_eqb _ _ i)
