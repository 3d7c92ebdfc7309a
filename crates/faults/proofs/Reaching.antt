-- Reading token by token: the places that a reader comes to, in their order. Assumes nothing.
use mathlib.Core.Path.{◌≡◌, refl, ap, sym, ◌∙◌, subst}
use mathlib.Core.List.{List, [], ◌∷◌}
use mathlib.Core.Bool.{Bool, true, false}
use mathlib.Core.Logic.{◌⊎◌, inl, inr}
use Prim.Native.Nat.{ℕ, ◌+◌, ◌≤◌}
use native.Mathlib.Nat.{le_refl}
use native.Mathlib.Omega.{arith}
use lib.ListN.{length, get_or}
use lib.Dec.{ltb, eqb}
use borrow.Author.Tests.{ltb-true, ltb-false}
use Rattle.lexer.specs.Bytes.{part}
use Rattle.lexer.specs.Token.{Kind, kind_number, unknown, ending, name, is, TokenRead, token, fault}
use Rattle.lexer.specs.Lexer.{is_space, is_digit, is_letter, is_alphanumeric, run_end, word_of, pair_of, sign_of, read_of, sign_at, word_at, digits_at, previous_at, token_of, token_past, token_at}
use Rattle.lexer.proofs.Laws.{cond_prop, run_from, token_past_space, Moved, token_moved, token_at_moved}
use Rattle.lexer.proofs.Same.{same_kind}
use Rattle.grammar.specs.Derivation.{Tokens, Spells, as_written}
use Rattle.lexer.proofs.Spellings.{end_place}
use Rattle.lexer.proofs.Tokens.{token_beyond}
use Rattle.grammar.proofs.Standing.{stands, stands_in, written}

-- where what is read begins
abbrev pub read_start : TokenRead → ℕ
read_start (token k s n) = s
read_start (fault p) = p

pub not_ending : (k : Kind) → is k ending ≡ false → k ≡ ending → ⊥
unfolding is kind_number
not_ending k t q = let z : true ≡ false = ap (λ (x : Kind). is x ending) (sym q) ∙ t in let y : ◌≡◌ {A = ℕ} 0 1 = cc in omega arith

module _ (text : List ℕ) where
  -- reading comes from a to b; the end of the text is read as a token without bytes
  pub data Reaches : ℕ → ℕ → Type 0 where
    none : {a : ℕ} → Reaches a a
    more : {a b : ℕ} (k : Kind) (s n : ℕ) → token_at text a ≡ token k s n → Reaches n b → Reaches a b

  pub joined : {a b c : ℕ} → Reaches a b → Reaches b c → Reaches a c
  joined none d = d
  joined (more k s n e r) d = more k s n e (joined r d)

  -- ---- what is read stands at or after the place, wherever that is

  pub token_after : (a : ℕ) (k : Kind) (s n : ℕ) → token_at text a ≡ token k s n → (a ≤ s) × (s ≤ n)
  token_after a k s n e = go (ltb (length text) a) refl
    where
      go : (t : Bool) → ltb (length text) a ≡ t → (a ≤ s) × (s ≤ n)
      go true t =
          let l = ltb-true (length text) a t in
          let f : token ending a a ≡ token k s n = sym (token_beyond text a (omega arith)) ∙ e in
          let g : a ≡ s = cc in
          let h : a ≡ n = cc in
          (omega arith, omega arith)
      go false t = let m = subst (Moved a (length text)) e (token_moved text a (ltb-false (length text) a t)) in (m.0, m.1)

  pub reaches_le : {a b : ℕ} → Reaches a b → a ≤ b
  reaches_le {a} none = le_refl a
  reaches_le {a} (more k s n e r) = omega (arith, (token_after a k s n e).0, (token_after a k s n e).1, reaches_le r)

  pub reaches_within : {a b : ℕ} → a ≤ length text → Reaches a b → b ≤ length text
  reaches_within h none = h
  reaches_within {a} {b} h (more k s n e r) = reaches_within {b = b} (token_at_moved text a k s n h e).2 r

  -- two places that reading comes to from the same place: one lies on the way to the other
  pub ordered : {a b c : ℕ} → Reaches a b → Reaches a c → Reaches b c ⊎ Reaches c b
  ordered none d = inl d
  ordered (more k s n e r) none = inr (more k s n e r)
  ordered {a} {b} {c} (more k s n e r) (more k2 s2 n2 e2 r2) =
      let g : n2 ≡ n = cc in
      ordered {c = c} r (subst (λ (x : ℕ). Reaches x c) g r2)

  -- ---- what is read at a place is read where it begins

  of_starts : (s b : ℕ) → read_start (token_of text s b) ≡ s
  unfolding token_of word_at digits_at previous_at sign_at read_of
  of_starts s b =
      let c = get_or text (s + 1) 0 in
      let P : TokenRead → Type 0 = λ r. read_start r ≡ s in
      cond_prop P (is_letter b) _ _ (λ e. refl)
      (λ e. cond_prop P (is_digit b) _ _ (λ e. refl)
      (λ e. cond_prop P (eqb b 95) _ _
      (λ e. cond_prop P (is_letter c) _ _ (λ e. cond_prop P (is (word_of (part text (s + 1) (run_end is_alphanumeric text (s + 1)))) name) _ _ (λ e. refl) (λ e. refl)) (λ e. refl))
      (λ e. cond_prop P (is (pair_of b c) unknown) _ _ (λ e. cond_prop P (is (sign_of b) unknown) _ _ (λ e. refl) (λ e. refl)) (λ e. refl))))

  pub starts_past : (a : ℕ) → read_start (token_at text a) ≡ run_end is_space text a
  unfolding token_at token_past
  starts_past a =
      let s = run_end is_space text a in
      cond_prop (λ (r : TokenRead). read_start r ≡ s) (ltb s (length text)) _ _ (λ e. of_starts s (get_or text s 0)) (λ e. refl)

  pub starts_after : (a : ℕ) → a ≤ read_start (token_at text a)
  starts_after a = rw (starts_past a) (run_from is_space text a)

  pub token_again : (a : ℕ) (r : TokenRead) → token_at text a ≡ r → token_at text (read_start r) ≡ r
  token_again a r e = ap (λ (x : ℕ). token_at text x) (ap read_start (sym e) ∙ starts_past a) ∙ token_past_space text a ∙ e

  -- ---- as tokens: only the end of the text has no bytes, and behind it nothing else is read

  end_stays : {a b : ℕ} → a ≡ length text → Reaches a b → b ≡ length text
  end_stays h none = h
  end_stays {a} {b} h (more k s n e r) =
      let f : token ending a a ≡ token k s n = sym (token_beyond text a (omega arith)) ∙ e in
      let g : a ≡ n = cc in
      end_stays {b = b} (sym g ∙ h) r

  -- the same read, behind tokens that have bytes
  pub record SpeltTo (a b : ℕ) : Type 0 where
    pub before : Tokens
    pub end : ℕ
    pub spells : Spells as_written text a end before
    pub same : token_at text end ≡ token_at text b

  pub spelt_to : {a b : ℕ} → a ≤ length text → Reaches a b → SpeltTo a b
  spelt_to {a} h none = record { before = []; end = a; spells = refl; same = refl }
  spelt_to {a} {b} h (more k s n e r) = go (is k ending) refl (λ i. spelt_to {b = b} i r)
    where
      go : (t : Bool) → is k ending ≡ t → (n ≤ length text → SpeltTo n b) → SpeltTo a b
      go true t ih =
          let q = same_kind k ending t in
          let e2 : token_at text a ≡ token ending s n = rw q at e in
          let p = end_place text a s n h e2 in
          let l = end_stays p.1 r in
          record { before = []; end = a; spells = refl; same = e2 ∙ rw (p.0, p.1, l) (sym (token_beyond text (length text) (le_refl (length text)))) }
      go false t ih =
          let st = stands written text a k s n h (not_ending k t) e in
          let i = (stands_in written text a n (part text s n) h st).1 in
          let x = ih i in
          record { before = part text s n ∷ x.before; end = x.end; spells = (n, st, x.spells); same = x.same }
