-- The ways through the reader of tokens, and where a token that it answers stands. Assumes nothing.
use mathlib.Core.Path.{◌≡◌, refl, sym, ◌∙◌, subst}
use mathlib.Core.List.{List, [], ◌∷◌}
use mathlib.Core.Bool.{true, false}
use Prim.Native.Nat.{ℕ, ◌+◌, ◌≤◌, ◌<◌}
use native.Mathlib.Omega.{arith}
use lib.ListN.{length, get_or}
use lib.Dec.{eqb, ltb, leb}
use lib.IntN.{pos}
use borrow.Author.Tests.{eq-eqb, ne_eqb, lt-ltb, le-ltb, leb-true, leb-false}
use Rattle.limits.specs.Limits.{no_token}
use Rattle.lexer.specs.Bytes.{part, same_bytes}
use Rattle.lexer.specs.Token.{Kind, kind_number, unknown, ending, name, other_case, digits, is, TokenRead, token, fault, last_kind, spelling_of, word_kinds}
use Rattle.lexer.specs.Lexer.{is_space, is_digit, is_letter, is_alphanumeric, run_end, kind_in, grammar_word, exact_word, word_of, pair_of, sign_of, read_of, sign_at, word_at, digits_at, previous_at, token_of, token_past, token_at}
use Rattle.lexer.specs.Results.{kind_of, token_is, token_step, Lies, PlacedIn}
use Rattle.lexer.specs.declared.Place.{Place}
use Rattle.lexer.specs.Results.{Step}
use Rattle.std.specs.Prelude.{Ok, Err}
use Rattle.limits.specs.declared.Refusal.{Refusal}
use Rattle.limits.specs.declared.Refusal.TheVariants.{NoToken}
use Rattle.limits.specs.Refusals.{refusal_place}
use Rattle.lexer.proofs.Laws.{cond_prop, run_out, token_at_moved}
use Rattle.lexer.proofs.KindNumbers.{ending_number, is_unknown, is_known, number_kind, known_number}

-- ---- signs

module _ (a b s : ℕ) where
  pub sign_two : (k : ℕ) → k ≡ kind_number (pair_of a b) → (k ≡ 0 → ⊥) → token_is k s (s + 2) ≡ token_step (sign_at a b s)
  unfolding sign_at
  sign_two k e f = rw (is_known (pair_of a b) k e f, e)

  module _ (k : ℕ) (e : k ≡ kind_number (pair_of a b)) (z : k ≡ 0) where
    pub sign_one : (j : ℕ) → j ≡ kind_number (sign_of a) → (j ≡ 0 → ⊥) → token_is j s (s + 1) ≡ token_step (sign_at a b s)
    unfolding sign_at read_of
    sign_one j ej f = rw (is_unknown (pair_of a b) k e z, is_known (sign_of a) j ej f, ej)

    pub sign_none : (j : ℕ) → j ≡ kind_number (sign_of a) → j ≡ 0 → Err (NoToken s) ≡ token_step (sign_at a b s)
    unfolding sign_at read_of
    sign_none j ej y = rw (is_unknown (pair_of a b) k e z, is_unknown (sign_of a) j ej y)

-- ---- `_` at s

module _ (text : List ℕ) (s b : ℕ) (hb : b ≡ get_or text (s + 1) 0) where
  pub previous_lone : is_letter b ≡ false → Err (NoToken s) ≡ token_step (previous_at text s)
  unfolding previous_at
  previous_lone h = rw (← hb, h)

  module _ (e k : ℕ) (h : is_letter b ≡ true) (he : e ≡ run_end is_alphanumeric text (s + 1)) (hk : k ≡ kind_number (word_of (part text (s + 1) e))) where
    word_is : is (word_of (part text (s + 1) (run_end is_alphanumeric text (s + 1)))) name ≡ eqb k 2
    unfolding is kind_number
    word_is = rw (← he, hk)

    pub previous_name_lem : k ≡ 2 → token_is 3 s e ≡ token_step (previous_at text s)
    unfolding previous_at kind_number
    previous_name_lem k2 = rw (← hb, h, word_is, k2, ← he)

    pub previous_word : (k ≡ 2 → ⊥) → Err (NoToken s) ≡ token_step (previous_at text s)
    unfolding previous_at
    previous_word f = rw (← hb, h, word_is, ne_eqb _ _ f)

-- ---- no token is of no kind

abbrev Known : TokenRead → Type 0
Known (token k s n) = is k unknown ≡ false
Known (fault p) = Unit {0}

abbrev AllKnown : List Kind → Type 0
AllKnown [] = Unit {0}
AllKnown (k ∷ ks) = (is k unknown ≡ false) × AllKnown ks

word_in_known : (ks : List Kind) (run : List ℕ) → AllKnown ks → is (kind_in ks run other_case) unknown ≡ false
unfolding is kind_number
word_in_known [] run h = refl
word_in_known (k ∷ ks) run h = cond_prop (λ (w : Kind). is w unknown ≡ false) (same_bytes run (spelling_of k)) _ _ (λ t. h.0) (λ t. word_in_known ks run h.1)

word_known : (run : List ℕ) → is (word_of run) unknown ≡ false
unfolding word_of exact_word is kind_number
word_known run = cond_prop (λ (w : Kind). is w unknown ≡ false) (grammar_word run) _ _ (λ t. word_in_known word_kinds run (refl, (refl, (refl, (refl, (refl, (refl, (refl, (refl, (refl, (refl, (refl, tt)))))))))))) (λ t. refl)

sign_known : (a b s : ℕ) → Known (sign_at a b s)
unfolding sign_at read_of
sign_known a b s =
    cond_prop Known (is (pair_of a b) unknown) _ _
    (λ t. cond_prop Known (is (sign_of a) unknown) _ _ (λ u. tt) (λ u. u))
    (λ t. t)

previous_known : (text : List ℕ) (s : ℕ) → Known (previous_at text s)
unfolding previous_at is kind_number
previous_known text s =
    cond_prop Known (is_letter (get_or text (s + 1) 0)) _ _
    (λ t. cond_prop Known (is (word_of (part text (s + 1) (run_end is_alphanumeric text (s + 1)))) name) _ _ (λ u. refl) (λ u. tt))
    (λ t. tt)

digits_known : is digits unknown ≡ false
unfolding is kind_number
digits_known = refl

ending-known : is ending unknown ≡ false
unfolding is kind_number
ending-known = refl

of-known : (text : List ℕ) (s b : ℕ) → Known (token_of text s b)
unfolding token_of word_at digits_at
of-known text s b =
    cond_prop Known (is_letter b) _ _ (λ t. word_known _)
    (λ n1. cond_prop Known (is_digit b) _ _ (λ t. digits_known)
    (λ n2. cond_prop Known (eqb b 95) _ _ (λ t. previous_known text s) (λ n3. sign_known b _ s)))

token_known : (text : List ℕ) (at : ℕ) → Known (token_at text at)
unfolding token_at token_past
token_known text at =
    let s = run_end is_space text at in
    cond_prop Known (ltb s (length text)) _ _ (λ t. of-known text s (get_or text s 0)) (λ t. ending-known)

-- ---- where a token stands

pub token_beyond : (text : List ℕ) (at : ℕ) → length text ≤ at → token_at text at ≡ token ending at at
unfolding token_at token_past
token_beyond text at h = rw (run_out is_space text at h, le-ltb _ _ h)

module _ (text : List ℕ) (at k s n : ℕ) (e : token (kind_of k) s n ≡ token_at text at) where
  kind_known : (1 ≤ k) × (k ≤ last_kind)
  kind_known = known_number k (subst Known (sym e) (token_known text at))

  lies : Lies (length text) at k s n
  lies = cond_prop (λ (x : ℕ). Lies (length text) at k s n) (leb at (length text)) 0 0 inside beyond
    where
      inside : leb at (length text) ≡ true → Lies (length text) at k s n
      inside t =
          let m = token_at_moved text at (kind_of k) s n (leb-true _ _ t) (sym e) in
          record {
            some_kind = kind_known.0;
            known_kind = kind_known.1;
            after = m.0;
            ordered = m.1;
            within = λ h. m.2;
            moved = λ f. m.3 (λ g. f (ending_number k kind_known.1 g));
          }

      beyond : leb at (length text) ≡ false → Lies (length text) at k s n
      beyond t =
          let l : length text < at = leb-false _ _ t in
          let g : token (kind_of k) s n ≡ token ending at at = e ∙ token_beyond text at (omega arith) in
          let gk : kind_of k ≡ ending = cc in
          let gs : s ≡ at = cc in
          let gn : n ≡ at = cc in
          record {
            some_kind = kind_known.0;
            known_kind = kind_known.1;
            after = omega arith;
            ordered = omega arith;
            within = λ h. absurd (omega arith);
            moved = λ f. absurd (f (ending_number k kind_known.1 gk));
          }

-- a token that is answered, and one that is none
module _ (text : List ℕ) (at : ℕ) where
  token_is_lem : (p : Place) → Ok p ≡ token_step (token_at text at) → token (kind_of p.kind) p.start p.end ≡ token_at text at
  token_is_lem p e = go (token_at text at) e
    where
      go : (r : TokenRead) → Ok p ≡ token_step r → token (kind_of p.kind) p.start p.end ≡ r
      go (token k s n) e =
          let i : p ≡ record { at = s; kind = kind_number k; start = s; end = n; to = 0; number = 0; value = pos 0 } = cc in
          rw (i, number_kind k)
      go (fault q) e = let z : ◌≡◌ {A = ℕ} 0 1 = cc in absurd (omega arith)

  fault_is : (e : Refusal) → Err e ≡ token_step (token_at text at) → (token_at text at ≡ fault (refusal_place e)) × (e ≡ NoToken (refusal_place e))
  fault_is e h = go (token_at text at) h
    where
      go : (r : TokenRead) → Err e ≡ token_step r → (r ≡ fault (refusal_place e)) × (e ≡ NoToken (refusal_place e))
      go (token w s n) e = let z : ◌≡◌ {A = ℕ} 0 1 = cc in absurd (omega arith)
      go (fault p) h = let i : e ≡ NoToken p = cc in rw i (refl, refl)

  placed : (t : Step) → t ≡ token_step (token_at text at) → PlacedIn (length text) at t
  placed (Ok p) e = lies text at p.kind p.start p.end (token_is_lem p e)
  placed (Err f) e = tt

-- ---- the token at `at`, from what its reader has found on its way

-- what the reader promises of its answer
abbrev pub Answers : List ℕ → ℕ → Step → Type 0
Answers text at t = (t ≡ token_step (token_at text at)) × PlacedIn (length text) at t

pub answered : (text : List ℕ) (at : ℕ) {t u : Step} → t ≡ u → Answers text at u → Answers text at t
answered text at e a = subst (Answers text at) (sym e) a

answers : (text : List ℕ) (at : ℕ) (t : Step) → t ≡ token_step (token_at text at) → Answers text at t
answers text at t e = (e, placed text at t e)

module _ (text : List ℕ) (at s : ℕ) (hs : s ≡ run_end is_space text at) where
  pub token_end : length text ≤ s → Answers text at (token_is 1 s s)
  unfolding token_at token_past kind_number
  token_end h = answers text at (token_is 1 s s) (rw (← hs, le-ltb _ _ h))

  module _ (h : s < length text) where
    past : token_of text s (get_or text s 0) ≡ token_at text at
    unfolding token_at token_past
    past = rw (← hs, lt-ltb _ _ h)

    pub token_word : (e k : ℕ) → is_letter (get_or text s 0) ≡ true → e ≡ run_end is_alphanumeric text s → k ≡ kind_number (word_of (part text s e)) → Answers text at (token_is k s e)
    unfolding token_of word_at
    token_word e k l he hk = answers text at (token_is k s e) (rw (← past, l, hk, ← he))

    module _ (n1 : is_letter (get_or text s 0) ≡ false) where
      pub token_digits : (e : ℕ) → is_digit (get_or text s 0) ≡ true → e ≡ run_end is_digit text s → Answers text at (token_is 4 s e)
      unfolding token_of digits_at kind_number
      token_digits e d he = answers text at (token_is 4 s e) (rw (← past, n1, d, ← he))

      module _ (n2 : is_digit (get_or text s 0) ≡ false) (t : Step) where
        pub token_previous : get_or text s 0 ≡ 95 → t ≡ token_step (previous_at text s) → Answers text at t
        unfolding token_of
        token_previous e ht = answers text at t (rw (← past, n1, n2, eq-eqb _ _ e) ht)

        pub token_sign : (b : ℕ) → (get_or text s 0 ≡ 95 → ⊥) → b ≡ get_or text (s + 1) 0 → t ≡ token_step (sign_at (get_or text s 0) b s) → Answers text at t
        unfolding token_of
        token_sign b f hb ht = answers text at t (rw (← past, n1, n2, ne_eqb _ _ f, ← hb) ht)

-- ---- for callers: what an answer says once it is taken apart

module _ (text : List ℕ) (at : ℕ) (t : Step) (a : Answers text at t) where
  pub is_token : (p : Place) → t ≡ Ok p → (token_at text at ≡ token (kind_of p.kind) p.start p.end) × Lies (length text) at p.kind p.start p.end
  is_token p e = (sym (token_is_lem text at p (sym e ∙ a.0)), subst (PlacedIn (length text) at) e a.1)

  pub is_fault : (e : Refusal) → t ≡ Err e → (token_at text at ≡ fault (refusal_place e)) × (e ≡ NoToken (refusal_place e))
  is_fault e h = fault_is text at e (sym h ∙ a.0)
