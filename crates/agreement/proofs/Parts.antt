-- Laws of the comparison: one token on, one condition on. Assumes nothing.
use mathlib.Core.Path.{◌≡◌, refl, sym, ap, ◌∙◌}
use mathlib.Core.Bool.{true, false, cond}
use mathlib.Core.List.{List, [], ◌∷◌}
use Prim.Native.Nat.{ℕ, zero, suc, ◌+◌, ◌-◌, ◌≤◌, ◌<◌}
use native.Mathlib.Numerals.{add-one}
use native.Mathlib.Omega.{arith}
use lib.Dec.{ltb}
use lib.ListN.{length, get_or, drop}
use lib.Seq.{drop-cons}
use borrow.Author.Tests.{lt-ltb, le-ltb, ltb-true, ltb-false}
use Rattle.lexer.specs.Token.{Kind, close_round, bar, is, token, fault, last_kind, kind_number}
use Rattle.lexer.specs.Lexer.{token_at, same_token}
use Rattle.lexer.specs.Results.{kind_of}
use Rattle.lexer.proofs.Laws.{cond_prop}
use Rattle.grammar.specs.Rules.{Span, Spanned, Compared, agrees, differs, on_compared, part_from, kind_at, parts_from}
use Rattle.agreement.specs.Inner.Spans.{spans_in, spans_of, Spans}

-- ---- the tokens of a condition

-- the comparison has come to a in the first list and to b in the second; no fewer turns are left than there are tokens
pub record Matching (text : List ℕ) (from to at a b : ℕ) : Type 0 where
  pub fuel : ℕ
  pub enough : to ≤ a + fuel
  pub same : part_from (length text) text from to at ≡ part_from fuel text a to b

pub matching : (text : List ℕ) (from to at : ℕ) → to ≤ length text → Matching text from to at from at
matching text from to at h = record { fuel = length text; enough = omega arith; same = refl }

module _ (text : List ℕ) (from to at a b : ℕ) (m : Matching text from to at a b) where
  some_fuel : a < to → m.fuel ≡ suc (m.fuel - 1)
  some_fuel h = omega (arith, m.enough)

  end_turn : (fuel : ℕ) → to ≤ a → part_from fuel text a to b ≡ agrees b
  unfolding part_from
  end_turn zero h = refl
  end_turn (suc f) h = rw (le-ltb a to h)

  pub matched : to ≤ a → agrees b ≡ part_from (length text) text from to at
  matched h = sym (m.same ∙ end_turn m.fuel h)

  module _ (h : a < to) where
    turn : part_from (length text) text from to at ≡ part_from (suc (m.fuel - 1)) text a to b
    turn = m.same ∙ ap (λ (f : ℕ). part_from f text a to b) (some_fuel h)

    pub unmatched_fault : (p : ℕ) → token_at text a ≡ fault p → differs p ≡ part_from (length text) text from to at
    unfolding part_from
    unmatched_fault p e = sym (turn ∙ rw (lt-ltb a to h, e))

    module _ (k : Kind) (s n : ℕ) (e : token_at text a ≡ token k s n) where
      pub found_fault : (p : ℕ) → token_at text b ≡ fault p → differs p ≡ part_from (length text) text from to at
      unfolding part_from
      found_fault p f = sym (turn ∙ rw (lt-ltb a to h, e, f))

      module _ (k2 : Kind) (s2 n2 : ℕ) (f : token_at text b ≡ token k2 s2 n2) where
        pub unmatched : same_token text k s n k2 s2 n2 ≡ false → differs s2 ≡ part_from (length text) text from to at
        unfolding part_from
        unmatched t = sym (turn ∙ rw (lt-ltb a to h, e, f, t))

        pub next_tokens : same_token text k s n k2 s2 n2 ≡ true → a < n → Matching text from to at n n2
        unfolding part_from
        next_tokens t l = record { fuel = m.fuel - 1; enough = omega (arith, m.enough); same = turn ∙ rw (lt-ltb a to h, e, f, t) }

-- ---- a sign

module _ (text : List ℕ) (w : Kind) (at : ℕ) where
  pub sign_fault : (p : ℕ) → token_at text at ≡ fault p → differs p ≡ kind_at text w at
  unfolding kind_at
  sign_fault p e = rw e

  module _ (k : Kind) (s n : ℕ) (e : token_at text at ≡ token k s n) where
    pub sign_wanted : is k w ≡ true → agrees n ≡ kind_at text w at
    unfolding kind_at
    sign_wanted t = rw (e, t)

    pub sign_other : is k w ≡ false → differs s ≡ kind_at text w at
    unfolding kind_at
    sign_other t = rw (e, t)

-- ---- the conditions of a list

-- the sign after a condition
abbrev sign_after : List Span → Kind
sign_after [] = close_round
sign_after (s ∷ ss) = bar

-- the same as `parts_from`, from spans alone
unfoldable pub spans_from : List ℕ → List Span → ℕ → Compared
spans_from text [] at = agrees at
spans_from text (s ∷ ss) at =
    on_compared (part_from (length text) text s.from s.to at) (λ n. on_compared (kind_at text (sign_after ss) n) (λ m. spans_from text ss m))

on_agrees : (c : Compared) → on_compared c (λ n. agrees n) ≡ c
on_agrees (agrees n) = refl
on_agrees (differs p) = refl

on_same : (c : Compared) (f g : ℕ → Compared) → ((n : ℕ) → f n ≡ g n) → on_compared c f ≡ on_compared c g
on_same (agrees n) f g h = h n
on_same (differs p) f g h = refl

parts_spans : (text : List ℕ) (cases : List Spanned) (at : ℕ) → parts_from text cases at ≡ spans_from text (spans_of cases) at
unfolding parts_from spans_from
parts_spans text [] at = refl
parts_spans text (c ∷ []) at = on_same (part_from (length text) text c.span.from c.span.to at) _ _ (λ n. sym (on_agrees (kind_at text close_round n)))
parts_spans text (c ∷ d ∷ cs) at =
    on_same (part_from (length text) text c.span.from c.span.to at) _ _ (λ n. on_same (kind_at text bar n) _ _ (λ m. parts_spans text (d ∷ cs) m))

pub separator_known : (i count w : ℕ) → w ≡ kind_number (cond (ltb i count) bar close_round) → w ≤ last_kind
unfolding kind_number
separator_known i count w e = rw e (cond_prop (λ (x : Kind). kind_number x ≤ last_kind) (ltb i count) bar close_round (λ t. omega arith) (λ t. omega arith))

pub spans_none : (from to : List ℕ) → spans_in from to 0 ≡ []
unfolding spans_in
spans_none [] to = refl
spans_none (f ∷ from) [] = refl
spans_none (f ∷ from) (t ∷ to) = refl

-- the comparison has come to the condition i, wanted at a
pub record Comparing (text from to : List ℕ) (count at i a : ℕ) : Type 0 where
  pub in_count : i ≤ count
  pub same : spans_from text (spans_in from to count) at ≡ spans_from text (spans_in (drop i from) (drop i to) (count - i)) a

module _ (text from to : List ℕ) (count : ℕ) (s : Spans text from to count) where
  -- the spans from i on
  abbrev left : ℕ → List Span
  left i = spans_in (drop i from) (drop i to) (count - i)

  abbrev span : ℕ → Span
  span i = record { from = get_or from i 0; to = get_or to i 0 }

  left_step : (i : ℕ) → i < count → left i ≡ span i ∷ left (i + 1)
  unfolding spans_in
  left_step i h =
      let m : count - i ≡ suc (count - (i + 1)) = omega arith in
      rw (drop-cons from i 0 (omega (arith, s.in_from)), drop-cons to i 0 (omega (arith, s.in_to)), m, add-one i)

  left_none : (i : ℕ) → count ≤ i → left i ≡ []
  left_none i h = let z : count - i ≡ 0 = omega arith in rw (z, spans_none (drop i from) (drop i to))

  sign_after_lem : (i : ℕ) → sign_after (left i) ≡ kind_of (kind_number (cond (ltb i count) bar close_round))
  unfolding kind_of kind_number
  sign_after_lem i =
      cond_prop (λ (x : ℕ). sign_after (left i) ≡ kind_of (kind_number (cond (ltb i count) bar close_round))) (ltb i count) 0 0
      (λ t. rw (left_step i (ltb-true _ _ t), t)) (λ t. rw (left_none i (ltb-false _ _ t), t))

  abbrev Answers : ℕ → Compared → Type 0
  Answers at r = (cases : List Spanned) → spans_of cases ≡ spans_in from to count → r ≡ parts_from text cases at

  answers : (at : ℕ) (r : Compared) → spans_from text (spans_in from to count) at ≡ r → Answers at r
  answers at r e cases h = sym (parts_spans text cases at ∙ ap (λ (l : List Span). spans_from text l at) h ∙ e)

  module _ (at i a : ℕ) (c : Comparing text from to count at i a) where
    pub compared : {r : Compared} → r ≡ agrees a → count ≤ i → Answers at r
    unfolding spans_from
    compared {r} e h = answers at r (c.same ∙ rw (left_none i h, e))

    module _ (h : i < count) where
      pub part_differs : {r : Compared} (p : ℕ) → r ≡ part_from (length text) text (get_or from i 0) (get_or to i 0) a → r ≡ differs p → Answers at r
      unfolding spans_from
      part_differs {r} p e g = answers at r (c.same ∙ rw (left_step i h, ← e, g))

      module _ {q : Compared} (n : ℕ) (e : q ≡ part_from (length text) text (get_or from i 0) (get_or to i 0) a) (g : q ≡ agrees n) (w : ℕ) (hw : w ≡ kind_number (cond (ltb (i + 1) count) bar close_round)) {r : Compared} (f : r ≡ kind_at text (kind_of w) n) where
        after_sign : spans_from text (left i) a ≡ on_compared r (λ m. spans_from text (left (i + 1)) m)
        unfolding spans_from
        after_sign = rw (left_step i h, ← e, g, sign_after_lem (i + 1), ← hw, ← f)

        pub sign_differs : (p : ℕ) → r ≡ differs p → Answers at r
        sign_differs p d = answers at r (c.same ∙ after_sign ∙ rw d)

        pub next_part : (m : ℕ) → r ≡ agrees m → Comparing text from to count at (i + 1) m
        next_part m d = record { in_count = omega arith; same = c.same ∙ after_sign ∙ rw d }
