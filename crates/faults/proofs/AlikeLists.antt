-- The comparison of the two lists of conditions, of two texts that are the same up to what the one is refused for. Assumes nothing.
use mathlib.Core.Path.{◌≡◌, refl, ap, sym, ◌∙◌, subst}
use mathlib.Core.List.{List, [], ◌∷◌}
use mathlib.Core.Bool.{Bool, true, false, cond}
use mathlib.Core.Logic.{inl, inr}
use Prim.Native.Nat.{ℕ, zero, suc, ◌+◌, ◌≤◌, ◌<◌}
use native.Mathlib.Omega.{arith}
use lib.ListN.{length}
use lib.Dec.{ltb, leb, eqb}
use borrow.Author.Tests.{lt-ltb, le-ltb, eqb-true}
use Rattle.lexer.specs.Token.{Kind, close_round, bar, TokenRead, token, fault}
use Rattle.lexer.specs.Lexer.{token_at, same_token}
use Rattle.semantics.specs.Program.{Condition}
use Rattle.grammar.specs.Parsed.{Parsed, accepted, refused}
use Rattle.grammar.specs.Rules.{Spanned, Compared, agrees, differs, on_compared, on_found, part_from, kind_at, parts_from, first_found}
use Rattle.grammar.specs.Derivation.{Tokens, Stands, Spells, normal}
use Rattle.grammar.proofs.Standing.{stands_in, spells_in, is_read, stands_read, normally}
use Rattle.grammar.proofs.Listed.{Listed, last, next, parts_next}
use Rattle.faults.proofs.Reaching.{Reaches, reaches_le, read_start, starts_after}
use Rattle.faults.proofs.Prefix.{part_same, token_stays}
use Rattle.faults.proofs.Closing.{MeetsAt, part_stays}
use Rattle.faults.proofs.ReadingsText.{ComesTo, then_comes, part_comes, kind_comes, parts_comes}
use Rattle.faults.proofs.Alike.{Setting, OnOrBeyond, place_of, Same, yields, refuses, beyond, TokenIn, b_within, on_way, word_same, cond_same}

abbrev reached : Compared → ℕ
reached (agrees n) = n
reached (differs m) = m

pub data SameCompared (S : Setting) : Compared → Compared → Type 0 where
  agree : (n : ℕ) → OnOrBeyond S n → SameCompared S (agrees n) (agrees n)
  differ : (m : ℕ) → m ≤ S.place → SameCompared S (differs m) (differs m)
  far : {c c' : Compared} → S.place < reached c → S.place < reached c' → SameCompared S c c'

not_equal_lem : (q m : ℕ) → m < q → eqb q m ≡ false
not_equal_lem q m h = go (eqb q m) refl
  where
    go : (t : Bool) → eqb q m ≡ t → eqb q m ≡ false
    go true e = let f = eqb-true q m e in absurd (omega arith)
    go false e = e

comes_after : (t : List ℕ) (at : ℕ) (c : Compared) → ComesTo t at c → at ≤ reached c
comes_after t at (agrees n) g = reaches_le t g
comes_after t at (differs m) g = omega (arith, reaches_le t g.1, starts_after t g.0, g.2)

then_agrees : {S : Setting} {c c' : Compared} {f f' : ℕ → Compared} → SameCompared S c c' → ((n : ℕ) → OnOrBeyond S n → SameCompared S (f n) (f' n)) → ((n : ℕ) → n ≤ reached (f n)) → ((n : ℕ) → n ≤ reached (f' n)) → SameCompared S (on_compared c f) (on_compared c' f')
then_agrees (agree n i) g h h' = g n i
then_agrees (differ m l) g h h' = differ m l
then_agrees {S} {c} {c'} {f} {f'} (far l l') g h h' = far (on c f l h) (on c' f' l' h')
  where
    on : (c : Compared) (f : ℕ → Compared) → S.place < reached c → ((n : ℕ) → n ≤ reached (f n)) → S.place < reached (on_compared c f)
    on (agrees n) f l h = omega (arith, h n)
    on (differs m) f l h = l

-- the spans of cases end at a place at the latest
abbrev pub Before : ℕ → List Spanned → Type 0
Before n [] = Unit {0}
Before n (c ∷ cs) = (c.span.to ≤ n) × Before n cs

module _ (S : Setting) where
  found_agrees : (at : ℕ) (test test' : Kind → ℕ → ℕ → Bool) (f f' : ℕ → Compared) → Reaches S.text at S.b → ((k : Kind) (s n : ℕ) → TokenIn at k s n S.text → test k s n ≡ test' k s n) → ((n : ℕ) → OnOrBeyond S n → SameCompared S (f n) (f' n))
      → SameCompared S (on_found (token_at S.text at) test f) (on_found (token_at S.twin at) test' f')
  found_agrees at test test' f f' c g h =
      subst (λ (x : TokenRead). SameCompared S (on_found (token_at S.text at) test f) (on_found x test' f')) (sym (on_way S c).twin_reads) (go (token_at S.text at) refl)
    where
      choice : (t : Bool) (s : ℕ) (x y : Compared) → s ≤ S.place → SameCompared S x y → SameCompared S (cond t x (differs s)) (cond t y (differs s))
      choice true s x y l a = a
      choice false s x y l a = differ s l

      go : (r : TokenRead) → token_at S.text at ≡ r → SameCompared S (on_found r test f) (on_found r test' f')
      go (token k s n) e =
          subst (λ (t : Bool). SameCompared S (cond (test k s n) (f n) (differs s)) (cond t (f' n) (differs s))) (g k s n e)
          (choice (test k s n) s (f n) (f' n) (omega (arith, ap read_start e, (on_way S c).early)) (h n ((on_way S c).next k s n e).0))
      go (fault p) e = differ p (omega (arith, ap read_start e, (on_way S c).early))

  -- tokens before the place stand in the twin too
  spells_stay : (ts : Tokens) (from to : ℕ) → from ≤ length S.text → Spells normal S.text from to ts → to ≤ S.place → Spells normal S.twin from to ts
  spells_stay [] from to h g l = g
  spells_stay (t ∷ ts) from to h g l =
      let st = g.1 in
      let i = stands_in normally S.text from g.0 t h st in
      let j = spells_in normally S.text g.0 to ts i.1 g.2 in
      let m : g.0 < S.end = omega (arith, j.0, S.some_bytes) in
      let w : from ≤ length S.twin = omega (arith, i.0, j.0, S.some_bytes, S.in_twin) in
      let e = token_stays S.text S.twin S.end S.in_text_lem S.in_twin S.same from st.kind st.start g.0 h (is_read st) m in
      let q = ap normal (sym (part_same S.text S.twin S.end S.in_text_lem S.in_twin S.same st.start g.0 (omega arith))) ∙ st.spelled in
      let su : Stands normal S.twin from g.0 t = stands_read normally S.twin from st.kind st.start g.0 w st.is_token.some_bytes e t q in
      (g.0, su, spells_stay ts g.0 to i.1 g.2 l)

  part_far : (ts : Tokens) (f f' from to at : ℕ) → from ≤ length S.text → Spells normal S.text from to ts → to ≤ S.place → S.place < at → SameCompared S (part_from f S.text from to at) (part_from f' S.twin from to at)
  part_far ts f f' from to at h g l i =
      let w : from ≤ length S.twin = omega (arith, (spells_in normally S.text from to ts h g).0, S.some_bytes, S.in_twin) in
      let x : S.place < reached (part_from f S.text from to at) = omega (arith, comes_after S.text at (part_from f S.text from to at) (part_comes S.text ts f from to at h g)) in
      let y : S.place < reached (part_from f' S.twin from to at) = omega (arith, comes_after S.twin at (part_from f' S.twin from to at) (part_comes S.twin ts f' from to at w (spells_stay ts from to h g l))) in
      far x y

  same_tokens : (k : Kind) (s n at : ℕ) → n ≤ S.end → Reaches S.text at S.b → (k2 : Kind) (s2 n2 : ℕ) → TokenIn at k2 s2 n2 S.text → same_token S.text k s n k2 s2 n2 ≡ same_token S.twin k s n k2 s2 n2
  unfolding same_token
  same_tokens k s n at l c k2 s2 n2 e =
      rw (part_same S.text S.twin S.end S.in_text_lem S.in_twin S.same s n l, word_same S at k2 s2 n2 s2 e c)

  abbrev PartAgrees : Tokens → Type 0
  PartAgrees ts =
      (f f' from to at : ℕ) → from ≤ length S.text → Spells normal S.text from to ts → to ≤ S.place → to ≤ from + f → to ≤ from + f' → OnOrBeyond S at → SameCompared S (part_from f S.text from to at) (part_from f' S.twin from to at)

  part_step : (t : List ℕ) (ts : Tokens) → PartAgrees ts → PartAgrees (t ∷ ts)
  unfolding part_from
  part_step t ts ih f f' from to at h g l r r' (inr x) = part_far (t ∷ ts) f f' from to at h g l x
  part_step t ts ih zero f' from to at h g l r r' (inl c) =
      let i = stands_in normally S.text from g.0 t h g.1 in
      absurd (omega (arith, i.0, (spells_in normally S.text g.0 to ts i.1 g.2).0))
  part_step t ts ih (suc f) zero from to at h g l r r' (inl c) =
      let i = stands_in normally S.text from g.0 t h g.1 in
      absurd (omega (arith, i.0, (spells_in normally S.text g.0 to ts i.1 g.2).0))
  part_step t ts ih (suc f) (suc f') from to at h g l r r' (inl c) =
      let st = g.1 in
      let i = stands_in normally S.text from g.0 t h st in
      let j = spells_in normally S.text g.0 to ts i.1 g.2 in
      let su = token_stays S.text S.twin S.end S.in_text_lem S.in_twin S.same from st.kind st.start g.0 h (is_read st) (omega (arith, j.0, S.some_bytes)) in
      rw (lt-ltb from to (omega (arith, i.0, j.0)), is_read st, su)
      (found_agrees at (same_token S.text st.kind st.start g.0) (same_token S.twin st.kind st.start g.0) _ _ c (λ k s n e. same_tokens st.kind st.start g.0 at (omega (arith, j.0, S.some_bytes)) c k s n e)
      (λ n x. ih f f' g.0 to n i.1 g.2 l (omega (arith, i.0)) (omega (arith, i.0)) x))

  part_nothing : PartAgrees []
  part_nothing f f' from to at h g l r r' i = rw (g, part_stays S.text f to at, part_stays S.twin f' to at) (agree at i)

  part_agrees : (ts : Tokens) → PartAgrees ts
  part_agrees [] = part_nothing
  part_agrees (t ∷ ts) = part_step t ts (part_agrees ts)

  kind_agrees : (w : Kind) (at : ℕ) → OnOrBeyond S at → SameCompared S (kind_at S.text w at) (kind_at S.twin w at)
  unfolding kind_at
  kind_agrees w at (inl c) = found_agrees at _ _ _ _ c (λ k s n e. refl) (λ n i. agree n i)
  kind_agrees w at (inr l) =
      let x : S.place < reached (kind_at S.text w at) = omega (arith, comes_after S.text at (kind_at S.text w at) (kind_comes S.text w at)) in
      let y : S.place < reached (kind_at S.twin w at) = omega (arith, comes_after S.twin at (kind_at S.twin w at) (kind_comes S.twin w at)) in
      far x y

  kind_after : (t : List ℕ) (w : Kind) (at : ℕ) → at ≤ reached (kind_at t w at)
  kind_after t w at = comes_after t at (kind_at t w at) (kind_comes t w at)

  listed_stays : (cs : List Spanned) (ls : Tokens) → Listed S.text cs ls → Before S.place cs → Listed S.twin cs ls
  listed_stays cs ls (last c ts h g) l =
      last c ts (omega (arith, (spells_in normally S.text c.span.from c.span.to ts h g).0, l.0, S.some_bytes, S.in_twin)) (spells_stay ts c.span.from c.span.to h g l.0)
  listed_stays cs ls (next c ds ts us h g r) l =
      next c ds ts us (omega (arith, (spells_in normally S.text c.span.from c.span.to ts h g).0, l.0, S.some_bytes, S.in_twin)) (spells_stay ts c.span.from c.span.to h g l.0) (listed_stays ds us r l.1)

  part_of : (c : Spanned) (ts : Tokens) (at : ℕ) → c.span.from ≤ length S.text → Spells normal S.text c.span.from c.span.to ts → c.span.to ≤ S.place → OnOrBeyond S at
      → SameCompared S (part_from (length S.text) S.text c.span.from c.span.to at) (part_from (length S.twin) S.twin c.span.from c.span.to at)
  part_of c ts at h g l i =
      part_agrees ts (length S.text) (length S.twin) c.span.from c.span.to at h g l (omega (arith, S.some_bytes, S.in_text_lem)) (omega (arith, S.some_bytes, S.in_twin)) i

  parts_after : (t : List ℕ) (cs : List Spanned) (ls : Tokens) → Listed t cs ls → (at : ℕ) → at ≤ reached (parts_from t cs at)
  parts_after t cs ls r at = comes_after t at (parts_from t cs at) (parts_comes t cs ls r at)

  bar_after : (t : List ℕ) (cs : List Spanned) (ls : Tokens) → Listed t cs ls → (at : ℕ) → at ≤ reached (on_compared (kind_at t bar at) (λ m. parts_from t cs m))
  bar_after t cs ls r at = comes_after t at (on_compared (kind_at t bar at) (λ m. parts_from t cs m)) (then_comes t at (kind_at t bar at) (λ m. parts_from t cs m) (kind_comes t bar at) (λ m. parts_comes t cs ls r m))

  pub parts_agree : (cs : List Spanned) (ls : Tokens) → Listed S.text cs ls → Before S.place cs → (at : ℕ) → OnOrBeyond S at → SameCompared S (parts_from S.text cs at) (parts_from S.twin cs at)
  unfolding parts_from
  parts_agree cs ls (last c ts h g) l at i =
      then_agrees (part_of c ts at h g l.0 i) (λ n j. kind_agrees close_round n j) (λ n. kind_after S.text close_round n) (λ n. kind_after S.twin close_round n)
  parts_agree cs ls (next c ds ts us h g r) l at i =
      let r' = listed_stays ds us r l.1 in
      rw (parts_next S.text c ds us r at, parts_next S.twin c ds us r' at)
      (then_agrees (part_of c ts at h g l.0 i)
      (λ n j. then_agrees (kind_agrees bar n j) (λ m k. parts_agree ds us r l.1 m k) (λ m. parts_after S.text ds us r m) (λ m. parts_after S.twin ds us r' m))
      (λ n. bar_after S.text ds us r n) (λ n. bar_after S.twin ds us r' n))

  -- ---- 7

  far_first : (r : Parsed (List Condition)) (d : Compared) → S.place < place_of r → S.place < reached d → S.place < place_of (first_found r d)
  unfolding first_found
  far_first r (agrees n) l m = l
  far_first (accepted a n) (differs q) l m = m
  far_first (refused k p) (differs q) l m = go (ltb p q) (eqb p q) (leb k 5)
    where
      go : (t u v : Bool) → S.place < place_of {A = List Condition} (cond t (refused k p) (cond u (cond v (refused k p) (refused 7 q)) (refused 7 q)))
      go true u v = l
      go false true true = l
      go false true false = m
      go false false v = m

  -- a refusal before what differs stays, and what differs before a refusal is 7
  refused_stays : (k q : ℕ) (d : Compared) → q ≤ S.place → S.place < reached d → first_found {A = List Condition} (refused k q) d ≡ refused k q
  unfolding first_found
  refused_stays k q (agrees n) l m = refl
  refused_stays k q (differs n) l m = rw (lt-ltb q n (omega arith))

  differs_first : (r : Parsed (List Condition)) (m : ℕ) → S.place < place_of r → m ≤ S.place → first_found r (differs m) ≡ refused 7 m
  unfolding first_found
  differs_first (accepted a n) m l h = refl
  differs_first (refused k q) m l h = rw (le-ltb q m (omega arith), not_equal_lem q m (omega arith))

  itself : (k q m : ℕ) → q ≤ S.place → m ≤ S.place → Same {A = List Condition} S (first_found (refused k q) (differs m)) (first_found (refused k q) (differs m))
  unfolding first_found
  itself k q m l h = cond_same (ltb q m) (refuses k q l) (cond_same (eqb q m) (cond_same (leb k 5) (refuses k q l) (refuses 7 m h)) (refuses 7 m h))

  met_near : (at n : ℕ) (d : Compared) → MeetsAt S.text at n d → reached d ≤ n
  met_near at n (agrees m) g = omega (arith, g)
  met_near at n (differs m) g = omega (arith, g.early)

  pub first_same : (at : ℕ) (r r' : Parsed (List Condition)) (d d' : Compared) → Same S r r' → SameCompared S d d' → ((ds : List Condition) (n : ℕ) → r ≡ accepted ds n → MeetsAt S.text at n d) → Same S (first_found r d) (first_found r' d')
  unfolding first_found
  first_same at r r' d d' (yields a n i) (agree m j) f = yields a n i
  first_same at r r' d d' (yields a n i) (differ m j) f = refuses 7 m j
  first_same at r r' d d' (yields a n (inl c)) (far l l') f = absurd (omega (arith, met_near at n d (f a n refl), reaches_le S.text c, b_within S))
  first_same at r r' d d' (yields a n (inr x)) (far l l') f = beyond (far_first (accepted a n) d x l) (far_first (accepted a n) d' x l')
  first_same at r r' d d' (refuses k q i) (agree m j) f = refuses k q i
  first_same at r r' d d' (refuses k q i) (differ m j) f = itself k q m i j
  first_same at r r' d d' (refuses k q i) (far l l') f = rw (refused_stays k q d i l, refused_stays k q d' i l') (refuses k q i)
  first_same at r r' d d' (beyond x x') (agree m j) f = beyond x x'
  first_same at r r' d d' (beyond x x') (differ m j) f = rw (differs_first r m x j, differs_first r' m x' j) (refuses 7 m j)
  first_same at r r' d d' (beyond x x') (far l l') f = beyond (far_first r d x l) (far_first r' d' x' l')
