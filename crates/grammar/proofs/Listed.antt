-- The two lists of a rule's conditions: where the first list's tokens stand once more, the comparison agrees, and the other way round.
-- Assumes nothing.
use mathlib.Core.Path.{◌≡◌, refl, sym, ◌∙◌, subst}
use mathlib.Core.List.{List, [], ◌∷◌, ◌++◌, append_assoc}
use mathlib.Core.Bool.{Bool, true, false, cond}
use Prim.Native.Nat.{ℕ, zero, suc, ◌+◌, ◌≤◌, ◌<◌}
use native.Mathlib.Nat.{le_refl}
use native.Mathlib.Omega.{arith}
use lib.ListN.{length}
use borrow.Author.Tests.{lt-ltb, le-ltb, eq-eqb}
use Rattle.lexer.specs.Bytes.{bytes, part}
use Rattle.lexer.specs.Spelling.{Spelling}
use Rattle.lexer.specs.Token.{Kind, kind_number, ending, close_round, bar, is, TokenRead, token, fault, spelling_of}
use Rattle.lexer.specs.Lexer.{token_at, same_token}
use Rattle.lexer.proofs.Same.{same_token_lem, token_same}
use Rattle.grammar.specs.Rules.{Spanned, Compared, agrees, differs, on_compared, on_found, part_from, kind_at, parts_from}
use Rattle.grammar.specs.Derivation.{Stands, Spells, normal}
use Rattle.grammar.proofs.Normal.{same_seen, seen_same}
use Rattle.lexer.proofs.Spellings.{is_fixed, one_kind}
use Rattle.grammar.proofs.Standing.{stands_kind, stands_in, spells_in, split, spells_append, spells_append_left, is_read, written, normally, stands, stands_spelled}
use Rattle.grammar.proofs.Phrases.{fixed_stands, fixed_at}

-- ---- a comparison that agrees

record Found (r : TokenRead) (test : Kind → ℕ → ℕ → Bool) (next : ℕ → Compared) (c : ℕ) : Type 0 where
  pub kind : Kind
  pub start : ℕ
  pub end : ℕ
  pub is_token : r ≡ token kind start end
  pub passes : test kind start end ≡ true
  pub more : next end ≡ agrees c

found : (r : TokenRead) (test : Kind → ℕ → ℕ → Bool) (next : ℕ → Compared) (c : ℕ) → on_found r test next ≡ agrees c → Found r test next c
found (token k s n) test next c h = go (test k s n) refl h
  where
    go : (t : Bool) → test k s n ≡ t → cond t (next n) (differs s) ≡ agrees c → Found (token k s n) test next c
    go true e m = record { kind = k; start = s; end = n; is_token = refl; passes = e; more = m }
    go false e m = let z : ◌≡◌ {A = ℕ} 0 1 = cc in let f : ⊥ = omega arith in absurd f
found (fault p) test next c h = let z : ◌≡◌ {A = ℕ} 0 1 = cc in let f : ⊥ = omega arith in absurd f

record Both (x : Compared) (f : ℕ → Compared) (n : ℕ) : Type 0 where
  pub place : ℕ
  pub first : x ≡ agrees place
  pub second : f place ≡ agrees n

compared_inv : (x : Compared) (f : ℕ → Compared) (n : ℕ) → on_compared x f ≡ agrees n → Both x f n
compared_inv (agrees m) f n e = record { place = m; first = refl; second = e }
compared_inv (differs p) f n e = let z : ◌≡◌ {A = ℕ} 0 1 = cc in let g : ⊥ = omega arith in absurd g

module _ (text : List ℕ) where
  -- the tokens of the conditions of cases where they say that they stand, with `|` between them
  pub data Listed : List Spanned → List (List ℕ) → Type 0 where
    last : (c : Spanned) (ts : List (List ℕ)) → c.span.from ≤ length text → Spells normal text c.span.from c.span.to ts → Listed (c ∷ []) ts
    next : (c : Spanned) (cs : List Spanned) (ts ls : List (List ℕ)) → c.span.from ≤ length text → Spells normal text c.span.from c.span.to ts → Listed cs ls → Listed (c ∷ cs) (ts ++ bytes "|" ∷ ls)

  -- a list that is not empty is compared part by part
  pub parts_next : (c : Spanned) (cs : List Spanned) (ls : List (List ℕ)) → Listed cs ls → (at : ℕ) → parts_from text (c ∷ cs) at ≡ on_compared (part_from (length text) text c.span.from c.span.to at) (λ n. on_compared (kind_at text bar n) (λ m. parts_from text cs m))
  unfolding parts_from
  parts_next c cs ls (last d ts h sp) at = refl
  parts_next c cs ls (next d ds ts us h sp r) at = refl

  parts_last : (c : Spanned) (at : ℕ) → parts_from text (c ∷ []) at ≡ on_compared (part_from (length text) text c.span.from c.span.to at) (λ n. kind_at text close_round n)
  unfolding parts_from
  parts_last c at = refl

  -- ---- what agrees is spelled the same

  part-stop : (f to at m : ℕ) → part_from f text to to at ≡ agrees m → at ≡ m
  unfolding part_from
  part-stop zero to at m e = cc
  part-stop (suc f) to at m e = let g : agrees at ≡ agrees m = rw (le-ltb to to (le_refl to)) at e in cc

  -- a token that is the same as t is t
  twin_stands : (t : List ℕ) (from n at m : ℕ) (more : ℕ → Compared) → from ≤ length text → at ≤ length text → (st : Stands normal text from n t) → (x : Found (token_at text at) (same_token text st.kind st.start n) more m) → Stands normal text at x.end t
  twin_stands t from n at m more h i st x =
      let same = same_token_lem text st.kind st.start n x.kind x.start x.end x.passes in
      let ne : x.kind ≡ ending → ⊥ = λ z. subst (λ (k : Kind). Spelling k (part text st.start n)) (same.0 ∙ z) st.is_token.spells in
      let sp : Spelling st.kind (part text x.start x.end) = subst (λ (k : Kind). Spelling k (part text x.start x.end)) (sym same.0) (stands_spelled written text at x.kind x.start x.end i ne x.is_token) in
      let seen = same_seen st.kind (part text st.start n) (part text x.start x.end) st.is_token.spells sp same.1 in
      subst (Stands normal text at x.end) (sym seen ∙ st.spelled) (stands normally text at x.kind x.start x.end i ne x.is_token)

  part_spells : (ts : List (List ℕ)) (f from to at m : ℕ) → from ≤ length text → at ≤ length text → to ≤ from + f → Spells normal text from to ts → part_from f text from to at ≡ agrees m → Spells normal text at m ts
  unfolding part_from
  part_spells [] f from to at m h i en g e = part-stop f to at m (subst (λ (x : ℕ). part_from f text x to at ≡ agrees m) g e)
  part_spells (t ∷ ts) zero from to at m h i en g e =
      let mv = stands_in normally text from g.0 t h g.1 in
      let sp = spells_in normally text g.0 to ts mv.1 g.2 in
      absurd (omega (arith, mv.0, sp.0))
  part_spells (t ∷ ts) (suc f) from to at m h i en g e =
      let st = g.1 in
      let mv = stands_in normally text from g.0 t h st in
      let sp = spells_in normally text g.0 to ts mv.1 g.2 in
      let lt : from < to = omega (arith, mv.0, sp.0) in
      let room : to ≤ g.0 + f = omega (arith, mv.0) in
      same_next st mv.1 (λ j b q. part_spells ts f g.0 to j m mv.1 b room g.2 q)
      (found (token_at text at) (same_token text st.kind st.start g.0) (λ n. part_from f text g.0 to n) m (rw (lt-ltb from to lt, is_read st) at e))
    where
      same_next : {n : ℕ} (st : Stands normal text from n t) → n ≤ length text → ((j : ℕ) → j ≤ length text → part_from f text n to j ≡ agrees m → Spells normal text j m ts) → Found (token_at text at) (same_token text st.kind st.start n) (λ j. part_from f text n to j) m → Spells normal text at m (t ∷ ts)
      same_next {n} st b rec x =
          let su = twin_stands t from n at m (λ j. part_from f text n to j) h i st x in
          (x.end, su, rec x.end (stands_in normally text at x.end t i su).1 x.more)

  kind_stands : (w : Kind) → is_fixed w ≡ true → (at n : ℕ) → at ≤ length text → kind_at text w at ≡ agrees n → Stands normal text at n (spelling_of w)
  unfolding kind_at
  kind_stands w f at n h e =
      let x = found (token_at text at) (λ k s m. is k w) (λ m. agrees m) n e in
      let q : x.end ≡ n = same_place x.end n x.more in
      subst (λ (y : ℕ). Stands normal text at y (spelling_of w)) q (fixed_stands normally text w f at x.kind x.start x.end h x.is_token x.passes)
    where
      same_place : (x y : ℕ) → agrees x ≡ agrees y → x ≡ y
      same_place x y q = cc

  pub span_room : (c : Spanned) (ts : List (List ℕ)) → c.span.from ≤ length text → Spells normal text c.span.from c.span.to ts → c.span.to ≤ c.span.from + length text
  span_room c ts h g = let sp = spells_in normally text c.span.from c.span.to ts h g in omega (arith, sp.1)

  -- a list that agrees is spelled by the same tokens, and a `)`
  pub parts_spells : (cs : List Spanned) (ls : List (List ℕ)) → Listed cs ls → (at n : ℕ) → at ≤ length text → parts_from text cs at ≡ agrees n → Spells normal text at n (ls ++ bytes ")" ∷ [])
  unfolding is_fixed kind_number
  parts_spells cs ls (last c ts h sp) at n i e =
      let b = compared_inv (part_from (length text) text c.span.from c.span.to at) (λ n. kind_at text close_round n) n (sym (parts_last c at) ∙ e) in
      let s1 = part_spells ts (length text) c.span.from c.span.to at b.place h i (span_room c ts h sp) sp b.first in
      let in1 = (spells_in normally text at b.place ts i s1).1 in
      spells_append normally text at b.place n ts (bytes ")" ∷ []) s1 (n, kind_stands close_round refl b.place n in1 b.second, refl)
  parts_spells cs ls (next c ds ts us h sp r) at n i e =
      let b = compared_inv (part_from (length text) text c.span.from c.span.to at) (λ n. on_compared (kind_at text bar n) (λ m. parts_from text ds m)) n (sym (parts_next c ds us r at) ∙ e) in
      let s1 = part_spells ts (length text) c.span.from c.span.to at b.place h i (span_room c ts h sp) sp b.first in
      let in1 = (spells_in normally text at b.place ts i s1).1 in
      let d = compared_inv (kind_at text bar b.place) (λ m. parts_from text ds m) n b.second in
      let st = kind_stands bar refl b.place d.place in1 d.first in
      let s2 = parts_spells ds us r d.place n (stands_in normally text b.place d.place (bytes "|") in1 st).1 d.second in
      spells_append_left normally text at b.place n ts (bytes "|" ∷ us) (bytes ")" ∷ []) s1 (d.place, st, s2)

  -- ---- what is spelled the same agrees

  twin_same : (t : List ℕ) (from n at m : ℕ) → from ≤ length text → at ≤ length text → (st : Stands normal text from n t) (su : Stands normal text at m t) → same_token text st.kind st.start n su.kind su.start m ≡ true
  twin_same t from n at m h i st su =
      let q : st.kind ≡ su.kind = one_kind st.kind su.kind t (stands_kind normally text from n t h st) (stands_kind normally text at m t i su) in
      let sp : Spelling st.kind (part text su.start m) = subst (λ (k : Kind). Spelling k (part text su.start m)) (sym q) su.is_token.spells in
      token_same text st.kind st.start n su.kind su.start m q (seen_same st.kind (part text st.start n) (part text su.start m) st.is_token.spells sp (st.spelled ∙ sym su.spelled))

  pub spells_part : (ts : List (List ℕ)) (f from to at m : ℕ) → from ≤ length text → at ≤ length text → to ≤ from + f → Spells normal text from to ts → Spells normal text at m ts → part_from f text from to at ≡ agrees m
  unfolding part_from
  spells_part [] f from to at m h i en g k = rw (g, k) (stop f)
    where
      stop : (f : ℕ) → part_from f text to to m ≡ agrees m
      stop zero = refl
      stop (suc f) = rw (le-ltb to to (le_refl to))
  spells_part (t ∷ ts) zero from to at m h i en g k =
      let mv = stands_in normally text from g.0 t h g.1 in
      let sp = spells_in normally text g.0 to ts mv.1 g.2 in
      absurd (omega (arith, mv.0, sp.0))
  spells_part (t ∷ ts) (suc f) from to at m h i en g k =
      let mv = stands_in normally text from g.0 t h g.1 in
      let mw = stands_in normally text at k.0 t i k.1 in
      let sp = spells_in normally text g.0 to ts mv.1 g.2 in
      rw (lt-ltb from to (omega (arith, mv.0, sp.0)), is_read g.1, is_read k.1, twin_same t from g.0 at k.0 h i g.1 k.1)
      (spells_part ts f g.0 to k.0 m mv.1 mw.1 (omega (arith, mv.0)) g.2 k.2)

  stands_compared : (w : Kind) → is_fixed w ≡ true → (at n : ℕ) → at ≤ length text → Stands normal text at n (spelling_of w) → kind_at text w at ≡ agrees n
  unfolding kind_at is
  stands_compared w f at n h st = rw (fixed_at normally text w f at n h st, eq-eqb (kind_number w) (kind_number w) refl)

  -- a list that is spelled by the same tokens, and a `)`, agrees
  pub spells_parts : (cs : List Spanned) (ls : List (List ℕ)) → Listed cs ls → (at n : ℕ) → at ≤ length text → Spells normal text at n (ls ++ bytes ")" ∷ []) → parts_from text cs at ≡ agrees n
  unfolding is_fixed kind_number
  spells_parts cs ls (last c ts h sp) at n i g =
      let p = split normally text at n ts (bytes ")" ∷ []) g in
      let in1 = (spells_in normally text at p.place ts i p.first).1 in
      let e1 = spells_part ts (length text) c.span.from c.span.to at p.place h i (span_room c ts h sp) sp p.first in
      parts_last c at ∙ rw (e1, stands_compared close_round refl p.place p.second.0 in1 p.second.1, p.second.2)
  spells_parts cs ls (next c ds ts us h sp r) at n i g =
      let g2 : Spells normal text at n (ts ++ (bytes "|" ∷ us ++ bytes ")" ∷ [])) = subst (Spells normal text at n) (append_assoc ts (bytes "|" ∷ us) (bytes ")" ∷ [])) g in
      let p = split normally text at n ts (bytes "|" ∷ us ++ bytes ")" ∷ []) g2 in
      let in1 = (spells_in normally text at p.place ts i p.first).1 in
      let e1 = spells_part ts (length text) c.span.from c.span.to at p.place h i (span_room c ts h sp) sp p.first in
      let m = p.second.0 in
      let in2 = (stands_in normally text p.place m (bytes "|") in1 p.second.1).1 in
      parts_next c ds us r at ∙ rw (e1, stands_compared bar refl p.place m in1 p.second.1) (spells_parts ds us r m n in2 p.second.2)
