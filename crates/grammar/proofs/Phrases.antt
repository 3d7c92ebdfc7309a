-- Fixed tokens in order: what is read as a phrase is spelled as it says, and the other way round. Assumes nothing.
use mathlib.Core.Path.{◌≡◌, refl, ap, sym, ◌∙◌, subst}
use mathlib.Core.List.{List, [], ◌∷◌, ◌++◌}
use mathlib.Core.Bool.{Bool, true, false, ◌&&◌, cond}
use Prim.Native.Nat.{ℕ, ◌+◌, ◌≤◌}
use native.Mathlib.Omega.{arith}
use lib.ListN.{length, get_or}
use borrow.Author.Tests.{eq-eqb}
use Rattle.arith.proofs.Basics.{and_both}
use Rattle.lexer.specs.Bytes.{bytes, part}
use Rattle.lexer.specs.Token.{Kind, kind_number, ending, name, previous, is, TokenRead, token, fault, spelling_of}
use Rattle.lexer.specs.Spelling.{SpellsName, Spelling}
use Rattle.lexer.specs.Lexer.{token_at, same_name}
use Rattle.lexer.proofs.Laws.{token_at_moved}
use Rattle.lexer.proofs.Same.{same_kind, both_true}
use Rattle.grammar.specs.Parsed.{Parsed, accepted, refused, and_then, on_token, Wanted, sign, own, own_previous, is_wanted, expected, phrase, followed}
use Rattle.grammar.specs.Derivation.{Stands, Spells, IsName}
use Rattle.grammar.proofs.Combine.{never}
use Rattle.grammar.proofs.Bytes.{part_cons, heads, tails}
use Rattle.lexer.proofs.Spellings.{is_fixed, fixed_spelling, token_spelled}
use Rattle.grammar.proofs.Standing.{View, stands, stands_spelled, at_kind, stands_in, Seen, stands_raw}

-- the tokens that a phrase wants
abbrev pub wanted_token : Wanted → List ℕ
wanted_token (sign k) = spelling_of k
wanted_token (own w) = w
wanted_token (own_previous w) = bytes "_" ++ w

abbrev pub wanted_tokens : List Wanted → List (List ℕ)
wanted_tokens [] = []
wanted_tokens (w ∷ ws) = wanted_token w ∷ wanted_tokens ws

-- its signs have one spelling each
unfoldable pub signs : List Wanted → Bool
signs [] = true
signs (sign k ∷ ws) = is_fixed k && signs ws
signs (own w ∷ ws) = signs ws
signs (own_previous w ∷ ws) = signs ws

-- the spellings of `change_opening` and `no_change_opening`
abbrev pub head_tokens : List ℕ → List (List ℕ)
head_tokens w = bytes "(" ∷ w ∷ bytes "=" ∷ (bytes "_" ++ w) ∷ bytes ")" ∷ bytes "->" ∷ []

abbrev pub middle_tokens : List ℕ → List (List ℕ)
middle_tokens w = bytes ")" ∷ bytes ";" ∷ w ∷ bytes ":" ∷ bytes "GX" ∷ bytes "(" ∷ w ∷ bytes "=" ∷ (bytes "_" ++ w) ∷ bytes "->" ∷ bytes "~" ∷ bytes "(" ∷ []

-- the spellings of `turned_opening greater` and `falling_opening`
abbrev pub rise_tokens : List ℕ → List (List ℕ)
rise_tokens w = bytes ":" ∷ bytes "GX" ∷ bytes "(" ∷ w ∷ bytes ">" ∷ (bytes "_" ++ w) ∷ bytes "->" ∷ []

abbrev pub fall_tokens : List ℕ → List (List ℕ)
fall_tokens w = bytes ")" ∷ bytes ";" ∷ w ∷ bytes "-" ∷ bytes ":" ∷ bytes "GX" ∷ bytes "(" ∷ w ∷ bytes "<" ∷ (bytes "_" ++ w) ∷ bytes "->" ∷ []

-- a kind with one spelling is not the end
fixed_end : (k : Kind) → is_fixed k ≡ true → k ≡ ending → ⊥
unfolding is_fixed kind_number
fixed_end k f e = let z : false ≡ true = subst (λ (x : Kind). is_fixed x ≡ true) e f in let y : ◌≡◌ {A = ℕ} 0 1 = cc in omega arith

pub previous_end : previous ≡ ending → ⊥
unfolding kind_number
previous_end e = let y : kind_number previous ≡ kind_number ending = ap kind_number e in omega arith

-- a previous value is `_` and the name behind it
pub previous_name_lem : (text : List ℕ) (a : ℕ) (k : Kind) (s n : ℕ) → a ≤ length text → (k ≡ ending → ⊥) → token_at text a ≡ token k s n → k ≡ previous → (part text s n ≡ bytes "_" ++ part text (s + 1) n) × SpellsName (part text (s + 1) n)
previous_name_lem text a k s n h ne et q =
    let mv = token_at_moved text a k s n h et in
    let c = part_cons text s n (mv.3 ne) mv.2 in
    let sp : Spelling previous (part text s n) = subst (λ (x : Kind). Spelling x (part text s n)) q (token_spelled text a k s n h (mv.3 ne) et) in
    let d : get_or text s 0 ≡ 95 = heads (sym c ∙ sp.is_cons) in
    let t : part text (s + 1) n ≡ sp.rest = tails (sym c ∙ sp.is_cons) in
    (c ∙ ap (λ (x : ℕ). x ∷ part text (s + 1) n) d, rw t sp.is_name)

module _ (v : View) (text : List ℕ) where
  -- ---- from what is read to tokens

  pub fixed_stands : (w : Kind) → is_fixed w ≡ true → (a : ℕ) (k : Kind) (s n : ℕ) → a ≤ length text → token_at text a ≡ token k s n → is k w ≡ true → Stands v.see text a n (spelling_of w)
  fixed_stands w f a k s n h et e =
      let q : k ≡ w = same_kind k w e in
      let ne : k ≡ ending → ⊥ = λ z. fixed_end w f (sym q ∙ z) in
      subst (Stands v.see text a n) ((fixed_spelling w f (v.see (part text s n))).0 (subst (λ (x : Kind). Spelling x (v.see (part text s n))) q (stands_spelled v text a k s n h ne et))) (stands v text a k s n h ne et)

  -- the names that a phrase wants are what is seen of those that are the same
  abbrev pub SeenAll : List Wanted → Type 0
  SeenAll [] = Unit {0}
  SeenAll (sign k ∷ ws) = SeenAll ws
  SeenAll (own w ∷ ws) = Seen v w × SeenAll ws
  SeenAll (own_previous w ∷ ws) = Seen v w × SeenAll ws

  own_stands : (w : List ℕ) → Seen v w → (a : ℕ) (k : Kind) (s n : ℕ) → a ≤ length text → token_at text a ≡ token k s n → is_wanted text (own w) k s n ≡ true → Stands v.see text a n w
  unfolding kind_number
  own_stands w seen a k s n h et e =
      let b = both_true (is k name) (same_name w (part text s n)) e in
      let q : k ≡ name = same_kind k name b.0 in
      let ne : k ≡ ending → ⊥ = λ z. let y : kind_number name ≡ kind_number ending = ap kind_number (sym q ∙ z) in omega arith in
      let sp : Spelling name (part text s n) = subst (λ (x : Kind). Spelling x (part text s n)) q (token_spelled text a k s n h ((token_at_moved text a k s n h et).3 ne) et) in
      subst (Stands v.see text a n) (seen (part text s n) sp b.1) (stands v text a k s n h ne et)

  previous_stands : (w : List ℕ) → Seen v w → (a : ℕ) (k : Kind) (s n : ℕ) → a ≤ length text → token_at text a ≡ token k s n → is_wanted text (own_previous w) k s n ≡ true → Stands v.see text a n (bytes "_" ++ w)
  unfolding kind_number
  previous_stands w seen a k s n h et e =
      let b = both_true (is k previous) (same_name w (part text (s + 1) n)) e in
      let q : k ≡ previous = same_kind k previous b.0 in
      let ne : k ≡ ending → ⊥ = λ z. let y : kind_number previous ≡ kind_number ending = ap kind_number (sym q ∙ z) in omega arith in
      let r = previous_name_lem text a k s n h ne et q in
      subst (Stands v.see text a n) (ap (λ (x : List ℕ). v.see x) r.0 ∙ (v.behind (part text (s + 1) n) r.1 ∙ ap (λ (x : List ℕ). bytes "_" ++ x) (seen (part text (s + 1) n) r.1 b.1))) (stands v text a k s n h ne et)

  -- a token that is wanted
  pub wanted_stands : (w : Wanted) (ws : List Wanted) → signs (w ∷ ws) ≡ true → SeenAll (w ∷ ws) → (a : ℕ) (k : Kind) (s n : ℕ) → a ≤ length text → token_at text a ≡ token k s n → is_wanted text w k s n ≡ true → Stands v.see text a n (wanted_token w)
  unfolding signs
  wanted_stands (sign x) ws f o a k s n h et t = fixed_stands x (and_both (is_fixed x) (signs ws) f).0 a k s n h et t
  wanted_stands (own x) ws f o a k s n h et t = own_stands x o.0 a k s n h et t
  wanted_stands (own_previous x) ws f o a k s n h et t = previous_stands x o.0 a k s n h et t

  expected_stands : (w : Wanted) (ws : List Wanted) → signs (w ∷ ws) ≡ true → SeenAll (w ∷ ws) → (a : ℕ) (u : Unit {0}) (n : ℕ) → a ≤ length text → expected text w a ≡ accepted u n → Stands v.see text a n (wanted_token w)
  unfolding expected
  expected_stands w ws f o a u n h e = read (token_at text a) refl e
    where
      read : (r : TokenRead) → token_at text a ≡ r → on_token r (λ k s n. cond (is_wanted text w k s n) (accepted tt n) (refused 2 s)) ≡ accepted u n → Stands v.see text a n (wanted_token w)
      read (fault p) et q = never 1 p n u q
      read (token k s m) et q = test (is_wanted text w k s m) refl q
        where
          test : (t : Bool) → is_wanted text w k s m ≡ t → cond t (accepted tt m) (refused 2 s) ≡ accepted u n → Stands v.see text a n (wanted_token w)
          test true t z = let i : m ≡ n = cc in subst (λ (x : ℕ). Stands v.see text a x (wanted_token w)) i (wanted_stands w ws f o a k s m h et t)
          test false t z = never 2 s n u z

  pub signs_more : (w : Wanted) (ws : List Wanted) → signs (w ∷ ws) ≡ true → signs ws ≡ true
  unfolding signs
  signs_more (sign x) ws f = (and_both (is_fixed x) (signs ws) f).1
  signs_more (own x) ws f = f
  signs_more (own_previous x) ws f = f

  pub seen_more : (w : Wanted) (ws : List Wanted) → SeenAll (w ∷ ws) → SeenAll ws
  seen_more (sign x) ws o = o
  seen_more (own x) ws o = o.1
  seen_more (own_previous x) ws o = o.1

  -- a phrase that is accepted is spelled by the tokens that it wants
  pub phrase_spells : (ws : List Wanted) → signs ws ≡ true → SeenAll ws → (a : ℕ) (u : Unit {0}) (n : ℕ) → a ≤ length text → phrase text ws a ≡ accepted u n → Spells v.see text a n (wanted_tokens ws)
  unfolding phrase
  phrase_spells [] f o a u n h e = let i : a ≡ n = cc in i
  phrase_spells (w ∷ ws) f o a u n h e = first (expected text w a) refl (λ m i q. phrase_spells ws (signs_more w ws f) (seen_more w ws o) m u n i q) e
    where
      first : (p : Parsed (Unit {0})) → expected text w a ≡ p → ((m : ℕ) → m ≤ length text → phrase text ws m ≡ accepted u n → Spells v.see text m n (wanted_tokens ws)) → and_then p (λ u n. phrase text ws n) ≡ accepted u n → Spells v.see text a n (wanted_tokens (w ∷ ws))
      first (accepted x m) ep more q =
          let st = expected_stands w ws f o a x m h ep in
          (m, st, more m (stands_in v text a m (wanted_token w) h st).1 q)
      first (refused k q) ep more z = never k q n u z

  -- ---- from tokens to what is read

  -- the names that a phrase wants are names
  abbrev pub Owns : List Wanted → Type 0
  Owns [] = Unit {0}
  Owns (sign k ∷ ws) = Owns ws
  Owns (own w ∷ ws) = IsName w × Owns ws
  Owns (own_previous w ∷ ws) = IsName w × Owns ws

  pub fixed_at : (k : Kind) → is_fixed k ≡ true → (a n : ℕ) → a ≤ length text → (st : Stands v.see text a n (spelling_of k)) → token_at text a ≡ token k st.start n
  fixed_at k f a n h st = at_kind v text k (spelling_of k) ((fixed_spelling k f (spelling_of k)).1 refl) a n h st

  pub name_at_lem : (w : List ℕ) → IsName w → (a n : ℕ) → a ≤ length text → (st : Stands v.see text a n w) → token_at text a ≡ token name st.start n
  name_at_lem w nm a n h st = at_kind v text name w (record { is_word = nm.is_word; no_word = nm.no_word }) a n h st

  is_itself : (k : Kind) → is k k ≡ true
  unfolding is
  is_itself k = eq-eqb (kind_number k) (kind_number k) refl

  pub expected_reads : (w : Wanted) (ws : List Wanted) → signs (w ∷ ws) ≡ true → Owns (w ∷ ws) → (a n : ℕ) → a ≤ length text → Stands v.see text a n (wanted_token w) → expected text w a ≡ accepted tt n
  unfolding expected signs is kind_number
  expected_reads (sign k) ws f o a n h st = rw (fixed_at k (and_both (is_fixed k) (signs ws) f).0 a n h st, is_itself k)
  expected_reads (own w) ws f o a n h st =
      let u = stands_raw v text name w (record { is_word = o.0.is_word; no_word = o.0.no_word }) a n h st in
      rw (name_at_lem w o.0 a n h st, v.alike (part text st.start n) w u st.spelled)
  expected_reads (own_previous w) ws f o a n h st =
      let at = at_kind v text previous (bytes "_" ++ w) (record { rest = w; is_cons = refl; is_name = record { is_word = o.0.is_word; no_word = o.0.no_word } }) a n h st in
      let r = previous_name_lem text a previous st.start n h previous_end at refl in
      rw (at, v.alike (part text (st.start + 1) n) w r.1 (tails (sym (v.behind (part text (st.start + 1) n) r.1) ∙ (ap (λ (x : List ℕ). v.see x) (sym r.0) ∙ st.spelled))))

  pub owns_more : (w : Wanted) (ws : List Wanted) → Owns (w ∷ ws) → Owns ws
  owns_more (sign k) ws o = o
  owns_more (own w) ws o = o.1
  owns_more (own_previous w) ws o = o.1

  -- tokens that a phrase wants are read as it
  pub phrase_reads : (ws : List Wanted) → signs ws ≡ true → Owns ws → (a n : ℕ) → a ≤ length text → Spells v.see text a n (wanted_tokens ws) → phrase text ws a ≡ accepted tt n
  unfolding phrase
  phrase_reads [] f o a n h g = ap (λ (x : ℕ). accepted (tt {0}) x) g
  phrase_reads (w ∷ ws) f o a n h g =
      let mv = stands_in v text a g.0 (wanted_token w) h g.1 in
      rw (expected_reads w ws f o a g.0 h g.1) (phrase_reads ws (signs_more w ws f) (owns_more w ws o) g.0 n mv.1 g.2)

  -- what is followed by a phrase
  pub followed_reads : {A : Type 0} (ws : List Wanted) → signs ws ≡ true → Owns ws → (x : A) (a n : ℕ) → a ≤ length text → Spells v.see text a n (wanted_tokens ws) → followed text ws x a ≡ accepted x n
  unfolding followed
  followed_reads ws f o x a n h g = rw (phrase_reads ws f o a n h g)
