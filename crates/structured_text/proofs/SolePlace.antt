-- The place of 21 is determined: tokens from the front of a text stand in one way only. Assumes nothing.
use Prim.Native.Nat.{ℕ}
use native.Mathlib.Omega.{arith}
use mathlib.Core.Path.{◌≡◌, refl, sym, ap, ◌∙◌, subst}
use mathlib.Core.Bool.{true, not, false≢true}
use mathlib.Core.List.{List, [], ◌∷◌, ◌++◌}
use mathlib.Core.Logic.{◌⊎◌, inl, inr}
use lib.ListN.{length}
use Rattle.arith.proofs.Basics.{and_both}
use Rattle.lexer.specs.Bytes.{bytes, part}
use Rattle.lexer.specs.Token.{Kind, name, timer_word, TokenRead, token}
use Rattle.lexer.specs.Spelling.{Separated, TokenFrom}
use Rattle.grammar.specs.Derivation.{as_written, Stands, Spells}
use Rattle.grammar.proofs.Standing.{is_read}
use Rattle.grammar.proofs.Bytes.{heads, tails}
use Rattle.st_program.specs.Written.{is_st_word, none_st_word}
use Rattle.structured_text.specs.Place.{DeclaredIn, none, a_declared, another, FirstReserved, NoneTimer, FirstTimer, FirstOutside, a_name, a_timer}

-- ---- lists

never_empty : {x : List ℕ} {l : List (List ℕ)} → x ∷ l ≡ [] → ⊥
never_empty e = let n = ap {A = List (List ℕ)} length e in omega arith

-- ---- a reserved name among the names

not_both : (w v : List ℕ) → is_st_word w ≡ true → not (is_st_word v) ≡ true → w ≡ v → ⊥
not_both w v e f q = false≢true (sym (ap not (ap is_st_word (sym q) ∙ e)) ∙ f)

-- the first reserved one has the same before it
first_one : (es fs : List (List ℕ)) (w v : List ℕ) (ls ms : List (List ℕ)) → es ++ w ∷ ls ≡ fs ++ v ∷ ms → none_st_word es ≡ true → none_st_word fs ≡ true → is_st_word w ≡ true → is_st_word v ≡ true → es ≡ fs
first_one [] [] w v ls ms q e f g h = refl
first_one [] (y ∷ fs) w v ls ms q e f g h = absurd (not_both w y g (and_both (not (is_st_word y)) (none_st_word fs) f).0 (heads q))
first_one (x ∷ es) [] w v ls ms q e f g h = absurd (not_both v x h (and_both (not (is_st_word x)) (none_st_word es) e).0 (sym (heads q)))
first_one (x ∷ es) (y ∷ fs) w v ls ms q e f g h =
    let a = first_one es fs w v ls ms (tails q) (and_both (not (is_st_word x)) (none_st_word es) e).1 (and_both (not (is_st_word y)) (none_st_word fs) f).1 g h in
    let b : x ≡ y = heads q in
    cc

some_reserved : (es : List (List ℕ)) (w : List ℕ) (ls : List (List ℕ)) → is_st_word w ≡ true → none_st_word (es ++ w ∷ ls) ≡ true → ⊥
some_reserved [] w ls e f = not_both w w e (and_both (not (is_st_word w)) (none_st_word ls) f).0 refl
some_reserved (x ∷ es) w ls e f = some_reserved es w ls e (and_both (not (is_st_word x)) (none_st_word (es ++ w ∷ ls)) f).1

-- ---- tokens

module _ (text : List ℕ) where
  record Same (a n m : ℕ) (w v : List ℕ) (st : Stands as_written text a n w) (su : Stands as_written text a m v) : Type 0 where
    start : st.start ≡ su.start
    end : n ≡ m
    word : w ≡ v

  -- one token stands first from a place on
  same : (a n m : ℕ) (w v : List ℕ) (st : Stands as_written text a n w) (su : Stands as_written text a m v) → Same a n m w v st su
  same a n m w v st su =
      let q : ◌≡◌ {A = TokenRead} (token st.kind st.start n) (token su.kind su.start m) = sym (is_read st) ∙ is_read su in
      let s : st.start ≡ su.start = cc in
      let e : n ≡ m = cc in
      let b : part text st.start n ≡ part text su.start m = rw (s, e) in
      record { start = s; end = e; word = sym st.spelled ∙ b ∙ su.spelled }

  abbrev Declaring : List ℕ → Type 0
  Declaring k = (k ≡ bytes "input") ⊎ (k ≡ bytes "var")

  other : (k t : List ℕ) → Declaring k → (t ≡ bytes "input" → ⊥) → (t ≡ bytes "var" → ⊥) → k ≡ t → ⊥
  other k t (inl e) i v q = i (sym q ∙ e)
  other k t (inr e) i v q = v (sym q ∙ e)

  -- the place behind the word that declares the next name, by the names declared before
  same_behind : {ts us ws vs : List (List ℕ)} → DeclaredIn ts ws → DeclaredIn us vs → ws ≡ vs → (k l : List ℕ) → Declaring k → Declaring l → (a b c : ℕ) → Spells as_written text a b (ts ++ k ∷ []) → Spells as_written text a c (us ++ l ∷ []) → b ≡ c
  same_behind none none q k l dk dl a b c g h = sym g.2 ∙ (same a g.0 h.0 k l g.1 h.1).end ∙ h.2
  same_behind none (a_declared j w us vs o d) q k l dk dl a b c g h = absurd (never_empty (sym q))
  same_behind none (another t us vs i v d) q k l dk dl a b c g h = absurd (other k t dk i v (same a g.0 h.0 k t g.1 h.1).word)
  same_behind (a_declared j w ts ws o d) none q k l dk dl a b c g h = absurd (never_empty q)
  same_behind (a_declared j w ts ws o d) (a_declared i x us vs p e) q k l dk dl a b c g h =
      let s = (same a g.0 h.0 j i g.1 h.1).end in
      let g2 = subst (λ (n : ℕ). Spells as_written text n b (w ∷ (ts ++ k ∷ []))) s g.2 in
      let r = (same h.0 g2.0 h.2.0 w x g2.1 h.2.1).end in
      same_behind d e (tails q) k l dk dl h.2.0 b c (subst (λ (n : ℕ). Spells as_written text n b (ts ++ k ∷ [])) r g2.2) h.2.2
  same_behind (a_declared j w ts ws o d) (another t us vs i v e) q k l dk dl a b c g h = absurd (other j t o i v (same a g.0 h.0 j t g.1 h.1).word)
  same_behind (another t ts ws i v d) none q k l dk dl a b c g h = absurd (other l t dl i v (sym (same a g.0 h.0 t l g.1 h.1).word))
  same_behind (another t ts ws i v d) (a_declared j w us vs o e) q k l dk dl a b c g h = absurd (other j t o i v (sym (same a g.0 h.0 t j g.1 h.1).word))
  same_behind (another t ts ws i v d) (another u us vs m n e) q k l dk dl a b c g h =
      let s = (same a g.0 h.0 t u g.1 h.1).end in
      same_behind d e q k l dk dl h.0 b c (subst (λ (n : ℕ). Spells as_written text n b (ts ++ k ∷ [])) s g.2) h.2

  -- a token that stands at a place
  abbrev token_stands : (k : Kind) (a place end : ℕ) → Separated text a place → TokenFrom text place end k → Stands as_written text a end (part text place end)
  token_stands k a place end s t = record { kind = k; start = place; separated = s; is_token = t; spelled = refl }

  same_name_place : (names : List (List ℕ)) (p q : ℕ) → FirstReserved text names p → FirstReserved text names q → p ≡ q
  same_name_place names p q r s =
      let e = first_one r.earlier s.earlier r.word s.word r.later s.later (sym r.in_order ∙ s.in_order) r.none_earlier s.none_earlier r.reserved s.reserved in
      let b = same_behind r.declare_earlier s.declare_earlier e r.declares s.declares r.is_declaring s.is_declaring 0 r.behind s.behind r.spells_tokens s.spells_tokens in
      let st = token_stands name s.behind p r.end (subst (λ (n : ℕ). Separated text n p) b r.separated) r.stands in
      (same s.behind r.end s.end _ _ st (token_stands name s.behind q s.end s.separated s.stands)).start

  -- `timer`, where it is none of the tokens before
  same_timer : (ts us : List (List ℕ)) → NoneTimer ts → NoneTimer us → (a b c : ℕ) → Spells as_written text a b ts → Spells as_written text a c us → (p q m n : ℕ) → Separated text b p → TokenFrom text p m timer_word → Separated text c q → TokenFrom text q n timer_word → p ≡ q
  same_timer [] [] h i a b c g k p q m n sp tp sq tq =
      (same a m n _ _ (token_stands timer_word a p m (subst (λ (x : ℕ). Separated text x p) (sym g) sp) tp) (token_stands timer_word a q n (subst (λ (x : ℕ). Separated text x q) (sym k) sq) tq)).start
  same_timer [] (u ∷ us) h i a b c g k p q m n sp tp sq tq =
      absurd (i.0 (sym (same a m k.0 _ u (token_stands timer_word a p m (subst (λ (x : ℕ). Separated text x p) (sym g) sp) tp) k.1).word ∙ tp.spells))
  same_timer (t ∷ ts) [] h i a b c g k p q m n sp tp sq tq =
      absurd (h.0 ((same a g.0 n t _ g.1 (token_stands timer_word a q n (subst (λ (x : ℕ). Separated text x q) (sym k) sq) tq)).word ∙ tq.spells))
  same_timer (t ∷ ts) (u ∷ us) h i a b c g k p q m n sp tp sq tq =
      let s = (same a g.0 k.0 t u g.1 k.1).end in
      same_timer ts us h.1 i.1 k.0 b c (subst (λ (x : ℕ). Spells as_written text x b ts) s g.2) k.2 p q m n sp tp sq tq

  never_timer : (names : List (List ℕ)) (p q : ℕ) → FirstReserved text names p → FirstTimer text names q → ⊥
  never_timer names p q r t = some_reserved r.earlier r.word r.later r.reserved (subst (λ (ws : List (List ℕ)). none_st_word ws ≡ true) r.in_order t.none_reserved)

  -- of two places that are the first, one is the other
  pub sole_outside : (names : List (List ℕ)) (p q : ℕ) → FirstOutside text names p → FirstOutside text names q → p ≡ q
  sole_outside names p q (a_name r) (a_name s) = same_name_place names p q r s
  sole_outside names p q (a_name r) (a_timer t) = absurd (never_timer names p q r t)
  sole_outside names p q (a_timer t) (a_name r) = absurd (never_timer names q p r t)
  sole_outside names p q (a_timer t) (a_timer u) =
      same_timer t.tokens u.tokens t.none_timer u.none_timer 0 t.behind u.behind t.spells_tokens u.spells_tokens p q t.end u.end t.separated t.stands u.separated u.stands
