-- Declarations that are accepted are spelled by the tokens that were read, and their names are new and in limit. Assumes nothing.
use mathlib.Core.Path.{◌≡◌, refl, ap, sym, ◌∙◌, subst}
use mathlib.Core.List.{List, [], ◌∷◌, ◌++◌, append_assoc, append-nil}
use mathlib.Core.Bool.{Bool, true, ◌&&◌}
use mathlib.Core.Option.{none}
use Prim.Native.Nat.{ℕ, zero, suc, ◌-◌, ◌≤◌, ◌<◌}
use native.Mathlib.Omega.{arith}
use lib.ListN.{length}
use lib.Dec.{T, ltb}
use lib.IntN.{ℤ, pos, neg_ℤ}
use lib.Signed.{le_z}
use borrow.Author.Tests.{ltb-true, ltb-false}
use Rattle.limits.specs.Limits.{name_limit}
use Rattle.arith.specs.Values.{is_int32}
use Rattle.arith.proofs.Basics.{and_both, true_T, and_T}
use Rattle.lexer.specs.Bytes.{bytes, part}
use Rattle.lexer.specs.Token.{Kind, kind_number, name, digits, init_word, dots, semicolon, minus, is, token, spelling_of}
use Rattle.lexer.specs.Lexer.{token_at, over_long, value_of}
use Rattle.lexer.specs.Names.{id_of}
use Rattle.lexer.proofs.Laws.{cond_prop, token_at_moved}
use Rattle.semantics.specs.Program.{Name, RangeFits}
use Rattle.grammar.specs.Parsed.{Parsed, accepted, refused, and_then, sign, phrase, followed}
use Rattle.grammar.specs.Declarations.{in_range, signed_digits, bound_at, spellings, new_name, start_at, declaration, declarations_from}
use Rattle.lexer.specs.Spelling.{IsDigits}
use Rattle.grammar.specs.Derivation.{Stands, Spells, IsName, as_written}
use Rattle.grammar.specs.Spelled.{SpellsZ, positive, negative, SpellsStart, absent, given, Declares, declares, DeclareAll, Apart}
use Rattle.grammar.specs.Spelled as S
use Rattle.grammar.proofs.Shape.{NameFits}
use Rattle.grammar.proofs.Combine.{token_prop, then_prop, option_prop, one_sign}
use Rattle.grammar.proofs.Bytes.{part_length}
use Rattle.grammar.proofs.Distinct.{new_apart}
use Rattle.lexer.proofs.Spellings.{is_fixed}
use Rattle.grammar.proofs.Standing.{spells_append, spells_append_left, spells_in, written}
use Rattle.grammar.proofs.Phrases.{signs, fixed_stands, phrase_spells}
use Rattle.grammar.proofs.Derived.{Derives, before, sign_stands, Closed, sign_derives}

module _ (text : List ℕ) where
  -- ---- bounds

  -- in limit, and passing a test
  abbrev Bound : (ℤ → Bool) → ℤ → Type 0
  Bound test z = (is_int32 z ≡ true) × (test z ≡ true)

  signed_derives : (R : List (List ℕ) → ℤ → Type 0) (signed : ℤ → ℤ) → ((w : List ℕ) → IsDigits w → R (w ∷ []) (signed (pos (value_of w)))) → (test : ℤ → Bool) (a : ℕ) (k : Kind) (s n : ℕ) → a ≤ length text → token_at text a ≡ token k s n → Derives written text (λ ts z. R ts z × Bound test z) a (signed_digits test signed text k s n)
  unfolding signed_digits is kind_number
  signed_derives R signed f test a k s n h et =
      let w = part text s n in
      let z = signed (pos (value_of w)) in
      let P : Parsed ℤ → Type 0 = Derives written text (λ ts z. R ts z × Bound test z) a in
      cond_prop P (is k digits) _ _
      (λ e.
      let r = sign_stands written text digits refl a k s n h et e in
      cond_prop P (is_int32 z && test z) _ _ (λ t. record { tokens = w ∷ []; spells = (n, r.0, refl); derives = (f w r.1, and_both (is_int32 z) (test z) t) }) (λ t. tt))
      (λ e. tt)

  abbrev TestedZ : (ℤ → Bool) → List (List ℕ) → ℤ → Type 0
  TestedZ test ts z = SpellsZ ts z × Bound test z

  bound_derives : (test : ℤ → Bool) (a : ℕ) → a ≤ length text → Derives written text (TestedZ test) a (bound_at test text a)
  unfolding bound_at is_fixed kind_number
  bound_derives test a h =
      token_prop (Derives written text (TestedZ test) a) (token_at text a) _ (λ k q. tt)
      (λ k s n et.
      let mv = token_at_moved text a k s n h et in
      cond_prop (Derives written text (TestedZ test) a) (is k minus) _ _
      (λ e.
      let st = fixed_stands written text minus refl a k s n h et e in
      token_prop (Derives written text (TestedZ test) a) (token_at text n) _ (λ k q. tt)
      (λ k2 s2 n2 et2. before written text (λ ts z. TestedZ test (bytes "-" ∷ ts) z) (TestedZ test) (bytes "-") (λ ts z d. d) a n st (signed_digits test neg_ℤ text k2 s2 n2)
      (signed_derives (λ ts z. SpellsZ (bytes "-" ∷ ts) z) neg_ℤ (λ w d. negative w d) test n k2 s2 n2 mv.2 et2)))
      (λ e. signed_derives SpellsZ (λ z. z) (λ w d. positive w d) test a k s n h et))

  -- a start and the `;` after it
  abbrev TestedStart : (ℤ → Bool) → List (List ℕ) → ℤ → Type 0
  TestedStart test ts z = SpellsStart ts z × Bound test z

  initial : (test : ℤ → Bool) (ts : List (List ℕ)) (z : ℤ) → Closed written text (TestedZ test) (bytes ";") ts z → Closed written text (TestedStart test) (bytes ";") (bytes "init" ∷ ts) z
  initial test ts z c = record { inner = bytes "init" ∷ c.inner; is_closed = ap (λ (l : List (List ℕ)). bytes "init" ∷ l) c.is_closed; derives = (given c.inner z c.derives.0, c.derives.1) }

  start_derives : (low high : ℤ) (a : ℕ) → a ≤ length text → Derives written text (Closed written text (TestedStart (in_range low high)) (bytes ";")) a (start_at text low high a)
  unfolding start_at is_fixed is kind_number
  start_derives low high a h =
      token_prop (Derives written text (Closed written text (TestedStart (in_range low high)) (bytes ";")) a) (token_at text a) _ (λ k q. tt)
      (λ k s n et.
      let mv = token_at_moved text a k s n h et in
      cond_prop (Derives written text (Closed written text (TestedStart (in_range low high)) (bytes ";")) a) (is k init_word) _ _
      (λ e.
      before written text (Closed written text (TestedZ (in_range low high)) (bytes ";")) (Closed written text (TestedStart (in_range low high)) (bytes ";")) (bytes "init") (initial (in_range low high)) a n (fixed_stands written text init_word refl a k s n h et e) (and_then (bound_at (in_range low high) text n) (λ z m. followed text (sign semicolon ∷ []) z m))
      (then_prop (Derives written text (Closed written text (TestedZ (in_range low high)) (bytes ";")) n) (bound_at (in_range low high) text n) (λ z m. followed text (sign semicolon ∷ []) z m) (λ k q. tt)
      (λ z m ez.
      let d = subst (Derives written text (TestedZ (in_range low high)) n) ez (bound_derives (in_range low high) n mv.2) in
      rw (one_sign text semicolon z m) (sign_derives written text (TestedZ (in_range low high)) semicolon (bytes ";") (λ x q. q) refl n z m (spells_in written text n m d.tokens mv.2 d.spells).1 d))))
      (λ n1. cond_prop (Derives written text (Closed written text (TestedStart (in_range low high)) (bytes ";")) a) (is k semicolon) _ _
      (λ e. cond_prop (Derives written text (Closed written text (TestedStart (in_range low high)) (bytes ";")) a) (in_range low high (pos 0)) _ _
      (λ t. record { tokens = bytes ";" ∷ []; spells = (n, fixed_stands written text semicolon refl a k s n h et e, refl); derives = record { inner = []; is_closed = refl; derives = (absent, (refl, t)) } })
      (λ t. tt))
      (λ n2. tt)))

  -- ---- a declaration

  -- a new name, and room for it
  pub record Fresh (names : List Name) (w : List ℕ) : Type 0 where
    pub is_name : IsName w
    pub apart : Apart w (spellings names)
    pub room : length names < 64

  -- its token
  pub name_derives : (names : List Name) (a : ℕ) → a ≤ length text → Derives written text (λ ts w. (ts ≡ w ∷ []) × Fresh names w) a (new_name text names a)
  unfolding new_name over_long is kind_number
  name_derives names a h =
      token_prop P (token_at text a) _ (λ k q. tt)
      (λ k s n et.
      let mv = token_at_moved text a k s n h et in
      let lw : length (part text s n) ≡ n - s = part_length text s n mv.1 mv.2 in
      cond_prop P (is k name) _ _
      (λ e. option_prop P (id_of (spellings names) (part text s n)) _ _
      (λ z. cond_prop P (ltb 16 (n - s)) _ _ (λ t. tt)
      (λ t. cond_prop P (ltb (length names) name_limit) _ _
      (λ t2.
      let r = sign_stands written text name refl a k s n h et e in
      let fresh : Fresh names (part text s n) = record {
        is_name = record { is_word = r.1.is_word; short = omega (arith, ltb-false 16 (n - s) t); no_word = r.1.no_word };
        apart = new_apart (spellings names) (part text s n) z;
        room = ltb-true (length names) 64 t2;
      } in
      record { tokens = part text s n ∷ []; spells = (n, r.0, refl); derives = (refl, fresh) })
      (λ t2. tt)))
      (λ i ei. tt))
      (λ e. tt))
    where
      P : Parsed (List ℕ) → Type 0
      P p = Derives written text (λ ts w. (ts ≡ w ∷ []) × Fresh names w) a p

  pub record Declared (names : List Name) (x : Name) : Type 0 where
    pub fits : NameFits x
    pub apart : Apart x.spelling (spellings names)
    pub room : length names < 64

  -- bounds and start in limit, in order
  range_fits : (low high start : ℤ) → Bound (λ z. true) low → Bound (le_z low) high → Bound (in_range low high) start → RangeFits (record { low = low; high = high; start = start })
  unfolding in_range
  range_fits low high start l h s =
      let b = and_both (le_z low start) (le_z start high) s.1 in (
        true_T (is_int32 low) l.0,
        both-T (is_int32 high) (le_z low high) h.0 h.1,
        and_T (is_int32 start && le_z low start) (le_z start high) (both-T (is_int32 start) (le_z low start) s.0 b.0) (true_T (le_z start high) b.1),
      )
    where
      both-T : (x y : Bool) → x ≡ true → y ≡ true → T (x && y)
      both-T x y e f = and_T x y (true_T x e) (true_T y f)

  -- the rest of a declaration after its word
  abbrev pub AfterWord : List ℕ → List Name → List (List ℕ) → Name → Type 0
  AfterWord word names ts x = Declares word (word ∷ ts) x × Declared names x

  pub declaration_derives : (word : List ℕ) (names : List Name) (a : ℕ) → a ≤ length text → Derives written text (AfterWord word names) a (declaration text names a)
  unfolding declaration signs is_fixed kind_number
  declaration_derives word names a h =
      then_prop (Derives written text (AfterWord word names) a) (new_name text names a) _ (λ k q. tt)
      (λ w n1 e1.
      let d1 = subst (Derives written text (λ ts w. (ts ≡ w ∷ []) × Fresh names w) a) e1 (name_derives names a h) in
      let s1 : Spells as_written text a n1 (w ∷ []) = subst (Spells as_written text a n1) d1.derives.0 d1.spells in
      let i1 = (spells_in written text a n1 (w ∷ []) h s1).1 in
      then_prop (Derives written text (AfterWord word names) a) (bound_at (λ z. true) text n1) _ (λ k q. tt)
      (λ low n2 e2.
      let d2 = subst (Derives written text (TestedZ (λ z. true)) n1) e2 (bound_derives (λ z. true) n1 i1) in
      let i2 = (spells_in written text n1 n2 d2.tokens i1 d2.spells).1 in
      then_prop (Derives written text (AfterWord word names) a) (phrase text (sign dots ∷ []) n2) _ (λ k q. tt)
      (λ u n3 e3.
      let s3 = phrase_spells written text (sign dots ∷ []) refl tt n2 u n3 i2 e3 in
      let i3 = (spells_in written text n2 n3 (bytes ".." ∷ []) i2 s3).1 in
      then_prop (Derives written text (AfterWord word names) a) (bound_at (le_z low) text n3) _ (λ k q. tt)
      (λ high n4 e4.
      let d4 = subst (Derives written text (TestedZ (le_z low)) n3) e4 (bound_derives (le_z low) n3 i3) in
      let i4 = (spells_in written text n3 n4 d4.tokens i3 d4.spells).1 in
      then_prop (Derives written text (AfterWord word names) a) (start_at text low high n4) _ (λ k q. tt)
      (λ start n5 e5.
      let d5 = subst (Derives written text (Closed written text (TestedStart (in_range low high)) (bytes ";")) n4) e5 (start_derives low high n4 i4) in
      let c = d5.derives in
      let fresh = d1.derives.1 in
      let fits = range_fits low high start d2.derives.1 d4.derives.1 c.derives.1 in
      let s5 : Spells as_written text n4 n5 (c.inner ++ bytes ";" ∷ []) = subst (Spells as_written text n4 n5) c.is_closed d5.spells in
      let s12 = spells_append written text a n1 n2 (w ∷ []) d2.tokens s1 d2.spells in
      let s34 = spells_append written text n2 n3 n4 (bytes ".." ∷ []) d4.tokens s3 d4.spells in
      let s14 = spells_append written text a n2 n4 (w ∷ d2.tokens) (bytes ".." ∷ d4.tokens) s12 s34 in
      record {
        tokens = w ∷ d2.tokens ++ bytes ".." ∷ d4.tokens ++ c.inner ++ bytes ";" ∷ [];
        spells = spells_append_left written text a n4 n5 (w ∷ d2.tokens ++ bytes ".." ∷ d4.tokens) c.inner (bytes ";" ∷ []) s14 s5;
        derives = (
          declares w d2.tokens d4.tokens c.inner (record { low = low; high = high; start = start }) fresh.is_name d2.derives.0 d4.derives.0 c.derives.0 fits,
          record { fits = record { is_name = fresh.is_name; range_fits = fits }; apart = fresh.apart; room = fresh.room },
        );
      })))))

  -- ---- all declarations that begin with a word

  pub record DeclaredFrom (word : List ℕ) (names : List Name) (a n : ℕ) (l : List Name) : Type 0 where
    pub more : List Name
    pub is_more : l ≡ names ++ more
    pub tokens : List (List ℕ)
    pub spells : Spells as_written text a n tokens
    pub derives : DeclareAll word tokens more

  abbrev pub DeclaresFrom : List ℕ → List Name → ℕ → Parsed (List Name) → Type 0
  DeclaresFrom word names a (accepted l n) = DeclaredFrom word names a n l
  DeclaresFrom word names a (refused k q) = Unit {0}

  stop_here : (word : List ℕ) (names : List Name) (a : ℕ) → DeclaredFrom word names a a names
  stop_here word names a = record { more = []; is_more = sym (append-nil names); tokens = []; spells = refl; derives = S.DeclareAll.none }

  pub declarations_derive : (f : ℕ) (word : Kind) → is_fixed word ≡ true → (names : List Name) (a : ℕ) → a ≤ length text → DeclaresFrom (spelling_of word) names a (declarations_from f word text names a)
  unfolding declarations_from
  declarations_derive zero word fx names a h = stop_here (spelling_of word) names a
  declarations_derive (suc f) word fx names a h =
      token_prop (DeclaresFrom (spelling_of word) names a) (token_at text a) _ (λ k q. tt)
      (λ k s n et.
      let mv = token_at_moved text a k s n h et in
      cond_prop (DeclaresFrom (spelling_of word) names a) (is k word) _ _
      (λ e. then_prop (DeclaresFrom (spelling_of word) names a) (declaration text names n) _ (λ k q. tt)
      (λ x m ex.
      let d = subst (Derives written text (AfterWord (spelling_of word) names) n) ex (declaration_derives (spelling_of word) names n mv.2) in
      after x n m (fixed_stands written text word fx a k s n h et e) d.tokens d.spells d.derives.0
      (declarations_from f word text (names ++ (x ∷ [])) m) (declarations_derive f word fx (names ++ (x ∷ [])) m (spells_in written text n m d.tokens mv.2 d.spells).1)))
      (λ e. stop_here (spelling_of word) names a))
    where
      after : (x : Name) (n m : ℕ) → Stands as_written text a n (spelling_of word) → (ts : List (List ℕ)) → Spells as_written text n m ts → Declares (spelling_of word) (spelling_of word ∷ ts) x → (p : Parsed (List Name)) → DeclaresFrom (spelling_of word) (names ++ (x ∷ [])) m p → DeclaresFrom (spelling_of word) names a p
      after x n m st ts sp d (accepted l i) r =
          record {
            more = x ∷ r.more;
            is_more = r.is_more ∙ append_assoc names (x ∷ []) r.more;
            tokens = (spelling_of word ∷ ts) ++ r.tokens;
            spells = spells_append written text a m i (spelling_of word ∷ ts) r.tokens (n, st, sp) r.spells;
            derives = S.DeclareAll.more (spelling_of word ∷ ts) r.tokens x r.more d r.derives;
          }
      after x n m st ts sp d (refused k q) r = tt
