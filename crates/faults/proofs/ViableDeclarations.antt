-- What stands before a token refused by 2 begins a form of fixed tokens, or declarations. Assumes nothing.
use mathlib.Core.Path.{◌≡◌, refl, ap, sym, ◌∙◌, subst}
use mathlib.Core.List.{List, [], ◌∷◌, ◌++◌, append_assoc}
use mathlib.Core.Bool.{Bool, true, ◌&&◌}
use mathlib.Core.Option.{none}
use Prim.Native.Nat.{ℕ, zero, suc, ◌≤◌}
use native.Mathlib.Omega.{arith}
use lib.ListN.{length}
use lib.Dec.{ltb}
use lib.IntN.{ℤ, pos, neg_ℤ}
use Rattle.limits.specs.Limits.{name_limit}
use Rattle.arith.specs.Values.{is_int32}
use Rattle.lexer.specs.Bytes.{bytes, part, same_bytes, capital, capitals}
use Rattle.lexer.specs.Token.{Kind, kind_number, name, digits, minus, dots, init_word, semicolon, is, token, spelling_of}
use Rattle.lexer.specs.Lexer.{is_digit, is_letter, same_name, grammar_word, word_of, token_at, over_long, value_of}
use Rattle.lexer.specs.Names.{id_of}
use Rattle.lexer.proofs.Laws.{token_at_moved}
use Rattle.semantics.specs.Program.{Name}
use Rattle.grammar.specs.Parsed.{Parsed, accepted, and_then, Wanted, sign, is_wanted, expected, phrase, followed}
use Rattle.grammar.specs.Declarations.{in_range, signed_digits, bound_at, spellings, new_name, start_at, declaration, declarations_from}
use Rattle.lexer.specs.Spelling.{IsDigits, SpellsName}
use Rattle.grammar.specs.Derivation.{Tokens, normal}
use Rattle.grammar.specs.Spelled.{SpellsZ, positive, negative, absent, given}
use Rattle.lexer.proofs.Spellings.{is_fixed, name_word}
use Rattle.grammar.proofs.Phrases.{fixed_stands, wanted_stands, signs_more, wanted_token, wanted_tokens, signs, SeenAll, seen_more}
use Rattle.grammar.proofs.Derived.{sign_stands}
use Rattle.grammar.proofs.Standing.{normally}
use Rattle.faults.specs.Grammar as G
use Rattle.faults.specs.Grammar.{IsDeclaration, AreDeclarations}
use Rattle.faults.proofs.Languages.{Joins, These, OneOf, Bound, Start, High, Dots, Low, Declared}
use Rattle.faults.proofs.Viable.{Viable, by_other, refused_here, one_token, wider, with_value, behind, then_viable, cond_viable, option_viable, token_viable}

pub cat_viable : {A B : Type 0} {L M : Tokens → Type 0} {text : List ℕ} {at : ℕ} {p : Parsed A} {f : A → ℕ → Parsed B} → at ≤ length text → (z : Tokens) → M z → Viable L text at p → ((a : A) (n : ℕ) → n ≤ length text → Viable M text n (f a n)) → Viable (Joins L M) text at (and_then p f)
cat_viable h z w x g = then_viable h (λ ts us l m. (ts, us, refl, l, m)) z w x g

pub nothing_more : {A : Type 0} {L : Tokens → Type 0} {text : List ℕ} {at : ℕ} (a : A) → L [] → Viable L text at (accepted a at)
nothing_more a h = record { shown = record { tokens = []; spells = refl; is_in = h } }

module _ (text : List ℕ) where
  -- ---- fixed tokens

  expected_viable : (w : Wanted) (ws : List Wanted) → signs (w ∷ ws) ≡ true → SeenAll normally text (w ∷ ws) → (at : ℕ) → at ≤ length text → Viable (These (wanted_token w ∷ [])) text at (expected text w at)
  unfolding expected
  expected_viable w ws f o at h = token_viable text at (λ k s n e. cond_viable (is_wanted text w k s n) (λ t. one_token tt (wanted_stands normally text w ws f o at k s n h e t) refl) (λ t. refused_here (wanted_token w ∷ []) refl e))

  pub phrase_viable : (ws : List Wanted) → signs ws ≡ true → SeenAll normally text ws → (at : ℕ) → at ≤ length text → Viable (These (wanted_tokens ws)) text at (phrase text ws at)
  unfolding phrase signs
  phrase_viable [] f o at h = nothing_more tt refl
  phrase_viable (w ∷ ws) f o at h =
      then_viable h (λ ts us l m. ap (λ (x : Tokens). x ++ us) l ∙ ap (λ (x : Tokens). wanted_token w ∷ x) m) (wanted_tokens ws) refl (expected_viable w ws f o at h) (λ u n i. phrase_viable ws (signs_more normally text w ws f) (seen_more normally text w ws o) n i)

  pub followed_by_lem : {A : Type 0} (ws : List Wanted) → signs ws ≡ true → SeenAll normally text ws → (x : A) (at : ℕ) → at ≤ length text → Viable (These (wanted_tokens ws)) text at (followed text ws x at)
  unfolding followed
  followed_by_lem ws f o x at h = with_value (λ u. x) (phrase_viable ws f o at h)

  -- ---- declarations

  pub zero_digits : (OneOf IsDigits) (bytes "0" ∷ [])
  unfolding is_digit
  zero_digits = (bytes "0", refl, (refl, tt))

  zero_bound : Bound (bytes "0" ∷ [])
  unfolding is_digit
  zero_bound = (pos (value_of (bytes "0")), positive (bytes "0") (refl, tt))

  pub a_name : (OneOf SpellsName) (bytes "a" ∷ [])
  unfolding is_letter word_of grammar_word same_name capitals capital same_bytes
  a_name = (bytes "a", refl, record { is_word = (refl, tt); no_word = name_word (bytes "a") refl })

  signed_viable : (test : ℤ → Bool) (signed : ℤ → ℤ) (at : ℕ) (k : Kind) (s n : ℕ) → at ≤ length text → token_at text at ≡ token k s n → Viable (OneOf IsDigits) text at (signed_digits test signed text k s n)
  unfolding signed_digits is kind_number
  signed_viable test signed at k s n h e =
      let z = signed (pos (value_of (part text s n))) in
      cond_viable (is k digits)
      (λ t.
      let r = sign_stands normally text digits refl at k s n h e t in
      cond_viable (is_int32 z && test z) (λ x. one_token z r.0 (normal (part text s n), refl, r.1)) (λ x. by_other 3 (λ q. omega (arith, q))))
      (λ t. refused_here (bytes "0" ∷ []) zero_digits e)

  bound_viable : (test : ℤ → Bool) (at : ℕ) → at ≤ length text → Viable Bound text at (bound_at test text at)
  unfolding bound_at is_fixed kind_number
  bound_viable test at h =
      token_viable text at
      (λ k s n e. cond_viable (is k minus)
      (λ t.
      let i = (token_at_moved text at k s n h e).2 in
      behind (bytes "-" ∷ []) (n, fixed_stands normally text minus refl at k s n h e t, refl) (λ us g. (neg_ℤ (pos (value_of g.0)), subst (λ (x : Tokens). SpellsZ (bytes "-" ∷ x) (neg_ℤ (pos (value_of g.0)))) (sym g.1) (negative g.0 g.2)))
      (token_viable text n (λ k2 s2 n2 e2. signed_viable test neg_ℤ n k2 s2 n2 i e2)))
      (λ t. wider (λ us g. (pos (value_of g.0), subst (λ (x : Tokens). SpellsZ x (pos (value_of g.0))) (sym g.1) (positive g.0 g.2))) (signed_viable test (λ z. z) at k s n h e)))

  pub name_viable : (names : List Name) (at : ℕ) → at ≤ length text → Viable (OneOf SpellsName) text at (new_name text names at)
  unfolding new_name is kind_number
  name_viable names at h =
      token_viable text at
      (λ k s n e. cond_viable (is k name)
      (λ t.
      let r = sign_stands normally text name refl at k s n h e t in
      option_viable (id_of (spellings names) (part text s n))
      (λ z. cond_viable (over_long s n) (λ x. by_other 8 (λ q. omega (arith, q))) (λ x. cond_viable (ltb (length names) name_limit) (λ y. one_token _ r.0 (normal (part text s n), refl, r.1)) (λ y. by_other 8 (λ q. omega (arith, q)))))
      (λ i z. by_other 4 (λ q. omega (arith, q))))
      (λ t. refused_here (bytes "a" ∷ []) a_name e))

  start_viable : (low high : ℤ) (at : ℕ) → at ≤ length text → Viable Start text at (start_at text low high at)
  unfolding start_at is_fixed kind_number signs
  start_viable low high at h =
      token_viable text at
      (λ k s n e. cond_viable (is k init_word)
      (λ t.
      let i = (token_at_moved text at k s n h e).2 in
      behind (bytes "init" ∷ []) (n, fixed_stands normally text init_word refl at k s n h e t, refl)
      (λ us g. (bytes "init" ∷ g.0, g.3.0, ap (λ (x : Tokens). bytes "init" ∷ x) (g.2 ∙ ap (λ (x : Tokens). g.0 ++ x) g.4), given g.0 g.3.0 g.3.1))
      (cat_viable i (bytes ";" ∷ []) refl (bound_viable (in_range low high) n i) (λ z m j. followed_by_lem (sign semicolon ∷ []) refl tt z m j)))
      (λ t1. cond_viable (is k semicolon)
      (λ t. cond_viable (in_range low high (pos 0)) (λ x. one_token _ (fixed_stands normally text semicolon refl at k s n h e t) ([], pos 0, refl, absent)) (λ x. by_other 3 (λ q. omega (arith, q))))
      (λ t2. refused_here (bytes ";" ∷ []) ([], pos 0, refl, absent) e)))

  no_start : Start (bytes ";" ∷ [])
  no_start = ([], pos 0, refl, absent)

  some_high : High (bytes "0" ∷ bytes ";" ∷ [])
  some_high = (bytes "0" ∷ [], bytes ";" ∷ [], refl, zero_bound, no_start)

  some_dots : Dots (bytes ".." ∷ bytes "0" ∷ bytes ";" ∷ [])
  some_dots = (bytes ".." ∷ [], bytes "0" ∷ bytes ";" ∷ [], refl, refl, some_high)

  some_low : Low (bytes "0" ∷ bytes ".." ∷ bytes "0" ∷ bytes ";" ∷ [])
  some_low = (bytes "0" ∷ [], bytes ".." ∷ bytes "0" ∷ bytes ";" ∷ [], refl, zero_bound, some_dots)

  declaration_viable : (names : List Name) (at : ℕ) → at ≤ length text → Viable Declared text at (declaration text names at)
  unfolding declaration signs is_fixed kind_number
  declaration_viable names at h =
      cat_viable h _ some_low (name_viable names at h)
      (λ w n1 h1. cat_viable h1 _ some_dots (bound_viable _ n1 h1)
      (λ low n2 h2. cat_viable h2 _ some_high (phrase_viable (sign dots ∷ []) refl tt n2 h2)
      (λ u n3 h3. cat_viable h3 _ no_start (bound_viable _ n3 h3) (λ high n4 h4. with_value _ (start_viable low high n4 h4)))))

  declares_in : (word : List ℕ) (us : Tokens) → Declared us → IsDeclaration word (word ∷ us)
  declares_in word us (ts, vs, q, (w, q1, nw), (ls, vs2, q2, (l, sl), (ds, vs3, q3, q4, (hs, vs4, q5, (h, sh), (ss, z, q6, sz))))) = subst (IsDeclaration word) (rw (q, q1, q2, q3, q4, q5, q6) (simp append_assoc)) (G.IsDeclaration.declares w ls hs ss l h z nw sl sh sz)

  pub declarations_viable : (f : ℕ) (word : Kind) → is_fixed word ≡ true → (names : List Name) (at : ℕ) → at ≤ length text → Viable (AreDeclarations (spelling_of word)) text at (declarations_from f word text names at)
  unfolding declarations_from
  declarations_viable zero word fx names at h = nothing_more names G.AreDeclarations.none
  declarations_viable (suc f) word fx names at h =
      token_viable text at
      (λ k s n e. cond_viable (is k word)
      (λ t.
      let i = (token_at_moved text at k s n h e).2 in
      behind {M = λ us. AreDeclarations (spelling_of word) (spelling_of word ∷ us)} (spelling_of word ∷ []) (n, fixed_stands normally text word fx at k s n h e t, refl) (λ us g. g)
      (then_viable {L = Declared} {M = AreDeclarations (spelling_of word)} i (λ ts us x y. G.AreDeclarations.more (spelling_of word ∷ ts) us (declares_in (spelling_of word) ts x) y) [] G.AreDeclarations.none (declaration_viable names n i)
      (λ x m j. declarations_viable f word fx (names ++ (x ∷ [])) m j)))
      (λ t. nothing_more names G.AreDeclarations.none))
