-- Tokens as the rule forms know them: they keep their kind and length, and the same tokens are seen as one. Assumes nothing.
use mathlib.Core.Path.{◌≡◌, refl, ap, sym, ◌∙◌, subst}
use mathlib.Core.List.{List, [], ◌∷◌, ◌++◌}
use mathlib.Core.Bool.{Bool, true, false, cond}
use mathlib.Core.Option.{some}
use Prim.Native.Nat.{ℕ, zero, suc, ◌+◌}
use native.Mathlib.Omega.{arith}
use lib.ListN.{length, get_elem?}
use Rattle.lexer.specs.Bytes.{bytes, same_bytes, capital, capitals}
use Rattle.lexer.specs.Token.{Kind, kind_number, unknown, ending, name, previous, digits, input_word, var_word, init_word, mod_word, next_word, dots, arrow, less_equal, greater_equal, not_equal, semicolon, colon, open_round, close_round, open_square, close_square, tilde, ampersand, bar, equals, less, greater, plus, minus, star, slash, other_case, watch_word, always_word, after_word, timer_word, of_word, limit_word, is}
use Rattle.lexer.specs.Lexer.{is_digit, same_name, grammar_word, same_spelling}
use Rattle.lexer.specs.Names.{id_from, id_of}
use Rattle.lexer.specs.Spelling.{AllBytes, IsDigits, SpellsName, IsPrevious, Spelling}
use Rattle.lexer.proofs.Laws.{cond_prop}
use Rattle.lexer.proofs.Capitals.{length_capitals, capitals_twice, word_capitals, digits_capitals}
use Rattle.lexer.proofs.Same.{same_kind, same_bytes_lem, bytes_itself, same_name_lem, names_same, same_word}
use Rattle.lexer.proofs.Spellings.{word_not, not_word, word_some}
use Rattle.lexer.proofs.Table.{id_same}
use Rattle.grammar.specs.Derivation.{normal, normals, IsName}
use Rattle.grammar.specs.Inner.Names.{Named}
use Rattle.grammar.proofs.Distinct.{place_id}

pub normal_length : (w : List ℕ) → length (normal w) ≡ length w
unfolding normal
normal_length w = cond_prop (λ (x : List ℕ). length x ≡ length w) (grammar_word w) _ _ (λ e. refl) (λ e. length_capitals w)

-- what is no word of the grammar is seen in capitals
pub normal_capitals : (w : List ℕ) → grammar_word w ≡ false → normal w ≡ capitals w
unfolding normal
normal_capitals w e = rw e

normal-word : (w : List ℕ) → grammar_word w ≡ true → normal w ≡ w
unfolding normal
normal-word w e = rw e

-- ---- names

pub name-seen : (w : List ℕ) → SpellsName w → normal w ≡ capitals w
name-seen w h = normal_capitals w (word_not w h.no_word)

name_capitals : (w : List ℕ) → SpellsName w → SpellsName (capitals w)
name_capitals w h = record { is_word = word_capitals w h.is_word; no_word = not_word (capitals w) (same_word (capitals w) w (capitals_twice w) ∙ word_not w h.no_word) }

pub name_normal : (w : List ℕ) → SpellsName w → SpellsName (normal w)
name_normal w h = rw (name-seen w h) (name_capitals w h)

-- a normal name is in capitals
pub normal_twice : (w : List ℕ) → SpellsName w → capitals (normal w) ≡ capitals w
normal_twice w h = rw (name-seen w h) (capitals_twice w)

pub is_name_normal : (w : List ℕ) → IsName w → IsName (normal w)
is_name_normal w h =
    let n = name_normal w (record { is_word = h.is_word; no_word = h.no_word }) in
    record { is_word = n.is_word; short = rw (normal_length w) h.short; no_word = n.no_word }

-- ... and behind `_`
underscore_word : (r : List ℕ) → grammar_word (95 ∷ r) ≡ false
unfolding grammar_word same_name capitals capital same_bytes
underscore_word r = refl

underscore-capitals : (r : List ℕ) → capitals (95 ∷ r) ≡ 95 ∷ capitals r
unfolding capitals capital
underscore-capitals r = refl

pub previous-seen : (r : List ℕ) → SpellsName r → normal (bytes "_" ++ r) ≡ bytes "_" ++ normal r
previous-seen r h = normal_capitals (95 ∷ r) (underscore_word r) ∙ (underscore-capitals r ∙ ap (λ (l : List ℕ). 95 ∷ l) (sym (name-seen r h)))

previous_normal : (w : List ℕ) → IsPrevious w → IsPrevious (normal w)
previous_normal w h = record { rest = normal h.rest; is_cons = ap normal h.is_cons ∙ previous-seen h.rest h.is_name; is_name = name_normal h.rest h.is_name }

-- ---- tokens

digits_seen : (w : List ℕ) → IsDigits w → normal w ≡ w
unfolding normal
digits_seen w h = cond_prop (λ (x : List ℕ). x ≡ w) (grammar_word w) _ _ (λ e. refl) (λ e. digits_capitals w (all w h))
  where
    all : (w : List ℕ) → IsDigits w → AllBytes is_digit w
    all [] h = absurd h
    all (b ∷ l) h = h

-- any other token as it stands
pub other_seen : (k : Kind) (w : List ℕ) → is k name ≡ false → is k previous ≡ false → Spelling k w → normal w ≡ w
unfolding normal grammar_word same_name capitals capital same_bytes is kind_number
other_seen unknown w e f h = absurd h
other_seen ending w e f h = absurd h
other_seen name w e f h = let z : ◌≡◌ {A = ℕ} 0 1 = cc in absurd (omega arith)
other_seen previous w e f h = let z : ◌≡◌ {A = ℕ} 0 1 = cc in absurd (omega arith)
other_seen digits w e f h = digits_seen w h
other_seen input_word w e f h = rw h
other_seen var_word w e f h = rw h
other_seen init_word w e f h = rw h
other_seen mod_word w e f h = rw h
other_seen next_word w e f h = rw h
other_seen dots w e f h = rw h
other_seen arrow w e f h = rw h
other_seen less_equal w e f h = rw h
other_seen greater_equal w e f h = rw h
other_seen not_equal w e f h = rw h
other_seen semicolon w e f h = rw h
other_seen colon w e f h = rw h
other_seen open_round w e f h = rw h
other_seen close_round w e f h = rw h
other_seen open_square w e f h = rw h
other_seen close_square w e f h = rw h
other_seen tilde w e f h = rw h
other_seen ampersand w e f h = rw h
other_seen bar w e f h = rw h
other_seen equals w e f h = rw h
other_seen less w e f h = rw h
other_seen greater w e f h = rw h
other_seen plus w e f h = rw h
other_seen minus w e f h = rw h
other_seen star w e f h = rw h
other_seen slash w e f h = rw h
other_seen other_case w e f h = normal-word w (word_some w h.some_word)
other_seen watch_word w e f h = rw h
other_seen always_word w e f h = rw h
other_seen after_word w e f h = rw h
other_seen timer_word w e f h = rw h
other_seen of_word w e f h = rw h
other_seen limit_word w e f h = rw h

module _ (k : Kind) where
  -- a kind is a name's, a previous value's, or another
  by_kind : (P : Type 0) → (k ≡ name → P) → (k ≡ previous → P) → (is k name ≡ false → is k previous ≡ false → P) → P
  by_kind P f g h = go (is k name) refl (is k previous) refl
    where
      go : (t : Bool) → is k name ≡ t → (u : Bool) → is k previous ≡ u → P
      go true t u v = f (same_kind k name t)
      go false t true v = g (same_kind k previous v)
      go false t false v = h t v

  -- tokens keep their kind
  pub normal_spelled : (w : List ℕ) → Spelling k w → Spelling k (normal w)
  normal_spelled w h =
      by_kind (Spelling k (normal w)) (λ e. subst (λ (j : Kind). Spelling j (normal w)) (sym e) (name_normal w (subst (λ (j : Kind). Spelling j w) e h)))
      (λ e. subst (λ (j : Kind). Spelling j (normal w)) (sym e) (previous_normal w (subst (λ (j : Kind). Spelling j w) e h)))
      (λ e f. rw (other_seen k w e f h) h)

  -- names, behind `_` or not, are no words of the grammar
  named_kind : (w : List ℕ) → Spelling k w → (k ≡ name) → grammar_word w ≡ false
  named_kind w h e = word_not w (subst (λ (j : Kind). Spelling j w) e h).no_word

  previous_kind : (w : List ℕ) → Spelling k w → (k ≡ previous) → grammar_word w ≡ false
  previous_kind w h e = let p = subst (λ (j : Kind). Spelling j w) e h in ap grammar_word p.is_cons ∙ underscore_word p.rest

  -- tokens that are the same are seen as one, and the other way round
  pub same_seen : (a b : List ℕ) → Spelling k a → Spelling k b → same_spelling k a b ≡ true → normal a ≡ normal b
  unfolding same_spelling
  same_seen a b ha hb e = go (is k name) refl (is k previous) refl e
    where
      go : (t : Bool) → is k name ≡ t → (u : Bool) → is k previous ≡ u → cond t (same_name a b) (cond u (same_name a b) (same_bytes a b)) ≡ true → normal a ≡ normal b
      go true t u v q = let i = same_kind k name t in normal_capitals a (named_kind a ha i) ∙ (same_name_lem a b q ∙ sym (normal_capitals b (named_kind b hb i)))
      go false t true v q = let i = same_kind k previous v in normal_capitals a (previous_kind a ha i) ∙ (same_name_lem a b q ∙ sym (normal_capitals b (previous_kind b hb i)))
      go false t false v q = ap normal (same_bytes_lem a b q)

  pub seen_same : (a b : List ℕ) → Spelling k a → Spelling k b → normal a ≡ normal b → same_spelling k a b ≡ true
  unfolding same_spelling
  seen_same a b ha hb e = go (is k name) refl (is k previous) refl
    where
      go : (t : Bool) → is k name ≡ t → (u : Bool) → is k previous ≡ u → cond t (same_name a b) (cond u (same_name a b) (same_bytes a b)) ≡ true
      go true t u v = let i = same_kind k name t in names_same a b (sym (normal_capitals a (named_kind a ha i)) ∙ (e ∙ normal_capitals b (named_kind b hb i)))
      go false t true v = let i = same_kind k previous v in names_same a b (sym (normal_capitals a (previous_kind a ha i)) ∙ (e ∙ normal_capitals b (previous_kind b hb i)))
      go false t false v = let q : a ≡ b = sym (other_seen k a t v ha) ∙ (e ∙ other_seen k b t v hb) in rw q (bytes_itself b)

-- ---- the table of names

id_from_names : (l : List (List ℕ)) (w : List ℕ) (i j : ℕ) → grammar_word w ≡ false → id_from l w i ≡ some j → (d : ℕ) × (j ≡ i + d) × (get_elem? (normals l) d ≡ some (normal w))
unfolding id_from
id_from_names [] w i j n e = let z : ◌≡◌ {A = ℕ} 0 1 = cc in absurd (omega arith)
id_from_names (x ∷ l) w i j n e = go (same_name w x) refl (λ h. id_from_names l w (i + 1) j n h) e
  where
    go : (t : Bool) → same_name w x ≡ t → (id_from l w (i + 1) ≡ some j → (d : ℕ) × (j ≡ i + 1 + d) × (get_elem? (normals l) d ≡ some (normal w))) → cond t (some i) (id_from l w (i + 1)) ≡ some j → (d : ℕ) × (j ≡ i + d) × (get_elem? (normals (x ∷ l)) d ≡ some (normal w))
    go true t f h =
        let q : i ≡ j = cc in
        let c = same_name_lem w x t in
        let no : grammar_word x ≡ false = sym (same_word w x c) ∙ n in
        (0, omega arith, ap some (normal_capitals x no ∙ (sym c ∙ sym (normal_capitals w n))))
    go false t f h = let r = f h in (suc r.0, omega (arith, r.1), r.2)

-- the id of a name is its place among the names
pub id_names : (names : List (List ℕ)) (w : List ℕ) (i : ℕ) → grammar_word w ≡ false → id_of names w ≡ some i → get_elem? (normals names) i ≡ some (normal w)
unfolding id_of
id_names names w i n e = let r = id_from_names names w 0 i n e in let q : r.0 ≡ i = omega (arith, r.1) in subst (λ (d : ℕ). get_elem? (normals names) d ≡ some (normal w)) q r.2

id_from_word : (l : List (List ℕ)) (w : List ℕ) (i j : ℕ) → ((d : ℕ) (x : List ℕ) → get_elem? l d ≡ some x → IsName x) → id_from l w i ≡ some j → grammar_word w ≡ false
unfolding id_from
id_from_word [] w i j g e = let z : ◌≡◌ {A = ℕ} 0 1 = cc in absurd (omega arith)
id_from_word (x ∷ l) w i j g e = go (same_name w x) refl (λ h. id_from_word l w (i + 1) j (λ d y q. g (suc d) y q) h) e
  where
    go : (t : Bool) → same_name w x ≡ t → (id_from l w (i + 1) ≡ some j → grammar_word w ≡ false) → cond t (some i) (id_from l w (i + 1)) ≡ some j → grammar_word w ≡ false
    go true t f h = same_word w x (same_name_lem w x t) ∙ word_not x (g 0 x refl).no_word
    go false t f h = f h

-- what has an id is no word of the grammar
pub id_word : (names : List (List ℕ)) → Named names → (w : List ℕ) (i : ℕ) → id_of names w ≡ some i → grammar_word w ≡ false
unfolding id_of
id_word names good w i e = id_from_word names w 0 i good.each e

-- a name of the list is seen from one that is declared
pub record SeenAt (names : List (List ℕ)) (i : ℕ) (w : List ℕ) : Type 0 where
  pub spelling : List ℕ
  pub at_place : get_elem? names i ≡ some spelling
  pub is_seen : normal spelling ≡ w

pub declared : (names : List (List ℕ)) (i : ℕ) (w : List ℕ) → get_elem? (normals names) i ≡ some w → SeenAt names i w
declared [] i w e = let z : ◌≡◌ {A = ℕ} 0 1 = cc in absurd (omega arith)
declared (x ∷ l) zero w e = record { spelling = x; at_place = refl; is_seen = cc }
declared (x ∷ l) (suc i) w e = let r = declared l i w e in record { spelling = r.spelling; at_place = r.at_place; is_seen = r.is_seen }

module _ (names : List (List ℕ)) (good : Named names) (i : ℕ) (w : List ℕ) (e : get_elem? (normals names) i ≡ some w) where
  pub each_normal : IsName w
  each_normal = let d = declared names i w e in subst IsName d.is_seen (is_name_normal d.spelling (good.each i d.spelling d.at_place))

  -- the place of a name is its id
  pub seen_id : (u : List ℕ) → SpellsName u → normal u ≡ w → id_of names u ≡ some i
  seen_id u n q =
      let d = declared names i w e in
      let m = good.each i d.spelling d.at_place in
      let c : capitals u ≡ capitals d.spelling = sym (name-seen u n) ∙ (q ∙ (sym d.is_seen ∙ name-seen d.spelling (record { is_word = m.is_word; no_word = m.no_word }))) in
      id_same names u d.spelling c ∙ place_id names i d.spelling good.distinct d.at_place
