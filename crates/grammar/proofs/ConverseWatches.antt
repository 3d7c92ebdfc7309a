-- Tokens that spell watches are read as them. Assumes nothing.
use mathlib.Core.Path.{◌≡◌, refl, ap, ap₂, sym, ◌∙◌, subst}
use mathlib.Core.List.{List, [], ◌∷◌, ◌++◌, append_assoc, append-nil}
use mathlib.Core.Bool.{Bool, true, false}
use mathlib.Core.Option.{none, some}
use Prim.Native.Nat.{ℕ, zero, suc, ◌≤◌}
use native.Mathlib.Omega.{arith}
use lib.ListN.{length, replicate, length-map}
use Rattle.limits.specs.Limits.{bracket_limit}
use Rattle.lexer.specs.Bytes.{bytes}
use Rattle.lexer.specs.Token.{Kind, kind_number, close_round, arrow, watch_word, is, token}
use Rattle.lexer.specs.Lexer.{token_at}
use Rattle.lexer.proofs.Laws.{token_at_moved}
use Rattle.lexer.proofs.Spellings.{is_fixed}
use Rattle.semantics.specs.Program.{Condition, Watch, UsableC, free}
use Rattle.grammar.specs.Parsed.{accepted, phrase, followed}
use Rattle.grammar.specs.Expressions.{Scope}
use Rattle.grammar.specs.Conditions.{listed}
use Rattle.grammar.specs.Forms.{formula_closing, function_closing, watch_opening, later_opening}
use Rattle.grammar.specs.Watches.{later_at, after_first, watch_at, watches_from}
use Rattle.grammar.specs.Derivation.{Spells, SpellsC, normal, normals}
use Rattle.grammar.specs.Derivation as D
use Rattle.grammar.specs.Spelled.{SpellsWatch, alone, paired, SpellsWatches}
use Rattle.grammar.specs.Spelled as S
use Rattle.grammar.specs.Inner.Names.{Named}
use Rattle.grammar.proofs.Standing.{split, spells_in, is_read, normally}
use Rattle.grammar.proofs.Phrases.{signs, fixed_at, phrase_reads, followed_reads, wanted_tokens}
use Rattle.grammar.proofs.Converse.{spelled_listed}
use Rattle.grammar.proofs.ConverseCases.{all_usable_c}

-- any current value may be used
free_all : (n : ℕ) → free n ≡ replicate n true
free_all zero = refl
free_all (suc n) = ap (λ (l : List Bool). true ∷ l) (free_all n)

pub free_usable : (names : List (List ℕ)) (ts : List (List ℕ)) (c : Condition) → SpellsC (normals names) D.condition bracket_limit ts c → UsableC (free (length names)) c
free_usable names ts c d = subst (λ (l : List Bool). UsableC l c) (ap (λ (n : ℕ). replicate n true) (length-map names normal) ∙ sym (free_all (length names))) (all_usable_c (normals names) D.condition bracket_limit ts c d)

-- where a watch's word stands, and what is read after it
pub record WatchReads (sc : Scope) (a m : ℕ) (w : Watch) : Type 0 where
  pub start : ℕ
  pub place : ℕ
  pub is_word : token_at sc.text a ≡ token watch_word start place
  pub reads : watch_at sc place ≡ accepted w m

module _ (sc : Scope) (good : Named sc.names) (all : sc.known ≡ free (length sc.names)) where
  usable : (ts : List (List ℕ)) (c : Condition) → SpellsC (normals sc.names) D.condition bracket_limit ts c → UsableC sc.known c
  usable ts c d = subst (λ (l : List Bool). UsableC l c) (sym all) (free_usable sc.names ts c d)

  watch_goes : (w : Watch) (c : Condition) (a n1 n2 m : ℕ) → phrase sc.text watch_opening a ≡ accepted tt n1 → listed sc n1 ≡ accepted c n2 → after_first sc c n2 ≡ accepted w m → watch_at sc a ≡ accepted w m
  unfolding watch_at
  watch_goes w c a n1 n2 m e1 e2 e3 = rw (e1, e2) e3

  -- `);`
  alone_goes : (c : Condition) (a s n m : ℕ) → token_at sc.text a ≡ token close_round s n → followed {A = Watch} sc.text formula_closing (record { first = c; later = none }) a ≡ accepted (record { first = c; later = none }) m → after_first sc c a ≡ accepted (record { first = c; later = none }) m
  unfolding after_first is kind_number
  alone_goes c a s n m e1 e2 = rw e1 e2

  -- `-> X([c]));`
  paired-goes : (w : Watch) (c : Condition) (a s n m : ℕ) → token_at sc.text a ≡ token arrow s n → later_at sc c n ≡ accepted w m → after_first sc c a ≡ accepted w m
  unfolding after_first is kind_number
  paired-goes w c a s n m e1 e2 = rw e1 e2

  later-goes : (c d : Condition) (a n1 n2 m : ℕ) → phrase sc.text later_opening a ≡ accepted tt n1 → listed sc n1 ≡ accepted d n2 → followed {A = Watch} sc.text function_closing (record { first = c; later = some d }) n2 ≡ accepted (record { first = c; later = some d }) m → later_at sc c a ≡ accepted (record { first = c; later = some d }) m
  unfolding later_at
  later-goes c d a n1 n2 m e1 e2 e3 = rw (e1, e2) e3

  watch_reads : (ts : List (List ℕ)) (w : Watch) → SpellsWatch (normals sc.names) ts w → (a m : ℕ) → a ≤ length sc.text → Spells normal sc.text a m ts → WatchReads sc a m w
  unfolding signs is_fixed kind_number
  watch_reads ts w (alone us c d) a m h g =
      let text = sc.text in
      let n = g.0 in
      let i0 = (token_at_moved text a g.1.kind g.1.start n h (is_read g.1)).2 in
      let close = wanted_tokens formula_closing in
      let p = split normally text n m (wanted_tokens watch_opening) ((us ++ bytes "]" ∷ []) ++ close) g.2 in
      let q = split normally text p.place m (us ++ bytes "]" ∷ []) close p.second in
      let i1 = (spells_in normally text n p.place (wanted_tokens watch_opening) i0 p.first).1 in
      let i2 = (spells_in normally text p.place q.place (us ++ bytes "]" ∷ []) i1 q.first).1 in
      record {
        start = g.1.start;
        place = n;
        is_word = fixed_at normally text watch_word refl a n h g.1;
        reads = watch_goes (record { first = c; later = none }) c n p.place q.place m
            (phrase_reads normally text watch_opening refl tt n p.place i0 p.first)
            (spelled_listed sc good us c d (usable us c d) p.place q.place i1 q.first)
            (alone_goes c q.place q.second.1.start q.second.0 m (fixed_at normally text close_round refl q.place q.second.0 i2 q.second.1)
            (followed_reads normally text {A = Watch} formula_closing refl tt (record { first = c; later = none }) q.place m i2 q.second));
      }
  watch_reads ts w (paired us vs c d dc dd) a m h g =
      let text = sc.text in
      let n = g.0 in
      let i0 = (token_at_moved text a g.1.kind g.1.start n h (is_read g.1)).2 in
      let close = wanted_tokens function_closing in
      let later = wanted_tokens later_opening ++ ((vs ++ bytes "]" ∷ []) ++ close) in
      let p = split normally text n m (wanted_tokens watch_opening) ((us ++ bytes "]" ∷ []) ++ bytes "->" ∷ later) g.2 in
      let q = split normally text p.place m (us ++ bytes "]" ∷ []) (bytes "->" ∷ later) p.second in
      let i1 = (spells_in normally text n p.place (wanted_tokens watch_opening) i0 p.first).1 in
      let i2 = (spells_in normally text p.place q.place (us ++ bytes "]" ∷ []) i1 q.first).1 in
      let n3 = q.second.0 in
      let i3 = (token_at_moved text q.place q.second.1.kind q.second.1.start n3 i2 (is_read q.second.1)).2 in
      let r = split normally text n3 m (wanted_tokens later_opening) ((vs ++ bytes "]" ∷ []) ++ close) q.second.2 in
      let t = split normally text r.place m (vs ++ bytes "]" ∷ []) close r.second in
      let i4 = (spells_in normally text n3 r.place (wanted_tokens later_opening) i3 r.first).1 in
      let i5 = (spells_in normally text r.place t.place (vs ++ bytes "]" ∷ []) i4 t.first).1 in
      let x : Watch = record { first = c; later = some d } in
      record {
        start = g.1.start;
        place = n;
        is_word = fixed_at normally text watch_word refl a n h g.1;
        reads = watch_goes x c n p.place q.place m
            (phrase_reads normally text watch_opening refl tt n p.place i0 p.first)
            (spelled_listed sc good us c dc (usable us c dc) p.place q.place i1 q.first)
            (paired-goes x c q.place q.second.1.start n3 m (fixed_at normally text arrow refl q.place n3 i2 q.second.1)
            (later-goes c d n3 r.place t.place m
            (phrase_reads normally text later_opening refl tt n3 r.place i3 r.first)
            (spelled_listed sc good vs d dd (usable vs d dd) r.place t.place i4 t.first)
            (followed_reads normally text function_closing refl tt x t.place m i5 t.second)));
      }

  watches_on : (left a s n m : ℕ) (done : List Watch) (w : Watch) → token_at sc.text a ≡ token watch_word s n → watch_at sc n ≡ accepted w m → watches_from (suc left) sc done a ≡ watches_from left sc (done ++ (w ∷ [])) m
  unfolding watches_from is kind_number
  watches_on left a s n m done w e1 e2 = rw (e1, e2)

  -- up to a token that is no `watch`
  watches_end : (left a : ℕ) (k : Kind) (s n : ℕ) (done : List Watch) → token_at sc.text a ≡ token k s n → is k watch_word ≡ false → watches_from left sc done a ≡ accepted done a
  unfolding watches_from
  watches_end zero a k s n done e1 e2 = rw (e1, e2)
  watches_end (suc left) a k s n done e1 e2 = rw (e1, e2)

  pub watches_read : (left : ℕ) (done : List Watch) (ts : List (List ℕ)) (ws : List Watch) → SpellsWatches (normals sc.names) ts ws → length ws ≤ left → (a n : ℕ) → a ≤ length sc.text → Spells normal sc.text a n ts → (k : Kind) (s m : ℕ) → token_at sc.text n ≡ token k s m → is k watch_word ≡ false → watches_from left sc done a ≡ accepted (done ++ ws) n
  watches_read left done ts ws S.SpellsWatches.none room a n h g k s m et other =
      watches_end left a k s m done (subst (λ (y : ℕ). token_at sc.text y ≡ token k s m) (sym g) et) other
      ∙ ap₂ (λ (y : List Watch) (z : ℕ). accepted y z) (sym (append-nil done)) g
  watches_read zero done ts ws (S.SpellsWatches.more us vs w xs d e) room a n h g k s m et other = absurd (omega arith)
  watches_read (suc left) done ts ws (S.SpellsWatches.more us vs w xs d e) room a n h g k s m et other =
      let p = split normally sc.text a n us vs g in
      let i = (spells_in normally sc.text a p.place us h p.first).1 in
      let x = watch_reads us w d a p.place h p.first in
      watches_on left a x.start x.place p.place done w x.is_word x.reads
      ∙ (watches_read left (done ++ (w ∷ [])) vs xs e (omega arith) p.place n i p.second k s m et other ∙ ap (λ (y : List Watch). accepted y n) (append_assoc done (w ∷ []) xs))
