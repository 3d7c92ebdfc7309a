-- A part of a text whose bytes stand once more, up to its `]`: so do its tokens, and the comparison agrees. Assumes nothing.
use mathlib.Core.Path.{◌≡◌, ap, sym, ◌∙◌, subst}
use mathlib.Core.List.{List, [], ◌∷◌}
use Prim.Native.Nat.{ℕ, ◌+◌, ◌-◌, ◌≤◌, ◌<◌}
use native.Mathlib.Omega.{arith}
use lib.ListN.{length, get_or, take, drop}
use Rattle.lexer.specs.Bytes.{part}
use Rattle.lexer.specs.Lexer.{is_space, run_end}
use Rattle.lexer.proofs.Laws.{run_from, run_within, token_at_moved, token_past_space}
use Rattle.lexer.proofs.Repeated.{moved, behind, part_twice, token_twice}
use Rattle.grammar.specs.Rules.{agrees, part_from}
use Rattle.grammar.specs.Derivation.{Stands, Spells, normal}
use Rattle.grammar.specs.Inner.Names.{TokensIn}
use Rattle.grammar.proofs.Standing.{stands_in, spells_in, is_read, stands_read, normally}
use Rattle.grammar.proofs.Listed.{spells_part}

module _ (text : List ℕ) where
  -- the space before tokens may be left out, and put back
  past_space : (at n : ℕ) (t : List ℕ) → Stands normal text at n t → Stands normal text (run_end is_space text at) n t
  past_space at n t st =
      let sep = st.separated in
      let i : at ≤ length text = omega (arith, sep.ordered, sep.within) in
      stands_read normally text (run_end is_space text at) st.kind st.start n (run_within is_space text at i) st.is_token.some_bytes (token_past_space text at ∙ is_read st) t st.spelled

  with_space : (at n : ℕ) (t : List ℕ) → Stands normal text (run_end is_space text at) n t → Stands normal text at n t
  with_space at n t st =
      let sep = st.separated in
      stands_read normally text at st.kind st.start n (omega (arith, run_from is_space text at, sep.ordered, sep.within)) st.is_token.some_bytes (sym (token_past_space text at) ∙ is_read st) t st.spelled

  module _ (f g last : ℕ) (in_f : f + last < length text) (in_g : g + last < length text) (same : take (last + 1) (drop f text) ≡ take (last + 1) (drop g text)) (closed : get_or text (f + last) 0 ≡ 93) where
    abbrev there : ℕ → ℕ
    there n = behind text f g last in_f in_g same closed n

    stands_twice : (t : List ℕ) (i n : ℕ) → i ≤ last → n ≤ f + last + 1 → Stands normal text (f + i) n t → Stands normal text (g + i) (there n) t
    stands_twice t i n h m st =
        let mv = token_at_moved text (f + i) st.kind st.start n (omega arith) (is_read st) in
        let es : f + (st.start - f) ≡ st.start = omega (arith, mv.0) in
        let en : f + (n - f) ≡ n = omega (arith, mv.0) in
        stands_read normally text (g + i) st.kind (there st.start) (there n) (omega arith) (omega (arith, mv.0))
        (token_twice text f g last in_f in_g same closed i h ∙ ap (moved text f g last in_f in_g same closed) (is_read st)) t
        (ap normal (part_twice text f g last in_f in_g same closed (st.start - f) (n - f) (omega arith) (omega arith)) ∙ rw (es, en) st.spelled)

    spells_twice : (ts : List (List ℕ)) (i : ℕ) → i ≤ last + 1 → Spells normal text (f + i) (f + last + 1) ts → Spells normal text (g + i) (g + last + 1) ts
    spells_twice [] i h e = omega (arith, e)
    spells_twice (t ∷ ts) i h e =
        let n = e.0 in
        let in1 = stands_in normally text (f + i) n t (omega arith) e.1 in
        let in2 = spells_in normally text n (f + last + 1) ts in1.1 e.2 in
        let en : f + (n - f) ≡ n = omega (arith, in1.0) in
        (there n, stands_twice t i n (omega (arith, in1.0, in2.0)) in2.0 e.1, spells_twice ts (n - f) (omega (arith, in2.0)) (rw en e.2))

    -- the same with space before either
    spells_again : (from at : ℕ) → f ≡ run_end is_space text from → g ≡ run_end is_space text at → (t : List ℕ) (ts : List (List ℕ)) → Spells normal text from (f + last + 1) (t ∷ ts) → Spells normal text at (g + last + 1) (t ∷ ts)
    spells_again from at ef eg t ts e =
        let zf : run_end is_space text from ≡ f + 0 = omega arith in
        let zg : g + 0 ≡ run_end is_space text at = omega arith in
        let r = spells_twice (t ∷ ts) 0 (omega arith) (e.0, subst (λ (x : ℕ). Stands normal text x e.0 t) zf (past_space from e.0 t e.1), e.2) in
        (r.0, with_space at r.0 t (subst (λ (x : ℕ). Stands normal text x r.0 t) zg r.1), r.2)

  -- the part from `from` up to `to`, whose first token begins at f, stands once more at `at`, there from g on
  module _ (from to at f g : ℕ) (ef : f ≡ run_end is_space text from) (eg : g ≡ run_end is_space text at) (lf : f < to) (lt : to ≤ length text) (lg : g + (to - f) ≤ length text) where
    again : (last : ℕ) → to - f ≡ last + 1 → get_or text (to - 1) 0 ≡ 93 → part text f to ≡ part text g (g + (to - f)) → (t : List ℕ) (ts : List (List ℕ)) → Spells normal text from to (t ∷ ts) → Spells normal text at (g + (to - f)) (t ∷ ts)
    again last size closed same t ts e =
        let end-f : to ≡ f + last + 1 = omega arith in
        let end-g : g + last + 1 ≡ g + (to - f) = omega arith in
        let at_last : to - 1 ≡ f + last = omega arith in
        let size-g : g + (to - f) - g ≡ last + 1 = omega arith in
        let bytes : take (last + 1) (drop f text) ≡ take (last + 1) (drop g text) = ap (λ (x : ℕ). take x (drop f text)) (sym size) ∙ same ∙ ap (λ (x : ℕ). take x (drop g text)) size-g in
        let byte : get_or text (f + last) 0 ≡ 93 = subst (λ (x : ℕ). get_or text x 0 ≡ 93) at_last closed in
        subst (λ (x : ℕ). Spells normal text at x (t ∷ ts)) end-g
        (spells_again f g last (omega arith) (omega arith) bytes byte from at ef eg t ts (subst (λ (x : ℕ). Spells normal text from x (t ∷ ts)) end-f e))

    pub part_repeated : TokensIn text from to → get_or text (to - 1) 0 ≡ 93 → part text f to ≡ part text g (g + (to - f)) → part_from (length text) text from to at ≡ agrees (g + (to - f))
    part_repeated r closed same = agree r.tokens r.spells
      where
        agree : (ts : List (List ℕ)) → Spells normal text from to ts → part_from (length text) text from to at ≡ agrees (g + (to - f))
        agree [] e = absurd (omega (arith, e, run_from is_space text from))
        agree (t ∷ ts) e = spells_part text (t ∷ ts) (length text) from to at (g + (to - f)) r.within (omega (arith, run_from is_space text at)) (omega arith) e (again (to - f - 1) (omega arith) closed same t ts e)
