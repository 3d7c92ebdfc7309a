-- The left spine of an operand: the brackets that are still to be opened, the left operand that is still to be printed, and what was printed
-- behind it. Assumes nothing.
use Prim.Native.Nat.{ℕ, zero, suc, ◌+◌, ◌^◌, ◌≤◌, ◌<◌}
use native.Mathlib.Omega.{arith}
use mathlib.Core.Path.{◌≡◌, refl, sym, ap, subst, ◌∙◌}
use mathlib.Core.Bool.{true, false, true≢false}
use mathlib.Core.List.{List, ◌∷◌, ◌++◌}
use lib.ListN.{length, get_or, drop}
use Rattle.arith.specs.Values.{equal, not_equal, less, less_equal, greater, greater_equal, add, subtract, multiply, divide, modulo}
use Rattle.lexer.specs.Bytes.{bytes}
use Rattle.leb128.specs.Numbers.{number, zigzag}
use Rattle.bytecode.proofs.RoundTrip.{begins}
use Rattle.st.specs.Syntax.{Identifier, or, and, Operator, connects, relates, computes}
use Rattle.st.specs.Printed.{spelling, expression_printed}
use Rattle.st_writer.specs.Inner.Fronts.{openings, sign_bytes, Fronts}
use Rattle.st_writer.specs.Inner.Operands.{Operand, constant, current, previous, minus_of, not_of, joined_by, operator_code, operand_code, SmallOperand, operand_in_st, leaf_printed, is_prefix, prefix_bytes, PrintsLeaf, PrintsOperand}
use Rattle.st_writer.proofs.Laws.{fronts_nothing, fronts_then, as_front}
use Rattle.st_writer.proofs.Numbers.{constant_leaf, current_leaf, previous-leaf}

-- ---- the signs

pub sign_spelled : (o : Operator) (l : List ℕ) → bytes " " ++ (spelling o ++ (bytes " " ++ l)) ≡ sign_bytes (operator_code o) ++ l
unfolding sign_bytes
sign_spelled (connects or) l = refl
sign_spelled (connects and) l = refl
sign_spelled (relates equal) l = refl
sign_spelled (relates not_equal) l = refl
sign_spelled (relates less) l = refl
sign_spelled (relates less_equal) l = refl
sign_spelled (relates greater) l = refl
sign_spelled (relates greater_equal) l = refl
sign_spelled (computes add) l = refl
sign_spelled (computes subtract) l = refl
sign_spelled (computes multiply) l = refl
sign_spelled (computes divide) l = refl
sign_spelled (computes modulo) l = refl

-- no code of an operator is a leaf's or a prefix's
pub record Infix (code : ℕ) : Type 0 where
  pub large : 3 < code
  pub between : is_prefix code ≡ false

infix_code : (o : Operator) → Infix (operator_code o)
unfolding is_prefix
infix_code (connects or) = record { large = omega arith; between = refl }
infix_code (connects and) = record { large = omega arith; between = refl }
infix_code (relates equal) = record { large = omega arith; between = refl }
infix_code (relates not_equal) = record { large = omega arith; between = refl }
infix_code (relates less) = record { large = omega arith; between = refl }
infix_code (relates less_equal) = record { large = omega arith; between = refl }
infix_code (relates greater) = record { large = omega arith; between = refl }
infix_code (relates greater_equal) = record { large = omega arith; between = refl }
infix_code (computes add) = record { large = omega arith; between = refl }
infix_code (computes subtract) = record { large = omega arith; between = refl }
infix_code (computes multiply) = record { large = omega arith; between = refl }
infix_code (computes divide) = record { large = omega arith; between = refl }
infix_code (computes modulo) = record { large = omega arith; between = refl }

-- ---- the spine

openings_shift : (n : ℕ) (l : List ℕ) → openings n (40 ∷ l) ≡ openings (suc n) l
unfolding openings
openings_shift zero l = refl
openings_shift (suc n) l = ap (λ (k : List ℕ). 40 ∷ k) (openings_shift n l)

module _ (names : List Identifier) where
  abbrev print : Operand → List ℕ → List ℕ
  print t l = expression_printed (operand_in_st names t) l

  pub record Spined (t : Operand) (c code : List ℕ) (a : ℕ) (before after : List ℕ) (to place pending : ℕ) : Type 0 where
    pub left : Operand
    pub front : List ℕ → List ℕ
    pub small : SmallOperand left
    pub stands : drop a code ≡ operand_code left c
    pub wrote : Fronts front before after to place
    pub whole : (l : List ℕ) → print t l ≡ openings pending (print left (front l))

  abbrev pub Spine : List ℕ → ℕ → ℕ → List ℕ → List ℕ → ℕ → ℕ → ℕ → Type 0
  Spine code at a before after to place pending =
      (t : Operand) (c : List ℕ) → SmallOperand t → drop at code ≡ operand_code t c → Spined t c code a before after to place pending

  pub spine_starts : (code : List ℕ) (at : ℕ) (m : List ℕ) (to : ℕ) → Spine code at at m m to to 0
  unfolding openings
  spine_starts code at m to t c s e = record { left = t; front = λ l. l; small = s; stands = e; wrote = fronts_nothing m to; whole = λ l. refl }

  -- no operand stands at the end
  pub spine_short : (code : List ℕ) (at a : ℕ) (m₀ m₁ : List ℕ) (to p pending : ℕ) → length code ≤ a → length m₁ ≡ length m₀ → Spine code at a m₀ m₁ to p pending
      → PrintsOperand names code at m₀ m₁ to a p
  unfolding operand_code
  spine_short code at a m₀ m₁ to p pending h k s = record { same = k; found = λ t c g e. absurd (go c (s t c g e).left (s t c g e).stands) } where
    none : (b : ℕ) (l : List ℕ) → drop a code ≡ b ∷ l → ⊥
    none b l e = let i = (begins code a b l e).inside in omega arith

    go : (c : List ℕ) (u : Operand) → drop a code ≡ operand_code u c → ⊥
    go c (constant z) e = none _ _ e
    go c (current i) e = none _ _ e
    go c (previous i) e = none _ _ e
    go c (minus_of x) e = none _ _ e
    go c (not_of x) e = none _ _ e
    go c (joined_by o x y) e = none _ _ e

  -- a leaf ends it
  pub spine_leaf : (code : List ℕ) (at a : ℕ) (m₀ m₁ m₂ m₃ : List ℕ) (to p₁ p₂ p₃ pending next : ℕ) → get_or code a 0 ≤ 3 → length m₁ ≡ length m₀
      → Spine code at a m₀ m₁ to p₁ pending → PrintsLeaf names code (get_or code a 0) (a + 1) m₁ m₂ p₁ next p₂ → Fronts (openings pending) m₂ m₃ p₂ p₃
      → PrintsOperand names code at m₀ m₃ to next p₃
  unfolding operand_code
  spine_leaf code at a m₀ m₁ m₂ m₃ to p₁ p₂ p₃ pending next h k s leaf brackets =
      record { same = brackets.same ∙ leaf.same ∙ k; found = λ t c g e. go t c g e (s t c g e).left refl } where
        printed : (t : Operand) (c : List ℕ) (r : Spined t c code a m₀ m₁ to p₁ pending) (b n : ℕ) → n < 2 ^ 32 → ((l : List ℕ) → print r.left l ≡ leaf_printed names b n l)
            → drop a code ≡ b ∷ (number n ++ c) → (drop next code ≡ c) × Fronts (print t) m₀ m₃ to p₃
        printed t c r b n small like e =
            let x = begins code a b (number n ++ c) e in
            let y = leaf.found n c small x.behind in (
              y.0,
              as_front (λ l. r.whole l ∙ ap (openings pending) (like (r.front l) ∙ ap (λ (k : ℕ). leaf_printed names k n (r.front l)) (sym x.first)))
                  (fronts_then (fronts_then r.wrote y.1) brackets),
            )

        large : (b : ℕ) (l : List ℕ) → 3 < b → drop a code ≡ b ∷ l → ⊥
        large b l i e = let x = (begins code a b l e).first in omega arith

        go : (t : Operand) (c : List ℕ) (g : SmallOperand t) (e : drop at code ≡ operand_code t c) (u : Operand) → (s t c g e).left ≡ u → (drop next code ≡ c) × Fronts (print t) m₀ m₃ to p₃
        go t c g e (constant z) q =
            printed t c (s t c g e) 1 (zigzag z) (subst SmallOperand q (s t c g e).small) (λ l. ap (λ v. print v l) q ∙ constant_leaf names z l) ((s t c g e).stands ∙ ap (λ v. operand_code v c) q)
        go t c g e (current i) q =
            printed t c (s t c g e) 2 i (subst SmallOperand q (s t c g e).small) (λ l. ap (λ v. print v l) q ∙ current_leaf names i l) ((s t c g e).stands ∙ ap (λ v. operand_code v c) q)
        go t c g e (previous i) q =
            printed t c (s t c g e) 3 i (subst SmallOperand q (s t c g e).small) (λ l. ap (λ v. print v l) q ∙ previous-leaf names i l) ((s t c g e).stands ∙ ap (λ v. operand_code v c) q)
        go t c g e (minus_of x) q = absurd (large 9 _ (omega arith) ((s t c g e).stands ∙ ap (λ v. operand_code v c) q))
        go t c g e (not_of x) q = absurd (large 16 _ (omega arith) ((s t c g e).stands ∙ ap (λ v. operand_code v c) q))
        go t c g e (joined_by o x y) q = absurd (large (operator_code o) _ (infix_code o).large ((s t c g e).stands ∙ ap (λ v. operand_code v c) q))

  -- a prefix ends it, its operand printed before
  pub spine_prefix : (code : List ℕ) (at a : ℕ) (m₀ m₁ m₂ m₃ m₄ m₅ : List ℕ) (to p₁ p₂ p₃ p₄ p₅ pending next : ℕ) → 3 < get_or code a 0 → is_prefix (get_or code a 0) ≡ true → length m₁ ≡ length m₀
      → Spine code at a m₀ m₁ to p₁ pending → Fronts (λ l. 41 ∷ l) m₁ m₂ p₁ p₂ → PrintsOperand names code (a + 1) m₂ m₃ p₂ next p₃
      → Fronts (λ l. prefix_bytes (get_or code a 0) ++ l) m₃ m₄ p₃ p₄ → Fronts (openings pending) m₄ m₅ p₄ p₅
      → PrintsOperand names code at m₀ m₅ to next p₅
  unfolding operand_code operand_in_st expression_printed prefix_bytes
  spine_prefix code at a m₀ m₁ m₂ m₃ m₄ m₅ to p₁ p₂ p₃ p₄ p₅ pending next h i k s close right sign brackets =
      record { same = brackets.same ∙ sign.same ∙ right.same ∙ close.same ∙ k; found = λ t c g e. go t c g e (s t c g e).left refl } where
        none : (b : ℕ) (l : List ℕ) → b ≤ 3 → drop a code ≡ b ∷ l → ⊥
        none b l j e = let x = (begins code a b l e).first in omega arith

        printed : (t : Operand) (c : List ℕ) (r : Spined t c code a m₀ m₁ to p₁ pending) (b : ℕ) (u : Operand) → SmallOperand u → drop a code ≡ b ∷ operand_code u c
            → ((l : List ℕ) → print r.left l ≡ prefix_bytes b ++ print u (41 ∷ l)) → (drop next code ≡ c) × Fronts (print t) m₀ m₅ to p₅
        printed t c r b u small e like =
            let x = begins code a b (operand_code u c) e in
            let y = right.found u c small x.behind in (
              y.0,
              as_front (λ l. r.whole l ∙ ap (openings pending) (like (r.front l) ∙ ap (λ (k : ℕ). prefix_bytes k ++ print u (41 ∷ r.front l)) (sym x.first)))
                  (fronts_then (fronts_then (fronts_then (fronts_then r.wrote close) y.1) sign) brackets),
            )

        go : (t : Operand) (c : List ℕ) (g : SmallOperand t) (e : drop at code ≡ operand_code t c) (u : Operand) → (s t c g e).left ≡ u → (drop next code ≡ c) × Fronts (print t) m₀ m₅ to p₅
        go t c g e (constant z) q = absurd (none 1 _ (omega arith) ((s t c g e).stands ∙ ap (λ v. operand_code v c) q))
        go t c g e (current j) q = absurd (none 2 _ (omega arith) ((s t c g e).stands ∙ ap (λ v. operand_code v c) q))
        go t c g e (previous j) q = absurd (none 3 _ (omega arith) ((s t c g e).stands ∙ ap (λ v. operand_code v c) q))
        go t c g e (minus_of x) q =
            printed t c (s t c g e) 9 x (subst SmallOperand q (s t c g e).small) ((s t c g e).stands ∙ ap (λ v. operand_code v c) q) (λ l. ap (λ v. print v l) q)
        go t c g e (not_of x) q =
            printed t c (s t c g e) 16 x (subst SmallOperand q (s t c g e).small) ((s t c g e).stands ∙ ap (λ v. operand_code v c) q) (λ l. ap (λ v. print v l) q)
        go t c g e (joined_by o x y) q =
            let b = (begins code a (operator_code o) _ ((s t c g e).stands ∙ ap (λ v. operand_code v c) q)).first in
            absurd (true≢false (sym i ∙ ap is_prefix b ∙ (infix_code o).between))

  -- the right operand is printed: the spine goes on with the left one
  pub spine_goes : (code : List ℕ) (at a : ℕ) (m₀ m₁ m₂ m₃ m₄ : List ℕ) (to p₁ p₂ p₃ p₄ pending next : ℕ) → 3 < get_or code a 0 → is_prefix (get_or code a 0) ≡ false
      → Spine code at a m₀ m₁ to p₁ pending → Fronts (λ l. 41 ∷ l) m₁ m₂ p₁ p₂ → PrintsOperand names code (a + 1) m₂ m₃ p₂ next p₃
      → Fronts (λ l. sign_bytes (get_or code a 0) ++ l) m₃ m₄ p₃ p₄ → Spine code at next m₀ m₄ to p₄ (pending + 1)
  unfolding operand_code operand_in_st expression_printed is_prefix
  spine_goes code at a m₀ m₁ m₂ m₃ m₄ to p₁ p₂ p₃ p₄ pending next h i s close right sign t c g e = go (s t c g e).left refl where
    none : (b : ℕ) (l : List ℕ) → b ≤ 3 → drop a code ≡ b ∷ l → ⊥
    none b l j e = let x = (begins code a b l e).first in omega arith

    prefix : (b : ℕ) (l : List ℕ) → is_prefix b ≡ true → drop a code ≡ b ∷ l → ⊥
    prefix b l j e = true≢false (sym j ∙ ap is_prefix (sym (begins code a b l e).first) ∙ i)

    go : (u : Operand) → (s t c g e).left ≡ u → Spined t c code next m₀ m₄ to p₄ (pending + 1)
    go (constant z) q = absurd (none 1 _ (omega arith) ((s t c g e).stands ∙ ap (λ v. operand_code v c) q))
    go (current j) q = absurd (none 2 _ (omega arith) ((s t c g e).stands ∙ ap (λ v. operand_code v c) q))
    go (previous j) q = absurd (none 3 _ (omega arith) ((s t c g e).stands ∙ ap (λ v. operand_code v c) q))
    go (minus_of x) q = absurd (prefix 9 _ refl ((s t c g e).stands ∙ ap (λ v. operand_code v c) q))
    go (not_of x) q = absurd (prefix 16 _ refl ((s t c g e).stands ∙ ap (λ v. operand_code v c) q))
    go (joined_by o x y) q =
        let b = begins code a (operator_code o) (operand_code y (operand_code x c)) ((s t c g e).stands ∙ ap (λ v. operand_code v c) q) in
        let small : SmallOperand (joined_by o x y) = subst SmallOperand q (s t c g e).small in
        let r = right.found y (operand_code x c) small.1 b.behind in
        let f = (s t c g e).front in
        record {
          left = x;
          front = λ l. sign_bytes (get_or code a 0) ++ print y (41 ∷ f l);
          small = small.0;
          stands = r.0;
          wrote = fronts_then (fronts_then (fronts_then (s t c g e).wrote close) r.1) sign;
          whole = λ l. let j : pending + 1 ≡ suc pending = omega arith in
              (s t c g e).whole l ∙ ap (λ v. openings pending (print v (f l))) q
              ∙ ap (λ (k : List ℕ). openings pending (40 ∷ print x k)) (sign_spelled o (print y (41 ∷ f l)))
              ∙ rw (b.first, j) (openings_shift pending (print x (sign_bytes (operator_code o) ++ print y (41 ∷ f l))));
        }
