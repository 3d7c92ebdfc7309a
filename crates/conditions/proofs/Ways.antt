-- The ways through the parts of a condition: what each part comes to, by the token at hand. Assumes nothing.
use mathlib.Core.Path.{◌≡◌, refl, ap, sym, ◌∙◌, subst}
use mathlib.Core.List.{List, [], ◌∷◌, ◌++◌}
use mathlib.Core.Bool.{false}
use mathlib.Core.Option.{some}
use Prim.Native.Nat.{ℕ, zero, suc, ◌+◌, ◌-◌, ◌^◌, ◌≤◌, ◌<◌}
use native.Mathlib.Omega.{arith}
use lib.ListN.{length, get_or, set, length-append}
use Rattle.limits.specs.Limits.{no_token, not_allowed, too_many}
use Rattle.lexer.specs.Token.{Kind, kind_number, ending, open_square, close_square, tilde, is, TokenRead, token, fault}
use Rattle.lexer.specs.Lexer.{is_space, run_end, token_at}
use Rattle.lexer.proofs.Laws.{token_at_moved}
use Rattle.arith.specs.Values.{Comparison, equal, not_equal, less, less_equal, greater, greater_equal}
use Rattle.bytecode.specs.Instructions.{comparison_code}
use Rattle.semantics.specs.Program.{Expression, Condition, comparison, negated}
use Rattle.grammar.specs.Parsed.{Parsed, accepted, refused, and_then, sign, followed, chain}
use Rattle.grammar.specs.Expressions.{Scope, factor, term, expression}
use Rattle.grammar.specs.Conditions.{comparison_by, compared, comparison_at, opposite, inverted, atom, Connective, and_also, or_else, connect, connective_code, and_of, or_of, square, whole_condition, listed}
use Rattle.grammar.specs.Inner.Bytes.{bytes_e, bytes_c}
use Rattle.grammar.proofs.Growth.{Grown, not_end, connect_code, ands-end, ors-end, comparisons-end, atom_grown, conjunction_grown, square_grown}
use Rattle.lexer.specs.declared.Place.{Place}
use Rattle.expressions.specs.declared.scope.Names.{Names}
use Rattle.expressions.specs.Inner.Scopes.{scope_of, Declared}
use Rattle.lexer.specs.Results.{Step}
use Rattle.std.specs.Prelude.{Ok, Err}
use Rattle.limits.specs.declared.Refusal.{Refusal}
use Rattle.expressions.specs.Inner.Steps.{step_at, looked_ahead, Parses, Room}
use Rattle.expressions.specs.Inner.Readers.{Codes, StandsAt, closed_step}
use Rattle.expressions.proofs.Steps.{Refuses, refused_now, told, untold, up_to, Accepted, accepted_by, accepts_up_to, answers, same_part, passed, then_refused, ahead_at, ahead_stands, closing, closed_parses, one_more, room_fits, room_after, room_more, room_at}
use Rattle.expressions.proofs.Scopes.{few_names}
use Rattle.expressions.proofs.Chain.{Operators, Operator, operator_some, operator_none}
use Rattle.leb128.proofs.Stores.{sets_append}
use Rattle.conditions.proofs.Opened.{tilde_at, square_at, no_tilde, no_square}
use Rattle.conditions.specs.Inner.Readers.{comparison_in, inverted_in, atom_in, conjunction_in, condition_in}

-- ---- operators

connective_some : (o : Connective) → connective_code o ≡ 0 → ⊥
connective_some and_also e = omega arith
connective_some or_else e = omega arith

pub ands : Operators bytes_c connect and_of connective_code
ands = record { joined = connect_code; none_ends = ands-end; some_code = connective_some }

pub ors : Operators bytes_c connect or_of connective_code
ors = record { joined = connect_code; none_ends = ors-end; some_code = connective_some }

comparison_some : (o : Comparison) → comparison_code o ≡ 0 → ⊥
comparison_some equal e = omega arith
comparison_some not_equal e = omega arith
comparison_some less e = omega arith
comparison_some less_equal e = omega arith
comparison_some greater e = omega arith
comparison_some greater_equal e = omega arith

-- ---- comparisons

module _ (inner : ℕ → ℕ → Parsed Expression) (sc : Scope) (at : ℕ) where
  compared_fault : (a : Expression) (n q : ℕ) → token_at sc.text n ≡ fault q → Refuses sc.text (compared inner sc a n) no_token q
  unfolding compared
  compared_fault a n q e = refused_now (rw e)

  -- the first expression is refused
  pub comparison_refuses : {k q : ℕ} → Refuses sc.text (expression inner sc at) k q → Refuses sc.text (comparison_at inner sc at) k q
  unfolding comparison_at
  comparison_refuses r = then_refused sc.text _ compared_fault (expression inner sc at) r

  module _ {to : ℕ} {before mid : List ℕ} {h : Place} {t c : ℕ} (a : Accepted sc.text bytes_e (expression inner sc at) to before mid h t) (e : Codes comparison_code comparison_by h.kind c) where
    here : StandsAt sc.text h
    here = a.stands

    -- no comparison sign behind it
    pub comparison_none : c ≡ 0 → comparison_at inner sc at ≡ refused not_allowed h.start
    unfolding comparison_at compared
    comparison_none z = rw (a.is, here.read, operator_none comparison_by comparison_code here.kind c (e here.kind here.numbered) comparison_some z)

    module _ (z : c ≡ 0 → ⊥) where
      sign_of : Operator comparison_by comparison_code here.kind c
      sign_of = operator_some comparison_by comparison_code here.kind c (e here.kind here.numbered) z

      no_end : here.kind ≡ ending → ⊥
      no_end i =
          let f : comparison_by ending ≡ some sign_of.which = ap comparison_by (sym i) ∙ sign_of.is in
          let y : ◌≡◌ {A = ℕ} 0 1 = cc comparisons-end in
          omega arith

      second : comparison_at inner sc at ≡ and_then (expression inner sc h.end) (λ b l. accepted (comparison sign_of.which a.tree b) l)
      unfolding comparison_at compared
      second = rw (a.is, here.read, sign_of.is)

      -- the second expression is refused
      pub second_refuses : {k q : ℕ} → Refuses sc.text (expression inner sc h.end) k q → Refuses sc.text (comparison_at inner sc at) k q
      unfolding looked_ahead
      second_refuses {k} {q} r =
          subst (λ (p : Parsed Condition). Refuses sc.text p k q) (sym second)
          (then_refused sc.text _ (λ b n q e. record { looked = rw e }) (expression inner sc h.end) r)

      module _ {after : List ℕ} {g : Place} {u : ℕ} (b : Accepted sc.text bytes_e (expression inner sc h.end) t mid after g u) where
        pub second_room : Room sc.text h.at t → Grown bytes_e (length sc.text) h.end (expression inner sc h.end) → Room sc.text g.at (u + 1)
        second_room r grown = (room_more r here no_end grown b).0

        compared_code : bytes_c (comparison sign_of.which a.tree b.tree) ≡ bytes_e a.tree ++ (bytes_e b.tree ++ (c ∷ []))
        unfolding bytes_c
        compared_code = ap (λ (x : ℕ). bytes_e a.tree ++ (bytes_e b.tree ++ (x ∷ []))) (sym sign_of.code)

        pub comparison_accepts : {v : ℕ} {last : List ℕ} → v ≡ u + 1 → last ≡ set after u c → Accepted sc.text bytes_c (comparison_at inner sc at) to before last g v
        comparison_accepts hv hl = record {
          tree = comparison sign_of.which a.tree b.tree;
          is = second ∙ rw b.is;
          stands = b.stands;
          count = rw compared_code (simp length-append (omega (arith, a.count, b.count)));
          wrote = rw (compared_code, sets_append before to (bytes_e a.tree) (bytes_e b.tree ++ (c ∷ [])), ← a.wrote, ← a.count, sets_append mid t (bytes_e b.tree) (c ∷ []), ← b.wrote, ← b.count) hl;
        }

-- ---- the opposite

module _ {text : List ℕ} {p : Parsed Condition} where
  opposite_refuses : {k q : ℕ} → Refuses text p k q → Refuses text (opposite p) k q
  unfolding opposite looked_ahead
  opposite_refuses r = then_refused text _ (λ a n q e. record { looked = rw e }) p r

  opposite_accepts : {to : ℕ} {before after : List ℕ} {h : Place} {t u : ℕ} {last : List ℕ} → Accepted text bytes_c p to before after h t → u ≡ t + 1 → last ≡ set after t 16 → Accepted text bytes_c (opposite p) to before last h u
  unfolding opposite bytes_c
  opposite_accepts a e f = one_more a (negated a.tree) 16 (rw a.is) refl e f

-- ---- atoms

module _ (text starts ends : List ℕ) (names : Names) (left at : ℕ) where
  abbrev sc : Scope
  sc = scope_of text starts ends names

  atom_fault : (q : ℕ) → token_at text at ≡ fault q → atom_in left sc at ≡ refused no_token q
  unfolding atom
  atom_fault q e = rw e

  comparison-fault : (q : ℕ) → token_at text at ≡ fault q → comparison_in left sc at ≡ refused no_token q
  unfolding comparison_at expression term factor chain
  comparison-fault q e = rw e

  compares : (k : Kind) (m n : ℕ) → token_at text at ≡ token k m n → is k tilde ≡ false → is k open_square ≡ false → atom_in left sc at ≡ comparison_in left sc at
  unfolding atom
  compares k m n e f g = rw (e, f, g)

  pub inverted_fault : (q : ℕ) → token_at text at ≡ fault q → inverted_in left sc at ≡ refused no_token q
  unfolding inverted
  inverted_fault q e = rw e

  -- its first byte, b, is at s
  module _ (s b : ℕ) (hs : s ≡ run_end is_space text at) (hb : b ≡ get_or text s 0) where
    pub atom_inverted : b ≡ 126 → atom_in left sc at ≡ inverted_in left sc (s + 1)
    unfolding atom is kind_number
    atom_inverted e = rw (tilde_at text at s hs b hb e)

    pub atom_square : b ≡ 91 → atom_in left sc at ≡ square left sc s (s + 1)
    unfolding atom is kind_number
    atom_square e = rw (square_at text at s hs b hb e)

    pub atom_comparison : at ≤ length text → (b ≡ 126 → ⊥) → (b ≡ 91 → ⊥) → atom_in left sc at ≡ comparison_in left sc at
    atom_comparison h f g = go (token_at text at) refl
      where
        go : (r : TokenRead) → token_at text at ≡ r → atom_in left sc at ≡ comparison_in left sc at
        go (token k m n) e = compares k m n e (no_tilde text at s hs b hb h k m n e f) (no_square text at s hs b hb h k m n e g)
        go (fault q) e = atom_fault q e ∙ sym (comparison-fault q e)

  -- `ahead` read the token h there
  module _ (to : ℕ) {r : Step} {h : Place} (d : r ≡ Ok h) (e : r ≡ step_at (token_at text at) at to) where
    first : StandsAt text h
    first = ahead_stands text at to d e

    pub inverted_none : (h.kind ≡ kind_number open_square → ⊥) → inverted_in left sc at ≡ refused not_allowed h.start
    unfolding inverted
    inverted_none n = rw (← ahead_at text at to d e, first.read, untold first open_square n)

    module _ (m : h.kind ≡ kind_number open_square) {v : ℕ} {before after : List ℕ} {p : Step} (c : Parses text bytes_c (square left sc h.start h.end) v before after p) where
      inverted_square : inverted_in left sc at ≡ opposite (square left sc h.start h.end)
      unfolding inverted
      inverted_square = rw (← ahead_at text at to d e, first.read, told first open_square m)

      pub inverted_refuses : {x : Refusal} {l : ℕ} {front last : List ℕ} → p ≡ Err x → Parses text bytes_c (inverted_in left sc at) l front last p
      inverted_refuses i = same_part inverted_square (passed c i opposite_refuses)

      pub inverted_accepts : {l : Place} {x : ℕ} {last : List ℕ} → p ≡ Ok l → (x ≡ l.to + 1) × (last ≡ set after l.to 16) → Parses text bytes_c (inverted_in left sc at) v before last (Ok (up_to l x))
      inverted_accepts i f = same_part inverted_square (accepts_up_to refl (opposite_accepts (accepted_by c i) f.0 f.1))

-- ---- brackets

down : (d : ℕ) → suc d - 1 ≡ d
down d = omega arith

module _ (sc : Scope) (s n : ℕ) where
  pub square_none : (left : ℕ) → left ≡ 0 → square left sc s n ≡ refused too_many s
  unfolding square
  square_none left e = rw e

  square-some : (left : ℕ) → (left ≡ 0 → ⊥) → square left sc s n ≡ closing sc.text close_square (condition_in (left - 1) sc n)
  unfolding square closing
  square-some zero e = absurd (e refl)
  square-some (suc d) e = ap (λ (x : ℕ). and_then (condition_in x sc n) (λ a m. followed sc.text (sign close_square ∷ []) a m)) (sym (down d))

pub square_closes : (text starts ends : List ℕ) (names : Names) (s n left : ℕ) {to : ℕ} {before after : List ℕ} {part r : Step} → (left ≡ 0 → ⊥) → r ≡ closed_step text (kind_number close_square) part → Parses text bytes_c (condition_in (left - 1) (scope_of text starts ends names) n) to before after part → Parses text bytes_c (square left (scope_of text starts ends names) s n) to before after r
square_closes text starts ends names s n left z e c = same_part (square-some (scope_of text starts ends names) s n left z) (answers e (closed_parses close_square _ c))

pub listed_is : (sc : Scope) (n : ℕ) → listed sc n ≡ closing sc.text close_square (whole_condition sc n)
unfolding listed closing
listed_is sc n = refl

-- ---- growth

module _ {text starts ends : List ℕ} {names : Names} (d : Declared starts ends names) (left : ℕ) {at to : ℕ} (r : Room text at to) where
  pub atom_grows : Grown bytes_c (length text) at (atom_in left (scope_of text starts ends names) at)
  atom_grows = atom_grown _ (few_names text d) left at r.within

  pub conjunction_grows : Grown bytes_c (length text) at (conjunction_in left (scope_of text starts ends names) at)
  conjunction_grows = conjunction_grown _ (few_names text d) left at r.within

-- behind `[c]`, whose bracket is the token h, there is room for a byte
pub square_fits : (text starts ends : List ℕ) (names : Names) (left at to : ℕ) {u : ℕ} {before after : List ℕ} {p r : Step} {g h : Place} → p ≡ Ok g → Parses text bytes_c (square left (scope_of text starts ends names) h.start h.end) u before after p → r ≡ Ok h → r ≡ step_at (token_at text at) at to → h.kind ≡ kind_number open_square → Declared starts ends names → Room text at u → g.to < 2 ^ 32
unfolding is kind_number
square_fits text starts ends names left at to {u = u} {h = h} i c d e m declared room =
    let k = ahead_stands text at to d e in
    let q = room_at text at to d e room in
    let mv = token_at_moved text h.at k.kind h.start h.end q.within k.read in
    let wide : h.start < h.end = mv.3 (not_end k.kind open_square refl (told k open_square m)) in
    let begun : Room text h.start u = record { short = q.short; within = omega arith; room = omega arith } in
    omega (arith, room_fits (room_after begun (square_grown _ (few_names text declared) left h.start h.end wide mv.2) (accepted_by c i)))
