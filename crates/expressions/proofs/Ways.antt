-- The ways through the parts of an expression: what each part comes to, by the token at hand. Assumes nothing.
use mathlib.Core.Path.{◌≡◌, refl, ap, sym, ◌∙◌, subst}
use mathlib.Core.List.{List, [], ◌∷◌}
use mathlib.Core.Bool.{true, false}
use mathlib.Core.Option.{none, some}
use Prim.Native.Nat.{ℕ, zero, suc, ◌+◌, ◌-◌, ◌^◌, ◌≤◌, ◌<◌, min}
use native.Mathlib.Omega.{arith}
use lib.ListN.{length, set, get_or}
use lib.Seq.{sets}
use lib.IntN.{pos}
use borrow.Author.Tests.{lt-ltb, le-ltb, eq-eqb, ne_eqb}
use Rattle.limits.specs.Limits.{no_token, not_allowed, out_of_limit, wrong_name, too_early, too_many, number_limit}
use Rattle.leb128.specs.Numbers.{number, zigzag}
use Rattle.lexer.specs.Bytes.{part}
use Rattle.lexer.specs.Token.{kind_number, name, digits, open_round, close_round, minus, fault}
use Rattle.lexer.specs.Token as T
use Rattle.lexer.specs.Lexer.{token_at, over_long, value_of}
use Rattle.lexer.specs.Names.{id_of}
use Rattle.bytecode.specs.Instructions.{operation_code}
use Rattle.arith.specs.Values.{Operation, add, subtract, multiply, divide, modulo}
use Rattle.semantics.specs.Program.{Expression, constant, current, previous, operation, negate}
use Rattle.grammar.specs.Parsed.{Parsed, accepted, refused, and_then, sign, followed}
use Rattle.grammar.specs.Expressions.{Scope, with_id, current_at, previous_value_at, constant_at, primary, negative, factor, product_of, sum_of, bracket}
use Rattle.grammar.specs.Inner.Bytes.{bytes_e}
use Rattle.grammar.proofs.Growth.{Grown, products_end, sums-end, primary_grown, factor_grown, term_grown, expression_grown}
use Rattle.lexer.specs.declared.Place.{Place}
use Rattle.lexer.specs.Results.{Step}
use Rattle.std.specs.Prelude.{Ok, Err}
use Rattle.limits.specs.declared.Refusal.{Refusal}
use Rattle.expressions.specs.declared.scope.Names.{Names}
use Rattle.expressions.specs.Inner.Scopes.{scope_of, Declared}
use Rattle.expressions.specs.Inner.Steps.{step_at, looked_ahead, Parses, Room}
use Rattle.expressions.specs.Inner.Readers.{text_only, StandsAt, closed_step, operator_bytes, minus_code, behind_minus, primary_in, factor_in, term_in, expression_in}
use Rattle.expressions.proofs.Steps.{Refuses, done_refused, done_place, told, untold, up_to, Accepted, accepted_by, accepts_up_to, answers, same_part, passed, then_refused, ahead_at, ahead_stands, ahead_fault, by_minus, closing, closed_parses, ended, one_more, room_fits, room_after}
use Rattle.expressions.proofs.Scopes.{few_names}
use Rattle.expressions.proofs.Chain.{Operators}

-- ---- operators

operation_some : (o : Operation) → operation_code o ≡ 0 → ⊥
operation_some add e = omega arith
operation_some subtract e = omega arith
operation_some multiply e = omega arith
operation_some divide e = omega arith
operation_some modulo e = omega arith

pub sums : Operators bytes_e operation sum_of operation_code
unfolding bytes_e
sums = record { joined = λ o a b. refl; none_ends = sums-end; some_code = operation_some }

pub products : Operators bytes_e operation product_of operation_code
unfolding bytes_e
products = record { joined = λ o a b. refl; none_ends = products_end; some_code = operation_some }

-- ---- names and numbers

module _ {A : Type 0} (sc : Scope) (p s n : ℕ) (f : ℕ → Parsed A) where
  with_long : over_long s n ≡ true → with_id sc p s n f ≡ refused too_many p
  unfolding with_id
  with_long e = rw e

  module _ (short : over_long s n ≡ false) where
    with_unknown : id_of sc.names (part sc.text s n) ≡ none → with_id sc p s n f ≡ refused wrong_name p
    unfolding with_id
    with_unknown e = rw (short, e)

    with_known : (i : ℕ) → id_of sc.names (part sc.text s n) ≡ some i → with_id sc p s n f ≡ f i
    unfolding with_id
    with_known i e = rw (short, e)

module _ (sc : Scope) (s n : ℕ) where
  pub current_long : over_long s n ≡ true → current_at sc s n ≡ refused too_many s
  unfolding current_at
  current_long e = with_long sc s s n _ e

  pub previous-long : over_long (s + 1) n ≡ true → previous_value_at sc s n ≡ refused too_many s
  unfolding previous_value_at
  previous-long e = with_long sc s (s + 1) n _ e

  module _ (short : over_long s n ≡ false) where
    pub current_unknown : id_of sc.names (part sc.text s n) ≡ none → current_at sc s n ≡ refused wrong_name s
    unfolding current_at
    current_unknown e = with_unknown sc s s n _ short e

    module _ (i : ℕ) (e : id_of sc.names (part sc.text s n) ≡ some i) where
      pub current_early : get_or sc.known i false ≡ false → current_at sc s n ≡ refused too_early s
      unfolding current_at
      current_early k = with_known sc s s n _ short i e ∙ rw k

      pub current-known : get_or sc.known i false ≡ true → current_at sc s n ≡ accepted (current i) n
      unfolding current_at
      current-known k = with_known sc s s n _ short i e ∙ rw k

  module _ (short : over_long (s + 1) n ≡ false) where
    pub previous_unknown : id_of sc.names (part sc.text (s + 1) n) ≡ none → previous_value_at sc s n ≡ refused wrong_name s
    unfolding previous_value_at
    previous_unknown e = with_unknown sc s (s + 1) n _ short e

    pub previous_known : (i : ℕ) → id_of sc.names (part sc.text (s + 1) n) ≡ some i → previous_value_at sc s n ≡ accepted (previous i) n
    unfolding previous_value_at
    previous_known i e = with_known sc s (s + 1) n _ short i e

  module _ (v : ℕ) (e : v ≡ min (value_of (part sc.text s n)) (2 ^ 32)) where
    pub number_large : number_limit < v → constant_at sc s n ≡ refused out_of_limit s
    unfolding constant_at
    number_large h =
        let l : number_limit < value_of (part sc.text s n) = omega arith in
        rw (lt-ltb _ _ l)

    pub number_fits : v ≤ number_limit → constant_at sc s n ≡ accepted (constant (pos v)) n
    unfolding constant_at
    number_fits h =
        let i : value_of (part sc.text s n) ≡ v = omega arith in
        rw (i, le-ltb _ _ h)

-- an instruction's code byte and its operand
pub written : {text : List ℕ} {n c o to u : ℕ} {before after : List ℕ} {r : Step} → (u ≡ to + length (c ∷ number o)) × (after ≡ sets before to (c ∷ number o)) → r ≡ step_at (token_at text n) n u → Parses text (λ (x : ℕ). c ∷ number x) (accepted o n) to before after r
written {o = o} w e = ended o refl w.0 w.1 e

pub constant_code : (v : ℕ) {z : ℕ} → z ≡ zigzag (pos v) → bytes_e (constant (pos v)) ≡ 1 ∷ number z
unfolding bytes_e
constant_code v e = rw e

pub current-code : (i : ℕ) → bytes_e (current i) ≡ 2 ∷ number i
unfolding bytes_e
current-code i = refl

pub previous-code : (i : ℕ) → bytes_e (previous i) ≡ 3 ∷ number i
unfolding bytes_e
previous-code i = refl

-- ---- primaries

number-text : (sc : Scope) (s n : ℕ) → constant_at sc s n ≡ constant_at (text_only sc.text) s n
unfolding constant_at
number-text sc s n = refl

module _ (inner : ℕ → ℕ → Parsed Expression) (sc : Scope) {h : Place} (k : StandsAt sc.text h) where
  pub primary_number : h.kind ≡ kind_number digits → primary inner sc h.at ≡ constant_at (text_only sc.text) h.start h.end
  unfolding primary
  primary_number e = rw (k.read, told k digits e) (number-text sc h.start h.end)

  module _ (n1 : h.kind ≡ kind_number digits → ⊥) where
    pub primary_current : h.kind ≡ kind_number name → primary inner sc h.at ≡ current_at sc h.start h.end
    unfolding primary
    primary_current e = rw (k.read, untold k digits n1, told k name e)

    module _ (n2 : h.kind ≡ kind_number name → ⊥) where
      pub primary_previous : h.kind ≡ kind_number T.previous → primary inner sc h.at ≡ previous_value_at sc h.start h.end
      unfolding primary
      primary_previous e = rw (k.read, untold k digits n1, untold k name n2, told k T.previous e)

      module _ (n3 : h.kind ≡ kind_number T.previous → ⊥) where
        pub primary_bracket : h.kind ≡ kind_number open_round → primary inner sc h.at ≡ inner h.start h.end
        unfolding primary
        primary_bracket e = rw (k.read, untold k digits n1, untold k name n2, untold k T.previous n3, told k open_round e)

        pub primary_none : (h.kind ≡ kind_number open_round → ⊥) → primary inner sc h.at ≡ refused not_allowed h.start
        unfolding primary
        primary_none n4 = rw (k.read, untold k digits n1, untold k name n2, untold k T.previous n3, untold k open_round n4)

-- ---- brackets

down : (d : ℕ) → suc d - 1 ≡ d
down d = omega arith

module _ (sc : Scope) (s n : ℕ) where
  pub bracket_none : (left : ℕ) → left ≡ 0 → bracket left sc s n ≡ refused too_many s
  unfolding bracket
  bracket_none left e = rw e

  bracket-some : (left : ℕ) → (left ≡ 0 → ⊥) → bracket left sc s n ≡ closing sc.text close_round (expression_in (left - 1) sc n)
  unfolding bracket closing
  bracket-some zero e = absurd (e refl)
  bracket-some (suc d) e = ap (λ (x : ℕ). and_then (expression_in x sc n) (λ a m. followed sc.text (sign close_round ∷ []) a m)) (sym (down d))

pub bracket_closes : (text starts ends : List ℕ) (names : Names) (s n left : ℕ) {to : ℕ} {before after : List ℕ} {part r : Step} → (left ≡ 0 → ⊥) → r ≡ closed_step text (kind_number close_round) part → Parses text bytes_e (expression_in (left - 1) (scope_of text starts ends names) n) to before after part → Parses text bytes_e (bracket left (scope_of text starts ends names) s n) to before after r
bracket_closes text starts ends names s n left z e c = same_part (bracket-some (scope_of text starts ends names) s n left z) (answers e (closed_parses close_round _ c))

-- ---- the opposite

module _ {text : List ℕ} {p : Parsed Expression} where
  negative_refuses : {k q : ℕ} → Refuses text p k q → Refuses text (negative p) k q
  unfolding negative looked_ahead
  negative_refuses r = then_refused text _ (λ a n q e. record { looked = rw e }) p r

  negative_accepts : {to : ℕ} {before after : List ℕ} {h : Place} {t u : ℕ} {last : List ℕ} → Accepted text bytes_e p to before after h t → u ≡ t + 1 → last ≡ set after t 9 → Accepted text bytes_e (negative p) to before last h u
  unfolding negative bytes_e
  negative_accepts a e f = one_more a (negate a.tree) 9 (rw a.is) refl e f

-- ---- factors

module _ (text starts ends : List ℕ) (names : Names) (left at : ℕ) where
  abbrev sc : Scope
  sc = scope_of text starts ends names

  pub factor_fault : (q : ℕ) → token_at text at ≡ fault q → factor_in left sc at ≡ refused no_token q
  unfolding factor
  factor_fault q e = rw e

  -- `ahead` read the token h there, and s is the token behind a `-`, or h
  module _ (to : ℕ) {r : Step} {h : Place} (d : r ≡ Ok h) (e : r ≡ step_at (token_at text at) at to) {s : Step} (f : s ≡ behind_minus text to h) where
    here : StandsAt text h
    here = ahead_stands text at to d e

    factor_plain : (h.kind ≡ kind_number minus → ⊥) → factor_in left sc at ≡ primary_in left sc h.at
    unfolding factor
    factor_plain n = rw (← ahead_at text at to d e, here.read, untold here minus n)

    factor_minus : h.kind ≡ kind_number minus → factor_in left sc at ≡ negative (primary_in left sc h.end)
    unfolding factor
    factor_minus m = rw (← ahead_at text at to d e, here.read, told here minus m)

    minus_fault : h.kind ≡ kind_number minus → (q : ℕ) → token_at text h.end ≡ fault q → factor_in left sc at ≡ refused no_token q
    unfolding negative primary
    minus_fault m q i = factor_minus m ∙ rw i

    pub operand-fault : {u : ℕ} {before after : List ℕ} {e : Refusal} → s ≡ Err e → Parses text bytes_e (factor_in left sc at) u before after s
    operand-fault j =
        by_minus text to h f
        (λ m i. ahead_fault text h.end to j i (minus_fault m))
        (λ n i. done_refused (sym i ∙ j))

    -- with the token g the primary begins
    module _ {g : Place} (j : s ≡ Ok g) {v : ℕ} {before after : List ℕ} {p : Step} (c : Parses text bytes_e (primary_in left sc g.at) v before after p) where
      plain_operand : (h.kind ≡ kind_number minus → ⊥) → s ≡ Ok h → factor_in left sc at ≡ primary_in left sc g.at
      plain_operand n i = factor_plain n ∙ ap (λ (x : Place). primary_in left sc x.at) (done_place (sym i ∙ j))

      minus_operand : h.kind ≡ kind_number minus → s ≡ step_at (token_at text h.end) h.end to → factor_in left sc at ≡ negative (primary_in left sc g.at)
      minus_operand m i = rw (ahead_at text h.end to j i) (factor_minus m)

      pub factor_refuses : {x : Refusal} {l : ℕ} {first last : List ℕ} → p ≡ Err x → Parses text bytes_e (factor_in left sc at) l first last p
      factor_refuses x =
          by_minus text to h f
          (λ m i. same_part (minus_operand m i) (passed c x negative_refuses))
          (λ n i. same_part (plain_operand n i) (passed c x (λ y. y)))

      module _ {l : Place} {z x : ℕ} {last : List ℕ} (y : p ≡ Ok l) (code : z ≡ minus_code h.kind) (put : (x ≡ l.to + length (operator_bytes z)) × (last ≡ sets after l.to (operator_bytes z))) where
        written_with : (w : ℕ) → z ≡ w → (x ≡ l.to + length (operator_bytes w)) × (last ≡ sets after l.to (operator_bytes w))
        written_with w i = subst (λ (o : ℕ). (x ≡ l.to + length (operator_bytes o)) × (last ≡ sets after l.to (operator_bytes o))) i put

        plain_accepts : Accepted text bytes_e (primary_in left sc g.at) v before after l l.to → z ≡ 0 → Accepted text bytes_e (primary_in left sc g.at) v before last l x
        plain_accepts a i =
            let w = written_with 0 i in
            record { tree = a.tree; is = a.is; stands = a.stands; count = omega (arith, w.0, a.count); wrote = w.1 ∙ a.wrote }

        pub factor_accepts : Parses text bytes_e (factor_in left sc at) v before last (Ok (up_to l x))
        factor_accepts =
            by_minus text to h f
            (λ m i.
            let w = written_with 9 (code ∙ rw (eq-eqb _ _ m)) in
            same_part (minus_operand m i) (accepts_up_to refl (negative_accepts (accepted_by c y) w.0 w.1)))
            (λ n i. same_part (plain_operand n i) (accepts_up_to refl (plain_accepts (accepted_by c y) (code ∙ rw (ne_eqb _ _ n)))))

-- ---- growth

module _ {text starts ends : List ℕ} {names : Names} (d : Declared starts ends names) (left : ℕ) {at to : ℕ} (r : Room text at to) where
  primary_grows : Grown bytes_e (length text) at (primary_in left (scope_of text starts ends names) at)
  primary_grows = primary_grown _ (few_names text d) left at r.within

  pub factor_grows : Grown bytes_e (length text) at (factor_in left (scope_of text starts ends names) at)
  factor_grows = factor_grown _ (few_names text d) left at r.within

  pub term_grows : Grown bytes_e (length text) at (term_in left (scope_of text starts ends names) at)
  term_grows = term_grown _ (few_names text d) left at r.within

  pub expression_grows : Grown bytes_e (length text) at (expression_in left (scope_of text starts ends names) at)
  expression_grows = expression_grown _ (few_names text d) left at r.within

-- behind a primary there is room for a byte
pub primary_fits : (text starts ends : List ℕ) (names : Names) (left : ℕ) {at to : ℕ} {before after : List ℕ} {r : Step} {h : Place} → r ≡ Ok h → Parses text bytes_e (primary_in left (scope_of text starts ends names) at) to before after r → Declared starts ends names → Room text at to → h.to < 2 ^ 32
primary_fits text starts ends names left e c d m = omega (arith, room_fits (room_after m (primary_grows d left m) (accepted_by c e)))
