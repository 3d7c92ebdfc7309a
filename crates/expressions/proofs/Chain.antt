-- Operators between operands, left to right: a law for each way through a loop that reads them. Expressions, terms, conditions and
-- conjunctions cite them. Assumes nothing.
use mathlib.Core.Path.{◌≡◌, refl, ap, sym, ◌∙◌, subst}
use mathlib.Core.List.{List, [], ◌∷◌, ◌++◌, append-nil}
use mathlib.Core.Option.{Option, none, some}
use Prim.Native.Nat.{ℕ, zero, suc, ◌+◌, ◌-◌, ◌^◌, ◌≤◌, ◌<◌}
use native.Mathlib.Nat.{add-zero}
use native.Mathlib.Omega.{arith}
use lib.ListN.{length, set, length-append}
use lib.Seq.{sets, length-sets}
use borrow.Author.Tests.{ne_eqb}
use Rattle.limits.specs.Limits.{no_token}
use Rattle.lexer.specs.Token.{Kind, ending, fault}
use Rattle.lexer.specs.Lexer.{token_at}
use Rattle.grammar.specs.Parsed.{Parsed, accepted, and_then, rest, chain}
use Rattle.grammar.proofs.Growth.{Grown}
use Rattle.leb128.proofs.Stores.{sets_append}
use Rattle.lexer.proofs.Laws.{token_at_moved}
use Rattle.lexer.specs.declared.Place.{Place}
use Rattle.lexer.specs.Results.{Step}
use Rattle.std.specs.Prelude.{Ok, Err}
use Rattle.limits.specs.declared.Refusal.{Refusal}
use Rattle.expressions.specs.Inner.Steps.{looked_ahead, Parses, Room}
use Rattle.expressions.specs.Inner.Readers.{StandsAt, code_or_none, Codes, operator_bytes}
use Rattle.expressions.specs.Inner.Chains.{Pending}
use Rattle.expressions.proofs.Steps.{Refuses, up_to, stands_up_to, Accepted, accepted_by, accepts, passed, then_refused}

-- ---- operators

-- the code of two operands that an operator joins is theirs and then its own, which is not 0; the end of the text is no operator
pub record Operators {O A : Type 0} (code : A → List ℕ) (join : O → A → A → A) (operator : Kind → Option O) (number : O → ℕ) : Type 0 where
  pub joined : (o : O) (a b : A) → code (join o a b) ≡ code a ++ (code b ++ (number o ∷ []))
  pub none_ends : operator ending ≡ none
  pub some_code : (o : O) → number o ≡ 0 → ⊥

-- an operator of kind k, whose code is c
pub record Operator {O : Type 0} (operator : Kind → Option O) (number : O → ℕ) (k : Kind) (c : ℕ) : Type 0 where
  pub which : O
  pub is : operator k ≡ some which
  pub code : c ≡ number which

module _ {O : Type 0} (operator : Kind → Option O) (number : O → ℕ) (k : Kind) (c : ℕ) (e : c ≡ code_or_none number (operator k)) where
  pub operator_some : (c ≡ 0 → ⊥) → Operator operator number k c
  operator_some z = go (operator k) refl e
    where
      go : (o : Option O) → operator k ≡ o → c ≡ code_or_none number o → Operator operator number k c
      go none i f = absurd (z f)
      go (some o) i f = record { which = o; is = i; code = f }

  pub operator_none : ((o : O) → number o ≡ 0 → ⊥) → c ≡ 0 → operator k ≡ none
  operator_none g z = go (operator k) refl e
    where
      go : (o : Option O) → operator k ≡ o → c ≡ code_or_none number o → operator k ≡ none
      go none i f = i
      go (some o) i f = absurd (g o (sym f ∙ z))

-- ---- the byte of an operator

operator_bytes_lem : {c : ℕ} → (c ≡ 0 → ⊥) → operator_bytes c ≡ c ∷ []
operator_bytes_lem z = rw (ne_eqb _ _ z)

pub no_operator : {c : ℕ} (to : ℕ) {out : List ℕ} → c ≡ 0 → (to ≡ to + length (operator_bytes c)) × (out ≡ sets out to (operator_bytes c))
no_operator to e = rw e (sym (add-zero to), refl)

pub one_operator : {c r : ℕ} (to : ℕ) (out : List ℕ) {after : List ℕ} → (c ≡ 0 → ⊥) → (r ≡ to + 1) × (after ≡ set out to c) → (r ≡ to + length (operator_bytes c)) × (after ≡ sets out to (operator_bytes c))
one_operator to out z p = rw (operator_bytes_lem z) p

-- ---- the loop

-- an operand's code takes no more room than the text that it is read from gives
abbrev pub Grows : {A : Type 0} → (A → List ℕ) → (ℕ → Parsed A) → List ℕ → Type 0
Grows code operand text = (at to : ℕ) → Room text at to → Grown code (length text) at (operand at)

-- the invariant
pub record Turn {O A : Type 0} (code : A → List ℕ) (join : O → A → A → A) (operator : Kind → Option O) (operand : ℕ → Parsed A) (text : List ℕ) (at to : ℕ) (out₀ : List ℕ) (a t c : ℕ) (out : List ℕ) : Type 0 where
  pub pending : Pending code join operator operand text at to out₀ a t c out
  pub size : length out ≡ length out₀
  pub grows : Grows code operand text

module _ {O A : Type 0} {code : A → List ℕ} {join : O → A → A → A} {operator : Kind → Option O} {number : O → ℕ} (ops : Operators code join operator number) (operand : ℕ → Parsed A) (text : List ℕ) where
  -- ---- the ways through `rest`

  rest_none : (f : ℕ) (a : A) {h : Place} (k : StandsAt text h) → operator k.kind ≡ none → rest join operator operand text f a h.at ≡ accepted a h.at
  unfolding rest
  rest_none zero a k e = refl
  rest_none (suc f) a k e = rw (k.read, e)

  rest_some : (f : ℕ) (a : A) {h : Place} (k : StandsAt text h) (o : O) → operator k.kind ≡ some o → rest join operator operand text (suc f) a h.at ≡ and_then (operand h.end) (λ b l. rest join operator operand text f (join o a b) l)
  unfolding rest
  rest_some f a k o e = rw (k.read, e)

  rest_fault : (f : ℕ) (a : A) (n q : ℕ) → token_at text n ≡ fault q → Refuses text (rest join operator operand text f a n) no_token q
  unfolding rest looked_ahead
  rest_fault zero a n q e = record { looked = rw e }
  rest_fault (suc f) a n q e = record { looked = rw e }

  -- ---- the loop's needs

  -- the loop begins
  pub turn_first : {at to : ℕ} {out : List ℕ} → Grows code operand text → Room text at to → Turn code join operator operand text at to out at to 0 out
  unfolding chain
  turn_first {at} {to} {out} g m = record {
    pending = record {
      made = λ b. b;
      written = [];
      fuel = suc (length text);
      same = refl;
      spelt = λ b. sym (append-nil (code b));
      wrote = refl;
      count = sym (add-zero to);
      fuels = omega arith;
      room = subst (Room text at) (sym (add-zero to)) m;
    };
    size = refl;
    grows = g;
  }

  module _ {at to : ℕ} {out₀ : List ℕ} {a t c : ℕ} {out : List ℕ} (w : Turn code join operator operand text at to out₀ a t c out) where
    p : Pending code join operator operand text at to out₀ a t c out
    p = w.pending

    -- an operand may follow
    pub turn_room : Room text a t
    turn_room = record { short = p.room.short; within = p.room.within; room = omega (arith, p.room.room) }

    -- it is refused
    operand_refuses : {k q : ℕ} → Refuses text (operand a) k q → Refuses text (chain join operator operand text at) k q
    operand_refuses {k} {q} r =
        subst (λ (x : Parsed A). Refuses text x k q) (sym p.same) (then_refused text _ (λ b. rest_fault p.fuel (p.made b)) (operand a) r)

    pub turn_refused : {u v : ℕ} {b x before after : List ℕ} {s : Step} {e : Refusal} → Parses text code (operand a) u b x s → s ≡ Err e → Parses text code (chain join operator operand text at) v before after s
    turn_refused d i = passed d i operand_refuses

    -- it is accepted, with the token g behind it
    module _ {out' : List ℕ} {s : Step} {g : Place} (d : Parses text code (operand a) t out out' s) (done : s ≡ Ok g) where
      b : Accepted text code (operand a) t out out' g g.to
      b = accepted_by d done

      here : StandsAt text g
      here = b.stands

      grown : Grown code (length text) a (accepted b.tree g.at)
      grown = subst (Grown code (length text) a) b.is (w.grows a t turn_room)

      pub turn_fits : g.to < 2 ^ 32
      turn_fits = omega (arith, grown.0, grown.1, grown.2, b.count, p.room.room, p.room.short)

      -- its operator's byte is written
      module _ {v : ℕ} {out'' : List ℕ} (put : (v ≡ g.to + length (operator_bytes c)) × (out'' ≡ sets out' g.to (operator_bytes c))) where
        abbrev tree : A
        tree = p.made b.tree

        come : chain join operator operand text at ≡ rest join operator operand text p.fuel tree g.at
        come = p.same ∙ rw b.is

        counted : v ≡ to + length (code tree)
        counted = rw (p.spelt b.tree) (simp length-append (omega (arith, put.0, b.count, p.count)))

        wrote : out'' ≡ sets out₀ to (code tree)
        wrote =
            put.1 ∙ rw (p.spelt b.tree, sets_append out₀ to p.written (code b.tree ++ operator_bytes c), ← p.wrote, ← p.count, sets_append out t (code b.tree) (operator_bytes c), ← b.wrote, ← b.count)

        room : Room text g.at v
        room = record { short = p.room.short; within = grown.1; room = omega (arith, grown.0, grown.2, put.0, b.count, p.room.room) }

        -- e is the code of the token behind
        module _ {e : ℕ} (f : Codes number operator g.kind e) where
          -- no operator: the chain ends here
          pub turn_done : e ≡ 0 → Parses text code (chain join operator operand text at) to out₀ out'' (Ok (up_to g v))
          turn_done z =
              let i : operator here.kind ≡ none = operator_none operator number here.kind e (f here.kind here.numbered) ops.some_code z in
              accepts refl (record {
                tree = tree;
                is = come ∙ rest_none p.fuel tree here i;
                stands = stands_up_to v here;
                count = counted;
                wrote = wrote;
              })

          -- an operator: another operand follows
          module _ (z : e ≡ 0 → ⊥) where
            sign : Operator operator number here.kind e
            sign = operator_some operator number here.kind e (f here.kind here.numbered) z

            no_end : here.kind ≡ ending → ⊥
            no_end i =
                let h : operator ending ≡ some sign.which = ap operator (sym i) ∙ sign.is in
                let y : ◌≡◌ {A = ℕ} 0 1 = cc ops.none_ends in
                omega arith

            moved : (g.at < g.end) × (g.end ≤ length text)
            moved =
                let mv = token_at_moved text g.at here.kind g.start g.end room.within here.read in
                let i = mv.3 no_end in
                (omega arith, mv.2)

            pub turn_less : length text - g.end < length text - a
            turn_less = omega (arith, moved.0, moved.1, grown.0)

            bytes : operator_bytes e ≡ number sign.which ∷ []
            bytes = operator_bytes_lem z ∙ ap (λ (x : ℕ). x ∷ []) sign.code

            pending_more : (n : ℕ) → n ≡ p.fuel → Pending code join operator operand text at to out₀ g.end v e out''
            pending_more zero i = absurd (omega (arith, p.fuels, p.room.within))
            pending_more (suc n) i = record {
              made = λ x. join sign.which tree x;
              written = code tree;
              fuel = n;
              same = come ∙ (ap (λ (m : ℕ). rest join operator operand text m tree g.at) (sym i) ∙ rest_some n tree here sign.which sign.is);
              spelt = λ x. rw bytes (ops.joined sign.which tree x);
              wrote = wrote;
              count = counted;
              fuels = omega (arith, p.fuels, moved.0, grown.0);
              room = record { short = room.short; within = moved.1; room = rw bytes (omega (arith, room.room, moved.0)) };
            }

            pub turn_more : Turn code join operator operand text at to out₀ g.end v e out''
            turn_more = record {
              pending = pending_more p.fuel refl;
              size = rw wrote (simp length-sets refl);
              grows = w.grows;
            }
