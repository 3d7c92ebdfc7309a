-- What a parser accepts are the only tokens of its language that stand there; with a token that it refuses by 2 none go on. Each is said of the
-- tokens of the language behind which others stand that do not go on with them (`S`). One law a combinator. Assumes nothing.
use mathlib.Core.Path.{◌≡◌, refl, ap, sym, ◌∙◌, subst}
use mathlib.Core.List.{List, [], ◌∷◌, ◌++◌, append_assoc, append-nil}
use mathlib.Core.Bool.{Bool, true, false, cond}
use mathlib.Core.Option.{Option, none, some}
use Prim.Native.Nat.{ℕ, zero, suc, ◌+◌, ◌≤◌, ◌<◌}
use native.Mathlib.Omega.{arith}
use lib.ListN.{length}
use Rattle.lexer.specs.Bytes.{part}
use Rattle.lexer.specs.Token.{Kind, ending, TokenRead, token, fault}
use Rattle.lexer.specs.Lexer.{token_at}
use Rattle.lexer.proofs.Laws.{token_at_moved}
use Rattle.bytecode.proofs.Soundness.{none≢some}
use Rattle.grammar.specs.Parsed.{Parsed, accepted, refused, and_then, on_token, on_option, rest, chain}
use Rattle.grammar.specs.Derivation.{Tokens, Stands, Spells, normal}
use Rattle.grammar.proofs.Bytes.{heads, tails}
use Rattle.grammar.proofs.Growth.{operator_end}
use Rattle.lexer.specs.Spelling.{Spelling}
use Rattle.lexer.proofs.Spellings.{one_kind, end_place}
use Rattle.grammar.proofs.Standing.{stands, stands_spelled, spells_in, spells_append, is_read, normally}
use Rattle.faults.proofs.Languages.{Joins}

-- the tokens begin with one of that kind and spelling; at the end of the text there are none
abbrev pub Ahead : Kind → List ℕ → Tokens → Type 0
Ahead k w us = (k ≡ ending → us ≡ []) × ((k ≡ ending → ⊥) → (more : Tokens) × (us ≡ w ∷ more))

-- ... with what is read at a place
abbrev pub AheadAt : List ℕ → ℕ → Tokens → Type 0
AheadAt text n us = (k : Kind) (s m : ℕ) → token_at text n ≡ token k s m → Ahead k (normal (part text s m)) us

pub record SoleTo (L S : Tokens → Type 0) (text : List ℕ) (at n : ℕ) : Type 0 where
  pub tokens : Tokens
  pub spells : Spells normal text at n tokens
  pub sole : (us xs ys : Tokens) → AheadAt text n us → tokens ++ us ≡ xs ++ ys → L xs → S ys → xs ≡ tokens

pub record BlockedAt (L S : Tokens → Type 0) (text : List ℕ) (at place : ℕ) : Type 0 where
  pub before : Tokens
  pub end : ℕ
  pub spells : Spells normal text at end before
  pub kind : Kind
  pub next : ℕ
  pub stands : token_at text end ≡ token kind place next
  pub blocked : (us xs ys : Tokens) → Ahead kind (normal (part text place next)) us → before ++ us ≡ xs ++ ys → L xs → S ys → ⊥

abbrev SoleFrom : {A : Type 0} → (Tokens → Type 0) → (Tokens → Type 0) → List ℕ → ℕ → Parsed A → Type 0
SoleFrom L S text at (accepted a n) = SoleTo L S text at n
SoleFrom L S text at (refused number place) = number ≡ 2 → BlockedAt L S text at place

pub record Sole {A : Type 0} (L S : Tokens → Type 0) (text : List ℕ) (at : ℕ) (r : Parsed A) : Type 0 where
  pub says : SoleFrom L S text at r

-- ---- combinators

pub by_other : {A : Type 0} {L S : Tokens → Type 0} {text : List ℕ} {at place : ℕ} (number : ℕ) → (number ≡ 2 → ⊥) → Sole {A = A} L S text at (refused number place)
by_other number f = record { says = λ e. absurd (f e) }

pub refused_sole : {A : Type 0} {L S : Tokens → Type 0} {text : List ℕ} {at : ℕ} {k : Kind} {s n : ℕ} → token_at text at ≡ token k s n → ((us xs ys : Tokens) → Ahead k (normal (part text s n)) us → us ≡ xs ++ ys → L xs → S ys → ⊥) → Sole {A = A} L S text at (refused 2 s)
refused_sole {at = at} {k = k} {n = n} e h = record { says = λ q. record { before = []; end = at; spells = refl; kind = k; next = n; stands = e; blocked = h } }

pub one_sole : {A : Type 0} {L S : Tokens → Type 0} {text : List ℕ} {at n : ℕ} {w : List ℕ} (a : A) → Stands normal text at n w → ((us xs ys : Tokens) → w ∷ us ≡ xs ++ ys → L xs → S ys → xs ≡ w ∷ []) → Sole L S text at (accepted a n)
one_sole {n = n} {w = w} a st h = record { says = record { tokens = w ∷ []; spells = (n, st, refl); sole = λ us xs ys ah e l s. h us xs ys e l s } }

-- where less may follow
pub closer : {A : Type 0} {L S S2 : Tokens → Type 0} {text : List ℕ} {at : ℕ} {r : Parsed A} → ((ts : Tokens) → S2 ts → S ts) → Sole L S text at r → Sole L S2 text at r
closer {r = accepted a n} g x = record { says = record { tokens = x.says.tokens; spells = x.says.spells; sole = λ us xs ys ah e l s. x.says.sole us xs ys ah e l (g ys s) } }
closer {r = refused k q} g x =
    record { says = λ e. let y = x.says e in record { before = y.before; end = y.end; spells = y.spells; kind = y.kind; next = y.next; stands = y.stands; blocked = λ us xs ys ah e2 l s. y.blocked us xs ys ah e2 l (g ys s) } }

pub with_value : {A B : Type 0} {L S : Tokens → Type 0} {text : List ℕ} {at : ℕ} {r : Parsed A} (f : A → B) → Sole L S text at r → Sole L S text at (and_then r (λ a n. accepted (f a) n))
with_value {r = accepted a n} f x = record { says = x.says }
with_value {r = refused k q} f x = record { says = x.says }

-- nothing is read, where the language has only what is empty
pub nothing_sole : {A : Type 0} {L S : Tokens → Type 0} {text : List ℕ} {at : ℕ} (a : A) → ((us xs ys : Tokens) → AheadAt text at us → us ≡ xs ++ ys → L xs → S ys → xs ≡ []) → Sole L S text at (accepted a at)
nothing_sole a h = record { says = record { tokens = []; spells = refl; sole = h } }

-- behind a token w, with which a token list of L goes on as one of M
pub behind : {A : Type 0} {L M S : Tokens → Type 0} {text : List ℕ} {at n : ℕ} {r : Parsed A} (w : List ℕ) → Stands normal text at n w → ((us xs ys : Tokens) → w ∷ us ≡ xs ++ ys → L xs → S ys → (zs : Tokens) × (xs ≡ w ∷ zs) × M zs) → Sole M S text n r → Sole L S text at r
behind {n = n} {r = accepted a m} w st inv x =
    let y = x.says in
    record {
      says = record {
        tokens = w ∷ y.tokens;
        spells = (n, st, y.spells);
        sole = λ us xs ys ah e l s.
            let i = inv (y.tokens ++ us) xs ys e l s in
            i.1 ∙ ap (λ (z : Tokens). w ∷ z) (y.sole us i.0 ys ah (tails (e ∙ ap (λ (z : Tokens). z ++ ys) i.1)) i.2 s);
      };
    }
behind {n = n} {r = refused k q} w st inv x =
    record {
      says = λ e.
          let y = x.says e in
          record {
            before = w ∷ y.before;
            end = y.end;
            spells = (n, st, y.spells);
            kind = y.kind;
            next = y.next;
            stands = y.stands;
            blocked = λ us xs ys ah e2 l s.
                let i = inv (y.before ++ us) xs ys e2 l s in
                y.blocked us i.0 ys ah (tails (e2 ∙ ap (λ (z : Tokens). z ++ ys) i.1)) i.2 s;
          };
    }

cancel : (ts us vs : Tokens) → ts ++ us ≡ ts ++ vs → us ≡ vs
cancel [] us vs e = e
cancel (t ∷ ts) us vs e = cancel ts us vs (tails e)

-- tokens that stand there, and what is read behind them
pub ahead_spells : (text : List ℕ) (n m : ℕ) (ts us : Tokens) → n ≤ length text → Spells normal text n m ts → AheadAt text m us → AheadAt text n (ts ++ us)
ahead_spells text n m [] us h g ah = subst (λ (x : ℕ). AheadAt text x us) (sym g) ah
ahead_spells text n m (t ∷ ts) us h (n1, st, g) ah = λ k s m2 e.
    let q : token st.kind st.start n1 ≡ token k s m2 = sym (is_read st) ∙ e in
    let i : st.start ≡ s = cc in
    let j : n1 ≡ m2 = cc in
    let w : t ≡ normal (part text s m2) = sym st.spelled ∙ rw (i, j) refl in
    (λ z. let p = end_place text n s m2 h (e ∙ ap (λ (x : Kind). token x s m2) z) in absurd (omega (arith, p.0, p.1)), λ z. (ts ++ us, ap (λ (v : List ℕ). v ∷ (ts ++ us)) w))

ahead_stands : (text : List ℕ) (n : ℕ) (k : Kind) (s m : ℕ) → token_at text n ≡ token k s m → (us : Tokens) → Ahead k (normal (part text s m)) us → AheadAt text n us
ahead_stands text n k s m e us ah k2 s2 m2 f =
    let o1 : k ≡ k2 = cc in
    let o2 : s ≡ s2 = cc in
    let o3 : m ≡ m2 = cc in
    rw (← o1, ← o2, ← o3) ah

-- a language that has no others that begin with what is read there
pub narrow : {A : Type 0} {L M S : Tokens → Type 0} {text : List ℕ} {at : ℕ} {r : Parsed A} → at ≤ length text → ((us xs ys : Tokens) → AheadAt text at us → us ≡ xs ++ ys → M xs → S ys → L xs) → Sole L S text at r → Sole M S text at r
narrow {text = text} {at = at} {r = accepted a n} h f x =
    let y = x.says in
    record { says = record { tokens = y.tokens; spells = y.spells; sole = λ us xs ys ah e l s. y.sole us xs ys ah e (f (y.tokens ++ us) xs ys (ahead_spells text at n y.tokens us h y.spells ah) e l s) s } }
narrow {text = text} {at = at} {r = refused k q} h f x =
    record {
      says = λ z.
          let y = x.says z in
          record {
            before = y.before;
            end = y.end;
            spells = y.spells;
            kind = y.kind;
            next = y.next;
            stands = y.stands;
            blocked = λ us xs ys ah e l s. y.blocked us xs ys ah e (f (y.before ++ us) xs ys (ahead_spells text at y.end y.before us h y.spells (ahead_stands text y.end y.kind q y.next y.stands us ah)) e l s) s;
          };
    }

module _ {B : Type 0} {L M N S S2 : Tokens → Type 0} {text : List ℕ} {at : ℕ} (h : at ≤ length text) (inv : (zs : Tokens) → N zs → Joins L M zs) (follow : (xs ys : Tokens) → M xs → S2 ys → S (xs ++ ys)) where
  pub second : (n : ℕ) (x : SoleTo L S text at n) → n ≤ length text → (r : Parsed B) → Sole M S2 text n r → Sole N S2 text at r
  second n x i (accepted b m) q =
      let y = q.says in
      record {
        says = record {
          tokens = x.tokens ++ y.tokens;
          spells = spells_append normally text at n m x.tokens y.tokens x.spells y.spells;
          sole = λ us zs ys ah e l s.
              let d = inv zs l in
              let e1 : x.tokens ++ (y.tokens ++ us) ≡ d.0 ++ (d.1 ++ ys) = sym (append_assoc x.tokens y.tokens us) ∙ (e ∙ (ap (λ (z : Tokens). z ++ ys) d.2 ∙ append_assoc d.0 d.1 ys)) in
              let p = x.sole (y.tokens ++ us) d.0 (d.1 ++ ys) (ahead_spells text n m y.tokens us i y.spells ah) e1 d.3 (follow d.1 ys d.4 s) in
              let e2 = cancel x.tokens (y.tokens ++ us) (d.1 ++ ys) (e1 ∙ ap (λ (z : Tokens). z ++ (d.1 ++ ys)) p) in
              d.2 ∙ (ap (λ (z : Tokens). z ++ d.1) p ∙ ap (λ (z : Tokens). x.tokens ++ z) (y.sole us d.1 ys ah e2 d.4 s));
        };
      }
  second n x i (refused k q) w =
      record {
        says = λ z.
            let y = w.says z in
            record {
              before = x.tokens ++ y.before;
              end = y.end;
              spells = spells_append normally text at n y.end x.tokens y.before x.spells y.spells;
              kind = y.kind;
              next = y.next;
              stands = y.stands;
              blocked = λ us zs ys ah e l s.
                  let d = inv zs l in
                  let e1 : x.tokens ++ (y.before ++ us) ≡ d.0 ++ (d.1 ++ ys) = sym (append_assoc x.tokens y.before us) ∙ (e ∙ (ap (λ (z : Tokens). z ++ ys) d.2 ∙ append_assoc d.0 d.1 ys)) in
                  let g = ahead_stands text y.end y.kind q y.next y.stands us ah in
                  let p = x.sole (y.before ++ us) d.0 (d.1 ++ ys) (ahead_spells text n y.end y.before us i y.spells g) e1 d.3 (follow d.1 ys d.4 s) in
                  y.blocked us d.1 ys ah (cancel x.tokens (y.before ++ us) (d.1 ++ ys) (e1 ∙ ap (λ (z : Tokens). z ++ (d.1 ++ ys)) p)) d.4 s;
            };
      }

  pub then_sole : {A : Type 0} {p : Parsed A} {f : A → ℕ → Parsed B} → Sole L S text at p → ((a : A) (n : ℕ) → at ≤ n → n ≤ length text → p ≡ accepted a n → Sole M S2 text n (f a n)) → Sole N S2 text at (and_then p f)
  then_sole {p = accepted a n} {f = f} x g =
      let i = spells_in normally text at n x.says.tokens h x.says.spells in
      second n x.says i.1 (f a n) (g a n i.0 i.1 refl)
  then_sole {p = refused k q} {f = f} x g =
      record {
        says = λ z.
            let y = x.says z in
            record {
              before = y.before;
              end = y.end;
              spells = y.spells;
              kind = y.kind;
              next = y.next;
              stands = y.stands;
              blocked = λ us zs ys ah e l s.
                  let d = inv zs l in
                  y.blocked us d.0 (d.1 ++ ys) ah (e ∙ (ap (λ (z : Tokens). z ++ ys) d.2 ∙ append_assoc d.0 d.1 ys)) d.3 (follow d.1 ys d.4 s);
            };
      }

pub cond_sole : {A : Type 0} {L S : Tokens → Type 0} {text : List ℕ} {at : ℕ} {a b : Parsed A} (t : Bool) → (t ≡ true → Sole L S text at a) → (t ≡ false → Sole L S text at b) → Sole L S text at (cond t a b)
cond_sole true f g = f refl
cond_sole false f g = g refl

pub option_sole : {A B : Type 0} {L S : Tokens → Type 0} {text : List ℕ} {at : ℕ} {b : Parsed B} {f : A → Parsed B} (o : Option A) → (o ≡ none → Sole L S text at b) → ((a : A) → o ≡ some a → Sole L S text at (f a)) → Sole L S text at (on_option o b f)
option_sole none g h = g refl
option_sole (some a) g h = h a refl

pub token_sole : {A : Type 0} {L S : Tokens → Type 0} {f : Kind → ℕ → ℕ → Parsed A} (text : List ℕ) (at : ℕ) → ((k : Kind) (s n : ℕ) → token_at text at ≡ token k s n → Sole L S text at (f k s n)) → Sole L S text at (on_token (token_at text at) f)
token_sole {A} {L} {S} {f} text at g = go (token_at text at) refl
  where
    go : (r : TokenRead) → token_at text at ≡ r → Sole L S text at (on_token r f)
    go (token k s n) e = g k s n e
    go (fault p) e = by_other 1 (λ q. omega (arith, q))

-- ---- operators between operands

-- a first token that is no such sign
abbrev pub NoSign : (List ℕ → Type 0) → Tokens → Type 0
NoSign P [] = Unit {0}
NoSign P (w ∷ ts) = P w → ⊥

-- signs and operands
pub data Tails (P : List ℕ → Type 0) (Q : Tokens → Type 0) : Tokens → Type 0 where
  no_tail : Tails P Q []
  a_tail : (w : List ℕ) (ts us : Tokens) → P w → Q ts → Tails P Q us → Tails P Q (w ∷ ts ++ us)

tails_more : (P : List ℕ → Type 0) (Q : Tokens → Type 0) (us : Tokens) (w : List ℕ) (ts : Tokens) → Tails P Q us → P w → Q ts → Tails P Q (us ++ w ∷ ts)
tails_more P Q us w ts no_tail p q = subst (Tails P Q) (ap (λ (z : Tokens). w ∷ z) (append-nil ts)) (a_tail w ts [] p q no_tail)
tails_more P Q us w ts (a_tail v vs ws p2 q2 r) p q = subst (Tails P Q) (ap (λ (z : Tokens). v ∷ z) (sym (append_assoc vs ws (w ∷ ts)))) (a_tail v vs (ws ++ w ∷ ts) p2 q2 (tails_more P Q ws w ts r p q))

pub one_tail : (P : List ℕ → Type 0) (Q : Tokens → Type 0) (ts : Tokens) → Q ts → Joins Q (Tails P Q) ts
one_tail P Q ts x = (ts, [], sym (append-nil ts), x, no_tail)

pub more_tails : (P : List ℕ → Type 0) (Q : Tokens → Type 0) (w : List ℕ) (ts us : Tokens) → Joins Q (Tails P Q) ts → P w → Q us → Joins Q (Tails P Q) (ts ++ w ∷ us)
more_tails P Q w ts us (xs, ys, q, x, r) p y = (xs, ys ++ w ∷ us, ap (λ (z : Tokens). z ++ w ∷ us) q ∙ append_assoc xs ys (w ∷ us), x, tails_more P Q ys w us r p y)

-- a token of another spelling than a sign
pub not_sign : (k m : Kind) (w v : List ℕ) → Spelling k w → Spelling m v → (k ≡ m → ⊥) → w ≡ v → ⊥
not_sign k m w v f g n e = n (one_kind k m w f (subst (Spelling m) (sym e) g))

-- what is ahead is the first token of a list that is not empty
pub first_bytes : (k : Kind) (w v : List ℕ) (us vs : Tokens) → Ahead k w us → us ≡ v ∷ vs → (k ≡ ending → ⊥) × (w ≡ v)
first_bytes k w v us vs ah q = (un, heads (sym (ah.1 un).1 ∙ q))
  where
    un : k ≡ ending → ⊥
    un z = let r : [] ≡ v ∷ vs = sym (ah.0 z) ∙ q in let y : ◌≡◌ {A = ℕ} 0 1 = cc in omega arith

pub first_ahead : (text : List ℕ) (at : ℕ) (k : Kind) (s n : ℕ) → at ≤ length text → token_at text at ≡ token k s n → (us vs : Tokens) (v : List ℕ) → Ahead k (normal (part text s n)) us → us ≡ v ∷ vs → (m : Kind) → Spelling m v → (k ≡ m → ⊥) → ⊥
first_ahead text at k s n h e us vs v ah q m g un = let b = first_bytes k (normal (part text s n)) v us vs ah q in not_sign k m (normal (part text s n)) v (stands_spelled normally text at k s n h b.0 e) g un b.1

module _ {O A : Type 0} (text : List ℕ) (P : List ℕ → Type 0) (Q R S : Tokens → Type 0) (join : O → A → A → A) (operator : Kind → Option O) (no_end : operator ending ≡ none)
    (sign-kind : (w : List ℕ) → P w → (k : Kind) × (o : O) × Spelling k w × (operator k ≡ some o)) (kind-sign : (k : Kind) (w : List ℕ) (o : O) → operator k ≡ some o → Spelling k w → P w)
    (after : (w : List ℕ) (us : Tokens) → P w → S (w ∷ us)) (chained : (xs : Tokens) → R xs → Joins Q (Tails P Q) xs) (operand : ℕ → Parsed A) (ho : (at : ℕ) → at ≤ length text → Sole Q S text at (operand at)) where
  abbrev Ends : Tokens → Type 0
  Ends ys = S ys × NoSign P ys

  follow : (xs ys : Tokens) → Tails P Q xs → Ends ys → S (xs ++ ys)
  follow xs ys no_tail e = e.0
  follow xs ys (a_tail w ts us p q r) e = after w ((ts ++ us) ++ ys) p

  no_more : (n : ℕ) (a : A) (k : Kind) (s m : ℕ) → n ≤ length text → token_at text n ≡ token k s m → operator k ≡ none → Sole (Tails P Q) Ends text n (accepted a n)
  no_more n a k s m h e z = nothing_sole a (λ us xs ys ah q l t. go us xs ys (ah k s m e) q l)
    where
      go : (us xs ys : Tokens) → Ahead k (normal (part text s m)) us → us ≡ xs ++ ys → Tails P Q xs → xs ≡ []
      go us xs ys ah q no_tail = refl
      go us xs ys ah q (a_tail w ts vs p o r) =
          let c = sign-kind w p in
          absurd (first_ahead text n k s m h e us ((ts ++ vs) ++ ys) w ah q c.0 c.2 (λ i. none≢some c.1 (sym z ∙ ap operator i ∙ c.3)))

  goes_on_lem : (w : List ℕ) → P w → (us xs ys : Tokens) → w ∷ us ≡ xs ++ ys → Tails P Q xs → Ends ys → (zs : Tokens) × (xs ≡ w ∷ zs) × Joins Q (Tails P Q) zs
  goes_on_lem w p us xs ys e no_tail t = absurd (subst (NoSign P) (sym e) t.1 p)
  goes_on_lem w p us xs ys e (a_tail v ts vs p2 q r) t = (ts ++ vs, ap (λ (z : List ℕ). z ∷ (ts ++ vs)) (sym (heads e)), (ts, vs, refl, q, r))

  rest_sole : (f : ℕ) (a : A) (n : ℕ) → n ≤ length text → length text < n + f → Sole (Tails P Q) Ends text n (rest join operator operand text f a n)
  unfolding rest
  rest_sole zero a n h b = absurd (omega arith)
  rest_sole (suc f) a n h b =
      token_sole text n
      (λ k s m e. option_sole (operator k) (λ z. no_more n a k s m h e z)
      (λ o eo.
      let ne = operator_end operator no_end k o eo in
      let mv = token_at_moved text n k s m h e in
      let lt : s < m = mv.3 ne in
      let p = kind-sign k (normal (part text s m)) o eo (stands_spelled normally text n k s m h ne e) in
      behind (normal (part text s m)) (stands normally text n k s m h ne e) (goes_on_lem (normal (part text s m)) p)
      (then_sole {L = Q} {M = Tails P Q} {N = Joins Q (Tails P Q)} {S = S} {S2 = Ends} mv.2 (λ zs j. j) follow (ho m mv.2) (λ c l i j eq. rest_sole f (join o a c) l j (omega (arith, mv.0))))))

  pub chain_sole : (at : ℕ) → at ≤ length text → Sole R Ends text at (chain join operator operand text at)
  unfolding chain
  chain_sole at h = then_sole {L = Q} {M = Tails P Q} {N = R} {S = S} {S2 = Ends} h chained follow (ho at h) (λ a n i j eq. rest_sole (suc (length text)) a n j (omega arith))
