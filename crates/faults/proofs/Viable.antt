-- What a parser accepts spells tokens of its language; what stands before a token that it refuses by 2 begins such tokens. One law a
-- combinator. Assumes nothing.
use mathlib.Core.Path.{◌≡◌, refl, sym, subst}
use mathlib.Core.List.{List, [], ◌∷◌, ◌++◌, append_assoc, append-nil}
use mathlib.Core.Bool.{Bool, true, false, cond}
use mathlib.Core.Option.{Option, none, some}
use Prim.Native.Nat.{ℕ, zero, suc, ◌≤◌}
use native.Mathlib.Omega.{arith}
use lib.ListN.{length}
use Rattle.lexer.specs.Bytes.{part}
use Rattle.lexer.specs.Token.{Kind, ending, is, TokenRead, token, fault}
use Rattle.lexer.specs.Lexer.{token_at}
use Rattle.lexer.proofs.Laws.{token_at_moved}
use Rattle.grammar.specs.Parsed.{Parsed, accepted, refused, and_then, on_token, on_option, sign, expected, followed, rest, chain}
use Rattle.grammar.specs.Derivation.{Tokens, Stands, Spells, normal}
use Rattle.grammar.proofs.Combine.{one_sign}
use Rattle.grammar.proofs.Growth.{operator_end}
use Rattle.lexer.specs.Spelling.{Spelling}
use Rattle.grammar.proofs.Standing.{stands, stands_spelled, spells_in, spells_append, normally}
use Rattle.grammar.proofs.Derived.{sign_is}
use Rattle.faults.specs.Grammar.{BegunBefore}

pub record SpeltIn (L : Tokens → Type 0) (text : List ℕ) (at n : ℕ) : Type 0 where
  pub tokens : Tokens
  pub spells : Spells normal text at n tokens
  pub is_in : L tokens

-- a refusal by another number says nothing here
abbrev pub BegunIfTwo : (Tokens → Type 0) → List ℕ → ℕ → ℕ → ℕ → Type 0
BegunIfTwo L text at number place = number ≡ 2 → BegunBefore L text at place

abbrev pub ViableFrom : {A : Type 0} → (Tokens → Type 0) → List ℕ → ℕ → Parsed A → Type 0
ViableFrom L text at (accepted a n) = SpeltIn L text at n
ViableFrom L text at (refused number place) = BegunIfTwo L text at number place

pub record Viable {A : Type 0} (L : Tokens → Type 0) (text : List ℕ) (at : ℕ) (r : Parsed A) : Type 0 where
  pub shown : ViableFrom L text at r

-- ---- combinators

pub by_other : {A : Type 0} {L : Tokens → Type 0} {text : List ℕ} {at place : ℕ} (number : ℕ) → (number ≡ 2 → ⊥) → Viable {A = A} L text at (refused number place)
by_other number f = record { shown = λ e. absurd (f e) }

-- a token that is refused where the tokens z might stand
pub refused_here : {A : Type 0} {L : Tokens → Type 0} {text : List ℕ} {at : ℕ} {k : Kind} {s n : ℕ} (z : Tokens) → L z → token_at text at ≡ token k s n → Viable {A = A} L text at (refused 2 s)
refused_here {at = at} {k = k} {n = n} z h e = record { shown = λ q. record { before = []; end = at; spells = refl; kind = k; next = n; stands = e; more = z; begun = h } }

pub one_token : {A : Type 0} {L : Tokens → Type 0} {text : List ℕ} {at n : ℕ} {w : List ℕ} (a : A) → Stands normal text at n w → L (w ∷ []) → Viable L text at (accepted a n)
one_token {n = n} {w = w} a st h = record { shown = record { tokens = w ∷ []; spells = (n, st, refl); is_in = h } }

pub wider : {A : Type 0} {L M : Tokens → Type 0} {text : List ℕ} {at : ℕ} {r : Parsed A} → ((ts : Tokens) → L ts → M ts) → Viable L text at r → Viable M text at r
wider {r = accepted a n} f x = record { shown = record { tokens = x.shown.tokens; spells = x.shown.spells; is_in = f _ x.shown.is_in } }
wider {r = refused k q} f x = record { shown = λ e. let y = x.shown e in record { before = y.before; end = y.end; spells = y.spells; kind = y.kind; next = y.next; stands = y.stands; more = y.more; begun = f _ y.begun } }

-- the same parser with another value
pub with_value : {A B : Type 0} {L : Tokens → Type 0} {text : List ℕ} {at : ℕ} {r : Parsed A} (f : A → B) → Viable L text at r → Viable L text at (and_then r (λ a n. accepted (f a) n))
with_value {r = accepted a n} f x = record { shown = x.shown }
with_value {r = refused k q} f x = record { shown = x.shown }

-- behind tokens ts
pub behind : {A : Type 0} {L M : Tokens → Type 0} {text : List ℕ} {at n : ℕ} {r : Parsed A} (ts : Tokens) → Spells normal text at n ts → ((us : Tokens) → M us → L (ts ++ us)) → Viable M text n r → Viable L text at r
behind {text = text} {at = at} {n = n} {r = accepted a m} ts sp f x = record { shown = record { tokens = ts ++ x.shown.tokens; spells = spells_append normally text at n m ts x.shown.tokens sp x.shown.spells; is_in = f _ x.shown.is_in } }
behind {L = L} {text = text} {at = at} {n = n} {r = refused k q} ts sp f x =
    record {
      shown = λ e.
          let y = x.shown e in
          record {
            before = ts ++ y.before;
            end = y.end;
            spells = spells_append normally text at n y.end ts y.before sp y.spells;
            kind = y.kind;
            next = y.next;
            stands = y.stands;
            more = y.more;
            begun = subst L (sym (append_assoc ts y.before y.more)) (f _ y.begun);
          };
    }

-- one language behind another, in which the tokens z are
pub then_viable : {A B : Type 0} {L M N : Tokens → Type 0} {text : List ℕ} {at : ℕ} {p : Parsed A} {f : A → ℕ → Parsed B} → at ≤ length text → ((ts us : Tokens) → L ts → M us → N (ts ++ us)) → (z : Tokens) → M z → Viable L text at p
    → ((a : A) (n : ℕ) → n ≤ length text → Viable M text n (f a n)) → Viable N text at (and_then p f)
then_viable {text = text} {at = at} {p = accepted a n} h j z w x g =
    let s = x.shown in
    behind s.tokens s.spells (λ us m. j s.tokens us s.is_in m) (g a n (spells_in normally text at n s.tokens h s.spells).1)
then_viable {N = N} {p = refused k q} h j z w x g =
    record {
      shown = λ e.
          let y = x.shown e in
          record { before = y.before; end = y.end; spells = y.spells; kind = y.kind; next = y.next; stands = y.stands; more = y.more ++ z; begun = subst N (append_assoc y.before y.more z) (j (y.before ++ y.more) z y.begun w) };
    }

pub cond_viable : {A : Type 0} {L : Tokens → Type 0} {text : List ℕ} {at : ℕ} {a b : Parsed A} (t : Bool) → (t ≡ true → Viable L text at a) → (t ≡ false → Viable L text at b) → Viable L text at (cond t a b)
cond_viable true f g = f refl
cond_viable false f g = g refl

pub option_viable : {A B : Type 0} {L : Tokens → Type 0} {text : List ℕ} {at : ℕ} {b : Parsed B} {f : A → Parsed B} (o : Option A) → (o ≡ none → Viable L text at b) → ((a : A) → o ≡ some a → Viable L text at (f a)) → Viable L text at (on_option o b f)
option_viable none g h = g refl
option_viable (some a) g h = h a refl

pub token_viable : {A : Type 0} {L : Tokens → Type 0} {f : Kind → ℕ → ℕ → Parsed A} (text : List ℕ) (at : ℕ) → ((k : Kind) (s n : ℕ) → token_at text at ≡ token k s n → Viable L text at (f k s n)) → Viable L text at (on_token (token_at text at) f)
token_viable {A} {L} {f} text at g = go (token_at text at) refl
  where
    go : (r : TokenRead) → token_at text at ≡ r → Viable L text at (on_token r f)
    go (token k s n) e = g k s n e
    go (fault p) e = by_other 1 (λ q. omega (arith, q))

module _ (text : List ℕ) where
  -- a sign of one spelling behind what is read
  pub followed_viable : {A : Type 0} (w : Kind) (v : List ℕ) → ((x : List ℕ) → Spelling w x → x ≡ v) → is ending w ≡ false → (x : A) (at : ℕ) → at ≤ length text → Viable (λ ts. ts ≡ v ∷ []) text at (followed text (sign w ∷ []) x at)
  unfolding expected
  followed_viable w v f ne x at h =
      rw (one_sign text w x at)
      (with_value (λ u. x) (token_viable text at (λ k s n e. cond_viable (is k w) (λ t. one_token tt (sign_is normally text w v f ne at k s n h e t) refl) (λ t. refused_here (v ∷ []) refl e))))

  -- what may follow a token list of R
  abbrev Tail : (Tokens → Type 0) → Tokens → Type 0
  Tail R us = (ts : Tokens) → R ts → R (ts ++ us)

  no_tail : (R : Tokens → Type 0) → Tail R []
  no_tail R ts h = subst R (sym (append-nil ts)) h

  module _ {O A : Type 0} (Q R : Tokens → Type 0) (join : O → A → A → A) (operator : Kind → Option O) (no_end : operator ending ≡ none) (one : (ts : Tokens) → Q ts → R ts) (more : (k : Kind) (w : List ℕ) (o : O) → operator k ≡ some o → Spelling k w → (ts us : Tokens) → R ts → Q us → R (ts ++ w ∷ us)) (operand : ℕ → Parsed A) (ho : (at : ℕ) → at ≤ length text → Viable Q text at (operand at)) where
    rest_viable : (f : ℕ) (a : A) (n : ℕ) → n ≤ length text → Viable (Tail R) text n (rest join operator operand text f a n)
    unfolding rest
    rest_viable zero a n h = record { shown = record { tokens = []; spells = refl; is_in = no_tail R } }
    rest_viable (suc f) a n h =
        token_viable text n
        (λ k s m e. option_viable (operator k) (λ z. record { shown = record { tokens = []; spells = refl; is_in = no_tail R } })
        (λ o eo.
        let ne = operator_end operator no_end k o eo in
        let w = normal (part text s m) in
        let sp = stands_spelled normally text n k s m h ne e in
        behind {M = λ vs. Tail R (w ∷ vs)} (w ∷ []) (m, stands normally text n k s m h ne e, refl) (λ us g. g)
        (then_viable {L = Q} {M = Tail R} (token_at_moved text n k s m h e).2
        (λ ts us q t xs r. subst R (append_assoc xs (w ∷ ts) us) (t (xs ++ w ∷ ts) (more k w o eo sp xs ts r q))) [] (no_tail R) (ho m (token_at_moved text n k s m h e).2)
        (λ b l i. rest_viable f (join o a b) l i))))

    pub chain_viable : (at : ℕ) → at ≤ length text → Viable R text at (chain join operator operand text at)
    unfolding chain
    chain_viable at h = then_viable {L = Q} {M = Tail R} h (λ ts us q t. t ts (one ts q)) [] (no_tail R) (ho at h) (λ a n i. rest_viable (suc (length text)) a n i)
