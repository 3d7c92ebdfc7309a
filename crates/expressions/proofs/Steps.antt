-- Laws of steps: what an answer says of the part read, and what answers make a contract. Assumes nothing.
use mathlib.Core.Path.{◌≡◌, refl, ap, ap₂, sym, ◌∙◌, subst}
use mathlib.Core.List.{List, [], ◌∷◌, ◌++◌}
use mathlib.Core.Bool.{Bool, true, false}
use Prim.Native.Nat.{ℕ, ◌+◌, ◌^◌, ◌<◌}
use native.Mathlib.Omega.{arith}
use lib.IntN.{pos}
use lib.ListN.{length, set, length-append}
use lib.Seq.{sets}
use lib.Dec.{eqb}
use borrow.Author.Tests.{eq-eqb, ne_eqb, eqb-true, eqb-false}
use Rattle.limits.specs.Limits.{no_token, not_allowed}
use Rattle.lexer.specs.Token.{Kind, kind_number, ending, minus, is, TokenRead, token, fault}
use Rattle.lexer.specs.Lexer.{token_at}
use Rattle.lexer.specs.Results.{token_step}
use Rattle.lexer.specs.declared.Place.{Place}
use Rattle.lexer.specs.Results.{Step}
use Rattle.std.specs.Prelude.{Ok, Err}
use Rattle.limits.specs.declared.Refusal.{Refusal}
use Rattle.limits.specs.declared.Refusal.TheVariants.{NotAllowed, NoToken}
use Rattle.limits.specs.Refusals.{refusal_number, refusal_place}
use Rattle.lexer.proofs.Laws.{cond_prop, token_at_moved}
use Rattle.grammar.specs.Parsed.{Parsed, accepted, refused, and_then, on_token, sign, expected, phrase, followed}
use Rattle.grammar.proofs.Growth.{Grown}
use Rattle.leb128.proofs.Stores.{sets_append}
use Rattle.grammar.proofs.Combine.{apart, same_value, same_end}
use Rattle.phrases.proofs.Writing.{same_refusal, got, refused_part}
use Rattle.phrases.proofs.Writing as W
use Rattle.expressions.specs.Inner.Steps.{step_at, Followed, looked_ahead, Parses, Room}
use Rattle.expressions.specs.Inner.Readers.{StandsAt, closed_step, behind_minus}

-- ---- the constructors of a step are apart, and keep what they hold

pub done_refused : {A : Type 0} {h : Place} {e : Refusal} → ◌≡◌ {A = Step} (Ok h) (Err e) → A
done_refused e = let z : ◌≡◌ {A = ℕ} 0 1 = cc in absurd (omega arith)

pub done_place : {h g : Place} → ◌≡◌ {A = Step} (Ok h) (Ok g) → h ≡ g
done_place e = cc

-- ---- the token behind a part

-- p is refused so, or what stands behind it is no token
pub record Refuses {A : Type 0} (text : List ℕ) (p : Parsed A) (k q : ℕ) : Type 0 where
  pub looked : looked_ahead text p ≡ refused k q

-- the test of a token's kind by its number
module _ {text : List ℕ} {h : Place} (k : StandsAt text h) (w : Kind) where
  pub told : h.kind ≡ kind_number w → is k.kind w ≡ true
  unfolding is
  told e = eq-eqb (kind_number k.kind) (kind_number w) (sym k.numbered ∙ e)

  pub untold : (h.kind ≡ kind_number w → ⊥) → is k.kind w ≡ false
  unfolding is
  untold e = ne_eqb (kind_number k.kind) (kind_number w) (λ f. e (k.numbered ∙ f))

-- the same token, with other bytes written
abbrev pub up_to : Place → ℕ → Place
up_to h t = record { at = h.at; kind = h.kind; start = h.start; end = h.end; to = t; number = h.number; value = h.value }

pub stands_up_to : {text : List ℕ} {h : Place} (t : ℕ) → StandsAt text h → StandsAt text (up_to h t)
stands_up_to t s = record { kind = s.kind; read = s.read; numbered = s.numbered }

-- ---- an answer, taken apart by a `let .. else`

-- an accepted part, with h the token behind it and t the end of its code
pub record Accepted {A : Type 0} (text : List ℕ) (code : A → List ℕ) (p : Parsed A) (to : ℕ) (before after : List ℕ) (h : Place) (t : ℕ) : Type 0 where
  pub tree : A
  pub is : p ≡ accepted tree h.at
  pub stands : StandsAt text h
  pub count : t ≡ to + length (code tree)
  pub wrote : after ≡ sets before to (code tree)

-- what is accepted with a token behind it is accepted
pub record Ahead {A : Type 0} (text : List ℕ) (p : Parsed A) (y : Followed A) (n : ℕ) : Type 0 where
  pub is : p ≡ accepted y.part n
  pub read : token_at text n ≡ token y.kind y.start y.end

pub looked : {A : Type 0} (text : List ℕ) (p : Parsed A) (y : Followed A) (n : ℕ) → looked_ahead text p ≡ accepted y n → Ahead text p y n
unfolding looked_ahead
looked {A} text (accepted a m) y n e = go (token_at text m) refl e
  where
    go : (r : TokenRead) → token_at text m ≡ r → on_token r (λ k s l. accepted (record { part = a; kind = k; start = s; end = l }) m) ≡ accepted y n → Ahead text (accepted a m) y n
    go (token k s l) i f =
        let v : ◌≡◌ {A = Followed A} (record { part = a; kind = k; start = s; end = l }) y = same_value f in
        let j : m ≡ n = same_end f in
        record { is = rw (← v, ← j); read = rw (← v, ← j) i }
    go (fault q) i f = apart (sym f)
looked text (refused k q) y n e = apart (sym e)

module _ {A : Type 0} {text : List ℕ} {code : A → List ℕ} {p : Parsed A} {to : ℕ} {before after : List ℕ} where
  module _ {r : Step} (c : Parses text code p to before after r) where
    pub accepted_by : {h : Place} → r ≡ Ok h → Accepted text code p to before after h h.to
    accepted_by {h} e =
        let g = got c.writes e in
        let l = looked text p g.tree h.at g.is in
        let y = g.tree in
        let hs : h.start ≡ y.start = ap (λ (x : ℕ × ℕ × ℕ). x.1) g.tells_it in
        let he : h.end ≡ y.end = ap (λ (x : ℕ × ℕ × ℕ). x.2) g.tells_it in
        record {
          tree = y.part;
          is = l.is;
          stands = record { kind = y.kind; read = l.read ∙ ap₂ (λ (s n : ℕ). token y.kind s n) (sym hs) (sym he); numbered = ap (λ (x : ℕ × ℕ × ℕ). x.0) g.tells_it };
          count = g.ended;
          wrote = g.wrote;
        }

    pub refused_by : {e : Refusal} → r ≡ Err e → Refuses text p (refusal_number e) (refusal_place e)
    refused_by e = record { looked = refused_part c.writes e }

  -- ---- and made

  pub accepts : {r : Step} {h : Place} → r ≡ Ok h → Accepted text code p to before after h h.to → Parses text code p to before after r
  unfolding looked_ahead
  accepts {h = h} e a = record {
    writes = W.writes e (record {
      tree = record { part = a.tree; kind = a.stands.kind; start = h.start; end = h.end };
      is = rw (a.is, a.stands.read);
      ended = a.count;
      tells_it = ap (λ (x : ℕ). (x, h.start, h.end)) a.stands.numbered;
      wrote = a.wrote;
    });
  }

  -- with other bytes written than the token was read with
  pub accepts_up_to : {r : Step} {h : Place} {t : ℕ} → r ≡ Ok (up_to h t) → Accepted text code p to before after h t → Parses text code p to before after r
  accepts_up_to {t = t} e a = accepts e (record { tree = a.tree; is = a.is; stands = stands_up_to t a.stands; count = a.count; wrote = a.wrote })

  pub refuses : {e : Refusal} → Refuses text p (refusal_number e) (refusal_place e) → Parses text code p to before after (Err e)
  refuses e = record { writes = W.refuses refl e.looked }

  -- a step's answer under another name, and of the same part
  pub answers : {r s : Step} → r ≡ s → Parses text code p to before after s → Parses text code p to before after r
  answers e c = subst (Parses text code p to before after) (sym e) c

  pub same_part : {q : Parsed A} {r : Step} → q ≡ p → Parses text code p to before after r → Parses text code q to before after r
  same_part {r = r} e c = subst (λ (x : Parsed A). Parses text code x to before after r) (sym e) c

-- a refusal passed on, where it refuses a larger part too
pub passed : {A B : Type 0} {text : List ℕ} {code : A → List ℕ} {more : B → List ℕ} {p : Parsed A} {w : Parsed B} {to u : ℕ} {b a before after : List ℕ} {r : Step} {e : Refusal} → Parses text code p u b a r → r ≡ Err e → (Refuses text p (refusal_number e) (refusal_place e) → Refuses text w (refusal_number e) (refusal_place e)) → Parses text more w to before after r
passed c e f = answers e (refuses (f (refused_by c e)))

-- a refusal of the part itself
pub refused_now : {A : Type 0} {text : List ℕ} {p : Parsed A} {k q : ℕ} → p ≡ refused k q → Refuses text p k q
unfolding looked_ahead
refused_now e = record { looked = rw e }

-- what goes on by reading a token is refused where what stands behind the first part is none
module _ {A B : Type 0} (text : List ℕ) (f : A → ℕ → Parsed B) (g : (a : A) (n q : ℕ) → token_at text n ≡ fault q → Refuses text (f a n) no_token q) where
  pub then_refused : (p : Parsed A) {k q : ℕ} → Refuses text p k q → Refuses text (and_then p f) k q
  unfolding looked_ahead
  then_refused (accepted a n) {k} {q} e = go (token_at text n) refl e.looked
    where
      go : (r : TokenRead) → token_at text n ≡ r → ◌≡◌ {A = Parsed (Followed A)} (on_token r (λ w s m. accepted (record { part = a; kind = w; start = s; end = m }) n)) (refused k q) → Refuses text (f a n) k q
      go (token w s m) i d = apart d
      go (fault p) i d = record { looked = (g a n p i).looked ∙ same_refusal d }
  then_refused (refused l r) e = record { looked = same_refusal e.looked }

-- ---- the token that `ahead` reads

module _ (text : List ℕ) (at to : ℕ) {w : Step} (e : w ≡ token_step (token_at text at)) where
  pub ahead_done : {x : Place} → w ≡ Ok x → Ok (record { at = at; kind = x.kind; start = x.start; end = x.end; to = to; number = x.number; value = x.value }) ≡ step_at (token_at text at) at to
  ahead_done {x} i = go (token_at text at) (sym i ∙ e)
    where
      go : (r : TokenRead) → Ok x ≡ token_step r → Ok (record { at = at; kind = x.kind; start = x.start; end = x.end; to = to; number = x.number; value = x.value }) ≡ step_at r at to
      go (token k s n) d =
          let j : x ≡ record { at = s; kind = kind_number k; start = s; end = n; to = 0; number = 0; value = pos 0 } = done_place d in
          ap (λ (y : Place). Ok (record { at = at; kind = y.kind; start = y.start; end = y.end; to = to; number = y.number; value = y.value })) j
      go (fault q) d = done_refused d

  pub ahead_none : {e : Refusal} → w ≡ Err e → w ≡ step_at (token_at text at) at to
  ahead_none {e = f} i = i ∙ go (token_at text at) (sym i ∙ e)
    where
      go : (r : TokenRead) → Err f ≡ token_step r → Err f ≡ step_at r at to
      go (token k s n) d = done_refused (sym d)
      go (fault p) d = d

-- a step at a token
stands_at : {h : Place} (text : List ℕ) (n u : ℕ) (r : TokenRead) → token_at text n ≡ r → Ok h ≡ step_at r n u → (h.at ≡ n) × (h.to ≡ u) × StandsAt text h
stands_at {h} text n u (token k s m) i e =
    let j = done_place e in
    let ha : h.at ≡ n = ap (λ (x : Place). x.at) j in
    let hs : h.start ≡ s = ap (λ (x : Place). x.start) j in
    let he : h.end ≡ m = ap (λ (x : Place). x.end) j in
    (ha, ap (λ (x : Place). x.to) j, record { kind = k; read = rw (ha, hs, he) i; numbered = ap (λ (x : Place). x.kind) j })
stands_at text n u (fault q) i e = done_refused e

module _ (text : List ℕ) (at to : ℕ) {r : Step} where
  module _ {h : Place} (d : r ≡ Ok h) (e : r ≡ step_at (token_at text at) at to) where
    pub ahead_at : h.at ≡ at
    ahead_at = (stands_at text at to (token_at text at) refl (sym d ∙ e)).0

    pub ahead_stands : StandsAt text h
    ahead_stands = (stands_at text at to (token_at text at) refl (sym d ∙ e)).2

  -- what stands there is no token, and the part that begins with it is refused
  pub ahead_fault : {A : Type 0} {code : A → List ℕ} {p : Parsed A} {u : ℕ} {before after : List ℕ} {e : Refusal} → r ≡ Err e → r ≡ step_at (token_at text at) at to → ((m : ℕ) → token_at text at ≡ fault m → p ≡ refused no_token m) → Parses text code p u before after r
  ahead_fault {p = p} {e = x} d e f = answers d (refuses (refused_now (go (token_at text at) refl (sym d ∙ e))))
    where
      go : (w : TokenRead) → token_at text at ≡ w → Err x ≡ step_at w at to → p ≡ refused (refusal_number x) (refusal_place x)
      go (token w s m) i c = done_refused (sym c)
      go (fault m) i c = let j : NoToken m ≡ x = cc in f m i ∙ ap (λ (y : Refusal). refused (refusal_number y) (refusal_place y)) j

-- an accepted part that ends at n, behind which `ahead` read
pub ended : {A : Type 0} {text : List ℕ} {code : A → List ℕ} {p : Parsed A} {to t n : ℕ} {before after : List ℕ} {r : Step} (a : A) → p ≡ accepted a n → t ≡ to + length (code a) → after ≡ sets before to (code a) → r ≡ step_at (token_at text n) n t → Parses text code p to before after r
unfolding looked_ahead
ended {A} {text} {code} {p} {to} {t} {n} {before} {after} {r} a hp ht hw e = go (token_at text n) refl e
  where
    go : (w : TokenRead) → token_at text n ≡ w → r ≡ step_at w n t → Parses text code p to before after r
    go (token k s m) i d = accepts d (record { tree = a; is = hp; stands = record { kind = k; read = i; numbered = refl }; count = ht; wrote = hw })
    go (fault q) i d = answers d (refuses (record { looked = rw (hp, i) }))

-- an accepted part that has the same code as another
pub recoded : {A B : Type 0} {text : List ℕ} {code : A → List ℕ} {more : B → List ℕ} {to n : ℕ} {before after : List ℕ} {r : Step} {a : A} (b : B) → Parses text code (accepted a n) to before after r → more b ≡ code a → Parses text more (accepted b n) to before after r
unfolding looked_ahead
recoded {A} {B} {text} {code} {more} {to} {n} {before} {after} {r} {a} b c e = go r refl
  where
    go : (s : Step) → r ≡ s → Parses text more (accepted b n) to before after r
    go (Ok h) d =
        let x = accepted_by c d in
        let i : x.tree ≡ a = sym (same_value x.is) in
        accepts d (record {
          tree = b;
          is = ap (accepted b) (same_end x.is);
          stands = x.stands;
          count = rw (e, ← i) x.count;
          wrote = rw (e, ← i) x.wrote;
        })
    go (Err x) d = answers d (refuses (record { looked = behind (refused_by c d).looked }))
      where
        behind : looked_ahead text (accepted a n) ≡ refused (refusal_number x) (refusal_place x) → looked_ahead text (accepted b n) ≡ refused (refusal_number x) (refusal_place x)
        behind f = by (token_at text n) f
          where
            by : (w : TokenRead) → ◌≡◌ {A = Parsed (Followed A)} (on_token w (λ k s m. accepted (record { part = a; kind = k; start = s; end = m }) n)) (refused (refusal_number x) (refusal_place x)) → ◌≡◌ {A = Parsed (Followed B)} (on_token w (λ k s m. accepted (record { part = b; kind = k; start = s; end = m }) n)) (refused (refusal_number x) (refusal_place x))
            by (token w s m) f = apart f
            by (fault m) f = same_refusal f

-- ---- one byte of code more

-- the code of b is that of a part read before, and then the byte c
pub one_more : {A B : Type 0} {text : List ℕ} {code : A → List ℕ} {more : B → List ℕ} {p : Parsed A} {w : Parsed B} {to : ℕ} {before after : List ℕ} {h : Place} {t u : ℕ} {last : List ℕ} (a : Accepted text code p to before after h t) (b : B) (c : ℕ) → w ≡ accepted b h.at → more b ≡ code a.tree ++ (c ∷ []) → u ≡ t + 1 → last ≡ set after t c → Accepted text more w to before last h u
one_more {code = code} {to = to} {before = before} a b c hw hc hu hl = record {
  tree = b;
  is = hw;
  stands = a.stands;
  count = rw hc (simp length-append (omega (arith, a.count)));
  wrote = rw (hc, sets_append before to (code a.tree) (c ∷ []), ← a.wrote, ← a.count) hl;
}

-- ---- a closing bracket

module _ (text : List ℕ) (w : ℕ) {part : Step} {h : Place} (e : part ≡ Ok h) where
  pub closed_at : {r : Step} → h.kind ≡ w → r ≡ step_at (token_at text h.end) h.end h.to → r ≡ closed_step text w part
  closed_at k i = rw (e, eq-eqb _ _ k) i

  pub unclosed_at : (h.kind ≡ w → ⊥) → Err (NotAllowed h.start) ≡ closed_step text w part
  unclosed_at k = rw (e, ne_eqb _ _ k)

-- p, and then a token of kind w
unfoldable pub closing : {A : Type 0} → List ℕ → Kind → Parsed A → Parsed A
closing text w p = and_then p (λ a n. followed text (sign w ∷ []) a n)

closed_fault : {A : Type 0} (text : List ℕ) (w : Kind) (a : A) (n q : ℕ) → token_at text n ≡ fault q → Refuses text (followed text (sign w ∷ []) a n) no_token q
unfolding followed phrase expected
closed_fault text w a n q e = refused_now (rw e)

closing_refuses : {A : Type 0} {text : List ℕ} {p : Parsed A} (w : Kind) {k q : ℕ} → Refuses text p k q → Refuses text (closing text w p) k q
unfolding closing
closing_refuses {text = text} {p = p} w r = then_refused text _ (closed_fault text w) p r

module _ {A : Type 0} {text : List ℕ} {code : A → List ℕ} {p : Parsed A} {to : ℕ} {before after : List ℕ} (w : Kind) where
  module _ {h : Place} {t : ℕ} (a : Accepted text code p to before after h t) where
    closed_by_lem : h.kind ≡ kind_number w → closing text w p ≡ accepted a.tree h.end
    unfolding closing followed phrase expected
    closed_by_lem e = rw (a.is, a.stands.read, told a.stands w e)

    unclosed : (h.kind ≡ kind_number w → ⊥) → closing text w p ≡ refused not_allowed h.start
    unfolding closing followed phrase expected
    unclosed e = rw (a.is, a.stands.read, untold a.stands w e)

  pub closed_parses : (r : Step) → Parses text code p to before after r → Parses text code (closing text w p) to before after (closed_step text (kind_number w) r)
  closed_parses (Ok h) c =
      let a = accepted_by c refl in
      cond_prop (Parses text code (closing text w p) to before after) (eqb h.kind (kind_number w)) _ _
      (λ e. ended a.tree (closed_by_lem a (eqb-true _ _ e)) a.count a.wrote refl)
      (λ e. refuses (refused_now (unclosed a (eqb-false _ _ e))))
  closed_parses (Err e) c = refuses (closing_refuses w (refused_by c refl))

-- ---- room

-- the bytes written so far can be counted, and one more
pub room_fits : {text : List ℕ} {at to : ℕ} → Room text at to → to + 1 < 2 ^ 31
room_fits r = omega arith

-- behind an accepted part
pub room_after : {A : Type 0} {text : List ℕ} {code : A → List ℕ} {p : Parsed A} {to : ℕ} {before after : List ℕ} {at t : ℕ} {h : Place} → Room text at to → Grown code (length text) at p → Accepted text code p to before after h t → Room text h.at t
room_after {text = text} {code = code} {at = at} r g a =
    let g' = subst (Grown code (length text) at) a.is g in
    record { short = r.short; within = g'.1; room = omega (arith, a.count) }

module _ {text : List ℕ} {h : Place} {to : ℕ} (r : Room text h.at to) (k : StandsAt text h) where
  -- behind a token
  pub room_next : Room text h.end to
  room_next =
      let mv = token_at_moved text h.at k.kind h.start h.end r.within k.read in
      record { short = r.short; within = mv.2; room = omega arith }

  pub token_fits : h.start < 2 ^ 31
  token_fits =
      let mv = token_at_moved text h.at k.kind h.start h.end r.within k.read in
      omega arith

  -- behind an operator, an operand and the operator's code
  pub room_more : {A : Type 0} {code : A → List ℕ} {p : Parsed A} {before after : List ℕ} {b : Place} {u : ℕ} → (k.kind ≡ ending → ⊥) → Grown code (length text) h.end p → Accepted text code p to before after b u → Room text b.at (u + 1) × (h.at < b.at)
  room_more {code = code} e g a =
      let mv = token_at_moved text h.at k.kind h.start h.end r.within k.read in
      let i = mv.3 e in
      let g' = subst (Grown code (length text) h.end) a.is g in
      (record { short = r.short; within = g'.1; room = omega (arith, a.count) }, omega arith)

-- at the token that `ahead` read, and behind it
module _ (text : List ℕ) (at to : ℕ) {r : Step} {h : Place} {u : ℕ} (d : r ≡ Ok h) (e : r ≡ step_at (token_at text at) at to) (m : Room text at u) where
  pub room_at : Room text h.at u
  room_at = subst (λ (n : ℕ). Room text n u) (sym (ahead_at text at to d e)) m

  pub room_behind : Room text h.end u
  room_behind = room_next room_at (ahead_stands text at to d e)

-- ---- the token behind a `-`, or the one at hand

module _ (text : List ℕ) (to : ℕ) (h : Place) where
  pub behind_sign : {r : Step} → h.kind ≡ kind_number minus → r ≡ step_at (token_at text h.end) h.end to → r ≡ behind_minus text to h
  behind_sign k i = rw (eq-eqb _ _ k) i

  pub behind_none : (h.kind ≡ kind_number minus → ⊥) → Ok h ≡ behind_minus text to h
  behind_none k = rw (ne_eqb _ _ k)

  -- the two ways
  pub by_minus : {P : Type 0} {s : Step} → s ≡ behind_minus text to h → (h.kind ≡ kind_number minus → s ≡ step_at (token_at text h.end) h.end to → P) → ((h.kind ≡ kind_number minus → ⊥) → s ≡ Ok h → P) → P
  by_minus {P} {s} f m n = go (eqb h.kind (kind_number minus)) refl
    where
      go : (b : Bool) → eqb h.kind (kind_number minus) ≡ b → P
      go true i = let k = eqb-true _ _ i in m k (f ∙ sym (behind_sign k refl))
      go false i = let k = eqb-false _ _ i in n k (f ∙ sym (behind_none k))

-- `ahead` read h, and g is the token behind a `-` there, or h
module _ (text : List ℕ) (at to : ℕ) {r : Step} {h : Place} (d : r ≡ Ok h) (e : r ≡ step_at (token_at text at) at to) {s : Step} (f : s ≡ behind_minus text to h) {g : Place} (j : s ≡ Ok g) where
  pub operand_stands : StandsAt text g
  operand_stands =
      by_minus text to h f
      (λ m i. ahead_stands text h.end to j i)
      (λ n i. subst (StandsAt text) (done_place (sym i ∙ j)) (ahead_stands text at to d e))

  pub operand_room : {u : ℕ} → Room text at u → Room text g.at u
  operand_room {u} w =
      by_minus text to h f
      (λ m i. room_at text h.end to j i (room_behind text at to d e w))
      (λ n i. subst (λ (x : Place). Room text x.at u) (done_place (sym i ∙ j)) (room_at text at to d e w))
