-- Two texts that are the same up to and including what the one is refused for: each parser answers the same for both, or comes beyond that in
-- both. One law a combinator. Assumes nothing.
use mathlib.Core.Path.{◌≡◌, refl, ap, sym, ◌∙◌, subst}
use mathlib.Core.List.{List}
use mathlib.Core.Bool.{Bool, true, false, cond}
use mathlib.Core.Logic.{◌⊎◌, inl, inr}
use mathlib.Core.Option.{Option, none, some}
use Prim.Native.Nat.{ℕ, ◌≤◌, ◌<◌}
use native.Mathlib.Omega.{arith}
use lib.ListN.{length, take}
use Rattle.lexer.specs.Bytes.{part}
use Rattle.lexer.specs.Token.{Kind, TokenRead, token, fault}
use Rattle.lexer.specs.Lexer.{token_at}
use Rattle.grammar.specs.Parsed.{Parsed, accepted, refused, and_then, on_token, on_option}
use Rattle.faults.specs.Texts.{read_end}
use Rattle.faults.proofs.Reaching as Reach
use Rattle.faults.proofs.Reaching.{Reaches, reaches_le, read_start, starts_after, token_after}
use Rattle.faults.proofs.Readings.{RefusalOf, ReadsFrom, ends_at, past, step, here, above_nine, then_reads, cond_reads, option_reads, token_reads}
use Rattle.faults.proofs.Prefix.{part_same, some_byte, token_stays, read_stays}

-- reading comes to b in the text; what it finds there stands from `place` up to `end` and is found in the twin too; up to `end` both are the same
pub record Setting : Type 0 where
  pub text : List ℕ
  pub twin : List ℕ
  pub place : ℕ
  pub end : ℕ
  pub b : ℕ
  pub found : TokenRead
  pub is_found : token_at text b ≡ found
  pub starts : read_start found ≡ place
  pub ends : read_end found ≡ end
  pub some_bytes : place < end
  pub in_text_lem : end ≤ length text
  pub in_twin : end ≤ length twin
  pub same : take end text ≡ take end twin
  pub twin_found : token_at twin place ≡ found

-- reading still comes to b from there, or the place is beyond
abbrev pub OnOrBeyond : Setting → ℕ → Type 0
OnOrBeyond S n = Reaches S.text n S.b ⊎ (S.place < n)

abbrev pub place_of : {A : Type 0} → Parsed A → ℕ
place_of (accepted a n) = n
place_of (refused k q) = q

-- the same answer, or both beyond
pub data Same {A : Type 0} (S : Setting) : Parsed A → Parsed A → Type 0 where
  yields : (a : A) (n : ℕ) → OnOrBeyond S n → Same S (accepted a n) (accepted a n)
  refuses : (k q : ℕ) → q ≤ S.place → Same S (refused k q) (refused k q)
  beyond : {r r' : Parsed A} → S.place < place_of r → S.place < place_of r' → Same S r r'

-- what a parser answers, of any text of which H holds, stands at or after the place; and is the same for both texts
pub record Alike {A : Type 0} (S : Setting) (H : List ℕ → Type 0) (at : ℕ) (F : List ℕ → Parsed A) : Type 0 where
  pub reads : (t : List ℕ) → H t → ReadsFrom t at (F t)
  pub alike : H S.text → H S.twin → Reaches S.text at S.b → Same S (F S.text) (F S.twin)

abbrev pub Any : List ℕ → Type 0
Any t = Unit {0}

abbrev pub TokenIn : ℕ → Kind → ℕ → ℕ → List ℕ → Type 0
TokenIn at k s n t = token_at t at ≡ token k s n

-- ---- what is read

pub reads_after : {A : Type 0} {t : List ℕ} {at : ℕ} {r : Parsed A} → ReadsFrom t at r → at ≤ place_of r
reads_after {t = t} {r = accepted a n} h = reaches_le t h.found
reads_after {t = t} {at = at} {r = refused k q} h = go (token_at t h.found.0) refl h.found.2
  where
    go : (x : TokenRead) → token_at t h.found.0 ≡ x → RefusalOf k q x → at ≤ q
    go (token k2 s n) e g = omega (arith, reaches_le t h.found.1, (token_after t h.found.0 k2 s n e).0, g.2)
    go (fault p) e g = let l = subst (λ (y : TokenRead). h.found.0 ≤ read_start y) e (starts_after t h.found.0) in omega (arith, reaches_le t h.found.1, g.1)

pub read_after : {A : Type 0} {t : List ℕ} {at n : ℕ} {a : A} {r : Parsed A} → ReadsFrom t at r → r ≡ accepted a n → at ≤ n
read_after h e = rw e at (reads_after h)

module _ (S : Setting) where
  pub b_within : S.b ≤ S.place
  b_within = subst (λ (x : ℕ). S.b ≤ x) (ap read_start S.is_found ∙ S.starts) (starts_after S.text S.b)

  -- what is read on the parse-refusal to b
  pub record OnWay (a : ℕ) : Type 0 where
    pub twin_reads : token_at S.twin a ≡ token_at S.text a
    pub early : read_start (token_at S.text a) ≤ S.place
    pub next : (k : Kind) (s n : ℕ) → token_at S.text a ≡ token k s n → OnOrBeyond S n × (n ≤ S.end) × (a < n)

  on_reach : {a c : ℕ} → Reaches S.text a c → c ≡ S.b → OnWay a
  on_reach {a} Reach.none q =
      let f : token_at S.text a ≡ S.found = ap (token_at S.text) q ∙ S.is_found in
      let l : read_start S.found < S.end = omega (arith, S.starts, S.some_bytes) in
      let g : token_at S.twin (read_start S.found) ≡ S.found = ap (token_at S.twin) S.starts ∙ S.twin_found in
      record {
        twin_reads = read_stays S.text S.twin S.end S.in_text_lem S.in_twin S.same a S.found f l g ∙ sym f;
        early = omega (arith, ap read_start f, S.starts);
        next = λ k s n e.
            let i : n ≡ S.end = ap read_end (sym e ∙ f) ∙ S.ends in
            (inr (omega (arith, S.some_bytes)), omega arith, omega (arith, S.some_bytes, b_within));
      }
  on_reach {a} (Reach.more k s n e r) q =
      let l = reaches_le S.text r in
      let i : n < S.end = omega (arith, S.some_bytes, b_within) in
      let m = token_after S.text a k s n e in
      let w : a ≤ length S.text = omega (arith, m.0, m.1, S.in_text_lem) in
      let st = some_byte S.text S.twin S.end S.in_text_lem S.in_twin S.same a k s n w e i in
      record {
        twin_reads = token_stays S.text S.twin S.end S.in_text_lem S.in_twin S.same a k s n w e i ∙ sym e;
        early = omega (arith, ap read_start e, m.1, b_within);
        next = λ k2 s2 n2 e2.
            let f : token k s n ≡ token k2 s2 n2 = sym e ∙ e2 in
            let j : n ≡ n2 = cc in
            (inl (subst (λ (x : ℕ). Reaches S.text x S.b) j (subst (Reaches S.text n) q r)), omega arith, omega (arith, m.0));
      }

  pub on_way : {a : ℕ} → Reaches S.text a S.b → OnWay a
  on_way c = on_reach c refl

-- ---- combinators

pub run : {A : Type 0} {S : Setting} {H : List ℕ → Type 0} {at : ℕ} {F : List ℕ → Parsed A} → Alike S H at F → H S.text → H S.twin → OnOrBeyond S at → Same S (F S.text) (F S.twin)
run x h h' (inl c) = x.alike h h' c
run {S = S} {F = F} x h h' (inr l) =
    let f : S.place < place_of (F S.text) = omega (arith, reads_after (x.reads S.text h)) in
    let g : S.place < place_of (F S.twin) = omega (arith, reads_after (x.reads S.twin h')) in
    beyond f g

pub plain : {A : Type 0} {S : Setting} {H : List ℕ → Type 0} {at : ℕ} {F : List ℕ → Parsed A} → Alike S Any at F → Alike S H at F
plain x = record { reads = λ t h. x.reads t tt; alike = λ h h' c. x.alike tt tt c }

pub done_alike : {A : Type 0} {S : Setting} {H : List ℕ → Type 0} {at : ℕ} (a : A) → Alike S H at (λ t. accepted a at)
done_alike {at = at} a = record { reads = λ t h. ends_at a Reach.none; alike = λ h h' c. yields a at (inl c) }

pub past_alike : {A : Type 0} {S : Setting} {at : ℕ} {k : Kind} {s n : ℕ} (a : A) → Alike S (TokenIn at k s n) at (λ t. accepted a n)
past_alike {S = S} {k = k} {s = s} {n = n} a = record { reads = λ t e. past a e; alike = λ e e' c. yields a n ((on_way S c).next k s n e).0 }

pub here_alike : {A : Type 0} {S : Setting} {at : ℕ} {k : Kind} {s n : ℕ} (number : ℕ) → 2 ≤ number → number ≤ 8 → Alike {A = A} S (TokenIn at k s n) at (λ t. refused number s)
here_alike {S = S} {s = s} number g h = record { reads = λ t e. here number e g h; alike = λ e e' c. refuses number s (omega (arith, ap read_start e, (on_way S c).early)) }

pub above_alike : {A : Type 0} {S : Setting} {at : ℕ} {k : Kind} {s n : ℕ} (number : ℕ) → 10 ≤ number → Alike {A = A} S (TokenIn at k s n) at (λ t. refused number s)
above_alike {S = S} {s = s} number h = record { reads = λ t e. above_nine number e h; alike = λ e e' c. refuses number s (omega (arith, ap read_start e, (on_way S c).early)) }

pub not_allowed_lem : {A : Type 0} {S : Setting} {at : ℕ} {k : Kind} {s n : ℕ} → Alike {A = A} S (TokenIn at k s n) at (λ t. refused 2 s)
not_allowed_lem = here_alike 2 (omega arith) (omega arith)

pub step_alike : {A : Type 0} {S : Setting} {at : ℕ} {k : Kind} {s n : ℕ} {F : List ℕ → Parsed A} → Alike S Any n F → Alike S (TokenIn at k s n) at F
step_alike {S = S} {k = k} {s = s} {n = n} x = record { reads = λ t e. step e (x.reads t tt); alike = λ e e' c. run x tt tt ((on_way S c).next k s n e).0 }

pub cond_same : {A : Type 0} {S : Setting} {a b a' b' : Parsed A} (t : Bool) → Same S a a' → Same S b b' → Same S (cond t a b) (cond t a' b')
cond_same true f g = f
cond_same false f g = g

pub cond_alike : {A : Type 0} {S : Setting} {H : List ℕ → Type 0} {at : ℕ} {F G : List ℕ → Parsed A} (t : Bool) → Alike S H at F → Alike S H at G → Alike S H at (λ x. cond t (F x) (G x))
cond_alike t f g = record { reads = λ x h. cond_reads t (f.reads x h) (g.reads x h); alike = λ h h' c. cond_same t (f.alike h h' c) (g.alike h h' c) }

pub option_same : {A B : Type 0} {S : Setting} {b b' : Parsed B} {f f' : A → Parsed B} (o : Option A) → Same S b b' → ((a : A) → Same S (f a) (f' a)) → Same S (on_option o b f) (on_option o b' f')
option_same none g h = g
option_same (some a) g h = h a

pub option_alike : {A B : Type 0} {S : Setting} {H : List ℕ → Type 0} {at : ℕ} {F : List ℕ → Parsed B} {G : A → List ℕ → Parsed B} (o : Option A) → Alike S H at F → ((a : A) → Alike S H at (G a)) → Alike S H at (λ x. on_option o (F x) (λ a. G a x))
option_alike o f g = record { reads = λ x h. option_reads o (f.reads x h) (λ a. (g a).reads x h); alike = λ h h' c. option_same o (f.alike h h' c) (λ a. (g a).alike h h' c) }

far : {A B : Type 0} (p : ℕ) (r : Parsed A) (f : A → ℕ → Parsed B) → p < place_of r → ((a : A) (n : ℕ) → r ≡ accepted a n → n ≤ place_of (f a n)) → p < place_of (and_then r f)
far p (accepted a n) f l h = omega (arith, h a n refl)
far p (refused k q) f l h = l

pub then_same : {A B : Type 0} {S : Setting} {r r' : Parsed A} {f f' : A → ℕ → Parsed B} → Same S r r' → ((a : A) (n : ℕ) → r ≡ accepted a n → r' ≡ accepted a n → OnOrBeyond S n → Same S (f a n) (f' a n))
    → ((a : A) (n : ℕ) → r ≡ accepted a n → n ≤ place_of (f a n)) → ((a : A) (n : ℕ) → r' ≡ accepted a n → n ≤ place_of (f' a n)) → Same S (and_then r f) (and_then r' f')
then_same (yields a n i) g h h' = g a n refl refl i
then_same (refuses k q l) g h h' = refuses k q l
then_same {S = S} {r = r} {r' = r'} {f = f} {f' = f'} (beyond l l') g h h' = beyond (far S.place r f l h) (far S.place r' f' l' h')

-- ... where what follows may know what was read
pub then_known : {A B : Type 0} {S : Setting} {H : List ℕ → Type 0} {at : ℕ} {F : List ℕ → Parsed A} {G : A → ℕ → List ℕ → Parsed B} → Alike S H at F → ((a : A) (n : ℕ) → Alike S (λ t. H t × (F t ≡ accepted a n)) n (G a n)) → Alike S H at (λ t. and_then (F t) (λ a n. G a n t))
then_known {S = S} f g =
    record {
      reads = λ t h. then_reads (f.reads t h) (λ a n q. (g a n).reads t (h, q));
      alike = λ h h' c. then_same (f.alike h h' c) (λ a n q q' i. run (g a n) (h, q) (h', q') i) (λ a n q. reads_after ((g a n).reads S.text (h, q))) (λ a n q. reads_after ((g a n).reads S.twin (h', q)));
    }

pub then_alike : {A B : Type 0} {S : Setting} {H : List ℕ → Type 0} {at : ℕ} {F : List ℕ → Parsed A} {G : A → ℕ → List ℕ → Parsed B} → Alike S H at F → ((a : A) (n : ℕ) → Alike S Any n (G a n)) → Alike S H at (λ t. and_then (F t) (λ a n. G a n t))
then_alike f g = then_known f (λ a n. plain (g a n))

-- the bytes of a token are the same
pub word_same : (S : Setting) (at : ℕ) (k : Kind) (s n s2 : ℕ) → TokenIn at k s n S.text → Reaches S.text at S.b → part S.text s2 n ≡ part S.twin s2 n
word_same S at k s n s2 e c = part_same S.text S.twin S.end S.in_text_lem S.in_twin S.same s2 n ((on_way S c).next k s n e).1

-- what holds of a text
pub only : {A : Type 0} {S : Setting} {H K : List ℕ → Type 0} {at : ℕ} {F : List ℕ → Parsed A} → ((t : List ℕ) → H t → K t) → Alike S K at F → Alike S H at F
only f x = record { reads = λ t h. x.reads t (f t h); alike = λ h h' c. x.alike (f _ h) (f _ h') c }

pub late : {A : Type 0} {S : Setting} {H : List ℕ → Type 0} {at : ℕ} {F : List ℕ → Parsed A} → ((t : List ℕ) → H t → Alike S H at F) → Alike S H at F
late {S = S} f = record { reads = λ t h. (f t h).reads t h; alike = λ h h' c. (f S.text h).alike h h' c }

pub word_in : {A : Type 0} {S : Setting} {H : List ℕ → Type 0} {at : ℕ} {k : Kind} {s n : ℕ} {G : List ℕ → List ℕ → Parsed A} (s2 : ℕ) → ((t : List ℕ) → H t → TokenIn at k s n t) → ((w : List ℕ) → Alike S H at (G w)) → Alike S H at (λ t. G (part t s2 n) t)
word_in {S = S} {at = at} {k = k} {s = s} {n = n} {G = G} s2 tok g =
    record {
      reads = λ t e. (g (part t s2 n)).reads t e;
      alike = λ e e' c. subst (λ (w : List ℕ). Same S (G (part S.text s2 n) S.text) (G w S.twin)) (word_same S at k s n s2 (tok S.text e) c) ((g (part S.text s2 n)).alike e e' c);
    }

pub word_alike : {A : Type 0} {S : Setting} {at : ℕ} {k : Kind} {s n : ℕ} {G : List ℕ → List ℕ → Parsed A} (s2 : ℕ) → ((w : List ℕ) → Alike S (TokenIn at k s n) at (G w)) → Alike S (TokenIn at k s n) at (λ t. G (part t s2 n) t)
word_alike {k = k} {s = s} {n = n} {G = G} s2 g = word_in {k = k} {s = s} {n = n} {G = G} s2 (λ t e. e) g

pub step_in : {A : Type 0} {S : Setting} {H K : List ℕ → Type 0} {at : ℕ} {k : Kind} {s n : ℕ} {F : List ℕ → Parsed A} → ((t : List ℕ) → H t → TokenIn at k s n t) → ((t : List ℕ) → H t → K t) → Alike S K n F → Alike S H at F
step_in {S = S} {k = k} {s = s} {n = n} tok f x = record { reads = λ t h. step (tok t h) (x.reads t (f t h)); alike = λ h h' c. run x (f _ h) (f _ h') ((on_way S c).next k s n (tok S.text h)).0 }

pub token_same : {A : Type 0} (S : Setting) (at : ℕ) (f f' : Kind → ℕ → ℕ → Parsed A) → Reaches S.text at S.b → ((k : Kind) (s n : ℕ) → TokenIn at k s n S.text → TokenIn at k s n S.twin → Same S (f k s n) (f' k s n))
    → Same S (on_token (token_at S.text at) f) (on_token (token_at S.twin at) f')
token_same {A} S at f f' c g =
    subst (λ (x : TokenRead). Same S (on_token (token_at S.text at) f) (on_token x f')) (sym (on_way S c).twin_reads) (go (token_at S.text at) refl (on_way S c).twin_reads)
  where
    go : (r : TokenRead) → token_at S.text at ≡ r → token_at S.twin at ≡ r → Same S (on_token r f) (on_token r f')
    go (token k s n) e e' = g k s n e e'
    go (fault p) e e' = refuses 1 p (omega (arith, ap read_start e, (on_way S c).early))

pub token_alike : {A : Type 0} {S : Setting} {H : List ℕ → Type 0} {F : Kind → ℕ → ℕ → List ℕ → Parsed A} (at : ℕ) → ((k : Kind) (s n : ℕ) → Alike S (TokenIn at k s n) at (F k s n)) → Alike S H at (λ t. on_token (token_at t at) (λ k s n. F k s n t))
token_alike {S = S} at g =
    record { reads = λ t h. token_reads t at (λ k s n e. (g k s n).reads t e); alike = λ h h' c. token_same S at _ _ c (λ k s n e e'. (g k s n).alike e e' c) }

pub token_in : {A : Type 0} {S : Setting} {H : List ℕ → Type 0} {F : Kind → ℕ → ℕ → List ℕ → Parsed A} (at : ℕ) → ((k : Kind) (s n : ℕ) → Alike S (λ t. H t × TokenIn at k s n t) at (F k s n)) → Alike S H at (λ t. on_token (token_at t at) (λ k s n. F k s n t))
token_in {S = S} at g =
    record { reads = λ t h. token_reads t at (λ k s n e. (g k s n).reads t (h, e)); alike = λ h h' c. token_same S at _ _ c (λ k s n e e'. (g k s n).alike (h, e) (h', e') c) }
