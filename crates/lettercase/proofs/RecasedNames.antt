-- Declarations and timers whose names are in other letter cases declare the same, but for the spelling. Assumes nothing.
use mathlib.Core.Path.{◌≡◌, refl, ap, ap₂, sym, ◌∙◌, subst}
use mathlib.Core.List.{List, [], ◌∷◌, ◌++◌}
use mathlib.Core.Bool.{false}
use mathlib.Core.Option.{some}
use Prim.Native.Nat.{ℕ}
use native.Mathlib.Omega.{arith}
use lib.ListN.{length}
use lib.IntN.{ℤ}
use Rattle.semantics.specs.Program.{Name, Timer, bit_range}
use Rattle.lexer.specs.Bytes.{bytes, part, capitals}
use Rattle.lexer.specs.Token.{Kind, kind_number, name, previous, digits, init_word, timer_word, of_word, limit_word, dots, semicolon, minus, is, spelling_of}
use Rattle.lexer.specs.Spelling.{SpellsName, Spelling}
use Rattle.lexer.proofs.Spellings.{one_kind}
use Rattle.grammar.specs.Derivation.{Tokens, as_written, normal, normals, Spells, IsName}
use Rattle.grammar.specs.Spelled.{SpellsZ, positive, negative, SpellsStart, absent, given, Declares, declares, DeclareAll, DeclaresTimer, timer_form, declares_timer, DeclareTimers}
use Rattle.grammar.specs.Spelled as S
use Rattle.grammar.proofs.Bytes.{heads, tails}
use Rattle.grammar.proofs.Normal.{normal_length, name-seen, other_seen, normal_spelled}
use Rattle.grammar.proofs.Standing.{spells_append, normally}
use Rattle.lettercase.specs.Lettercase.{Recased}

-- ---- tokens as written, and as the rule forms know them

pub written_seen : (text : List ℕ) (a b : ℕ) (ts : Tokens) → Spells as_written text a b ts → Spells normal text a b (normals ts)
written_seen text a b [] g = g
written_seen text a b (t ∷ ts) g =
    let st = g.1 in
    (g.0, record { kind = st.kind; start = st.start; separated = st.separated; is_token = st.is_token; spelled = ap normal st.spelled }, written_seen text g.0 b ts g.2)

-- tokens of a text are of some kind
abbrev AllSpelt : Tokens → Type 0
AllSpelt [] = Unit {0}
AllSpelt (w ∷ ws) = ((k : Kind) × Spelling k w) × AllSpelt ws

pub record Written (text : List ℕ) (a b : ℕ) (ts : Tokens) : Type 0 where
  pub tokens : Tokens
  pub spells : Spells as_written text a b tokens
  pub seen : normals tokens ≡ ts
  pub spelt : AllSpelt tokens

pub seen_written : (text : List ℕ) (a b : ℕ) (ts : Tokens) → Spells normal text a b ts → Written text a b ts
seen_written text a b [] g = record { tokens = []; spells = g; seen = refl; spelt = tt }
seen_written text a b (t ∷ ts) g =
    let st = g.1 in
    let u = part text st.start g.0 in
    let r = seen_written text g.0 b ts g.2 in
    record {
      tokens = u ∷ r.tokens;
      spells = (g.0, record { kind = st.kind; start = st.start; separated = st.separated; is_token = st.is_token; spelled = refl }, r.spells);
      seen = ap₂ (λ (x : List ℕ) (l : Tokens). x ∷ l) st.spelled r.seen;
      spelt = ((st.kind, st.is_token.spells), r.spelt);
    }

-- tokens behind those before them
pub spells_recased : (text other : List ℕ) → Recased text other → (before : Tokens) (a b : ℕ) (ts : Tokens) → Spells normal text 0 a before → Spells normal text a b ts → Spells normal other a b ts
spells_recased text other c before a b [] h g = g
spells_recased text other c before a b (t ∷ ts) h g =
    let next : Spells normal text 0 g.0 (before ++ t ∷ []) = spells_append normally text 0 a g.0 before (t ∷ []) h (g.0, g.1, refl) in
    (g.0, c.same_token_lem before a g.0 t h g.1, spells_recased text other c (before ++ t ∷ []) g.0 b ts next g.2)

-- ---- tokens that are seen as one

module _ (k j : Kind) (t u : List ℕ) (h : Spelling k t) (g : Spelling j u) (e : normal u ≡ normal t) where
  -- ... are of one kind
  same_token_kind : Spelling k u
  same_token_kind = subst (λ (x : Kind). Spelling x u) (one_kind j k (normal t) (subst (Spelling j) e (normal_spelled j u g)) (normal_spelled k t h)) g

  -- ... and the same, unless they are names
  same_token_bytes : is k name ≡ false → is k previous ≡ false → u ≡ t
  same_token_bytes p q = sym (other_seen k u p q same_token_kind) ∙ (e ∙ other_seen k t p q h)

-- tokens that are no names
abbrev pub Plain : List ℕ → Type 0
Plain w = (k : Kind) × Spelling k w × (is k name ≡ false) × (is k previous ≡ false)

abbrev Plains : Tokens → Type 0
Plains [] = Unit {0}
Plains (w ∷ ws) = Plain w × Plains ws

plains_append : (ts us : Tokens) → Plains ts → Plains us → Plains (ts ++ us)
plains_append [] us h g = g
plains_append (t ∷ ts) us h g = (h.0, plains_append ts us h.1 g)

plains_same : (ts us : Tokens) → Plains ts → AllSpelt us → normals us ≡ normals ts → us ≡ ts
plains_same [] [] h g e = refl
plains_same [] (u ∷ us) h g e = let z : ◌≡◌ {A = ℕ} 0 1 = cc in absurd (omega arith)
plains_same (t ∷ ts) [] h g e = let z : ◌≡◌ {A = ℕ} 0 1 = cc in absurd (omega arith)
plains_same (t ∷ ts) (u ∷ us) h g e =
    let p = h.0 in
    ap₂ (λ (x : List ℕ) (l : Tokens). x ∷ l) (same_token_bytes p.0 g.0.0 t u p.1 g.0.1 (heads e) p.2 p.3) (plains_same ts us h.1 g.1 (tails e))

bound_plain : (ts : Tokens) (z : ℤ) → SpellsZ ts z → Plains ts
unfolding is kind_number
bound_plain ts z (positive w d) = ((digits, d, refl, refl), tt)
bound_plain ts z (negative w d) = ((minus, refl, refl, refl), ((digits, d, refl, refl), tt))

start_plain : (ts : Tokens) (z : ℤ) → SpellsStart ts z → Plains ts
unfolding is kind_number
start_plain ts z absent = tt
start_plain ts z (given us y d) = ((init_word, refl, refl, refl), bound_plain us y d)

-- what follows the name of a declaration
rest_plain : (low high start : Tokens) (l h s : ℤ) → SpellsZ low l → SpellsZ high h → SpellsStart start s → Plains (low ++ bytes ".." ∷ high ++ start ++ bytes ";" ∷ [])
unfolding is kind_number
rest_plain low high start l h s dl dh ds =
    plains_append (low ++ bytes ".." ∷ high ++ start) (bytes ";" ∷ [])
    (plains_append (low ++ bytes ".." ∷ high) start (plains_append low (bytes ".." ∷ high) (bound_plain low l dl) ((dots, refl, refl, refl), bound_plain high h dh)) (start_plain start s ds))
    ((semicolon, refl, refl, refl), tt)

-- ---- declarations

-- names declared that are the same, with the same ranges
pub data SameNames : List Name → List Name → Type 0 where
  none : SameNames [] []
  more : (y x : Name) (k l : List Name) → y.range ≡ x.range → normal y.spelling ≡ normal x.spelling → capitals y.spelling ≡ capitals x.spelling → SameNames k l → SameNames (y ∷ k) (x ∷ l)

-- a name that declares, like x but for its spelling
record NameToo (Declaring : Name → Type 0) (x : Name) : Type 0 where
  other : Name
  declared : Declaring other
  range : other.range ≡ x.range
  seen : normal other.spelling ≡ normal x.spelling
  big : capitals other.spelling ≡ capitals x.spelling

-- names that declare, like those of l
pub record NamesToo (Declaring : List Name → Type 0) (l : List Name) : Type 0 where
  pub others : List Name
  pub declared : Declaring others
  pub same : SameNames others l

named_too : (w u : List ℕ) → IsName w → ((k : Kind) × Spelling k u) → normal u ≡ normal w → IsName u × (capitals u ≡ capitals w)
named_too w u nm s e =
    let sw : SpellsName w = record { is_word = nm.is_word; no_word = nm.no_word } in
    let su : SpellsName u = same_token_kind name s.0 w u sw s.1 e in
    let long : length u ≡ length w = sym (normal_length u) ∙ (ap length e ∙ normal_length w) in
    let short = nm.short in
    (record { is_word = su.is_word; short = omega arith; no_word = su.no_word }, sym (name-seen u su) ∙ (e ∙ name-seen w sw))

-- tokens that are seen as two parts
pub record Parted (us ts rest : Tokens) : Type 0 where
  pub front : Tokens
  pub back : Tokens
  pub whole : us ≡ front ++ back
  pub seen_front : normals front ≡ normals ts
  pub seen_back : normals back ≡ normals rest
  pub spelt_front : AllSpelt front
  pub spelt_back : AllSpelt back

pub parted : (us ts rest : Tokens) → AllSpelt us → normals us ≡ normals (ts ++ rest) → Parted us ts rest
parted us [] rest g e = record { front = []; back = us; whole = refl; seen_front = refl; seen_back = e; spelt_front = tt; spelt_back = g }
parted [] (t ∷ ts) rest g e = let z : ◌≡◌ {A = ℕ} 0 1 = cc in absurd (omega arith)
parted (u ∷ us) (t ∷ ts) rest g e =
    let r = parted us ts rest g.1 (tails e) in
    record {
      front = u ∷ r.front;
      back = r.back;
      whole = ap (λ (l : Tokens). u ∷ l) r.whole;
      seen_front = ap₂ (λ (x : List ℕ) (l : Tokens). x ∷ l) (heads e) r.seen_front;
      seen_back = r.seen_back;
      spelt_front = (g.0, r.spelt_front);
      spelt_back = r.spelt_back;
    }

module _ (kind : Kind) (plain : Plain (spelling_of kind)) where
  abbrev word : List ℕ
  word = spelling_of kind

  declares_too : (ts : Tokens) (x : Name) → Declares word ts x → (us : Tokens) → AllSpelt us → normals us ≡ normals ts → NameToo (Declares word us) x
  declares_too ts x (declares w low high start r nm dl dh ds fits) [] g e = let z : ◌≡◌ {A = ℕ} 0 1 = cc in absurd (omega arith)
  declares_too ts x (declares w low high start r nm dl dh ds fits) (v ∷ []) g e = let z : ◌≡◌ {A = ℕ} 0 1 = cc in absurd (omega arith)
  declares_too ts x (declares w low high start r nm dl dh ds fits) (v ∷ u ∷ us) g e =
      let a : v ≡ word = heads (plains_same (word ∷ []) (v ∷ []) (plain, tt) (g.0, tt) (ap (λ (y : List ℕ). y ∷ []) (heads e))) in
      let n = named_too w u nm g.1.0 (heads (tails e)) in
      let b : us ≡ low ++ bytes ".." ∷ high ++ start ++ bytes ";" ∷ [] = plains_same (low ++ bytes ".." ∷ high ++ start ++ bytes ";" ∷ []) us (rest_plain low high start _ _ _ dl dh ds) g.1.1 (tails (tails e)) in
      record {
        other = record { spelling = u; range = r };
        declared = subst (λ (y : List ℕ). Declares word (y ∷ u ∷ us) (record { spelling = u; range = r })) (sym a) (subst (λ (l : Tokens). Declares word (word ∷ u ∷ l) (record { spelling = u; range = r })) (sym b) (declares u low high start r n.0 dl dh ds fits));
        range = refl;
        seen = heads (tails e);
        big = n.1;
      }

  pub all_too : (ts : Tokens) (l : List Name) → DeclareAll word ts l → (us : Tokens) → AllSpelt us → normals us ≡ normals ts → NamesToo (DeclareAll word us) l
  all_too ts l S.DeclareAll.none [] g e = record { others = []; declared = S.DeclareAll.none; same = none }
  all_too ts l S.DeclareAll.none (u ∷ us) g e = let z : ◌≡◌ {A = ℕ} 0 1 = cc in absurd (omega arith)
  all_too ts l (S.DeclareAll.more vs ws x k d r) us g e =
      let p = parted us vs ws g e in
      let y = declares_too vs x d p.front p.spelt_front p.seen_front in
      let z = all_too ws k r p.back p.spelt_back p.seen_back in
      record {
        others = y.other ∷ z.others;
        declared = subst (λ (t : Tokens). DeclareAll word t (y.other ∷ z.others)) (sym p.whole) (S.DeclareAll.more p.front p.back y.other z.others y.declared z.declared);
        same = more _ _ _ _ y.range y.seen y.big z.same;
      }

-- ---- timers

record First (us : Tokens) (t : List ℕ) (ts : Tokens) : Type 0 where
  head : List ℕ
  tail : Tokens
  whole : us ≡ head ∷ tail
  spelt : (k : Kind) × Spelling k head
  seen : normal head ≡ normal t
  spelt_tail : AllSpelt tail
  seen_tail : normals tail ≡ normals ts

first : (us : Tokens) (t : List ℕ) (ts : Tokens) → AllSpelt us → normals us ≡ normals (t ∷ ts) → First us t ts
first [] t ts g e = let z : ◌≡◌ {A = ℕ} 0 1 = cc in absurd (omega arith)
first (u ∷ us) t ts g e = record { head = u; tail = us; whole = refl; spelt = g.0; seen = heads e; spelt_tail = g.1; seen_tail = tails e }

both_same : {x y : List ℕ} {k l : Tokens} → x ≡ y → k ≡ l → x ∷ k ≡ y ∷ l
both_same e f = ap₂ (λ (w : List ℕ) (m : Tokens). w ∷ m) e f

timer_too : (ns ts : Tokens) (t : Name) (x : Timer) → DeclaresTimer ns ts t x → (us : Tokens) → AllSpelt us → normals us ≡ normals ts → NameToo (λ o. DeclaresTimer ns us o x) t
unfolding is kind_number
timer_too ns ts t x (declares_timer v w n y nv nw at dn l) us g e =
    let a = first us (bytes "timer") (v ∷ bytes "of" ∷ w ∷ bytes "limit" ∷ n ∷ bytes ";" ∷ []) g e in
    let b = first a.tail v (bytes "of" ∷ w ∷ bytes "limit" ∷ n ∷ bytes ";" ∷ []) a.spelt_tail a.seen_tail in
    let c = first b.tail (bytes "of") (w ∷ bytes "limit" ∷ n ∷ bytes ";" ∷ []) b.spelt_tail b.seen_tail in
    let d = first c.tail w (bytes "limit" ∷ n ∷ bytes ";" ∷ []) c.spelt_tail c.seen_tail in
    let timer = same_token_bytes timer_word a.spelt.0 (bytes "timer") a.head refl a.spelt.1 a.seen refl refl in
    let of_word = same_token_bytes of_word c.spelt.0 (bytes "of") c.head refl c.spelt.1 c.seen refl refl in
    let back = plains_same (bytes "limit" ∷ n ∷ bytes ";" ∷ []) d.tail ((limit_word, refl, refl, refl), ((digits, dn, refl, refl), ((semicolon, refl, refl, refl), tt))) d.spelt_tail d.seen_tail in
    let name-too = named_too v b.head nv b.spelt b.seen in
    let watched-too = named_too w d.head nw d.spelt d.seen in
    let whole : us ≡ timer_form b.head d.head n = a.whole ∙ both_same timer (b.whole ∙ both_same refl (c.whole ∙ both_same of_word (d.whole ∙ both_same refl back))) in
    record {
      other = record { spelling = b.head; range = bit_range };
      declared = subst (λ (q : Tokens). DeclaresTimer ns q (record { spelling = b.head; range = bit_range }) x) (sym whole) (declares_timer b.head d.head n x name-too.0 watched-too.0 (at ∙ ap some (sym d.seen)) dn l);
      range = refl;
      seen = b.seen;
      big = name-too.1;
    }

pub timers_too : (ns ts : Tokens) (l : List Name) (xs : List Timer) → DeclareTimers ns ts l xs → (us : Tokens) → AllSpelt us → normals us ≡ normals ts → NamesToo (λ o. DeclareTimers ns us o xs) l
timers_too ns ts l xs S.DeclareTimers.none [] g e = record { others = []; declared = S.DeclareTimers.none; same = none }
timers_too ns ts l xs S.DeclareTimers.none (u ∷ us) g e = let z : ◌≡◌ {A = ℕ} 0 1 = cc in absurd (omega arith)
timers_too ns ts l xs (S.DeclareTimers.more vs ws t k x ys d r) us g e =
    let p = parted us vs ws g e in
    let y = timer_too ns vs t x d p.front p.spelt_front p.seen_front in
    let z = timers_too ns ws k ys r p.back p.spelt_back p.seen_back in
    record {
      others = y.other ∷ z.others;
      declared = subst (λ (q : Tokens). DeclareTimers ns q (y.other ∷ z.others) (x ∷ ys)) (sym p.whole) (S.DeclareTimers.more p.front p.back y.other z.others x ys y.declared z.declared);
      same = more _ _ _ _ y.range y.seen y.big z.same;
    }
