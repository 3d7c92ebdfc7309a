-- A no-change list that reads as a list of conditions and its `)`: the comparison with the first list ends at that `)`, or at a token
-- before it. Assumes nothing.
use mathlib.Core.Path.{◌≡◌, refl, ap, sym, ◌∙◌, subst}
use mathlib.Core.List.{List, [], ◌∷◌, ◌++◌}
use mathlib.Core.Option.{Option, none, some}
use Prim.Native.Nat.{ℕ, zero, suc, ◌+◌, ◌≤◌, ◌<◌}
use native.Mathlib.Nat.{le_refl}
use native.Mathlib.Omega.{arith}
use lib.ListN.{length}
use borrow.Author.Tests.{lt-ltb, le-ltb}
use Rattle.limits.specs.Limits.{bracket_limit, case_limit}
use Rattle.semantics.specs.Program.{Condition}
use Rattle.bytecode.proofs.Soundness.{some_inj, none≢some}
use Rattle.lexer.specs.Bytes.{bytes, same_bytes, part, capitals}
use Rattle.lexer.specs.Token.{Kind, kind_number, close_round, open_square, bar, is, token}
use Rattle.lexer.specs.Lexer.{token_at, same_token}
use Rattle.lexer.proofs.Laws.{cond_prop}
use Rattle.lexer.proofs.Same.{same_token_lem}
use Rattle.grammar.specs.Parsed.{Parsed, accepted, refused, sign, phrase, followed}
use Rattle.grammar.specs.Expressions.{Scope}
use Rattle.grammar.specs.Conditions.{listed}
use Rattle.grammar.specs.Derivation as D
use Rattle.grammar.specs.Derivation.{Tokens, Stands, Spells, SpellsC, normal, normals}
use Rattle.grammar.specs.Spelled.{squared}
use Rattle.grammar.specs.Inner.Names.{Named}
use Rattle.grammar.specs.Rules.{Spanned, Compared, agrees, differs, on_compared, part_from, kind_at, parts_from, cases_of, list_from, plain_list}
use Rattle.lexer.specs.Spelling.{Spelling}
use Rattle.lexer.proofs.Spellings.{is_fixed}
use Rattle.grammar.proofs.Normal.{same_seen}
use Rattle.grammar.proofs.Standing.{stands_in, spells_in, spells_append, is_read, normally}
use Rattle.grammar.proofs.Combine.{token_prop, then_prop, never, same_end}
use Rattle.grammar.proofs.Derived.{Derives, Closed, listed_derives}
use Rattle.grammar.proofs.Lists.{CasesIn}
use Rattle.grammar.proofs.Phrases.{fixed_stands, signs, phrase_spells}
use Rattle.grammar.proofs.Listed.{Listed, last, next, parts_next, span_room}
use Rattle.faults.proofs.Reaching as Reach
use Rattle.faults.proofs.Reaching.{Reaches, joined}
use Rattle.faults.proofs.Balance.{depth_then, depth_by, depth, depth_append, Balanced, balanced_squared, balanced_more, balanced_cases}

-- tokens that close a bracket that is not open, with the last of them and not before
abbrev Then : Option ℕ → Tokens → (ℕ → Type 0) → Type 0
Then none ts P = ts ≡ []
Then (some e) ts P = P e

abbrev pub Closes : Tokens → ℕ → Type 0
Closes [] d = ⊥
Closes (w ∷ ts) d = Then (depth_by w d) ts (λ e. Closes ts e)

pub closes : (ts : Tokens) (d : ℕ) → depth ts d ≡ some 0 → Closes (ts ++ bytes ")" ∷ []) d
unfolding same_bytes
closes [] d e = let q : d ≡ 0 = some_inj e in rw q refl
closes (w ∷ ts) d e = go (depth_by w d) (λ x q. closes ts x q) e
  where
    go : (o : Option ℕ) → ((x : ℕ) → depth ts x ≡ some 0 → Closes (ts ++ bytes ")" ∷ []) x) → depth_then o (λ x. depth ts x) ≡ some 0 → Then o (ts ++ bytes ")" ∷ []) (λ x. Closes (ts ++ bytes ")" ∷ []) x)
    go none h q = none≢some 0 q
    go (some x) h q = h x q

module _ (text : List ℕ) where
  -- at m begins a token, before n, that reading comes to from `at`
  pub record DiffersBefore (at n m : ℕ) : Type 0 where
    pub place : ℕ
    pub kind : Kind
    pub end : ℕ
    pub reached : Reaches text at place
    pub is_token : token_at text place ≡ token kind m end
    pub early : m < n

  -- up to n stand tokens that close a bracket too many, with d open
  record Going (at n d m : ℕ) : Type 0 where
    reached : Reaches text at m
    within : m ≤ length text
    tokens : Tokens
    spells : Spells normal text m n tokens
    closing : Closes tokens d

  abbrev Goes : ℕ → ℕ → ℕ → Compared → Type 0
  Goes at n d (agrees m) = Going at n d m
  Goes at n d (differs m) = DiffersBefore at n m

  differs_behind : {at b n m : ℕ} → Reaches text at b → DiffersBefore b n m → DiffersBefore at n m
  differs_behind c x = record { place = x.place; kind = x.kind; end = x.end; reached = joined text c x.reached; is_token = x.is_token; early = x.early }

  goes_behind : (at b n d : ℕ) → Reaches text at b → (x : Compared) → Goes b n d x → Goes at n d x
  goes_behind at b n d c (agrees m) g = record { reached = joined text c g.reached; within = g.within; tokens = g.tokens; spells = g.spells; closing = g.closing }
  goes_behind at b n d c (differs m) g = differs_behind c g

  -- a token that stands before n
  differs_here : (at n n1 : ℕ) (w : List ℕ) (P : Tokens) → at ≤ length text → (su : Stands normal text at n1 w) → Spells normal text n1 n P → DiffersBefore at n su.start
  differs_here at n n1 w P h su sp =
      let i = (stands_in normally text at n1 w h su).1 in
      let j = (spells_in normally text n1 n P i sp).0 in
      record { place = at; kind = su.kind; end = n1; reached = Reach.none; is_token = is_read su; early = omega arith }

  pub part_stays : (f to at : ℕ) → part_from f text to to at ≡ agrees at
  unfolding part_from
  part_stays zero to at = refl
  part_stays (suc f) to at = rw (le-ltb to to (le_refl to))

  -- what stands at a token, and the open brackets depth_then it
  open_after : (t : List ℕ) (ts : Tokens) (d e : ℕ) → depth (t ∷ ts) d ≡ some e → (x : ℕ) × (depth_by t d ≡ some x) × (depth ts x ≡ some e)
  open_after t ts d e q = go (depth_by t d) refl q
    where
      go : (o : Option ℕ) → depth_by t d ≡ o → depth_then o (λ x. depth ts x) ≡ some e → (x : ℕ) × (depth_by t d ≡ some x) × (depth ts x ≡ some e)
      go none h r = none≢some e r
      go (some x) h r = (x, h, r)

  part_goes : (n : ℕ) (ts : Tokens) (f from to at d e : ℕ) (P : Tokens) → from ≤ length text → at ≤ length text → to ≤ from + f → Spells normal text from to ts → depth ts d ≡ some e
      → Spells normal text at n P → Closes P d → Goes at n e (part_from f text from to at)
  unfolding part_from
  part_goes n [] f from to at d e P h i en g q sp c =
      let r : d ≡ e = some_inj q in
      rw (g, part_stays f to at) (record { reached = Reach.none; within = i; tokens = P; spells = sp; closing = subst (Closes P) r c })
  part_goes n (t ∷ ts) f from to at d e [] h i en g q sp c = absurd c
  part_goes n (t ∷ ts) zero from to at d e (x ∷ P) h i en g q sp c =
      let mv = stands_in normally text from g.0 t h g.1 in
      let s = spells_in normally text g.0 to ts mv.1 g.2 in
      absurd (omega (arith, mv.0, s.0))
  part_goes n (t ∷ ts) (suc f) from to at d e (x ∷ P) h i en g q sp c =
      let st = g.1 in
      let su = sp.1 in
      let mv = stands_in normally text from g.0 t h st in
      let mw = stands_in normally text at sp.0 x i su in
      let s = spells_in normally text g.0 to ts mv.1 g.2 in
      let lt : from < to = omega (arith, mv.0, s.0) in
      let room : to ≤ g.0 + f = omega (arith, mv.0) in
      let o = open_after t ts d e q in
      rw (lt-ltb from to lt, is_read st, is_read su)
      (cond_prop (Goes at n e) (same_token text st.kind st.start g.0 su.kind su.start sp.0) _ _
      (λ y.
      let a = part text st.start g.0 in
      let b = part text su.start sp.0 in
      let twin = same_token_lem text st.kind st.start g.0 su.kind su.start sp.0 y in
      let b-is : Spelling st.kind b = subst (λ (z : Kind). Spelling z b) (sym twin.0) su.is_token.spells in
      let same : t ≡ x = sym st.spelled ∙ (same_seen st.kind a b st.is_token.spells b-is twin.1 ∙ su.spelled) in
      let c2 : Then (depth_by x d) P (λ e. Closes P e) = c in
      let c3 : Closes P o.0 = subst (λ (z : Option ℕ). Then z P (λ e. Closes P e)) (ap (λ (w : List ℕ). depth_by w d) (sym same) ∙ o.1) c2 in
      goes_behind at sp.0 n e (Reach.more su.kind su.start sp.0 (is_read su) Reach.none) (part_from f text g.0 to sp.0)
      (part_goes n ts f g.0 to sp.0 o.0 e P mv.1 mw.1 room g.2 o.2 sp.2 c3))
      (λ y. differs_here at n sp.0 x P i su sp.2))

  one_token : (at m : ℕ) (x y : List ℕ) → Stands normal text at m x → Stands normal text at m y → x ≡ y
  one_token at m x y a b =
      let e : token a.kind a.start m ≡ token b.kind b.start m = sym (is_read a) ∙ is_read b in
      let f : a.start ≡ b.start = cc in
      sym a.spelled ∙ ap (λ (s : ℕ). normal (part text s m)) f ∙ b.spelled

  -- a `|` leaves the open brackets; a `)` where none is open is the last
  bar_goes : (n at d : ℕ) (P : Tokens) → at ≤ length text → Spells normal text at n P → Closes P d → Goes at n d (kind_at text bar at)
  unfolding kind_at is_fixed kind_number same_bytes
  bar_goes n at d [] h sp c = absurd c
  bar_goes n at d (x ∷ P) h sp c =
      let su = sp.1 in
      rw (is_read su)
      (cond_prop (Goes at n d) (is su.kind bar) _ _
      (λ y.
      let b = fixed_stands normally text bar refl at su.kind su.start sp.0 h (is_read su) y in
      let e : x ≡ bytes "|" = one_token at sp.0 x (bytes "|") su b in
      let c2 : Closes (bytes "|" ∷ P) d = subst (λ (w : List ℕ). Closes (w ∷ P) d) e c in
      record { reached = Reach.more su.kind su.start sp.0 (is_read su) Reach.none; within = (stands_in normally text at sp.0 x h su).1; tokens = P; spells = sp.2; closing = c2 })
      (λ y. differs_here at n sp.0 x P h su sp.2))

  -- where the comparison with a list ends
  abbrev pub MeetsAt : ℕ → ℕ → Compared → Type 0
  MeetsAt at n (agrees m) = m ≡ n
  MeetsAt at n (differs m) = DiffersBefore at n m

  round_meets : (n at : ℕ) (P : Tokens) → at ≤ length text → Spells normal text at n P → Closes P 0 → MeetsAt at n (kind_at text close_round at)
  unfolding kind_at is_fixed kind_number same_bytes
  round_meets n at [] h sp c = absurd c
  round_meets n at (x ∷ P) h sp c =
      let su = sp.1 in
      rw (is_read su)
      (cond_prop (MeetsAt at n) (is su.kind close_round) _ _
      (λ y.
      let b = fixed_stands normally text close_round refl at su.kind su.start sp.0 h (is_read su) y in
      let e : x ≡ bytes ")" = one_token at sp.0 x (bytes ")") su b in
      let c2 : Closes (bytes ")" ∷ P) 0 = subst (λ (w : List ℕ). Closes (w ∷ P) 0) e c in
      let r : P ≡ [] = c2 in
      subst (Spells normal text sp.0 n) r sp.2)
      (λ y. differs_here at n sp.0 x P h su sp.2))

  met_behind : (at b n : ℕ) → Reaches text at b → (x : Compared) → MeetsAt b n x → MeetsAt at n x
  met_behind at b n c (agrees m) g = g
  met_behind at b n c (differs m) g = differs_behind c g

  then_meets : (at n d : ℕ) (x : Compared) (f : ℕ → Compared) → Goes at n d x → ((m : ℕ) (P : Tokens) → m ≤ length text → Spells normal text m n P → Closes P d → MeetsAt m n (f m)) → MeetsAt at n (on_compared x f)
  then_meets at n d (agrees m) f g h = met_behind at m n g.reached (f m) (h m g.tokens g.within g.spells g.closing)
  then_meets at n d (differs m) f g h = g

  split_depth : (ts us : Tokens) (d e : ℕ) → depth (ts ++ us) d ≡ some e → (x : ℕ) × (depth ts d ≡ some x) × (depth us x ≡ some e)
  split_depth ts us d e q = go (depth ts d) refl (sym (depth_append ts us d) ∙ q)
    where
      go : (o : Option ℕ) → depth ts d ≡ o → depth_then o (λ x. depth us x) ≡ some e → (x : ℕ) × (depth ts d ≡ some x) × (depth us x ≡ some e)
      go none h r = none≢some e r
      go (some x) h r = (x, h, r)

  pub parts_meet : (cs : List Spanned) (ls : Tokens) → Listed text cs ls → (at n d : ℕ) (P : Tokens) → at ≤ length text → depth ls d ≡ some 0 → Spells normal text at n P → Closes P d → MeetsAt at n (parts_from text cs at)
  unfolding parts_from same_bytes
  parts_meet cs ls (last c ts h g) at n d P i q sp cl =
      then_meets at n 0 (part_from (length text) text c.span.from c.span.to at) _
      (part_goes n ts (length text) c.span.from c.span.to at d 0 P h i (span_room text c ts h g) g q sp cl)
      (λ m R j s k. round_meets n m R j s k)
  parts_meet cs ls (next c ds ts us h g r) at n d P i q sp cl =
      let x = split_depth ts (bytes "|" ∷ us) d 0 q in
      rw (parts_next text c ds us r at)
      (then_meets at n x.0 (part_from (length text) text c.span.from c.span.to at) _
      (part_goes n ts (length text) c.span.from c.span.to at d x.0 P h i (span_room text c ts h g) g x.1 sp cl)
      (λ m R j s k. then_meets m n x.0 (kind_at text bar m) _ (bar_goes n m x.0 R j s k)
      (λ m2 R2 j2 s2 k2. parts_meet ds us r m2 n x.0 R2 j2 x.2 s2 k2)))

-- ---- the list as it reads

module _ (sc : Scope) (few : length sc.names ≤ 64) (good : Named sc.names) where
  -- just balanced tokens stand there
  record Even (at n : ℕ) : Type 0 where
    tokens : Tokens
    spells : Spells normal sc.text at n tokens
    balanced : Balanced tokens

  abbrev Evens : {A : Type 0} → ℕ → Parsed A → Type 0
  Evens at (accepted a n) = Even at n
  Evens at (refused k q) = Unit {0}

  listed_even : (at n m : ℕ) (c : Condition) → at ≤ length sc.text → Stands normal sc.text at n (bytes "[") → listed sc n ≡ accepted c m → Even at m
  listed_even at n m c h st e =
      let i = (stands_in normally sc.text at n (bytes "[") h st).1 in
      let d = subst (Derives normally sc.text (Closed normally sc.text (SpellsC (normals sc.names) D.condition bracket_limit) (bytes "]")) n) e (listed_derives sc n i) in
      let ts = d.derives.inner in
      record { tokens = squared ts; spells = (n, st, subst (Spells normal sc.text n m) d.derives.is_closed d.spells); balanced = balanced_squared sc.names good bracket_limit ts c d.derives.derives }

  list_even : (left : ℕ) (done : List Condition) (at : ℕ) → at ≤ length sc.text → Evens at (list_from left sc done at)
  unfolding list_from is_fixed kind_number
  list_even zero done at h = token_prop (Evens at) (token_at sc.text at) _ (λ k q. tt) (λ k s n et. cond_prop (Evens at) (is k open_square) _ _ (λ eo. tt) (λ eo. tt))
  list_even (suc left) done at h =
      token_prop (Evens at) (token_at sc.text at) _ (λ k q. tt)
      (λ k s n et. cond_prop (Evens at) (is k open_square) _ _
      (λ eo. then_prop (Evens at) (listed sc n) _ (λ k q. tt)
      (λ c n1 e1.
      let x = listed_even at n n1 c h (fixed_stands normally sc.text open_square refl at k s n h et eo) e1 in
      let i1 = (spells_in normally sc.text at n1 x.tokens h x.spells).1 in
      token_prop (Evens at) (token_at sc.text n1) _ (λ k q. tt)
      (λ k2 s2 n2 et2. cond_prop (Evens at) (is k2 bar) _ _
      (λ e.
      let st = fixed_stands normally sc.text bar refl n1 k2 s2 n2 i1 et2 e in
      more at n1 n2 x st (list_from left sc (done ++ (c ∷ [])) n2) (list_even left (done ++ (c ∷ [])) n2 (stands_in normally sc.text n1 n2 (bytes "|") i1 st).1))
      (λ e. x))))
      (λ e. tt))
    where
      more : (at n1 n2 : ℕ) → Even at n1 → Stands normal sc.text n1 n2 (bytes "|") → (p : Parsed (List Condition)) → Evens n2 p → Evens at p
      more at n1 n2 x st (accepted cs m) y =
          record { tokens = x.tokens ++ bytes "|" ∷ y.tokens; spells = spells_append normally sc.text at n1 m x.tokens (bytes "|" ∷ y.tokens) x.spells (n2, st, y.spells); balanced = balanced_more sc.names good x.tokens y.tokens x.balanced y.balanced }
      more at n1 n2 x st (refused k q) y = tt

  record ClosedAt (at n : ℕ) : Type 0 where
    tokens : Tokens
    spells : Spells normal sc.text at n tokens
    closing : Closes tokens 0

  plain_closes : (at n : ℕ) (ds : List Condition) → at ≤ length sc.text → plain_list sc at ≡ accepted ds n → ClosedAt at n
  unfolding plain_list followed signs is_fixed kind_number
  plain_closes at n ds h e = then_prop P (list_from case_limit sc [] at) _ (λ k q z. never k q n ds z)
      (λ cs m e1. then_prop P (phrase sc.text (sign close_round ∷ []) m) _ (λ k q z. never k q n ds z)
      (λ u m2 e2 z.
      let x : Even at m = subst (Evens at) e1 (list_even case_limit [] at h) in
      let i = (spells_in normally sc.text at m x.tokens h x.spells).1 in
      let s = phrase_spells normally sc.text (sign close_round ∷ []) refl tt m u m2 i e2 in
      let r : m2 ≡ n = same_end z in
      record { tokens = x.tokens ++ bytes ")" ∷ []; spells = subst (λ (y : ℕ). Spells normal sc.text at y (x.tokens ++ bytes ")" ∷ [])) r (spells_append normally sc.text at m m2 x.tokens (bytes ")" ∷ []) x.spells s); closing = closes x.tokens 0 (x.balanced 0) })) e
    where
      P : Parsed (List Condition) → Type 0
      P x = x ≡ accepted ds n → ClosedAt at n

  -- the comparison with the cases read before
  pub plain_meets : (lengths : length sc.names ≡ length sc.known) (w : List ℕ) (from to : ℕ) (cs : List Spanned) → CasesIn sc few lengths w from to cs → (at n : ℕ) (ds : List Condition) → at ≤ length sc.text → plain_list sc at ≡ accepted ds n → MeetsAt sc.text at n (parts_from sc.text cs at)
  plain_meets lengths w from to cs c at n ds h e =
      let x = plain_closes at n ds h e in
      parts_meet sc.text cs c.list c.lists at n 0 x.tokens h (balanced_cases sc.names good (capitals w) c.tokens c.list (cases_of cs) c.derives 0) x.spells x.closing
