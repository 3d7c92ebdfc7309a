-- Tokens that spell the cases of a rule, and those that spell its list of conditions, are read as them. Assumes nothing.
use mathlib.Core.Path.{◌≡◌, refl, ap, sym, ◌∙◌, subst}
use mathlib.Core.List.{List, [], ◌∷◌, ◌++◌, map, append_assoc}
use mathlib.Core.Bool.{Bool, true, false}
use Prim.Native.Nat.{ℕ, zero, suc, ◌+◌, ◌≤◌}
use native.Mathlib.Omega.{arith}
use lib.ListN.{length, replicate, get_or-replicate, length-replicate, length-map}
use lib.Dec.{lt→ltb}
use lib.IntN.{pos}
use Rattle.limits.specs.Limits.{case_limit, bracket_limit}
use Rattle.arith.proofs.Laws.{mag_int32}
use Rattle.lexer.specs.Bytes.{bytes}
use Rattle.lexer.specs.Token.{Kind, kind_number, close_round, open_square, bar, is, token}
use Rattle.lexer.specs.Lexer.{token_at, value_of}
use Rattle.semantics.specs.Program.{Expression, Condition, changing, Case, UsableE, UsableC, UsableK}
use Rattle.grammar.specs.Parsed.{accepted, sign, phrase, followed}
use Rattle.grammar.specs.Expressions.{Scope, product_of, sum_of, whole_expression}
use Rattle.grammar.specs.Conditions.{listed}
use Rattle.grammar.specs.Forms.{case_value_opening}
use Rattle.grammar.specs.Rules.{Spanned, case_at, cases_from, list_from, plain_list, cases_of}
use Rattle.grammar.specs.Derivation.{Spells, IsName, Level, SpellsE, a_number, a_current, a_previous, brackets, plain, opposite, one_factor, product, one_term, sum, LevelC, SpellsC, not_square, one_atom, conjoined, one_conjunction, disjoined, normal, normals}
use Rattle.grammar.specs.Derivation as D
use Rattle.grammar.specs.Spelled.{squared, cased, SpellsCases, one_case, more_cases, SpellsList, one_listed, more_listed}
use Rattle.grammar.specs.Inner.Names.{Named}
use Rattle.lexer.proofs.Spellings.{is_fixed}
use Rattle.grammar.proofs.Bytes.{place_in}
use Rattle.grammar.proofs.Standing.{split, stands_in, spells_in, normally}
use Rattle.grammar.proofs.Phrases.{signs, fixed_at, phrase_reads, followed_reads}
use Rattle.grammar.proofs.Listed.{Listed, last, next}
use Rattle.grammar.proofs.Converse.{spelled_expression, spelled_listed}
use Rattle.grammar.proofs.DerivedCases.{cases_list}

-- ---- values that may be used where every name is known

module _ (names : List (List ℕ)) where
  abbrev everything : List Bool
  everything = replicate (length names) true

  all_usable : (v : Level) (l : ℕ) (ts : List (List ℕ)) (e : Expression) → SpellsE names v l ts e → UsableE everything e
  all_usable v l ts e (a_number w d h) = mag_int32 (pos (value_of w)) (omega arith)
  all_usable v l ts e (a_current w i ei) = get_or-replicate (length names) i true false (place_in names i w ei)
  all_usable v l ts e (a_previous w i ei) = lt→ltb i (length everything) (omega (arith, length-replicate (length names) true, place_in names i w ei))
  all_usable v l ts e (brackets us x d) = all_usable D.expression _ us x d
  all_usable v l ts e (plain us x d) = all_usable D.primary _ us x d
  all_usable v l ts e (opposite us x d) = all_usable D.primary _ us x d
  all_usable v l ts e (one_factor us x d) = all_usable D.factor _ us x d
  all_usable v l ts e (product w o us ws x y ps d f) = (all_usable D.term _ us x d, all_usable D.factor _ ws y f)
  all_usable v l ts e (one_term us x d) = all_usable D.term _ us x d
  all_usable v l ts e (sum w o us ws x y ps d f) = (all_usable D.expression _ us x d, all_usable D.term _ ws y f)

  pub all_usable_c : (v : LevelC) (l : ℕ) (ts : List (List ℕ)) (c : Condition) → SpellsC names v l ts c → UsableC everything c
  all_usable_c v l ts c (D.SpellsC.compared w o us ws x y ps d f) = (all_usable D.expression _ us x d, all_usable D.expression _ ws y f)
  all_usable_c v l ts c (D.SpellsC.square us x d) = all_usable_c D.condition _ us x d
  all_usable_c v l ts c (not_square us x d) = all_usable_c D.condition _ us x d
  all_usable_c v l ts c (one_atom us x d) = all_usable_c D.atom _ us x d
  all_usable_c v l ts c (conjoined us ws x y d f) = (all_usable_c D.conjunction _ us x d, all_usable_c D.atom _ ws y f)
  all_usable_c v l ts c (one_conjunction us x d) = all_usable_c D.conjunction _ us x d
  all_usable_c v l ts c (disjoined us ws x y d f) = (all_usable_c D.condition _ us x d, all_usable_c D.conjunction _ ws y f)

abbrev pub UsableL : List Bool → List Condition → Type 0
UsableL known [] = Unit {0}
UsableL known (c ∷ cs) = UsableC known c × UsableL known cs

all_usable_l : (names : List (List ℕ)) (ls : List (List ℕ)) (cs : List Condition) → SpellsList names ls cs → UsableL (everything names) cs
all_usable_l names ls cs (one_listed ts c d) = (all_usable_c names D.condition _ ts c d, tt)
all_usable_l names ls cs (more_listed ts us c ds d r) = (all_usable_c names D.condition _ ts c d, all_usable_l names us ds r)

cases_usable_l : (known : List Bool) (ks : List Case) → UsableK known ks → UsableL known (map (λ k. k.condition) ks)
cases_usable_l known [] u = tt
cases_usable_l known (k ∷ ks) u = (u.0, cases_usable_l known ks u.2)

module _ (sc : Scope) (good : Named sc.names) where
  -- ---- cases

  -- a case whose condition stands between two places
  abbrev spanned : Case → ℕ → ℕ → Spanned
  spanned k from to = record { case = k; span = record { from = from; to = to } }

  -- where a case's bracket stands, and what is read after it
  pub record CaseReads (w : List ℕ) (at m : ℕ) (ts : List (List ℕ)) (k : Case) : Type 0 where
    pub start : ℕ
    pub place : ℕ
    pub to : ℕ
    pub opens : token_at sc.text at ≡ token open_square start place
    pub reads : case_at sc w at place ≡ accepted (spanned k at to) m
    pub lists : Spells normal sc.text at to (squared ts)

  case_goes : (w : List ℕ) (at n n1 n2 n3 n4 : ℕ) (k : Case) → k.side ≡ changing → listed sc n ≡ accepted k.condition n1 → phrase sc.text (case_value_opening w) n1 ≡ accepted tt n2 → whole_expression sc n2 ≡ accepted k.value n3 → followed sc.text (sign close_round ∷ []) (spanned k at n1) n3 ≡ accepted (spanned k at n1) n4 → case_at sc w at n ≡ accepted (spanned k at n1) n4
  unfolding case_at
  case_goes w at n n1 n2 n3 n4 k es e1 e2 e3 e4 = rw (e1, e2, e3, ← es) e4

  case_reads : (w : List ℕ) → IsName w → (ts us : List (List ℕ)) (k : Case) → k.side ≡ changing → SpellsC (normals sc.names) D.condition bracket_limit ts k.condition → SpellsE (normals sc.names) D.expression bracket_limit us k.value → UsableC sc.known k.condition → UsableE sc.known k.value → (at m : ℕ) → at ≤ length sc.text → Spells normal sc.text at m (cased w ts us) → CaseReads w at m ts k
  unfolding signs is_fixed kind_number product_of sum_of is
  case_reads w nm ts us k es dc de uc ue at m h g =
      let text = sc.text in
      let p = split normally text at m (squared ts ++ bytes "&" ∷ w ∷ bytes "=" ∷ bytes "(" ∷ us) (bytes ")" ∷ []) g in
      let q = split normally text at p.place (squared ts) (bytes "&" ∷ w ∷ bytes "=" ∷ bytes "(" ∷ us) p.first in
      let r = split normally text q.place p.place (bytes "&" ∷ w ∷ bytes "=" ∷ bytes "(" ∷ []) us q.second in
      let n = q.first.0 in
      let i0 = (stands_in normally text at n (bytes "[") h q.first.1).1 in
      let i1 = (spells_in normally text at q.place (squared ts) h q.first).1 in
      let i2 = (spells_in normally text q.place r.place (bytes "&" ∷ w ∷ bytes "=" ∷ bytes "(" ∷ []) i1 r.first).1 in
      let i3 = (spells_in normally text r.place p.place us i2 r.second).1 in
      let close = fixed_at normally text close_round refl p.place p.second.0 i3 p.second.1 in
      record {
        start = q.first.1.start;
        place = n;
        to = q.place;
        opens = fixed_at normally text open_square refl at n h q.first.1;
        reads = case_goes w at n q.place r.place p.place m k es
            (spelled_listed sc good ts k.condition dc uc n q.place i0 q.first.2)
            (phrase_reads normally text (case_value_opening w) refl (nm, tt) q.place r.place i1 r.first)
            (spelled_expression sc good us k.value de ue r.place p.place i2 r.second close_round p.second.1.start p.second.0 close (refl, refl))
            (followed_reads normally text (sign close_round ∷ []) refl tt (spanned k at q.place) p.place m i3 p.second);
        lists = q.first;
      }

  pub record CasesReads (w : List ℕ) (left : ℕ) (done : List Spanned) (at n : ℕ) (ls : List (List ℕ)) (ks : List Case) : Type 0 where
    pub spans : List Spanned
    pub reads : cases_from left sc w done at ≡ accepted (done ++ spans) n
    pub are_cases : cases_of spans ≡ ks
    pub lists : Listed sc.text spans ls

  cases_on : (w : List ℕ) (left : ℕ) (done : List Spanned) (at s n m s2 n2 : ℕ) (c : Spanned) → token_at sc.text at ≡ token open_square s n → case_at sc w at n ≡ accepted c m → token_at sc.text m ≡ token bar s2 n2 → cases_from (suc left) sc w done at ≡ cases_from left sc w (done ++ (c ∷ [])) n2
  unfolding cases_from is kind_number
  cases_on w left done at s n m s2 n2 c e1 e2 e3 = rw (e1, e2, e3)

  cases_stop : (w : List ℕ) (left : ℕ) (done : List Spanned) (at s n m : ℕ) (k : Kind) (s2 n2 : ℕ) (c : Spanned) → token_at sc.text at ≡ token open_square s n → case_at sc w at n ≡ accepted c m → token_at sc.text m ≡ token k s2 n2 → is k bar ≡ false → cases_from (suc left) sc w done at ≡ accepted (done ++ (c ∷ [])) m
  unfolding cases_from is kind_number
  cases_stop w left done at s n m k s2 n2 c e1 e2 e3 e4 = rw (e1, e2, e3, e4)

  pub cases_read : (w : List ℕ) → IsName w → (left : ℕ) (done : List Spanned) (us ls : List (List ℕ)) (ks : List Case) → SpellsCases (normals sc.names) w us ls ks → UsableK sc.known ks → length ks ≤ left → (at n : ℕ) → at ≤ length sc.text → Spells normal sc.text at n us → (k : Kind) (s m : ℕ) → token_at sc.text n ≡ token k s m → is k bar ≡ false → CasesReads w left done at n ls ks
  unfolding is_fixed kind_number
  cases_read w nm zero done us ls ks (one_case ts vs c es dc de) u room at n h g k s m et nb = absurd (omega arith)
  cases_read w nm zero done us ls ks (more_cases ts vs cs ms c js es dc de r) u room at n h g k s m et nb = absurd (omega arith)
  cases_read w nm (suc left) done us ls ks (one_case ts vs c es dc de) u room at n h g k s m et nb =
      let x = case_reads w nm ts vs c es dc de u.0 u.1 at n h g in
      let sp = spanned c at x.to in
      record { spans = sp ∷ []; reads = cases_stop w left done at x.start x.place n k s m sp x.opens x.reads et nb; are_cases = refl; lists = last sp (squared ts) h x.lists }
  cases_read w nm (suc left) done us ls ks (more_cases ts vs cs ms c js es dc de r) u room at n h g k s m et nb =
      let p = split normally sc.text at n (cased w ts vs) (bytes "|" ∷ cs) g in
      let x = case_reads w nm ts vs c es dc de u.0 u.1 at p.place h p.first in
      let i1 = (spells_in normally sc.text at p.place (cased w ts vs) h p.first).1 in
      let m2 = p.second.0 in
      let i2 = (stands_in normally sc.text p.place m2 (bytes "|") i1 p.second.1).1 in
      let sp = spanned c at x.to in
      let y = cases_read w nm left (done ++ (sp ∷ [])) cs ms js r u.2 (omega arith) m2 n i2 p.second.2 k s m et nb in
      record {
        spans = sp ∷ y.spans;
        reads = cases_on w left done at x.start x.place p.place p.second.1.start m2 sp x.opens x.reads (fixed_at normally sc.text bar refl p.place m2 i1 p.second.1) ∙ (y.reads ∙ ap (λ (z : List Spanned). accepted z n) (append_assoc done (sp ∷ []) y.spans));
        are_cases = ap (λ (z : List Case). c ∷ z) y.are_cases;
        lists = next sp y.spans (squared ts) ms h x.lists y.lists;
      }

  -- ---- lists of conditions

  list_on : (left : ℕ) (done : List Condition) (at s n m s2 n2 : ℕ) (c : Condition) → token_at sc.text at ≡ token open_square s n → listed sc n ≡ accepted c m → token_at sc.text m ≡ token bar s2 n2 → list_from (suc left) sc done at ≡ list_from left sc (done ++ (c ∷ [])) n2
  unfolding list_from is kind_number
  list_on left done at s n m s2 n2 c e1 e2 e3 = rw (e1, e2, e3)

  list_stop : (left : ℕ) (done : List Condition) (at s n m s2 n2 : ℕ) (c : Condition) → token_at sc.text at ≡ token open_square s n → listed sc n ≡ accepted c m → token_at sc.text m ≡ token close_round s2 n2 → list_from (suc left) sc done at ≡ accepted (done ++ (c ∷ [])) m
  unfolding list_from is kind_number
  list_stop left done at s n m s2 n2 c e1 e2 e3 = rw (e1, e2, e3)

  list_reads : (left : ℕ) (done : List Condition) (ls : List (List ℕ)) (cs : List Condition) → SpellsList (normals sc.names) ls cs → UsableL sc.known cs → length cs ≤ left → (at n : ℕ) → at ≤ length sc.text → Spells normal sc.text at n ls → (s m : ℕ) → token_at sc.text n ≡ token close_round s m → list_from left sc done at ≡ accepted (done ++ cs) n
  unfolding is_fixed kind_number
  list_reads zero done ls cs (one_listed ts c d) u room at n h g s m et = absurd (omega arith)
  list_reads zero done ls cs (more_listed ts us c ds d r) u room at n h g s m et = absurd (omega arith)
  list_reads (suc left) done ls cs (one_listed ts c d) u room at n h g s m et =
      let i0 = (stands_in normally sc.text at g.0 (bytes "[") h g.1).1 in
      list_stop left done at g.1.start g.0 n s m c (fixed_at normally sc.text open_square refl at g.0 h g.1) (spelled_listed sc good ts c d u.0 g.0 n i0 g.2) et
  list_reads (suc left) done ls cs (more_listed ts us c ds d r) u room at n h g s m et =
      let p = split normally sc.text at n (squared ts) (bytes "|" ∷ us) g in
      let f = p.first in
      let i0 = (stands_in normally sc.text at f.0 (bytes "[") h f.1).1 in
      let i1 = (spells_in normally sc.text at p.place (squared ts) h f).1 in
      let m2 = p.second.0 in
      let i2 = (stands_in normally sc.text p.place m2 (bytes "|") i1 p.second.1).1 in
      list_on left done at f.1.start f.0 p.place p.second.1.start m2 c (fixed_at normally sc.text open_square refl at f.0 h f.1) (spelled_listed sc good ts c d u.0 f.0 p.place i0 f.2) (fixed_at normally sc.text bar refl p.place m2 i1 p.second.1)
      ∙ (list_reads left (done ++ (c ∷ [])) us ds r u.1 (omega arith) m2 n i2 p.second.2 s m et ∙ ap (λ (z : List Condition). accepted z n) (append_assoc done (c ∷ []) ds))

  plain_goes : (at n m : ℕ) (cs : List Condition) → list_from case_limit sc [] at ≡ accepted cs n → followed sc.text (sign close_round ∷ []) cs n ≡ accepted cs m → plain_list sc at ≡ accepted cs m
  unfolding plain_list
  plain_goes at n m cs e1 e2 = rw e1 e2

  pub plain_reads : (ls : List (List ℕ)) (cs : List Condition) → SpellsList (normals sc.names) ls cs → UsableL sc.known cs → length cs ≤ case_limit → (at m : ℕ) → at ≤ length sc.text → Spells normal sc.text at m (ls ++ bytes ")" ∷ []) → plain_list sc at ≡ accepted cs m
  unfolding signs is_fixed kind_number
  plain_reads ls cs d u room at m h g =
      let p = split normally sc.text at m ls (bytes ")" ∷ []) g in
      let i = (spells_in normally sc.text at p.place ls h p.first).1 in
      plain_goes at p.place m cs (list_reads case_limit [] ls cs d u room at p.place h p.first p.second.1.start p.second.0 (fixed_at normally sc.text close_round refl p.place p.second.0 i p.second.1))
      (followed_reads normally sc.text (sign close_round ∷ []) refl tt cs p.place m i p.second)

-- one list of tokens spells one list of conditions, where it stands in a text
one_list : (sc : Scope) → Named sc.names → (ls : List (List ℕ)) (cs ds : List Condition) → SpellsList (normals sc.names) ls cs → SpellsList (normals sc.names) ls ds → (at m : ℕ) → at ≤ length sc.text → Spells normal sc.text at m (ls ++ bytes ")" ∷ []) → cs ≡ ds
unfolding is_fixed kind_number
one_list sc good ls cs ds d e at m h g =
    let known : Scope = record { text = sc.text; names = sc.names; known = everything (normals sc.names) } in
    let p = split normally sc.text at m ls (bytes ")" ∷ []) g in
    let i = (spells_in normally sc.text at p.place ls h p.first).1 in
    let close = fixed_at normally sc.text close_round refl p.place p.second.0 i p.second.1 in
    let left = length cs + length ds in
    let first = list_reads known good left [] ls cs d (all_usable_l (normals sc.names) ls cs d) (omega arith) at p.place h p.first p.second.1.start p.second.0 close in
    let second = list_reads known good left [] ls ds e (all_usable_l (normals sc.names) ls ds e) (omega arith) at p.place h p.first p.second.1.start p.second.0 close in
    same cs ds p.place p.place (sym first ∙ second)
  where
    same : (x y : List Condition) (i j : ℕ) → accepted x i ≡ accepted y j → x ≡ y
    same x y i j q = cc

-- so the no-change list of a rule reads as the conditions of its cases, whose values may be used
pub no_change_reads : (sc : Scope) → Named sc.names → (w : List ℕ) (ts ls : List (List ℕ)) (ks : List Case) (cs : List Condition) → SpellsCases (normals sc.names) w ts ls ks → SpellsList (normals sc.names) ls cs → UsableK sc.known ks → length ks ≤ case_limit → (at m : ℕ) → at ≤ length sc.text → Spells normal sc.text at m (ls ++ bytes ")" ∷ []) → plain_list sc at ≡ accepted cs m
no_change_reads sc good w ts ls ks cs d e u room at m h g =
    let conditions = map (λ (k : Case). k.condition) ks in
    let same : conditions ≡ cs = one_list sc good ls conditions cs (cases_list (normals sc.names) w ts ls ks d) e at m h g in
    let count : length conditions ≡ length ks = length-map ks (λ (k : Case). k.condition) in
    plain_reads sc good ls cs e (subst (UsableL sc.known) same (cases_usable_l sc.known ks u)) (subst (λ (l : List Condition). length l ≤ case_limit) same (omega arith)) at m h g
