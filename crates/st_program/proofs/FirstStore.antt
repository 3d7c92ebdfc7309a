-- The variables of a program's Structured Text before its first cycle. Assumes nothing.
use Prim.Native.Nat.{ℕ}
use mathlib.Core.Path.{◌≡◌, refl, sym, ap, ap₂, ◌∙◌, subst}
use mathlib.Core.Bool.{Bool, true, false, cond, false≢true}
use mathlib.Core.List.{List, [], ◌∷◌, ◌++◌, map, append-nil}
use mathlib.Core.Logic.{◌⊎◌, inl, inr}
use mathlib.Core.Option.{some}
use lib.Dec.{eqb}
use borrow.Author.Tests.{ne_eqb}
use Rattle.lexer.specs.Bytes.{same_bytes, capital, capitals}
use Rattle.lexer.specs.Lexer.{is_letter, same_name}
use Rattle.lexer.specs.Spelling.{IsWord}
use Rattle.lexer.proofs.Capitals.{word_capitals}
use Rattle.semantics.specs.Program.{Name}
use Rattle.grammar.specs.Derivation.{IsName}
use Rattle.grammar.specs.Spelled.{Apart, Distinct}
use Rattle.st.specs.Syntax.{Identifier, Declaration}
use Rattle.st.specs.Meaning.{Variable, Store, variables_of, value_in, is_input, previous_name}
use Rattle.st_program.specs.Written.{current_line, previous_line, variable_lines}
use Rattle.st_program.proofs.Stores.{store_names, input_names, apart_turned, In, in_left, in_right, in_map, in_either, apart_in, value_of}

-- ---- names and previous values' names

abbrev pub AllNames : List Identifier → Type 0
AllNames [] = Unit {0}
AllNames (w ∷ ws) = IsName w × AllNames ws

-- a capital letter is no `_`
letter_no_underscore : (b : ℕ) → is_letter b ≡ true → eqb 95 b ≡ false
unfolding is_letter
letter_no_underscore b e = ne_eqb 95 b (λ q. absurd (false≢true (ap is_letter q ∙ e)))

-- a previous value's name is no name
pub previous_apart : (w v : Identifier) → IsWord v → same_name (previous_name w) v ≡ false
unfolding same_name same_bytes capitals capital
previous_apart w [] h = absurd h
previous_apart w (b ∷ v) h = rw (letter_no_underscore (capital b) (word_capitals (b ∷ v) h).0)

pub previous_same : (w v : Identifier) → same_name (previous_name w) (previous_name v) ≡ same_name w v
unfolding same_name same_bytes capitals capital
previous_same w v = refl

pub apart-previous : (w : Identifier) → IsName w → (vs : List Identifier) → Apart w (map previous_name vs)
apart-previous w h [] = tt
apart-previous w h (v ∷ vs) = (apart_turned (previous_name v) w (previous_apart v w h.is_word), apart-previous w h vs)

pub previous_apart_all : (w : Identifier) (vs : List Identifier) → AllNames vs → Apart (previous_name w) vs
previous_apart_all w [] h = tt
previous_apart_all w (v ∷ vs) h = (previous_apart w v h.0.is_word, previous_apart_all w vs h.1)

previous_apart_previous : (w : Identifier) (vs : List Identifier) → Apart w vs → Apart (previous_name w) (map previous_name vs)
previous_apart_previous w [] a = tt
previous_apart_previous w (v ∷ vs) a = (previous_same w v ∙ a.0, previous_apart_previous w vs a.1)

pub previous_distinct : (ws : List Identifier) → Distinct ws → Distinct (map previous_name ws)
previous_distinct [] d = tt
previous_distinct (w ∷ ws) d = (previous_apart_previous w ws d.0, previous_distinct ws d.1)

-- ---- lists of names

abbrev pub spelled : List Name → List Identifier
spelled ns = map (λ x. x.spelling) ns

abbrev pub line_names : List Declaration → List Identifier
line_names ds = map (λ d. d.name) ds

apart_append : (w : Identifier) (k l : List Identifier) → Apart w k → Apart w l → Apart w (k ++ l)
apart_append w [] l a b = b
apart_append w (x ∷ k) l a b = (a.0, apart_append w k l a.1 b)

apart_first : (w : Identifier) (k l : List Identifier) → Apart w (k ++ l) → Apart w k
apart_first w [] l a = tt
apart_first w (x ∷ k) l a = (a.0, apart_first w k l a.1)

apart_second : (w : Identifier) (k l : List Identifier) → Apart w (k ++ l) → Apart w l
apart_second w [] l a = a
apart_second w (x ∷ k) l a = apart_second w k l a.1

names_current : (ns : List Name) → line_names (map current_line ns) ≡ spelled ns
names_current [] = refl
names_current (n ∷ ns) = ap (λ (l : List Identifier). n.spelling ∷ l) (names_current ns)

names_previous : (ns : List Name) → line_names (map previous_line ns) ≡ map previous_name (spelled ns)
names_previous [] = refl
names_previous (n ∷ ns) = ap (λ (l : List Identifier). previous_name n.spelling ∷ l) (names_previous ns)

apart_lines : (w : Identifier) → IsName w → (ns : List Name) → Apart w (spelled ns) → Apart w (line_names (variable_lines ns))
apart_lines w h [] a = tt
apart_lines w h (n ∷ ns) a = (a.0, (apart_turned (previous_name n.spelling) w (previous_apart n.spelling w h.is_word), apart_lines w h ns a.1))

previous_apart_lines : (w : Identifier) (ns : List Name) → AllNames (spelled ns) → Apart w (spelled ns) → Apart (previous_name w) (line_names (variable_lines ns))
previous_apart_lines w [] h a = tt
previous_apart_lines w (n ∷ ns) h a = (previous_apart w n.spelling h.0.is_word, (previous_same w n.spelling ∙ a.0, previous_apart_lines w ns h.1 a.1))

lines_distinct : (ns : List Name) → AllNames (spelled ns) → Distinct (spelled ns) → Distinct (line_names (variable_lines ns))
lines_distinct [] h d = tt
lines_distinct (n ∷ ns) h d = (
  (apart_turned (previous_name n.spelling) n.spelling (previous_apart n.spelling n.spelling h.0.is_word), apart_lines n.spelling h.0 ns d.0),
  (previous_apart_lines n.spelling ns h.1 d.0, lines_distinct ns h.1 d.1),
)

-- previous values of inputs, then the variables
rest_distinct : (is vs : List Name) → AllNames (spelled is) → AllNames (spelled vs) → Distinct (spelled is ++ spelled vs) → Distinct (map previous_name (spelled is) ++ line_names (variable_lines vs))
rest_distinct [] vs h k d = lines_distinct vs k d
rest_distinct (n ∷ is) vs h k d = (
  apart_append (previous_name n.spelling) (map previous_name (spelled is)) (line_names (variable_lines vs))
      (previous_apart_previous n.spelling (spelled is) (apart_first n.spelling (spelled is) (spelled vs) d.0))
      (previous_apart_lines n.spelling vs k (apart_second n.spelling (spelled is) (spelled vs) d.0)),
  rest_distinct is vs h.1 k d.1,
)

-- the inputs before some, each apart from these
before_distinct : (ws vs l : List Identifier) → Distinct (ws ++ vs) → ((w : Identifier) → In w ws → Apart w l) → Distinct l → Distinct (ws ++ l)
before_distinct [] vs l d a e = e
before_distinct (w ∷ ws) vs l d a e = (apart_append w ws l (apart_first w ws vs d.0) (a w (inl refl)), before_distinct ws vs l d.1 (λ u i. a u (inr i)) e)

name_in : (w : Identifier) (ws : List Identifier) → AllNames ws → In w ws → IsName w
name_in w [] h i = absurd i
name_in w (x ∷ ws) h (inl e) = rw e h.0
name_in w (x ∷ ws) h (inr i) = name_in w ws h.1 i

distinct_in : (w : Identifier) (ws vs : List Identifier) → Distinct (ws ++ vs) → In w ws → Apart w vs
distinct_in w [] vs d i = absurd i
distinct_in w (x ∷ ws) vs d (inl e) = rw e (apart_second x ws vs d.0)
distinct_in w (x ∷ ws) vs d (inr i) = distinct_in w ws vs d.1 i

-- a later name is apart from all earlier ones
later_apart : (w : Identifier) (ws vs : List Identifier) → Distinct (ws ++ vs) → In w vs → Apart w ws
later_apart w [] vs d i = tt
later_apart w (x ∷ ws) vs d i = (apart_turned x w (apart_in x w vs (apart_second x ws vs d.0) i), later_apart w ws vs d.1 i)

all_first : (ws vs : List Identifier) → AllNames (ws ++ vs) → AllNames ws × AllNames vs
all_first [] vs h = (tt, h)
all_first (w ∷ ws) vs h = let r = all_first ws vs h.1 in ((h.0, r.0), r.1)

pub spelled_append : (k l : List Name) → spelled (k ++ l) ≡ spelled k ++ spelled l
spelled_append [] l = refl
spelled_append (n ∷ k) l = ap (λ (ws : List Identifier). n.spelling ∷ ws) (spelled_append k l)

-- ---- variables of declarations

names_append : (k l : List Declaration) → line_names (k ++ l) ≡ line_names k ++ line_names l
names_append [] l = refl
names_append (d ∷ k) l = ap (λ (ws : List Identifier). d.name ∷ ws) (names_append k l)

store_names_lem : (b : Bool) (ds : List Declaration) → store_names (variables_of b ds) ≡ line_names ds
store_names_lem b [] = refl
store_names_lem b (d ∷ ds) = ap (λ (ws : List Identifier). d.name ∷ ws) (store_names_lem b ds)

store_append : (σ τ : Store) → store_names (σ ++ τ) ≡ store_names σ ++ store_names τ
store_append [] τ = refl
store_append (x ∷ σ) τ = ap (λ (ws : List Identifier). x.name ∷ ws) (store_append σ τ)

inputs_first : (ds : List Declaration) (τ : Store) → input_names (variables_of true ds ++ τ) ≡ line_names ds ++ input_names τ
unfolding input_names
inputs_first [] τ = refl
inputs_first (d ∷ ds) τ = ap (λ (ws : List Identifier). d.name ∷ ws) (inputs_first ds τ)

no_inputs : (ds : List Declaration) → input_names (variables_of false ds) ≡ []
unfolding input_names
no_inputs [] = refl
no_inputs (d ∷ ds) = no_inputs ds

past_inputs : (ds : List Declaration) (τ : Store) (u : Identifier) → Apart u (line_names ds) → is_input (variables_of true ds ++ τ) u ≡ is_input τ u
unfolding is_input
past_inputs [] τ u a = refl
past_inputs (d ∷ ds) τ u a = rw a.0 (past_inputs ds τ u a.1)

either_false : (t r : Bool) → r ≡ false → cond t false r ≡ false
either_false true r e = refl
either_false false r e = e

none_input : (ds : List Declaration) (u : Identifier) → is_input (variables_of false ds) u ≡ false
unfolding is_input
none_input [] u = refl
none_input (d ∷ ds) u = either_false (same_name u d.name) (is_input (variables_of false ds) u) (none_input ds u)

in_lines : (n : Name) (ns : List Name) → In n ns → In (current_line n) (variable_lines ns) × In (previous_line n) (variable_lines ns)
in_lines n [] i = absurd i
in_lines n (m ∷ ns) (inl e) = (inl (ap current_line e), inr (inl (ap previous_line e)))
in_lines n (m ∷ ns) (inr i) = let r = in_lines n ns i in (inr (inr r.0), inr (inr r.1))

abbrev variable_of : Bool → Declaration → Variable
variable_of b d = record { name = d.name; input = b; value = d.start }

-- ---- the store

module _ (is vs : List Name) (names : AllNames (spelled (is ++ vs))) (distinct : Distinct (spelled (is ++ vs))) where
  abbrev pub first_store : Store
  first_store = variables_of true (map current_line is) ++ variables_of false (map previous_line is ++ variable_lines vs)

  apart_all : Distinct (spelled is ++ spelled vs)
  apart_all = subst Distinct (spelled_append is vs) distinct

  both_names : AllNames (spelled is) × AllNames (spelled vs)
  both_names = all_first (spelled is) (spelled vs) (subst AllNames (spelled_append is vs) names)

  -- all declared identifiers
  lines_are : line_names (map current_line is ++ (map previous_line is ++ variable_lines vs)) ≡ spelled is ++ (map previous_name (spelled is) ++ line_names (variable_lines vs))
  lines_are =
      names_append (map current_line is) (map previous_line is ++ variable_lines vs)
      ∙ ap₂ ◌++◌ (names_current is) (names_append (map previous_line is) (variable_lines vs) ∙ ap (λ (ws : List Identifier). ws ++ line_names (variable_lines vs)) (names_previous is))

  pub lines_apart : Distinct (line_names (map current_line is ++ (map previous_line is ++ variable_lines vs)))
  lines_apart =
      subst Distinct (sym lines_are)
      (before_distinct (spelled is) (spelled vs) (map previous_name (spelled is) ++ line_names (variable_lines vs)) apart_all
      (λ w i. let h = name_in w (spelled is) both_names.0 i in
      apart_append w (map previous_name (spelled is)) (line_names (variable_lines vs)) (apart-previous w h (spelled is)) (apart_lines w h vs (distinct_in w (spelled is) (spelled vs) apart_all i)))
      (rest_distinct is vs both_names.0 both_names.1 apart_all))

  pub store_apart : Distinct (store_names first_store)
  store_apart =
      let e : store_names first_store ≡ line_names (map current_line is ++ (map previous_line is ++ variable_lines vs))
      = store_append (variables_of true (map current_line is)) (variables_of false (map previous_line is ++ variable_lines vs))
      ∙ ap₂ ◌++◌ (store_names_lem true (map current_line is)) (store_names_lem false (map previous_line is ++ variable_lines vs))
      ∙ sym (names_append (map current_line is) (map previous_line is ++ variable_lines vs)) in
      subst Distinct (sym e) lines_apart

  pub first_inputs : input_names first_store ≡ spelled is
  first_inputs =
      inputs_first (map current_line is) (variables_of false (map previous_line is ++ variable_lines vs))
      ∙ ap₂ ◌++◌ (names_current is) (no_inputs (map previous_line is ++ variable_lines vs)) ∙ append-nil (spelled is)

  -- what is apart from the inputs' names is no input
  apart_free : (u : Identifier) → Apart u (spelled is) → is_input first_store u ≡ false
  apart_free u a =
      past_inputs (map current_line is) (variables_of false (map previous_line is ++ variable_lines vs)) u (subst (Apart u) (sym (names_current is)) a)
      ∙ none_input (map previous_line is ++ variable_lines vs) u

  pub variable_free : (n : Name) → In n vs → is_input first_store n.spelling ≡ false
  variable_free n i = apart_free n.spelling (later_apart n.spelling (spelled is) (spelled vs) apart_all (in_map (λ x. x.spelling) n vs i))

  pub previous_free : (w : Identifier) → is_input first_store (previous_name w) ≡ false
  previous_free w = apart_free (previous_name w) (previous_apart_all w (spelled is) both_names.0)

  -- the values of a name and of its previous one are its start
  pub current_found : (n : Name) → In n (is ++ vs) → value_in first_store n.spelling ≡ some n.range.start
  current_found n i = by (in_either n is vs i) where
    by : In n is ⊎ In n vs → value_in first_store n.spelling ≡ some n.range.start
    by (inl j) =
        value_of first_store (variable_of true (current_line n)) store_apart
        (in_left (variable_of true (current_line n)) (variables_of true (map current_line is)) (variables_of false (map previous_line is ++ variable_lines vs))
        (in_map (variable_of true) (current_line n) (map current_line is) (in_map current_line n is j)))
    by (inr j) =
        value_of first_store (variable_of false (current_line n)) store_apart
        (in_right (variable_of false (current_line n)) (variables_of true (map current_line is)) (variables_of false (map previous_line is ++ variable_lines vs))
        (in_map (variable_of false) (current_line n) (map previous_line is ++ variable_lines vs) (in_right (current_line n) (map previous_line is) (variable_lines vs) (in_lines n vs j).0)))

  pub previous_found : (n : Name) → In n (is ++ vs) → value_in first_store (previous_name n.spelling) ≡ some n.range.start
  previous_found n i =
      value_of first_store (variable_of false (previous_line n)) store_apart
      (in_right (variable_of false (previous_line n)) (variables_of true (map current_line is)) (variables_of false (map previous_line is ++ variable_lines vs))
      (in_map (variable_of false) (previous_line n) (map previous_line is ++ variable_lines vs) (by (in_either n is vs i)))) where
        by : In n is ⊎ In n vs → In (previous_line n) (map previous_line is ++ variable_lines vs)
        by (inl j) = in_left (previous_line n) (map previous_line is) (variable_lines vs) (in_map previous_line n is j)
        by (inr j) = in_right (previous_line n) (map previous_line is) (variable_lines vs) (in_lines n vs j).1
