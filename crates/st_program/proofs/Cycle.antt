-- A cycle of the Structured Text leaves what the reference scan does. Assumes nothing.
use Prim.Native.Nat.{ℕ, zero, suc, ◌+◌, ◌-◌, ◌<◌, ◌≤◌}
use native.Mathlib.Omega.{arith}
use mathlib.Core.Path.{◌≡◌, refl, sym, ap, ◌∙◌, subst}
use mathlib.Core.Bool.{Bool, true, false, false≢true}
use mathlib.Core.List.{List, [], ◌∷◌, map}
use mathlib.Core.Option.{some}
use lib.Dec.{ltb}
use lib.IntN.{ℤ, pos}
use lib.ListN.{length, get_or, take, drop, get_or-append, length-map, length-append, length-drop}
use lib.Seq.{get_or-take, get_or-drop, get_or-append-add, length-take-le}
use borrow.Author.Tests.{ltb-true, ltb-false}
use Rattle.arith.specs.Values.{ok}
use Rattle.lexer.specs.Lexer.{same_name}
use Rattle.semantics.specs.Program.{Program, ranges_of, WellFormed, known_first}
use Rattle.semantics.specs.Formula.{State, at}
use Rattle.semantics.specs.ReferenceScan.{with_inputs}
use Rattle.semantics.proofs.Untimed.{plain_rules, untimed_order}
use Rattle.semantics.proofs.Reference.{length_known}
use Rattle.grammar.specs.Derivation.{IsName}
use Rattle.grammar.specs.Spelled.{Distinct, names_of}
use Rattle.st.specs.Syntax.{Identifier, StProgram}
use Rattle.st.specs.Meaning.{Store, value_in, given_row, is_input, run_statements, previous_name}
use Rattle.st_program.specs.Written.{name_at, rule_in_st, saving_line, program_in_st}
use Rattle.st_program.proofs.Stores.{store_names, input_names, apart_turned, apart_at, AllHeld, all_held, Rowed, rowed}
use Rattle.st_program.proofs.Values.{Shows}
use Rattle.st_program.proofs.Rules.{LiteralAll, SameFrame, frames, Separate, Underway, Ruled, rules_same, lines_same}
use Rattle.st_program.proofs.FirstStore.{AllNames, previous_apart, apart-previous, previous_distinct}

-- ---- names by their places

pub name_at_lem : (ws : List Identifier) → AllNames ws → (i : ℕ) → i < length ws → IsName (name_at ws i)
name_at_lem [] h i k = absurd (omega arith)
name_at_lem (w ∷ ws) h zero k = h.0
name_at_lem (w ∷ ws) h (suc i) k = name_at_lem ws h.1 i (omega arith)

distinct_at : (ws : List Identifier) → Distinct ws → (i j : ℕ) → i < length ws → j < length ws → (i ≡ j → ⊥) → same_name (name_at ws i) (name_at ws j) ≡ false
distinct_at [] d i j h k n = absurd (omega arith)
distinct_at (w ∷ ws) d zero zero h k n = absurd (n refl)
distinct_at (w ∷ ws) d zero (suc j) h k n = apart_at w ws d.0 j (omega arith)
distinct_at (w ∷ ws) d (suc i) zero h k n = apart_turned w (name_at ws i) (apart_at w ws d.0 i (omega arith))
distinct_at (w ∷ ws) d (suc i) (suc j) h k n = distinct_at ws d.1 i j (omega arith) (omega arith) (λ e. n (ap suc e))

pub previous_at_lem : (ws : List Identifier) (i : ℕ) → i < length ws → get_or (map previous_name ws) i [] ≡ previous_name (name_at ws i)
previous_at_lem [] i h = absurd (omega arith)
previous_at_lem (w ∷ ws) zero h = refl
previous_at_lem (w ∷ ws) (suc i) h = previous_at_lem ws i (omega arith)

unknown_later : (k m i : ℕ) → i < m → get_or (known_first k m) i false ≡ false → k ≤ i
unknown_later k zero i h e = absurd (omega arith)
unknown_later zero (suc m) i h e = omega arith
unknown_later (suc k) (suc m) zero h e = absurd (false≢true (sym e))
unknown_later (suc k) (suc m) (suc i) h e = let j = unknown_later k m i (omega arith) e in omega arith

-- behind the row stands the state
later_value : (row s : List ℤ) (i : ℕ) → length row ≤ i → at (with_inputs s row) i ≡ at s i
later_value row s i h =
    let e : length row + (i - length row) ≡ i = omega arith in
    subst (λ (j : ℕ). at (with_inputs s row) j ≡ at s j) e (get_or-append-add row (drop (length row) s) (i - length row) (pos 0) ∙ get_or-drop (length row) s (i - length row) (pos 0))

-- ---- a store between two cycles

-- where inputs stand: k of them, in order
pub record Framed (ws : List Identifier) (k : ℕ) (σ : Store) : Type 0 where
  pub order : input_names σ ≡ take k ws
  pub distinct : Distinct (store_names σ)
  pub free : (i : ℕ) → k ≤ i → i < length ws → is_input σ (name_at ws i) ≡ false
  pub free_past : (i : ℕ) → i < length ws → is_input σ (previous_name (name_at ws i)) ≡ false

pub still_framed : (ws : List Identifier) (k : ℕ) (σ τ : Store) → Framed ws k σ → SameFrame σ τ → Framed ws k τ
still_framed ws k σ τ f s =
    record {
      order = s.in_order ∙ f.order;
      distinct = subst Distinct (sym s.names) f.distinct;
      free = λ i h l. s.inputs (name_at ws i) ∙ f.free i h l;
      free_past = λ i h. s.inputs (previous_name (name_at ws i)) ∙ f.free_past i h;
    }

pub held_frame : (ws : List Identifier) (zs : List ℤ) (σ : Store) (x : AllHeld ws zs σ) → SameFrame σ x.store
held_frame ws zs σ x = record { inputs = x.inputs; in_order = x.in_order; names = x.names }

-- names and previous values alike
pub record Ready (ws : List Identifier) (k : ℕ) (σ : Store) (s : State) : Type 0 where
  pub frame : Framed ws k σ
  pub shows : Shows ws σ s s

pub record Cycled (ws : List Identifier) (p : StProgram) (lazy : Bool) (k : ℕ) (σ : Store) (row : List ℤ) (u : State) : Type 0 where
  pub middle : Store
  pub store : Store
  pub given : given_row row σ ≡ some middle
  pub ran : run_statements lazy p.body middle ≡ some store
  pub ready : Ready ws k store u

-- a program whose names are names, no two the same, and whose numbers carry no sign
pub record InSt (p : Program) : Type 0 where
  pub well_formed : WellFormed p
  pub named : AllNames (names_of p)
  pub distinct : Distinct (names_of p)
  pub literal : LiteralAll p.rules
  -- a timer has no Structured Text (21)
  pub untimed : p.timers ≡ []

module _ (p : Program) (w : InSt p) where
  separate : Separate (names_of p)
  separate = record {
    apart = distinct_at (names_of p) w.distinct;
    from_previous = λ i j h k. previous_apart (name_at (names_of p) i) (name_at (names_of p) j) (name_at_lem (names_of p) w.named j k).is_word;
  }

  pub same_count : length (ranges_of p) ≡ length (names_of p)
  same_count = length-map p.names (λ n. n.range) ∙ sym (length-map p.names (λ n. n.spelling))

  module _ (lazy : Bool) (σ : Store) (s : State) (r : Ready (names_of p) p.inputs σ s) (size : length s ≡ length (ranges_of p)) (row : List ℤ) (l : length row ≡ p.inputs) where
    abbrev ws : List Identifier
    ws = names_of p

    fit : p.inputs ≤ length (names_of p)
    fit = let a = w.well_formed.inputs_fit in let b = same_count in omega arith

    inputs_given : Rowed row σ
    inputs_given =
        rowed σ row r.frame.distinct (l ∙ sym (ap length r.frame.order ∙ length-take-le p.inputs (names_of p) fit))

    at_input : (i : ℕ) → i < p.inputs → value_in inputs_given.store (name_at (names_of p) i) ≡ some (at (with_inputs s row) i)
    at_input i h =
        let q : get_or (input_names σ) i [] ≡ name_at (names_of p) i = ap (λ (v : List Identifier). get_or v i []) r.frame.order ∙ get_or-take p.inputs (names_of p) i [] h in
        subst (λ (v : Identifier). value_in inputs_given.store v ≡ some (at (with_inputs s row) i)) q
        (inputs_given.here i (omega arith) ∙ ap some (sym (get_or-append row (drop (length row) s) (pos 0) i (omega arith))))

    at_variable : (i : ℕ) → p.inputs ≤ i → i < length (names_of p) → value_in inputs_given.store (name_at (names_of p) i) ≡ some (at (with_inputs s row) i)
    at_variable i h k =
        inputs_given.other (name_at (names_of p) i) (r.frame.free i h k) ∙ r.shows.now i k ∙ ap some (sym (later_value row s i (omega arith)))

    begun_shows : Shows (names_of p) inputs_given.store (with_inputs s row) s
    begun_shows = record { now = now; past = λ i h. inputs_given.other (previous_name (name_at (names_of p) i)) (r.frame.free_past i h) ∙ r.shows.past i h } where
      now : (i : ℕ) → i < length (names_of p) → value_in inputs_given.store (name_at (names_of p) i) ≡ some (at (with_inputs s row) i)
      now i h = by (ltb i p.inputs) (ltb-true i p.inputs) (ltb-false i p.inputs) where
        by : (t : Bool) → (t ≡ true → i < p.inputs) → (t ≡ false → p.inputs ≤ i) → value_in inputs_given.store (name_at (names_of p) i) ≡ some (at (with_inputs s row) i)
        by true f g = at_input i (f refl)
        by false f g = at_variable i (g refl) h

    begun : Underway (names_of p) inputs_given.store (with_inputs s row) s (known_first p.inputs (length (ranges_of p)))
    begun =
        let c = same_count in
        record {
          shows = begun_shows;
          unknown = λ i h n. later_value row s i (let k = unknown_later p.inputs (length (ranges_of p)) i (omega arith) n in omega arith);
          free = λ i h n. inputs_given.inputs (name_at (names_of p) i) ∙ r.frame.free i (unknown_later p.inputs (length (ranges_of p)) i (omega arith) n) h;
          size = length-append row (drop (length row) s) ∙ (let d = length-drop (length row) s in omega arith);
          knowns = length_known p.inputs (length (ranges_of p)) ∙ same_count;
        }

    module _ (u : State) (e : plain_rules (ranges_of p) s (with_inputs s row) p.rules ≡ ok u) (size-u : length u ≡ length (ranges_of p)) where
      ruled : Ruled (names_of p) lazy inputs_given.store u s (map (rule_in_st (names_of p)) p.rules)
      ruled = rules_same (names_of p) separate lazy (ranges_of p) s p.rules inputs_given.store (with_inputs s row) (known_first p.inputs (length (ranges_of p))) begun (untimed_order p w.untimed w.well_formed.ordered) w.literal u e

      saved : AllHeld (map previous_name (names_of p)) u ruled.store
      saved =
          let m = length-map (names_of p) previous_name in
          all_held (map previous_name (names_of p)) u ruled.store (size-u ∙ same_count ∙ sym m) (previous_distinct (names_of p) w.distinct)
          (λ i h. (at s i, ap (value_in ruled.store) (previous_at_lem (names_of p) i (omega arith)) ∙ ruled.shows.past i (omega arith)))

      given_frame : SameFrame σ inputs_given.store
      given_frame = record { inputs = inputs_given.inputs; in_order = inputs_given.in_order; names = inputs_given.names }

      lines : run_statements lazy (map saving_line (names_of p)) ruled.store ≡ some saved.store
      lines =
          lines_same lazy (names_of p) u ruled.store (size-u ∙ same_count) ruled.shows.now (λ i h. (at s i, ruled.shows.past i h))
          (λ i h. ruled.frame.inputs (previous_name (name_at (names_of p) i)) ∙ inputs_given.inputs (previous_name (name_at (names_of p) i)) ∙ r.frame.free_past i h)
          separate.from_previous
          ∙ saved.is

      pub cycled : Cycled (names_of p) (program_in_st p) lazy p.inputs σ row u
      unfolding program_in_st
      cycled =
          let m = length-map (names_of p) previous_name in
          record {
            middle = inputs_given.store;
            store = saved.store;
            given = inputs_given.is;
            ran = ruled.is (map saving_line (names_of p)) ∙ lines;
            ready = record {
              frame = still_framed (names_of p) p.inputs σ saved.store r.frame (frames given_frame (frames ruled.frame (held_frame (map previous_name (names_of p)) u ruled.store saved)));
              shows = record {
                now = λ i h. saved.other (name_at (names_of p) i) (apart-previous (name_at (names_of p) i) (name_at_lem (names_of p) w.named i h) (names_of p)) ∙ ruled.shows.now i h;
                past = λ i h. ap (value_in saved.store) (sym (previous_at_lem (names_of p) i h)) ∙ saved.here i (omega arith);
              };
            };
          }
