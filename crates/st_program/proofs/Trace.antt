-- The document's sentence, and cycle after cycle from the declared starts. Assumes nothing.
use Prim.Native.Nat.{ℕ, zero, suc, ◌<◌, ◌≤◌}
use native.Mathlib.Omega.{arith}
use mathlib.Core.Path.{◌≡◌, refl, sym, ap, ◌∙◌, subst}
use mathlib.Core.Bool.{Bool, true, false}
use mathlib.Core.List.{List, [], ◌∷◌, ◌++◌, map}
use mathlib.Core.Logic.{inl, inr}
use mathlib.Core.Option.{some}
use lib.Dec.{eqb}
use lib.IntN.{ℤ}
use lib.ListN.{length, take, drop, take-append-drop, length-map}
use borrow.Author.Tests.{eqb-true}
use Rattle.arith.specs.Values.{Outcome, ok, refusal, check}
use Rattle.arith.proofs.Basics.{ok≢refusal}
use Rattle.semantics.specs.Program.{Name, Program, ranges_of}
use Rattle.semantics.specs.Formula.{State, at}
use Rattle.semantics.specs.Shape.{all_within}
use Rattle.semantics.specs.ReferenceScan.{with_inputs, reference_scan}
use Rattle.semantics.proofs.Untimed.{plain_rules, plain_scan, plain_states, plain_starts, plain_scan_lem}
use Rattle.semantics.specs.Rows.{reply, reference_replies, starts_of, accepted_states, accepted_rows, InRanges}
use Rattle.semantics.proofs.Reference.{reference_next}
use Rattle.grammar.specs.Spelled.{Distinct, names_of}
use Rattle.st.specs.Syntax.{Identifier}
use Rattle.st.specs.Reading.{program_read}
use Rattle.st.specs.Meaning.{Store, fresh_store, value_in, is_input, previous_name, values_in, cycle_leaves, cycle_states}
use Rattle.st_program.specs.Written.{name_at, program_in_st}
use Rattle.st_program.proofs.Stores.{AllHeld, all_held, values_listed, In}
use Rattle.st_program.proofs.Rules.{frames}
use Rattle.st_program.proofs.FirstStore.{AllNames, apart-previous, previous_apart_all, previous_distinct, spelled, first_store, store_apart, first_inputs, variable_free, previous_free, current_found, previous_found}
use Rattle.st_program.proofs.Cycle.{name_at_lem, previous_at_lem, still_framed, held_frame, Ready, Cycled, InSt, same_count, cycled}

-- a name by its place
record Placed (ns : List Name) (i : ℕ) : Type 0 where
  name : Name
  in_list : In name ns
  spells : name_at (spelled ns) i ≡ name.spelling
  starts : at (map (λ n. n.start) (map (λ n. n.range) ns)) i ≡ name.range.start

placed : (ns : List Name) (i : ℕ) → i < length (spelled ns) → Placed ns i
placed [] i h = absurd (omega arith)
placed (n ∷ ns) zero h = record { name = n; in_list = inl refl; spells = refl; starts = refl }
placed (n ∷ ns) (suc i) h = let r = placed ns i (omega arith) in record { name = r.name; in_list = inr r.in_list; spells = r.spells; starts = r.starts }

-- the one at a place behind the first k stands among the later ones
later_in : (ns : List Name) (k i : ℕ) → k ≤ i → i < length (spelled ns) → (n : Name) × In n (drop k ns) × (name_at (spelled ns) i ≡ n.spelling)
later_in ns zero i h l = let r = placed ns i l in (r.name, r.in_list, r.spells)
later_in [] (suc k) i h l = absurd (omega arith)
later_in (n ∷ ns) (suc k) zero h l = absurd (omega arith)
later_in (n ∷ ns) (suc k) (suc i) h l = later_in ns k i (omega arith) (omega arith)

spelled_take : (k : ℕ) (ns : List Name) → spelled (take k ns) ≡ take k (spelled ns)
spelled_take zero ns = refl
spelled_take (suc k) [] = refl
spelled_take (suc k) (n ∷ ns) = ap (λ (ws : List Identifier). n.spelling ∷ ws) (spelled_take k ns)

-- the tests of a reference scan that was accepted
passed_tests : (a b : Bool) (o : Outcome State) (u : State) → check a 12 (check b 13 o) ≡ ok u → (a ≡ true) × (o ≡ ok u)
passed_tests true true o u e = (refl, e)
passed_tests true false o u e = ok≢refusal u 13 (sym e)
passed_tests false b o u e = ok≢refusal u 12 (sym e)

scan_passed : (p : Program) → p.timers ≡ [] → (s : State) (row : List ℤ) (u : State) → reference_scan p s row ≡ ok u → (length row ≡ p.inputs) × (plain_rules (ranges_of p) s (with_inputs s row) p.rules ≡ ok u)
unfolding plain_scan
scan_passed p untimed s row u e =
    let r = passed_tests (eqb (length row) p.inputs) (all_within (ranges_of p) row) (plain_rules (ranges_of p) s (with_inputs s row) p.rules) u (sym (plain_scan_lem p untimed s row) ∙ e) in
    (eqb-true (length row) p.inputs r.0, r.1)

module _ (p : Program) (w : InSt p) where
  joined_names : AllNames (spelled (take p.inputs p.names ++ drop p.inputs p.names))
  joined_names = subst (λ (ns : List Name). AllNames (spelled ns)) (sym (take-append-drop p.inputs p.names)) w.named

  joined_distinct : Distinct (spelled (take p.inputs p.names ++ drop p.inputs p.names))
  joined_distinct = subst (λ (ns : List Name). Distinct (spelled ns)) (sym (take-append-drop p.inputs p.names)) w.distinct

  in_parts : (n : Name) → In n p.names → In n (take p.inputs p.names ++ drop p.inputs p.names)
  in_parts n i = subst (In n) (sym (take-append-drop p.inputs p.names)) i

  -- ---- before the first cycle
  ready_plain : Ready (names_of p) p.inputs (fresh_store (program_in_st p)) (map (λ n. n.start) (ranges_of p))
  unfolding program_in_st
  ready_plain =
      let is = take p.inputs p.names in
      let vs = drop p.inputs p.names in
      record {
        frame = record {
          order = first_inputs is vs joined_names joined_distinct ∙ spelled_take p.inputs p.names;
          distinct = store_apart is vs joined_names joined_distinct;
          free = λ i h l. let n = later_in p.names p.inputs i h l in ap (is_input (first_store is vs joined_names joined_distinct)) n.2 ∙ variable_free is vs joined_names joined_distinct n.0 n.1;
          free_past = λ i h. previous_free is vs joined_names joined_distinct (name_at (names_of p) i);
        };
        shows = record {
          now = λ i h. let n = placed p.names i h in
              ap (value_in (first_store is vs joined_names joined_distinct)) n.spells ∙ current_found is vs joined_names joined_distinct n.name (in_parts n.name n.in_list) ∙ ap some (sym n.starts);
          past = λ i h. let n = placed p.names i h in
              ap (λ (v : Identifier). value_in (first_store is vs joined_names joined_distinct) (previous_name v)) n.spells ∙ previous_found is vs joined_names joined_distinct n.name (in_parts n.name n.in_list) ∙ ap some (sym n.starts);
        };
      }

  pub fresh_ready : Ready (names_of p) p.inputs (fresh_store (program_in_st p)) (starts_of p)
  fresh_ready = subst (Ready (names_of p) p.inputs (fresh_store (program_in_st p))) (sym (plain_starts p w.untimed)) ready_plain

  sized : (s : State) → InRanges p s → length s ≡ length (ranges_of p)
  sized s g = g.size ∙ plain_states p w.untimed

  listed : (σ : Store) (s : State) → length s ≡ length (ranges_of p) → Ready (names_of p) p.inputs σ s → (values_in σ (names_of p) ≡ some s) × (values_in σ (map previous_name (names_of p)) ≡ some s)
  listed σ s l r =
      let m = length-map (names_of p) previous_name in (
        values_listed σ (names_of p) s (l ∙ same_count p w) r.shows.now,
        values_listed σ (map previous_name (names_of p)) s (l ∙ same_count p w ∙ sym m) (λ i h. ap (value_in σ) (previous_at_lem (names_of p) i (omega arith)) ∙ r.shows.past i (omega arith)),
      )

  -- the declared starts
  pub fresh_values : (values_in (fresh_store (program_in_st p)) (names_of p) ≡ some (starts_of p)) × (values_in (fresh_store (program_in_st p)) (map previous_name (names_of p)) ≡ some (starts_of p))
  fresh_values = listed (fresh_store (program_in_st p)) (starts_of p) (ap length (plain_starts p w.untimed) ∙ length-map (ranges_of p) (λ n. n.start)) fresh_ready

  -- ---- one cycle from a state

  module _ (s : State) (l : length s ≡ length (ranges_of p)) where
    names_held : AllHeld (names_of p) s (fresh_store (program_in_st p))
    names_held = all_held (names_of p) s (fresh_store (program_in_st p)) (l ∙ same_count p w) w.distinct (λ i h. (at (starts_of p) i, fresh_ready.shows.now i h))

    previous_held : AllHeld (map previous_name (names_of p)) s names_held.store
    previous_held =
        let m = length-map (names_of p) previous_name in
        all_held (map previous_name (names_of p)) s names_held.store (l ∙ same_count p w ∙ sym m) (previous_distinct (names_of p) w.distinct)
        (λ i h. (
          at (starts_of p) i,
          ap (value_in names_held.store) (previous_at_lem (names_of p) i (omega arith))
              ∙ names_held.other (previous_name (name_at (names_of p) i)) (previous_apart_all (name_at (names_of p) i) (names_of p) w.named) ∙ fresh_ready.shows.past i (omega arith),
        ))

    state_ready : Ready (names_of p) p.inputs previous_held.store s
    state_ready =
        let m = length-map (names_of p) previous_name in
        record {
          frame = still_framed (names_of p) p.inputs (fresh_store (program_in_st p)) previous_held.store fresh_ready.frame
              (frames (held_frame (names_of p) s (fresh_store (program_in_st p)) names_held) (held_frame (map previous_name (names_of p)) s names_held.store previous_held));
          shows = record {
            now = λ i h. previous_held.other (name_at (names_of p) i) (apart-previous (name_at (names_of p) i) (name_at_lem (names_of p) w.named i h) (names_of p)) ∙ names_held.here i h;
            past = λ i h. ap (value_in previous_held.store) (sym (previous_at_lem (names_of p) i h)) ∙ previous_held.here i (omega arith);
          };
        }

  next : (lazy : Bool) (σ : Store) (s : State) → Ready (names_of p) p.inputs σ s → InRanges p s → (row : List ℤ) (u : State) → reference_scan p s row ≡ ok u → Cycled (names_of p) (program_in_st p) lazy p.inputs σ row u
  next lazy σ s r g row u e =
      let x = scan_passed p w.untimed s row u e in
      cycled p w lazy σ s r (sized s g) row x.0 u x.1 (sized u (reference_next p w.well_formed s g row u e).kept)

  -- Started with the scan's state in names and previous values alike, then given an accepted row's inputs, they leave the same values as the scan.
  pub leaves_same : (lazy : Bool) (text : List ℕ) → program_read text ≡ some (program_in_st p) → (s : State) → InRanges p s → (row : List ℤ) (u : State) → reference_scan p s row ≡ ok u
      → cycle_leaves lazy text (names_of p) s row ≡ some (record { names = u; previous = u })
  unfolding cycle_leaves
  leaves_same lazy text q s g row u e =
      let l = sized s g in
      let c = next lazy (previous_held s l).store s (state_ready s l) g row u e in
      let v = listed c.store u (sized u (reference_next p w.well_formed s g row u e).kept) c.ready in
      rw (q, (names_held s l).is, (previous_held s l).is, c.given, c.ran, v.0, v.1)

  -- ---- cycle after cycle

  pub cycles_same : (lazy : Bool) (rows : List (List ℤ)) (σ : Store) (s : State) → Ready (names_of p) p.inputs σ s → InRanges p s
      → cycle_states lazy (program_in_st p) (names_of p) σ (accepted_rows rows (reference_replies p s rows)) ≡ some (accepted_states (reference_replies p s rows))
  unfolding cycle_states
  cycles_same lazy [] σ s r g = refl
  cycles_same lazy (row ∷ rows) σ s r g = by (reference_scan p s row) refl (λ τ u. cycles_same lazy rows τ u) where
    by : (o : Outcome State) → reference_scan p s row ≡ o
        → ((τ : Store) (u : State) → Ready (names_of p) p.inputs τ u → InRanges p u → cycle_states lazy (program_in_st p) (names_of p) τ (accepted_rows rows (reference_replies p u rows)) ≡ some (accepted_states (reference_replies p u rows)))
        → cycle_states lazy (program_in_st p) (names_of p) σ (accepted_rows (row ∷ rows) (reply s o ∷ reference_replies p (reply s o).state rows)) ≡ some (accepted_states (reply s o ∷ reference_replies p (reply s o).state rows))
    by (ok u) e more =
        let c = next lazy σ s r g row u e in
        let k = (reference_next p w.well_formed s g row u e).kept in
        let v = listed c.store u (sized u k) c.ready in
        rw (c.given, c.ran, v.0, more c.store u c.ready k)
    by (refusal n) e more = more σ s r g
