-- Without timers document 01's statements come back: the order of the rules, lengths, starts, the plain scan and its one trace.
-- Assumes nothing.
use Prim.Native.Nat.{ℕ, zero, suc}
use native.Mathlib.Omega.{arith}
use native.Mathlib.Nat.{sub-zero}
use mathlib.Core.Path.{◌≡◌, refl, sym, ap, ap₂, subst, ◌∙◌}
use mathlib.Core.Bool.{Bool, true, false}
use mathlib.Core.List.{List, [], ◌∷◌, ◌++◌, map}
use lib.Dec.{T, eqb, ltb}
use lib.IntN.{ℤ}
use lib.ListN.{length, get_or, set, take, replicate}
use lib.Seq.{take_all}
use borrow.Author.Tests.{eqb-true}
use Rattle.limits.specs.Limits.{wrong_length, input_out_of_range}
use Rattle.arith.specs.Values.{Outcome, ok, refusal, ◌>>=◌, check}
use Rattle.semantics.specs.Program.{Range, Rule, target, UsableR, all_true, OrderedRules, known_first, Ordered, Program, ranges_of, TimersFit, WellFormed, Timer}
use Rattle.semantics.specs.Formula.{State, at, Satisfies}
use Rattle.semantics.specs.Shape.{shape_of, has_timer, time_ranges, cells, state_length, all_within, row_length, row_in_range, Setting, setting_of}
use Rattle.semantics.specs.ReferenceScan.{new_value, scan_rules, with_inputs, reference_scan}
use Rattle.semantics.specs.Rows.{Reply, reply, reference_replies, starts_of, accepted_states, accepted_rows, trace_of, final_state, last_place, Fits, Timed, InRanges, OnlyTrace}
use Rattle.arith.proofs.Basics.{ok≢refusal, bind_cong}
use Rattle.semantics.proofs.Reference.{reference_trace}

-- ---- document 01's definitions

abbrev pub PlainOrder : List Bool → List Rule → Type 0
PlainOrder known [] = T (all_true known)
PlainOrder known (r ∷ rs) =
    UsableR known r × T (ltb (target r) (length known)) × (get_or known (target r) false ≡ false) × PlainOrder (set known (target r) true) rs

abbrev pub plain_rules : List Range → State → State → List Rule → Outcome State
plain_rules ns s t [] = ok t
plain_rules ns s t (r ∷ rs) = new_value ns s t r >>= λ z. plain_rules ns s (set t (target r) z) rs

unfoldable pub plain_scan : Program → State → List ℤ → Outcome State
plain_scan p s row =
    check (eqb (length row) p.inputs) wrong_length
    (check (all_within (ranges_of p) row) input_out_of_range
    (plain_rules (ranges_of p) s (with_inputs s row) p.rules))

abbrev pub plain_replies : Program → State → List (List ℤ) → List Reply
plain_replies p s [] = []
plain_replies p s (r ∷ rs) = let a = reply s (plain_scan p s r) in a ∷ plain_replies p a.state rs

abbrev pub PlainFits : Program → List (List ℤ) → List State → Type 0
PlainFits p [] [] = Unit {0}
PlainFits p [] (t ∷ ts) = ⊥
PlainFits p (r ∷ rs) [] = ⊥
PlainFits p (r ∷ rs) (t ∷ ts) = (length t ≡ length (ranges_of p)) × (take p.inputs t ≡ r) × PlainFits p rs ts

pub record PlainTrace (p : Program) (s : State) (rows : List (List ℤ)) (found : List Reply) : Type 0 where
  pub satisfies : Satisfies p (trace_of s found)
  pub fits : PlainFits p (accepted_rows rows found) (accepted_states found)
  pub unique : (others : List State) → PlainFits p (accepted_rows rows found) others → Satisfies p (s ∷ others) → others ≡ accepted_states found
  pub last : final_state s found ≡ last_place s (accepted_states found)

-- ---- lists without timers

pub plain_order : (known : List Bool) (rs : List Rule) → OrderedRules [] known rs ≡ PlainOrder known rs
plain_order known [] = refl
plain_order known (r ∷ rs) =
    ap (λ (X : Type 0). UsableR known r × T (ltb (target r) (length known)) × (get_or known (target r) false ≡ false) × X) (plain_order (set known (target r) true) rs)

plain_rules_lem : (k : Setting) (s t : State) (rs : List Rule) → scan_rules k [] s t rs ≡ plain_rules k.ranges s t rs
plain_rules_lem k s t [] = refl
plain_rules_lem k s t (r ∷ rs) = bind_cong {m = new_value k.ranges s t r} refl λ z. plain_rules_lem k s (set t (target r) z) rs

no_times : (n : ℕ) → time_ranges (replicate n 0 ++ []) ≡ []
no_times zero = refl
no_times (suc n) = no_times n

no_timer_lem : (n : ℕ) → has_timer (replicate n 0 ++ []) ≡ false
no_timer_lem zero = refl
no_timer_lem (suc n) = no_timer_lem n

-- ---- a program without timers

module _ (p : Program) (untimed : p.timers ≡ []) where
  pub plain_cells : cells (shape_of p) ≡ ranges_of p
  plain_cells = rw (untimed, no_times)

  pub untimed_order : Ordered p → OrderedRules [] (known_first p.inputs (length (ranges_of p))) p.rules
  untimed_order o = subst (λ (ts : List Timer). OrderedRules ts (known_first p.inputs (length (ranges_of p))) p.rules) untimed o

  pub plain_states : state_length (shape_of p) ≡ length (ranges_of p)
  plain_states = rw plain_cells

  pub plain_length : row_length (shape_of p) ≡ p.inputs
  plain_length = rw (untimed, no_timer_lem)

  pub plain_starts : starts_of p ≡ map (λ n. n.start) (ranges_of p)
  plain_starts = rw plain_cells

  pub plain_fit : TimersFit p
  plain_fit = record { numbered = rw untimed (sub-zero (length (ranges_of p))); each = rw untimed tt }

  pub plain_row : (row : List ℤ) → row_in_range (shape_of p) row ≡ all_within (ranges_of p) row
  plain_row row = rw (untimed, no_timer_lem)

  row_whole : (row : List ℤ) → length row ≡ p.inputs → take p.inputs row ≡ row
  row_whole row l = take_all p.inputs row (omega arith)

  module _ (s : State) (row : List ℤ) where
    pub plain_scan_lem : reference_scan p s row ≡ plain_scan p s row
    unfolding reference_scan plain_scan
    plain_scan_lem = rw plain_length (go (eqb (length row) p.inputs) (eqb-true (length row) p.inputs))
      where
        rules : scan_rules (setting_of (shape_of p) row) p.timers s (with_inputs s row) p.rules ≡ plain_rules (ranges_of p) s (with_inputs s row) p.rules
        rules =
            ap (λ (ts : List Timer). scan_rules (setting_of (shape_of p) row) ts s (with_inputs s row) p.rules) untimed ∙ plain_rules_lem (setting_of (shape_of p) row) s (with_inputs s row) p.rules
            ∙ ap (λ (ns : List Range). plain_rules ns s (with_inputs s row) p.rules) plain_cells

        go : (b : Bool) → (b ≡ true → length row ≡ p.inputs)
            → check b wrong_length (check (row_in_range (shape_of p) row) input_out_of_range (scan_rules (setting_of (shape_of p) row) p.timers s (with_inputs s (take p.inputs row)) p.rules))
            ≡ check b wrong_length (check (all_within (ranges_of p) row) input_out_of_range (plain_rules (ranges_of p) s (with_inputs s row) p.rules))
        go false f = refl
        go true f =
            let l = f refl in
            ap₂ (λ (b : Bool) (o : Outcome State). check b input_out_of_range o) (plain_row row) (ap (λ (r : List ℤ). scan_rules (setting_of (shape_of p) row) p.timers s (with_inputs s r) p.rules) (row_whole row l) ∙ rules)

  pub plain_replies_lem : (s : State) (rows : List (List ℤ)) → reference_replies p s rows ≡ plain_replies p s rows
  plain_replies_lem s [] = refl
  plain_replies_lem s (r ∷ rs) =
      rw (plain_scan_lem s r) (ap (λ (l : List Reply). reply s (plain_scan p s r) ∷ l) (plain_replies_lem (reply s (plain_scan p s r)).state rs))

  pub plain_timed : (rows : List (List ℤ)) (s : State) (ts : List State) → Timed p rows s ts
  plain_timed rows s [] = tt
  plain_timed [] s (t ∷ ts) = tt
  plain_timed (r ∷ rs) s (t ∷ ts) = (rw untimed tt, plain_timed rs t ts)

  -- an accepted row has one number for each input
  abbrev Whole : List (List ℤ) → Type 0
  Whole [] = Unit {0}
  Whole (r ∷ rs) = (length r ≡ p.inputs) × Whole rs

  scanned_whole : (s : State) (row : List ℤ) (u : State) → plain_scan p s row ≡ ok u → length row ≡ p.inputs
  unfolding plain_scan
  scanned_whole s row u e = go (eqb (length row) p.inputs) (eqb-true (length row) p.inputs) e
    where
      go : (b : Bool) → (b ≡ true → length row ≡ p.inputs) → check b wrong_length (check (all_within (ranges_of p) row) input_out_of_range (plain_rules (ranges_of p) s (with_inputs s row) p.rules)) ≡ ok u
          → length row ≡ p.inputs
      go true f e = f refl
      go false f e = ok≢refusal u wrong_length (sym e)

  rows_whole : (s : State) (rows : List (List ℤ)) → Whole (accepted_rows rows (plain_replies p s rows))
  rows_whole s [] = tt
  rows_whole s (r ∷ rs) = go (plain_scan p s r) (scanned_whole s r) (λ t. rows_whole t rs)
    where
      go : (o : Outcome State) → ((u : State) → o ≡ ok u → length r ≡ p.inputs) → ((t : State) → Whole (accepted_rows rs (plain_replies p t rs)))
          → Whole (accepted_rows (r ∷ rs) (reply s o ∷ plain_replies p (reply s o).state rs))
      go (ok u) f ih = (f u refl, ih u)
      go (refusal k) f ih = ih s

  plain_fits : (rows : List (List ℤ)) (ts : List State) → Whole rows → Fits p rows ts → PlainFits p rows ts
  plain_fits [] [] w f = tt
  plain_fits [] (t ∷ ts) w f = f
  plain_fits (r ∷ rs) [] w f = f
  plain_fits (r ∷ rs) (t ∷ ts) w f = (f.0 ∙ plain_states, f.1 ∙ row_whole r w.0, plain_fits rs ts w.1 f.2)

  fits_plain : (rows : List (List ℤ)) (ts : List State) → Whole rows → PlainFits p rows ts → Fits p rows ts
  fits_plain [] [] w f = tt
  fits_plain [] (t ∷ ts) w f = f
  fits_plain (r ∷ rs) [] w f = f
  fits_plain (r ∷ rs) (t ∷ ts) w f = (f.0 ∙ sym plain_states, f.1 ∙ sym (row_whole r w.0), fits_plain rs ts w.1 f.2)

  -- document 01's claim about every list of rows
  pub plain_trace : WellFormed p → (rows : List (List ℤ)) (s : State) → length s ≡ length (ranges_of p) → T (all_within (ranges_of p) s) → PlainTrace p s rows (plain_replies p s rows)
  plain_trace wf rows s size ranges =
      let g : InRanges p s = record { size = size ∙ sym plain_states; ranges = rw plain_cells ranges } in
      let c : OnlyTrace p s rows (plain_replies p s rows) = rw (plain_replies_lem s rows) at (reference_trace p wf rows s g) in
      let w = rows_whole s rows in
      record {
        satisfies = c.satisfies;
        fits = plain_fits (accepted_rows rows (plain_replies p s rows)) (accepted_states (plain_replies p s rows)) w c.fits;
        unique = λ others f h. c.unique others (fits_plain (accepted_rows rows (plain_replies p s rows)) others w f) h (plain_timed (accepted_rows rows (plain_replies p s rows)) s others);
        last = c.last;
      }
