-- From the analysis of the text and the tests to the service's definition. Assumes nothing.
use mathlib.Core.Path.{◌≡◌, refl, sym, ap, ap₂, subst, ◌∙◌}
use mathlib.Core.Bool.{Bool, true, false, ◌||◌, cond}
use mathlib.Core.List.{List, [], ◌∷◌, ◌++◌, map}
use mathlib.Core.Option.{Option, none, some}
use Prim.Native.Nat.{ℕ, zero, suc, ◌+◌, ◌^◌, ◌≤◌, ◌<◌}
use native.Mathlib.Omega.{arith}
use lib.IntN.{ℤ, pos, negsuc}
use lib.ListN.{length, take, drop, length-set, length-map, take-append-drop}
use lib.Seq.{take-nil, set-append_left, length-take-le}
use lib.Signed.{mag, le_z}
use borrow.Author.Tests.{eq-eqb, ne_eqb, leb-true}
use Rattle.limits.specs.Limits.{text_limit, name_limit, last_minute}
use Rattle.limits.specs.Answer as A
use Rattle.arith.proofs.Basics.{and_both}
use Rattle.lexer.specs.Bytes.{bytes, part}
use Rattle.lexer.specs.Names.{table_names, id_of}
use Rattle.semantics.specs.Program.{Program, Timer, ranges_of, first_timer, EachTimer, TimerFits, WellFormed}
use Rattle.semantics.specs.Shape.{shape_of, is_limit, has_timer, row_length}
use Rattle.semantics.proofs.Timers.{timer_behind}
use Rattle.grammar.specs.Parsed.{refused}
use Rattle.grammar.specs.Parse.{parse, program_of}
use Rattle.grammar.proofs.Bytes.{id_of_lem}
use Rattle.grammar.proofs.Accepted.{parse_translatable, parse_few}
use Rattle.grammar.proofs.PlacesText.{Placed, parse_limited}
use Rattle.translate.specs.Inner.Descent.{AnalysedText}
use Rattle.expressions.proofs.Scopes.{names_length}
use Rattle.std.specs.Prelude.{Ok, Err}
use Rattle.limits.specs.declared.Refusal.{Refusal}
use Rattle.limits.specs.declared.Refusal.TheVariants.{BrokenTable, MinuteOutOfLimit, WrongLength}
use Rattle.limits.specs.Refusals.{refusal_number, refusal_place}
use Rattle.clock.specs.Clock.{Entry, entries_of, is_minute, is_table, local_at, day_of, minute_of, again_of}
use Rattle.clock.specs.Services.{inputs_of, filled_at, row_filled, fill_of}
use Rattle.clock.specs.Inner.Rows.{row_for}
use Rattle.clock.specs.Results.{after_fill, FilledWithin}

-- ---- a row's length

pub some_timer : (inputs timers : ℕ) → 0 < timers → inputs + 1 ≡ row_for inputs timers
some_timer inputs zero h = absurd (omega (arith, h))
some_timer inputs (suc n) h = refl

pub no_timer_lem : (inputs timers : ℕ) → timers ≤ 0 → inputs ≡ row_for inputs timers
no_timer_lem inputs zero h = refl
no_timer_lem inputs (suc n) h = absurd (omega (arith, h))

pub row_few : (inputs timers : ℕ) → inputs ≤ row_for inputs timers
row_few inputs zero = omega arith
row_few inputs (suc n) = omega arith

pub front_length : (row : List ℤ) (inputs timers : ℕ) → length row ≡ row_for inputs timers → length (take inputs row) ≡ inputs
front_length row inputs timers e = length-take-le inputs row (omega (arith, e, row_few inputs timers))

row_length_lem : (p : Program) → WellFormed p → row_length (shape_of p) ≡ row_for p.inputs (length p.timers)
row_length_lem p w = ap (λ (b : Bool). cond b (p.inputs + 1) p.inputs) (timer_behind (first_timer p) (map (λ (x : Timer). x.limit) p.timers)) ∙ go p.timers w.timed.each
  where
    one : (n : ℕ) (b : Bool) → 1 ≤ n → cond (is_limit n || b) (p.inputs + 1) p.inputs ≡ p.inputs + 1
    one zero b h = absurd (omega (arith, h))
    one (suc n) b h = refl

    go : (ts : List Timer) → EachTimer (TimerFits (ranges_of p) p.inputs (first_timer p)) ts → cond (has_timer (map (λ (x : Timer). x.limit) ts)) (p.inputs + 1) p.inputs ≡ row_for p.inputs (length ts)
    go [] h = refl
    go (x ∷ xs) h = one x.limit (has_timer (map (λ (y : Timer). y.limit) xs)) h.0.least

-- ---- the inputs are the first names of the table

names_take : (text starts ends : List ℕ) (k n : ℕ) → k ≤ n → table_names text starts ends k ≡ take k (table_names text starts ends n)
unfolding table_names
names_take text [] ends k n h = sym (take-nil k)
names_take text (s ∷ starts) [] k n h = sym (take-nil k)
names_take text (s ∷ starts) (e ∷ ends) zero n h = refl
names_take text (s ∷ starts) (e ∷ ends) (suc k) zero h = absurd (omega arith)
names_take text (s ∷ starts) (e ∷ ends) (suc k) (suc n) h = ap (λ (l : List (List ℕ)). part text s e ∷ l) (names_take text starts ends k n (omega arith))

-- the program of an accepted text: its row has that length, and the table holds its inputs first
module _ {text starts ends : List ℕ} {size inputs names timers at count : ℕ} (x : AnalysedText text (parse text) starts ends size inputs names timers at count) where
  formed : WellFormed x.program
  formed = (parse_translatable text x.program x.end x.parsed).well_formed

  inputs_inside : x.program.inputs ≤ length x.program.names
  inputs_inside = subst (λ (n : ℕ). x.program.inputs ≤ n) (length-map x.program.names (λ n. n.range)) formed.inputs_fit

  row_sized : row_for inputs timers ≡ row_length (shape_of x.program)
  row_sized = ap₂ row_for x.inputs_are x.timed ∙ sym (row_length_lem x.program formed)

  pub inputs_limited : inputs ≤ name_limit
  inputs_limited = let f = parse_few text x.program x.end x.parsed in omega (arith, x.inputs_are, inputs_inside)

  inputs_spelled : table_names text starts ends inputs ≡ inputs_of x.program
  inputs_spelled = ap (table_names text starts ends) x.inputs_are ∙ (names_take text starts ends x.program.inputs (length x.program.names) inputs_inside ∙ ap (take x.program.inputs) x.held.spelled)

-- ---- the row

length_filled : (o : Option ℕ) (z : ℤ) (row : List ℤ) → length (filled_at o z row) ≡ length row
length_filled none z row = refl
length_filled (some i) z row = simp length-set

module _ (text starts ends : List ℕ) (t : List Entry) (u : ℤ) (row one two three : List ℤ) (d m a : ℤ) where
  abbrev named : List ℤ → List (List ℕ)
  named l = table_names text starts ends (length l)

  pub row_filled_lem : one ≡ filled_at (id_of (named row) (bytes "day")) d row → two ≡ filled_at (id_of (named one) (bytes "minute")) m one → three ≡ filled_at (id_of (named two) (bytes "again")) a two
      → d ≡ day_of (local_at t u) → m ≡ minute_of (local_at t u) → a ≡ again_of t u → three ≡ row_filled (named row) t u row
  unfolding row_filled
  row_filled_lem e f g hd hm ha =
      let l : length one ≡ length row = ap {A = List ℤ} length e ∙ length_filled (id_of (named row) (bytes "day")) d row in
      let k : length two ≡ length row = ap {A = List ℤ} length f ∙ (length_filled (id_of (named one) (bytes "minute")) m one ∙ l) in
      g ∙ rw (k, f, l, e, hd, hm, ha)

-- values behind the inputs stay
front_named : (names : List (List ℕ)) (w : List ℕ) (z : ℤ) (xs ys : List ℤ) → length names ≤ length xs → filled_at (id_of names w) z (xs ++ ys) ≡ filled_at (id_of names w) z xs ++ ys
front_named names w z xs ys h = go (id_of names w) refl
  where
    go : (o : Option ℕ) → id_of names w ≡ o → filled_at o z (xs ++ ys) ≡ filled_at o z xs ++ ys
    go none e = refl
    go (some i) e = set-append_left xs ys i z (omega (arith, h, id_of_lem names w i e))

front_filled : (names : List (List ℕ)) (t : List Entry) (u : ℤ) (xs ys : List ℤ) → length names ≤ length xs → row_filled names t u (xs ++ ys) ≡ row_filled names t u xs ++ ys
unfolding row_filled
front_filled names t u xs ys h =
    let day = front_named names (bytes "day") (day_of (local_at t u)) xs ys h in
    let one = filled_at (id_of names (bytes "day")) (day_of (local_at t u)) xs in
    let h1 : length names ≤ length one = omega (arith, h, length_filled (id_of names (bytes "day")) (day_of (local_at t u)) xs) in
    let two = filled_at (id_of names (bytes "minute")) (minute_of (local_at t u)) one in
    let h2 : length names ≤ length two = omega (arith, h1, length_filled (id_of names (bytes "minute")) (minute_of (local_at t u)) one) in
    ap (λ (l : List ℤ). filled_at (id_of names (bytes "again")) (again_of t u) (filled_at (id_of names (bytes "minute")) (minute_of (local_at t u)) l)) day
    ∙ ap (filled_at (id_of names (bytes "again")) (again_of t u)) (front_named names (bytes "minute") (minute_of (local_at t u)) one ys h1)
    ∙ front_named names (bytes "again") (again_of t u) two ys h2

-- ---- the tests in their order

pub minute_fits : (u : ℤ) → is_minute u ≡ true → mag u < 2 ^ 31
minute_fits (pos n) e = let h : n ≤ 2147483647 = leb-true n 2147483647 (and_both (le_z (pos 0) (pos n)) (le_z (pos n) last_minute) e).1 in omega arith
minute_fits (negsuc n) e = let z : ◌≡◌ {A = ℕ} 0 1 = cc in absurd (omega arith)

module _ (text : List ℕ) (table : List ℤ) (utc : ℤ) (row : List ℤ) where
  pub text_refused : (e : Refusal) → parse text ≡ refused (refusal_number e) (refusal_place e) → (after_fill (Err e) row ≡ fill_of text table utc row) × FilledWithin (Err e)
  unfolding fill_of program_of
  text_refused x e = (rw e, (subst (Placed text_limit) e (parse_limited text)).1)

  module _ {starts ends : List ℕ} {size inputs names timers at count : ℕ} (d : AnalysedText text (parse text) starts ends size inputs names timers at count) where
    pub table_refused : is_table table ≡ false → after_fill (Err BrokenTable) row ≡ fill_of text table utc row
    unfolding fill_of program_of
    table_refused e = rw (d.parsed, e)

    module _ (ok : is_table table ≡ true) where
      pub minute_refused : is_minute utc ≡ false → after_fill (Err MinuteOutOfLimit) row ≡ fill_of text table utc row
      unfolding fill_of program_of
      minute_refused e = rw (d.parsed, ok, e)

      module _ (now : is_minute utc ≡ true) where
        pub length_refused : (length row ≡ row_for inputs timers → ⊥) → after_fill (Err WrongLength) row ≡ fill_of text table utc row
        unfolding fill_of program_of
        length_refused e = rw (d.parsed, ok, now, ne_eqb (length row) (row_length (shape_of d.program)) (λ h. e (h ∙ sym (row_sized d))))

        pub all_filled : (front : List ℤ) → length row ≡ row_for inputs timers → front ≡ row_filled (table_names text starts ends (length (take inputs row))) (entries_of table) utc (take inputs row) → after_fill (Ok tt) (front ++ drop inputs row) ≡ fill_of text table utc row
        unfolding fill_of program_of
        all_filled front e w =
            let k : length (take inputs row) ≡ inputs = front_length row inputs timers e in
            let long : length (inputs_of d.program) ≤ length (take inputs row) = omega (arith, k, d.inputs_are, ap length (sym (inputs_spelled d)), names_length text starts ends inputs) in
            let whole : front ++ drop inputs row ≡ row_filled (inputs_of d.program) (entries_of table) utc row =
            ap (λ (l : List ℤ). l ++ drop inputs row) (w ∙ ap (λ (l : List (List ℕ)). row_filled l (entries_of table) utc (take inputs row)) (ap (table_names text starts ends) k ∙ inputs_spelled d))
            ∙ sym (front_filled (inputs_of d.program) (entries_of table) utc (take inputs row) (drop inputs row) long)
            ∙ ap (row_filled (inputs_of d.program) (entries_of table) utc) (take-append-drop inputs row) in
            rw (d.parsed, ok, now, eq-eqb (length row) (row_length (shape_of d.program)) (e ∙ row_sized d), whole)
