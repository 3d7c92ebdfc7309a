-- The loop that reports each watch. Assumes nothing.
use mathlib.Core.Path.{◌≡◌, refl, ap, sym, ◌∙◌, subst}
use mathlib.Core.List.{List, [], ◌∷◌, ◌++◌}
use Prim.Native.Nat.{ℕ, ◌+◌, ◌-◌, ◌*◌, ◌^◌, ◌≤◌, ◌<◌}
use native.Mathlib.Omega.{arith}
use lib.IntN.{ℤ}
use lib.ListN.{length, set, length-append, length-map}
use lib.Seq.{sets}
use Rattle.limits.specs.Limits.{name_limit, watch_limit, image_room}
use Rattle.lexer.specs.Names.{Table}
use Rattle.lexer.specs.Lexer.{token_at}
use Rattle.lexer.specs.Token.{fault}
use Rattle.lexer.specs.declared.Place.{Place}
use Rattle.lexer.specs.Results.{Step}
use Rattle.semantics.specs.Program.{Watch, free}
use Rattle.semantics.specs.Formula.{Trace}
use Rattle.semantics.proofs.Reference.{length_known}
use Rattle.watching.specs.Watching.{places_of, first_failure}
use Rattle.grammar.specs.Parsed.{accepted, refused}
use Rattle.grammar.specs.Watches.{watch_at, watches_from}
use Rattle.grammar.proofs.Combine.{same_value}
use Rattle.grammar.proofs.Size.{Pays}
use Rattle.arith.specs.Inner.Flags.{flags_of}
use Rattle.grammar.specs.Expressions.{Scope}
use Rattle.expressions.specs.declared.scope.Names.{Names}
use Rattle.expressions.specs.Inner.Scopes.{scope_of}
use Rattle.expressions.specs.Inner.Steps.{Room}
use Rattle.expressions.proofs.Scopes.{names_counted}
use Rattle.phrases.specs.Inner.Steps.{number_told, Writes}
use Rattle.phrases.proofs.Writing.{Got}
use Rattle.cases.proofs.Listing.{Found, room_token}
use Rattle.leb128.proofs.Stores.{sets_append}
use Rattle.watches.specs.Inner.Codes.{code_of_watch, end_of_first}
use Rattle.watches.proofs.Sizes.{watch_bytes, watch_pays, watch_fit}
use Rattle.translate.specs.Inner.Descent.{free_scope}
use Rattle.translate.proofs.Ending.{scope_free}
use Rattle.watch.specs.Services.{reported, report_of}
use Rattle.watch.specs.Inner.Reports.{WatchCode, CountedWatches}
use Rattle.watch.proofs.Counting.{watches_all, next_token, next_read, next_done}
use Rattle.watch.proofs.Coding.{watch_code, code_inside}

report_append : (ws : List Watch) (w : Watch) (trace : Trace) → report_of (ws ++ (w ∷ [])) trace ≡ report_of ws trace ++ (reported (first_failure w (places_of trace)) ∷ [])
report_append [] w trace = refl
report_append (v ∷ ws) w trace = ap (λ (l : List ℤ). reported (first_failure v (places_of trace)) ∷ l) (report_append ws w trace)

-- the watch read in the scope of all names, as a program holds them
pub free_writes : (text starts ends : List ℕ) (names n : ℕ) (all : Names) {before after : List ℕ} {r : Step} → (all.count ≡ names) × (flags_of names all.known ≡ free names) → Writes code_of_watch number_told (end_of_first 0) (watch_at (scope_of text starts ends all) n) 0 before after r → Writes code_of_watch number_told (end_of_first 0) (watch_at (free_scope text starts ends names) n) 0 before after r
free_writes text starts ends names n all {before} {after} {r} e w = subst (λ (sc : Scope). Writes code_of_watch number_told (end_of_first 0) (watch_at sc n) 0 before after r) (scope_free text starts ends names all e) w

-- what was reported so far
pub record Reports (text starts ends : List ℕ) (names at count : ℕ) (trace : Trace) (report₀ report : List ℤ) (a i : ℕ) : Type 0 where
  pub few_names : names ≤ name_limit
  pub table : Table starts ends names
  pub watches : List Watch
  pub end : ℕ
  pub read : watches_from watch_limit (free_scope text starts ends names) [] at ≡ accepted watches end
  pub total : length watches ≡ count
  pub done : List Watch
  pub counted : length done ≡ i
  pub few : i ≤ count
  pub same : watches_from (watch_limit - i) (free_scope text starts ends names) done a ≡ accepted watches end
  pub room : Room text a 0
  pub wrote : report ≡ sets report₀ 0 (report_of done trace)

module _ {text starts ends : List ℕ} {names at count : ℕ} {trace : Trace} {report₀ report : List ℤ} {a i : ℕ} (x : Reports text starts ends names at count trace report₀ report a i) where
  -- all are reported
  pub reports_end : count ≤ i → (ws : List Watch) (m : ℕ) → watches_from watch_limit (free_scope text starts ends names) [] at ≡ accepted ws m → report ≡ sets report₀ 0 (report_of ws trace)
  reports_end h ws m e =
      let d : x.done ≡ x.watches = watches_all (free_scope text starts ends names) (watch_limit - i) x.done a x.watches x.end x.same (omega (arith, h, x.counted, x.total)) in
      let f : x.watches ≡ ws = same_value (sym x.read ∙ e) in
      x.wrote ∙ ap (λ (l : List Watch). sets report₀ 0 (report_of l trace)) (d ∙ f)

  module _ (h : i < count) where
    some_more : length x.done < length x.watches
    some_more = omega (arith, h, x.counted, x.total)

    pub reports_token : {A : Type 0} {q : ℕ} → token_at text a ≡ fault q → A
    reports_token f = next_token (free_scope text starts ends names) (watch_limit - i) x.done a x.watches x.end x.same some_more f

    module _ {k s n : ℕ} (f : Found text a k s n) where
      pub reports_room : Room text n 0
      reports_room = room_token x.room f

      pub reports_read : {A : Type 0} {l q : ℕ} → watch_at (free_scope text starts ends names) n ≡ refused l q → A
      reports_read e = next_read (free_scope text starts ends names) (watch_limit - i) x.done a x.watches x.end x.same some_more f.read e

      module _ {size : ℕ} (longer : names ≤ size) (few_cells : size < 2 ^ 32) {code code' : List ℕ} {b : Place} (g : Got code_of_watch number_told (end_of_first 0) (watch_at (free_scope text starts ends names) n) 0 code code' b) (large : image_room ≤ length code) where
        counted_names : length (free_scope text starts ends names).names ≡ names
        counted_names = names_counted text starts ends names x.table

        paid : (2 * watch_bytes g.tree + 3 * n ≤ 3 * b.at) × (b.at ≤ length text)
        paid = subst (Pays watch_bytes (length text) n) g.is (watch_pays (free_scope text starts ends names) (omega (arith, counted_names, x.few_names)) n reports_room.within)

        fits : watch_bytes g.tree ≤ length code
        fits = omega (arith, paid.0, paid.1, x.room.short, large)

        -- its code stands in the memory lent
        pub reports_code : WatchCode g.tree size b.number b.to code'
        reports_code =
            let y = watch_fit (free_scope text starts ends names) (omega (arith, counted_names, x.few_names)) (counted_names ∙ sym (length_known names names)) n reports_room.within g.tree b.at g.is in
            watch_code g.tree names size b.number b.to code code' longer few_cells y.0 y.1 g.tells_it g.ended fits g.wrote

        pub reports_inside : b.to ≤ length code'
        reports_inside =
            let y = watch_fit (free_scope text starts ends names) (omega (arith, counted_names, x.few_names)) (counted_names ∙ sym (length_known names names)) n reports_room.within g.tree b.at g.is in
            code_inside g.tree names size b.number b.to code code' longer few_cells y.0 y.1 g.tells_it g.ended fits g.wrote

        pub reports_more : (z : ℤ) → z ≡ reported (first_failure g.tree (places_of trace)) → Reports text starts ends names at count trace report₀ (set report i z) b.at (i + 1)
        reports_more z e = record {
          few_names = x.few_names;
          table = x.table;
          watches = x.watches;
          end = x.end;
          read = x.read;
          total = x.total;
          done = x.done ++ (g.tree ∷ []);
          counted = length-append x.done (g.tree ∷ []) ∙ ap (λ (y : ℕ). y + 1) x.counted;
          few = omega arith;
          same = ap (λ (l : ℕ). watches_from l (free_scope text starts ends names) (x.done ++ (g.tree ∷ [])) b.at) left ∙ next_done (free_scope text starts ends names) (watch_limit - i) x.done a x.watches x.end x.same some_more f.read g.is;
          room = record { short = x.room.short; within = paid.1; room = omega arith };
          wrote = stored;
        }
          where
            left : watch_limit - (i + 1) ≡ watch_limit - i - 1
            left = omega arith

            at_end_lem : 0 + length (report_of x.done trace) ≡ i
            at_end_lem = omega (arith, length-map x.done (λ w. reported (first_failure w (places_of trace))), x.counted)

            stored : set report i z ≡ sets report₀ 0 (report_of (x.done ++ (g.tree ∷ [])) trace)
            stored =
                ap (set report i) e
                ∙ ap (λ (l : List ℤ). set l i (reported (first_failure g.tree (places_of trace)))) x.wrote
                ∙ ap (λ (k : ℕ). set (sets report₀ 0 (report_of x.done trace)) k (reported (first_failure g.tree (places_of trace)))) (sym at_end_lem)
                ∙ sym (sets_append report₀ 0 (report_of x.done trace) (reported (first_failure g.tree (places_of trace)) ∷ []))
                ∙ ap (sets report₀ 0) (sym (report_append x.done g.tree trace))
