-- Laws of the loop over timers: what it has read makes the whole with what is left. Assumes nothing.
use mathlib.Core.Path.{◌≡◌, refl, sym, ap, ap₂, subst, ◌∙◌}
use mathlib.Core.Bool.{true, false}
use mathlib.Core.List.{List, [], ◌∷◌, ◌++◌}
use Prim.Native.Nat.{ℕ, suc, ◌+◌, ◌-◌, ◌*◌, ◌≤◌, ◌<◌}
use native.Mathlib.Omega.{arith}
use lib.ListN.{length, drop, length-append}
use lib.Seq.{sets, drop-length, drop-append-le}
use Rattle.limits.specs.Limits.{no_token}
use Rattle.lexer.specs.Token.{Kind, timer_word, is, token, fault}
use Rattle.lexer.specs.Lexer.{token_at}
use Rattle.lexer.specs.Results.{reached_at}
use Rattle.lexer.specs.declared.Place.{Place}
use Rattle.lexer.specs.Results.{Step}
use Rattle.std.specs.Prelude.{Ok, Err}
use Rattle.limits.specs.declared.Refusal.{Refusal}
use Rattle.limits.specs.declared.Refusal.TheVariants.{NoToken}
use Rattle.limits.specs.Refusals.{refusal_number, refusal_place}
use Rattle.semantics.specs.Program.{Name, bit_range}
use Rattle.grammar.specs.Parsed.{accepted, refused, item_bound}
use Rattle.grammar.specs.Timers.{timer_name, WithTimers, timer_declaration, timers_from}
use Rattle.grammar.specs.Inner.Bytes.{header}
use Rattle.phrases.proofs.Writing.{got, refused_part, writes}
use Rattle.phrases.proofs.Writing as W
use Rattle.leb128.proofs.Stores.{sets_append}
use Rattle.grammar.proofs.Combine.{same_value, never}
use Rattle.declarations.specs.Inner.Ranges.{range_bytes}
use Rattle.declarations.specs.Inner.Tables.{TableRoom}
use Rattle.declarations.specs.Inner.Timers.{TimersHeld, TimerRoom, TimerDeclared, timers_header, DeclaresTimers}
use Rattle.declarations.proofs.Loop.{header_append}
use Rattle.declarations.proofs.TimerEntries.{timer_names}

-- ---- one turn of the definition

module _ (fuel : ℕ) (text : List ℕ) (inputs first : ℕ) (x : WithTimers) (at : ℕ) where
  turn_fault : (p : ℕ) → token_at text at ≡ fault p → timers_from (suc fuel) text inputs first x at ≡ refused no_token p
  unfolding timers_from
  turn_fault p e = rw e

  module _ (k : Kind) (s n : ℕ) (e : token_at text at ≡ token k s n) where
    turn_end : is k timer_word ≡ false → timers_from (suc fuel) text inputs first x at ≡ accepted x at
    unfolding timers_from
    turn_end f = rw (e, f)

    turn_refused : (r p : ℕ) → is k timer_word ≡ true → timer_declaration text inputs first x n ≡ refused r p → timers_from (suc fuel) text inputs first x at ≡ refused r p
    unfolding timers_from
    turn_refused r p f g = rw (e, f, g)

    turn_more : (y : WithTimers) (m : ℕ) → is k timer_word ≡ true → timer_declaration text inputs first x n ≡ accepted y m → timers_from (suc fuel) text inputs first x at ≡ timers_from fuel text inputs first y m
    unfolding timers_from
    turn_more y m f g = rw (e, f, g)

-- ---- bytes

no_header : (first : ℕ) (x : WithTimers) → first ≡ length x.names → timers_header first x ≡ []
unfolding timers_header header
no_header first x e = rw (e, drop-length)

more_header : (first : ℕ) (x y : WithTimers) (t : List ℕ) → first ≤ length x.names → y.names ≡ x.names ++ (timer_name t ∷ []) → timers_header first y ≡ timers_header first x ++ range_bytes bit_range
unfolding timers_header header range_bytes
more_header first x y t h e =
    ap (λ (l : List Name). header (drop first l)) e ∙ ap header (drop-append-le first x.names (timer_name t ∷ []) h) ∙ header_append (drop first x.names) (timer_name t ∷ [])

-- ---- the loop has come to the place a, with the names and timers declared so far, and their bytes from `to` up to t

pub record TimersGoing (text : List ℕ) (inputs first : ℕ) (x : WithTimers) (at to : ℕ) (before starts ends watched limits after : List ℕ) (a known t : ℕ) : Type 0 where
  pub fuel : ℕ
  pub enough : 64 ≤ fuel + known
  pub all : WithTimers
  pub held : TimersHeld text starts ends watched limits first known all
  pub goes : timers_from item_bound text inputs first x at ≡ timers_from (suc fuel) text inputs first all a
  pub ended : t ≡ to + length (timers_header first all)
  pub wrote : after ≡ sets before to (timers_header first all)

module _ (text : List ℕ) (inputs first : ℕ) (x : WithTimers) (at to : ℕ) (before : List ℕ) where
  begins : (starts ends watched limits : List ℕ) → TimersHeld text starts ends watched limits first first x → TimersGoing text inputs first x at to before starts ends watched limits before at first to
  begins starts ends watched limits h =
      let none = no_header first x h.known.table.counted in
      record {
        fuel = 64;
        enough = omega arith;
        all = x;
        held = h;
        goes = refl;
        ended = rw none (omega arith);
        wrote = rw none refl;
      }

  refuses : (after' starts ends watched limits : List ℕ) {r : Step} (e : Refusal) → r ≡ Err e → timers_from item_bound text inputs first x at ≡ refused (refusal_number e) (refusal_place e) → DeclaresTimers text inputs first x at to before after' starts ends watched limits r
  refuses after' starts ends watched limits e h f = record { writes = W.refuses h f; held = λ y n i. never _ _ n y (sym f ∙ i) }

  module _ (starts ends watched limits after' : List ℕ) (a known t : ℕ) (g : TimersGoing text inputs first x at to before starts ends watched limits after' a known t) where
    pub stops_fault : {r : Step} {e : Refusal} → r ≡ Err e → (token_at text a ≡ fault (refusal_place e)) × (e ≡ NoToken (refusal_place e)) → DeclaresTimers text inputs first x at to before after' starts ends watched limits r
    stops_fault {e = e} h f = refuses after' starts ends watched limits _ (h ∙ ap Err f.1) (g.goes ∙ turn_fault g.fuel text inputs first g.all a (refusal_place e) f.0)

    module _ (k : Kind) (s n : ℕ) (e : token_at text a ≡ token k s n) where
      pub ends_all : {r : Step} → r ≡ reached_at a t known → is k timer_word ≡ false → DeclaresTimers text inputs first x at to before after' starts ends watched limits r
      ends_all i f =
          let d = g.goes ∙ turn_end g.fuel text inputs first g.all a k s n e f in
          record {
            writes = writes i (record { tree = g.all; is = d; ended = g.ended; tells_it = g.held.known.table.counted; wrote = g.wrote });
            held = λ y m j. subst (λ (z : WithTimers). TimersHeld text starts ends watched limits first (length z.names) z) (same_value (sym d ∙ j)) (rw g.held.known.table.counted at g.held);
          }

      module _ (f : is k timer_word ≡ true) (mid starts' ends' watched' limits' : List ℕ) {one : Step} (d : TimerDeclared text inputs first g.all n t known after' mid starts' ends' watched' limits' one) where
        stops_at : {i : Refusal} → one ≡ Err i → DeclaresTimers text inputs first x at to before mid starts' ends' watched' limits' one
        stops_at h = refuses mid starts' ends' watched' limits' _ h (g.goes ∙ turn_refused g.fuel text inputs first g.all a k s n e _ _ f (refused_part d.writes h))

        more : {y : Place} → known < 64 → one ≡ Ok y → TimersGoing text inputs first x at to before starts' ends' watched' limits' mid y.at (known + 1) y.to
        more {y} few h =
            let o = got d.writes h in
            let named = timer_names text inputs first g.all n o.tree y.at o.is in
            let bytes = more_header first g.all o.tree named.0 (omega (arith, g.held.as_many, g.held.known.table.counted)) named.1 in
            let fuel' : g.fuel ≡ suc (g.fuel - 1) = omega (arith, g.enough) in
            let placed : sets after' t (range_bytes bit_range) ≡ sets (sets before to (timers_header first g.all)) (to + length (timers_header first g.all)) (range_bytes bit_range) = ap₂ (λ (l : List ℕ) (i : ℕ). sets l i (range_bytes bit_range)) g.wrote g.ended in
            record {
              fuel = g.fuel - 1;
              enough = omega (arith, g.enough);
              all = o.tree;
              held = d.held o.tree y.at o.is;
              goes = g.goes ∙ turn_more g.fuel text inputs first g.all a k s n e o.tree y.at f o.is ∙ ap (λ (i : ℕ). timers_from i text inputs first o.tree y.at) fuel';
              ended = rw bytes (simp length-append (omega (arith, o.ended, g.ended)));
              wrote = rw bytes (o.wrote ∙ placed ∙ sym (sets_append before to (timers_header first g.all) (range_bytes bit_range)));
            }

-- ---- the invariant: as many names as there may be, no more than fifteen bytes for each, and the loop going on from any names that the
-- table held first

pub record TimersTurning (text : List ℕ) (inputs first at to : ℕ) (before starts₀ ends₀ watched₀ limits₀ starts ends watched limits after : List ℕ) (a known t : ℕ) : Type 0 where
  pub few : (first ≤ known) × (known ≤ 64)
  pub bytes : t ≤ to + 15 * known
  pub starts_kept : length starts ≡ length starts₀
  pub ends_kept : length ends ≡ length ends₀
  pub watched_kept : length watched ≡ length watched₀
  pub limits_kept : length limits ≡ length limits₀
  pub after_kept : length after ≡ length before
  pub going : (x : WithTimers) → TimersHeld text starts₀ ends₀ watched₀ limits₀ first first x → TimersGoing text inputs first x at to before starts ends watched limits after a known t

module _ (text : List ℕ) (inputs first at to : ℕ) (before starts₀ ends₀ watched₀ limits₀ : List ℕ) where
  pub turning : TableRoom starts₀ ends₀ first → TimersTurning text inputs first at to before starts₀ ends₀ watched₀ limits₀ starts₀ ends₀ watched₀ limits₀ before at first to
  turning r = record {
    few = (omega arith, r.few);
    bytes = omega arith;
    starts_kept = refl;
    ends_kept = refl;
    watched_kept = refl;
    limits_kept = refl;
    after_kept = refl;
    going = λ x h. begins text inputs first x at to before starts₀ ends₀ watched₀ limits₀ h;
  }

  module _ (starts ends watched limits after' : List ℕ) (a known t : ℕ) (g : TimersTurning text inputs first at to before starts₀ ends₀ watched₀ limits₀ starts ends watched limits after' a known t) where
    pub room : TableRoom starts₀ ends₀ first → TableRoom starts ends known
    room r = record { few = g.few.1; in_starts = omega (arith, r.in_starts, g.starts_kept); in_ends = omega (arith, r.in_ends, g.ends_kept) }

    pub timer_room : TimerRoom watched₀ limits₀ → TimerRoom watched limits
    timer_room r = record { in_watched = omega (arith, r.in_watched, g.watched_kept); in_limits_lem = omega (arith, r.in_limits_lem, g.limits_kept) }

    module _ (k : Kind) (s n : ℕ) (e : token_at text a ≡ token k s n) (f : is k timer_word ≡ true) (mid starts' ends' watched' limits' : List ℕ) {one : Step}
        (d : (x : WithTimers) → TimersHeld text starts ends watched limits first known x → TimerDeclared text inputs first x n t known after' mid starts' ends' watched' limits' one)
        (l : (y : Place) → one ≡ Ok y → (known < 64) × (y.to ≤ t + 15))
      where
        pub turns-out : {i : Refusal} → one ≡ Err i → (x : WithTimers) → TimersHeld text starts₀ ends₀ watched₀ limits₀ first first x → DeclaresTimers text inputs first x at to before mid starts' ends' watched' limits' one
        turns-out h x held =
            let go = g.going x held in
            stops_at text inputs first x at to before starts ends watched limits after' a known t go k s n e f mid starts' ends' watched' limits' (d go.all go.held) h

        pub turns_on : {y : Place} → one ≡ Ok y → (length starts' ≡ length starts) × (length ends' ≡ length ends) × (length watched' ≡ length watched) × (length limits' ≡ length limits) × (length mid ≡ length after')
            → TimersTurning text inputs first at to before starts₀ ends₀ watched₀ limits₀ starts' ends' watched' limits' mid y.at (known + 1) y.to
        turns_on {y} h long =
            let m = l y h in
            record {
              few = (omega (arith, g.few.0), omega (arith, m.0));
              bytes = omega (arith, m.1, g.bytes);
              starts_kept = long.0 ∙ g.starts_kept;
              ends_kept = long.1 ∙ g.ends_kept;
              watched_kept = long.2 ∙ g.watched_kept;
              limits_kept = long.3 ∙ g.limits_kept;
              after_kept = long.4 ∙ g.after_kept;
              going = λ x held. let go = g.going x held in
                  more text inputs first x at to before starts ends watched limits after' a known t go k s n e f mid starts' ends' watched' limits' (d go.all go.held) m.0 h;
            }
