-- The ways through the loop of rules. Assumes nothing.
use mathlib.Core.Path.{◌≡◌, refl, ap, sym, ◌∙◌, subst}
use mathlib.Core.List.{List, [], ◌∷◌, ◌++◌, append_assoc, append-nil}
use mathlib.Core.Bool.{true, false}
use Prim.Native.Nat.{ℕ, suc, ◌+◌, ◌-◌, ◌*◌, ◌≤◌, ◌<◌}
use native.Mathlib.Omega.{arith}
use lib.IntN.{pos}
use lib.ListN.{length, set, length-append}
use lib.Seq.{sets}
use Rattle.limits.specs.Limits.{no_token}
use Rattle.lexer.specs.Token.{Kind, name, is, token, fault}
use Rattle.lexer.specs.Lexer.{token_at}
use Rattle.lexer.specs.Results.{kind_of}
use Rattle.lexer.proofs.KindNumbers.{kind_number_lem}
use Rattle.semantics.specs.Program.{Rule, Timer, function, change, target, taken, timers_known}
use Rattle.grammar.specs.Parsed.{accepted, refused}
use Rattle.grammar.specs.Expressions.{Scope}
use Rattle.grammar.specs.Rules.{rule_at, ruled, rules_from}
use Rattle.grammar.specs.Inner.Bytes.{bytes_t, bytes_r}
use Rattle.grammar.proofs.Size.{Pays, rule_bytes, rule_pays}
use Rattle.grammar.proofs.ConverseRules.{unruled, rule_leaves, unruled_few}
use Rattle.expressions.specs.declared.scope.Names.{Names}
use Rattle.arith.specs.Inner.Flags.{flags_of}
use Rattle.arith.proofs.Flags.{length_flags}
use Rattle.expressions.specs.Inner.Scopes.{scope_of, Declared}
use Rattle.expressions.specs.Inner.Steps.{Room, looked_ahead}
use Rattle.expressions.proofs.Steps.{refused_now}
use Rattle.expressions.proofs.Scopes.{few_names, names_counted, as_long, scope_ruled}
use Rattle.lexer.specs.declared.Place.{Place}
use Rattle.lexer.specs.Results.{Step}
use Rattle.std.specs.Prelude.{Ok, Err}
use Rattle.limits.specs.declared.Refusal.{Refusal}
use Rattle.limits.specs.declared.Refusal.TheVariants.{NoToken}
use Rattle.limits.specs.Refusals.{refusal_number, refusal_place}
use Rattle.phrases.specs.Inner.Steps.{number_told, Writes}
use Rattle.phrases.proofs.Writing.{Got, writes, refuses}
use Rattle.cases.proofs.Ways.{then_bytes}
use Rattle.cases.proofs.Listing.{Found}
use Rattle.rules.specs.Inner.Spans.{code_of_rule}
use Rattle.leb128.proofs.Laws.{groups_one}
use Rattle.rules.specs.declared.timers.Behind.{Behind}
use Rattle.rules.specs.Inner.Timers.{TimersPut}
use Rattle.rules.specs.Inner.Behind.{code_of_rules, ruled_told, ruled_behind}
use Rattle.rules.proofs.Ways.{Fresh, rule_fresh}

-- ---- rules

module _ (f : ℕ) (ts : List Timer) (sc : Scope) (done : List Rule) (a : ℕ) where
  rules_fault : {q : ℕ} → token_at sc.text a ≡ fault q → rules_from (suc f) ts sc done a ≡ refused no_token q
  unfolding rules_from
  rules_fault e = rw e

  module _ {k : Kind} {s n : ℕ} (e : token_at sc.text a ≡ token k s n) where
    rules_end : is k name ≡ false → rules_from (suc f) ts sc done a ≡ accepted (record { rules = done; known = sc.known }) a
    unfolding rules_from
    rules_end i = rw (e, i)

    module _ (i : is k name ≡ true) where
      rules_refused : {l q : ℕ} → rule_at ts sc s n ≡ refused l q → rules_from (suc f) ts sc done a ≡ refused l q
      unfolding rules_from
      rules_refused g = rw (e, i, g)

      rules_more : {r : Rule} {m : ℕ} → rule_at ts sc s n ≡ accepted r m → rules_from (suc f) ts sc done a ≡ rules_from f ts (ruled ts sc (target r)) (done ++ (r ∷ [])) m
      unfolding rules_from
      rules_more g = rw (e, i, g)

code_append : (ts : List Timer) (rs : List Rule) (r : Rule) → bytes_r ts (rs ++ (r ∷ [])) ≡ bytes_r ts rs ++ (code_of_rule r ++ bytes_t (target r) ts)
unfolding bytes_r bytes_t
code_append ts [] (function v e) = simp (append_assoc, append-nil)
code_append ts [] (change v ks cs) = simp (append_assoc, append-nil)
code_append ts (function v e ∷ rs) r = rw (code_append ts rs r) (simp append_assoc)
code_append ts (change v ks cs ∷ rs) r = rw (code_append ts rs r) (simp append_assoc)

-- a rule has two bytes at least
code_two : (r : Rule) → target r < 64 → 2 ≤ length (code_of_rule r)
unfolding bytes_r bytes_t
code_two (function v e) h = rw (groups_one v (omega (arith, h))) (simp length-append (omega arith))
code_two (change v ks cs) h = rw (groups_one v (omega (arith, h))) (simp length-append (omega arith))

-- ---- the loop

abbrev pub naming : ℕ → ℕ → Names
naming count known = record { count = count; known = known }

pub declared_as : {starts ends : List ℕ} {names : Names} → Declared starts ends names → (known : ℕ) → Declared starts ends (naming names.count known)
declared_as d known = record { table = d.table; few = d.few }

-- what was read and written so far, with the names then known
pub record Ruling (ts : List Timer) (text starts ends : List ℕ) (count known₀ at to : ℕ) (out₀ out : List ℕ) (known a t : ℕ) : Type 0 where
  pub rules : List Rule
  pub same : rules_from 65 ts (scope_of text starts ends (naming count known₀)) [] at ≡ rules_from (65 - length rules) ts (scope_of text starts ends (naming count known)) rules a
  pub fuel : unruled (flags_of count known) + length rules ≤ count
  pub room : Room text a t
  pub ended : t ≡ to + length (bytes_r ts rules)
  pub wrote : out ≡ sets out₀ to (bytes_r ts rules)

pub ruling_first : (ts : List Timer) (text starts ends : List ℕ) (count known at to : ℕ) (out : List ℕ) → Room text at to → Ruling ts text starts ends count known at to out out known at to
unfolding bytes_r
ruling_first ts text starts ends count known at to out r = record {
  rules = [];
  same = refl;
  fuel = omega (arith, unruled_few (flags_of count known), length_flags count known);
  room = r;
  ended = omega arith;
  wrote = refl;
}

-- the place behind the rules, with the token there
abbrev pub behind_at : ℕ → ℕ → ℕ → ℕ → ℕ → ℕ → Step
behind_at a k s n t known = Ok (record { at = a; kind = k; start = s; end = n; to = t; number = known; value = pos 0 })

module _ {ts : List Timer} {text starts ends : List ℕ} {count known₀ at to : ℕ} {out₀ out : List ℕ} {known a t : ℕ} (x : Ruling ts text starts ends count known₀ at to out₀ out known a t) (d : Declared starts ends (naming count known)) where
  abbrev sc : Scope
  sc = scope_of text starts ends (naming count known)

  abbrev done : ℕ
  done = length x.rules

  abbrev Answer : List ℕ → Step → Type 0
  Answer out' r = Writes (code_of_rules ts) (ruled_told count) ruled_behind (looked_ahead text (rules_from 65 ts (scope_of text starts ends (naming count known₀)) [] at)) to out₀ out' r

  come : rules_from 65 ts (scope_of text starts ends (naming count known₀)) [] at ≡ rules_from (suc (64 - done)) ts sc x.rules a
  come = let e : 65 - done ≡ suc (64 - done) = omega (arith, x.fuel, d.few) in x.same ∙ ap (λ (f : ℕ). rules_from f ts sc x.rules a) e

  pub ruling_fault : {out' : List ℕ} {r : Step} {e : Refusal} → r ≡ Err e → (token_at text a ≡ fault (refusal_place e)) × (e ≡ NoToken (refusal_place e)) → Answer out' r
  ruling_fault g f = refuses (g ∙ ap Err f.1) (refused_now (come ∙ rules_fault (64 - done) ts sc x.rules a f.0)).looked

  module _ {k s n : ℕ} (f : Found text a k s n) where
    -- no rule follows
    pub ruling_end : is (kind_of k) name ≡ false → Answer out (behind_at a k s n t known)
    unfolding looked_ahead
    ruling_end i = writes refl (record {
      tree = record { part = record { rules = x.rules; known = flags_of count known }; kind = kind_of k; start = s; end = n };
      is = rw (come ∙ rules_end (64 - done) ts sc x.rules a f.read i, f.read);
      ended = x.ended;
      tells_it = ap (λ (y : ℕ). (flags_of count known, y, s, n)) (sym (kind_number_lem k f.lies.known_kind));
      wrote = x.wrote;
    })

    pub ruling_room : Room text n t
    ruling_room = record { short = x.room.short; within = f.lies.within x.room.within; room = omega (arith, x.room.room, f.lies.after, f.lies.ordered) }

    module _ (i : is (kind_of k) name ≡ true) where
      pub ruling_refused : {out' : List ℕ} {r : Step} {e : Refusal} → r ≡ Err e → rule_at ts sc s n ≡ refused (refusal_number e) (refusal_place e) → Answer out' r
      ruling_refused g e = refuses g (refused_now (come ∙ rules_refused (64 - done) ts sc x.rules a f.read i e)).looked

      module _ {out' : List ℕ} {o : Place} (g : Got code_of_rule number_told target (rule_at ts sc s n) t out out' o) where
        fresh : (o.number < count) × (taken ts (flags_of count known) o.number ≡ false)
        fresh =
            let y : Fresh ts sc (accepted g.tree o.at) = subst (Fresh ts sc) g.is (rule_fresh ts sc s n) in
            (omega (arith, y.0, g.tells_it, names_counted text starts ends count d.table), ap (taken ts (flags_of count known)) g.tells_it ∙ y.1)

        -- the variable is declared
        pub ruling_declared : o.number < 64
        ruling_declared = omega (arith, fresh.0, d.few)

        paid : (2 * length (code_of_rule g.tree) + 3 * n ≤ 3 * o.at) × (o.at ≤ length text)
        paid = subst (Pays rule_bytes (length text) n) g.is
            (rule_pays sc (few_names text d) (as_long text d) ts s n ruling_room.within)

        -- room for its timers
        pub ruling_near : o.to + 512 < 1073741824
        ruling_near = omega (arith, g.ended, paid.0, paid.1, ruling_room.room, ruling_room.short)

        module _ (more : Names) (ek : flags_of count more.known ≡ set (flags_of count known) o.number true)
            {out'' : List ℕ} {y : Behind} (p : TimersPut ts o.number count more.known o.to out' out'' y) (small : length (bytes_t o.number ts) ≤ 512)
          where
            kept : flags_of count y.known ≡ timers_known o.number ts (set (flags_of count known) o.number true)
            kept = p.usable ∙ ap (timers_known o.number ts) ek

            -- one variable fewer is without a rule
            pub ruling_less : unruled (flags_of count y.known) < unruled (flags_of count known)
            ruling_less = omega (arith, rule_leaves ts (flags_of count known) o.number (omega (arith, fresh.0, length_flags count known)) fresh.1, ap unruled kept)

            pub ruling_more : Ruling ts text starts ends count known₀ at to out₀ out'' y.known o.at y.to
            ruling_more = record {
              rules = x.rules ++ (g.tree ∷ []);
              same = come ∙ (rules_more (64 - done) ts sc x.rules a f.read i g.is ∙ turned);
              fuel = omega (arith, x.fuel, ruling_less, counted);
              room = record { short = x.room.short; within = paid.1; room = omega (arith, p.ended, small, g.ended, paid.0, ruling_room.room, code_two g.tree (omega (arith, ruling_declared, g.tells_it))) };
              ended = rw whole (simp length-append (omega (arith, p.ended, g.ended, x.ended)));
              wrote = rw whole (then_bytes out₀ to (bytes_r ts x.rules) (code_of_rule g.tree ++ bytes_t o.number ts) x.ended x.wrote
                  (then_bytes out t (code_of_rule g.tree) (bytes_t o.number ts) g.ended g.wrote p.wrote));
            }
              where
                counted : length (x.rules ++ (g.tree ∷ [])) ≡ done + 1
                counted = length-append x.rules (g.tree ∷ [])

                whole : bytes_r ts (x.rules ++ (g.tree ∷ [])) ≡ bytes_r ts x.rules ++ (code_of_rule g.tree ++ bytes_t o.number ts)
                whole = code_append ts x.rules g.tree ∙ ap (λ (v : ℕ). bytes_r ts x.rules ++ (code_of_rule g.tree ++ bytes_t v ts)) (sym g.tells_it)

                turned : rules_from (64 - done) ts (ruled ts sc (target g.tree)) (x.rules ++ (g.tree ∷ [])) o.at ≡ rules_from (65 - length (x.rules ++ (g.tree ∷ []))) ts (scope_of text starts ends (naming count y.known)) (x.rules ++ (g.tree ∷ [])) o.at
                turned =
                    let q : 64 - done ≡ 65 - length (x.rules ++ (g.tree ∷ [])) = omega (arith, counted) in
                    rw (← g.tells_it, q) (ap (λ (y : Scope). rules_from (65 - length (x.rules ++ (g.tree ∷ []))) ts y (x.rules ++ (g.tree ∷ [])) o.at) (sym (scope_ruled ts text starts ends (naming count known) (naming count y.known) o.number refl kept)))
