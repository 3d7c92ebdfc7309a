-- The program of an accepted text: its names are names, its starts DINTs, and its numbers carry no sign. Assumes nothing.
use Prim.Native.Nat.{ℕ, zero, suc}
use mathlib.Core.Path.{◌≡◌, refl, subst}
use mathlib.Core.Bool.{true, ◌&&◌, false≢true}
use mathlib.Core.List.{List, [], ◌∷◌, ◌++◌, map, append-nil}
use mathlib.Core.Option.{none, some}
use lib.ListN.{get_elem?}
use lib.Signed.{le_z}
use Rattle.limits.specs.Answer.{accepted}
use Rattle.arith.specs.Values.{is_int32}
use Rattle.arith.proofs.Basics.{T_true, and_left, and_both}
use Rattle.semantics.specs.Program.{Name, Expression, Condition, Side, rising, falling, Case, Rule, Timer, Program}
use Rattle.bytecode.specs.Translation.{RangesFit}
use Rattle.grammar.specs.Derivation as D
use Rattle.grammar.specs.Derivation.{IsName, Tokens, normals, Level, LevelC, SpellsE, SpellsC}
use Rattle.grammar.specs.Pairs.{on_side, pair_cases}
use Rattle.grammar.specs.Spelled as S
use Rattle.grammar.specs.Spelled.{names_of, SpellsCases, SpellsR, SpellsRules}
use Rattle.grammar.specs.Parse.{program_of}
use Rattle.grammar.proofs.Accepted.{program_parsed, parse_spelled, parse_named, program_translatable}
use Rattle.st.specs.Syntax.{Identifier}
use Rattle.st_program.proofs.Values.{Literal, LiteralC}
use Rattle.st_program.proofs.Cases.{LiteralK}
use Rattle.st_program.proofs.Rules.{LiteralAll}
use Rattle.st_program.proofs.FirstStore.{AllNames}
use Rattle.st_program.proofs.Printable.{AllStarts}
use Rattle.st_program.specs.Written.{none_st_word, no_timer, has_st}
use Rattle.st_program.proofs.Cycle.{InSt}

module _ (names : List (List ℕ)) where
  literal_expression : (v : Level) (l : ℕ) (ts : Tokens) (e : Expression) → SpellsE names v l ts e → Literal e
  literal_expression v l ts e (D.SpellsE.a_number w d h) = tt
  literal_expression v l ts e (D.SpellsE.a_current w i ei) = tt
  literal_expression v l ts e (D.SpellsE.a_previous w i ei) = tt
  literal_expression v l ts e (D.SpellsE.brackets us x d) = literal_expression D.expression _ us x d
  literal_expression v l ts e (D.SpellsE.plain us x d) = literal_expression D.primary _ us x d
  literal_expression v l ts e (D.SpellsE.opposite us x d) = literal_expression D.primary _ us x d
  literal_expression v l ts e (D.SpellsE.one_factor us x d) = literal_expression D.factor _ us x d
  literal_expression v l ts e (D.SpellsE.product w o us ws x y ps d f) = (literal_expression D.term _ us x d, literal_expression D.factor _ ws y f)
  literal_expression v l ts e (D.SpellsE.one_term us x d) = literal_expression D.term _ us x d
  literal_expression v l ts e (D.SpellsE.sum w o us ws x y ps d f) = (literal_expression D.expression _ us x d, literal_expression D.term _ ws y f)

  literal_condition : (v : LevelC) (l : ℕ) (ts : Tokens) (c : Condition) → SpellsC names v l ts c → LiteralC c
  literal_condition v l ts c (D.SpellsC.compared w o us ws x y ps d f) = (literal_expression D.expression _ us x d, literal_expression D.expression _ ws y f)
  literal_condition v l ts c (D.SpellsC.square us x d) = literal_condition D.condition _ us x d
  literal_condition v l ts c (D.SpellsC.not_square us x d) = literal_condition D.condition _ us x d
  literal_condition v l ts c (D.SpellsC.one_atom us x d) = literal_condition D.atom _ us x d
  literal_condition v l ts c (D.SpellsC.conjoined us ws x y d f) = (literal_condition D.conjunction _ us x d, literal_condition D.atom _ ws y f)
  literal_condition v l ts c (D.SpellsC.one_conjunction us x d) = literal_condition D.conjunction _ us x d
  literal_condition v l ts c (D.SpellsC.disjoined us ws x y d f) = (literal_condition D.condition _ us x d, literal_condition D.conjunction _ ws y f)

  literal_cases : (v : List ℕ) (ts ls : Tokens) (ks : List Case) → SpellsCases names v ts ls ks → LiteralK ks
  literal_cases v ts ls ks (S.SpellsCases.one_case us ws k s d f) = (literal_condition D.condition _ us k.condition d, literal_expression D.expression _ ws k.value f, tt)
  literal_cases v ts ls ks (S.SpellsCases.more_cases us ws xs ys k js s d f q) =
      (literal_condition D.condition _ us k.condition d, literal_expression D.expression _ ws k.value f, literal_cases v xs ys js q)

  -- a side changes nothing, and two lists make one
  literal_sided : (side : Side) (ks js : List Case) → LiteralK ks → LiteralK js → LiteralK (on_side side ks ++ js)
  literal_sided side [] js a b = b
  literal_sided side (k ∷ ks) js a b = (a.0, a.1, literal_sided side ks js a.2 b)

  literal_pair : (ks js : List Case) → LiteralK ks → LiteralK js → LiteralK (pair_cases ks js)
  literal_pair ks js a b = literal_sided rising ks (on_side falling js) a (subst LiteralK (append-nil (on_side falling js)) (literal_sided falling js [] b tt))

  literal_rules : (ts : Tokens) (rs : List Rule) → SpellsRules names ts rs → LiteralAll rs
  literal_rules ts rs S.SpellsRules.none = tt
  literal_rules ts rs (S.SpellsRules.more us vs r qs (S.SpellsR.a_change v i xs ls ks cs ei d room e) q) = (literal_cases v xs ls ks d, literal_rules vs qs q)
  literal_rules ts rs (S.SpellsRules.more us vs r qs (S.SpellsR.a_function v i xs e ei d) q) = (literal_expression D.expression _ xs e d, literal_rules vs qs q)
  literal_rules ts rs (S.SpellsRules.more us vs r qs (S.SpellsR.a_pair v i xs ls ys ms ks js ei d f room) q) = (literal_pair ks js (literal_cases v xs ls ks d) (literal_cases v ys ms js f), literal_rules vs qs q)

all_names : (ws : List Identifier) → ((i : ℕ) (w : List ℕ) → get_elem? ws i ≡ some w → IsName w) → AllNames ws
all_names [] h = tt
all_names (w ∷ ws) h = (h zero w refl, all_names ws (λ i v e. h (suc i) v e))

all_starts : (ns : List Name) → RangesFit (map (λ n. n.range) ns) → AllStarts ns
all_starts [] h = tt
all_starts (n ∷ ns) h =
    let z = n.range.start in
    (T_true (is_int32 z) (and_left (is_int32 z) (le_z n.range.low z) (and_left (is_int32 z && le_z n.range.low z) (le_z z n.range.high) h.0.2)), all_starts ns h.1)

module _ (text : List ℕ) (p : Program) (e : program_of text ≡ accepted p) where
  pub accepted_in_st : p.timers ≡ [] → InSt p
  accepted_in_st untimed =
      let r = program_parsed text p e in
      let s = parse_spelled text p r.0 r.1 in
      let n = parse_named text p r.0 r.1 in
      record {
        well_formed = (program_translatable text p e).well_formed;
        named = all_names (names_of p) n.each;
        distinct = n.distinct;
        literal = literal_rules (normals (names_of p)) s.rule_tokens p.rules s.spells_rules;
        untimed = untimed;
      }

  pub accepted_starts : AllStarts p.names
  accepted_starts = all_starts p.names (program_translatable text p e).ranges_fit

-- a program that has Structured Text has no timers
pub st_untimed : (p : Program) → has_st p ≡ true → p.timers ≡ []
unfolding has_st
st_untimed p h = go p.timers (and_both (no_timer p.timers) (none_st_word (names_of p)) h).0
  where
    go : (ts : List Timer) → no_timer ts ≡ true → ts ≡ []
    go [] e = refl
    go (x ∷ xs) e = absurd (false≢true e)
