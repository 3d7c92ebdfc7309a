-- What holds of the program of every accepted text: it can be translated, its code holds at most 38 values, and its names are
-- distinct and of 1 to 16 bytes. Assumes nothing.
use mathlib.Core.Path.{◌≡◌, ap, ◌∙◌}
use mathlib.Core.List.{List, [], ◌∷◌, ◌++◌, map}
use mathlib.Core.Bool.{◌&&◌}
use Prim.Native.Nat.{ℕ, ◌+◌, ◌*◌, ◌≤◌}
use native.Mathlib.Omega.{arith}
use lib.ListN.{length, length-append, length-map}
use lib.Dec.{T}
use lib.Signed.{le_z}
use Rattle.limits.specs.Limits.{text_limit, name_limit}
use Rattle.limits.specs.Answer as A
use Rattle.arith.specs.Values.{is_int32}
use Rattle.arith.proofs.Basics.{and_left, and_right, and_T}
use Rattle.semantics.specs.Program.{Range, Name, Program, ranges_of, within, Ordered, StartsWithin, RangeFits}
use Rattle.bytecode.specs.Translation.{image_of, RangesFit, Translatable}
use Rattle.grammar.specs.Parsed.{Parsed, accepted, refused}
use Rattle.grammar.specs.Parse.{parse, answer_of, program_of}
use Rattle.lexer.specs.Spelling.{IsWord}
use Rattle.grammar.specs.Derivation.{normals, IsName}
use Rattle.grammar.specs.Spelled.{names_of, Spelled}
use Rattle.grammar.specs.Inner.Names.{Named}
use Rattle.grammar.proofs.Shape.{NamesFit}
use Rattle.grammar.proofs.Whole.{named, spelled_fit}
use Rattle.grammar.proofs.DerivedText.{parse_reads}
use Rattle.grammar.proofs.Depth.{depth_rules, rules_depth, rules_shallow}
use Rattle.grammar.proofs.Sided.{rules_sided}
use Rattle.grammar.proofs.SizeText.{spelled_small}
use Rattle.grammar.proofs.Image.{image_emitted}

-- ---- names

ranges_fit : (l : List Name) → NamesFit l → RangesFit (map (λ n. n.range) l)
ranges_fit [] h = tt
ranges_fit (x ∷ l) h = (h.0.range_fits, ranges_fit l h.1)

start_within : (r : Range) → RangeFits r → T (within r r.start)
unfolding within
start_within r h =
    let z = r.start in
    let in_order = and_left (is_int32 z && le_z r.low z) (le_z z r.high) h.2 in
    and_T (le_z r.low z) (le_z z r.high) (and_right (is_int32 z) (le_z r.low z) in_order) (and_right (is_int32 z && le_z r.low z) (le_z z r.high) h.2)

starts_within : (l : List Range) → RangesFit l → StartsWithin l
starts_within [] h = tt
starts_within (r ∷ l) h = (start_within r h.0, starts_within l h.1)

-- a name has 1 to 16 bytes
pub name_length : (w : List ℕ) → IsName w → (1 ≤ length w) × (length w ≤ 16)
name_length w h = (some-letter w h.is_word, h.short)
  where
    some-letter : (w : List ℕ) → IsWord w → 1 ≤ length w
    some-letter [] h = absurd h
    some-letter (b ∷ l) h = omega arith

-- ---- accepted texts

module _ (text : List ℕ) (p : Program) (n : ℕ) (e : parse text ≡ accepted p n) where
  -- what is accepted has document 01's grammar, limits, order and agreement
  pub parse_spelled : Spelled text p
  parse_spelled = (parse_reads text p n e).0

  -- no accepted text is over its limit
  pub parse_short : length text ≤ text_limit
  parse_short = parse_spelled.short

  -- the names are pairwise distinct, and each is a name
  pub parse_named : Named (names_of p)
  parse_named = named p.names (spelled_fit text p parse_spelled) parse_spelled.distinct

  -- at most 64 names in all
  pub parse_few : length p.names ≤ name_limit
  parse_few = parse_spelled.few

  -- 16 open brackets hold at most 38 values
  pub parse_depth : depth_rules p.rules ≤ 38
  parse_depth = rules_depth (normals (names_of p)) parse_spelled.rule_tokens p.rules parse_spelled.spells_rules

  -- twice the image's bytes are at most three times the text's, and four
  pub parse_growth : 2 * length (image_of p) ≤ 3 * length text + 4
  parse_growth = rw (← image_emitted p) (spelled_small text p parse_spelled)

  pub parse_ordered : Ordered p
  parse_ordered = parse_spelled.ordered

  -- the program of an accepted text is what translation, soundness and the meaning of its formulas ask for
  pub parse_translatable : Translatable p
  parse_translatable =
      let s = parse_spelled in
      let fits = ranges_fit p.names (spelled_fit text p s) in
      let l : length (ranges_of p) ≡ length p.names = length-map p.names (λ n. n.range) in
      let base = s.inputs ++ s.variables in
      let count : length p.names ≡ length base + length s.timer_names = ap length s.names ∙ length-append base s.timer_names in
      record {
        well_formed = record {
          inputs_fit = omega (arith, l, count, length-append s.inputs s.variables, s.input_count);
          starts = starts_within (ranges_of p) fits;
          ordered = s.ordered;
          agrees = (parse_reads text p n e).1;
          sided = rules_sided (normals (names_of p)) s.rule_tokens p.rules s.spells_rules;
          timed = s.timers_fit;
        };
        few = omega (arith, l, s.few);
        ranges_fit = fits;
        shallow = rules_shallow (normals (names_of p)) s.rule_tokens p.rules s.spells_rules;
        short = omega (arith, parse_growth, s.short);
      }

-- the same of the answer that a service cites
pub program_parsed : (text : List ℕ) (p : Program) → program_of text ≡ A.accepted p → (n : ℕ) × (parse text ≡ accepted p n)
unfolding program_of
program_parsed text p = go (parse text)
  where
    go : (r : Parsed Program) → answer_of r ≡ A.accepted p → (n : ℕ) × (r ≡ accepted p n)
    go (accepted q n) h = let i : q ≡ p = cc in (n, ap (λ (x : Program). accepted x n) i)
    go (refused k q) h = let z : ◌≡◌ {A = ℕ} 0 1 = cc in absurd (omega arith)

pub program_translatable : (text : List ℕ) (p : Program) → program_of text ≡ A.accepted p → Translatable p
program_translatable text p h = let r = program_parsed text p h in parse_translatable text p r.0 r.1
