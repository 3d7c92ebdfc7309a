-- What holds of the names of every accepted text, and the conditions of a rule's cases. Assumes nothing.
use mathlib.Core.List.{List, [], ◌∷◌, map}
use Rattle.semantics.specs.Program.{Name, Case, Condition, RangeFits}
use Rattle.grammar.specs.Derivation.{IsName}

abbrev pub conditions_of : List Case → List Condition
conditions_of ks = map (λ k. k.condition) ks

pub record NameFits (x : Name) : Type 0 where
  pub is_name : IsName x.spelling
  pub range_fits : RangeFits x.range

abbrev pub NamesFit : List Name → Type 0
NamesFit [] = Unit {0}
NamesFit (x ∷ l) = NameFits x × NamesFit l
