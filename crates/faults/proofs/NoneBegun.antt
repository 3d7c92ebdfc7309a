-- What ends with a refused token begins nothing: the record `NoneBegun`. Assumes nothing.
use mathlib.Core.Path.{◌≡◌, refl, sym, ◌∙◌}
use mathlib.Core.List.{List, [], ◌∷◌, ◌++◌}
use Prim.Native.Nat.{ℕ, ◌≤◌, ◌<◌}
use native.Mathlib.Omega.{arith}
use lib.ListN.{length}
use Rattle.limits.specs.Limits.{text_limit, bracket_limit}
use Rattle.limits.specs.Answer as A
use Rattle.lexer.specs.Bytes.{bytes}
use Rattle.lexer.specs.Token.{kind_number, close_round, is}
use Rattle.semantics.specs.Program.{Expression, Condition, Program, UsableE, UsableC}
use Rattle.grammar.specs.Parsed.{accepted, refused}
use Rattle.grammar.specs.Expressions.{Scope, product_of, sum_of, whole_expression}
use Rattle.grammar.specs.Conditions.{listed}
use Rattle.grammar.specs.Parse.{program_of}
use Rattle.grammar.specs.Derivation as D
use Rattle.grammar.specs.Derivation.{Tokens, Spells, SpellsE, SpellsC, normal, normals}
use Rattle.grammar.specs.Spelled.{Spelled}
use Rattle.grammar.proofs.Combine.{never}
use Rattle.grammar.proofs.Standing.{at_kind, split, spells_in, normally}
use Rattle.grammar.proofs.Converse.{spelled_expression, spelled_listed}
use Rattle.grammar.proofs.ConverseText.{accepted_exactly}
use Rattle.faults.specs.Texts.{SameThrough}
use Rattle.faults.specs.Grammar.{GoodNames, NoneBegun}
use Rattle.faults.proofs.Readings.{whole_expression_reads, listed_reads}
use Rattle.faults.proofs.AlikeParts.{scope, whole_expression_alike, listed_alike}
use Rattle.faults.proofs.FirstFound.{twin_refused, first_found}

expressions : (sc : Scope) (other : List ℕ) (at number place : ℕ) → GoodNames sc.names → whole_expression sc at ≡ refused number place → place < length sc.text → SameThrough sc.text other place
    → (ts : Tokens) (e : Expression) (n : ℕ) → SpellsE (normals sc.names) D.expression bracket_limit ts e → UsableE sc.known e → Spells normal other at n (ts ++ bytes ")" ∷ []) → ⊥
unfolding product_of sum_of is kind_number
expressions sc other at number place good e l x ts v n d u g =
    let r = (rw e at (whole_expression_reads sc at)).found in
    let t = twin_refused sc.text other at number place (λ t. whole_expression (scope sc.names sc.known t) at) (λ S. whole_expression_alike S sc.names sc.known at) l x r e in
    let p = split normally other at n ts (bytes ")" ∷ []) g in
    let i = (spells_in normally other at p.place ts t.1 p.first).1 in
    let c = at_kind normally other close_round (bytes ")") refl p.place p.second.0 i p.second.1 in
    let a = spelled_expression (scope sc.names sc.known other) (record { distinct = good.0; each = good.1 }) ts v d u at p.place t.1 p.first close_round p.second.1.start p.second.0 c (refl, refl) in
    never number place p.place v (sym t.0 ∙ a)

conditions : (sc : Scope) (other : List ℕ) (at number place : ℕ) → GoodNames sc.names → listed sc at ≡ refused number place → place < length sc.text → SameThrough sc.text other place
    → (ts : Tokens) (c : Condition) (n : ℕ) → SpellsC (normals sc.names) D.condition bracket_limit ts c → UsableC sc.known c → Spells normal other at n (ts ++ bytes "]" ∷ []) → ⊥
conditions sc other at number place good e l x ts v n d u g =
    let r = (rw e at (listed_reads sc at)).found in
    let t = twin_refused sc.text other at number place (λ t. listed (scope sc.names sc.known t) at) (λ S. listed_alike S sc.names sc.known at) l x r e in
    let a = spelled_listed (scope sc.names sc.known other) (record { distinct = good.0; each = good.1 }) ts v d u at n t.1 g in
    never number place n v (sym t.0 ∙ a)

texts : (text other : List ℕ) (number place : ℕ) → program_of text ≡ A.refused number place → place < length text → length text ≤ text_limit → SameThrough text other place → (p : Program) → Spelled other p → ⊥
texts text other number place e l h x p s =
    let a = first_found.first_found text other number place e l x h s.short in
    let b = accepted_exactly.spelled_accepted other p s in
    let c : A.refused number place ≡ A.accepted p = sym a ∙ b in
    let z : ◌≡◌ {A = ℕ} 0 1 = cc in
    omega arith

pub none_begun : NoneBegun
none_begun = record { expressions = expressions; conditions = conditions; texts = texts }
