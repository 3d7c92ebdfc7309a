-- What instructions leave, part by part. Assumes nothing.
use mathlib.Core.Path.{◌≡◌, refl, sym, ap, ◌∙◌}
use Prim.Native.Nat.{ℕ}
use mathlib.Core.Bool.{Bool}
use mathlib.Core.List.{List, [], ◌∷◌, ◌++◌, append_assoc}
use mathlib.Core.Option.{Option}
use Rattle.semantics.specs.Program.{Side}
use Rattle.bytecode.specs.Instructions.{Instruction}
use Rattle.bytecode.specs.Signature.{Sort, signature, held_by}
use Rattle.bytecode.specs.Check.{Picks, known}
use Rattle.bytecode.specs.Allowed.{gate_by, picks_by, left_by_all}
use Rattle.bytecode.specs.Sound.{held_after, ids_in, ids_after, side_in, sides_of}

abbrev pub gate_after : List Instruction → Bool → Bool
gate_after [] g = g
gate_after (i ∷ is) g = gate_after is (gate_by (signature i).role g)

abbrev pub picks_after : List Instruction → Option Picks → Option Picks
picks_after [] o = o
picks_after (i ∷ is) o = picks_after is (picks_by (signature i).role o)

pub left_is : (is : List Instruction) (vs : List Sort) (g : Bool) (o : Option Picks) (ids : List Bool) → left_by_all is (known vs g o ids) ≡ known (held_after is vs) (gate_after is g) (picks_after is o) (ids_after is ids)
left_is [] vs g o ids = refl
left_is (i ∷ is) vs g o ids = left_is is (held_by i vs) (gate_by (signature i).role g) (picks_by (signature i).role o) (ids_in (signature i).role ids)

pub gate_append : (is js : List Instruction) (g : Bool) → gate_after (is ++ js) g ≡ gate_after js (gate_after is g)
gate_append [] js g = refl
gate_append (i ∷ is) js g = gate_append is js (gate_by (signature i).role g)

pub picks_append : (is js : List Instruction) (o : Option Picks) → picks_after (is ++ js) o ≡ picks_after js (picks_after is o)
picks_append [] js o = refl
picks_append (i ∷ is) js o = picks_append is js (picks_by (signature i).role o)

pub sides_append : (v : ℕ) (is js : List Instruction) → sides_of v (is ++ js) ≡ sides_of v is ++ sides_of v js
sides_append v [] js = refl
sides_append v (i ∷ is) js = ap (λ (l : List Side). side_in v (signature i).role ++ l) (sides_append v is js) ∙ sym (append_assoc (side_in v (signature i).role) (sides_of v is) (sides_of v js))
