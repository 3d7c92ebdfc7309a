-- What the statements do. From IEC 61131-3 (values of DINT and BOOL, order and extent of evaluation, IF, assignment), without the translator.
-- Where there is no result it is `none`. Assumes nothing.
use Rattle.std.specs.Prelude.{ℕ, Bool, true, false, not, ◌&&◌, ◌||◌, cond, List, [], ◌∷◌, ◌++◌, map, ℤ, pos, neg_ℤ, ◌+ℤ◌, ◌-ℤ◌, ◌*ℤ◌}
use Rattle.std.proofs.Math.Option.{Option, none, some}
use Rattle.std.specs.Int.Signed.{lt_z, le_z, quot_z}
use Rattle.arith.specs.Values.{Comparison, equal, not_equal, less, less_equal, greater, greater_equal, Operation, add, subtract, multiply, divide, modulo, eq_z, is_int32}
use Rattle.lexer.specs.Lexer.{same_name}
use Rattle.trace_text.specs.Row.{◌and_if◌}
use Rattle.st.specs.Syntax.{Identifier, Logical, or, and, Operator, connects, relates, computes, StExpression, number, variable, negative, complement, binary, Assignment, Branch, Statement, assign, choose, Declaration, StProgram}
use Rattle.st.specs.Reading.{program_read}

-- ---- values

pub data Value : Type 0 where
  dint : ℤ → Value
  truth : Bool → Value

-- a result outside DINT is none
abbrev pub dint_result : ℤ → Option Value
dint_result z = cond (is_int32 z) (some (dint z)) none

abbrev pub holds_between : Comparison → ℤ → ℤ → Bool
holds_between equal a b = eq_z a b
holds_between not_equal a b = not (eq_z a b)
holds_between less a b = lt_z a b
holds_between greater a b = lt_z b a
holds_between less_equal a b = le_z a b
holds_between greater_equal a b = le_z b a

-- Division cuts toward zero and by zero has no result; MOD by zero is 0.
abbrev pub calculated : Operation → ℤ → ℤ → Option Value
calculated add a b = dint_result (a +ℤ b)
calculated subtract a b = dint_result (a -ℤ b)
calculated multiply a b = dint_result (a *ℤ b)
calculated divide a b = cond (eq_z b (pos 0)) none (dint_result (quot_z a b))
calculated modulo a b = dint_result (cond (eq_z b (pos 0)) (pos 0) (a -ℤ b *ℤ quot_z a b))

abbrev pub connected : Logical → Bool → Bool → Bool
connected or x y = x || y
connected and x y = x && y

-- operands of the right sort, else none
abbrev pub applied : Operator → Value → Value → Option Value
applied (connects c) (truth x) (truth y) = some (truth (connected c x y))
applied (connects c) (truth x) (dint b) = none
applied (connects c) (dint a) v = none
applied (relates r) (dint a) (dint b) = some (truth (holds_between r a b))
applied (relates r) (dint a) (truth y) = none
applied (relates r) (truth x) v = none
applied (computes o) (dint a) (dint b) = calculated o a b
applied (computes o) (dint a) (truth y) = none
applied (computes o) (truth x) v = none

abbrev pub opposed : Value → Option Value
opposed (dint a) = dint_result (neg_ℤ a)
opposed (truth x) = none

abbrev pub inverse : Value → Option Value
inverse (dint a) = none
inverse (truth x) = some (truth (not x))

-- whether the left operand alone decides
abbrev pub decides : Operator → Value → Bool
decides (connects or) (truth x) = x
decides (connects and) (truth x) = not x
decides (connects or) (dint a) = false
decides (connects and) (dint a) = false
decides (relates r) v = false
decides (computes o) v = false

-- ---- variables

pub record Variable : Type 0 where
  pub name : Identifier
  pub input : Bool
  pub value : ℤ

abbrev pub Store : Type 0
Store = List Variable

abbrev pub variables_of : Bool → List Declaration → Store
variables_of b ds = map (λ d. record { name = d.name; input = b; value = d.start }) ds

-- the variables of a program before its first cycle
abbrev pub fresh_store : StProgram → Store
fresh_store p = variables_of true p.inputs ++ variables_of false p.variables

unfoldable pub value_in : Store → Identifier → Option ℤ
value_in [] w = none
value_in (x ∷ σ) w = let r = value_in σ w in cond (same_name w x.name) (some x.value) r

abbrev pub with : Variable → ℤ → Variable
with x z = record { name = x.name; input = x.input; value = z }

-- a declared variable with a new value
unfoldable pub holding : Identifier → ℤ → Store → Option Store
holding w z [] = none
holding w z (x ∷ σ) =
    let more = holding w z σ and_if λ τ. some (x ∷ τ) in
    cond (same_name w x.name) (some (with x z ∷ σ)) more

abbrev pub holding_all : List Identifier → List ℤ → Store → Option Store
holding_all [] [] σ = some σ
holding_all [] (z ∷ zs) σ = none
holding_all (w ∷ ws) [] σ = none
holding_all (w ∷ ws) (z ∷ zs) σ = holding w z σ and_if λ τ. holding_all ws zs τ

abbrev pub next_input : Bool → Variable → List ℤ → (List ℤ → Option Store) → Option Store
next_input false x zs more = more zs and_if λ τ. some (x ∷ τ)
next_input true x [] more = none
next_input true x (z ∷ zs) more = more zs and_if λ τ. some (with x z ∷ τ)

abbrev pub none_left : List ℤ → Option Store
none_left [] = some []
none_left (z ∷ zs) = none

-- the inputs of a cycle, one for each variable of VAR_INPUT, in order
unfoldable pub given_row : List ℤ → Store → Option Store
given_row row [] = none_left row
given_row row (x ∷ σ) = next_input x.input x row (λ zs. given_row zs σ)

unfoldable pub is_input : Store → Identifier → Bool
is_input [] w = false
is_input (x ∷ σ) w = let r = is_input σ w in cond (same_name w x.name) x.input r

-- ---- expressions and statements

-- The left operand comes first. The standard lets a controller work out AND and OR only as far as needed: `lazy` says whether it does.
unfoldable pub evaluate : Bool → Store → StExpression → Option Value
evaluate lazy σ (number n) = dint_result (pos n)
evaluate lazy σ (variable w) = value_in σ w and_if λ z. some (dint z)
evaluate lazy σ (negative e) = evaluate lazy σ e and_if opposed
evaluate lazy σ (complement e) = evaluate lazy σ e and_if inverse
evaluate lazy σ (binary o a b) =
    evaluate lazy σ a and_if λ x. let both = evaluate lazy σ b and_if λ y. applied o x y in cond (lazy && decides o x) (some x) both

abbrev pub as_number : Value → Option ℤ
as_number (dint z) = some z
as_number (truth x) = none

-- an input is not assigned to
abbrev pub assigned_to : Bool → Assignment → Store → Option Store
assigned_to lazy a σ = evaluate lazy σ a.value and_if as_number and_if λ z. cond (is_input σ a.target) none (holding a.target z σ)

abbrev pub branch_on : Value → Option Store → Option Store → Option Store
branch_on (dint z) a b = none
branch_on (truth true) a b = a
branch_on (truth false) a b = b

-- the first branch whose condition is true; no later condition is worked out
unfoldable pub first_true : Bool → List Branch → Store → Option Store
first_true lazy [] σ = some σ
first_true lazy (k ∷ ks) σ = evaluate lazy σ k.condition and_if λ v. branch_on v (assigned_to lazy k.body σ) (first_true lazy ks σ)

unfoldable pub run_statements : Bool → List Statement → Store → Option Store
run_statements lazy [] σ = some σ
run_statements lazy (assign a ∷ ss) σ = assigned_to lazy a σ and_if λ τ. run_statements lazy ss τ
run_statements lazy (choose ks ∷ ss) σ = first_true lazy ks σ and_if λ τ. run_statements lazy ss τ

-- ---- a cycle of a controller

-- the previous value's name
abbrev pub previous_name : Identifier → Identifier
previous_name w = 95 ∷ w

abbrev pub values_in : Store → List Identifier → Option (List ℤ)
values_in σ [] = some []
values_in σ (w ∷ ws) = value_in σ w and_if λ z. values_in σ ws and_if λ zs. some (z ∷ zs)

pub record ValuesLeft : Type 0 where
  pub names : List ℤ
  pub previous : List ℤ

-- the bytes are a program; started with the state in names and previous values alike, then given the row's inputs, its statements leave
-- these values
unfoldable pub cycle_leaves : Bool → List ℕ → List Identifier → List ℤ → List ℤ → Option ValuesLeft
cycle_leaves lazy text names state row =
    program_read text and_if λ p. holding_all names state (fresh_store p) and_if λ σ. holding_all (map previous_name names) state σ and_if λ σ.
    given_row row σ and_if λ σ. run_statements lazy p.body σ and_if λ σ.
    values_in σ names and_if λ a. values_in σ (map previous_name names) and_if λ b. some (record { names = a; previous = b })

-- Cycle after cycle, nothing given from outside but the rows: the values of the names after each.
unfoldable pub cycle_states : Bool → StProgram → List Identifier → Store → List (List ℤ) → Option (List (List ℤ))
cycle_states lazy p names σ [] = some []
cycle_states lazy p names σ (row ∷ rows) =
    given_row row σ and_if λ τ. run_statements lazy p.body τ and_if λ υ. values_in υ names and_if λ z. cycle_states lazy p names υ rows and_if λ zs. some (z ∷ zs)
