-- The image of a program. Document 01, "The image"; document 02, A.7. Assumes nothing.
use Rattle.std.specs.Prelude.{ℕ, suc, ◌-◌, ◌≤◌, max, cond, List, [], ◌∷◌, ◌++◌, eqb, length}
use Rattle.limits.specs.Limits.{stack_limit, name_limit, image_limit}
use Rattle.semantics.specs.Program.{Range, Expression, Condition, Case, Rule, function, change, target, Timer, Program, ranges_of, WellFormed, RangeFits}
use Rattle.semantics.specs.Program as P
use Rattle.leb128.specs.Numbers.{number, zigzag}
use Rattle.bytecode.specs.Instructions.{Instruction, constant, current, previous, operation, negate, comparison, negated, both, either, gate, pick, assign, settle, timer, encode_all}

-- Operands come before their operation, left first.
abbrev pub code_e : Expression → List Instruction
code_e (P.constant z) = constant z ∷ []
code_e (P.current i) = current i ∷ []
code_e (P.previous i) = previous i ∷ []
code_e (P.operation o a b) = code_e a ++ code_e b ++ operation o ∷ []
code_e (P.negate a) = code_e a ++ negate ∷ []

abbrev pub code_c : Condition → List Instruction
code_c (P.comparison o a b) = code_e a ++ code_e b ++ comparison o ∷ []
code_c (P.negated a) = code_c a ++ negated ∷ []
code_c (P.both a b) = code_c a ++ code_c b ++ both ∷ []
code_c (P.either a b) = code_c a ++ code_c b ++ either ∷ []

-- A case is: condition, gate, expression, pick.
abbrev pub code_case : ℕ → Case → List Instruction
code_case v k = code_c k.condition ++ (gate ∷ code_e k.value ++ pick k.side v ∷ [])

abbrev pub code_k : ℕ → List Case → List Instruction
code_k v [] = []
code_k v (k ∷ ks) = code_case v k ++ code_k v ks

-- After the last case, settle. A function is: expression, let.
abbrev pub code_r : Rule → List Instruction
code_r (function v e) = code_e e ++ assign v ∷ []
code_r (change v ks cs) = code_k v ks ++ settle v ∷ []

-- the timers of v, by id
abbrev pub code_t : ℕ → List Timer → List Instruction
code_t v [] = []
code_t v (x ∷ xs) = cond (eqb x.watched v) (timer x.id v x.limit ∷ code_t v xs) (code_t v xs)

-- Rules stand in text order, directly after each the timers of its variable.
abbrev pub code_rules : List Timer → List Rule → List Instruction
code_rules ts [] = []
code_rules ts (r ∷ rs) = code_r r ++ (code_t (target r) ts ++ code_rules ts rs)

-- low, high, start (signed) of each name in declared order
abbrev pub encode_ranges : List Range → List ℕ
encode_ranges [] = []
encode_ranges (n ∷ ns) = number (zigzag n.low) ++ (number (zigzag n.high) ++ (number (zigzag n.start) ++ encode_ranges ns))

-- Header: count of inputs, count of variables, then the names.
abbrev pub encode_header : Program → List ℕ
encode_header p = number p.inputs ++ (number (length (ranges_of p) - p.inputs) ++ encode_ranges (ranges_of p))

-- The code is the rest of the image after the header.
unfoldable pub image_of : Program → List ℕ
image_of p = encode_header p ++ encode_all (code_rules p.timers p.rules)

-- ---- values held by translated code

abbrev pub depth_e : Expression → ℕ
depth_e (P.constant z) = 1
depth_e (P.current i) = 1
depth_e (P.previous i) = 1
depth_e (P.operation o a b) = max (depth_e a) (suc (depth_e b))
depth_e (P.negate a) = depth_e a

abbrev pub depth_c : Condition → ℕ
depth_c (P.comparison o a b) = max (depth_e a) (suc (depth_e b))
depth_c (P.negated a) = depth_c a
depth_c (P.both a b) = max (depth_c a) (suc (depth_c b))
depth_c (P.either a b) = max (depth_c a) (suc (depth_c b))

abbrev pub ShallowK : List Case → Type 0
ShallowK [] = Unit {0}
ShallowK (k ∷ ks) = (depth_c k.condition ≤ stack_limit) × (depth_e k.value ≤ stack_limit) × ShallowK ks

-- at least one case, and never over 40 values held
abbrev pub ShallowR : Rule → Type 0
ShallowR (function v e) = depth_e e ≤ stack_limit
ShallowR (change v ks cs) = (1 ≤ length ks) × ShallowK ks

abbrev pub Shallow : List Rule → Type 0
Shallow [] = Unit {0}
Shallow (r ∷ rs) = ShallowR r × Shallow rs

-- ---- what an accepted text's program has

abbrev pub RangesFit : List Range → Type 0
RangesFit [] = Unit {0}
RangesFit (n ∷ ns) = RangeFits n × RangesFit ns

pub record Translatable (p : Program) : Type 0 where
  pub well_formed : WellFormed p
  -- at most 64 names in all
  pub few : length (ranges_of p) ≤ name_limit
  pub ranges_fit : RangesFit (ranges_of p)
  -- 16 open brackets hold at most 38 values
  pub shallow : Shallow p.rules
  -- a text of at most 32,768 bytes has an image of at most 65,536
  pub short : length (image_of p) ≤ image_limit
