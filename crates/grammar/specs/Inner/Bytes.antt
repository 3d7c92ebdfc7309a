-- The bytes of each part of a program, as a translator writes them while it reads: auxiliary definitions for proofs and inner contracts. The law
-- `image_emitted` says that they make bytecode's `image_of`. Document 01, "The image". Assumes nothing.
use Rattle.std.specs.Prelude.{ℕ, ◌-◌, cond, List, [], ◌∷◌, ◌++◌, length, eqb}
use Rattle.leb128.specs.Numbers.{number, zigzag}
use Rattle.bytecode.specs.Instructions.{operation_code, comparison_code, pick_code}
use Rattle.semantics.specs.Program.{Name, Expression, constant, current, previous, operation, negate, Condition, comparison, negated, both, either, Case, Rule, function, change, Timer, Program}

-- operands before their operation, left first
unfoldable pub bytes_e : Expression → List ℕ
bytes_e (constant z) = 1 ∷ number (zigzag z)
bytes_e (current i) = 2 ∷ number i
bytes_e (previous i) = 3 ∷ number i
bytes_e (operation o a b) = bytes_e a ++ (bytes_e b ++ (operation_code o ∷ []))
bytes_e (negate a) = bytes_e a ++ (9 ∷ [])

unfoldable pub bytes_c : Condition → List ℕ
bytes_c (comparison o a b) = bytes_e a ++ (bytes_e b ++ (comparison_code o ∷ []))
bytes_c (negated a) = bytes_c a ++ (16 ∷ [])
bytes_c (both a b) = bytes_c a ++ (bytes_c b ++ (17 ∷ []))
bytes_c (either a b) = bytes_c a ++ (bytes_c b ++ (18 ∷ []))

unfoldable pub bytes_k : ℕ → List Case → List ℕ
bytes_k v [] = []
bytes_k v (k ∷ ks) = bytes_c k.condition ++ (19 ∷ (bytes_e k.value ++ (pick_code k.side ∷ (number v ++ bytes_k v ks))))

-- the same with one code byte for every pick, as it is written before the rule's form is known to the case
unfoldable pub bytes_picked : ℕ → ℕ → List Case → List ℕ
bytes_picked pick v [] = []
bytes_picked pick v (k ∷ ks) = bytes_c k.condition ++ (19 ∷ (bytes_e k.value ++ (pick ∷ (number v ++ bytes_picked pick v ks))))

-- the timers of v
unfoldable pub bytes_t : ℕ → List Timer → List ℕ
bytes_t v [] = []
bytes_t v (x ∷ xs) = let rest = bytes_t v xs in cond (eqb x.watched v) (23 ∷ (number x.id ++ (number v ++ (number x.limit ++ rest)))) rest

unfoldable pub bytes_r : List Timer → List Rule → List ℕ
bytes_r ts [] = []
bytes_r ts (function v e ∷ rs) = bytes_e e ++ (21 ∷ (number v ++ (bytes_t v ts ++ bytes_r ts rs)))
bytes_r ts (change v ks cs ∷ rs) = bytes_k v ks ++ (22 ∷ (number v ++ (bytes_t v ts ++ bytes_r ts rs)))

unfoldable pub header : List Name → List ℕ
header [] = []
header (x ∷ l) = number (zigzag x.range.low) ++ (number (zigzag x.range.high) ++ (number (zigzag x.range.start) ++ header l))

unfoldable pub image : Program → List ℕ
image p = number p.inputs ++ (number (length p.names - p.inputs) ++ (header p.names ++ bytes_r p.timers p.rules))
