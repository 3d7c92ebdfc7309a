-- The bytes that a translator writes while it reads are those of the image: each part's bytes are its encoded instructions.
-- Assumes nothing.
use mathlib.Core.Path.{◌≡◌, refl}
use mathlib.Core.List.{List, [], ◌∷◌, ◌++◌, map, append_assoc, append-nil}
use mathlib.Core.Bool.{Bool, true, false, cond}
use Prim.Native.Nat.{ℕ}
use lib.ListN.{length-map}
use lib.Dec.{eqb}
use Rattle.leb128.specs.Numbers.{number}
use Rattle.semantics.specs.Program.{Name, Expression, constant, current, previous, operation, negate, Condition, comparison, negated, both, either, Case, Rule, function, change, Timer, Program}
use Rattle.bytecode.specs.Instructions.{Instruction, timer, encode_all}
use Rattle.bytecode.specs.Translation.{image_of, encode_ranges, code_t, code_rules}
use Rattle.bytecode.specs.Translation as B
use Rattle.grammar.specs.Inner.Bytes.{bytes_e, bytes_c, bytes_k, bytes_t, bytes_r, header, image}

pub encode_append : (xs ys : List Instruction) → encode_all (xs ++ ys) ≡ encode_all xs ++ encode_all ys
encode_append [] ys = refl
encode_append (i ∷ xs) ys = rw (encode_append xs ys, append_assoc)

pub expression_emitted : (e : Expression) → bytes_e e ≡ encode_all (B.code_e e)
unfolding bytes_e
expression_emitted (constant z) = simp append-nil
expression_emitted (current i) = simp append-nil
expression_emitted (previous i) = simp append-nil
expression_emitted (operation o a b) = simp (expression_emitted a, expression_emitted b, encode_append, append_assoc)
expression_emitted (negate a) = simp (expression_emitted a, encode_append)

pub condition_emitted : (c : Condition) → bytes_c c ≡ encode_all (B.code_c c)
unfolding bytes_c
condition_emitted (comparison o a b) = simp (expression_emitted a, expression_emitted b, encode_append, append_assoc)
condition_emitted (negated a) = simp (condition_emitted a, encode_append)
condition_emitted (both a b) = simp (condition_emitted a, condition_emitted b, encode_append, append_assoc)
condition_emitted (either a b) = simp (condition_emitted a, condition_emitted b, encode_append, append_assoc)

pub cases_emitted : (v : ℕ) (ks : List Case) → bytes_k v ks ≡ encode_all (B.code_k v ks)
unfolding bytes_k
cases_emitted v [] = refl
cases_emitted v (k ∷ ks) =
    simp (condition_emitted k.condition, expression_emitted k.value, cases_emitted v ks, encode_append, append_assoc)

pub timers_emitted : (v : ℕ) (ts : List Timer) → bytes_t v ts ≡ encode_all (code_t v ts)
unfolding bytes_t
timers_emitted v [] = refl
timers_emitted v (x ∷ xs) = go (eqb x.watched v) (bytes_t v xs) (timers_emitted v xs)
  where
    go : (b : Bool) (rest : List ℕ) → rest ≡ encode_all (code_t v xs) → cond b (23 ∷ (number x.id ++ (number v ++ (number x.limit ++ rest)))) rest ≡ encode_all (cond b (timer x.id v x.limit ∷ code_t v xs) (code_t v xs))
    go true rest e = simp (e, append_assoc)
    go false rest e = e

pub rules_emitted : (ts : List Timer) (rs : List Rule) → bytes_r ts rs ≡ encode_all (code_rules ts rs)
unfolding bytes_r
rules_emitted ts [] = refl
rules_emitted ts (function v e ∷ rs) = simp (expression_emitted e, timers_emitted v ts, rules_emitted ts rs, encode_append, append_assoc)
rules_emitted ts (change v ks cs ∷ rs) = simp (cases_emitted v ks, timers_emitted v ts, rules_emitted ts rs, encode_append, append_assoc)

pub header_emitted : (names : List Name) → header names ≡ encode_ranges (map (λ n. n.range) names)
unfolding header
header_emitted [] = refl
header_emitted (x ∷ l) = rw (header_emitted l)

-- what is emitted for a program is its image
pub image_emitted : (p : Program) → image p ≡ image_of p
unfolding image image_of
image_emitted p = simp (rules_emitted p.timers p.rules, header_emitted p.names, length-map, append_assoc)
