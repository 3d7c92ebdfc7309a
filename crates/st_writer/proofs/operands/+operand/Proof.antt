-- `st_writer::operands::operand` meets its contract: by the code left. Assumes nothing.
use Prim.Native.Nat.{ℕ, ◌<◌, ◌≤◌, ◌-◌}
use native.Mathlib.Omega.{arith}
use mathlib.Core.Path.{◌≡◌, refl, sym, ◌∙◌}
use lib.ListN.{length}
use borrow.Author.Rules.{rules}
use borrow.Fn.Kinds.{In}
use borrow.Fn.PlainCycle.{Measures, is, falls, and}
use Rattle.lexer.specs.Names.{table_names}
use Rattle.st_writer.proofs.operands.operand.Reads as operand
use Rattle.st_writer.proofs.operands.operand.Kinds as operand-kinds
use Rattle.st_writer.proofs.operands.+operand.Lts-operand as operand-lts
use Rattle.st_writer.proofs.byte_before.Reads as byte-before-reads
use Rattle.st_writer.proofs.opens_before.Reads as opens-before-reads
use Rattle.st_writer.proofs.operands.leaf.Reads as leaf-reads
use Rattle.st_writer.proofs.operands.is_prefix.Reads as is-prefix-reads
use Rattle.st_writer.proofs.operands.prefix_before.Reads as prefix-before-reads
use Rattle.st_writer.proofs.sign_before.Reads as sign-before-reads
use Rattle.st_writer.proofs.operands.+operand.{statement}
use Rattle.st_writer.proofs.operands.+operand.Tie.{close}
use Rattle.st_writer.proofs.Spines.{Spine, spine_starts, spine_short, spine_leaf, spine_prefix, spine_goes}

abbrev μ_operand : Measures 5 operand-kinds.ps ℕ
μ_operand κs a = length a.1.1.1.1.0.now - a.1.1.1.1.1.0

abbrev operand_at : ℕ → In 5 operand-kinds.ps
operand_at t = and 5 operand-kinds.ps (is 5 operand-kinds.ps μ_operand t) operand.Pre

abbrev operand_below : ℕ → In 5 operand-kinds.ps
operand_below t = and 5 operand-kinds.ps (falls 5 operand-kinds.ps ◌<◌ μ_operand t) operand.Pre

abbrev claims : ℕ → operand-lts.Claims
claims t = (leaf-reads.Asked, leaf-reads.Learnt, opens-before-reads.Asked, opens-before-reads.Learnt, byte-before-reads.Asked, byte-before-reads.Learnt, operand_below t, operand.Post, is-prefix-reads.Asked, is-prefix-reads.Learnt, prefix-before-reads.Asked, prefix-before-reads.Learnt, sign-before-reads.Asked, sign-before-reads.Learnt)

abbrev invariant_loop : operand-lts.invariant-loop-a
invariant_loop text starts ends count code at out₀ to a₀ place₀ pending₀ out a place pending = (at ≤ a) × (a ≤ length code) × (pending ≤ a) × (length out ≡ length out₀) × Spine (table_names text starts ends count) code at a out₀ out to place pending

abbrev decreases_loop : operand-lts.decreases-loop-a
decreases_loop text starts ends count code at out₀ to a₀ place₀ pending₀ out a place pending = length code - a

loop-holds : (t : ℕ) → operand-lts.Need-loop-a-init (claims t) (operand_at t) operand.Post invariant_loop decreases_loop
loop-holds t c = (omega arith, c.requires.1.1, omega arith, refl, spine_starts _ _ _ _ _)

same_length : (t : ℕ) → operand-lts.Need-shape_of-out-then-code-a (claims t) (operand_at t) operand.Post invariant_loop decreases_loop
same_length t c = c.loop-a.invariant.3

returns : (t : ℕ) → operand-lts.Need-returns-then-code-a (claims t) (operand_at t) operand.Post invariant_loop decreases_loop
returns t c = let i = c.loop-a.invariant in ((i.0, i.1), spine_short _ _ _ _ _ _ _ _ _ c.if-code-a.true i.3 i.4)

leaf-requires : (t : ℕ) → operand-lts.Need-leaf-end-requires (claims t) (operand_at t) operand.Post invariant_loop decreases_loop
leaf-requires t c κs = (c.requires.1.0, omega (arith, c.if-code-a.false))

same-length-2 : (t : ℕ) → operand-lts.Need-shape_of-out-then-op-le3 (claims t) (operand_at t) operand.Post invariant_loop decreases_loop
same-length-2 t c = c.opens_before-first.ensures.same ∙ c.leaf-end.ensures.1.same ∙ c.loop-a.invariant.3

returns-2 : (t : ℕ) → operand-lts.Need-returns-then-op-le3 (claims t) (operand_at t) operand.Post invariant_loop decreases_loop
returns-2 t c = let i = c.loop-a.invariant in let o = c.leaf-end.ensures in ((omega (arith, i.0, o.0.0), o.0.1), spine_leaf _ _ c.args.at _ _ _ _ _ _ _ _ _ _ _ c.if-op-le3.true i.3 i.4 o.1 c.opens_before-first.ensures)

operand-requires : (t : ℕ) → operand-lts.Need-operand-right-requires (claims t) (operand_at t) operand.Post invariant_loop decreases_loop
operand-requires t c κs = (omega (arith, c.if-code-a.false), (c.requires.1.0, omega (arith, c.if-code-a.false)))

same-length-3 : (t : ℕ) → operand-lts.Need-shape_of-out-then-is_prefix (claims t) (operand_at t) operand.Post invariant_loop decreases_loop
same-length-3 t c = c.opens_before-first-then-is_prefix.ensures.same ∙ c.prefix_before-sign.ensures.same ∙ c.operand-right.ensures.1.same ∙ c.byte_before-close.ensures.same ∙ c.loop-a.invariant.3

returns-3 : (t : ℕ) → operand-lts.Need-returns-then-is_prefix (claims t) (operand_at t) operand.Post invariant_loop decreases_loop
returns-3 t c = let i = c.loop-a.invariant in let o = c.operand-right.ensures in ((omega (arith, i.0, o.0.0), o.0.1), spine_prefix _ _ c.args.at _ _ _ _ _ _ _ _ _ _ _ _ _ _ _ c.if-op-le3.false (sym c.is_prefix.ensures ∙ c.if-is_prefix.true) i.3 i.4 c.byte_before-close.ensures o.1 c.prefix_before-sign.ensures c.opens_before-first-then-is_prefix.ensures)

add_pending : (t : ℕ) → operand-lts.Need-overflow_add-pending (claims t) (operand_at t) operand.Post invariant_loop decreases_loop
add_pending t c = let i = c.loop-a.invariant in omega (arith, i.1, i.2, c.if-code-a.false)

loop-less : (t : ℕ) → operand-lts.Need-loop-a-smaller (claims t) (operand_at t) operand.Post invariant_loop decreases_loop
loop-less t c = let o = c.operand-right.ensures in omega (arith, o.0.0, c.if-code-a.false)

loop-again : (t : ℕ) → operand-lts.Need-loop-a-preserved (claims t) (operand_at t) operand.Post invariant_loop decreases_loop
loop-again t c = let i = c.loop-a.invariant in let o = c.operand-right.ensures in (omega (arith, i.0, o.0.0), o.0.1, omega (arith, i.2, o.0.0), c.sign_before-place.ensures.same ∙ o.1.same ∙ c.byte_before-close.ensures.same ∙ i.3, spine_goes _ _ c.args.at _ _ _ _ _ _ _ _ _ _ _ _ _ c.if-op-le3.false (sym c.is_prefix.ensures ∙ c.if-is_prefix.false) i.4 c.byte_before-close.ensures o.1 c.sign_before-place.ensures)

pub +operand_spec : {M : Type 1} → statement M
+operand_spec = close μ_operand λ t. operand-lts.spec (claims t) (operand_at t) operand.Post invariant_loop decreases_loop (loop-holds t) (same_length t) (returns t) (λ c. search rules) (λ c. search rules) (leaf-requires t) (λ c κs. search rules) (same-length-2 t) (returns-2 t) (λ c κs. search rules) (operand-requires t) (λ c κs. search rules) (λ c κs. search rules) (λ c κs. search rules) (same-length-3 t) (returns-3 t) (λ c κs. search rules) (add_pending t) (loop-less t) (loop-again t)
