-- Assumes nothing.
use Rattle.std.proofs.Common.{refl, sym, subst, ◌∙◌, arith}
use Rattle.bytecode.specs.Instructions.{instruction_of}
use Rattle.evaluation.specs.Conditions.{Tells}
use Rattle.evaluation.proofs.Going.{begins, ended, broken, taken, refused, again}
use Rattle.evaluation.proofs.evaluate.Goals as goal

pub loop-at-init : goal.loop-at-init
loop-at-init c = begins c.args.code.now c.args.prev.now c.args.cur.now c.args.vals.now _ refl refl refl c.requires

pub returns-in_err-op : goal.returns-in_err-op
returns-in_err-op c = λ x d l. absurd (broken (c.loop-at.invariant.goes x d l) c.loop-at-test.true c.in_err-op.ensures.result_value)

pub returns-in_default : goal.returns-in_default
returns-in_default c =
    let i = c.in_ok-op in
    λ x d l. (_, refused (taken (c.loop-at.invariant.goes x d l) c.loop-at-test.true (instruction_of i.op i.n) i.next i.ensures.result_value) l c.work.result c.work.new.vals c.work.ensures.cur_after _ c.in_default.is)

pub loop-at-preserved : goal.loop-at-preserved
loop-at-preserved c =
    let i = c.in_ok-op in
    let v = c.loop-at.invariant in
    let deep = c.work.auto.vals in
    record {
      stack = record { few = c.in-Next.ensures.few; room = omega (arith, v.stack.room, deep) };
      deep = deep ∙ v.deep;
      within = i.ensures.single_within.inside;
      goes = λ x d l. again (taken (v.goes x d l) c.loop-at-test.true (instruction_of i.op i.n) i.next i.ensures.result_value) l c.work.result c.work.new.vals c.work.ensures.cur_after c.in-Next.t c.in-Next.is;
    }

pub returns : goal.returns
returns c =
    λ x d l.
    let e = ended (c.loop-at.invariant.goes x d l) c.loop-at-test.false in
    subst (Tells c.answer.result) (sym e.is) (c.answer.ensures e.truth e.top)
