-- An instruction breaks soundness, or is one step. Assumes nothing.
use Rattle.std.proofs.Common.{sym}
use Rattle.bytecode.specs.Instructions.{instruction_of}
use Rattle.checker.specs.Inner.Walk.{known_of}
use Rattle.checker.proofs.Walking.{judges_malformed, judges_broken}
use Rattle.checker.proofs.Stretching.{single_leads}
use Rattle.checker.proofs.ahead.single.Goals as goal

pub returns-in_err-byte : goal.returns-in_err-byte
returns-in_err-byte c =
    rw c.from_residual.ensures (judges_malformed c.args.code.now c.args.at (known_of c.args.w) c.requires.1 (sym c.in_err-byte.ensures.result_value))

pub returns-in_err-k : goal.returns-in_err-k
returns-in_err-k c =
    let a = c.in_ok-byte in
    rw c.from_residual-in_err-k.ensures (judges_broken c.args.code.now c.args.at (known_of c.args.w) c.requires.1 (instruction_of a.byte a.n) a.next (sym a.ensures.result_value)
    (sym c.in_err-k.ensures.result_value))

pub returns : goal.returns
returns c =
    let a = c.in_ok-byte in
    let k = c.in_ok-k in
    single_leads c.args.code.now c.args.at c.args.w a.next k.k (instruction_of a.byte a.n) (sym a.ensures.result_value) (sym k.ensures.result_value)
    a.ensures.single_within.inside k.ensures.small_after
