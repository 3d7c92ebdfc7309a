-- Assumes nothing.
use Rattle.bytecode.proofs.SoundHeader.{header_not_broken}
use Rattle.shapes.proofs.Measuring.{plain_measures}
use Rattle.shapes.proofs.shape_plain.Goals as goal

pub returns-in-Err : goal.returns-in-Err
returns-in-Err c = header_not_broken c.args.image.now c.requires.0 _ c.in-Err.ensures.so.0

pub returns-in-Ok : goal.returns-in-Ok
returns-in-Ok c = record { so = plain_measures c.args.image.now c.in-Ok.ensures.so c.requires.0 c.requires.1 }
