use Rattle.std.proofs.Common.{sym, arith}
use Rattle.mea_text.proofs.Tables.{of_each_byte}
use Rattle.mea_text.proofs.cutting.is.Goals as goal

pub returns : goal.returns
returns c = sym (of_each_byte c.args.word.now c.args.own.now (omega arith) (λ k within. c.loop-i.invariant k (omega arith)))
