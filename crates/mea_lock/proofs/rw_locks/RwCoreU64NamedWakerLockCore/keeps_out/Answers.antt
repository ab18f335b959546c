use Rattle.std.proofs.Common.{◌&&◌, ◌||◌, true, false, nat_lt, ap, sym, ◌∙◌}
use Rattle.mea_lock.proofs.KindCalls.{rw_keeps_out}
use Rattle.mea_lock.proofs.rw_locks.RwCoreU64NamedWakerLockCore.keeps_out.Goals as goal

pub returns-then-writing : goal.returns-then-writing
returns-then-writing c = c.if-writing.true ∙ ap (λ b. b || (c.args.write && nat_lt 0 c.readers-readers.result)) (sym c.if-writing.true) ∙ rw_keeps_out c.args.self.now c.args.write c.is_writing-writing.result c.readers-readers.result c.readers-readers.ensures.sound c.is_writing-writing.ensures.is c.readers-readers.ensures.is

pub returns-then-write : goal.returns-then-write
returns-then-write c = ap (λ b. b || (true && nat_lt 0 c.readers-readers.result)) (sym c.if-writing.false) ∙ ap (λ w. c.is_writing-writing.result || (w && nat_lt 0 c.readers-readers.result)) (sym c.if-write.true) ∙ rw_keeps_out c.args.self.now c.args.write c.is_writing-writing.result c.readers-readers.result c.readers-readers.ensures.sound c.is_writing-writing.ensures.is c.readers-readers.ensures.is

pub returns-else-write : goal.returns-else-write
returns-else-write c = c.if-write.false ∙ ap (λ b. b || (false && nat_lt 0 c.readers-readers.result)) (sym c.if-writing.false) ∙ ap (λ w. c.is_writing-writing.result || (w && nat_lt 0 c.readers-readers.result)) (sym c.if-write.false) ∙ rw_keeps_out c.args.self.now c.args.write c.is_writing-writing.result c.readers-readers.result c.readers-readers.ensures.sound c.is_writing-writing.ensures.is c.readers-readers.ensures.is
