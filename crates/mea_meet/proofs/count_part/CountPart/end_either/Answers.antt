use Rattle.std.proofs.Common.{sym, ◌∙◌}
use Rattle.mea_family.specs.declared.answer.Answer.TheVariants.{Done}
use Rattle.mea_meet.proofs.CountCalls.{either_holder, either_wait, free_of_all}
use Rattle.mea_meet.proofs.count_part.CountPart.end_either.Goals as goal

pub leave-requires-clause-free : goal.leave-requires-clause-free
leave-requires-clause-free g c = free_of_all c.args.self.now.hall c.requires.free c.args.x

pub returns-then-leave : goal.returns-then-leave
returns-then-leave g c = either_holder c.args.self.now c.args.number c.args.x (sym c.leave.ensures.there ∙ c.if-leave.true) Done c.leave.new.self c.args.ready.now c.leave.new.ready (c.leave.ensures.left c.if-leave.true)

pub end_wait-requires-clause-next : goal.end_wait-requires-clause-next
end_wait-requires-clause-next g c = rw (c.leave.ensures.same c.if-leave.false).0 c.requires.next

pub end_wait-requires-clause-room : goal.end_wait-requires-clause-room
end_wait-requires-clause-room g c = rw ((c.leave.ensures.same c.if-leave.false).0, (c.leave.ensures.same c.if-leave.false).1) c.requires.room

pub returns : goal.returns
returns g c = either_wait c.args.self.now c.args.number c.args.x (sym c.leave.ensures.there ∙ c.if-leave.false) c.end_wait.result c.end_wait.new.self c.args.ready.now c.end_wait.new.ready (rw ((c.leave.ensures.same c.if-leave.false).0, (c.leave.ensures.same c.if-leave.false).1) at c.end_wait.ensures)
