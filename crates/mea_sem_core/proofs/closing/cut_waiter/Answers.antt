use Rattle.std.proofs.Common.{◌≡◌, sym, ◌∙◌}
use Rattle.mea_sem_core.proofs.Cuts.{linked_waits, waiting_within, has_waker}
use Rattle.mea_sem_core.proofs.Grants.{waiting_used}
use Rattle.mea_sem_core.proofs.closing.cut_waiter.Goals as goal

pub get-requires : goal.get-requires
get-requires g c = waiting_used _ (linked_waits c.args.waiters.now.slots c.args.number c.args.waiters.now.order c.requires.linked c.requires.kept.waiting)

pub paid-paid-requires : goal.paid-paid-requires
paid-paid-requires g c =
    let waits = linked_waits c.args.waiters.now.slots c.args.number c.args.waiters.now.order c.requires.linked c.requires.kept.waiting in
    waiting_within c.get-2.result.now (rw c.get-2.ensures at waits)

pub unreachable-requires : goal.unreachable-requires
unreachable-requires g c =
    let waits = linked_waits c.args.waiters.now.slots c.args.number c.args.waiters.now.order c.requires.linked c.requires.kept.waiting in
    let seen = c.get.ensures in
    let lent = rw c.unlink.ensures at c.get_mut.ensures.value in
    let same : c.get_mut.result.now ≡ c.get.result.now = cc in
    let none = rw same at c.in-None.ensures.waker in
    has_waker c.get.result.now (rw seen at waits) (sym c.is_debt.ensures ∙ c.if-is_debt.false) none
