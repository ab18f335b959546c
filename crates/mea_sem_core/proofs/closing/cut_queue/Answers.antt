use Rattle.std.proofs.Common.{arith}
use Rattle.mea_sem_core.proofs.Cuts.{Cutting-turn, Cutting-end}
use Rattle.mea_sem_core.proofs.closing.cut_queue.Goals as goal

pub overflow_add-paid : goal.overflow_add-paid
overflow_add-paid g c =
    let so = rw c.in-Some.is at c.loop-next.invariant in
    let turn = Cutting-turn c.args.waiters.now c.loop-next.waiters c.cut_waiter-paid.new.waiters c.args.outbox.now c.loop-next.outbox c.cut_waiter-paid.new.outbox c.loop-next.paid c.cut_waiter-paid.result c.in-Some.number c.next-next.result so c.next-next.ensures.some c.next-next.ensures.last c.cut_waiter-paid.ensures in
    omega (arith, turn.cutting.paid_left, c.requires.fits)

pub loop-next-smaller : goal.loop-next-smaller
loop-next-smaller g c =
    let so = rw c.in-Some.is at c.loop-next.invariant in
    let turn = Cutting-turn c.args.waiters.now c.loop-next.waiters c.cut_waiter-paid.new.waiters c.args.outbox.now c.loop-next.outbox c.cut_waiter-paid.new.outbox c.loop-next.paid c.cut_waiter-paid.result c.in-Some.number c.next-next.result so c.next-next.ensures.some c.next-next.ensures.last c.cut_waiter-paid.ensures in
    rw c.in-Some.is turn.less

pub loop-next-preserved : goal.loop-next-preserved
loop-next-preserved g c =
    let so = rw c.in-Some.is at c.loop-next.invariant in
    let turn = Cutting-turn c.args.waiters.now c.loop-next.waiters c.cut_waiter-paid.new.waiters c.args.outbox.now c.loop-next.outbox c.cut_waiter-paid.new.outbox c.loop-next.paid c.cut_waiter-paid.result c.in-Some.number c.next-next.result so c.next-next.ensures.some c.next-next.ensures.last c.cut_waiter-paid.ensures in
    turn.cutting

pub returns : goal.returns
returns g c = Cutting-end c.args.waiters.now c.loop-next.waiters c.args.outbox.now c.loop-next.outbox c.loop-next.paid (rw c.in_default.is at c.loop-next.invariant)
