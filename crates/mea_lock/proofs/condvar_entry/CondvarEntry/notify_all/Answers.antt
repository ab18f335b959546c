use Rattle.std.proofs.Common.{[], ◌++◌, ap, arith}
use Rattle.mea_lock_core.specs.Condvar.{Condvar}
use Rattle.mea_by_name.specs.declared.named_waker.NamedWaker.{NamedWaker}
use Rattle.mea_lock.proofs.Notifying.{all_woken}
use Rattle.mea_lock.proofs.condvar_entry.CondvarEntry.notify_all.Goals as goal

pub loop-next-init : goal.loop-next-init
loop-next-init c =
    let woken = all_woken c.self.inside.core c.notify_all.new.self c.notify_all.ensures.is (rw (← c.self.view_is) at c.requires.quiet) in
    rw (← c.self.view_is) (record {
      rest = ap (λ (s : Condvar NamedWaker). record { condvar = record s { wakes = [] }; waits = c.self.inside.waits }) c.notify_all.ensures.is;
      moved = ap (λ ws. c.args.ready.now.wakers ++ ws) woken.0;
      counted = omega (arith, woken.1);
      room = rw (← c.self.view_is) at c.requires.room;
    })
