use Rattle.std.proofs.Common.{Ok, refl}
use Rattle.mea_chan_core.proofs.Sends.{stays_there, stays_out}
use Rattle.mea_chan_core.proofs.bounded.BoundedCore.stay.Goals as goal

pub returns-then-is_in_queue-clause-stays : goal.returns-then-is_in_queue-clause-stays
returns-then-is_in_queue-clause-stays g c = stays_there c.args.self.now c.replace_waker.new.self c.args.acquire.now c.replace_waker.new.acquire c.args.waker (Ok tt) (c.is_in_queue.ensures.waits c.if-is_in_queue.true) refl c.replace_waker.ensures.is c.replace_waker.ensures.same

pub returns-clause-stays : goal.returns-clause-stays
returns-clause-stays g c = stays_out c.args.self.now c.queue_anew.new.self c.args.acquire.now c.queue_anew.new.acquire c.args.waker c.queue_anew.result (c.is_in_queue.ensures.out c.if-is_in_queue.false) c.queue_anew.ensures.queues
