use Rattle.std.proofs.Common.{rules}
use Rattle.mea_once_core.proofs.Slots.{polled-slot}
use Rattle.mea_once_core.proofs.entries.poll_init.Goals as goal

pub returns-clause-polls : goal.returns-clause-polls
returns-clause-polls g c =
    polled-slot g.I.Init.answers c.args.entries.now.slots c.args.number c.index_mut.result.now c.args.call.now c.poll_init.new.call c.args.waker c.poll_init.result c.poll_init.new.self (search rules) c.poll_init.ensures.polls c.poll_init.ensures.few c.poll_init.ensures.err c.poll_init.ensures.no_memory c.poll_init.ensures.fills
