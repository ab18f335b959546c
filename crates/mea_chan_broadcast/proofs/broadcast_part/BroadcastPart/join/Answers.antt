use Rattle.std.proofs.Common.{None, refl, arith}
use Rattle.mea_chan_broadcast.proofs.Events.{site, channel_there, same_tail, its_receivers, joined_kept, joined_rests}
use Rattle.mea_chan_broadcast.proofs.broadcast_part.BroadcastPart.join.Goals as goal

pub returns-in_default-clause-err : goal.returns-in_default-clause-err
returns-in_default-clause-err c = (refl, rw c.in_default.ensures.err c.self.view_is)

pub at_mut-requires : goal.at_mut-requires
at_mut-requires c = channel_there (site c.self.inside.channels c.self.inside.senders c.self.inside.receivers c.self.inside.futures c.self.inside.next c.self.view_is c.self.invariant c.requires.next) c.args.o c.requires.there.0 c.requires.there.1

pub overflow_add-at_mut : goal.overflow_add-at_mut
overflow_add-at_mut c = let few = its_receivers (site c.self.inside.channels c.self.inside.senders c.self.inside.receivers c.self.inside.futures c.self.inside.next c.self.view_is c.self.invariant c.requires.next) c.args.o c.at_mut.result.now c.at_mut.ensures.value in omega (arith, few)

pub invariant_of-self-2 : goal.invariant_of-self-2
invariant_of-self-2 c = rw c.in-Ok.ensures.ok (joined_kept (site c.self.inside.channels c.self.inside.senders c.self.inside.receivers c.self.inside.futures c.self.inside.next c.self.view_is c.self.invariant c.requires.next) c.args.o c.at_mut.result.now c.at_mut.ensures.value (record { channel = c.args.o; cursor = c.args.cursor; user = None }) refl refl c.ranges.number.fits (same_tail (site c.self.inside.channels c.self.inside.senders c.self.inside.receivers c.self.inside.futures c.self.inside.next c.self.view_is c.self.invariant c.requires.next) c.args.o c.at_mut.result.now c.requires.there.0 c.args.cursor.position c.at_mut.ensures.value c.requires.there.1 c.requires.there.2))

pub returns-clause-ok : goal.returns-clause-ok
returns-clause-ok c = λ d there. rw c.in-Ok.ensures.ok (joined_rests (site c.self.inside.channels c.self.inside.senders c.self.inside.receivers c.self.inside.futures c.self.inside.next c.self.view_is c.self.invariant c.requires.next) c.args.o c.at_mut.result.now c.at_mut.ensures.value (record { channel = c.args.o; cursor = c.args.cursor; user = None }) refl refl d there)
