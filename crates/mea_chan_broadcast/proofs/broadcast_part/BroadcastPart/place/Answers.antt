use Rattle.std.proofs.Common.{None, refl, inr}
use Rattle.mea_base.proofs.Maps.{get-there, is_there}
use Rattle.mea_chan_broadcast.proofs.Events.{site, makes_allowed, unmade, all_unmade, made}
use Rattle.mea_chan_broadcast.proofs.broadcast_part.BroadcastPart.place.Goals as goal

pub returns-in_default : goal.returns-in_default
returns-in_default c = (inr ((makes_allowed c.args.self.now.hall c.args.capacity c.requires.some c.requires.few), refl, λ no. no), rw c.in_default.ensures.err c.self.view_is)

pub remove-requires : goal.remove-requires
remove-requires c = rw c.in-Ok.ensures.ok (is_there _ _ (get-there c.self.inside.senders c.args.number _))

pub invariant_of-self-in_default-insert : goal.invariant_of-self-in_default-insert
invariant_of-self-in_default-insert c = rw c.remove.ensures.rest (unmade (site c.self.inside.channels c.self.inside.senders c.self.inside.receivers c.self.inside.futures c.self.inside.next c.self.view_is c.self.invariant c.requires.next) (record { channel = c.args.number; cursor = c.subscribe.result; user = None }) _ c.in_default-insert.ensures.err _ c.in-Ok.ensures.ok).0

pub returns-in_default-insert : goal.returns-in_default-insert
returns-in_default-insert c = (inr ((makes_allowed c.args.self.now.hall c.args.capacity c.requires.some c.requires.few), refl, λ no. no), rw c.remove.ensures.rest (unmade (site c.self.inside.channels c.self.inside.senders c.self.inside.receivers c.self.inside.futures c.self.inside.next c.self.view_is c.self.invariant c.requires.next) (record { channel = c.args.number; cursor = c.subscribe.result; user = None }) _ c.in_default-insert.ensures.err _ c.in-Ok.ensures.ok).1)

pub remove-requires-in_default-insert-2 : goal.remove-requires-in_default-insert-2
remove-requires-in_default-insert-2 c = rw c.in-Ok.ensures.ok (is_there _ _ (get-there c.self.inside.senders c.args.number _))

pub remove-requires-in_default-insert-2-2 : goal.remove-requires-in_default-insert-2-2
remove-requires-in_default-insert-2-2 c = rw c.in-Ok-insert.ensures.ok (is_there _ _ (get-there c.self.inside.receivers c.args.number _))

pub invariant_of-self-in_default-insert-2 : goal.invariant_of-self-in_default-insert-2
invariant_of-self-in_default-insert-2 c = rw (c.remove-in_default-insert-2.ensures.rest, c.remove-in_default-insert-2-2.ensures.rest) (all_unmade (site c.self.inside.channels c.self.inside.senders c.self.inside.receivers c.self.inside.futures c.self.inside.next c.self.view_is c.self.invariant c.requires.next) (record { channel = c.args.number; cursor = c.subscribe.result; user = None }) _ c.in_default-insert-2.ensures.err _ c.in-Ok-insert.ensures.ok _ c.in-Ok.ensures.ok).0

pub returns-in_default-insert-2 : goal.returns-in_default-insert-2
returns-in_default-insert-2 c = (inr ((makes_allowed c.args.self.now.hall c.args.capacity c.requires.some c.requires.few), refl, λ no. no), rw (c.remove-in_default-insert-2.ensures.rest, c.remove-in_default-insert-2-2.ensures.rest) (all_unmade (site c.self.inside.channels c.self.inside.senders c.self.inside.receivers c.self.inside.futures c.self.inside.next c.self.view_is c.self.invariant c.requires.next) (record { channel = c.args.number; cursor = c.subscribe.result; user = None }) _ c.in_default-insert-2.ensures.err _ c.in-Ok-insert.ensures.ok _ c.in-Ok.ensures.ok).1)

pub invariant_of-self-2 : goal.invariant_of-self-2
invariant_of-self-2 c = rw (c.in-Ok-insert-2.ensures.ok, c.in-Ok-insert.ensures.ok, c.in-Ok.ensures.ok) (made (site c.self.inside.channels c.self.inside.senders c.self.inside.receivers c.self.inside.futures c.self.inside.next c.self.view_is c.self.invariant c.requires.next) c.args.capacity c.args.core c.requires.new.0 c.requires.new.1 c.requires.some c.requires.few (record { channel = c.args.number; cursor = c.subscribe.result; user = None }) c.subscribe.ensures refl refl c.ranges.number.fits).0

pub returns : goal.returns
returns c = ((makes_allowed c.args.self.now.hall c.args.capacity c.requires.some c.requires.few), rw (c.in-Ok-insert-2.ensures.ok, c.in-Ok-insert.ensures.ok, c.in-Ok.ensures.ok) (made (site c.self.inside.channels c.self.inside.senders c.self.inside.receivers c.self.inside.futures c.self.inside.next c.self.view_is c.self.invariant c.requires.next) c.args.capacity c.args.core c.requires.new.0 c.requires.new.1 c.requires.some c.requires.few (record { channel = c.args.number; cursor = c.subscribe.result; user = None }) c.subscribe.ensures refl refl c.ranges.number.fits).1)
