use Rattle.std.proofs.Common.{inr, refl}
use Rattle.mea_base.proofs.Maps.{get-there, is_there}
use Rattle.mea_chan.proofs.MailboxEvents.{site, unmade, all_unmade, made}
use Rattle.mea_chan.proofs.mailbox_part.MailboxPart.make.Goals as goal

pub returns-in_default : goal.returns-in_default
returns-in_default g c = (inr (refl, refl, λ no. no), rw c.in_default.ensures.err c.self.view_is)

pub remove-requires : goal.remove-requires
remove-requires g c = rw c.in-Ok.ensures.ok (is_there _ _ (get-there c.self.inside.senders c.args.number _))

pub invariant_of-self-in_default-insert : goal.invariant_of-self-in_default-insert
invariant_of-self-in_default-insert g c = (rw c.remove.ensures.rest (unmade (site c.self.inside.channels c.self.inside.senders c.self.inside.receivers c.self.inside.next c.self.view_is c.self.invariant c.requires.next c.ranges.number.fits) c.args.polls _ c.in_default-insert.ensures.err _ c.in-Ok.ensures.ok).0)

pub returns-in_default-insert : goal.returns-in_default-insert
returns-in_default-insert g c = (inr (refl, refl, λ no. no), (rw c.remove.ensures.rest (unmade (site c.self.inside.channels c.self.inside.senders c.self.inside.receivers c.self.inside.next c.self.view_is c.self.invariant c.requires.next c.ranges.number.fits) c.args.polls _ c.in_default-insert.ensures.err _ c.in-Ok.ensures.ok).1))

pub remove-requires-in_default-insert-2 : goal.remove-requires-in_default-insert-2
remove-requires-in_default-insert-2 g c = rw c.in-Ok.ensures.ok (is_there _ _ (get-there c.self.inside.senders c.args.number _))

pub remove-requires-in_default-insert-2-2 : goal.remove-requires-in_default-insert-2-2
remove-requires-in_default-insert-2-2 g c = rw c.in-Ok-insert.ensures.ok (is_there _ _ (get-there c.self.inside.receivers c.args.number _))

pub invariant_of-self-in_default-insert-2 : goal.invariant_of-self-in_default-insert-2
invariant_of-self-in_default-insert-2 g c = (rw (c.remove-in_default-insert-2.ensures.rest, c.remove-in_default-insert-2-2.ensures.rest) (all_unmade (site c.self.inside.channels c.self.inside.senders c.self.inside.receivers c.self.inside.next c.self.view_is c.self.invariant c.requires.next c.ranges.number.fits) c.args.polls _ c.in_default-insert-2.ensures.err _ c.in-Ok-insert.ensures.ok _ c.in-Ok.ensures.ok).0)

pub returns-in_default-insert-2 : goal.returns-in_default-insert-2
returns-in_default-insert-2 g c = (inr (refl, refl, λ no. no), (rw (c.remove-in_default-insert-2.ensures.rest, c.remove-in_default-insert-2-2.ensures.rest) (all_unmade (site c.self.inside.channels c.self.inside.senders c.self.inside.receivers c.self.inside.next c.self.view_is c.self.invariant c.requires.next c.ranges.number.fits) c.args.polls _ c.in_default-insert-2.ensures.err _ c.in-Ok-insert.ensures.ok _ c.in-Ok.ensures.ok).1))

pub invariant_of-self-2 : goal.invariant_of-self-2
invariant_of-self-2 g c = (rw (c.in-Ok-insert-2.ensures.ok, c.in-Ok-insert.ensures.ok, c.in-Ok.ensures.ok, c.new-entry.ensures, c.make.ensures) (made (site c.self.inside.channels c.self.inside.senders c.self.inside.receivers c.self.inside.next c.self.view_is c.self.invariant c.requires.next c.ranges.number.fits) c.args.polls).0)

pub returns : goal.returns
returns g c = (refl, (rw (c.in-Ok-insert-2.ensures.ok, c.in-Ok-insert.ensures.ok, c.in-Ok.ensures.ok, c.new-entry.ensures, c.make.ensures) (made (site c.self.inside.channels c.self.inside.senders c.self.inside.receivers c.self.inside.next c.self.view_is c.self.invariant c.requires.next c.ranges.number.fits) c.args.polls).1))
