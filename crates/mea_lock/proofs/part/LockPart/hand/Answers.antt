use Rattle.mea_base.proofs.Maps.{is_there}
use Rattle.mea_lock.proofs.PartEvents.{site, guard_is, guarded_lock, handed}
use Rattle.mea_lock.proofs.part.LockPart.hand.Goals as goal

pub at-entry-requires : goal.at-entry-requires
at-entry-requires g c = guarded_lock (site c.self.inside.locks c.self.inside.futures c.self.inside.guards.things c.self.inside.next c.self.view_is c.self.invariant c.requires.next c.ranges.number.fits) c.args.g c.args.guard (guard_is (site c.self.inside.locks c.self.inside.futures c.self.inside.guards.things c.self.inside.next c.self.view_is c.self.invariant c.requires.next c.ranges.number.fits) c.args.g c.args.guard c.requires.there)

pub remove-requires : goal.remove-requires
remove-requires g c = is_there _ c.args.guard (guard_is (site c.self.inside.locks c.self.inside.futures c.self.inside.guards.things c.self.inside.next c.self.view_is c.self.invariant c.requires.next c.ranges.number.fits) c.args.g c.args.guard c.requires.there)

pub invariant_of-self-2 : goal.invariant_of-self-2
invariant_of-self-2 g c = rw (c.in-Ok.ensures.ok, c.remove.ensures.things) (handed (site c.self.inside.locks c.self.inside.futures c.self.inside.guards.things c.self.inside.next c.self.view_is c.self.invariant c.requires.next c.ranges.number.fits) c.args.g c.args.guard c.at-entry.result.now (guard_is (site c.self.inside.locks c.self.inside.futures c.self.inside.guards.things c.self.inside.next c.self.view_is c.self.invariant c.requires.next c.ranges.number.fits) c.args.g c.args.guard c.requires.there) c.at-entry.ensures c.requires.writes c.holder.result c.holder.ensures.future c.holder.ensures.wait).0

pub returns-clause-ok : goal.returns-clause-ok
returns-clause-ok g c = rw (c.in-Ok.ensures.ok, c.remove.ensures.things) (handed (site c.self.inside.locks c.self.inside.futures c.self.inside.guards.things c.self.inside.next c.self.view_is c.self.invariant c.requires.next c.ranges.number.fits) c.args.g c.args.guard c.at-entry.result.now (guard_is (site c.self.inside.locks c.self.inside.futures c.self.inside.guards.things c.self.inside.next c.self.view_is c.self.invariant c.requires.next c.ranges.number.fits) c.args.g c.args.guard c.requires.there) c.at-entry.ensures c.requires.writes c.holder.result c.holder.ensures.future c.holder.ensures.wait).1
